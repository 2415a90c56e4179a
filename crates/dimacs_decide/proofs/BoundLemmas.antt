-- Whether a flow keeps the bounds of all arcs.
use Rattle.std.proofs.Common.{◌≡◌, ◌≢◌, ◌↔◌, IsTrue, true, false, List, length, ℤ, refl, arith}
use Rattle.std.proofs.{lemmas.Bool.{false≢true}, lemmas.Slice.Zip.{AllZip-long}}
use Rattle.dimacs_network.specs.declared.network.ArcView.{ArcView}
use Rattle.dimacs_records.specs.declared.reasons.Reason.{Reason}
use Rattle.dimacs_judging.specs.{declared.verdict.Where.{Where}, FlowTests.{bound_row}, Tests.{Clear, FirstOfRow}}
use Rattle.dimacs_judging.proofs.Passing.{bounds_clear, bounds_hold}
use Rattle.dimacs_decide.specs.Bounds.{KeepsBounds}

no : {P : Type 0} → (¬ P) → IsTrue false ↔ P
no not = (λ yes. absurd (false≢true yes), λ p. absurd (not p))

pub all_kept : (arcs : List ArcView) (x : List ℤ) → length x ≡ length arcs → Clear (bound_row arcs x) → IsTrue true ↔ KeepsBounds arcs x
all_kept arcs x long clear = (λ yes. bounds_hold arcs x long clear, λ keeps. refl)

pub one_not : (arcs : List ArcView) (x : List ℤ) (place : Where) (reason : Reason) → FirstOfRow (bound_row arcs x) place reason → IsTrue false ↔ KeepsBounds arcs x
one_not arcs x place reason first = no (λ keeps. bounds_clear arcs x keeps first.number place reason first.fails)

pub other_length : (arcs : List ArcView) (x : List ℤ) → length x ≢ length arcs → IsTrue false ↔ KeepsBounds arcs x
other_length arcs x apart = no (λ keeps. apart (omega (arith, AllZip-long _ arcs x keeps)))
