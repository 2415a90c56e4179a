-- Solutions with an entry for every arc.
use Rattle.std.specs.Prelude.{ℕ, ◌≡◌, ◌+◌, ◌<◌, List, length, ℤ}
use Rattle.dimacs_claims.specs.{declared.place.Entry.{Entry}, SolutionTexts.{SolutionValue}}
use Rattle.dimacs_network.specs.{declared.network.ArcView.{ArcView}, Arcs.{arc_at}}
use Rattle.dimacs_instance.specs.{MaxFlows.{MaxValue}, MinFlows.{MinValue}}
use Rattle.dimacs_judging.specs.{Claims.{entry_at}, MaxJudge.{IsMaxClaim}, MinJudge.{IsMinClaim}}

-- this is the arc's entry, on this line
pub record IsEntryOf (a : ArcView) (on_line : ℕ) (e : Entry) : Type 0 where
  pub tail_is : e.tail ≡ a.tail
  pub head_is : e.head ≡ a.head
  pub line_is : e.line ≡ on_line

-- an entry for every arc, in order, on successive lines from line 2 on
pub record AreEntriesOf (arcs : List ArcView) (entries : List Entry) : Type 0 where
  pub one_each : length entries ≡ length arcs
  pub in_order : (k : ℕ) → k < length arcs → IsEntryOf (arc_at arcs k) (k + 2) (entry_at entries k)

-- the value on line 1, then an entry for every arc
pub record IsSolutionOf (arcs : List ArcView) (s : SolutionValue) : Type 0 where
  pub value_first : s.value_line ≡ 1
  pub all_arcs : AreEntriesOf arcs s.entries

-- an entry for every arc, and the claim is the flow with its value
abbrev pub IsMaxSolutionOf : MaxValue → List ℤ → SolutionValue → Type 0
IsMaxSolutionOf i x s = IsSolutionOf i.arcs s × IsMaxClaim i s x

-- an entry for every arc, and the claim is the flow with its cost
abbrev pub IsMinSolutionOf : MinValue → List ℤ → SolutionValue → Type 0
IsMinSolutionOf i x s = IsSolutionOf i.arcs s × IsMinClaim i s x
