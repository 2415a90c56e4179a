use Rattle.std.proofs.{Common.{◌≡◌, Result, rules, subst}, lemmas.Int.{to_z-of_z}}
use Rattle.std.specs.Int.{w128}
use Rattle.dimacs_lines.specs.Lines.{lines}
use Rattle.dimacs_records.specs.{declared.faults.ReadError.{ReadError}, declared.kinds.TextKind.TheVariants.{Solution}}
use Rattle.dimacs_records.specs.{Faults.{Fault}, Texts.{Reads}}
use Rattle.dimacs_claims.specs.{SolutionReading.{IsPlaced}, SolutionTexts.{SolutionValue, SpellsSolution}}
use Rattle.dimacs_claims.proofs.SolutionLemmas.{error_kept, kept_lawful, kept_solution}
use Rattle.dimacs_claims.proofs.solution.read_solution.Goals as goal

pub returns-clause-reads : goal.returns-clause-reads
returns-clause-reads g c = λ text coming.
    let read = c.in_ok-placed.ensures.reads text coming in
    let same = kept_solution (λ w. w.value) (λ w. w.value_line) (λ w. w.place.items) read.answer _ read.alike in
    rw (to_z-of_z w128 c.in_ok-placed.placed.value (search rules)) (subst (λ (noted : Result SolutionValue ReadError). Reads (SpellsSolution text) (Fault Solution (lines text)) noted) same read.reads)

pub returns-clause-lawful : goal.returns-clause-lawful
returns-clause-lawful g c =
    let placed = c.in_ok-placed.placed in
    rw (to_z-of_z w128 placed.value (search rules)) (kept_lawful placed.value placed.value_line placed.place.items c.in_ok-placed.ensures.lawful)

pub returns-in_err-placed-clause-reads : goal.returns-in_err-placed-clause-reads
returns-in_err-placed-clause-reads g c = λ text coming.
    let read = c.in_err-placed.ensures.reads text coming in
    let same = error_kept (λ s w. IsPlaced w.value w.value_line (λ kept. w.place.items ≡ kept) s) read.answer c.in_err-placed.field-0.0 c.from_residual.result read.alike c.from_residual.ensures.1 in
    subst (λ (noted : Result SolutionValue ReadError). Reads (SpellsSolution text) (Fault Solution (lines text)) noted) same read.reads
