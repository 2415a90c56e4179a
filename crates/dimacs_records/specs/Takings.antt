-- Readings that keep less than the records that they took.
use Rattle.std.specs.Prelude.{◌≡◌, List, [], Option, None, Some}
use Rattle.dimacs_records.specs.declared.records.Record.{Record}

-- the records may have been taken: none before the problem line, then those that the state stands for
abbrev pub StandsFor : {B : Type 0} → (B → List Record → Type 0) → Option B → List Record → Type 0
StandsFor built_from None rs = rs ≡ []
StandsFor built_from (Some begun) rs = built_from begun rs
