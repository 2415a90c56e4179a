-- Inside: the tests of a block's numbers.
use Rattle.std.specs.Prelude.{◌≡◌, List, All, Result, Ok, Err}
use Rattle.dimacs_records.specs.declared.reasons.Reason.TheVariants.{NumberRange}
use Rattle.dimacs_claims.specs.{declared.label_list.Label.{Label}, Labels.{BlockValue, IsItem}}
use Rattle.dimacs_fill.specs.{declared.error.FillError.{FillError}, declared.error.FillError.TheVariants.{Unread, Node}}
use Rattle.dimacs_fill.specs.BlockFilled.{HasItems, IsFirstPast, IsPast}

-- all can be items, or the node that is refused
abbrev pub TestsItems : BlockValue → Result Unit FillError → Type 0
TestsItems b (Ok done) = HasItems b
TestsItems b (Err (Node id reason)) = (reason ≡ NumberRange) × IsPast b id
TestsItems b (Err (Unread error)) = ⊥

abbrev pub TestsLabels : List Label → Result Unit FillError → Type 0
TestsLabels labels (Ok done) = All (λ (l : Label). IsItem l.dist) labels
TestsLabels labels (Err (Node id reason)) = (reason ≡ NumberRange) × IsFirstPast labels id
TestsLabels labels (Err (Unread error)) = ⊥
