use Rattle.std.proofs.{Common.{◌≡◌, Decides, ap, rules}, lemmas.Bool.Decides.{Decides-eqb}}
use Rattle.std.proofs.lemmas.List.Elements.{Decides-contains, contains_decides}
use denote.Enum.{Bare.{same_true, sameb}, Declared.{tag_of}}
use Rattle.dimacs_records.specs.{contracts.kinds.TextKind.{the_type}, declared.kinds.TextKind.{TextKind}}
use Rattle.dimacs_quote.proofs.texts.is_one_of.Goals as goal

same : (a b : TextKind) → Decides (sameb the_type a b) (a ≡ b)
same a b = (same_true the_type (search rules) a b, λ e. (Decides-eqb _ _).1 (ap (tag_of the_type) e))

pub returns : goal.returns
returns c = Decides-contains _ _ _ (contains_decides (sameb the_type) same _ _ _ c.contains.ensures.cases)
