use Rattle.std.proofs.{Common.{All, get_or, subst, sym, ◌∙◌}, lemmas.List.Elements.{All-map}}
use Rattle.dimacs_claims.specs.{declared.label_list.Label.{Label}, declared.label_list.Label32.{Label32}}
use Rattle.dimacs_claims.specs.{LabelLists.{label_of_32}, ShortDistances.{IsShort}}
use Rattle.dimacs_claims.proofs.label_list.LabelList.is_short.Goals as goal

pub returns : goal.returns
returns c short_form =
    let short = c.is_short.ensures short_form in
    subst (All (λ (l : Label). IsShort l.dist)) (sym (sym c.self.view_is ∙ short.1)) (All-map (λ (l : Label). IsShort l.dist) label_of_32 short.0 (λ k (d : Label32) inside. (get_or short.0 k d).short))
