use Rattle.std.proofs.Common.{◌≡◌, ◌∙◌, subst, sym}
use Rattle.dimacs_quote.specs.{Typed.{GrowsByTyped}, declared.sentence.Value.TheVariants.{Typed}}
use Rattle.dimacs_quote.specs.{declared.sentence.Value.{Value}, declared.texts.TextFile.{TextFile}}
use Rattle.dimacs_quote.proofs.prose.Prose.write_value.Goals as goal

pub returns-in-Typed : goal.returns-in-Typed
returns-in-Typed c = λ text is.
    let both : Typed c.in-Typed.text ≡ Typed text = sym c.in-Typed.is ∙ is in
    let same : c.in-Typed.text ≡ text = cc in
    subst (λ it. GrowsByTyped it c.args.self.now c.write_typed.new.self) same c.write_typed.ensures
