use Rattle.std.proofs.{Common.{◌∙◌, Contains, arith, sym, true≢false}, lemmas.List.Elements.{All-more}}
use Rattle.dimacs_quote.proofs.texts.Texts.first_of.Goals as goal

pub loop-place-preserved : goal.loop-place-preserved
loop-place-preserved c =
    All-more (λ kind. ¬ Contains c.args.kinds.now kind) c.args.self.now.kinds.now c.loop-place.place _ (omega arith) c.loop-place.invariant
    (λ among. true≢false (sym (c.is_one_of.ensures.1 among) ∙ c.if-is_one_of.false))
