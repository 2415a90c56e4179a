use Rattle.std.proofs.Common.{◌≡◌, ◌∙◌, get_or, sym}
use Rattle.dimacs_judging.proofs.BlockNumbers.{radius_none, radius_some}
use Rattle.dimacs_judging.proofs.queries.radius.Goals as goal

pub returns-in_err-number : goal.returns-in_err-number
returns-in_err-number c =
    c.from_residual.ensures ∙ radius_none c.args.labels.now.blocks c.args.from (sym (c.requires c.args.from) ∙ (sym c.get.ensures ∙ c.in_err-number.was))

pub returns : goal.returns
returns c =
    let blocks = c.args.labels.now.blocks in
    let b = c.index-blocks-number.result in
    let at : b ≡ get_or blocks c.in_ok-number.number b = rw c.blocks-2.ensures.blocks at c.index-blocks-number.is in
    c.radius.ensures ∙ radius_some blocks c.args.from c.in_ok-number.number b (sym (c.requires c.args.from) ∙ (sym c.get.ensures ∙ c.in_ok-number.was)) at
