use Rattle.std.proofs.Common.{◌≡◌, ◌∙◌, true, false, get_or, is_some, not, sym, ap}
use Rattle.dimacs_judging.proofs.BlockNumbers.{full_tells, no_full_block}
use Rattle.dimacs_judging.proofs.queries.has_full_block.Goals as goal

pub returns-in-Some : goal.returns-in-Some
returns-in-Some c =
    let blocks = c.args.labels.now.blocks in
    let b = c.index-blocks-number.result in
    let at : b ≡ get_or blocks c.in-Some.number b = rw c.blocks-in-Some.ensures.blocks at c.index-blocks-number.is in
    let some : is_some b.radius ≡ not c.is_none.result = ap is_some (sym c.radius.ensures) ∙ c.is_none.ensures in
    full_tells blocks c.args.source c.in-Some.number b c.is_none.result (sym (c.requires c.args.source) ∙ (sym c.get.ensures ∙ c.in-Some.is)) at some

pub returns-in-None : goal.returns-in-None
returns-in-None c = (
  λ t. absurd (let f : false ≡ true = t in cc),
  λ full. absurd (no_full_block c.args.labels.now.blocks c.args.source (sym (c.requires c.args.source) ∙ (sym c.get.ensures ∙ c.in-None.is)) full),
)
