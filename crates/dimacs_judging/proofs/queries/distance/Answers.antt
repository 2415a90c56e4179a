use Rattle.std.proofs.Common.{sym, ◌∙◌}
use Rattle.dimacs_judging.proofs.BlockNumbers.{distance_none, distance_some}
use Rattle.dimacs_judging.proofs.queries.distance.Goals as goal

pub returns-in_err-number : goal.returns-in_err-number
returns-in_err-number c =
    c.from_residual.ensures ∙ distance_none _ c.args.from c.args.to (sym (c.requires c.args.from) ∙ sym c.get.ensures ∙ c.in_err-number.was)

pub returns : goal.returns
returns c =
    c.label.ensures.label ∙ distance_some _ c.args.from c.args.to c.in_ok-number.number (sym (c.requires c.args.from) ∙ sym c.get.ensures ∙ c.in_ok-number.was)
