use Rattle.std.specs.String.{string_bytes}
use Rattle.std.proofs.Common.{arith}
use Rattle.dimacs_usage.proofs.SlipLemmas.{none_wrong_more, none_wrong_past}
use Rattle.dimacs_usage.proofs.slips.first_wrong.Goals as goal

pub loop-place-preserved : goal.loop-place-preserved
loop-place-preserved c =
    none_wrong_more string_bytes c.args.kept.now c.args.names.now c.args.numbers.now c.loop-place.place c.index-names-place.result c.loop-place-test.true c.index-names-place.is c.loop-place.invariant
    (rw (← c.number_at.ensures, ← c.front-written.ensures, ← c.as_str-name.ensures.value) c.in_default.ensures.not_wrong)

pub returns-clause-none_wrong : goal.returns-clause-none_wrong
returns-clause-none_wrong c = none_wrong_past string_bytes c.args.kept.now c.args.names.now c.args.numbers.now c.loop-place.place (omega arith) c.loop-place.invariant
