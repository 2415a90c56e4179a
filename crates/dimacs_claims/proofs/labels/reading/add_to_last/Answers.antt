use Rattle.std.proofs.{Common.{◌≡◌, length, arith}, lemmas.Result.{on_ok_weaker}}
use Rattle.dimacs_claims.proofs.BuilderLemmas.{added_last}
use Rattle.dimacs_claims.proofs.labels.reading.add_to_last.Goals as goal

pub returns-clause-added : goal.returns-clause-added
returns-clause-added c =
    let len : c.len-last.result ≡ length c.args.blocks.now.items = omega (arith, c.len-last.ensures) in
    on_ok_weaker c.add.result (λ new. added_last c.args.blocks.now.items c.add.new.self c.index_mut.result.now c.len-last.result c.args.label len c.index_mut.ensures.value new) c.add.ensures.added
