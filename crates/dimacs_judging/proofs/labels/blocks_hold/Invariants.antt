use Rattle.std.proofs.Common.{take}
use Rattle.dimacs_judging.specs.{CertificateTests.{label_rows}, Tests.{AllClear}}
use Rattle.dimacs_judging.proofs.labels.blocks_hold.Given as goal

-- all tests of the blocks so far pass
abbrev pub invariant-loop-block : goal.invariant-loop-block
invariant-loop-block g l = AllClear (label_rows (g.N.Network.list l.network) (take l.block l.labels.blocks))
