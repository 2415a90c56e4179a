use Rattle.std.proofs.{Common.{arith}, lemmas.Slice.Zip.{AllZip-long}}
use Rattle.dimacs_solve.proofs.improve.raise.Goals as goal

pub is_better-requires : goal.is_better-requires
is_better-requires g c = omega (arith, AllZip-long _ _ _ c.requires.within)
