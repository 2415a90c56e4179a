use Rattle.std.proofs.Common.{All, Contains, take}
use Rattle.dimacs_quote.proofs.texts.Texts.first_of.Given as goal

abbrev pub invariant-loop-place : goal.invariant-loop-place
invariant-loop-place l = All (λ kind. ¬ Contains l.kinds kind) (take l.place l.self.kinds.now)
