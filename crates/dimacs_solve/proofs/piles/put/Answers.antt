use Rattle.std.proofs.{lemmas.List.{map_push}, lemmas.List.Sorted.{IsPermutation-sym, IsPermutation-to_front}}
use Rattle.dimacs_solve.proofs.piles.put.Goals as goal

pub returns-then-lt-clause-put : goal.returns-then-lt-clause-put
returns-then-lt-clause-put g c = rw (c.in_ok-push.ensures.items, map_push) (IsPermutation-sym _ _ (IsPermutation-to_front _ _))

pub returns-else-lt-clause-put : goal.returns-else-lt-clause-put
returns-else-lt-clause-put g c = rw (c.in_ok-push.ensures.items, map_push) (IsPermutation-sym _ _ (IsPermutation-to_front _ _))
