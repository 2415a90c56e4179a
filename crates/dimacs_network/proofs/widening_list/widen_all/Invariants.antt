use Rattle.std.proofs.Common.{◌≡◌, map, take}
use Rattle.dimacs_network.proofs.widening_list.widen_all.Given as goal

-- the items so far
abbrev pub invariant-loop-item : goal.invariant-loop-item
invariant-loop-item g l = g.L.Items.list l.long ≡ map g.S.ShortForm.widened (take l.item-index l.short)
