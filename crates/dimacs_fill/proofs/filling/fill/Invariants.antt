use Rattle.std.proofs.Common.{◌≡◌, ◌++◌, List, take, drop}
use Rattle.dimacs_fill.specs.inside.Filling.{AreItems}
use Rattle.dimacs_fill.proofs.filling.fill.Given as goal

-- the items so far are at the front
abbrev pub invariant-loop-i : goal.invariant-loop-i
invariant-loop-i g l = (items : List g.row.T.Denot) → AreItems (goal.F-post g l.item) l.count items → l.buffer ≡ take l.i items ++ drop l.i l.fn.buffer
