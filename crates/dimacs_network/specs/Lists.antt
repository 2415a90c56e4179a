-- Lists.
use Rattle.std.specs.Prelude.{List, drop}
use Rattle.dimacs_network.specs.declared.list_iter.ListIter.{ListIter}

-- the remaining items
abbrev pub items_left : {S L T : Type 0} → ListIter S L T → List T
items_left it = drop it.next it.list.now
