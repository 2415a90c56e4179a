-- The labels of a block as they are stored.
use Rattle.dimacs_claims.specs.{declared.label_list.Label.{Label}, declared.label_list.Label64.{Label64}}
use Rattle.dimacs_claims.specs.declared.label_list.Label32.{Label32}

-- a label with a distance of 32 bits
abbrev pub label_of_32 : Label32 → Label
label_of_32 l = record { dist = l.dist; id = l.id; pred = l.pred }

-- a label with a distance of 64 bits
abbrev pub label_of_64 : Label64 → Label
label_of_64 l = record { dist = l.dist; id = l.id; pred = l.pred }
