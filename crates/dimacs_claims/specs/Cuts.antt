-- Sets of nodes, and the texts that spell them.
use Rattle.std.specs.Prelude.{ℕ, ◌≡◌, ◌==◌, ◌≤◌, Bool, true, List, ◌∷◌, map, length, count_by, [], codes}
use Rattle.std.specs.{Fmt.{decimal}, List.{All, filter, range_with_len}, Ordering.{nat_cmp}}
use Rattle.std.specs.FinSet.{FinSet, contains, empty, insert, from_list}
use Rattle.dimacs_lines.specs.{Limits.{most_nodes, IsNode}, Lines.{lines}}
use Rattle.dimacs_records.specs.{declared.records.Record.{Record}, Canonical.{canonical_text}, Printed.{shown}}
use Rattle.dimacs_records.specs.{declared.records.Record.TheVariants.{CutProblem, CutNode}, Texts.{SpellsValue}}
use Rattle.dimacs_records.specs.Readings.{LineRecord, records_of}
use Rattle.dimacs_records.specs.declared.kinds.TextKind.TheVariants as kinds

-- a number of nodes, and a set of them
pub record CutValue : Type 0 where
  pub nodes : ℕ
  pub ids : FinSet nat_cmp

-- each ID in the set is a node
pub record IsCut (c : CutValue) : Type 0 where
  pub nodes_few : c.nodes ≤ most_nodes
  pub within : (id : ℕ) → contains c.ids id ≡ true → IsNode c.nodes id

abbrev pub empty_cut : ℕ → CutValue
empty_cut nodes = record { nodes = nodes; ids = empty }

-- the set with one more node, which may be in it already
abbrev pub with_node : CutValue → ℕ → CutValue
with_node c id = record c { ids = insert c.ids id }

-- the nodes of the set, by ID
abbrev pub ids_in : CutValue → List ℕ
ids_in c = filter (contains c.ids) (range_with_len 1 c.nodes)

abbrev pub is_id : ℕ → ℕ → Bool
is_id id other = other == id

-- the lines name nodes, each at most once
pub record AreNamed (nodes : ℕ) (named : List ℕ) : Type 0 where
  pub within : All (IsNode nodes) named
  pub once : (id : ℕ) → count_by (is_id id) named ≤ 1

-- the problem line, then the nodes
abbrev pub cut_records : ℕ → ℕ → List ℕ → List Record
cut_records nodes count named = CutProblem nodes count ∷ map CutNode named

-- the records name exactly the nodes of the set, in any order
pub record GivesCut (rs : List LineRecord) (c : CutValue) : Type 0 where
  pub named : List ℕ
  pub are_named : AreNamed c.nodes named
  pub ids : c.ids ≡ from_list named
  pub records : records_of rs ≡ cut_records c.nodes (length named) named
  pub is_cut : IsCut c

-- the text spells this set
abbrev pub SpellsCut : List ℕ → CutValue → Type 0
SpellsCut text c = SpellsValue kinds.Cut GivesCut (lines text) c

-- the canonical text has the nodes in the order of their IDs
abbrev pub canonical_cut : CutValue → List ℕ
canonical_cut c = canonical_text (cut_records c.nodes (length (ids_in c)) (ids_in c))

abbrev pub shown_cut : CutValue → List ℕ
shown_cut c = shown (codes "cut" ∷ decimal c.nodes ∷ decimal (length (ids_in c)) ∷ [])
