-- Node potentials, and the texts that spell them.
use Rattle.std.specs.Prelude.{ℕ, ℤ, ◌≡◌, ◌≢◌, ◌≤◌, List, ◌∷◌, Some, map, length, if◌then◌else◌, pos, unwrap_or, [], codes}
use Rattle.std.specs.{Fmt.{decimal}, List.{filter, range_with_len}, Ordering.{nat_cmp, int_eq}}
use Rattle.std.specs.FinMap.{FinMap, empty, get, insert, remove, from_entries}
use Rattle.dimacs_lines.specs.{Limits.{most_nodes, IsNode}, Lines.{lines}}
use Rattle.dimacs_records.specs.{declared.records.Record.{Record}, Canonical.{canonical_text}, Printed.{shown}}
use Rattle.dimacs_records.specs.declared.records.Record.TheVariants.{PotentialsProblem, PotentialsNode}
use Rattle.dimacs_records.specs.{Readings.{LineRecord, records_of}, Texts.{SpellsValue}, Ranges.{IsWide}}
use Rattle.dimacs_records.specs.NodeValues.{NameNodes, has_value, is_nonzero}
use Rattle.dimacs_records.specs.declared.kinds.TextKind.TheVariants as kinds

-- a number of nodes, and the potentials other than 0
pub record PotentialsValue : Type 0 where
  pub nodes : ℕ
  pub values : FinMap nat_cmp ℤ

-- the potential of a node; 0 if the map has none
abbrev pub potential_of : PotentialsValue → ℕ → ℤ
potential_of p id = unwrap_or (get p.values id) (pos 0)

-- a node with a potential other than 0
abbrev pub IsPotential : ℕ → ℕ → ℤ → Type 0
IsPotential nodes id value = IsNode nodes id × (value ≢ pos 0) × IsWide value

pub record ArePotentials (p : PotentialsValue) : Type 0 where
  pub nodes_few : p.nodes ≤ most_nodes
  pub within : (id : ℕ) (value : ℤ) → get p.values id ≡ Some value → IsPotential p.nodes id value

abbrev pub zero_potentials : ℕ → PotentialsValue
zero_potentials nodes = record { nodes = nodes; values = empty }

-- the potentials with another one at this node
abbrev pub with_potential : PotentialsValue → ℕ → ℤ → PotentialsValue
with_potential p id value = record p { values = if int_eq value (pos 0) then remove p.values id else insert p.values id value }

-- the nodes with a potential other than 0, by ID
abbrev pub nonzero_ids : PotentialsValue → List ℕ
nonzero_ids p = filter (λ id. is_nonzero (potential_of p id)) (range_with_len 1 p.nodes)

-- these nodes with their potentials
abbrev pub with_values : PotentialsValue → List ℕ → List (ℕ × ℤ)
with_values p ids = map (λ id. (id, potential_of p id)) ids

-- the line of a node and its potential
abbrev pub node_line : ℕ × ℤ → Record
node_line n = PotentialsNode n.0 n.1

-- the problem line, then the nodes
abbrev pub potentials_records : ℕ → ℕ → List (ℕ × ℤ) → List Record
potentials_records nodes count named = PotentialsProblem nodes count ∷ map node_line named

-- the records name each node with a potential other than 0, and perhaps others
pub record GivesPotentials (rs : List LineRecord) (p : PotentialsValue) : Type 0 where
  pub named : List (ℕ × ℤ)
  pub name_nodes : NameNodes p.nodes named
  pub values : p.values ≡ from_entries (filter has_value named)
  pub records : records_of rs ≡ potentials_records p.nodes (length named) named
  pub are_potentials : ArePotentials p

-- the text spells these potentials
abbrev pub SpellsPotentials : List ℕ → PotentialsValue → Type 0
SpellsPotentials text p = SpellsValue kinds.Potentials GivesPotentials (lines text) p

-- the canonical text: by ID, without nodes of potential 0
abbrev pub canonical_potentials : PotentialsValue → List ℕ
canonical_potentials p = canonical_text (potentials_records p.nodes (length (nonzero_ids p)) (with_values p (nonzero_ids p)))

-- `show` counts the potentials other than 0
abbrev pub shown_potentials : PotentialsValue → List ℕ
shown_potentials p = shown (codes "pot" ∷ decimal p.nodes ∷ decimal (length (nonzero_ids p)) ∷ [])
