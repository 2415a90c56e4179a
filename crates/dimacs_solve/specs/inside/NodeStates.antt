-- Inside: the table of a search.
use Rattle.std.specs.Prelude.{ℕ, ◌≡◌, ◌≢◌, ◌≤◌, ◌==◌, if◌then◌else◌, Bool, Option, Some, None, is_some, ℤ, pos}
use Rattle.dimacs_solve.specs.{declared.node_states.NodeState.{NodeState}, declared.node_states.NodeStates.{NodeStates}}
use Rattle.dimacs_network.specs.Tables.{value_of}

-- what is known about a node: nothing, the length of the shortest walk found so far, or its distance
pub data Known : Type 0 where
  Unknown : Known
  Reached : ℕ → Known
  Settled : ℕ → Known

-- a state, read in this round
abbrev pub known_by : {D : Type 0} → (D → ℕ) → ℕ → NodeState D → Known
known_by value round m = if m.round == round then (if m.settled then Settled (value m.dist) else Reached (value m.dist)) else Unknown

-- the state of a node, read in the current round
abbrev pub known : {D : Type 0} → (D → ℕ) → NodeStates D → ℕ → Known
known value m v = known_by value m.round (value_of m.node_states v)

-- a walk of length d or less was found
abbrev pub IsReachedWithin : Known → ℕ → Type 0
IsReachedWithin Unknown d = ⊥
IsReachedWithin (Reached e) d = e ≤ d
IsReachedWithin (Settled e) d = e ≤ d

-- the distance of a settled node; none for the others
abbrev pub settled_label : Known → Option ℤ
settled_label (Settled d) = Some (pos d)
settled_label other = None

abbrev pub is_settled : Known → Bool
is_settled k = is_some (settled_label k)

-- this is known about the node now; about the others, what was known before
pub record Sets (old : ℕ → Known) (node : ℕ) (now : Known) (new : ℕ → Known) : Type 0 where
  pub here : new node ≡ now
  pub there : (other : ℕ) → other ≢ node → new other ≡ old other

-- nothing is known about any node
abbrev pub AreUnknown : (ℕ → Known) → Type 0
AreUnknown at = (v : ℕ) → at v ≡ Unknown
