-- Inside: going down from raised nodes to those that they were raised from.
use Rattle.std.specs.Prelude.{ℕ, ◌≡◌, ◌≢◌, ◌⊎◌, ◌<◌, ◌≤◌, ◌+◌, ◌-◌, ◌==◌, List, length, slice_index, ◌+ℤ◌, ◌≤ℤ◌, Option, Some, None}
use Rattle.dimacs_network.specs.declared.network.ArcView.{ArcView}
use Rattle.dimacs_decide.specs.{declared.heights.HeightLabel.{HeightLabel}, inside.Counting.{count_below}}
use Rattle.dimacs_decide.specs.inside.Heights.{below_of, bound, height_of}

-- how many of the nodes below n have no place
abbrev pub blanks : (ℕ → ℕ) → ℕ → ℕ
blanks places n = count_below (λ v. places v == 0) n

-- all visited nodes, each once, with their places from 1; their heights are bounded
pub record IsTrace (nodes : ℕ) (labels : ℕ → HeightLabel) (path : List ℕ) (places : ℕ → ℕ) : Type 0 where
  pub first : places 0 ≡ 1
  pub each : length path + blanks places (nodes + 1) ≡ nodes + 1
  pub there : (j : ℕ) → j < length path → places (slice_index path j) ≡ j + 1
  pub found : (v : ℕ) → 0 < places v → (places v ≤ length path) × (slice_index path (places v - 1) ≡ v)
  pub low : (v : ℕ) → 0 < places v → height_of labels v ≤ℤ bound (length path)

-- a path down from a node, after the nodes of earlier paths, up to `at`
pub record IsFollowing (nodes : ℕ) (arcs : List ArcView) (labels : ℕ → HeightLabel) (start begin : ℕ) (path : List ℕ) (places : ℕ → ℕ) (at : ℕ) : Type 0 where
  pub first : places 0 ≡ 1
  pub some : 1 ≤ begin
  pub begun : begin ≤ length path
  pub each : length path + blanks places (nodes + 1) ≡ nodes + 1
  pub there : (j : ℕ) → j < length path → places (slice_index path j) ≡ j + 1
  pub found : (v : ℕ) → 0 < places v → (places v ≤ length path) × (slice_index path (places v - 1) ≡ v)
  pub low : (v : ℕ) → 0 < places v → places v ≤ begin → height_of labels v ≤ℤ bound begin
  pub rest : (v : ℕ) → begin < places v → (height_of labels v +ℤ bound begin) ≤ℤ (height_of labels at +ℤ bound (length path))
  pub steps : (j : ℕ) → begin ≤ j → j + 1 < length path → below_of arcs (labels (slice_index path j)) ≡ slice_index path (j + 1)
  pub link : (j : ℕ) → begin ≤ j → j + 1 ≡ length path → below_of arcs (labels (slice_index path j)) ≡ at
  pub inside : at ≤ nodes
  pub started : (at ≡ start) ⊎ (0 < places start)

-- a path down that returns to its first node: the places from `first` on
pub record IsCycle (arcs : List ArcView) (labels : ℕ → HeightLabel) (path : List ℕ) (first last : ℕ) : Type 0 where
  pub ends : length path ≡ last + 1
  pub some : first < last
  pub steps : (j : ℕ) → first ≤ j → j < last → below_of arcs (labels (slice_index path j)) ≡ slice_index path (j + 1)
  pub closed : slice_index path last ≡ slice_index path first
  pub apart : (i j : ℕ) → first ≤ i → i < j → j < last → slice_index path i ≢ slice_index path j
  pub raised : (j : ℕ) → first ≤ j → j < last → 0 < (labels (slice_index path j)).arc_number

-- all nodes down from the start were visited, or they lead back to one of themselves
abbrev pub Follows : ℕ → List ArcView → (ℕ → HeightLabel) → ℕ → List ℕ → (ℕ → ℕ) → Option ℕ → Type 0
Follows nodes arcs labels start path places None = IsTrace nodes labels path places × (0 < places start)
Follows nodes arcs labels start path places (Some first) = IsCycle arcs labels path first (length path - 1)
