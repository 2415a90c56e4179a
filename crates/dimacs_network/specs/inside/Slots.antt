-- Inside: the slots of IDs, in pages of 64.
use Rattle.std.specs.Prelude.{ℕ, ◌*◌, ◌%◌, ◌≡◌, ◌≢◌, ◌<◌, ◌≤◌, List, length, slice_index_or}
use Rattle.dimacs_network.specs.declared.node_table.TheConstants.{NO_PAGE}

-- each allocated page has its own number and 64 slots
pub record IsDirectory (directory : List ℕ) (slots : ℕ) : Type 0 where
  pub short : length directory ≤ 67108864
  pub whole : slots % 64 ≡ 0
  pub numbers_fit : slots ≤ 64 * NO_PAGE
  pub allocated : (i : ℕ) → slice_index_or directory i NO_PAGE ≢ NO_PAGE → 64 * slice_index_or directory i NO_PAGE < slots
  pub distinct : (i j : ℕ) → 64 * slice_index_or directory i NO_PAGE < slots → slice_index_or directory i NO_PAGE ≡ slice_index_or directory j NO_PAGE → i ≡ j

-- the directory may only have grown at its end
abbrev pub SameNumbers : List ℕ → List ℕ → Type 0
SameNumbers old new = (i : ℕ) → slice_index_or new i NO_PAGE ≡ slice_index_or old i NO_PAGE
