-- Inside: the items that an array is filled with.
use Rattle.std.specs.Prelude.{ℕ, ◌≡◌, ◌<◌, List, length, Some, slice_get}

-- these are the items of the numbers below `count`, in order
pub record AreItems {X : Type 0} (gives : ℕ → X → Type 0) (count : ℕ) (items : List X) : Type 0 where
  pub all : length items ≡ count
  pub each : (i : ℕ) (x : X) → i < count → gives i x → slice_get items i ≡ Some x
