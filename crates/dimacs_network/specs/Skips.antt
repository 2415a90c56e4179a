-- Going from ID to ID, over nodes without a value.
use Rattle.std.specs.Prelude.{ℕ, ◌<◌, ◌≤◌}

-- from one ID to another, at most the end, over IDs each of which is blank
pub record Skips (IsBlank : ℕ → Type 0) (from end to : ℕ) : Type 0 where
  pub onward : from ≤ to
  pub within : to ≤ end
  pub blank : (id : ℕ) → from ≤ id → id < to → IsBlank id
