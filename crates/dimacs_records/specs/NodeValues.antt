-- Lines with a node and a number.
use Rattle.std.specs.{Prelude.{ℕ, ℤ, ◌==◌, ◌≤◌, Bool, not, List, count_by, pos, unwrap_or}, List.{All}}
use Rattle.std.specs.{Ordering.{int_eq, nat_cmp}, FinMap.{FinMap, get, retain_keys}}
use Rattle.dimacs_lines.specs.Limits.{IsNode}

abbrev pub is_of : ℕ → ℕ × ℤ → Bool
is_of id n = n.0 == id

abbrev pub is_nonzero : ℤ → Bool
is_nonzero n = not (int_eq n (pos 0))

abbrev pub has_value : ℕ × ℤ → Bool
has_value n = is_nonzero n.1

-- the lines name nodes of the network, each node at most once
pub record NameNodes (nodes : ℕ) (named : List (ℕ × ℤ)) : Type 0 where
  pub within : All (λ (n : ℕ × ℤ). IsNode nodes n.0) named
  pub once : (id : ℕ) → count_by (is_of id) named ≤ 1

-- the values that aren't 0
unfoldable pub without_zeros : FinMap nat_cmp ℤ → FinMap nat_cmp ℤ
without_zeros values = retain_keys values (λ id. is_nonzero (unwrap_or (get values id) (pos 0)))
