-- The lemmas about node maps and node sets, for other crates.
use Rattle.std.proofs.Common.{◌≡◌, ◌≢◌, ℕ, None, Some, false, cond, ◌==◌, ◌||◌, ◌∙◌, ap, arith}
use Rattle.std.proofs.lemmas.Bool.Decides.{nat_tests}
use Rattle.std.specs.{Ordering.{nat_cmp}, Cmp.{nat_cmp_total, unsigned_tied}, FinMap.{FinMap, empty, insert, get}}
use Rattle.std.specs.FinSet.{FinSet, contains}
use Rattle.std.specs.FinMap as map
use Rattle.std.specs.FinSet as set

module _ {T : Type 0} where
  pub get-empty : (id : ℕ) → get (empty {K = ℕ} {X = T} {R = nat_cmp}) id ≡ None
  get-empty id = map.get-empty nat_cmp id

  -- only this node changes
  pub get-insert : (nodes : FinMap nat_cmp T) (id other : ℕ) (value : T) → get (insert nodes id value) other ≡ cond (other == id) (Some value) (get nodes other)
  get-insert nodes id other value =
      map.get-insert nat_cmp_total nodes id value other ∙ ap (λ b. cond b (Some value) (get nodes other)) (unsigned_tied other id)

  pub get-insert_same : (nodes : FinMap nat_cmp T) (id : ℕ) (value : T) → get (insert nodes id value) id ≡ Some value
  get-insert_same nodes id value = get-insert nodes id id value ∙ grind (arith, nat_tests)

  pub get-insert_other : (nodes : FinMap nat_cmp T) (id other : ℕ) (value : T) → other ≢ id → get (insert nodes id value) other ≡ get nodes other
  get-insert_other nodes id other value apart = get-insert nodes id other value ∙ grind (arith, nat_tests)

pub contains-empty : (id : ℕ) → contains (set.empty {K = ℕ} {R = nat_cmp}) id ≡ false
contains-empty id = set.contains-empty nat_cmp id

pub contains-insert : (nodes : FinSet nat_cmp) (id other : ℕ) → contains (set.insert nodes id) other ≡ (other == id || contains nodes other)
contains-insert nodes id other = set.contains-insert nat_cmp_total nodes id other ∙ ap (λ b. b || contains nodes other) (unsigned_tied other id)

-- for `using` and `grind`
pub ruleset node_laws = (get-empty, get-insert, contains-empty, contains-insert)
