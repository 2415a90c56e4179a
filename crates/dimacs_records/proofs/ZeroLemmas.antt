-- Setting one value among those that aren't 0.
use Rattle.std.proofs.Common.{◌≡◌, ℕ, ◌==◌, Bool, true, false, Option, Some, None, cond, refl, sym, ◌∙◌, ap}
use Rattle.std.specs.{Prelude.{ℤ, pos, not, if◌then◌else◌}, Ordering.{nat_cmp, int_eq}}
use Rattle.std.specs.Cmp.{nat_cmp_total, unsigned_tied}
use Rattle.std.specs.FinMap.{FinMap, get, insert, remove, same_map, get-insert, get-remove, nat_cmp-IsAntisymmetric}
use Rattle.dimacs_records.specs.NodeValues.{without_zeros}
use Rattle.dimacs_records.proofs.NameLemmas.{get-without_zeros, unless_zero}

get-set : (m : FinMap nat_cmp ℤ) (id : ℕ) (n : ℤ) (other : ℕ) → get (insert m id n) other ≡ cond (other == id) (Some n) (get m other)
get-set m id n other = get-insert nat_cmp_total m id n other ∙ ap (λ b. cond b (Some n) (get m other)) (unsigned_tied other id)

pub get-removed : (m : FinMap nat_cmp ℤ) (id other : ℕ) → get (remove m id) other ≡ cond (other == id) None (get m other)
get-removed m id other = get-remove nat_cmp_total m id other ∙ ap (λ b. cond b None (get m other)) (unsigned_tied other id)

-- setting a value changes one potential
pub without_zeros-insert : (m : FinMap nat_cmp ℤ) (id : ℕ) (n : ℤ) → without_zeros (insert m id n) ≡ (if int_eq n (pos 0) then remove (without_zeros m) id else insert (without_zeros m) id n)
without_zeros-insert m id n = by_test (int_eq n (pos 0)) refl
  where
    after : (other : ℕ) → get (without_zeros (insert m id n)) other ≡ unless_zero (cond (other == id) (Some n) (get m other))
    after other = get-without_zeros (insert m id n) other ∙ ap unless_zero (get-set m id n other)

    zero_at : (b : Bool) (found : Option ℤ) → int_eq n (pos 0) ≡ true → unless_zero (cond b (Some n) found) ≡ cond b None (unless_zero found)
    zero_at true found e = ap (λ b. cond (not b) (Some n) None) e
    zero_at false found e = refl

    value_at : (b : Bool) (found : Option ℤ) → int_eq n (pos 0) ≡ false → unless_zero (cond b (Some n) found) ≡ cond b (Some n) (unless_zero found)
    value_at true found e = ap (λ b. cond (not b) (Some n) None) e
    value_at false found e = refl

    by_test : (b : Bool) → int_eq n (pos 0) ≡ b → without_zeros (insert m id n) ≡ (if b then remove (without_zeros m) id else insert (without_zeros m) id n)
    by_test true e =
        same_map nat_cmp_total nat_cmp-IsAntisymmetric _ _ (λ other. after other ∙ zero_at (other == id) (get m other) e ∙ ap (cond (other == id) None) (sym (get-without_zeros m other)) ∙ sym (get-removed (without_zeros m) id other))
    by_test false e =
        same_map nat_cmp_total nat_cmp-IsAntisymmetric _ _ (λ other. after other ∙ value_at (other == id) (get m other) e ∙ ap (cond (other == id) (Some n)) (sym (get-without_zeros m other)) ∙ sym (get-set (without_zeros m) id n other))
