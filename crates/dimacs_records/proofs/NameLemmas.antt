-- Nodes with numbers as lists, one more of them, and as maps.
use Rattle.std.proofs.Common.{◌≡◌, ◌≢◌, ◌≤◌, ℕ, ◌∷◌, ◌++◌, ◌||◌, [], List, map, Bool, true, false, Option, Some, None, is_some, refl, ap, ap₂, sym, ◌∙◌, cond, arith}
use Rattle.std.proofs.{lemmas.Bool.{cond_both, eqb-true, false_from_ne_true, not-false}, lemmas.Option.{cond_some}}
use Rattle.std.proofs.lemmas.List.Elements.{All-push}
use Rattle.std.specs.{Prelude.{ℤ, count_by, pos, unwrap_or}, List.{filter, list_any}}
use Rattle.std.specs.{Ordering.{eq_by_cmp, int_eq, nat_cmp}, Cmp.{nat_cmp_total, signed_Decides, unsigned_tied}}
use Rattle.std.specs.FinMap.{FinMap, empty, from_entries, from_entries_push, get, get-empty, get-from_entries, get-retain_keys, insert, nat_cmp-IsAntisymmetric, same_map}
use Rattle.std.specs.FinMap.Entries.{find, is_some-find}
use Rattle.dimacs_records.specs.NodeValues.{NameNodes, has_value, is_nonzero, is_of, without_zeros}
use Rattle.dimacs_lines.specs.Limits.{IsNode}
use Rattle.dimacs_records.proofs.CountLemmas.{count_by-cons, count_yes, none_passes, once_more, same_test}

pub not_zero : (n : ℤ) → n ≢ pos 0 → int_eq n (pos 0) ≡ false
not_zero n some = false_from_ne_true (int_eq n (pos 0)) (λ e. some ((signed_Decides n (pos 0)).0 e))

pub isnt_zero : (n : ℤ) → int_eq n (pos 0) ≡ false → n ≢ pos 0
isnt_zero n e is = absurd (cc (e, (signed_Decides n (pos 0)).1 is))

-- the value found, unless it is 0
abbrev pub unless_zero : Option ℤ → Option ℤ
unless_zero found = cond (is_nonzero (unwrap_or found (pos 0))) found None

pub get-without_zeros : (m : FinMap nat_cmp ℤ) (id : ℕ) → get (without_zeros m) id ≡ unless_zero (get m id)
unfolding without_zeros
get-without_zeros m id = get-retain_keys m (λ id. is_nonzero (unwrap_or (get m id) (pos 0))) id (λ x e. ap (λ n. is_nonzero (unwrap_or (get m n) (pos 0))) (sym (nat_cmp-IsAntisymmetric id x e)))

pub get_nonzero : (m : FinMap nat_cmp ℤ) (id : ℕ) (n : ℤ) → get (without_zeros m) id ≡ Some n → (get m id ≡ Some n) × (n ≢ pos 0)
get_nonzero m id n e = of_found (get m id) (sym (get-without_zeros m id) ∙ e)
  where
    of_found : (found : Option ℤ) → unless_zero found ≡ Some n → (found ≡ Some n) × (n ≢ pos 0)
    of_found None e = absurd (cc)
    of_found (Some x) e = let kept = cond_some (is_nonzero x) x n e in (ap Some kept.1, (λ zero. absurd (cc (kept.0, ap is_nonzero (kept.1 ∙ zero)))))

-- the value is the same without the zeros
same_value : (found : Option ℤ) → unwrap_or (unless_zero found) (pos 0) ≡ unwrap_or found (pos 0)
same_value None = refl
same_value (Some n) = cond_both (is_nonzero n) (Some n) None (λ v. unwrap_or v (pos 0) ≡ n) (λ _. refl) (λ e. sym ((signed_Decides n (pos 0)).0 (not-false _ e)))

pub value-without_zeros : (m : FinMap nat_cmp ℤ) (id : ℕ) → unwrap_or (get (without_zeros m) id) (pos 0) ≡ unwrap_or (get m id) (pos 0)
value-without_zeros m id = ap (λ o. unwrap_or o (pos 0)) (get-without_zeros m id) ∙ same_value (get m id)

pub without_zeros-empty : without_zeros empty ≡ empty
without_zeros-empty = same_map nat_cmp_total nat_cmp-IsAntisymmetric (without_zeros empty) empty (λ id. get-without_zeros empty id ∙ ap unless_zero (get-empty nat_cmp id) ∙ sym (get-empty nat_cmp id))

-- a node is found if a line names it
is_some-find_named : (id : ℕ) (named : List (ℕ × ℤ)) → is_some (find nat_cmp id named) ≡ list_any (is_of id) named
is_some-find_named id named = is_some-find nat_cmp id named ∙ same named
  where
    same : (ns : List (ℕ × ℤ)) → list_any (eq_by_cmp nat_cmp id) (map (λ (n : ℕ × ℤ). n.0) ns) ≡ list_any (is_of id) ns
    same [] = refl
    same (n ∷ ns) = ap₂ (λ a b. a || b) (unsigned_tied id n.0 ∙ same_test id n.0) (same ns)

none_found : (id : ℕ) (named : List (ℕ × ℤ)) → list_any (is_of id) named ≡ false → find nat_cmp id named ≡ None
none_found id named new = not_some (find nat_cmp id named) (is_some-find_named id named ∙ new)
  where
    not_some : (o : Option ℤ) → is_some o ≡ false → o ≡ None
    not_some None e = refl
    not_some (Some v) e = absurd (cc)

-- what is found among the lines with a number other than 0, if no node occurs twice
find_valued : (id : ℕ) (named : List (ℕ × ℤ)) → count_by (is_of id) named ≤ 1 → find nat_cmp id (filter has_value named) ≡ unless_zero (find nat_cmp id named)
find_valued id [] once = refl
find_valued id (n ∷ ns) once =
    by_tests (eq_by_cmp nat_cmp id n.0) (has_value n) refl refl (find_valued id ns (omega (arith, once, count_by-cons (is_of id) n ns)))
  where
    others : eq_by_cmp nat_cmp id n.0 ≡ true → find nat_cmp id ns ≡ None
    others e = none_found id ns (none_passes (is_of id) ns (omega (arith, once, count_yes (is_of id) n ns (same_test n.0 id ∙ sym (unsigned_tied id n.0) ∙ e))))

    by_tests : (t v : Bool) → eq_by_cmp nat_cmp id n.0 ≡ t → has_value n ≡ v → find nat_cmp id (filter has_value ns) ≡ unless_zero (find nat_cmp id ns)
        → find nat_cmp id (cond v (n ∷ filter has_value ns) (filter has_value ns)) ≡ unless_zero (cond t (Some n.1) (find nat_cmp id ns))
    by_tests true true here some rest = ap (λ b. cond b (Some n.1) (find nat_cmp id (filter has_value ns))) here ∙ sym (ap (λ b. cond b (Some n.1) None) some)
    by_tests true false here none rest = rest ∙ ap unless_zero (others here) ∙ sym (ap (λ b. cond b (Some n.1) None) none)
    by_tests false true apart some rest = ap (λ b. cond b (Some n.1) (find nat_cmp id (filter has_value ns))) apart ∙ rest
    by_tests false false apart none rest = rest

module _ (named : List (ℕ × ℤ)) where
  -- the map of these lines has the nodes that they name
  pub has-from_entries : (id : ℕ) → is_some (get (from_entries {R = nat_cmp} named) id) ≡ list_any (is_of id) named
  has-from_entries id = ap is_some (get-from_entries nat_cmp_total named id) ∙ is_some-find_named id named

  -- without zeros it has their numbers other than 0
  pub without_zeros-named : (nodes : ℕ) → NameNodes nodes named → without_zeros (from_entries named) ≡ from_entries (filter has_value named)
  without_zeros-named nodes are =
      same_map nat_cmp_total nat_cmp-IsAntisymmetric _ _ (λ id.
      get-without_zeros (from_entries named) id
      ∙ ap unless_zero (get-from_entries nat_cmp_total named id)
      ∙ sym (find_valued id named (are.once id))
      ∙ sym (get-from_entries nat_cmp_total (filter has_value named) id))

  -- with one more line
  module _ (id : ℕ) (n : ℤ) (new : list_any (is_of id) named ≡ false) where
    pub named_more : (nodes : ℕ) → NameNodes nodes named → IsNode nodes id → NameNodes nodes (named ++ (id, n) ∷ [])
    named_more nodes are node = record {
      within = All-push (λ (m : ℕ × ℤ). IsNode nodes m.0) named (id, n) are.within node;
      once = once_more is_of named (id, n) (λ other same. ap (λ k. list_any (is_of k) named) (sym (eqb-true id other same)) ∙ new) are.once;
    }

    pub map_more : from_entries {R = nat_cmp} (named ++ (id, n) ∷ []) ≡ insert (from_entries named) id n
    map_more = from_entries_push nat_cmp_total nat_cmp-IsAntisymmetric named id n (none_found id named new)
