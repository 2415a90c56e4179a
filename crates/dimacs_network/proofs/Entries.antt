-- The entries of a node map, in the order of the nodes.
use Rattle.std.proofs.Common.{◌≡◌, inl, inr, ℕ, zero, suc, ◌<◌, ◌≤◌, ◌+◌, ◌==◌, List, [], ◌∷◌, ◌++◌, length, Option, None, Some, Bool, true, false, cond, refl, sym, ◌∙◌, ap, arith, add-one, subst}
use Rattle.std.proofs.{lemmas.Bool.{cases_lt, eqb-true}, lemmas.Bool.Decides.{nat_tests}}
use Rattle.std.proofs.{lemmas.List.{append-nil, nil_from_length, length-append}, lemmas.List.Sums.{sum_by-append}}
use Rattle.std.proofs.lemmas.List.Elements.{All-nil, All-cons, All-head, All-tail, All-append, All-weaker}
use Rattle.std.specs.{Prelude.{count_by}, List.{All}, Ordering.{nat_cmp, eq_by_cmp}, declared.cmp.Ordering.{Ordering}}
use Rattle.std.specs.{Cmp.{nat_cmp_total, nat_cmp_is, unsigned_tied}, FinMap.Entries.{by_order, put, find}}
use Rattle.std.specs.declared.cmp.Ordering.TheVariants.{Less, Equal, Greater}
use Rattle.std.specs.FinMap.{FinMap, empty, insert, get, entries, from_entries, get-entries, get-from_entries, entries-insert, len-entries, len-empty, same_map, nat_cmp-IsAntisymmetric}
use Rattle.dimacs_network.specs.Maps.{values_below, with_option}
use Rattle.dimacs_network.proofs.MapLemmas.{get-values_below, get-values_below_past}

-- 1 for an entry of this node, otherwise 0
abbrev ones : ℕ → ℕ → ℕ
ones id n = cond (n == id) 1 0

at_most_one : (id n : ℕ) → ones id n ≤ 1
at_most_one id n = grind (arith, nat_tests)

ones_apart : (id n : ℕ) → n < id → ones id n ≡ 0
ones_apart id n h = grind (arith, nat_tests)

ones_above : (id n : ℕ) → id < n → ones id n ≡ 0
ones_above id n h = grind (arith, nat_tests)

module _ {T : Type 0} where
  -- the entry of a node, if it has a value
  abbrev pub entry_of : ℕ → Option T → List (ℕ × T)
  entry_of id None = []
  entry_of id (Some value) = (id, value) ∷ []

  -- the entries of the nodes below n
  pub entries_below : (ℕ → Option T) → ℕ → List (ℕ × T)
  entries_below f zero = []
  entries_below f (suc n) = entries_below f n ++ entry_of n (f n)

  pub entries_below-none : (f : ℕ → Option T) → entries_below f 0 ≡ []
  unfolding entries_below
  entries_below-none f = refl

  pub entries_below-next : (f : ℕ → Option T) (n : ℕ) → entries_below f (n + 1) ≡ entries_below f n ++ entry_of n (f n)
  unfolding entries_below
  entries_below-next f n = rw (add-one n) refl

  All-entry_of : (P : ℕ × T → Type 0) (id : ℕ) (value : Option T) → ((v : T) → value ≡ Some v → P (id, v)) → All P (entry_of id value)
  All-entry_of P id None h = All-nil P
  All-entry_of P id (Some v) h = All-cons P (id, v) [] (h v refl) (All-nil P)

  keys_below : (f : ℕ → Option T) (n : ℕ) → All (λ (e : ℕ × T). e.0 < n) (entries_below f n)
  unfolding entries_below
  keys_below f zero = All-nil _
  keys_below f (suc n) =
      All-append (λ (e : ℕ × T). e.0 < suc n) (entries_below f n) (entry_of n (f n)) (All-weaker (λ (e : ℕ × T). e.0 < n) (λ (e : ℕ × T). e.0 < suc n) (λ e h. omega arith) (entries_below f n) (keys_below f n))
      (All-entry_of (λ (e : ℕ × T). e.0 < suc n) n (f n) (λ v is. omega arith))

  -- an entry after all others is put last
  put_past : (k : ℕ) (v : T) (es : List (ℕ × T)) → All (λ (e : ℕ × T). e.0 < k) es → put nat_cmp k v es ≡ es ++ (k, v) ∷ []
  put_past k v [] below = refl
  put_past k v (e ∷ es) below =
      let greater : nat_cmp k e.0 ≡ Greater = sym (nat_cmp_is k e.0 Greater (All-head (λ (e : ℕ × T). e.0 < k) e es below)) in
      ap (λ o. by_order o ((k, v) ∷ e ∷ es) ((e.0, v) ∷ es) (e ∷ put nat_cmp k v es)) greater ∙ ap (λ rest. e ∷ rest) (put_past k v es (All-tail (λ (e : ℕ × T). e.0 < k) e es below))

  entries-empty : entries (empty {X = T} {R = nat_cmp}) ≡ []
  entries-empty = nil_from_length _ (sym (len-entries (empty {X = T} {R = nat_cmp})) ∙ len-empty nat_cmp T)

  entries-with_option : (nodes : FinMap nat_cmp T) (es : List (ℕ × T)) (n : ℕ) (value : Option T) → All (λ (e : ℕ × T). e.0 < n) es → entries nodes ≡ es → entries (with_option nodes n value) ≡ es ++ entry_of n value
  entries-with_option nodes es n None below are = are ∙ sym (append-nil es)
  entries-with_option nodes es n (Some v) below are = entries-insert nat_cmp_total nodes n v ∙ ap (put nat_cmp n v) are ∙ put_past n v es below

  entries-values_below : (f : ℕ → Option T) (n : ℕ) → entries (values_below f n) ≡ entries_below f n
  unfolding values_below entries_below
  entries-values_below f zero = entries-empty
  entries-values_below f (suc n) = entries-with_option (values_below f n) (entries_below f n) n (f n) (keys_below f n) (entries-values_below f n)

  -- the entries of a map whose nodes are all below n
  pub entries_are : (m : FinMap nat_cmp T) (n : ℕ) → ((id : ℕ) → n ≤ id → get m id ≡ None) → entries m ≡ entries_below (get m) n
  entries_are m n none =
      ap entries (same_map nat_cmp_total nat_cmp-IsAntisymmetric m (values_below (get m) n) (λ id.
      elim (cases_lt id n) [
        | inl h ↦ sym (get-values_below (get m) n id h)
        | inr h ↦ none id h ∙ sym (get-values_below_past (get m) n id h)
      ]))
      ∙ entries-values_below (get m) n

  All-entries_below : (P : ℕ × T → Type 0) (f : ℕ → Option T) (n : ℕ) → ((id : ℕ) (v : T) → f id ≡ Some v → P (id, v)) → All P (entries_below f n)
  unfolding entries_below
  All-entries_below P f zero each = All-nil P
  All-entries_below P f (suc n) each = All-append P (entries_below f n) (entry_of n (f n)) (All-entries_below P f n each) (All-entry_of P n (f n) (each n))

  -- what holds of each value found holds of each entry
  pub All-entries : (P : ℕ × T → Type 0) (m : FinMap nat_cmp T) (n : ℕ) → ((id : ℕ) → n ≤ id → get m id ≡ None) → ((id : ℕ) (v : T) → get m id ≡ Some v → P (id, v)) → All P (entries m)
  All-entries P m n none each = rw (entries_are m n none) (All-entries_below P (get m) n each)

  found_here : (P : ℕ × T → Type 0) (x : ℕ × T) (id : ℕ) (v : T) → id ≡ x.0 → x.1 ≡ v → P x → P (id, v)
  found_here P x id v same is p = rw (same, ← is) p

  found_in : (P : ℕ × T → Type 0) (x : ℕ × T) (id : ℕ) (v : T) (b : Bool) (rest : Option T) → (id == x.0) ≡ b → P x → (rest ≡ Some v → P (id, v)) → cond b (Some x.1) rest ≡ Some v → P (id, v)
  found_in P x id v true rest same here after is = found_here P x id v (eqb-true id x.0 same) (cc) here
  found_in P x id v false rest apart here after is = after is

  -- what holds of each entry holds of each value found
  All-find : (P : ℕ × T → Type 0) (id : ℕ) (v : T) (es : List (ℕ × T)) → All P es → find nat_cmp id es ≡ Some v → P (id, v)
  All-find P id v [] all e = absurd (cc)
  All-find P id v (x ∷ es) all e = found_in P x id v (eq_by_cmp nat_cmp id x.0) (find nat_cmp id es) (sym (unsigned_tied id x.0)) (All-head P x es all) (All-find P id v es (All-tail P x es all)) e

  pub All-get : (P : ℕ × T → Type 0) (m : FinMap nat_cmp T) (id : ℕ) (v : T) → All P (entries m) → get m id ≡ Some v → P (id, v)
  All-get P m id v all e = All-find P id v (entries m) all (sym (get-entries m id) ∙ e)

  pub All-empty : (P : ℕ × T → Type 0) → All P (entries (empty {X = T} {R = nat_cmp}))
  All-empty P = rw entries-empty (All-nil P)

  put_at : (P : ℕ × T → Type 0) (id : ℕ) (v : T) (e : ℕ × T) (es rest : List (ℕ × T)) (o : Ordering) → nat_cmp id e.0 ≡ o → All P (e ∷ es) → P (id, v) → All P rest → All P (by_order o ((id, v) ∷ e ∷ es) ((e.0, v) ∷ es) (e ∷ rest))
  put_at P id v e es rest Less is all p after = All-cons P (id, v) (e ∷ es) p all
  put_at P id v e es rest Equal is all p after = All-cons P (e.0, v) es (subst (λ n. P (n, v)) (nat_cmp-IsAntisymmetric id e.0 is) p) (All-tail P e es all)
  put_at P id v e es rest Greater is all p after = All-cons P e rest (All-head P e es all) after

  All-put : (P : ℕ × T → Type 0) (id : ℕ) (v : T) (es : List (ℕ × T)) → All P es → P (id, v) → All P (put nat_cmp id v es)
  All-put P id v [] all p = All-cons P (id, v) [] p (All-nil P)
  All-put P id v (e ∷ es) all p = put_at P id v e es (put nat_cmp id v es) (nat_cmp id e.0) refl all p (All-put P id v es (All-tail P e es all) p)

  pub All-insert : (P : ℕ × T → Type 0) (m : FinMap nat_cmp T) (id : ℕ) (v : T) → All P (entries m) → P (id, v) → All P (entries (insert m id v))
  All-insert P m id v all p = rw (entries-insert nat_cmp_total m id v) (All-put P id v (entries m) all p)

  -- a map is made of its entries
  pub from_entries-entries : (m : FinMap nat_cmp T) → from_entries (entries m) ≡ m
  from_entries-entries m = same_map nat_cmp_total nat_cmp-IsAntisymmetric _ m (λ id. get-from_entries nat_cmp_total (entries m) id ∙ sym (get-entries m id))

  count-entry_of : (id n : ℕ) (value : Option T) → count_by (λ (e : ℕ × T). e.0 == id) (entry_of n value) ≤ ones id n
  count-entry_of id n None = omega arith
  count-entry_of id n (Some v) = omega arith

  count-entries_below-next : (f : ℕ → Option T) (n id : ℕ) → count_by (λ (e : ℕ × T). e.0 == id) (entries_below f n ++ entry_of n (f n)) ≤ count_by (λ (e : ℕ × T). e.0 == id) (entries_below f n) + ones id n
  count-entries_below-next f n id = omega (arith, sum_by-append (λ (e : ℕ × T). cond (e.0 == id) 1 0) (entries_below f n) (entry_of n (f n)), count-entry_of id n (f n))

  count-entries_below : (f : ℕ → Option T) (n id : ℕ) → n ≤ id → count_by (λ (e : ℕ × T). e.0 == id) (entries_below f n) ≡ 0
  unfolding entries_below
  count-entries_below f zero id h = refl
  count-entries_below f (suc n) id h =
      omega (arith, count-entries_below-next f n id, count-entries_below f n id (omega arith), ones_apart id n (omega arith))

  entries_below-once : (f : ℕ → Option T) (n id : ℕ) → count_by (λ (e : ℕ × T). e.0 == id) (entries_below f n) ≤ 1
  unfolding entries_below
  entries_below-once f zero id = omega arith
  entries_below-once f (suc n) id =
      elim (cases_lt id n) [
        | inl h ↦ omega (arith, count-entries_below-next f n id, entries_below-once f n id, ones_above id n h)
        | inr h ↦ omega (arith, count-entries_below-next f n id, count-entries_below f n id h, at_most_one id n)
      ]

  -- no node has two entries
  pub entries_once : (m : FinMap nat_cmp T) (n : ℕ) → ((id : ℕ) → n ≤ id → get m id ≡ None) → (id : ℕ) → count_by (λ (e : ℕ × T). e.0 == id) (entries m) ≤ 1
  entries_once m n none id = rw (entries_are m n none) (entries_below-once (get m) n id)

  length-entry_of : (id : ℕ) (value : Option T) → length (entry_of id value) ≤ 1
  length-entry_of id None = omega arith
  length-entry_of id (Some v) = omega arith

  length-entries_below : (f : ℕ → Option T) (n : ℕ) → length (entries_below f n) ≤ n
  unfolding entries_below
  length-entries_below f zero = omega arith
  length-entries_below f (suc n) = omega (arith, length-append (entries_below f n) (entry_of n (f n)), length-entry_of n (f n), length-entries_below f n)

  -- there are no more entries than nodes
  pub length-entries : (m : FinMap nat_cmp T) (n : ℕ) → ((id : ℕ) → n ≤ id → get m id ≡ None) → length (entries m) ≤ n
  length-entries m n none = rw (entries_are m n none) (length-entries_below (get m) n)
