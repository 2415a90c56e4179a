-- Lists of IDs, and the IDs from 1 on that pass a test.
use Rattle.std.proofs.Common.{◌≡◌, inl, inr, ℕ, zero, suc, ◌<◌, ◌≤◌, ◌+◌, ◌-◌, ◌==◌, ◌||◌, ◌&&◌, List, [], ◌∷◌, ◌++◌, length, map, Option, Some, None, Bool, true, false, cond, refl, sym, ◌∙◌, ap, arith, rules}
use Rattle.std.proofs.lemmas.Bool.{and_right, eqb-true, cases_lt, cond_both, true_from_ne_false}
use Rattle.std.proofs.{lemmas.Bool.Decides.{nat_tests}, lemmas.List.{append-nil, map-append}}
use Rattle.std.proofs.lemmas.List.Elements.{filter-append, All-nil, All-cons}
use Rattle.std.specs.{Prelude.{count_by}, List.{All, filter, list_any, range_with_len}}
use Rattle.dimacs_records.specs.{declared.records.Record.{Record}, Canonical.{AreLines, records_of_line}}
use Rattle.dimacs_claims.specs.Cuts.{is_id}
use Rattle.dimacs_network.specs.Skips.{Skips}
use Rattle.dimacs_network.proofs.SkipLemmas.{skipped}
use Rattle.dimacs_records.proofs.CountLemmas.{count_by-cons, count_yes, count_no, none_counted}

-- each ID from a on is listed once
range_before : (id a n : ℕ) → id < a → count_by (is_id id) (range_with_len a n) ≡ 0
range_before id a zero h = refl
range_before id a (suc n) h = let apart : is_id id a ≡ false = grind (arith, nat_tests, h) in omega (arith, count_no (is_id id) a (range_with_len (a + 1) n) apart, range_before id (a + 1) n (omega (arith, h)))

range_once : (id a n : ℕ) → a ≤ id → id < a + n → count_by (is_id id) (range_with_len a n) ≡ 1
range_once id a zero least below = absurd (omega (arith, least, below))
range_once id a (suc n) least below =
    elim (cases_lt a id) [
      | inl more ↦
          let apart : is_id id a ≡ false = grind (arith, nat_tests, more) in
          omega (arith, count_no (is_id id) a (range_with_len (a + 1) n) apart, range_once id (a + 1) n (omega (arith, more)) (omega (arith, below)))
      | inr most ↦
          let same : is_id id a ≡ true = grind (arith, nat_tests, most, least) in
          omega (arith, count_yes (is_id id) a (range_with_len (a + 1) n) same, range_before id (a + 1) n (omega (arith, most)))
    ]

range_past : (id a n : ℕ) → a + n ≤ id → count_by (is_id id) (range_with_len a n) ≡ 0
range_past id a zero h = refl
range_past id a (suc n) h = let apart : is_id id a ≡ false = grind (arith, nat_tests, h) in omega (arith, count_no (is_id id) a (range_with_len (a + 1) n) apart, range_past id (a + 1) n (omega (arith, h)))

range_next : (a n : ℕ) → range_with_len a (suc n) ≡ range_with_len a n ++ (a + n) ∷ []
range_next a zero = let e : a ≡ a + 0 = omega arith in ap (λ x. x ∷ []) e
range_next a (suc n) = let e : a + 1 + n ≡ a + suc n = omega arith in ap (λ l. a ∷ l) (range_next (a + 1) n ∙ ap (λ x. range_with_len (a + 1) n ++ x ∷ []) e)

range_at_most_once : (id n : ℕ) → count_by (is_id id) (range_with_len 1 n) ≤ 1
range_at_most_once id n =
    elim (cases_lt id 1) [
      | inl less ↦ omega (arith, range_before id 1 n less)
      | inr least ↦ elim (cases_lt id (1 + n)) [ inl below ↦ omega (arith, range_once id 1 n least below) | inr past ↦ omega (arith, range_past id 1 n past) ]
    ]

pub count_map : {A B : Type 0} (p : B → Bool) (f : A → B) (xs : List A) → count_by p (map f xs) ≡ count_by (λ x. p (f x)) xs
count_map p f [] = refl
count_map p f (x ∷ xs) = count_by-cons p (f x) (map f xs) ∙ ap (λ n. cond (p (f x)) 1 0 + n) (count_map p f xs) ∙ sym (count_by-cons (λ x. p (f x)) x xs)

-- a filtered list doesn't have more items that pass
count_filter : (p q : ℕ → Bool) (xs : List ℕ) → count_by q (filter p xs) ≤ count_by q xs
count_filter p q [] = omega arith
count_filter p q (x ∷ xs) =
    let rest = count_filter p q xs in
    cond_both (p x) (x ∷ filter p xs) (filter p xs) (λ ys. count_by q ys ≤ count_by q (x ∷ xs))
    (λ _. omega (arith, rest, count_by-cons q x (filter p xs), count_by-cons q x xs)) (λ _. omega (arith, rest, count_by-cons q x xs))

-- the IDs from 1 to n that pass
abbrev pub passing : (ℕ → Bool) → ℕ → List ℕ
passing p n = filter p (range_with_len 1 n)

pub passing_once : (p : ℕ → Bool) (n id : ℕ) → count_by (is_id id) (passing p n) ≤ 1
passing_once p n id = omega (arith, count_filter p (is_id id) (range_with_len 1 n), range_at_most_once id n)

-- the passing IDs below one and up to it
pub passing_below : (p : ℕ → Bool) (id : ℕ) → 1 ≤ id → passing p (id + 1 - 1) ≡ passing p (id - 1) ++ filter p (id ∷ [])
passing_below p id least =
    let after : id + 1 - 1 ≡ suc (id - 1) = omega (arith, least) in
    let this : 1 + (id - 1) ≡ id = omega (arith, least) in
    ap (passing p) after ∙ ap (filter p) (range_next 1 (id - 1)) ∙ filter-append p (range_with_len 1 (id - 1)) ((1 + (id - 1)) ∷ [])
    ∙ ap (λ n. passing p (id - 1) ++ filter p (n ∷ [])) this

-- no ID passes from one up to another
pub skipped_passing : (p : ℕ → Bool) (from end to : ℕ) → 1 ≤ from → Skips (λ id. p id ≡ false) from end to → passing p (to - 1) ≡ passing p (from - 1)
skipped_passing p from end to least is =
    skipped _ (λ n. passing p (n - 1) ≡ passing p (from - 1)) from end to is
    (λ id more below none h. passing_below p id (omega (arith, least, more)) ∙ ap (λ b. passing p (id - 1) ++ cond b (id ∷ []) []) none ∙ append-nil (passing p (id - 1)) ∙ h) refl

-- the same, if IDs are given from 0
pub skipped_lines : (p : ℕ → Bool) (i end j : ℕ) → Skips (λ id. p id ≡ false) (i + 1) end (j + 1) → passing p j ≡ passing p i
skipped_lines p i end j is =
    let from : i + 1 - 1 ≡ i = omega arith in
    let to : j + 1 - 1 ≡ j = omega arith in
    sym (ap (passing p) to) ∙ skipped_passing p (i + 1) end (j + 1) (omega arith) is ∙ ap (passing p) from

-- a line for each ID that passes
pub lines_of_passing : (p : ℕ → Bool) (line : ℕ → Record) (spells : ℕ → Option Record → Type 0) (n : ℕ)
    → ((i : ℕ) (rec : Option Record) → i < n → spells i rec → rec ≡ cond (p (i + 1)) (Some (line (i + 1))) None) → AreLines spells n (λ i. map line (passing p i))
lines_of_passing p line spells n each = record {
  none = refl;
  more = λ i rec within e.
      let next : passing p (i + 1) ≡ passing p i ++ filter p ((i + 1) ∷ []) = search (rules, passing_below p (i + 1) (omega arith)) in
      ap (map line) next ∙ map-append line (passing p i) (filter p ((i + 1) ∷ [])) ∙ ap (λ rs. map line (passing p i) ++ rs)
      (cond_both (p (i + 1)) _ _ (λ ids. map line ids ≡ records_of_line rec) (λ t. rw (each i rec within e, t) refl) (λ t. rw (each i rec within e, t) refl));
}

length_filter : (p : ℕ → Bool) (a n : ℕ) → length (filter p (range_with_len a n)) ≤ n
length_filter p a zero = omega arith
length_filter p a (suc n) =
    let more = filter p (range_with_len (a + 1) n) in
    let rest = length_filter p (a + 1) n in
    cond_both (p a) (a ∷ more) more (λ ys. length ys ≤ suc n) (λ _. omega (arith, rest)) (λ _. omega (arith, rest))

pub passing_few : (p : ℕ → Bool) (n : ℕ) → length (passing p n) ≤ n
passing_few p n = length_filter p 1 n

pub none_passing : (p : ℕ → Bool) (xs : List ℕ) → ((x : ℕ) → p x ≡ false) → filter p xs ≡ []
none_passing p [] none = refl
none_passing p (x ∷ xs) none = ap (λ b. cond b (x ∷ filter p xs) (filter p xs)) (none x) ∙ none_passing p xs none

pub All-passing : (P : ℕ → Type 0) (p : ℕ → Bool) (xs : List ℕ) → ((x : ℕ) → p x ≡ true → P x) → All P (filter p xs)
All-passing P p [] h = All-nil P
All-passing P p (x ∷ xs) h =
    let rest = All-passing P p xs h in
    cond_both (p x) (x ∷ filter p xs) (filter p xs) (All P) (λ e. All-cons P x (filter p xs) (h x e) rest) (λ _. rest)

-- an ID is in the filtered list if it passes and is in the list
listed_passing : (p : ℕ → Bool) (id : ℕ) (xs : List ℕ) → list_any (is_id id) (filter p xs) ≡ (p id && list_any (is_id id) xs)
listed_passing p id [] = sym (and_right (p id) false refl)
listed_passing p id (x ∷ xs) = by_tests (x == id) (p x) refl refl (listed_passing p id xs)
  where
    by_tests : (s b : Bool) → (x == id) ≡ s → p x ≡ b → list_any (is_id id) (filter p xs) ≡ (p id && list_any (is_id id) xs)
        → list_any (is_id id) (cond b (x ∷ filter p xs) (filter p xs)) ≡ (p id && (s || list_any (is_id id) xs))
    by_tests true true same e rest = ap (λ s. s || list_any (is_id id) (filter p xs)) same ∙ sym (ap (λ b. b && true) (ap p (sym (eqb-true x id same)) ∙ e))
    by_tests true false same e rest =
        let fails : p id ≡ false = ap p (sym (eqb-true x id same)) ∙ e in
        rest ∙ ap (λ b. b && list_any (is_id id) xs) fails ∙ sym (ap (λ b. b && true) fails)
    by_tests false true apart e rest = ap (λ s. s || list_any (is_id id) (filter p xs)) apart ∙ rest
    by_tests false false apart e rest = rest

some_listed : (id : ℕ) (xs : List ℕ) → count_by (is_id id) xs ≡ 1 → list_any (is_id id) xs ≡ true
some_listed id xs one = true_from_ne_false (list_any (is_id id) xs) (λ none. omega (arith, one, none_counted (is_id id) xs none))

-- if only IDs from 1 to n pass, the list has exactly those that pass
pub passing_listed : (p : ℕ → Bool) (n id : ℕ) → (p id ≡ true → (1 ≤ id) × (id ≤ n)) → list_any (is_id id) (passing p n) ≡ p id
passing_listed p n id within = listed_passing p id (range_with_len 1 n) ∙ by_test (p id) refl
  where
    by_test : (b : Bool) → p id ≡ b → (b && list_any (is_id id) (range_with_len 1 n)) ≡ b
    by_test true e = let node = within e in some_listed id (range_with_len 1 n) (range_once id 1 n node.0 (omega (arith, node.1)))
    by_test false e = refl

-- one more ID passes
one_passing : (p q : ℕ → Bool) (id : ℕ) (xs : List ℕ) → p id ≡ false → ((x : ℕ) → q x ≡ ((x == id) || p x)) → length (filter q xs) ≡ length (filter p xs) + count_by (is_id id) xs
one_passing p q id [] new is = refl
one_passing p q id (x ∷ xs) new is = ap (λ b. length (cond b (x ∷ filter q xs) (filter q xs))) (is x) ∙ by_tests (x == id) (p x) refl refl (one_passing p q id xs new is)
  where
    by_tests : (s b : Bool) → (x == id) ≡ s → p x ≡ b → length (filter q xs) ≡ length (filter p xs) + count_by (is_id id) xs
        → length (cond (s || b) (x ∷ filter q xs) (filter q xs)) ≡ length (cond b (x ∷ filter p xs) (filter p xs)) + count_by (is_id id) (x ∷ xs)
    by_tests true true same e rest = absurd (cc (ap p (sym (eqb-true x id same)) ∙ e, new))
    by_tests true false same e rest = omega (arith, rest, count_yes (is_id id) x xs same)
    by_tests false true apart e rest = omega (arith, rest, count_no (is_id id) x xs apart)
    by_tests false false apart e rest = omega (arith, rest, count_no (is_id id) x xs apart)

pub passing_more : (p q : ℕ → Bool) (n id : ℕ) → p id ≡ false → ((x : ℕ) → q x ≡ ((x == id) || p x)) → (1 ≤ id) × (id ≤ n) → length (passing q n) ≡ length (passing p n) + 1
passing_more p q n id new is node = omega (arith, one_passing p q id (range_with_len 1 n) new is, range_once id 1 n node.0 (omega (arith, node.1)))
