-- The first item of a list, by a search.
use Rattle.std.proofs.Common.{◌≡◌, ◌++◌, ◌∷◌, [], List, Bool, true, false, Option, Some, None, refl, ap, sym, ◌∙◌, subst}
use Rattle.std.proofs.lemmas.List.Elements.{All-nil, All-cons, All-head, All-tail}
use Rattle.std.specs.{Prelude.{IsTrue, if◌then◌else◌}, List.{All}}
use Rattle.dimacs_records.specs.Order.{FirstOf}

-- the first item that passes a test
abbrev pub first_by : {X : Type 0} → (X → Bool) → List X → Option X
first_by test [] = None
first_by test (x ∷ xs) = if test x then Some x else first_by test xs

-- only one item is the first
unique : {X : Type 0} (P : X → Type 0) (before before' after after' : List X) (x y : X) → before ++ x ∷ after ≡ before' ++ y ∷ after' → All (λ z. ¬ P z) before → All (λ z. ¬ P z) before' → P x → P y → x ≡ y
unique P [] [] after after' x y e n n' p q = cc
unique P [] (b ∷ bs) after after' x y e n n' p q = let same : x ≡ b = cc in absurd (All-head (λ z. ¬ P z) b bs n' (subst P same p))
unique P (b ∷ bs) [] after after' x y e n n' p q = let same : b ≡ y = cc in absurd (All-head (λ z. ¬ P z) b bs n (subst P (sym same) q))
unique P (b ∷ bs) (c ∷ cs) after after' x y e n n' p q = unique P bs cs after after' x y (cc) (All-tail (λ z. ¬ P z) b bs n) (All-tail (λ z. ¬ P z) c cs n') p q

pub first_unique : {X : Type 0} (P : X → Type 0) (all : List X) (x y : X) → FirstOf P all x → FirstOf P all y → x ≡ y
first_unique P all x y f g = unique P f.before g.before f.after g.after x y (sym f.all_is ∙ g.all_is) f.none_before g.none_before f.holds g.holds

ne_false : (b : Bool) → b ≡ false → ¬ (b ≡ true)
ne_false true h = absurd (cc)
ne_false false h = λ e. absurd (cc)

is_first_at : {X : Type 0} (test : X → Bool) (y : X) (all : List X) (x : X) (b : Bool) → test y ≡ b → first_by test (y ∷ all) ≡ Some x → (first_by test all ≡ Some x → FirstOf (λ z. IsTrue (test z)) all x) → FirstOf (λ z. IsTrue (test z)) (y ∷ all) x
is_first_at test y all x true h e more =
    let found : first_by test (y ∷ all) ≡ Some y = rw h refl in
    let same : y ≡ x = cc in
    record { before = []; after = all; all_is = ap (λ z. z ∷ all) same; none_before = All-nil (λ z. ¬ IsTrue (test z)); holds = subst (λ z. IsTrue (test z)) same h }
is_first_at test y all x false h e more =
    let past : first_by test (y ∷ all) ≡ first_by test all = rw h refl in
    let f = more (sym past ∙ e) in
    record { before = y ∷ f.before; after = f.after; all_is = ap (λ t. y ∷ t) f.all_is; none_before = All-cons (λ z. ¬ IsTrue (test z)) y f.before (ne_false (test y) h) f.none_before; holds = f.holds }

pub is_first : {X : Type 0} (test : X → Bool) (all : List X) (x : X) → first_by test all ≡ Some x → FirstOf (λ z. IsTrue (test z)) all x
is_first test [] x e = absurd (cc)
is_first test (y ∷ all) x e = is_first_at test y all x (test y) refl e (is_first test all x)

none_at : {X : Type 0} (test : X → Bool) (y : X) (all : List X) (b : Bool) → test y ≡ b → first_by test (y ∷ all) ≡ None → (test y ≡ false) × (first_by test all ≡ None)
none_at test y all true h e = let found : first_by test (y ∷ all) ≡ Some y = rw h refl in absurd (cc)
none_at test y all false h e = let past : first_by test (y ∷ all) ≡ first_by test all = rw h refl in (h, sym past ∙ e)

-- if none is found, none passes
pub none_is : {X : Type 0} (test : X → Bool) (all : List X) → first_by test all ≡ None → All (λ z. ¬ IsTrue (test z)) all
none_is test [] e = All-nil (λ z. ¬ IsTrue (test z))
none_is test (y ∷ all) e = let p = none_at test y all (test y) refl e in All-cons (λ z. ¬ IsTrue (test z)) y all (ne_false (test y) p.0) (none_is test all p.1)
