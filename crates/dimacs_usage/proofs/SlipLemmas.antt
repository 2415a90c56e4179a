-- Files that aren't to be written, one by one.
use Rattle.std.proofs.Common.{◌≡◌, ◌<◌, ◌≤◌, ◌+◌, ◌++◌, ℕ, Contains, List, Some, length, map, arith, get_or, below_more, inl, inr, refl, slice_get, subst, take}
use Rattle.std.proofs.{lemmas.Bool.{cases_lt}, lemmas.List.{length-map}, lemmas.List.Elements.{Contains-append_right}}
use Rattle.std.proofs.lemmas.Option.{slice_get-map, slice_get-get_or, slice_get_past}
use Rattle.std.specs.Option.{IsSomeAnd}
use Rattle.dimacs_usage.specs.Slips.{IsWrong, IsWrongAt}

-- a number among those that are written is one of the others
pub written_too : (kept written : List ℕ) (n : ℕ) → Contains written n → Contains (kept ++ written) n
written_too kept written n within = Contains-append_right kept written n within

module _ {A : Type 0} (f : A → List ℕ) (kept : List ℕ) (names : List A) (numbers : List ℕ) where
  -- the file at a place has this name
  name_at : (place : ℕ) (a : A) → place < length names → a ≡ get_or names place a → slice_get (map f names) place ≡ Some (f a)
  name_at place a within is = rw (slice_get-map, slice_get-get_or names place a within, ← is) refl

  pub none_wrong_more : (place : ℕ) (a : A) → place < length names → a ≡ get_or names place a → ((earlier : ℕ) → earlier < place → ¬ IsWrongAt kept (map f names) numbers earlier)
      → ¬ IsWrong (kept ++ take place numbers) (f a) (slice_get numbers place) → (earlier : ℕ) → earlier < place + 1 → ¬ IsWrongAt kept (map f names) numbers earlier
  none_wrong_more place a within is before right =
      below_more (λ k. ¬ IsWrongAt kept (map f names) numbers k) place before (λ wrong. right (rw (name_at place a within is) at wrong))

  -- there is no file past the last one
  pub none_wrong_past : (n : ℕ) → length names ≤ n → ((earlier : ℕ) → earlier < n → ¬ IsWrongAt kept (map f names) numbers earlier) → (place : ℕ) → ¬ IsWrongAt kept (map f names) numbers place
  none_wrong_past n most before place wrong = elim (cases_lt place n) [
    | inl earlier ↦ before place earlier wrong
    | inr later ↦ absurd (subst (λ name. IsSomeAnd name (λ name. IsWrong (kept ++ take place numbers) name (slice_get numbers place))) (slice_get_past (map f names) place (omega (arith, length-map names f))) wrong)
  ]
