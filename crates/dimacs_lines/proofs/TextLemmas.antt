-- The first line of a text, and what follows it.
use Rattle.std.proofs.Common.{◌≡◌, ◌≢◌, ◌+◌, ◌<◌, ◌++◌, ◌∷◌, [], ℕ, suc, List, Option, Some, None, Bool, true, false, length, take, drop, get_or, refl, ap, sym, ◌∙◌, arith, length-append}
use Rattle.std.proofs.{Math.ListN.{get_or-append}, lemmas.Bool.{false_from_ne_true}}
use Rattle.std.proofs.lemmas.List.{take-append-le, drop-append-le}
use Rattle.std.proofs.lemmas.List.Sums.{position_or_len_is, fails_before_first, passes_at_first}
use Rattle.std.specs.{Prelude.{unwrap_or}, List.{position_or_len, onto_first, before_first, after_first}}
use Rattle.memchr.specs.Find.{IsFirstByte, is_byte}
use Rattle.dimacs_lines.specs.Lines.{is_end, lines}

-- the place of the first byte 10, or the length
pub unwrap_or-first_end : (xs : List ℕ) (place : Option ℕ) → IsFirstByte (is_byte 10) xs place → unwrap_or place (length xs) ≡ position_or_len is_end xs
unwrap_or-first_end xs None h = sym (position_or_len_is is_end xs (length xs) 0 (omega arith) (λ k below. false_from_ne_true (is_end (get_or xs k 0)) (h k (omega arith) below)) (λ below. absurd (omega arith)))
unwrap_or-first_end xs (Some n) h = sym (position_or_len_is is_end xs n 0 (omega (arith, h.0.high)) (λ k below. false_from_ne_true (is_end (get_or xs k 0)) (h.0.before k (omega arith) below)) (λ _. h.1))

-- a line that is whole in a front of the text is the first line of the text
pub position_or_len-whole : (xs ys : List ℕ) → position_or_len is_end xs < length xs → position_or_len is_end (xs ++ ys) ≡ position_or_len is_end xs
position_or_len-whole xs ys h =
    let at = position_or_len is_end xs in
    position_or_len_is is_end (xs ++ ys) at 0 (omega (arith, length-append xs ys))
    (λ k below. ap is_end (get_or-append xs ys 0 k (omega arith)) ∙ fails_before_first is_end xs k 0 below)
    (λ _. ap is_end (get_or-append xs ys 0 at h) ∙ passes_at_first is_end xs 0 h)

pub before_first-whole : (xs ys : List ℕ) → position_or_len is_end xs < length xs → before_first is_end (xs ++ ys) ≡ before_first is_end xs
before_first-whole xs ys h = rw (position_or_len-whole xs ys h) (take-append-le _ xs ys (omega arith))

pub after_first-whole : (xs ys : List ℕ) → position_or_len is_end xs < length xs → after_first is_end (xs ++ ys) ≡ after_first is_end xs ++ ys
after_first-whole xs ys h = rw (position_or_len-whole xs ys h) (drop-append-le _ xs ys (omega arith))

take_one_more : (n b : ℕ) (bs : List ℕ) → take (1 + n) (b ∷ bs) ≡ b ∷ take n bs
take_one_more n b bs = let e : 1 + n ≡ suc n = omega arith in rw e refl

drop_one_more : (n b : ℕ) (bs : List ℕ) → drop (1 + n + 1) (b ∷ bs) ≡ drop (n + 1) bs
drop_one_more n b bs = let e : 1 + n + 1 ≡ suc (n + 1) = omega arith in rw e refl

before_first_more : (b : ℕ) (bs : List ℕ) → is_end b ≡ false → before_first is_end (b ∷ bs) ≡ b ∷ before_first is_end bs
before_first_more b bs h = rw h (take_one_more (position_or_len is_end bs) b bs)

after_first_more : (b : ℕ) (bs : List ℕ) → is_end b ≡ false → after_first is_end (b ∷ bs) ≡ after_first is_end bs
after_first_more b bs h = rw h (drop_one_more (position_or_len is_end bs) b bs)

abbrev first_and_later : List ℕ → List (List ℕ)
first_and_later text = before_first is_end text ∷ lines (after_first is_end text)

lines_at : (b : ℕ) (bs : List ℕ) (test : Bool) → is_end b ≡ test → (bs ≢ [] → lines bs ≡ first_and_later bs) → lines (b ∷ bs) ≡ first_and_later (b ∷ bs)
lines_at b bs true h more = rw h refl
lines_at b [] false h more = rw h refl
lines_at b (c ∷ cs) false h more =
    let some : (c ∷ cs) ≢ [] = λ none. cc in
    let joined : lines (b ∷ c ∷ cs) ≡ onto_first b (lines (c ∷ cs)) = rw h refl in
    joined ∙ ap (onto_first b) (more some) ∙ sym (ap (λ x. x ∷ lines (after_first is_end (b ∷ c ∷ cs))) (before_first_more b (c ∷ cs) h) ∙ ap (λ x. (b ∷ before_first is_end (c ∷ cs)) ∷ lines x) (after_first_more b (c ∷ cs) h))

-- a text that isn't empty is its first line and the later ones
pub lines_step : (text : List ℕ) → text ≢ [] → lines text ≡ before_first is_end text ∷ lines (after_first is_end text)
lines_step [] some = absurd (some refl)
lines_step (b ∷ bs) some = lines_at b bs (is_end b) refl (lines_step bs)
