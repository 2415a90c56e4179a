-- Pieces that lie one after another in a buffer.
use Rattle.std.proofs.Common.{◌≡◌, ◌+◌, ◌-◌, ◌≤◌, ◌++◌, ℕ, List, Result, Ok, Err, length, take, drop, ap, sym, ◌∙◌, arith, length-drop}
use Rattle.std.proofs.{lemmas.Slice.{between_from_start, between_is}, Math.Seq.{take-add}}
use Rattle.std.proofs.lemmas.List.{drop_at, take-append-le, length-take-le, drop-drop, drop_min, take-take}
use Rattle.std.proofs.{lemmas.List.Sums.{prefix_len-le-length}, lemmas.List.Edits.{length-between}}
use Rattle.std.specs.{Prelude.{IfOk, slice_range, min, Bool, not}, List.{position_or_len}}
use borrow.Rule.Slice.PartMut.{put_mid}

-- reading back what was put after a front of this length
pub take-drop-put_mid : (xs piece : List ℕ) (a k n : ℕ) → a ≤ length xs → n ≤ length piece → take n (drop a (put_mid a k xs piece)) ≡ take n piece
take-drop-put_mid xs piece a k n within le =
    ap (take n) (drop_at (take a xs) (piece ++ drop k (drop a xs)) a (length-take-le a xs within)) ∙ take-append-le n piece (drop k (drop a xs)) le

-- a third clause follows from two clauses about the value
pub IfOk-both : {T E : Type 0} (r : Result T E) (P Q R : T → Type 0) → ((x : T) → P x → Q x → R x) → IfOk r P → IfOk r Q → IfOk r R
IfOk-both (Ok x) P Q R f p q = f x p q
IfOk-both (Err e) P Q R f p q = p

-- the piece lies right after what was moved to the front
pub held_and_piece : (before moved grown pulled : List ℕ) (start end count : ℕ) → take (end - start) moved ≡ slice_range before start end → take (end - start) grown ≡ take (end - start) moved → take (end - start) pulled ≡ take (end - start) grown
    → slice_range pulled 0 (end - start + count) ≡ slice_range before start end ++ take count (drop (end - start) pulled)
held_and_piece before moved grown pulled start end count a b c =
    between_from_start pulled (end - start + count) ∙ take-add (end - start) count pulled ∙ ap (λ xs. xs ++ take count (drop (end - start) pulled)) (c ∙ b ∙ a)

pub length-piece : (xs : List ℕ) (k count : ℕ) → k + count ≤ length xs → length (take count (drop k xs)) ≡ count
length-piece xs k count within = length-take-le count (drop k xs) (rw (length-drop k xs) (omega arith))

-- the last bytes of a part of the buffer
pub last_of_slice : (xs : List ℕ) (start end count : ℕ) → start ≤ end → end ≤ length xs → count ≤ length (slice_range xs start end) → slice_range xs (end - count) end ≡ drop (length (slice_range xs start end) - count) (slice_range xs start end)
last_of_slice xs start end count ordered within few =
    let size : length (slice_range xs start end) ≡ end - start = length-between xs start end within in
    let rest = length (slice_range xs start end) - count in
    let place : end - count ≡ start + rest = omega (arith, size, few) in
    between_is xs (end - count) end ∙ ap (λ k. drop k (take end xs)) place ∙ sym (drop-drop rest start (take end xs)) ∙ ap (drop rest) (sym (between_is xs start end))

-- what stands before and after the first line in a part of the buffer
pub before_first_of_slice : (xs : List ℕ) (start end n : ℕ) → n ≤ end - start → slice_range xs start (start + n) ≡ take n (slice_range xs start end)
before_first_of_slice xs start end n within =
    let size : start + n - start ≡ n = omega arith in
    ap (λ k. take k (drop start xs)) size ∙ sym (take-take n (end - start) (drop start xs) within)

pub after_first_of_slice : (xs : List ℕ) (start end n : ℕ) → start ≤ end → end ≤ length xs → slice_range xs (min end (start + n + 1)) end ≡ drop (n + 1) (slice_range xs start end)
after_first_of_slice xs start end n ordered within =
    let size : length (take end xs) ≡ end = length-take-le end xs within in
    let place : min end (start + n + 1) ≡ min (start + (n + 1)) (length (take end xs)) = omega (arith, size) in
    between_is xs (min end (start + n + 1)) end ∙ ap (λ k. drop k (take end xs)) place ∙ drop_min (start + (n + 1)) (take end xs)
    ∙ sym (drop-drop (n + 1) start (take end xs)) ∙ ap (drop (n + 1)) (sym (between_is xs start end))

-- the first line of a part of the buffer lies within it
pub first_within_slice : (p : ℕ → Bool) (xs : List ℕ) (start end n : ℕ) → end ≤ length xs → n ≡ position_or_len p (slice_range xs start end) → n ≤ end - start
first_within_slice p xs start end n within place =
    omega (arith, length-between xs start end within, prefix_len-le-length (λ b. not (p b)) (slice_range xs start end))
