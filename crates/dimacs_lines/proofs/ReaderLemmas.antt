-- The bytes held, and the text that is left.
use Rattle.std.proofs.Common.{◌≡◌, ◌≢◌, ◌+◌, ◌-◌, ◌<◌, ◌≤◌, ◌++◌, ◌∷◌, [], ℕ, List, Option, Some, None, Result, Ok, Err, length, drop, refl, ap, sym, ◌∙◌, arith, inl, inr, length-append, append_assoc, append-nil, eq-eqb, Bool, true, false}
use Rattle.std.proofs.{lemmas.Bool.{eqb-true}, lemmas.List.{drop_at, length-take}}
use Rattle.std.proofs.{lemmas.List.Folds.{prefix_len-append}, lemmas.List.Sums.{prefix_len-le-length}}
use Rattle.std.specs.{Prelude.{◌==◌, not}, List.{position_or_len, before_first, after_first}}
use Rattle.dimacs_lines.specs.{declared.reader.LinesError.{LinesError}, declared.reader.Progress.TheVariants.{Open}}
use Rattle.dimacs_lines.specs.declared.reader.LinesError.TheVariants.{TooMany, TooLong, Device, Memory}
use Rattle.dimacs_lines.specs.{Limits.{longest_line}, Devices.{before_piece}, Lines.{is_end, lines}}
use Rattle.dimacs_lines.specs.{Reader.{State, NextLine, ComesAt}, inside.Buffer.{IsEnough, GivesHeld, RefusesFirst}}
use Rattle.dimacs_lines.proofs.TextLemmas.{lines_step, before_first-whole, after_first-whole}

pub before_piece-before_piece : (a b : List ℕ) (rest : Option (List ℕ)) → before_piece a (before_piece b rest) ≡ before_piece (a ++ b) rest
before_piece-before_piece a b None = refl
before_piece-before_piece a b (Some rest) = ap (λ x. Some x) (sym (append_assoc a b rest))

-- where the first line end stands after a front without one
pub position_or_len-after : (xs ys : List ℕ) → position_or_len is_end xs ≡ length xs → position_or_len is_end (xs ++ ys) ≡ length xs + position_or_len is_end ys
position_or_len-after xs ys none = prefix_len-append (λ b. not (is_end b)) xs ys ∙ rw (none, eq-eqb (length xs) (length xs) refl) refl

-- the length of the first line after a piece was appended to bytes without a line end
pub length_goes_on : (held piece now : List ℕ) (so_far more count : ℕ) → so_far ≡ position_or_len is_end held → length held ≤ so_far → length piece ≡ count → now ≡ held ++ piece → more ≡ position_or_len is_end (drop (length now - count) now)
    → so_far + more ≡ position_or_len is_end now
length_goes_on held piece now so_far more count place none size is last =
    let short : so_far ≤ length held = omega (arith, place, prefix_len-le-length (λ b. not (is_end b)) held) in
    let no_end : position_or_len is_end held ≡ length held = omega (arith, place) in
    let after : length now - count ≡ length held = rw (is, length-append held piece) (omega arith) in
    let piece_is : drop (length now - count) now ≡ piece = rw after (ap (drop (length held)) is ∙ drop_at held piece (length held) refl) in
    let more_is : more ≡ position_or_len is_end piece = last ∙ ap (position_or_len is_end) piece_is in
    let whole : position_or_len is_end now ≡ length held + position_or_len is_end piece = ap (position_or_len is_end) is ∙ position_or_len-after held piece no_end in
    omega (arith, whole, more_is, no_end)

-- more bytes don't make the first line shorter
position_or_len-append-le : (xs ys : List ℕ) → position_or_len is_end xs ≤ position_or_len is_end (xs ++ ys)
position_or_len-append-le xs ys = by_test (position_or_len is_end xs == length xs) refl
  where
    by_test : (b : Bool) → (position_or_len is_end xs == length xs) ≡ b → position_or_len is_end xs ≤ position_or_len is_end (xs ++ ys)
    by_test true h = let place : position_or_len is_end xs ≡ length xs = eqb-true _ _ h in omega (arith, place, position_or_len-after xs ys place)
    by_test false h = let same : position_or_len is_end (xs ++ ys) ≡ position_or_len is_end xs = prefix_len-append (λ b. not (is_end b)) xs ys ∙ rw h refl in omega (arith, same)

-- the text that is left, if the source's bytes are known
record Told (held : List ℕ) (coming : Option (List ℕ)) (text : List ℕ) : Type 0 where
  more : List ℕ
  coming_is : coming ≡ Some more
  text_is : text ≡ held ++ more

told : (held : List ℕ) (coming left : Option (List ℕ)) (text : List ℕ) → left ≡ before_piece held coming → left ≡ Some text → Told held coming text
told held None left text h e = let no : None ≡ Some text = sym h ∙ e in absurd (cc)
told held (Some more) left text h e = let same : Some (held ++ more) ≡ Some text = sym h ∙ e in record { more = more; coming_is = refl; text_is = cc }

not_empty : (xs ys : List ℕ) → xs ≢ [] → xs ++ ys ≢ []
not_empty [] ys some h = some refl
not_empty (x ∷ xs) ys some h = cc

short_line : (held : List ℕ) → position_or_len is_end held ≤ longest_line → length (before_first is_end held) ≤ longest_line
short_line held short = omega (arith, length-take (position_or_len is_end held) held, short)

-- the first line held is the first line left
first_left : (held more : List ℕ) (coming : Option (List ℕ)) → coming ≡ Some more → IsEnough held coming → held ≢ [] → position_or_len is_end held ≤ longest_line → lines (held ++ more) ≡ before_first is_end held ∷ lines (after_first is_end held ++ more)
first_left held more coming is (inl whole) some short =
    lines_step (held ++ more) (not_empty held more some) ∙ ap (λ line. line ∷ lines (after_first is_end (held ++ more))) (before_first-whole held more whole)
    ∙ ap (λ rest. before_first is_end held ∷ lines rest) (after_first-whole held more whole)
first_left held more coming is (inr (inl none)) some short =
    let nothing : more ≡ [] = none more is in
    ap (λ xs. lines (held ++ xs)) nothing ∙ ap lines (append-nil held) ∙ lines_step held some
    ∙ ap (λ rest. before_first is_end held ∷ lines rest) (sym (ap (λ xs. after_first is_end held ++ xs) nothing ∙ append-nil (after_first is_end held)))
first_left held more coming is (inr (inr long)) some short = absurd (omega (arith, long, short))

nothing_left : (held more : List ℕ) (coming : Option (List ℕ)) → coming ≡ Some more → IsEnough held coming → held ≡ [] → lines (held ++ more) ≡ []
nothing_left held more coming is (inl whole) none = absurd (omega (arith, ap length none, whole))
nothing_left held more coming is (inr (inl end)) none = ap lines (ap (λ xs. xs ++ more) none ∙ end more is)
nothing_left held more coming is (inr (inr long)) none = absurd (omega (arith, ap length none, long, prefix_len-le-length (λ b. not (is_end b)) held))

comes_left : (error : LinesError) (old mid : State) (coming left : Option (List ℕ)) → mid.given ≡ old.given → left ≡ before_piece mid.held coming → RefusesFirst mid error → ComesAt old left error
comes_left (TooMany number) old mid coming left given is refused = (omega (arith, refused.0, given), refused.1, some)
  where
    some : (text : List ℕ) → left ≡ Some text → lines text ≢ []
    some text e none =
        let t = told mid.held coming left text is e in
        let step : lines text ≡ before_first is_end text ∷ lines (after_first is_end text) = lines_step text (λ empty. not_empty mid.held t.more refused.2 (sym t.text_is ∙ empty)) in
        absurd (cc)
comes_left (TooLong number) old mid coming left given is refused = (omega (arith, refused.0, given), refused.1, long)
  where
    long : (text : List ℕ) → left ≡ Some text → (line : List ℕ) × (rest : List (List ℕ)) × (lines text ≡ line ∷ rest) × (longest_line < length line)
    long text e =
        let t = told mid.held coming left text is e in
        let after : position_or_len is_end mid.held ≤ position_or_len is_end text = rw t.text_is (position_or_len-append-le mid.held t.more) in
        let within = prefix_len-le-length (λ b. not (is_end b)) text in
        let step : lines text ≡ before_first is_end text ∷ lines (after_first is_end text) = lines_step text (λ empty. omega (arith, ap length empty, after, within, refused.2)) in
        (before_first is_end text, lines (after_first is_end text), step, omega (arith, length-take (position_or_len is_end text) text, after, within, refused.2))
comes_left Device old mid coming left given is refused = absurd refused
comes_left Memory old mid coming left given is refused = absurd refused

-- the result for the bytes held is the result for all that is left
pub answers_left : (result : Result (Option ℕ) LinesError) (old mid new : State) (coming left : Option (List ℕ)) → mid.given ≡ old.given → mid.progress ≡ Open → left ≡ before_piece mid.held coming → IsEnough mid.held coming → GivesHeld mid new result → NextLine old new left (before_piece new.held coming) result
answers_left (Ok (Some number)) old mid new coming left given open_still is enough g = record {
  next = omega (arith, g.next, given);
  counted = g.counted;
  open_still = g.same_progress ∙ open_still;
  few = g.few;
  short = rw g.line (short_line mid.held g.short);
  first = first;
}
  where
    first : (text : List ℕ) → left ≡ Some text → (rest : List ℕ) × (before_piece new.held coming ≡ Some rest) × (lines text ≡ new.line ∷ lines rest)
    first text e =
        let t = told mid.held coming left text is e in
        (new.held ++ t.more, ap (before_piece new.held) t.coming_is, ap lines t.text_is ∙ rw (g.line, g.rest) (first_left mid.held t.more coming t.coming_is enough g.some g.short))
answers_left (Ok None) old mid new coming left given open_still is enough g = record {
  ended = ap (λ (s : State). s.progress) g.1;
  no_line = ap (λ (s : State). s.line) g.1;
  none = λ text e. let t = told mid.held coming left text is e in ap lines t.text_is ∙ nothing_left mid.held t.more coming t.coming_is enough g.0;
}
answers_left (Err error) old mid new coming left given open_still is enough g = record {
  comes = comes_left error old mid coming left given is g.0;
  given = ap (λ (s : State). s.given) g.1 ∙ given;
  failed = ap (λ (s : State). s.progress) g.1;
  no_line = ap (λ (s : State). s.line) g.1;
}
