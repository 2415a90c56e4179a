use Rattle.std.proofs.Common.{◌≡◌, ◌≢◌, ◌≤◌, ◌<◌, ◌-◌, ◌++◌, ◌∷◌, [], ℕ, List, Option, None, Some, Ok, ◌∙◌, ap, sym, arith, inl, inr, length, subst, append-nil, length-append}
use Rattle.std.specs.{Prelude.{IfSome}, List.{position_or_len}}
use Rattle.dimacs_lines.specs.{Devices.{before_piece}, Lines.{is_end}}
use Rattle.dimacs_lines.proofs.ReaderLemmas.{before_piece-before_piece, length_goes_on}
use Rattle.dimacs_lines.proofs.reader.Lines.find_end.Goals as goal

-- the text that is left stays the same while pieces are pulled
left_goes_on : (left before after : Option (List ℕ)) (held piece now : List ℕ) → left ≡ before_piece held before → before ≡ before_piece piece after → now ≡ held ++ piece → left ≡ before_piece now after
left_goes_on left before after held piece now so_far given is =
    so_far ∙ ap (before_piece held) given ∙ before_piece-before_piece held piece after ∙ ap (λ xs. before_piece xs after) (sym is)

nothing_more : (held piece now : List ℕ) (count : ℕ) → length piece ≡ count → count ≡ 0 → now ≡ held ++ piece → now ≡ held
nothing_more held [] now count size none is = is ∙ append-nil held
nothing_more held (b ∷ bs) now count size none is = absurd (omega (arith, size, none))

nothing_after : (before after : Option (List ℕ)) (piece : List ℕ) → before ≡ before_piece piece after → IfSome before (λ bytes. bytes ≡ []) → (bytes : List ℕ) → after ≡ Some bytes → bytes ≡ []
nothing_after before None piece given none bytes is = absurd (cc)
nothing_after before (Some []) piece given none bytes is = cc
nothing_after before (Some (b ∷ bs)) piece given none bytes is =
    let empty : piece ++ (b ∷ bs) ≡ [] = subst (λ o. IfSome o (λ bytes. bytes ≡ [])) given none in
    absurd (omega (arith, ap length empty, length-append piece (b ∷ bs)))

piece_within : (held piece now : List ℕ) (count : ℕ) → length piece ≡ count → now ≡ held ++ piece → count ≤ length now
piece_within held piece now count size is = omega (arith, ap length is, length-append held piece)

more_held : (held piece now : List ℕ) (count size line : ℕ) → length piece ≡ count → now ≡ held ++ piece → count ≢ 0 → size ≡ length held → size ≤ line → line ≤ 1048576 → 1048577 - length now < 1048577 - length held
more_held held piece now count size line piece_is is some held_is whole short = omega (arith, ap length is, length-append held piece)

pub returns-then-count-eq0-clause-length : goal.returns-then-count-eq0-clause-length
returns-then-count-eq0-clause-length g c =
    let more = c.in_ok-count.ensures.more in
    c.loop-length.invariant.place ∙ ap (position_or_len is_end) (sym (nothing_more _ more.piece _ _ more.size c.if-count-eq0.true more.held))

pub returns-then-count-eq0-clause-left : goal.returns-then-count-eq0-clause-left
returns-then-count-eq0-clause-left g c =
    let more = c.in_ok-count.ensures.more in
    left_goes_on _ _ _ c.loop-length.self.held more.piece _ c.loop-length.invariant.left more.given more.held

pub returns-then-count-eq0-clause-enough : goal.returns-then-count-eq0-clause-enough
returns-then-count-eq0-clause-enough g c =
    inr (inl (nothing_after _ _ c.in_ok-count.ensures.more.piece c.in_ok-count.ensures.more.given (c.in_ok-count.ensures.end (ap (λ n. Ok n) c.if-count-eq0.true))))

pub last_length-length-requires-in-loop-length : goal.last_length-length-requires-in-loop-length
last_length-length-requires-in-loop-length g c =
    let more = c.in_ok-count.ensures.more in
    piece_within _ more.piece _ _ more.size more.held

pub loop-length-smaller : goal.loop-length-smaller
loop-length-smaller g c =
    let more = c.in_ok-count.ensures.more in
    more_held _ more.piece _ _ _ _ more.size more.held c.if-count-eq0.false c.held-in-loop-length.ensures.value c.if-length-held.false c.if-length-gt-MAX_LINE.false

pub loop-length-preserved : goal.loop-length-preserved
loop-length-preserved g c =
    let so_far = c.loop-length.invariant in
    let more = c.in_ok-count.ensures.more in
    record {
      place = length_goes_on c.loop-length.self.held more.piece c.pull_more.new.self.held c.loop-length.length _ c.in_ok-count.count so_far.place (omega arith) more.size more.held c.last_length-length-in-loop-length.ensures.length;
      left = left_goes_on _ _ _ c.loop-length.self.held more.piece _ so_far.left more.given more.held;
      given = c.in_ok-count.ensures.given ∙ so_far.given;
      progress = c.in_ok-count.ensures.progress ∙ so_far.progress;
      sound = c.in_ok-count.ensures.faults ∙ so_far.sound;
    }
