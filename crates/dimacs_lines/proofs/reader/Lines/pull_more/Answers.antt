use Rattle.std.proofs.Common.{◌≡◌, ◌≤◌, ◌-◌, ◌+◌, ◌∙◌, ℕ, List, ap, arith, length, take, drop, length-take}
use Rattle.std.proofs.{lemmas.List.{with_items_is}, lemmas.Slice.{between_from_start}}
use Rattle.std.specs.Prelude.{slice_range}
use Rattle.dimacs_lines.specs.{inside.Buffer.{IsLaidOut}, Limits.{most_lines, most_held}}
use Rattle.dimacs_lines.proofs.PieceLemmas.{held_and_piece, length-piece}
use Rattle.dimacs_lines.proofs.reader.Lines.pull_more.Goals as goal

-- held bytes at the front of a bounded buffer
at_front : (end given size : ℕ) → end ≤ size → given ≤ most_lines → size ≤ most_held → IsLaidOut 0 0 0 end given size
at_front end given size within few bounded = record { line_ordered = omega arith; line_within = omega arith; held_ordered = omega arith; held_within = within; few = few; bounded = bounded }

-- what was held fits into the buffer that was grown
held_fits : (start end : ℕ) (old moved grown pulled : List ℕ) → end ≤ length old → length moved ≡ length old → length moved ≤ length grown → length pulled ≡ length grown → end - start ≤ length pulled
held_fits start end old moved grown pulled within moves grows pulls = omega arith

no_longer : (pulled before grown : List ℕ) (most : ℕ) → length pulled ≡ length before → before ≡ grown → length grown ≤ most → length pulled ≤ most
no_longer pulled before grown most same is bounded = omega (arith, ap length is)

front_within : (xs : List ℕ) (n most : ℕ) → length xs ≤ most → length (slice_range xs 0 n) ≤ most
front_within xs n most bounded = rw between_from_start (omega (arith, length-take n xs))

pub invariant_of-self-in-Ok : goal.invariant_of-self-in-Ok
invariant_of-self-in-Ok g c =
    rw (with_items_is c.grow.new.buffer _ (c.pull_after.auto.buffer ∙ c.deref_mut.ensures.len))
    (at_front _ _ _ c.in-Ok.ensures.within c.self.invariant.few (no_longer _ _ _ _ c.pull_after.auto.buffer c.deref_mut.ensures.value c.grow.ensures.bounded))

pub invariant_of-self-in-Err : goal.invariant_of-self-in-Err
invariant_of-self-in-Err g c =
    let pulls = c.pull_after.auto.buffer ∙ ap length c.deref_mut.ensures.value in
    let fits = held_fits c.self.inside.next c.self.inside.end c.self.inside.buffer.items c.move_to_front.new.buffer.items c.grow.new.buffer.items _ c.self.invariant.held_within c.move_to_front.ensures.length c.grow.ensures.no_shorter pulls in
    rw (with_items_is c.grow.new.buffer _ (c.pull_after.auto.buffer ∙ c.deref_mut.ensures.len))
    (at_front _ _ _ fits c.self.invariant.few (no_longer _ _ _ _ c.pull_after.auto.buffer c.deref_mut.ensures.value c.grow.ensures.bounded))

pub returns-in-Ok-clause-bounded : goal.returns-in-Ok-clause-bounded
returns-in-Ok-clause-bounded g c =
    rw (with_items_is c.grow.new.buffer _ (c.pull_after.auto.buffer ∙ c.deref_mut.ensures.len))
    (front_within _ _ _ (no_longer _ _ _ _ c.pull_after.auto.buffer c.deref_mut.ensures.value c.grow.ensures.bounded))

pub returns-in-Ok-clause-more : goal.returns-in-Ok-clause-more
returns-in-Ok-clause-more g c =
    let start = c.self.inside.next in
    let end = c.self.inside.end in
    let count = c.in-Ok.count in
    rw (← c.self.view_is) (record {
      piece = take count (drop (end - start) _);
      size = length-piece _ (end - start) count c.in-Ok.ensures.within;
      held = ap (λ xs. slice_range xs 0 (end - start + count)) (with_items_is c.grow.new.buffer _ (omega (arith, c.pull_after.auto.buffer, c.deref_mut.ensures.len))) ∙ held_and_piece c.self.inside.buffer.items c.move_to_front.new.buffer.items c.grow.new.buffer.items _ start end count
          c.move_to_front.ensures.moved c.grow.ensures.held_unchanged (c.in-Ok.ensures.held_unchanged ∙ ap (take (end - start)) c.deref_mut.ensures.value);
      given = c.in-Ok.ensures.given;
    })
