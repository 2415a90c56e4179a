use Rattle.std.proofs.Common.{◌≡◌, ◌≤◌, ◌-◌, ◌+◌, ap, ◌∙◌, arith, refl, length, take, drop}
use Rattle.std.proofs.lemmas.List.Edits.{length-between}
use Rattle.std.specs.{Prelude.{slice_range}, List.{position_or_len}}
use Rattle.dimacs_lines.specs.Lines.{is_end}
use Rattle.dimacs_lines.proofs.PieceLemmas.{first_within_slice, before_first_of_slice, after_first_of_slice}
use Rattle.dimacs_lines.proofs.reader.Lines.give_line.Goals as goal

pub invariant_of-self : goal.invariant_of-self
invariant_of-self c =
    let laid = c.self.invariant in
    let within : c.args.length ≤ c.self.inside.end - c.self.inside.next =
    first_within_slice is_end c.self.inside.buffer.items c.self.inside.next c.self.inside.end c.args.length laid.held_within (rw (← c.self.view_is) at c.requires) in
    record {
      line_ordered = omega arith;
      line_within = omega arith;
      held_ordered = omega arith;
      held_within = laid.held_within;
      few = omega arith;
      bounded = laid.bounded;
    }

pub returns : goal.returns
returns c =
    let laid = c.self.invariant in
    let bytes = c.self.inside.buffer.items in
    let start = c.self.inside.next in
    let end = c.self.inside.end in
    let place : c.args.length ≡ position_or_len is_end (slice_range bytes start end) = rw (← c.self.view_is) at c.requires in
    let within : c.args.length ≤ end - start = first_within_slice is_end bytes start end c.args.length laid.held_within place in
    rw (← c.self.view_is) (record {
      given = record {
        next = refl;
        counted = refl;
        same_progress = refl;
        few = omega arith;
        short = omega (arith, place);
        some = λ none. c.if-self.false (omega (arith, ap length none, length-between bytes start end laid.held_within));
        line = before_first_of_slice bytes start end c.args.length within ∙ ap (λ n. take n (slice_range bytes start end)) place;
        rest = ap (λ k. slice_range bytes k end) c.min-self-inside.ensures ∙ after_first_of_slice bytes start end c.args.length laid.held_ordered laid.held_within ∙ ap (λ n. drop (n + 1) (slice_range bytes start end)) place;
      };
    })
