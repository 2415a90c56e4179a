use Rattle.std.proofs.Common.{◌≤◌, ◌-◌, ap, ◌∙◌, length}
use Rattle.std.specs.{Prelude.{slice_range}, List.{position_or_len}}
use Rattle.dimacs_lines.specs.Lines.{is_end}
use Rattle.dimacs_lines.proofs.PieceLemmas.{last_of_slice}
use Rattle.dimacs_lines.proofs.reader.Lines.last_length.Goals as goal

pub returns-clause-length : goal.returns-clause-length
returns-clause-length c =
    let bytes = c.self.inside.buffer.items in
    let start = c.self.inside.next in
    let end = c.self.inside.end in
    let few : c.args.count ≤ length (slice_range bytes start end) = rw (← c.self.view_is) at c.requires in
    rw (← c.self.view_is) (c.line_length.ensures.length
    ∙ ap (λ xs. position_or_len is_end (slice_range xs (end - c.args.count) end)) c.deref.ensures.value
    ∙ ap (position_or_len is_end) (last_of_slice bytes start end c.args.count c.self.invariant.held_ordered c.self.invariant.held_within few))
