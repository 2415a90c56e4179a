use Rattle.std.proofs.Common.{◌≡◌, ◌≤◌, ◌+◌, ◌-◌, ℕ, List, ap, sym, ◌∙◌, arith, length, take, drop}
use Rattle.std.proofs.{lemmas.List.{drop-take, drop-drop}, lemmas.List.Edits.{length-between}}
use Rattle.std.specs.Prelude.{slice_range}
use Rattle.dimacs_lines.proofs.reader.Lines.skip.Goals as goal

-- the rest of a part of a list
later_part : (xs : List ℕ) (start end n : ℕ) → n ≤ end - start → slice_range xs (start + n) end ≡ drop n (slice_range xs start end)
later_part xs start end n few =
    let left = end - (start + n) in
    let whole : end - start ≡ n + left = omega arith in
    sym (ap (λ k. drop n (take k (drop start xs))) whole ∙ (drop-take n left (drop start xs) ∙ ap (take left) (drop-drop n start xs)))

pub returns : goal.returns
returns c =
    let bytes = c.self.inside.buffer.items in
    let start = c.self.inside.next in
    let end = c.self.inside.end in
    let held : c.args.bytes ≤ length (slice_range bytes start end) = rw (← c.self.view_is) at c.requires.within in
    let few : c.args.bytes ≤ end - start = omega (arith, held, length-between bytes start end c.self.invariant.held_within) in
    rw (← c.self.view_is, later_part bytes start end c.args.bytes few)
