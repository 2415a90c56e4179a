use Rattle.std.proofs.Common.{◌≡◌, ◌-◌, ◌<◌, true, false, length, get_or, sym, ap, ◌∙◌, arith}
use Rattle.std.proofs.lemmas.List.{get_or_read}
use Rattle.dimacs_network.specs.inside.ArcOrder.{is_before_ends, no_out}
use Rattle.dimacs_network.proofs.ArcOrderLemmas.{first_tested}
use Rattle.dimacs_network.proofs.arc_index.ArcIndex.is_first.Goals.{else-place-gt0-via-then-place-gt0+else-not-is_before_ends, else-place-gt0-via-else-place-gt0, else-place-len-via-then-place-len+else-is_before_ends, else-place-len-via-else-place-len}
use Rattle.dimacs_network.proofs.arc_index.ArcIndex.is_first.Goals as goal

pub returns : goal.returns
returns c = λ arcs index _.
    let outs = c.args.self.now.outs.items in
    let p = c.args.place in
    let test = is_before_ends c.args.tail c.args.head in
    let last : 0 < p → test (get_or outs (p - 1) no_out) ≡ true = λ some. elim c.else-place-gt0.branch [
      | else-place-gt0-via-then-place-gt0+else-not-is_before_ends w ↦
          ap test (sym (get_or_read outs (p - 1) w.index.result.now (omega (arith, some, c.requires)) w.index.ensures no_out)) ∙ sym w.is_before_ends.ensures ∙ w.if-not-is_before_ends.false
      | else-place-gt0-via-else-place-gt0 w ↦ absurd (omega (arith, some, w.if-place-gt0.false))
    ] in
    let next : p < length outs → test (get_or outs p no_out) ≡ false = λ inside. elim c.else-place-len.branch [
      | else-place-len-via-then-place-len+else-is_before_ends w ↦
          ap test (sym (get_or_read outs p w.index-then-place-len.result.now inside w.index-then-place-len.ensures no_out)) ∙ sym w.is_before_ends-then-place-len.ensures ∙ w.if-is_before_ends.false
      | else-place-len-via-else-place-len w ↦ absurd (omega (arith, inside, w.if-place-len.false, c.len.ensures))
    ] in
    first_tested arcs outs index.order index.ends c.args.tail c.args.head p c.requires last next
