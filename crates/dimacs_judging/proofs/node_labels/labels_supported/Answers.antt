use Rattle.std.proofs.Common.{◌≡◌, ◌∙◌, false, sym, ap, get_or}
use Rattle.dimacs_judging.specs.inside.NodeLabels.{is_supported, entries, entry_of}
use Rattle.dimacs_claims.specs.{Labels.{no_label}, declared.label_list.Label.{Label}}
use Rattle.dimacs_judging.proofs.NodeLabelLemmas.{label_supported}
use Rattle.dimacs_judging.proofs.RowLemmas.{support_clear_more, support_first, support_clear_end}
use Rattle.dimacs_judging.proofs.node_labels.labels_supported.Goals as goal

pub returns-then-not-is_supported : goal.returns-then-not-is_supported
returns-then-not-is_supported g c = λ arcs b labels supported.
    let k = c.loop-i.i in
    let at = entries g.D.Distance.value c.args.node_labels.now in
    let inside = rw (c.len-i-end.ensures, ← labels) at c.loop-i-test.true in
    let id : c.at-id.result.id ≡ (get_or b.labels k no_label).id = ap (λ (l : Label). l.id) (rw (← labels) at c.at-id.ensures) in
    let here = rw id at c.get.ensures.value in
    let unsupported : is_supported (at (get_or b.labels k no_label).id) ≡ false = sym (ap (λ m. is_supported (entry_of g.D.Distance.value m)) here) ∙ (sym c.is_supported.ensures ∙ c.if-not-is_supported.true) in
    rw id (support_first arcs b k inside (c.loop-i.invariant arcs b labels supported) (λ has. let e = (label_supported arcs b at k inside supported).1 has in cc))

pub loop-i-preserved : goal.loop-i-preserved
loop-i-preserved g c = λ arcs b labels supported.
    let k = c.loop-i.i in
    let at = entries g.D.Distance.value c.args.node_labels.now in
    let inside = rw (c.len-i-end.ensures, ← labels) at c.loop-i-test.true in
    let id : c.at-id.result.id ≡ (get_or b.labels k no_label).id = ap (λ (l : Label). l.id) (rw (← labels) at c.at-id.ensures) in
    let here = rw id at c.get.ensures.value in
    support_clear_more arcs b k (c.loop-i.invariant arcs b labels supported) ((label_supported arcs b at k inside supported).0 (sym (ap (λ m. is_supported (entry_of g.D.Distance.value m)) here) ∙ (sym c.is_supported.ensures ∙ c.if-not-is_supported.false)))

pub returns : goal.returns
returns g c = λ arcs b labels supported. support_clear_end arcs b c.loop-i.i (rw labels (rw c.len-i-end.ensures at c.loop-i-test.false)) (c.loop-i.invariant arcs b labels supported)
