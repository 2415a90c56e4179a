use Rattle.std.proofs.Common.{◌≡◌, ◌≢◌, ◌∙◌, ◌<◌, ◌≤◌, Some, length, get_or, ap, sym, arith, rules}
use Rattle.std.proofs.lemmas.Int.{to_z-of_z}
use Rattle.std.specs.Int.{w128}
use Rattle.dimacs_network.specs.Tables.{value_of}
use Rattle.dimacs_claims.specs.{declared.label_list.Label.{Label}, Labels.{label, no_label}}
use Rattle.dimacs_decide.proofs.FewLemmas.{id_at, label_here, label_none}
use Rattle.dimacs_decide.proofs.placed_claim.PlacedClaimDistanceClaim.of.Goals as goal

pub returns-then-place-len-clause-claimed : goal.returns-then-place-len-clause-claimed
returns-then-place-len-clause-claimed c =
    let b = c.args.self.now.block.now in
    let places = value_of c.args.self.now.places in
    let apart : b.source ≢ c.args.id = λ e. c.if-id-source.false (sym e ∙ sym c.source.ensures) in
    let past : length b.labels ≤ places c.args.id = rw (c.len.ensures, c.labels-labels.ensures, c.get-place.ensures.value) at c.if-place-len.true in
    sym (label_none b c.args.id places c.args.self.now.placed apart (λ inside. absurd (omega (arith, inside, past))))

pub returns-then-label-id-clause-claimed : goal.returns-then-label-id-clause-claimed
returns-then-label-id-clause-claimed c =
    let b = c.args.self.now.block.now in
    let places = value_of c.args.self.now.places in
    let apart : b.source ≢ c.args.id = λ e. c.if-id-source.false (sym e ∙ sym c.source.ensures) in
    let id : c.at-label.result.id ≡ id_at b (places c.args.id) = ap (λ (l : Label). l.id) (rw (c.labels-labels.ensures, c.get-place.ensures.value) at c.at-label.ensures) in
    sym (label_none b c.args.id places c.args.self.now.placed apart (λ inside same. c.if-label-id.true (id ∙ same)))

pub returns : goal.returns
returns c =
    let b = c.args.self.now.block.now in
    let place = c.get-place.result in
    let l = c.at-label.result in
    let apart : b.source ≢ c.args.id = λ e. c.if-id-source.false (sym e ∙ sym c.source.ensures) in
    let is : l ≡ get_or b.labels place no_label = rw c.labels-labels.ensures at c.at-label.ensures in
    let inside : place < length b.labels = rw (c.len.ensures, c.labels-labels.ensures) at c.if-place-len.false in
    let here : label b c.args.id ≡ Some (get_or b.labels place no_label).dist = label_here b place c.args.id c.args.self.now.named inside (sym (ap (λ (m : Label). m.id) is) ∙ c.if-label-id.false) apart in
    rw (to_z-of_z w128 l.dist (search rules)) (record {
      claimed = ap (λ (m : Label). Some m.dist) is ∙ sym here;
      wide = c.args.self.now.wide c.args.id l.dist (here ∙ sym (ap (λ (m : Label). Some m.dist) is));
    })
