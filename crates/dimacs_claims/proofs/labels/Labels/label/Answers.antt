use Rattle.std.proofs.Common.{Bor, arith, ◌≡◌, ◌≢◌, ◌∙◌, [], subst, ap, sym, IfSome, Some, None}
use Rattle.std.proofs.{lemmas.Option.{get_or_from_slice_get, slice_get-get_or}, lemmas.Grind.{common_steps}}
use Rattle.std.specs.Prelude.{slice_get}
use Rattle.dimacs_records.specs.Ranges.{IsWide}
use Rattle.dimacs_claims.specs.{inside.ById.{labels_at}, Labels.{BlockValue, distance_in, label_at}}
use Rattle.dimacs_claims.specs.declared.by_id.ById.{ById}
use Rattle.dimacs_claims.proofs.{BlockLemmas.{label_at_wide}, ByIdLemmas.{indexed_at, label_is}}
use Rattle.dimacs_claims.proofs.labels.Labels.label.Goals as goal

pub distance_by-requires : goal.distance_by-requires
distance_by-requires c =
    let blocks = c.self.inside.blocks.items in
    let b = c.in_ok-found.found.now in
    let here : slice_get blocks c.args.block ≡ Some b = grind (arith, common_steps, slice_get-get_or) in
    let found = rw c.deref-2.ensures.value at c.get-2.ensures.lookup in
    let labels : c.labels.result.now ≡ labels_at blocks c.args.block = c.labels.ensures ∙ ap (λ (d : BlockValue). d.labels) (sym (get_or_from_slice_get blocks c.args.block b (record { source = 0; radius = None; labels = [] }) here)) in
    rw labels (indexed_at (λ (index : Bor ById). index.now) blocks c.self.inside.indices.items c.args.block c.get-2.result c.self.invariant.1 found.0 found.1)

pub returns-clause-label : goal.returns-clause-label
returns-clause-label c =
    let blocks = c.self.inside.blocks.items in
    let b = c.in_ok-found.found.now in
    let here : slice_get blocks c.args.block ≡ Some b = grind (arith, common_steps, slice_get-get_or) in
    let off : b.source ≢ c.args.id = λ same. c.if-source-id.false (c.source.ensures ∙ same) in
    rw (← c.self.view_is) (c.distance_by.ensures ∙ (ap (λ labels. distance_in labels c.args.id) c.labels.ensures ∙ label_is blocks c.args.block c.args.id b here off))

pub returns-clause-wide : goal.returns-clause-wide
returns-clause-wide c =
    let blocks = c.self.inside.blocks.items in
    let b = c.in_ok-found.found.now in
    let here : slice_get blocks c.args.block ≡ Some b = grind (arith, common_steps, slice_get-get_or) in
    let off : b.source ≢ c.args.id = λ same. c.if-source-id.false (c.source.ensures ∙ same) in
    let is : c.distance_by.result ≡ label_at blocks c.args.block c.args.id = c.distance_by.ensures ∙ (ap (λ labels. distance_in labels c.args.id) c.labels.ensures ∙ label_is blocks c.args.block c.args.id b here off) in
    subst (λ claimed. IfSome claimed IsWide) (sym is) (label_at_wide c.self.inside.nodes blocks c.args.block c.args.id c.self.invariant.0.blocks)
