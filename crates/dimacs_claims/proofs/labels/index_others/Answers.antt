use Rattle.std.proofs.{Common.{◌≡◌, ◌∷◌, [], ◌∙◌, ap, sym, subst, length, arith}, lemmas.List.{length-append}}
use Rattle.dimacs_claims.specs.{inside.ById.{IsById, labels_at}, Labels.{IsBlock}}
use Rattle.dimacs_claims.proofs.ByIdLemmas.{fresh_apart, indexed_more, labels_of}
use Rattle.dimacs_claims.proofs.labels.index_others.Goals as goal

pub loop-i-preserved : goal.loop-i-preserved
loop-i-preserved c =
    let blocks = c.args.blocks.now in
    let indices = c.loop-i.indices.items in
    let i = c.loop-i.i in
    let index = c.in_ok-new.field-0 in
    let inside = c.loop-i-test.true in
    let count : i ≡ length indices = sym c.loop-i.invariant.count in
    let at : c.labels.result.now ≡ labels_at blocks (length indices) = labels_of blocks i c.index-blocks-i.result c.labels.result.now inside c.index-blocks-i.is c.labels.ensures ∙ ap (labels_at blocks) count in
    rw c.in_ok-push.ensures.items record {
      indexed = indexed_more blocks indices index c.loop-i.invariant.indexed (omega (arith, inside, count)) (subst (λ labels. IsById labels index) at c.in_ok-new.ensures);
      count = omega (arith, length-append indices (index ∷ []), count);
    }

pub new-requires : goal.new-requires
new-requires c =
    let b = c.index-blocks-i.result in
    let is : IsBlock c.requires.lawful.0 b = rw (← c.index-blocks-i.is) at (c.requires.lawful.1 c.loop-i.i b c.loop-i-test.true) in
    rw c.labels.ensures record { apart = fresh_apart b.source b.labels is.fresh; few = is.few }
