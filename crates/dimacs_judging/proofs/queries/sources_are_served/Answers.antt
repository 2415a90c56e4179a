use Rattle.std.proofs.{Common.{IsTrue, false, refl, arith}, lemmas.Option.{get_or_from_slice_get, slice_get_within}}
use Rattle.dimacs_instance.specs.QueryTexts.{asked}
use Rattle.dimacs_judging.specs.QueryTests.{IsServed}
use Rattle.dimacs_judging.proofs.ListedRows.{listed_clear_more, listed_clear_end, listed_first, length-sources}
use Rattle.dimacs_judging.proofs.queries.sources_are_served.Goals as goal

pub returns-then-not-is_served : goal.returns-then-not-is_served
returns-then-not-is_served c =
    let source = c.source_asked-source.result in
    let here = c.source_asked-source.ensures in
    let off = c.if-not-is_served.ensures.1 in
    listed_first _ _ (λ source. ¬ IsServed c.args.labels.now.blocks (asked c.args.queries.now) source) c.loop-i.i source (get_or_from_slice_get _ c.loop-i.i source 0 here) (slice_get_within _ c.loop-i.i source here) c.loop-i.invariant (λ served. let f : IsTrue false = off served in cc)

pub loop-i-preserved : goal.loop-i-preserved
loop-i-preserved c =
    let source = c.source_asked-source.result in
    let served = c.if-not-is_served.ensures.0 refl in
    listed_clear_more _ _ (λ source. ¬ IsServed c.args.labels.now.blocks (asked c.args.queries.now) source) c.loop-i.i source (get_or_from_slice_get _ c.loop-i.i source 0 c.source_asked-source.ensures) c.loop-i.invariant (λ off. off served)

pub returns : goal.returns
returns c = listed_clear_end _ _ (λ source. ¬ IsServed c.args.labels.now.blocks (asked c.args.queries.now) source) c.loop-i.i (omega (arith, length-sources (asked c.args.queries.now), c.len-i-end.ensures, c.loop-i-test.false)) c.loop-i.invariant
