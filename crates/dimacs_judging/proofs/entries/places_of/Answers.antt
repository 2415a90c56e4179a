use Rattle.std.proofs.{Common.{List, take, sym, subst, ◌∙◌}, lemmas.List.{take_all, take_more}}
use Rattle.dimacs_claims.specs.declared.place.Entry.{Entry}
use Rattle.dimacs_judging.specs.{Claims.{no_entry}, Places.{ArePlaced}}
use Rattle.dimacs_judging.proofs.entries.places_of.Goals as goal

pub loop-entry-preserved : goal.loop-entry-preserved
loop-entry-preserved g c =
    let k = c.loop-entry.entry-index in
    record {
      network = c.put.ensures.network ∙ c.loop-entry.invariant.network;
      placed = subst (λ (es : List Entry). ArePlaced c.put.new.self es) (sym (take_more _ k no_entry c.loop-entry-test.true)) (c.put.ensures.placed (take k _) c.loop-entry.invariant.placed);
    }

pub returns-clause-placed : goal.returns-clause-placed
returns-clause-placed g c = rw (take_all c.loop-entry.entry-index c.args.entries.now c.loop-entry-test.false) at c.loop-entry.invariant.placed
