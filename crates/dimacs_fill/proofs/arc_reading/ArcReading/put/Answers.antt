use Rattle.std.proofs.{Common.{◌∷◌, [], w64, arith, rules}, lemmas.Int.{to_z-of_z}, lemmas.List.{length-append}}
use Rattle.dimacs_network.specs.declared.network.ArcView.{ArcView}
use Rattle.dimacs_fill.proofs.ColumnLemmas.{begins_part}
use Rattle.dimacs_fill.proofs.arc_reading.ArcReading.put.Goals as goal

pub returns-clause-hold : goal.returns-clause-hold
returns-clause-hold g c = λ arcs hold few.
    let old = c.args.self.now in
    let a = c.args.arc in
    let were = hold (omega (arith, few, length-append arcs (a ∷ []))) in
    record {
      count = omega (arith, c.in-Some.ensures, were.count, length-append arcs (a ∷ []));
      tails = begins_part (λ (it : ArcView). it.tail) arcs a old.tails.now _ old.at were.count were.tails c.set_at.ensures;
      heads = begins_part (λ (it : ArcView). it.head) arcs a old.heads.now _ old.at were.count were.heads c.set_at-2.ensures;
      lows = begins_part (λ (it : ArcView). it.low) arcs a old.lows.now c.set_at-3.new.items old.at were.count were.lows (rw (to_z-of_z w64 a.low (search rules)) at c.set_at-3.ensures);
      caps = begins_part (λ (it : ArcView). it.cap) arcs a old.caps.now c.set_at-4.new.items old.at were.count were.caps (rw (to_z-of_z w64 a.cap (search rules)) at c.set_at-4.ensures);
      costs = begins_part (λ (it : ArcView). it.cost) arcs a old.costs.now c.set_at-5.new.items old.at were.count were.costs (rw (to_z-of_z w64 a.cost (search rules)) at c.set_at-5.ensures);
    }
