use Rattle.std.proofs.{Common.{◌≡◌, rules, sym, ◌∙◌, ap}, lemmas.Int.{to_z-of_z}}
use Rattle.std.specs.Int.{w128}
use Rattle.dimacs_network.specs.Maps.{below_greatest}
use Rattle.dimacs_network.proofs.MapLemmas.{below_greatest-none, get-made_of}
use Rattle.dimacs_network.proofs.wide_map.WideMap.get.Goals as goal

pub returns : goal.returns
returns c =
    let some : c.then_some.result ≡ below_greatest c.get-number.result = rw (to_z-of_z w128 c.get-number.result (search rules)) at c.then_some.ensures in
    rw (← c.self.view_is) (some ∙ ap below_greatest c.get-number.ensures.value ∙ sym (get-made_of _ _ c.args.id (below_greatest-none _ c.self.invariant)))
