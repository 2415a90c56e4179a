use Rattle.std.proofs.Common.{IsTrue, ◌≡◌, ◌↔◌, ◌<ℤ◌, ◌+ℤ◌, ◌∙◌, ap, rules, w32, w64, SFits, true, false}
use Rattle.std.proofs.lemmas.Int.{to_z-of_z}
use Rattle.dimacs_network.specs.DenseTables.{value_at}
use Rattle.dimacs_judging.specs.{inside.Distances.{IsTight}, inside.LabelsAtOnce.{entries_at}, Distances.{below}}
use Rattle.dimacs_judging.specs.inside.NodeLabels.{entry_of, is_supported}
use Rattle.dimacs_judging.proofs.LabelsAtOnce.{improves_nothing, none_from, small_set}
use Rattle.dimacs_judging.proofs.NodeLabelLemmas.{relaxes_put, tight_where}
use Rattle.dimacs_judging.proofs.labels_at_once.relax.Goals as goal

pub returns : goal.returns
returns c =
    let a = c.args.arc in
    let table = c.args.table.now in
    let cost : SFits w64 a.cost = search rules in
    let from : SFits w32 c.at-from.result.dist = search rules in
    let to : SFits w32 c.at-head.result.dist = search rules in
    let less : IsTrue c.sum_is_less.result ↔ (((value_at table a.tail).dist +ℤ a.cost) <ℤ (value_at table a.head).dist) = rw (to_z-of_z w64 a.cost cost, to_z-of_z w32 c.at-from.result.dist from, to_z-of_z w32 c.at-head.result.dist to, c.at-from.ensures, c.at-head.ensures) at c.sum_is_less.ensures in
    let passes = improves_nothing (value_at table a.tail).dist (value_at table a.head).dist a.cost (c.requires.small a.tail) (search rules) (search rules) (λ leads. let yes : c.sum_is_less.result ≡ true = less.1 leads in let no = c.if-sum_is_less.false in cc) in
    let old = entries_at table in
    let value = below none_from in
    let head = c.at-head.ensures in
    let set = c.set.ensures.set in
    let leads : IsTrue c.is_tight.result ↔ IsTight (old a.tail).dist (old a.head).dist a.cost = rw (to_z-of_z w64 a.cost cost, to_z-of_z w32 c.at-from.result.dist from, to_z-of_z w32 c.at-head.result.dist to, c.at-from.ensures, head) at c.is_tight.ensures in
    let lacks : IsTrue c.lacks_arc_from.result ↔ (((old a.head).pred ≡ a.tail) × (is_supported (old a.head) ≡ false)) = rw head at c.lacks_arc_from.ensures in
    let tight = tight_where a old c.is_tight.result c.lacks_arc_from.result leads lacks in
    record {
      passes = passes;
      tight = tight;
      relaxes = relaxes_put a old (entries_at c.set.new.self) _ (λ v off. ap (entry_of value) (c.set.ensures.others v off))
          (ap (λ m. value m.dist) set ∙ (ap value c.supported_if.ensures.dist ∙ ap (λ m. value m.dist) head))
          (rw (ap (λ m. m.pred) head) at (ap (λ m. m.pred) set ∙ c.supported_if.ensures.pred)) tight;
      small = small_set a.head c.supported_if.result table c.set.new.self set c.set.ensures.others (rw (c.supported_if.ensures.dist, head) (c.requires.small a.head)) c.requires.small;
      nodes = search rules;
    }
