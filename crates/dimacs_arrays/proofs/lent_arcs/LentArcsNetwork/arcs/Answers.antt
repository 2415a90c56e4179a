use Rattle.std.proofs.Common.{◌∙◌, length, ap, sym}
use Rattle.dimacs_network.specs.Arcs.{NetworkValue}
use Rattle.dimacs_arrays.proofs.LentLemmas.{lent_many}
use Rattle.dimacs_arrays.proofs.lent_arcs.LentArcsNetwork.arcs.Goals as goal

pub returns : goal.returns
returns g c = sym (lent_many (g.A.ArcArrays.arc_of c.self.inside.arrays) c.self.inside.count) ∙ ap (λ (v : NetworkValue). length v.arcs) c.self.view_is
