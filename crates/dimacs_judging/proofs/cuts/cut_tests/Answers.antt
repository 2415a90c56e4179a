use Rattle.std.proofs.Common.{◌≡◌, ◌∙◌, sym, true, false}
use Rattle.dimacs_judging.specs.{Cuts.{members}, CertificateTests.{cut_rows}}
use Rattle.dimacs_judging.proofs.{Passing.{cut_is_tight, tight_cut_clear, cut_told}, Settling.{decided}}
use Rattle.dimacs_judging.proofs.cuts.cut_tests.Goals as goal

pub returns : goal.returns
returns g c =
    let i = c.args.instance.now in
    let set = members c.args.cut.now in
    let inside : set i.source ≡ true = rw c.source-source.ensures at (sym c.contains.ensures ∙ c.if-not-contains.false) in
    let outside : set i.sink ≡ false = rw c.sink-sink.ensures at (sym c.contains-2.ensures ∙ c.if-contains.false) in
    decided _ (cut_rows i set _) (cut_is_tight i set _ c.requires) (tight_cut_clear i set _) c.arcs_hold.result (cut_told i set _ c.arcs_hold.result inside outside (rw c.network.ensures.arcs at c.arcs_hold.ensures))
