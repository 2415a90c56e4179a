use Rattle.std.proofs.{Common.{◌≡◌, ◌∙◌, arith, sym}, lemmas.Slice.Zip.{AllZip-long}}
use Rattle.dimacs_judging.specs.Cuts.{members}
use Rattle.dimacs_judging.proofs.Duality.{tight_is_maximum}
use Rattle.dimacs_decide.proofs.maximum.guess_holds.Goals as goal

pub value_if_shown-requires : goal.value_if_shown-requires
value_if_shown-requires g c = omega (arith, AllZip-long _ _ _ c.requires.within)

pub returns-in-Some : goal.returns-in-Some
returns-in-Some g c = λ yes.
    let i = c.args.instance.now in
    let nodes : c.args.cut.now.nodes ≡ i.nodes = sym c.nodes.ensures ∙ c.if-nodes.false ∙ c.nodes-2.ensures ∙ c.network.ensures.nodes in
    (tight_is_maximum i c.network.ensures.lawful.joined c.network.ensures.lawful.source_within c.args.flow.now (members c.args.cut.now) c.requires c.in-Some.ensures.1.tight, c.in-Some.ensures.1.tight, nodes)
