use Rattle.std.proofs.{Common.{◌≡◌, ◌∙◌, [], ◌∷◌, arith, sym}, lemmas.Slice.Zip.{AllZip-long}}
use Rattle.dimacs_claims.specs.Potentials.{potential_of}
use Rattle.dimacs_judging.specs.CertificateTests.{slack_row}
use Rattle.dimacs_judging.proofs.Duality.{slack_is_least}
use Rattle.dimacs_decide.proofs.TestLemmas.{holds}
use Rattle.dimacs_decide.proofs.least.shows_least.Goals as goal

pub cost_if_shown-requires : goal.cost_if_shown-requires
cost_if_shown-requires g c = omega (arith, AllZip-long _ _ _ c.requires.within)

pub slack_tests-requires : goal.slack_tests-requires
slack_tests-requires g c = omega (arith, AllZip-long _ _ _ c.requires.within)

pub returns-in-Some : goal.returns-in-Some
returns-in-Some g c = λ yes.
    let i = c.args.instance.now in
    let p = c.args.potentials.now in
    let nodes : p.nodes ≡ i.nodes = sym c.nodes.ensures.nodes ∙ c.if-nodes.false ∙ c.nodes-2.ensures ∙ c.network.ensures.nodes in
    (slack_is_least i c.network.ensures.lawful.joined c.args.flow.now (potential_of p) c.requires c.in-Some.ensures.1.slack, c.in-Some.ensures.1.slack, nodes)

pub returns : goal.returns
returns g c = λ ok.
    let i = c.args.instance.now in
    let p = c.args.potentials.now in
    let slack = holds (slack_row i.arcs (potential_of p) c.args.flow.now ∷ []) c.slack_tests.result c.slack_tests.ensures (sym c.is_ok.ensures.value ∙ ok) in
    let nodes : p.nodes ≡ i.nodes = sym c.nodes.ensures.nodes ∙ c.if-nodes.false ∙ c.nodes-2.ensures ∙ c.network.ensures.nodes in
    (slack_is_least i c.network.ensures.lawful.joined c.args.flow.now (potential_of p) c.requires slack, slack, nodes)
