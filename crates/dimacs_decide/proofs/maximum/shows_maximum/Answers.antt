use Rattle.std.proofs.{Common.{◌≡◌, ◌∙◌, arith, sym}, lemmas.Slice.Zip.{AllZip-long}}
use Rattle.dimacs_judging.specs.{CertificateTests.{cut_rows}, Cuts.{members}}
use Rattle.dimacs_judging.proofs.Duality.{tight_is_maximum}
use Rattle.dimacs_decide.proofs.TestLemmas.{holds, passes}
use Rattle.dimacs_decide.proofs.maximum.shows_maximum.Goals as goal

pub cut_tests-requires : goal.cut_tests-requires
cut_tests-requires g c = omega (arith, AllZip-long _ _ _ c.requires.within)

pub returns-then-nodes : goal.returns-then-nodes
returns-then-nodes g c =
    let i = c.args.instance.now in
    let set = members c.args.cut.now in
    let rows = cut_rows i set c.args.flow.now in
    let nodes : c.args.cut.now.nodes ≡ i.nodes = sym c.nodes.ensures ∙ c.if-nodes.true ∙ c.nodes-2.ensures ∙ c.network.ensures.nodes in (
      λ ok.
          let tight = holds rows c.cut_tests.result c.cut_tests.ensures (sym c.is_ok.ensures.value ∙ ok) in
          (tight_is_maximum i c.network.ensures.lawful.joined c.network.ensures.lawful.source_within c.args.flow.now set c.requires tight, tight, nodes),
      λ decided. c.is_ok.ensures.value ∙ passes rows c.cut_tests.result c.cut_tests.ensures decided.1,
    )
