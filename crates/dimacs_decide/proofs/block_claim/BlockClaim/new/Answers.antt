use Rattle.std.proofs.Common.{◌≡◌, ◌<◌, ◌+◌, ◌-◌, ◌∙◌, ℕ, ℤ, Option, Some, ap, arith, length, get_or, rules, subst}
use Rattle.std.proofs.lemmas.Int.{to_z-of_z}
use Rattle.std.specs.Int.{w128}
use Rattle.dimacs_claims.specs.Labels.{label, no_label}
use Rattle.dimacs_judging.specs.Distances.{Fits}
use Rattle.dimacs_network.specs.DenseTables.{value_at}
use Rattle.dimacs_decide.proofs.BlockClaimLemmas.{AreFrom, below_end, from_end, from_one_more, labels_wide, with_source}
use Rattle.dimacs_decide.proofs.block_claim.BlockClaim.new.Goals.{After-set-2}
use Rattle.dimacs_decide.proofs.block_claim.BlockClaim.new.Goals as goal

pub loop-at-init : goal.loop-at-init
loop-at-init g c =
    let labels = c.args.block.now.labels in
    let end : c.len-at.result ≡ length labels = rw (← c.labels-labels.ensures) c.len-at.ensures in
    let value = g.D.Distance.value in
    record {
      within = omega (arith, end);
      nodes = c.in_ok-distances.ensures.nodes;
      distances = from_end labels c.len-at.result (λ v. value (value_at c.in_ok-distances.distances v)) (λ v. ap value (c.in_ok-distances.ensures.values v) ∙ c.none.ensures) end;
    }

pub of-requires : goal.of-requires
of-requires g c =
    let labels = c.args.block.now.labels in
    let l = c.at-label.result in
    let inside : c.loop-at.at - 1 < length labels = omega (arith, c.loop-at-test.true, c.loop-at.invariant.within) in
    let is : l ≡ get_or labels (c.loop-at.at - 1) no_label = rw c.labels-labels.ensures at c.at-label.ensures in
    rw (to_z-of_z w128 l.dist (search rules), is) (c.requires.fits (c.loop-at.at - 1) no_label inside)

pub loop-at-preserved : goal.loop-at-preserved
loop-at-preserved g c =
    let labels = c.args.block.now.labels in
    let at = c.loop-at.at - 1 in
    let l = c.at-label.result in
    let value = g.D.Distance.value in
    let old : ℕ → Option ℤ = λ v. value (value_at c.loop-at.distances v) in
    let new : ℕ → Option ℤ = λ v. value (value_at c.set.new.self v) in
    let inside : at < length labels = omega (arith, c.loop-at-test.true, c.loop-at.invariant.within) in
    let same : c.loop-at.at ≡ at + 1 = omega (arith, c.loop-at-test.true) in
    let later : AreFrom labels (at + 1) old = subst (λ n. AreFrom labels n old) same c.loop-at.invariant.distances in
    let is = rw c.labels-labels.ensures at c.at-label.ensures in
    let number : g.D.Distance.number c.of.result ≡ l.dist = rw (to_z-of_z w128 l.dist (search rules)) at c.of.ensures in
    let fits : Fits g.D.Distance.low g.D.Distance.end l.dist = rw is (c.requires.fits at no_label inside) in
    let law = rw number at (g.met.D.Distance.value_below_end c.of.result) in
    let here : new l.id ≡ Some l.dist = ap value c.set.ensures.set ∙ (law ∙ below_end l.dist g.D.Distance.end fits.1) in
    record {
      within = omega (arith, inside);
      nodes = omega (arith, c.loop-at.invariant.nodes, c.set.ensures.nodes);
      distances = from_one_more labels at l old new inside is here (λ v apart. ap value (c.set.ensures.others v apart)) later;
    }

-- the distances that are set are those claimed
claimed : (g : _) (c : After-set-2 g) → (v : ℕ) → g.D.Distance.value (value_at c.set-2.new.self v) ≡ label c.args.block.now v
claimed g c =
    let b = c.args.block.now in
    let value = g.D.Distance.value in
    let old : ℕ → Option ℤ = λ v. value (value_at c.loop-at.distances v) in
    let end : c.loop-at.at ≡ 0 = omega (arith, c.loop-at-test.false) in
    let all : AreFrom b.labels 0 old = subst (λ n. AreFrom b.labels n old) end c.loop-at.invariant.distances in
    let set = rw c.source.ensures at c.set-2.ensures.set in
    let others = rw c.source.ensures at c.set-2.ensures.others in
    with_source b old (λ v. value (value_at c.set-2.new.self v)) (ap value set ∙ c.zero.ensures) (λ v apart. ap value (others v apart)) all

pub invariant_of-result : goal.invariant_of-result
invariant_of-result g c =
    let new : ℕ → Option ℤ = λ v. g.D.Distance.value (value_at c.set-2.new.self v) in
    record { wide = labels_wide c.args.nodes c.args.block.now new c.requires.lawful (claimed g (goal.at.invariant_of-result g c).After-set-2) }

pub returns : goal.returns
returns g c = claimed g (goal.at.returns g c).After-set-2
