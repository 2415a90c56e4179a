use Rattle.std.proofs.Common.{◌≡◌, ◌≢◌, ◌≤◌, ℕ, None, length, arith, inl, inr}
use Rattle.dimacs_network.specs.Tables.{blank_of, value_of}
use Rattle.dimacs_claims.specs.Labels.{BlockValue, label}
use Rattle.dimacs_decide.specs.inside.FewLabels.{ArePlaced}
use Rattle.dimacs_decide.proofs.FewLemmas.{label_none}
use Rattle.dimacs_decide.proofs.placed_claim.PlacedClaimDistanceClaim.next.Goals as goal

-- a node whose place is past the labels has none, but may be the source
unplaced : (b : BlockValue) (places : ℕ → ℕ) (blank v : ℕ) → ArePlaced b places → length b.labels ≤ blank → places v ≡ blank → b.source ≢ v → label b v ≡ None
unplaced b places blank v placed past here apart = label_none b v places placed apart (λ inside. absurd (omega (arith, inside, here, past)))

pub returns-then-source-next : goal.returns-then-source-next
returns-then-source-next c =
    let b = c.args.self.now.block.now in
    let places = c.args.self.now.places in
    let next = c.next-next.ensures in
    let past : length b.labels ≤ blank_of places = rw (c.len.ensures, c.labels.ensures, c.blank.ensures) at c.if-blank-len.false in
    record {
      onward = c.if-from-source.true;
      within = omega (arith, c.if-source-next.true, next.within);
      blank = λ v least below. unplaced b (value_of places) _ v c.args.self.now.placed past (next.blank v least (omega (arith, below, c.if-source-next.true))) (λ same. absurd (omega (arith, below, same, c.source-source.ensures)));
    }

pub returns-else-from-source : goal.returns-else-from-source
returns-else-from-source c =
    let b = c.args.self.now.block.now in
    let places = c.args.self.now.places in
    let next = c.next-next.ensures in
    let past : length b.labels ≤ blank_of places = rw (c.len.ensures, c.labels.ensures, c.blank.ensures) at c.if-blank-len.false in
    record {
      onward = next.onward;
      within = next.within;
      blank = λ v least below. unplaced b (value_of places) _ v c.args.self.now.placed past (next.blank v least below) (λ same. elim c.else-from-source.either [
        | inl far ↦ absurd (omega (arith, far.1, below, same, c.source-source.ensures))
        | inr early ↦ absurd (omega (arith, early, least, same, c.source-source.ensures))
      ]);
    }
