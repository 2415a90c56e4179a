-- Blocks with marked nodes: only the source, and one more label.
use Rattle.std.proofs.Common.{◌≡◌, ◌≢◌, inl, inr, ℕ, ◌+◌, ◌<◌, ◌≤◌, ◌==◌, Bool, true, false, not, cond, [], ◌∷◌, length, Option, Some, None, is_some, ℤ, pos, refl, sym, ap, ◌∙◌, arith}
use Rattle.std.proofs.{lemmas.Bool.Decides.{eqb_tells}, lemmas.List.{length-append}}
use Rattle.dimacs_lines.specs.Limits.{most_count, most_nodes, IsNode}
use Rattle.dimacs_claims.specs.{declared.label_list.Label.{Label}, Labels.{BlockValue, IsBlock, label, with_label}}
use Rattle.dimacs_decide.specs.inside.MarkedBlocks.{IsMarkedBlock, absent}
use Rattle.dimacs_claims.proofs.BuilderLemmas.{unlabelled}
use Rattle.dimacs_decide.proofs.CountLemmas.{count_all, one_fewer}

one_marked : (marked after : ℕ → Bool) (at : ℕ) → ((v : ℕ) → v ≢ at → after v ≡ marked v) → (n : ℕ) → at < n → marked at ≡ false → after at ≡ true → absent after n + 1 ≡ absent marked n
one_marked marked after at others n h old new = one_fewer (λ v. not (marked v)) (λ v. not (after v)) at (λ v ne. ap not (others v ne)) n h (ap not old) (ap not new)

-- ---- only the source
pub alone : (nodes : ℕ) (claim : ℕ → Option ℤ) (s : ℕ) (marked : ℕ → Bool) → IsNode nodes s → claim s ≡ Some (pos 0) → IsBlock nodes (record { source = s; radius = None; labels = [] })
    → marked s ≡ true → ((v : ℕ) → v ≢ s → marked v ≡ false) → IsMarkedBlock nodes claim (record { source = s; radius = None; labels = [] }) marked
alone nodes claim s marked node at lawful here others = record {
  whole = refl;
  lawful = lawful;
  marks = λ v. elim (eqb_tells s v) [
    | inl same ↦ rw same.0 (ap marked (sym same.1) ∙ here)
    | inr apart ↦ rw apart.0 (others v (λ e. apart.1 (sym e)))
  ];
  claimed = λ v d is. elim (eqb_tells s v) [
    | inl same ↦ (let e : Some (pos 0) ≡ Some d = rw same.0 at is in ap claim (sym same.1) ∙ (at ∙ e))
    | inr apart ↦ absurd (let e : None ≡ Some d = rw apart.0 at is in cc)
  ];
  count = omega (arith, count_all (λ v. true) (nodes + 1) (λ v h. refl), one_marked (λ v. false) marked s others (nodes + 1) (omega (arith, node.1)) refl here);
}

-- ---- one more label
pub some_of : (o : Option ℤ) → is_some o ≡ true → (d : ℤ) × (o ≡ Some d)
some_of None some = absurd (cc)
some_of (Some d) some = (d, refl)

module _ (nodes : ℕ) (claim : ℕ → Option ℤ) (b : BlockValue) (marked : ℕ → Bool) (is : IsMarkedBlock nodes claim b marked) where
  pub label_if_marked : (v : ℕ) → marked v ≡ true → is_some (label b v) ≡ true
  label_if_marked v on = sym (is.marks v) ∙ on

  pub none_if_unmarked : (v : ℕ) → marked v ≡ false → label b v ≡ None
  none_if_unmarked v off = unlabelled (label b v) (sym (is.marks v) ∙ off)

  pub few : (u : ℕ) → marked u ≡ false → nodes ≤ most_nodes → IsNode nodes u → length b.labels < most_count
  few u new small node =
      let one = one_marked marked (λ v. cond (v == u) true (marked v)) u (λ v ne. elim (eqb_tells v u) [ inl same ↦ absurd (ne same.1) | inr apart ↦ rw apart.0 refl ]) (nodes + 1) (omega (arith, node.1)) new (elim (eqb_tells u u) [ inl same ↦ rw same.0 refl | inr apart ↦ absurd (apart.1 refl) ]) in
      omega (arith, one, is.count, small)

module _ (b : BlockValue) (l : Label) (adds : (v : ℕ) → label (with_label b l) v ≡ cond (l.id == v) (Some l.dist) (label b v)) where
  on_node : (v : ℕ) → (l.id == v) ≡ true → label (with_label b l) v ≡ Some l.dist
  on_node v same = adds v ∙ ap (λ t. cond t (Some l.dist) (label b v)) same

  pub off_node : (v : ℕ) → (l.id == v) ≡ false → label (with_label b l) v ≡ label b v
  off_node v apart = adds v ∙ ap (λ t. cond t (Some l.dist) (label b v)) apart

  pub one_more : (nodes : ℕ) (claim : ℕ → Option ℤ) (marked after : ℕ → Bool) → IsMarkedBlock nodes claim b marked → marked l.id ≡ false → IsNode nodes l.id → claim l.id ≡ Some l.dist → IsBlock nodes (with_label b l)
      → after l.id ≡ true → ((v : ℕ) → v ≢ l.id → after v ≡ marked v) → IsMarkedBlock nodes claim (with_label b l) after
  one_more nodes claim marked after is new node named lawful here others = record {
    whole = is.whole;
    lawful = lawful;
    marks = λ v. elim (eqb_tells l.id v) [
      | inl same ↦ (ap after (sym same.1) ∙ here) ∙ sym (ap is_some (on_node v same.0))
      | inr apart ↦ others v (λ e. apart.1 (sym e)) ∙ (is.marks v ∙ sym (ap is_some (off_node v apart.0)))
    ];
    claimed = λ v e at. elim (eqb_tells l.id v) [
      | inl same ↦ ap claim (sym same.1) ∙ (named ∙ (sym (on_node v same.0) ∙ at))
      | inr apart ↦ is.claimed v e (sym (off_node v apart.0) ∙ at)
    ];
    count = omega (arith, is.count, one_marked marked after l.id others (nodes + 1) (omega (arith, node.1)) new here, length-append b.labels (l ∷ []));
  }
