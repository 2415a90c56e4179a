-- The arcs that leave labelled nodes.
use Rattle.std.proofs.Common.{◌≡◌, inl, inr, false, ℕ, ◌+◌, ◌<◌, ◌≤◌, List, length, get_or, slice_get, Option, Some, None, ℤ, ◌+ℤ◌, ◌<ℤ◌, ◌≤ℤ◌, refl, sym, ap, subst, ◌∙◌, arith}
use Rattle.std.proofs.{lemmas.Int.{ints, by_lt_z}, lemmas.Bool.{cases_lt, cases_order}}
use Rattle.std.proofs.lemmas.List.{get_or_default, length-map}
use Rattle.std.specs.{Option.{is_some}, Result.{is_err, result_err}, Prelude.{Result, Ok, Err}}
use Rattle.dimacs_records.specs.{declared.reasons.Reason.{Reason}, declared.reasons.Reason.TheVariants.{NotShortest}}
use Rattle.dimacs_network.specs.{declared.network.ArcView.{ArcView}, declared.adjacency_lists.Side.TheVariants.{Tail}}
use Rattle.dimacs_network.specs.{AdjacencyLists.{IsLast}, Arcs.{arc_at}}
use Rattle.dimacs_claims.specs.declared.label_list.Label.{Label}
use Rattle.dimacs_claims.specs.Labels.{BlockValue, IsBlock, IsWithinRadius, label, no_label}
use Rattle.dimacs_claims.proofs.BlockLemmas.{has_pred}
use Rattle.dimacs_judging.specs.{CertificateTests.{RelaxFails, relax_row}, inside.Leaving.{AreRelaxedFrom, IsRelaxedBy}}
use Rattle.dimacs_judging.specs.{LightestArcs.{AreCovering, Covers, WeightsFall, arcs_in}, Tests.{Clear}}
use Rattle.dimacs_judging.specs.inside.NodeLabels.{AreSupported, HasLabels, NodeEntry, RelaxesArc}
use Rattle.dimacs_judging.specs.inside.Tests.{NamesReason}
use Rattle.dimacs_judging.proofs.{Distances.{near_label}, LabelsPassing.{stays_near}, LeastLemmas.{at_place}}
use Rattle.dimacs_judging.proofs.NodeLabelLemmas.{labels_still, labels_this, some_tight_for}

-- ---- one arc
near_less : (radius : Option ℤ) (x y : ℤ) → x ≤ℤ y → IsWithinRadius radius y → IsWithinRadius radius x
near_less None x y less near = tt
near_less (Some r) x y less near = omega (arith, ints, less, near)

less_far : (d x y e : ℤ) → x ≤ℤ y → (d +ℤ y) <ℤ e → (d +ℤ x) <ℤ e
less_far d x y e less far = omega (arith, ints, less, far)

less_sum : (d x y : ℤ) → x ≤ℤ y → (d +ℤ x) ≤ℤ (d +ℤ y)
less_sum d x y less = omega (arith, ints, less)

same_sum : (d x y e : ℤ) → x ≤ℤ y → (d +ℤ y) ≡ e → (¬ ((d +ℤ x) <ℤ e)) → (d +ℤ x) ≡ e
same_sum d x y e less sum near = by_lt_z (d +ℤ x) e (λ l. absurd (near l)) (λ m. omega (arith, ints, m, less, sum))

-- an arc that a relaxed arc covers
pub relaxed_covered : (arcs : List ArcView) (b : BlockValue) (at : ℕ → NodeEntry) (one other : ArcView) → HasLabels arcs b at → Covers one other → IsRelaxedBy b at one → IsRelaxedBy b at other
relaxed_covered arcs b at one other are covers is = record {
  holds = λ reason fails.
      let (d, tail, why) = fails in
      let from : label b one.tail ≡ Some d = ap (label b) covers.tail ∙ tail in
      elim why [
        | inl out ↦ is.holds reason (d, from, inl (out.0, ap (label b) covers.head ∙ out.1, near_less b.radius (d +ℤ one.cost) (d +ℤ other.cost) (less_sum d one.cost other.cost covers.cost) out.2))
        | inr far ↦ (let (e, head, less) = far.1 in is.holds reason (d, from, inr (far.0, (e, ap (label b) covers.head ∙ head, less_far d one.cost other.cost e covers.cost less))))
      ];
  labelled = λ l has tight_for.
      let from : label b one.tail ≡ Some tight_for.base = ap (label b) (covers.tail ∙ tight_for.from) ∙ tight_for.labelled in
      let head : label b one.head ≡ Some l.dist = ap (label b) (covers.head ∙ tight_for.to) ∙ are.named l has in
      is.labelled l has (record {
        base = tight_for.base;
        labelled = tight_for.labelled;
        from = covers.tail ∙ tight_for.from;
        to = covers.head ∙ tight_for.to;
        adds = same_sum tight_for.base one.cost other.cost l.dist covers.cost tight_for.adds (λ less. is.holds NotShortest (tight_for.base, from, inr (refl, (l.dist, head, less))));
      });
}

-- an arc that leads beyond the radius
pub relaxed_beyond : (nodes : ℕ) (arcs : List ArcView) (b : BlockValue) (at : ℕ → NodeEntry) (a : ArcView) (d : ℤ) → IsBlock nodes b → HasLabels arcs b at → label b a.tail ≡ Some d → (¬ IsWithinRadius b.radius (d +ℤ a.cost)) → IsRelaxedBy b at a
relaxed_beyond nodes arcs b at a d is are tail beyond = record {
  holds = λ reason fails.
      let (e, from, why) = fails in
      let both : Some e ≡ Some d = sym from ∙ tail in
      let same : e ≡ d = cc in
      elim why [
        | inl out ↦ beyond (subst (λ z. IsWithinRadius b.radius (z +ℤ a.cost)) same out.2)
        | inr far ↦
            let (to, head, less) = far.1 in
            beyond (near_less b.radius (d +ℤ a.cost) to (below to (subst (λ z. (z +ℤ a.cost) <ℤ to) same less)) (near_label b (stays_near nodes b is) a.head to head))
      ];
  labelled = λ l has tight_for.
      let both : Some tight_for.base ≡ Some d = sym tight_for.labelled ∙ (ap (label b) (sym tight_for.from) ∙ tail) in
      let same : tight_for.base ≡ d = cc in
      absurd (beyond (subst (IsWithinRadius b.radius) (sym tight_for.adds ∙ ap (λ z. z +ℤ a.cost) same) (near_label b (stays_near nodes b is) l.id l.dist (are.named l has))));
}
  where
    below : (to : ℤ) → (d +ℤ a.cost) <ℤ to → (d +ℤ a.cost) ≤ℤ to
    below to less = omega (arith, ints, less)

-- a test that reports no reason doesn't fail
pub no_reason : {X : Type 0} (fails : Reason → Type 0) (outcome : Result X Reason) → is_err outcome ≡ false → NamesReason fails (result_err outcome) → (reason : Reason) → ¬ fails reason
no_reason fails (Ok x) none tells = tells
no_reason fails (Err why) none tells = absurd (cc)

-- after relaxing an arc
module _ (a : ArcView) (old new : ℕ → NodeEntry) (b : BlockValue) (relaxes : RelaxesArc a old new) where
  pub relaxed_still : (c : ArcView) → IsRelaxedBy b old c → IsRelaxedBy b new c
  relaxed_still c is = record { holds = is.holds; labelled = labels_still a old new b relaxes c is.labelled }

  pub relaxed_this : (arcs : List ArcView) (i : ℕ) → slice_get arcs i ≡ Some a → HasLabels arcs b old → ((reason : Reason) → ¬ RelaxFails b.radius (old a.tail).dist (old a.head).dist a.cost reason) → IsRelaxedBy b new a
  relaxed_this arcs i here are holds = record {
    holds = rw (← are.labels a.tail, ← are.labels a.head) holds;
    labelled = labels_this a old new b relaxes arcs are i here;
  }

-- ---- the arcs of a node
module _ (arcs : List ArcView) (order : List ℕ) (b : BlockValue) (at : ℕ → NodeEntry) (node : ℕ) where
  -- the arcs from this place on, as far as they leave the node, are relaxed
  abbrev pub AreRelaxedOn : ℕ → Type 0
  AreRelaxedOn next = (p : ℕ) → next ≤ p → p < length order → (arc_at (arcs_in arcs order) p).tail ≡ node → IsRelaxedBy b at (arc_at (arcs_in arcs order) p)

  pub node_more : (place before : ℕ) → IsLast Tail (arcs_in arcs order) place node before → IsRelaxedBy b at (arc_at (arcs_in arcs order) place) → AreRelaxedOn (place + 1) → AreRelaxedOn before
  node_more place before last this relaxed p after there here = elim (cases_order p place) [
    | inl same ↦ subst (λ q. IsRelaxedBy b at (arc_at (arcs_in arcs order) q)) (sym same) this
    | inr apart ↦ elim apart [
      | inl less ↦ absurd (last.none_after p after less here)
      | inr more ↦ relaxed p (omega (arith, more)) there here
    ]
  ]

  pub node_done : HasLabels arcs b at → AreCovering arcs order → AreRelaxedOn 0 → AreRelaxedFrom arcs b at node
  node_done are covering relaxed k inside here =
      let (i, (p, there, place), covers) = covering.all k inside in
      let same : arc_at (arcs_in arcs order) p ≡ arc_at arcs i = at_place arcs order p there ∙ ap (arc_at arcs) (get_or_default order p 0 i there ∙ place) in
      let tail : (arc_at (arcs_in arcs order) p).tail ≡ node = ap (λ (c : ArcView). c.tail) same ∙ (covers.tail ∙ here) in
      relaxed_covered arcs b at (arc_at arcs i) (arc_at arcs k) are covers (subst (IsRelaxedBy b at) same (relaxed p (omega arith) there tail))

  pub node_beyond : (nodes : ℕ) (d : ℤ) (next : ℕ) → IsBlock nodes b → HasLabels arcs b at → label b node ≡ Some d → WeightsFall (arcs_in arcs order) → next < length order → (¬ IsWithinRadius b.radius (d +ℤ (arc_at (arcs_in arcs order) next).cost))
      → AreRelaxedOn (next + 1) → AreRelaxedOn 0
  node_beyond nodes d next is are from fall inside beyond relaxed p after there here = elim (cases_lt next p) [
    | inl more ↦ relaxed p (omega (arith, more)) there here
    | inr less ↦
        relaxed_beyond nodes arcs b at (arc_at (arcs_in arcs order) p) d is are (ap (label b) here ∙ from)
        (λ near. beyond (near_less b.radius (d +ℤ (arc_at (arcs_in arcs order) next).cost) (d +ℤ (arc_at (arcs_in arcs order) p).cost) (less_sum d _ _ (falls p less)) near))
  ]
    where
      falls : (p : ℕ) → p ≤ next → (arc_at (arcs_in arcs order) next).cost ≤ℤ (arc_at (arcs_in arcs order) p).cost
      falls p less = elim (cases_lt p next) [
        | inl before ↦ fall p next before (omega (arith, inside, length-map order (arc_at arcs)))
        | inr last ↦ (let same : p ≡ next = omega (arith, less, last) in subst (λ q. (arc_at (arcs_in arcs order) next).cost ≤ℤ (arc_at (arcs_in arcs order) q).cost) (sym same) (omega (arith, ints)))
      ]

-- ---- the nodes of a block
pub from_still : (arcs : List ArcView) (b : BlockValue) (old new : ℕ → NodeEntry) (v : ℕ) → ((a : ArcView) → IsRelaxedBy b old a → IsRelaxedBy b new a) → AreRelaxedFrom arcs b old v → AreRelaxedFrom arcs b new v
from_still arcs b old new v still relaxed k inside here = still (arc_at arcs k) (relaxed k inside here)

pub labels_more : (arcs : List ArcView) (b : BlockValue) (old new : ℕ → NodeEntry) (n : ℕ) → ((a : ArcView) → IsRelaxedBy b old a → IsRelaxedBy b new a) → ((k : ℕ) → k < n → AreRelaxedFrom arcs b old (get_or b.labels k no_label).id)
    → AreRelaxedFrom arcs b new (get_or b.labels n no_label).id → (k : ℕ) → k < n + 1 → AreRelaxedFrom arcs b new (get_or b.labels k no_label).id
labels_more arcs b old new n still relaxed this k below = elim (cases_lt k n) [
  | inl less ↦ from_still arcs b old new (get_or b.labels k no_label).id still (relaxed k less)
  | inr last ↦ (let same : k ≡ n = omega (arith, below, last) in subst (λ j. AreRelaxedFrom arcs b new (get_or b.labels j no_label).id) (sym same) this)
]

-- the arcs that leave the source and the nodes of the first n labels are relaxed
pub record AreRelaxedFirst (arcs : List ArcView) (b : BlockValue) (n : ℕ) (at : ℕ → NodeEntry) : Type 0 where
  pub entries : HasLabels arcs b at
  pub source : AreRelaxedFrom arcs b at b.source
  pub labels : (k : ℕ) → k < n → AreRelaxedFrom arcs b at (get_or b.labels k no_label).id

module _ (arcs : List ArcView) (b : BlockValue) (n : ℕ) (at : ℕ → NodeEntry) (all : length b.labels ≤ n) (are : AreRelaxedFirst arcs b n at) where
  labelled_relaxed : (v : ℕ) (d : ℤ) → label b v ≡ Some d → AreRelaxedFrom arcs b at v
  labelled_relaxed v d is = elim (has_pred b (record { dist = d; id = v; pred = v }) (ap is_some is)) [
    | inl source ↦ subst (AreRelaxedFrom arcs b at) (sym source) are.source
    | inr named ↦
        let (m, (k, inside, here), same) = named in
        subst (AreRelaxedFrom arcs b at) (ap (λ (l : Label). l.id) (get_or_default b.labels k no_label m inside ∙ here) ∙ same) (are.labels k (omega (arith, inside, all)))
  ]

  pub all_clear : Clear (relax_row arcs b)
  all_clear k place reason f = (labelled_relaxed (arc_at arcs k).tail f.2.0 f.2.1 k f.0 refl).holds reason f.2

  pub all_supported : AreSupported arcs b at
  all_supported l has = (
    are.entries.sound l has,
    λ tight.
        let (k, inside, tight_for) = some_tight_for arcs b l tight in
        (labelled_relaxed l.pred tight_for.base tight_for.labelled k inside tight_for.from).labelled l has tight_for,
  )
