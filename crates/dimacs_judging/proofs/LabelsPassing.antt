-- Labels whose tests all pass.
use Rattle.std.proofs.Common.{◌≡◌, ◌≢◌, ◌⊎◌, inl, inr, ℕ, suc, zero, ◌+◌, ◌<◌, List, [], ◌∷◌, All, Contains, length, get_or, Option, Some, None, Result, Ok, Err, IfSome, IsSome, ℤ, pos, ◌+ℤ◌, ◌≤ℤ◌, ◌<ℤ◌, refl, sym, ap, true, false, is_some, subst, ◌∙◌, arith}
use Rattle.std.proofs.{lemmas.Int.{ints, by_lt_z}, lemmas.Bool.Decides.{eqb_tells}}
use Rattle.std.proofs.lemmas.List.Elements.{All-nil, All-cons, All-head, All-tail, All-contains, Contains-get_or, Contains-append_right, Contains-append_cases}
use Rattle.std.specs.{Int.Signed.{<ℤ_irrefl}, Result.{OnOk}}
use Rattle.dimacs_network.specs.{declared.network.ArcView.{ArcView}, Arcs.{no_arc, arc_at}}
use Rattle.dimacs_records.specs.{Ranges.{IsRadius}, declared.reasons.Reason.{Reason}}
use Rattle.dimacs_claims.specs.declared.label_list.Label.{Label}
use Rattle.dimacs_claims.specs.Labels.{BlockValue, LabelsValue, AreLabels, IsBlock, IsWithinRadius, label, no_label}
use Rattle.dimacs_judging.specs.{declared.verdict.Where.{Where}, Tests.{Clear, AllClear}, inside.Tests.{TestsRows}}
use Rattle.dimacs_judging.specs.Labels.{HasArcOfWeight, HasTightArc, HasWeights, IsReached, IsRelaxed, LabelsOk, AreDistances, StaysNear}
use Rattle.dimacs_judging.specs.CertificateTests.{support_row, RelaxFails, relax_row, label_rows, weight_row}
use Rattle.dimacs_judging.proofs.{Distances.{labels_are_distances}, NodeLabelLemmas.{the_only}}
use Rattle.dimacs_records.specs.declared.reasons.Reason.TheVariants as reasons
use Rattle.dimacs_judging.specs.declared.verdict.Where.TheVariants as places

all_from : {A : Type 0} (P : A → Type 0) (xs : List A) (d : A) → ((k : ℕ) → k < length xs → P (get_or xs k d)) → All P xs
all_from P [] d each = All-nil P
all_from P (x ∷ xs) d each = All-cons P x xs (each zero (omega arith)) (all_from P xs d (λ k h. each (suc k) (omega (arith, h))))

all_at : {A : Type 0} (P : A → Type 0) (xs : List A) (d : A) (k : ℕ) → k < length xs → All P xs → P (get_or xs k d)
all_at P xs d k h all = All-contains P xs (get_or xs k d) all (Contains-get_or xs k d h)

-- ---- it is decidable whether an arc is tight for a label
same_or_not : (a b : ℤ) → (a ≡ b) ⊎ (a ≢ b)
same_or_not a b = by_lt_z a b
    (λ l. inr (λ e. <ℤ_irrefl (subst (λ (z : ℤ). z <ℤ b) e l)))
    (λ m. by_lt_z b a (λ l. inr (λ e. <ℤ_irrefl (subst (λ (z : ℤ). b <ℤ z) e l))) (λ n. inl (omega (arith, ints, m, n))))

-- a property that is decidable for each item is decidable for some item
some_or_none : {A : Type 0} (P : A → Type 0) → ((x : A) → P x ⊎ (¬ P x)) → (xs : List A) → ((x : A) × Contains xs x × P x) ⊎ (¬ ((x : A) × Contains xs x × P x))
some_or_none P tell [] = inr (λ has. let (x, (k, inside, is), p) = has in absurd (omega (arith, inside)))
some_or_none {A} P tell (x ∷ xs) = elim (tell x) [
  | inl p ↦ inl (x, (zero, omega arith, refl), p)
  | inr off ↦ elim (some_or_none P tell xs) [
    | inl some ↦ inl (some.0, Contains-append_right (x ∷ []) xs some.0 some.1, some.2)
    | inr none ↦ inr (λ has. elim (Contains-append_cases (x ∷ []) xs has.0 has.1) [
      | inl one ↦ off (subst P (sym (the_only x has.0 one)) has.2)
      | inr more ↦ none (has.0, more, has.2)
    ])
  ]
]

abbrev Makes : Label → ℤ → ArcView → Type 0
Makes l base a = (a.tail ≡ l.pred) × (a.head ≡ l.id) × ((base +ℤ a.cost) ≡ l.dist)

makes_or_not : (l : Label) (base : ℤ) (a : ArcView) → Makes l base a ⊎ (¬ Makes l base a)
makes_or_not l base a = elim (eqb_tells a.tail l.pred) [
  | inr off ↦ inr (λ m. off.1 m.0)
  | inl tail ↦ elim (eqb_tells a.head l.id) [
    | inr off ↦ inr (λ m. off.1 m.1)
    | inl head ↦ elim (same_or_not (base +ℤ a.cost) l.dist) [ inr off ↦ inr (λ m. off m.2) | inl adds ↦ inl (tail.1, head.1, adds) ]
  ]
]

abbrev as_record : (arcs : List ArcView) (l : Label) (base : ℤ) → ((a : ArcView) × Contains arcs a × Makes l base a) → HasArcOfWeight arcs l base
as_record arcs l base m = record { arc = m.0; present = m.1; from = m.2.0; to = m.2.1; adds = m.2.2 }

-- the double negation of having a tight arc gives one
arc_where_not_none : (arcs : List ArcView) (l : Label) (pred : Option ℤ) → (¬ (¬ ((base : ℤ) × (pred ≡ Some base) × HasArcOfWeight arcs l base))) → (base : ℤ) × (pred ≡ Some base) × HasArcOfWeight arcs l base
arc_where_not_none arcs l None h = absurd (h (λ has. let f = has.1 in cc))
arc_where_not_none arcs l (Some base) h = elim (some_or_none (Makes l base) (makes_or_not l base) arcs) [
  | inl some ↦ (base, refl, as_record arcs l base some)
  | inr none ↦ absurd (h (λ has.
      let (other, is, made) = has in
      let same : base ≡ other = cc in
      none (made.arc, made.present, (made.from, made.to, rw same made.adds))))
]

-- ---- one block
supported : (arcs : List ArcView) (b : BlockValue) → Clear (support_row arcs b) → All (HasTightArc arcs b) b.labels
supported arcs b clear = all_from (HasTightArc arcs b) b.labels no_label (λ k h.
    arc_where_not_none arcs (get_or b.labels k no_label) (label b (get_or b.labels k no_label).pred) (λ off. clear k (places.Node (get_or b.labels k no_label).id) reasons.NoTightArc (h, refl, refl, off)))

support_clear : (arcs : List ArcView) (b : BlockValue) → All (HasTightArc arcs b) b.labels → Clear (support_row arcs b)
support_clear arcs b all k place reason f = f.3 (all_at (HasTightArc arcs b) b.labels no_label k f.0 all)

relaxed_where_not_failed : (radius head : Option ℤ) (d w : ℤ) → ((reason : Reason) → ¬ RelaxFails radius (Some d) head w reason) → ((e : ℤ) × (head ≡ Some e) × (e ≤ℤ (d +ℤ w))) ⊎ ((head ≡ None) × (¬ IsWithinRadius radius (d +ℤ w)))
relaxed_where_not_failed radius None d w h = inr (refl, λ near. h reasons.Escapes (d, refl, inl (refl, refl, near)))
relaxed_where_not_failed radius (Some e) d w h =
    inl (e, refl, by_lt_z (d +ℤ w) e (λ l. absurd (h reasons.NotShortest (d, refl, inr (refl, (e, refl, l))))) (λ l. l))

relaxed : (arcs : List ArcView) (b : BlockValue) → Clear (relax_row arcs b) → All (IsRelaxed b) arcs
relaxed arcs b clear = all_from (IsRelaxed b) arcs no_arc (λ k h d is.
    relaxed_where_not_failed b.radius (label b (arc_at arcs k).head) d (arc_at arcs k).cost (λ reason f. clear k (places.Arc (k + 1)) reason (h, refl, rw is f)))

relax_clear : (arcs : List ArcView) (b : BlockValue) → All (IsRelaxed b) arcs → Clear (relax_row arcs b)
relax_clear arcs b all k place reason f =
    let (d, is, fails) = f.2 in
    not_both (all_at (IsRelaxed b) arcs no_arc k f.0 all d is) fails
  where
    not_both : {length : ℤ} → IsReached b (arc_at arcs k).head length → ((reason ≡ reasons.Escapes) × (label b (arc_at arcs k).head ≡ None) × IsWithinRadius b.radius length) ⊎ ((reason ≡ reasons.NotShortest) × ((e : ℤ) × (label b (arc_at arcs k).head ≡ Some e) × (length <ℤ e))) → ⊥
    not_both (inl (e, named, le)) (inl out) = let both : None ≡ Some e = sym out.1 ∙ named in cc
    not_both (inl (e, named, le)) (inr far) = let (g, also, less) = far.1 in let both : Some g ≡ Some e = sym also ∙ named in let same : g ≡ e = cc in omega (arith, ints, le, less, same)
    not_both (inr past) (inl out) = past.1 out.2
    not_both (inr past) (inr far) = let (g, also, less) = far.1 in let both : Some g ≡ None = sym also ∙ past.0 in cc

-- ---- weights
weights_pass : (arcs : List ArcView) (b : BlockValue) → Clear (weight_row arcs b) → HasWeights b.radius arcs
weights_pass arcs b clear = go b.radius refl
  where
    go : (radius : Option ℤ) → b.radius ≡ radius → HasWeights radius arcs
    go None is = tt
    go (Some r) is = all_from (λ (a : ArcView). pos 0 ≤ℤ a.cost) arcs no_arc (λ k h. by_lt_z (arc_at arcs k).cost (pos 0) (λ l. absurd (clear k (places.Arc (k + 1)) reasons.NegativeWeight (ap is_some is, (h, refl, (refl, l))))) (λ le. le))

weights_clear : (arcs : List ArcView) (b : BlockValue) → HasWeights b.radius arcs → Clear (weight_row arcs b)
weights_clear arcs b weights k place reason f = go b.radius weights f.0
  where
    go : (radius : Option ℤ) → HasWeights radius arcs → IsSome radius → ⊥
    go None all some = absurd (let f : false ≡ true = some in cc)
    go (Some r) all some = let low = all_at (λ (a : ArcView). pos 0 ≤ℤ a.cost) arcs no_arc k f.1.0 all in omega (arith, ints, low, f.1.2.1)

-- ---- all blocks
pub labels_hold : (arcs : List ArcView) (blocks : List BlockValue) → AllClear (label_rows arcs blocks) → All (LabelsOk arcs) blocks
labels_hold arcs [] clear = All-nil (LabelsOk arcs)
labels_hold arcs (b ∷ blocks) clear = All-cons (LabelsOk arcs) b blocks (record { weights = weights_pass arcs b clear.0; tight = supported arcs b clear.1.0; relaxed = relaxed arcs b clear.1.1.0 }) (labels_hold arcs blocks clear.1.1.1)

pub labels_clear : (arcs : List ArcView) (blocks : List BlockValue) → All (LabelsOk arcs) blocks → AllClear (label_rows arcs blocks)
labels_clear arcs [] all = tt
labels_clear arcs (b ∷ blocks) all =
    let here = All-head (LabelsOk arcs) b blocks all in
    (weights_clear arcs b here.weights, (support_clear arcs b here.tight, (relax_clear arcs b here.relaxed, labels_clear arcs blocks (All-tail (LabelsOk arcs) b blocks all))))

pub stays_near : (nodes : ℕ) (b : BlockValue) → IsBlock nodes b → StaysNear b
stays_near nodes b is = record { source = go b.radius is.radius_within; labels = is.within_radius }
  where
    go : (radius : Option ℤ) → IfSome radius IsRadius → IsWithinRadius radius (pos 0)
    go None within = tt
    go (Some r) within = omega (arith, ints, within.0)

pub passing_are_distances : (arcs : List ArcView) (l : LabelsValue) → AreLabels l → All (LabelsOk arcs) l.blocks → AreDistances arcs l.blocks
passing_are_distances arcs l are all k d inside = labels_are_distances arcs (get_or l.blocks k d) (are.blocks k d inside).preds (stays_near l.nodes (get_or l.blocks k d) (are.blocks k d inside)) (all k d inside)

pub told_distances : (arcs : List ArcView) (l : LabelsValue) → AreLabels l → (outcome : Result Unit (Where × Reason)) → TestsRows (label_rows arcs l.blocks) outcome → OnOk outcome (AreDistances arcs l.blocks)
told_distances arcs l are (Ok done) clear = passing_are_distances arcs l are (labels_hold arcs l.blocks clear)
told_distances arcs l are (Err refusal) first = tt
