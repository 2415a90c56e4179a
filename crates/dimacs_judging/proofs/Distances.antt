-- Labels that pass are distances over all walks.
use Rattle.std.proofs.Common.{◌≡◌, ◌≢◌, ◌⊎◌, inl, inr, ℕ, ◌==◌, ℤ, pos, ◌+ℤ◌, ◌≤ℤ◌, ◌<ℤ◌, Bool, true, false, cond, List, [], ◌∷◌, ◌++◌, All, Contains, Option, Some, None, refl, sym, subst, eq-eqb, ◌∙◌, arith}
use Rattle.std.proofs.{lemmas.Bool.{cond_both}, lemmas.Int.{ints, by_lt_z}, lemmas.List.{append_assoc, append-nil}}
use Rattle.std.proofs.lemmas.List.Elements.{Contains-append_right, All-contains, All-head, All-tail, All-nil, All-cons, All-weaker}
use Rattle.std.proofs.lemmas.Bool.Decides.{eqb_tells}
use Rattle.dimacs_network.specs.declared.network.ArcView.{ArcView}
use Rattle.dimacs_claims.specs.declared.label_list.Label.{Label}
use Rattle.dimacs_claims.specs.Labels.{BlockValue, IsWithinRadius, distance_in, label, PredsAreEarlier}
use Rattle.dimacs_judging.specs.Walks.{IsWalk, weight, Dist, IsDistance}
use Rattle.dimacs_judging.specs.Labels.{HasTightArc, HasWeights, IsReached, IsRelaxed, LabelsOk, StaysNear}

-- ---- no walk weighs less
-- there is a radius, and the length is beyond it
abbrev pub IsPast : Option ℤ → ℤ → Type 0
IsPast radius length = (r : ℤ) × (radius ≡ Some r) × (r <ℤ length)

past_where_not_near : (radius : Option ℤ) (length : ℤ) → (¬ IsWithinRadius radius length) → IsPast radius length
past_where_not_near None length off = absurd (off tt)
past_where_not_near (Some r) length off = (r, refl, by_lt_z r length (λ l. l) (λ le. absurd (off le)))

-- the node has a label no greater than this length, or the length is beyond the radius
abbrev IsBound : BlockValue → ℕ → ℤ → Type 0
IsBound b t length = ((e : ℤ) × (label b t ≡ Some e) × (e ≤ℤ length)) ⊎ IsPast b.radius length

reached_bound : (b : BlockValue) (t : ℕ) (length : ℤ) → IsReached b t length → IsBound b t length
reached_bound b t length (inl labelled) = inl labelled
reached_bound b t length (inr out) = inr (past_where_not_near b.radius length out.1)

walk_weight : (g : List ArcView) → All (λ (a : ArcView). pos 0 ≤ℤ a.cost) g → (walk : List ArcView) (u t : ℕ) → IsWalk g u t walk → pos 0 ≤ℤ weight walk
walk_weight g all [] u t w = omega (arith, ints)
walk_weight g all (a ∷ walk) u t w = omega (arith, ints, All-contains (λ (c : ArcView). pos 0 ≤ℤ c.cost) g a all w.0, walk_weight g all walk a.head t w.2)

weights_under : (g : List ArcView) (radius : Option ℤ) (r : ℤ) → radius ≡ Some r → HasWeights radius g → All (λ (a : ArcView). pos 0 ≤ℤ a.cost) g
weights_under g None r is weights = absurd (cc)
weights_under g (Some s) r is weights = weights

walk_bound : (g : List ArcView) (b : BlockValue) → HasWeights b.radius g → All (IsRelaxed b) g → (walk : List ArcView) (u t : ℕ) (d : ℤ) → IsWalk g u t walk → label b u ≡ Some d → IsBound b t (d +ℤ weight walk)
walk_bound g b weights relaxed [] u t d w at = inl (d, rw (← w) at, omega (arith, ints))
walk_bound g b weights relaxed (a ∷ walk) u t d w at = elim (reached_bound b a.head (d +ℤ a.cost) (All-contains (IsRelaxed b) g a relaxed w.0 d (rw w.1 at))) [
  | inl here ↦ elim (walk_bound g b weights relaxed walk a.head t here.0 w.2 here.1) [
    | inl rest ↦ inl (rest.0, rest.1, omega (arith, ints, here.2, rest.2))
    | inr past ↦ inr (past.0, past.1, omega (arith, ints, here.2, past.2))
  ]
  | inr past ↦ inr (past.0, past.1, omega (arith, ints, past.2, walk_weight g (weights_under g b.radius past.0 past.1 weights) walk a.head t w.2))
]

-- ---- a walk to each labelled node
walk_more : (g : List ArcView) (walk : List ArcView) (s u : ℕ) (a : ArcView) → IsWalk g s u walk → Contains g a → a.tail ≡ u → IsWalk g s a.head (walk ++ a ∷ [])
walk_more g [] s u a w has e = (has, e ∙ sym w, refl)
walk_more g (b ∷ walk) s u a w has e = (w.0, w.1, walk_more g walk b.head u a w.2 has e)

weight_more : (walk : List ArcView) (a : ArcView) → weight (walk ++ a ∷ []) ≡ weight walk +ℤ a.cost
weight_more [] a = omega (arith, ints)
weight_more (b ∷ walk) a = omega (arith, ints, weight_more walk a)

-- the block with exactly these labels
abbrev with_labels : ℕ → List Label → BlockValue
with_labels s labels = record { source = s; radius = None; labels = labels }

under : (b : Bool) (x y z : Option ℤ) (d : ℤ) → (y ≡ Some d → z ≡ Some d) → cond b x y ≡ Some d → cond b x z ≡ Some d
under true x y z d f e = e
under false x y z d f e = f e

distance_in-append : (earlier more : List Label) (v : ℕ) (d : ℤ) → distance_in earlier v ≡ Some d → distance_in (earlier ++ more) v ≡ Some d
distance_in-append [] more v d e = cc
distance_in-append (l ∷ earlier) more v d e = under (l.id == v) _ _ _ d (distance_in-append earlier more v d) e

label-append : (s : ℕ) (earlier more : List Label) (v : ℕ) (d : ℤ) → label (with_labels s earlier) v ≡ Some d → label (with_labels s (earlier ++ more)) v ≡ Some d
label-append s earlier more v d e = under (s == v) _ _ _ d (distance_in-append earlier more v d) e

under_or : (b : Bool) (x y z : Option ℤ) (d : ℤ) (P : Type 0) → (z ≡ Some d → (y ≡ Some d) ⊎ P) → cond b x z ≡ Some d → (cond b x y ≡ Some d) ⊎ P
under_or true x y z d P f e = inl e
under_or false x y z d P f e = f e

distance_in-push : (earlier : List Label) (l : Label) (v : ℕ) (d : ℤ) → distance_in (earlier ++ l ∷ []) v ≡ Some d → (distance_in earlier v ≡ Some d) ⊎ ((l.id ≡ v) × (l.dist ≡ d))
distance_in-push [] l v d e = go (eqb_tells l.id v)
  where
    go : (((l.id == v) ≡ true) × (l.id ≡ v)) ⊎ (((l.id == v) ≡ false) × (l.id ≢ v)) → (distance_in [] v ≡ Some d) ⊎ ((l.id ≡ v) × (l.dist ≡ d))
    go (inl h) = inr (h.1, let f = rw h.0 at e in cc)
    go (inr h) = inl (rw h.0 at e)
distance_in-push (m ∷ earlier) l v d e = under_or (m.id == v) _ _ _ d _ (distance_in-push earlier l v d) e

label-push : (s : ℕ) (earlier : List Label) (l : Label) (v : ℕ) (d : ℤ) → label (with_labels s (earlier ++ l ∷ [])) v ≡ Some d → (label (with_labels s earlier) v ≡ Some d) ⊎ ((l.id ≡ v) × (l.dist ≡ d))
label-push s earlier l v d e = under_or (s == v) _ _ _ d _ (distance_in-push earlier l v d) e

-- each label is the first of its node, or comes after one of the same node
abbrev IsListed : List Label → Label → Type 0
IsListed labels m = (d : ℤ) × (distance_in labels m.id ≡ Some d)

listed_after : (l : Label) (labels : List Label) (m : Label) → IsListed labels m → IsListed (l ∷ labels) m
listed_after l labels m (d, e) = cond_both (l.id == m.id) (Some l.dist) (distance_in labels m.id) (λ v. (f : ℤ) × (v ≡ Some f)) (λ _. (l.dist, refl)) (λ _. (d, e))

listed_first : (l : Label) (labels : List Label) → IsListed (l ∷ labels) l
listed_first l labels = let same : (l.id == l.id) ≡ true = eq-eqb l.id l.id refl in (l.dist, rw same refl)

all_listed : (labels : List Label) → All (IsListed labels) labels
all_listed [] = All-nil (IsListed [])
all_listed (l ∷ labels) = All-cons (IsListed (l ∷ labels)) l labels (listed_first l labels) (All-weaker (IsListed labels) (IsListed (l ∷ labels)) (listed_after l labels) labels (all_listed labels))

own_label : (b : BlockValue) → label b b.source ≡ Some (pos 0)
own_label b = let same : (b.source == b.source) ≡ true = eq-eqb b.source b.source refl in rw same refl

-- a node named earlier in the block has a label
labelled : (s : ℕ) (earlier : List Label) (v : ℕ) → (v ≡ s) ⊎ ((m : Label) × Contains earlier m × (m.id ≡ v)) → (d : ℤ) × (label (with_labels s earlier) v ≡ Some d)
labelled s earlier v (inl e) = rw e (pos 0, own_label (with_labels s earlier))
labelled s earlier v (inr (m, has, e)) =
    let listed : IsListed earlier m = All-contains (IsListed earlier) earlier m (all_listed earlier) has in
    cond_both (s == v) _ _ (λ found. (d : ℤ) × (found ≡ Some d)) (λ _. (pos 0, refl)) (λ _. (listed.0, rw (← e) listed.1))

abbrev Walks : List ArcView → ℕ → List Label → Type 0
Walks g s labels = (v : ℕ) (d : ℤ) → label (with_labels s labels) v ≡ Some d → (walk : List ArcView) × IsWalk g s v walk × (weight walk ≡ d)

no_labels : (g : List ArcView) (s : ℕ) → Walks g s []
no_labels g s v d e = go (eqb_tells s v)
  where
    go : (((s == v) ≡ true) × (s ≡ v)) ⊎ (((s == v) ≡ false) × (s ≢ v)) → (walk : List ArcView) × IsWalk g s v walk × (weight walk ≡ d)
    go (inl h) = ([], h.1, let f = rw h.0 at e in cc)
    go (inr h) = absurd (let f = rw h.0 at e in cc)

-- one more label
one_more : (g : List ArcView) (s : ℕ) (earlier rest : List Label) (l : Label) → HasTightArc g (with_labels s (earlier ++ l ∷ rest)) l → (l.pred ≡ s) ⊎ ((m : Label) × Contains earlier m × (m.id ≡ l.pred)) → Walks g s earlier → Walks g s (earlier ++ l ∷ [])
one_more g s earlier rest l tight known w v d at = go (label-push s earlier l v d at)
  where
    go : (label (with_labels s earlier) v ≡ Some d) ⊎ ((l.id ≡ v) × (l.dist ≡ d)) → (walk : List ArcView) × IsWalk g s v walk × (weight walk ≡ d)
    go (inl h) = w v d h
    go (inr h) =
        let (base, based, made) = tight in
        let (p, labelled_p) = labelled s earlier l.pred known in
        let (walk, from, heavy) = w l.pred p labelled_p in
        let again : Some p ≡ Some base = sym (label-append s earlier (l ∷ rest) l.pred p labelled_p) ∙ based in
        let same : p ≡ base = cc in
        let goes : IsWalk g s v (walk ++ made.arc ∷ []) = rw (← h.0, ← made.to) (walk_more g walk s l.pred made.arc from made.present made.from) in
        (walk ++ made.arc ∷ [], goes, omega (arith, ints, weight_more walk made.arc, heavy, same, made.adds, h.1))

-- all labels are the earlier ones and the rest
walks : (g : List ArcView) (s : ℕ) (labels : List Label) → PredsAreEarlier (with_labels s labels) → All (HasTightArc g (with_labels s labels)) labels
    → (earlier rest : List Label) → labels ≡ earlier ++ rest → Walks g s earlier → Walks g s labels
walks g s labels known tight earlier [] e w = rw (e, append-nil) w
walks g s labels known tight earlier (l ∷ rest) e w =
    let has : Contains labels l = rw e (Contains-append_right earlier (l ∷ rest) l (0, omega arith, refl)) in
    let here = rw e at (All-contains (HasTightArc g (with_labels s labels)) labels l tight has) in
    walks g s labels known tight (earlier ++ l ∷ []) rest (e ∙ sym (append_assoc earlier (l ∷ []) rest)) (one_more g s earlier rest l here (known earlier rest l e) w)

-- no label of the block is beyond its radius
pub near_label : (b : BlockValue) → StaysNear b → (v : ℕ) (d : ℤ) → label b v ≡ Some d → IsWithinRadius b.radius d
near_label b near v d at = elim (eqb_tells b.source v) [
  | inl same ↦ (let own : Some (pos 0) ≡ Some d = (rw same.0 at at) in let e : pos 0 ≡ d = cc in subst (IsWithinRadius b.radius) e near.source)
  | inr off ↦ near_in b.radius b.labels near.labels v d (rw off.0 at at)
]
  where
    near_in : (radius : Option ℤ) (labels : List Label) → All (λ (l : Label). IsWithinRadius radius l.dist) labels → (v : ℕ) (d : ℤ) → distance_in labels v ≡ Some d → IsWithinRadius radius d
    near_in radius [] all v d at = absurd (cc)
    near_in radius (l ∷ labels) all v d at = elim (eqb_tells l.id v) [
      | inl same ↦ (let own : Some l.dist ≡ Some d = (rw same.0 at at) in let e : l.dist ≡ d = cc in subst (IsWithinRadius radius) e (All-head (λ (m : Label). IsWithinRadius radius m.dist) l labels all))
      | inr off ↦ near_in radius labels (All-tail (λ (m : Label). IsWithinRadius radius m.dist) l labels all) v d (rw off.0 at at)
    ]

near_before_past : (radius : Option ℤ) (d length : ℤ) → IsWithinRadius radius d → IsPast radius length → d ≤ℤ length
near_before_past None d length near (r, is, far) = absurd (cc)
near_before_past (Some s) d length near (r, is, far) = let same : s ≡ r = cc in omega (arith, ints, near, far, same)

labelled_is_distance : (g : List ArcView) (b : BlockValue) → PredsAreEarlier b → StaysNear b → LabelsOk g b → (v : ℕ) (d : ℤ) → label b v ≡ Some d → Dist g b.source v d
labelled_is_distance g b known near ok v d at =
    let (walk, leads, weighs) = walks g b.source b.labels known ok.tight [] b.labels refl (no_labels g b.source) v d at in
    record {
      walk = walk;
      leads = leads;
      weighs = weighs;
      least = λ other w. elim (walk_bound g b ok.weights ok.relaxed other b.source v (pos 0) w (own_label b)) [
        | inl bound ↦
            let (e, named, le) = bound in
            let both : Some e ≡ Some d = sym named ∙ at in
            let same : e ≡ d = cc in
            omega (arith, ints)
        | inr past ↦ (let le = near_before_past b.radius d (pos 0 +ℤ weight other) (near_label b near v d at) past in omega (arith, ints, le))
      ];
    }

unlabelled_is_past : (g : List ArcView) (b : BlockValue) → LabelsOk g b → (v : ℕ) → label b v ≡ None → (walk : List ArcView) → IsWalk g b.source v walk → IsPast b.radius (weight walk)
unlabelled_is_past g b ok v none walk w = elim (walk_bound g b ok.weights ok.relaxed walk b.source v (pos 0) w (own_label b)) [
  | inl bound ↦ (let (e, named, le) = bound in let f : Some e ≡ None = sym named ∙ none in absurd (cc))
  | inr past ↦ (past.0, past.1, omega (arith, ints, past.2))
]

missed : (g : List ArcView) (s v : ℕ) (radius : Option ℤ) → ((walk : List ArcView) → IsWalk g s v walk → IsPast radius (weight walk)) → IsDistance g s v None radius
missed g s v None past = λ walk w. let (r, is, far) = past walk w in let f : None ≡ Some r = is in absurd (cc)
missed g s v (Some r') past = λ walk w. let (r, is, far) = past walk w in let same : r' ≡ r = cc in omega (arith, ints, far, same)

pub labels_are_distances : (g : List ArcView) (b : BlockValue) → PredsAreEarlier b → StaysNear b → LabelsOk g b → (v : ℕ) → IsDistance g b.source v (label b v) b.radius
labels_are_distances g b known near ok v = go (label b v) refl
  where
    go : (outcome : Option ℤ) → label b v ≡ outcome → IsDistance g b.source v outcome b.radius
    go (Some d) e = labelled_is_distance g b known near ok v d e
    go None e = missed g b.source v b.radius (unlabelled_is_past g b ok v e)
