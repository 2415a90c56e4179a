-- Blocks that label few nodes.
use Rattle.std.proofs.Common.{◌≡◌, ◌≢◌, inl, inr, true, false, ℕ, zero, suc, ◌+◌, ◌-◌, ◌<◌, ◌≤◌, Bool, List, [], ◌∷◌, length, get_or, Option, Some, None, is_some, ℤ, refl, sym, ap, subst, ◌∙◌, arith}
use Rattle.std.proofs.lemmas.Bool.{cases_eq, cases_lt, cases_order, false_from_ne_true}
use Rattle.std.proofs.{lemmas.Bool.Decides.{eqb_tells}, lemmas.List.Elements.{All-cons, All-nil}}
use Rattle.std.specs.Option.{ForSome}
use Rattle.dimacs_records.specs.{Ranges.{IsWide}, declared.reasons.Reason.{Reason}}
use Rattle.dimacs_network.specs.{declared.network.ArcView.{ArcView}, declared.adjacency_lists.Side.TheVariants.{Tail}}
use Rattle.dimacs_network.specs.{AdjacencyLists.{IsLast}, Arcs.{arc_at}}
use Rattle.dimacs_claims.specs.Labels.{BlockValue, IsBlock, distance_in, label, no_label}
use Rattle.dimacs_claims.proofs.{BlockLemmas.{label_at_wide}, BuilderLemmas.{unlabelled}}
use Rattle.dimacs_claims.proofs.ByIdLemmas.{distance_in-at, fresh_apart}
use Rattle.dimacs_judging.specs.{CertificateTests.{RelaxFails}, Tests.{Clear}}
use Rattle.dimacs_decide.specs.{Distances.{claim_row}, inside.TightTrees.{ReachesAll, node_at}}
use Rattle.dimacs_decide.specs.inside.FewLabels.{AreNamed, ArcsHoldFrom, ArePlaced, IsUnreached}
use Rattle.dimacs_decide.proofs.{BlockClaimLemmas.{each_wide}, MarkedLemmas.{some_of}, TightLemmas.{placed}}

abbrev pub id_at : BlockValue → ℕ → ℕ
id_at b k = (get_or b.labels k no_label).id

-- ---- the places of labels
abbrev pub ArePlacedFirst : BlockValue → ℕ → (ℕ → ℕ) → Type 0
ArePlacedFirst b n places = (j : ℕ) → j < n → places (id_at b j) ≡ j

pub placed_more : (nodes : ℕ) (b : BlockValue) (n v : ℕ) (old new : ℕ → ℕ) → IsBlock nodes b → n < length b.labels → v ≡ id_at b n → ArePlacedFirst b n old → new v ≡ n → ((u : ℕ) → u ≢ v → new u ≡ old u) → ArePlacedFirst b (n + 1) new
placed_more nodes b n v old new is inside same are here others j below = elim (cases_lt j n) [
  | inl less ↦ others (id_at b j) (λ e. let f : j ≡ n = fresh_apart b.source b.labels is.fresh j n (omega (arith, less, inside)) inside (e ∙ same) in omega (arith, f, less)) ∙ are j less
  | inr last ↦ (let e : j ≡ n = omega (arith, below, last) in ap (λ k. new (id_at b k)) e ∙ (ap new (sym same) ∙ (here ∙ sym e)))
]

pub all_named : (nodes : ℕ) (b : BlockValue) → IsBlock nodes b → AreNamed b
all_named nodes b is k inside = distance_in-at b.labels (fresh_apart b.source b.labels is.fresh) k inside

pub all_wide : (nodes : ℕ) (b : BlockValue) → IsBlock nodes b → (v : ℕ) → ForSome (label b v) IsWide
all_wide nodes b is v = each_wide (label b v) (label_at_wide nodes (b ∷ []) 0 v (All-cons (IsBlock nodes) b [] is (All-nil (IsBlock nodes))))

-- the label at a place, if it is of the node
pub label_here : (b : BlockValue) (k v : ℕ) → AreNamed b → k < length b.labels → id_at b k ≡ v → b.source ≢ v → label b v ≡ Some (get_or b.labels k no_label).dist
label_here b k v are inside same apart = elim (eqb_tells b.source v) [
  | inl source ↦ absurd (apart source.1)
  | inr off ↦ rw off.0 (ap (distance_in b.labels) (sym same) ∙ are k inside)
]

-- where the label at its place is of another node, or there is none
pub label_none : (b : BlockValue) (v : ℕ) (places : ℕ → ℕ) → ArePlaced b places → b.source ≢ v → (places v < length b.labels → id_at b (places v) ≢ v) → label b v ≡ None
label_none b v places are apart off = unlabelled (label b v) (go (label b v) refl)
  where
    go : (o : Option ℤ) → label b v ≡ o → is_some o ≡ false
    go None is = refl
    go (Some d) is = absurd (at (placed b v d is))
      where
        at : ((j : ℕ) × (j ≤ length b.labels) × (node_at b j ≡ v)) → ⊥
        at (zero, inside, same) = apart same
        at (suc k, inside, same) =
            let there : places v ≡ k = ap places (sym same) ∙ are k (omega (arith, inside)) in
            off (omega (arith, there, inside)) (ap (id_at b) there ∙ same)

-- ---- the arcs of a node
module _ (arcs : List ArcView) (claim : ℕ → Option ℤ) (node : ℕ) where
  abbrev Passes : ℕ → Type 0
  Passes k = (reason : Reason) → ¬ RelaxFails None (claim (arc_at arcs k).tail) (claim (arc_at arcs k).head) (arc_at arcs k).cost reason

  -- the arcs from this one on, so far as they leave the node
  abbrev pub ArePassedOn : ℕ → Type 0
  ArePassedOn next = (k : ℕ) → next ≤ k → k < length arcs → (arc_at arcs k).tail ≡ node → Passes k

  pub passed_on : (next before : ℕ) → 0 < next → IsLast Tail arcs (next - 1) node before → Passes (next - 1) → ArePassedOn next → ArePassedOn before
  passed_on next before some last this on k low high near = elim (cases_order k (next - 1)) [
    | inl same ↦ subst Passes (sym same) this
    | inr apart ↦ elim apart [
      | inl less ↦ absurd (last.none_after k low less near)
      | inr more ↦ on k (omega (arith, more, some)) high near
    ]
  ]

-- ---- the nodes of a block
abbrev pub ArePassedFirst : List ArcView → (ℕ → Option ℤ) → BlockValue → ℕ → Type 0
ArePassedFirst arcs claim b n = ArcsHoldFrom arcs claim b.source × ((k : ℕ) → k < n → ArcsHoldFrom arcs claim (id_at b k))

pub first_passed : (arcs : List ArcView) (claim : ℕ → Option ℤ) (b : BlockValue) (n v : ℕ) → v ≡ id_at b n → ArcsHoldFrom arcs claim v → ArePassedFirst arcs claim b n → ArePassedFirst arcs claim b (n + 1)
first_passed arcs claim b n v same this (source, are) = (
  source,
  λ k below. elim (cases_lt k n) [
    | inl less ↦ are k less
    | inr last ↦ (let e : k ≡ n = omega (arith, below, last) in subst (ArcsHoldFrom arcs claim) (same ∙ sym (ap (id_at b) e)) this)
  ],
)

pub all_passed : (arcs : List ArcView) (claim : ℕ → Option ℤ) (b : BlockValue) (n : ℕ) → ((v : ℕ) → claim v ≡ label b v) → length b.labels ≤ n → ArePassedFirst arcs claim b n → Clear (claim_row arcs claim)
all_passed arcs claim b n same all (source, are) k place reason f = from (placed b v f.2.0 (sym (same v) ∙ f.2.1)) k f.0 refl reason f.2
  where
    v : ℕ
    v = (arc_at arcs k).tail

    from : ((j : ℕ) × (j ≤ length b.labels) × (node_at b j ≡ v)) → ArcsHoldFrom arcs claim v
    from (zero, inside, is) = subst (ArcsHoldFrom arcs claim) is source
    from (suc j, inside, is) = subst (ArcsHoldFrom arcs claim) is (are j (omega (arith, inside, all)))

-- ---- the nodes that were reached
abbrev pub AreReachedFirst : BlockValue → (ℕ → Bool) → ℕ → Type 0
AreReachedFirst b reached n = (k : ℕ) → k < n → reached (id_at b k) ≡ true

pub reached_more : (b : BlockValue) (reached : ℕ → Bool) (n v : ℕ) → v ≡ id_at b n → reached v ≡ true → AreReachedFirst b reached n → AreReachedFirst b reached (n + 1)
reached_more b reached n v same this are k below = elim (cases_lt k n) [
  | inl less ↦ are k less
  | inr last ↦ (let e : k ≡ n = omega (arith, below, last) in ap (λ j. reached (id_at b j)) e ∙ (ap reached (sym same) ∙ this))
]

pub all_reached : (nodes : ℕ) (b : BlockValue) (reached : ℕ → Bool) (n : ℕ) → reached b.source ≡ true → length b.labels ≤ n → AreReachedFirst b reached n → ReachesAll nodes (label b) reached
all_reached nodes b reached n source all are v node some = at (placed b v (some_of (label b v) some).0 (some_of (label b v) some).1)
  where
    at : ((j : ℕ) × (j ≤ length b.labels) × (node_at b j ≡ v)) → reached v ≡ true
    at (zero, inside, same) = ap reached (sym same) ∙ source
    at (suc k, inside, same) = ap reached (sym same) ∙ are k (omega (arith, inside, all))

-- ---- the table after the search
-- a node that is still reached has a label from the n-th on
abbrev pub AreLeft : BlockValue → ℕ → (ℕ → Bool) → Type 0
AreLeft b n reached = (v : ℕ) → reached v ≡ true → (v ≢ b.source) × (is_some (label b v) ≡ true) × ((k : ℕ) → k < n → id_at b k ≢ v)

pub left_source : (b : BlockValue) (old new : ℕ → Bool) (s : ℕ) → s ≡ b.source → ((v : ℕ) → old v ≡ is_some (label b v)) → new s ≡ false → ((v : ℕ) → v ≢ s → new v ≡ old v) → AreLeft b 0 new
left_source b old new s same marked here others v on = elim (cases_eq v s) [
  | inl is ↦ absurd (let f : true ≡ false = sym on ∙ (ap new is ∙ here) in cc)
  | inr apart ↦ ((λ e. apart (e ∙ sym same)), sym (marked v) ∙ (sym (others v apart) ∙ on), λ k below. absurd (omega (arith, below)))
]

pub left_more : (b : BlockValue) (old new : ℕ → Bool) (n u : ℕ) → u ≡ id_at b n → AreLeft b n old → new u ≡ false → ((v : ℕ) → v ≢ u → new v ≡ old v) → AreLeft b (n + 1) new
left_more b old new n u same left here others v on = elim (cases_eq v u) [
  | inl is ↦ absurd (let f : true ≡ false = sym on ∙ (ap new is ∙ here) in cc)
  | inr apart ↦
      let (source, some, before) = left v (sym (others v apart) ∙ on) in (
        source,
        some,
        λ k below. elim (cases_lt k n) [
          | inl less ↦ before k less
          | inr last ↦ λ e. apart (let f : k ≡ n = omega (arith, below, last) in sym e ∙ (ap (id_at b) f ∙ sym same))
        ],
      )
]

pub none_left : (b : BlockValue) (reached : ℕ → Bool) (n : ℕ) → length b.labels ≤ n → AreLeft b n reached → IsUnreached reached
none_left b reached n all left v = false_from_ne_true (reached v) (λ on. gone (left v on))
  where
    gone : ((v ≢ b.source) × (is_some (label b v) ≡ true) × ((k : ℕ) → k < n → id_at b k ≢ v)) → ⊥
    gone (source, some, before) = at (placed b v (some_of (label b v) some).0 (some_of (label b v) some).1)
      where
        at : ((j : ℕ) × (j ≤ length b.labels) × (node_at b j ≡ v)) → ⊥
        at (zero, inside, same) = source (sym same)
        at (suc k, inside, same) = before k (omega (arith, inside, all)) same
