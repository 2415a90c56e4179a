-- Walks from a source, arc by arc.
use Rattle.std.proofs.Common.{None, subst, ◌≡◌, inl, inr, ℕ, ◌<◌, ◌≤◌, List, [], ◌∷◌, ◌++◌, length, Contains, Some, ℤ, pos, ◌+ℤ◌, ◌≤ℤ◌, refl, sym, ◌∙◌, arith}
use Rattle.std.proofs.{lemmas.Bool.{cases_eq}, lemmas.Int.{ints}, lemmas.List.{get_or_default}}
use Rattle.std.specs.{FinMap.{FinMap, empty, get, insert}, Ordering.{nat_cmp}}
use Rattle.dimacs_network.specs.{declared.network.ArcView.{ArcView}, Arcs.{arc_at, no_arc}}
use Rattle.dimacs_network.proofs.Nodes.{get-empty, get-insert_same, get-insert_other}
use Rattle.dimacs_judging.specs.Walks.{IsWalk, weight}
use Rattle.dimacs_facts.specs.{declared.walks.Walk.{Walk}, inside.Arcs.{IsEased, IsStep}}
use Rattle.dimacs_facts.specs.Walks.{AreLeast, AreWalks, HasWalk}

walk_more : (g walk : List ArcView) (s u : ℕ) (a : ArcView) → IsWalk g s u walk → Contains g a → a.tail ≡ u → IsWalk g s a.head (walk ++ a ∷ [])
walk_more g [] s u a w has e = (has, e ∙ sym w, refl)
walk_more g (b ∷ walk) s u a w has e = (w.0, w.1, walk_more g walk b.head u a w.2 has e)

weight_more : (walk : List ArcView) (a : ArcView) → weight (walk ++ a ∷ []) ≡ weight walk +ℤ a.cost
weight_more [] a = omega (arith, ints)
weight_more (b ∷ walk) a = omega (arith, ints, weight_more walk a)

-- a walk with one more arc
pub walk_with : (g : List ArcView) (s : ℕ) (a : ArcView) (d : ℤ) → Contains g a → HasWalk g s a.tail d → HasWalk g s a.head (d +ℤ a.cost)
walk_with g s a d has to = record {
  walk = to.walk ++ a ∷ [];
  leads = walk_more g to.walk s a.tail a to.leads has refl;
  weighs = omega (arith, ints, weight_more to.walk a, to.weighs);
}

-- a walk is made lighter by an arc
pub walks_set : (g : List ArcView) (s : ℕ) (walks : FinMap nat_cmp Walk) (a : ArcView) (w new : Walk) → AreWalks g s walks → Contains g a → get walks a.tail ≡ Some w → new.weight ≡ (w.weight +ℤ a.cost) → AreWalks g s (insert walks a.head new)
walks_set g s walks a w new are has tail is v at found = elim (cases_eq v a.head) [
  | inl same ↦
      let here : Some new ≡ Some at = sym (get-insert_same walks a.head new) ∙ (rw same at found) in
      let e : new ≡ at = cc in
      rw (same, ← e, is) (walk_with g s a w.weight has (are a.tail w tail))
  | inr apart ↦ are v at (sym (get-insert_other walks a.head v new apart) ∙ found)
]

-- the walk without arcs
pub walks_begin : (g : List ArcView) (s : ℕ) (start : Walk) → start.weight ≡ pos 0 → AreWalks g s (insert empty s start)
walks_begin g s start is v at found = elim (cases_eq v s) [
  | inl same ↦
      let here : Some start ≡ Some at = sym (get-insert_same empty s start) ∙ (rw same at found) in
      let e : start ≡ at = cc in
      rw (same, ← e) (record { walk = []; leads = refl; weighs = sym is })
  | inr apart ↦ (let f : None ≡ Some at = sym (get-empty v) ∙ sym (get-insert_other empty s v start apart) ∙ found in absurd (cc))
]

-- no walk weighs less if each arc is eased
pub least_from : (g : List ArcView) (walks : FinMap nat_cmp Walk) → ((a : ArcView) → Contains g a → IsEased walks a) → (walk : List ArcView) (u t : ℕ) (w : Walk) → get walks u ≡ Some w → IsWalk g u t walk
    → (to : Walk) × (get walks t ≡ Some to) × (to.weight ≤ℤ (w.weight +ℤ weight walk))
least_from g walks eased [] u t w at leads = (w, rw (← leads) at, omega (arith, ints))
least_from g walks eased (a ∷ walk) u t w at leads = elim (eased a leads.0) [
  | inl none ↦ absurd (let e : None ≡ Some w = sym none ∙ rw leads.1 at in cc)
  | inr one ↦
      let (v, tail, (h, head, le)) = one in
      let both : Some v ≡ Some w = sym tail ∙ rw leads.1 at in
      let same : v ≡ w = cc in
      let rest = least_from g walks eased walk a.head t h head leads.2 in
      let less : h.weight ≤ℤ (w.weight +ℤ a.cost) = rw (← same) le in
      (rest.0, rest.1, omega (arith, ints, less, rest.2))
]

-- the first i arcs are eased
abbrev pub AreEased : List ArcView → FinMap nat_cmp Walk → ℕ → Type 0
AreEased g walks i = (k : ℕ) → k < i → IsEased walks (arc_at g k)

pub eased_least : (g : List ArcView) (s : ℕ) (walks : FinMap nat_cmp Walk) (i : ℕ) → length g ≤ i → AreEased g walks i → (w : Walk) × (get walks s ≡ Some w) × (w.weight ≤ℤ pos 0) → AreLeast g s walks
eased_least g s walks i all eased start t walk leads =
    let rest = least_from g walks (λ a has. subst (IsEased walks) (get_or_default g has.0 no_arc a has.1 ∙ has.2) (eased has.0 (omega (arith, has.1, all)))) walk s t start.0 start.1 leads in
    (rest.0, rest.1, omega (arith, ints, rest.2, start.2))

pub walk_step : (g : List ArcView) (s from to : ℕ) (before after : ℤ) → HasWalk g s from before → IsStep g from before to after → HasWalk g s to after
walk_step g s from to before after has (a, within, tail, head, sum) =
    let at : HasWalk g s a.tail before = rw tail has in
    rw (← head, sum) (walk_with g s a before within at)
