-- The search over tight arcs.
use Rattle.std.proofs.Common.{◌≡◌, ◌≢◌, inl, inr, ℕ, suc, zero, ◌+◌, ◌-◌, ◌<◌, ◌≤◌, ◌==◌, Bool, true, false, cond, List, [], ◌∷◌, ◌++◌, All, Contains, length, get_or, Option, Some, None, is_some, ℤ, pos, ◌+ℤ◌, refl, sym, ap, subst, ◌∙◌, arith}
use Rattle.std.proofs.{lemmas.Bool.{cases_eq, cases_order}, lemmas.Bool.Decides.{eqb_tells}}
use Rattle.std.proofs.lemmas.List.{length-append, get_or_append_left}
use Rattle.std.proofs.lemmas.List.Elements.{All-nil, All-push, All-head, All-tail, All-weaker, All-contains, All-from_get_or}
use Rattle.dimacs_lines.specs.Limits.{IsNode}
use Rattle.dimacs_network.specs.{declared.network.ArcView.{ArcView}, AdjacencyLists.{IsLast}, Arcs.{arc_at, no_arc}}
use Rattle.dimacs_network.specs.declared.adjacency_lists.Side.TheVariants.{Tail}
use Rattle.dimacs_claims.specs.declared.label_list.Label.{Label}
use Rattle.dimacs_claims.specs.Labels.{BlockValue, IsBlock, distance_in, label, no_label, with_label}
use Rattle.dimacs_judging.specs.{Labels.{HasTightArc}, Walks.{IsWalk}}
use Rattle.dimacs_decide.specs.Distances.{IsTight, IsTightlyReached}
use Rattle.dimacs_decide.specs.inside.TightTrees.{IsFollowed, IsTightTree, IsWholeTightTree, TreeGrows, node_at}
use Rattle.dimacs_decide.proofs.ClaimLemmas.{walk_one}
use Rattle.dimacs_decide.proofs.MarkedLemmas.{alone, label_if_marked, none_if_unmarked, off_node, one_more, some_of}

-- ---- only the source
pub begun : (nodes : ℕ) (arcs : List ArcView) (claim : ℕ → Option ℤ) (s : ℕ) (reached : ℕ → Bool) → IsNode nodes s → claim s ≡ Some (pos 0) → IsBlock nodes (record { source = s; radius = None; labels = [] })
    → reached s ≡ true → ((v : ℕ) → v ≢ s → reached v ≡ false) → IsTightTree nodes arcs claim (record { source = s; radius = None; labels = [] }) reached
begun nodes arcs claim s reached node at lawful here others = record {
  block = alone nodes claim s reached node at lawful here others;
  tight_arcs = All-nil _;
  walks = λ v is. elim (cases_eq v s) [
    | inl same ↦ ([], sym same, All-nil (IsTight claim))
    | inr apart ↦ absurd (let e : false ≡ true = sym (others v apart) ∙ is in cc)
  ];
}

-- ---- growing
pub grows_none : (b : BlockValue) (reached : ℕ → Bool) → TreeGrows b reached b reached
grows_none b reached = record { kept = λ v h. h; places = λ j h. refl; longer = omega arith }

pub grows_then : (a : BlockValue) (p : ℕ → Bool) (b : BlockValue) (q : ℕ → Bool) (c : BlockValue) (r : ℕ → Bool) → TreeGrows a p b q → TreeGrows b q c r → TreeGrows a p c r
grows_then a p b q c r f g = record {
  kept = λ v h. g.kept v (f.kept v h);
  places = λ j h. g.places j (omega (arith, h, f.longer)) ∙ f.places j h;
  longer = omega (arith, f.longer, g.longer);
}

pub passed_still : (arcs : List ArcView) (claim : ℕ → Option ℤ) (reached after : ℕ → Bool) (v : ℕ) → ((u : ℕ) → reached u ≡ true → after u ≡ true) → IsFollowed arcs claim reached v → IsFollowed arcs claim after v
passed_still arcs claim reached after v more passed = All-weaker (λ (a : ArcView). a.tail ≡ v → IsTight claim a → reached a.head ≡ true) (λ (a : ArcView). a.tail ≡ v → IsTight claim a → after a.head ≡ true) (λ a is from tight. more _ (is from tight)) arcs passed

-- ---- one more node
module _ (nodes : ℕ) (arcs : List ArcView) (claim : ℕ → Option ℤ) (b : BlockValue) (reached : ℕ → Bool) (a : ArcView) (is : IsTightTree nodes arcs claim b reached) (new : reached a.head ≡ false) where
  module _ (d : ℤ) (after : ℕ → Bool) (has : Contains arcs a) (node : IsNode nodes a.head) (from : reached a.tail ≡ true) (tight : IsTight claim a) (named : claim a.head ≡ Some d)
      (lawful : IsBlock nodes (with_label b (record { dist = d; id = a.head; pred = a.tail })))
      (adds : (v : ℕ) → label (with_label b (record { dist = d; id = a.head; pred = a.tail })) v ≡ cond (a.head == v) (Some d) (label b v))
      (here : after a.head ≡ true) (others : (v : ℕ) → v ≢ a.head → after v ≡ reached v) where
    abbrev l : Label
    l = record { dist = d; id = a.head; pred = a.tail }

    abbrev b' : BlockValue
    b' = with_label b l

    kept_label : (v : ℕ) (e : ℤ) → label b v ≡ Some e → label b' v ≡ Some e
    kept_label v e at = elim (eqb_tells a.head v) [
      | inl same ↦ absurd (let f : Some e ≡ None = sym at ∙ (ap (label b) (sym same.1) ∙ none_if_unmarked nodes claim b reached is.block a.head new) in cc)
      | inr apart ↦ off_node b l adds v apart.0 ∙ at
    ]

    kept_mark : (v : ℕ) → reached v ≡ true → after v ≡ true
    kept_mark v h = elim (cases_eq v a.head) [ inl same ↦ ap after same ∙ here | inr apart ↦ others v apart ∙ h ]

    older : (m : Label) → HasTightArc arcs b m → HasTightArc arcs b' m
    older m h = (h.0, kept_label m.pred h.0 h.1, h.2)

    newest : HasTightArc arcs b' l
    newest =
        let (base, tail, head) = tight in
        let (t, labelled) = some_of (label b a.tail) (label_if_marked nodes claim b reached is.block a.tail from) in
        let both : Some t ≡ Some base = sym (is.block.claimed a.tail t labelled) ∙ tail in
        let same : t ≡ base = cc in
        let ends : Some (base +ℤ a.cost) ≡ Some d = sym head ∙ named in
        let adds_up : base +ℤ a.cost ≡ d = cc in
        (base, kept_label a.tail base (labelled ∙ ap Some same), record { arc = a; present = has; from = refl; to = refl; adds = adds_up })

    further : IsTightlyReached arcs b.source claim a.head
    further =
        let (walk, leads, all) = is.walks a.tail from in
        (walk ++ a ∷ [], walk_one arcs walk b.source a leads has, All-push (IsTight claim) walk a all tight)

    pub grown : IsTightTree nodes arcs claim b' after
    grown = record {
      block = one_more b l adds nodes claim reached after is.block new node named lawful here others;
      tight_arcs = All-push (HasTightArc arcs b') b.labels l (All-weaker (HasTightArc arcs b) (HasTightArc arcs b') older b.labels is.tight_arcs) newest;
      walks = λ v h. elim (cases_eq v a.head) [
        | inl same ↦ subst (IsTightlyReached arcs b.source claim) (sym same) further
        | inr apart ↦ is.walks v (sym (others v apart) ∙ h)
      ];
    }

    place_kept : (j : ℕ) → j ≤ length b.labels → node_at b' j ≡ node_at b j
    place_kept zero h = refl
    place_kept (suc k) h = ap (λ (m : Label). m.id) (get_or_append_left b.labels (l ∷ []) no_label k (omega (arith, h)))

    pub one_grows : TreeGrows b reached b' after
    one_grows = record { kept = kept_mark; places = place_kept; longer = omega (arith, length-append b.labels (l ∷ [])) }

-- ---- the arcs of a node, from the last one down
pub record IsTreePassing (nodes : ℕ) (arcs : List ArcView) (claim : ℕ → Option ℤ) (from next : ℕ) (b : BlockValue) (reached : ℕ → Bool) (b' : BlockValue) (reached' : ℕ → Bool) : Type 0 where
  pub within : next ≤ length arcs
  pub found : 0 < next → (arc_at arcs (next - 1)).tail ≡ from
  pub tree : IsTightTree nodes arcs claim b' reached'
  pub grows : TreeGrows b reached b' reached'
  pub passed : (k : ℕ) → next ≤ k → k < length arcs → (arc_at arcs k).tail ≡ from → IsTight claim (arc_at arcs k) → reached' (arc_at arcs k).head ≡ true

pub passing_none : (nodes : ℕ) (arcs : List ArcView) (claim : ℕ → Option ℤ) (from next : ℕ) (b : BlockValue) (reached : ℕ → Bool) → IsLast Tail arcs (length arcs) from next → IsTightTree nodes arcs claim b reached → IsTreePassing nodes arcs claim from next b reached b reached
passing_none nodes arcs claim from next b reached last tree = record {
  within = last.within;
  found = last.found;
  tree = tree;
  grows = grows_none b reached;
  passed = λ k low high near tight. absurd (last.none_after k low high near);
}

pub passing_more : (nodes : ℕ) (arcs : List ArcView) (claim : ℕ → Option ℤ) (from next before linked : ℕ) (b : BlockValue) (reached : ℕ → Bool) (old : BlockValue) (marks : ℕ → Bool) (new : BlockValue) (marks' : ℕ → Bool)
    → IsTreePassing nodes arcs claim from next b reached old marks → 0 < next → before ≡ linked → IsLast Tail arcs (next - 1) (arc_at arcs (next - 1)).tail linked → IsTightTree nodes arcs claim new marks' → TreeGrows old marks new marks'
    → (IsTight claim (arc_at arcs (next - 1)) → marks' (arc_at arcs (next - 1)).head ≡ true) → IsTreePassing nodes arcs claim from before b reached new marks'
passing_more nodes arcs claim from next before linked b reached old marks new marks' is some same_link held tree grows here = record {
  within = omega (arith, last.within, is.within, some);
  found = last.found;
  tree = tree;
  grows = grows_then b reached old marks new marks' is.grows grows;
  passed = λ k low high near tight. elim (cases_order k (next - 1)) [
    | inl same ↦ subst (λ j. marks' (arc_at arcs j).head ≡ true) (sym same) (here (subst (λ j. IsTight claim (arc_at arcs j)) same tight))
    | inr apart ↦ elim apart [
      | inl less ↦ absurd (last.none_after k low less near)
      | inr more ↦ grows.kept _ (is.passed k (omega (arith, more, some)) high near tight)
    ]
  ];
}
  where
    last : IsLast Tail arcs (next - 1) from before
    last = rw same_link (subst (λ v. IsLast Tail arcs (next - 1) v linked) (is.found some) held)

pub passing_all : (nodes : ℕ) (arcs : List ArcView) (claim : ℕ → Option ℤ) (from next : ℕ) (b : BlockValue) (reached : ℕ → Bool) (b' : BlockValue) (reached' : ℕ → Bool) → next ≤ 0 → IsTreePassing nodes arcs claim from next b reached b' reached' → IsFollowed arcs claim reached' from
passing_all nodes arcs claim from next b reached b' reached' over is = All-from_get_or (λ (a : ArcView). a.tail ≡ from → IsTight claim a → reached' a.head ≡ true) arcs no_arc (λ k h. is.passed k (omega (arith, over)) h)

-- ---- the whole search
-- each labelled node has a place
placed_in : (labels : List Label) (v : ℕ) (d : ℤ) → distance_in labels v ≡ Some d → (k : ℕ) × (k < length labels) × ((get_or labels k no_label).id ≡ v)
placed_in [] v d at = absurd (cc)
placed_in (l ∷ labels) v d at = elim (eqb_tells l.id v) [
  | inl same ↦ (zero, omega arith, same.1)
  | inr apart ↦ (let (k, inside, is) = placed_in labels v d (rw apart.0 at at) in (suc k, omega (arith, inside), is))
]

pub placed : (b : BlockValue) (v : ℕ) (d : ℤ) → label b v ≡ Some d → (j : ℕ) × (j ≤ length b.labels) × (node_at b j ≡ v)
placed b v d at = elim (eqb_tells b.source v) [
  | inl same ↦ (zero, omega arith, same.1)
  | inr apart ↦ (let (k, inside, is) = placed_in b.labels v d (rw apart.0 at at) in (suc k, omega (arith, inside), is))
]

some_under : (t : Bool) (d : ℤ) (o : Option ℤ) → is_some o ≡ true → is_some (cond t (Some d) o) ≡ true
some_under true d o some = refl
some_under false d o some = some

-- the source and the nodes of all labels are reached
pub node_reached : (nodes : ℕ) (arcs : List ArcView) (claim : ℕ → Option ℤ) (b : BlockValue) (reached : ℕ → Bool) → IsTightTree nodes arcs claim b reached → (j : ℕ) → j ≤ length b.labels → reached (node_at b j) ≡ true
node_reached nodes arcs claim b reached is zero h = is.block.marks b.source ∙ own
  where
    own : is_some (label b b.source) ≡ true
    own = elim (eqb_tells b.source b.source) [ inl same ↦ rw same.0 refl | inr apart ↦ absurd (apart.1 refl) ]
node_reached nodes arcs claim b reached is (suc k) h = is.block.marks _ ∙ some_under (b.source == (get_or b.labels k no_label).id) (pos 0) _ (named b.labels k (omega (arith, h)))
  where
    named : (labels : List Label) (i : ℕ) → i < length labels → is_some (distance_in labels (get_or labels i no_label).id) ≡ true
    named [] i inside = absurd (omega (arith, inside))
    named (m ∷ labels) zero inside = elim (eqb_tells m.id m.id) [ inl same ↦ rw same.0 refl | inr apart ↦ absurd (apart.1 refl) ]
    named (m ∷ labels) (suc i) inside = some_under (m.id == (get_or labels i no_label).id) m.dist _ (named labels i (omega (arith, inside)))

-- the nodes at the first places are passed
abbrev pub ArePassed : List ArcView → (ℕ → Option ℤ) → BlockValue → (ℕ → Bool) → ℕ → Type 0
ArePassed arcs claim b reached so_many = (j : ℕ) → j < so_many → IsFollowed arcs claim reached (node_at b j)

pub passed_more : (arcs : List ArcView) (claim : ℕ → Option ℤ) (b : BlockValue) (reached : ℕ → Bool) (b' : BlockValue) (reached' : ℕ → Bool) (at : ℕ) → at ≤ length b.labels → TreeGrows b reached b' reached' → IsFollowed arcs claim reached' (node_at b at)
    → ArePassed arcs claim b reached at → ArePassed arcs claim b' reached' (at + 1)
passed_more arcs claim b reached b' reached' at short grows here before j h = elim (cases_order j at) [
  | inl same ↦ subst (IsFollowed arcs claim reached') (sym (grows.places j (omega (arith, same, short)) ∙ ap (node_at b) same)) here
  | inr apart ↦ elim apart [
    | inl less ↦ subst (IsFollowed arcs claim reached') (sym (grows.places j (omega (arith, less, short)))) (passed_still arcs claim reached reached' (node_at b j) grows.kept (before j less))
    | inr more ↦ absurd (omega (arith, more, h))
  ]
]

module _ (nodes : ℕ) (arcs : List ArcView) (claim : ℕ → Option ℤ) (b : BlockValue) (reached : ℕ → Bool) (at : ℕ) (is : IsTightTree nodes arcs claim b reached) (over : length b.labels < at) (passed : ArePassed arcs claim b reached at) where
  step : (u : ℕ) → reached u ≡ true → IsFollowed arcs claim reached u
  step u h =
      let (d, at_u) = some_of (label b u) (sym (is.block.marks u) ∙ h) in
      let (j, inside, same) = placed b u d at_u in
      subst (IsFollowed arcs claim reached) same (passed j (omega (arith, inside, over)))

  along : (walk : List ArcView) (u v : ℕ) → IsWalk arcs u v walk → All (IsTight claim) walk → reached u ≡ true → reached v ≡ true
  along [] u v w all h = rw (← w) h
  along (a ∷ walk) u v w all h =
      let here : reached a.head ≡ true = All-contains (λ (c : ArcView). c.tail ≡ u → IsTight claim c → reached c.head ≡ true) arcs a (step u h) w.0 w.1 (All-head (IsTight claim) a walk all) in
      along walk a.head v w.2 (All-tail (IsTight claim) a walk all) here

  pub whole_tree : IsWholeTightTree nodes arcs claim b reached
  whole_tree = record { tree = is; closed = λ v r. along r.0 b.source v r.1 r.2 (node_reached nodes arcs claim b reached is zero (omega arith)) }
