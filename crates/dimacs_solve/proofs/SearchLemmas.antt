-- The steps of a search.
use Rattle.std.proofs.Common.{◌≡◌, ◌≢◌, ◌⊎◌, inl, inr, ℕ, zero, suc, ◌+◌, ◌-◌, ◌*◌, ◌^◌, ◌<◌, ◌≤◌, Bool, true, false, cond, List, [], ◌∷◌, ◌++◌, Some, None, ℤ, pos, All, Contains, length, get_or, take, refl, sym, ap, subst, ◌∙◌, arith, add-one}
use Rattle.std.proofs.{Math.Nat.{suc-mul, mul-le-mul_left}, lemmas.Bool.{cases_eq, cases_lt}, lemmas.Int.{ints}}
use Rattle.std.proofs.{lemmas.Bool.Decides.{eqb_tells}, Math.Seq.{get_or-append_seam}}
use Rattle.std.proofs.lemmas.List.{length-append, length-take, length-drop, get_or_append_left, take_all}
use Rattle.std.proofs.lemmas.List.Elements.{All-weaker, All-more, All-nil, All-get_or, All-take, All-drop, All-push, All-contains, Contains-get_or}
use Rattle.std.proofs.lemmas.List.Sorted.{Contains-permutation, IsPermutation-sym, length_permutation}
use Rattle.std.specs.Prelude.{◌==◌, ◌≤ℤ◌, if◌then◌else◌, IsPermutation}
use Rattle.dimacs_lines.specs.Limits.{most_count, most_nodes, IsNode}
use Rattle.dimacs_claims.specs.declared.label_list.Label.{Label}
use Rattle.dimacs_claims.specs.Labels.{BlockValue, IsBlock, IsLabel, label, with_label}
use Rattle.dimacs_solve.specs.{declared.adjacency.Adjacency.{Adjacency}, declared.packed_arc.WeightedArc.{WeightedArc}}
use Rattle.dimacs_solve.specs.{declared.piles.Walk.{Walk}, inside.Adjacency.{AreByNode, IsOutArc, out, out_arc_to}}
use Rattle.dimacs_solve.specs.inside.NodeStates.{Known, Unknown, Reached, Settled, AreUnknown, IsReachedWithin, Sets, is_settled, settled_label}
use Rattle.dimacs_solve.specs.Paths.{IsNearestFirst}
use Rattle.dimacs_solve.specs.inside.Search.{settled_count, Agrees, IsWalk, IsQueuedWalk, IsPending, IsFront, Lowers, Offers, IsArcRelaxed, IsReady, Relaxes, HasTightOutArc, IsPathSearch, IsPopped, IsClosed, IsPathTree, work}

-- ---- lists
cons_cases : {X : Type 0} (x y : X) (xs : List X) → Contains (x ∷ xs) y → (x ≡ y) ⊎ Contains xs y
cons_cases x y xs (zero, inside, is) = inl is
cons_cases x y xs (suc k, inside, is) = inr (k, omega (arith, inside), is)

cons_first : {X : Type 0} (x : X) (xs : List X) → Contains (x ∷ xs) x
cons_first x xs = (0, omega arith, refl)

cons_more : {X : Type 0} (x y : X) (xs : List X) → Contains xs y → Contains (x ∷ xs) y
cons_more x y xs (k, inside, is) = (suc k, omega (arith, inside), is)

times_more : (k m : ℕ) → (k + 1) * m ≡ k * m + m
times_more k m = ap (λ n. n * m) (add-one k) ∙ suc-mul k m

-- ---- the queue with one walk more or less
module _ (e : Walk ℕ) (few more : List (Walk ℕ)) (moved : IsPermutation (e ∷ few) more) where
  has_new : Contains more e
  has_new = Contains-permutation (e ∷ few) more e moved (cons_first e few)

  has_old : (o : Walk ℕ) → Contains few o → Contains more o
  has_old o h = Contains-permutation (e ∷ few) more o moved (cons_more e o few h)

  has_cases : (o : Walk ℕ) → Contains more o → (e ≡ o) ⊎ Contains few o
  has_cases o h = cons_cases e o few (Contains-permutation more (e ∷ few) o (IsPermutation-sym (e ∷ few) more moved) h)

-- ---- what is known about a node
agrees_still : (floor floor' : ℕ) (front front' : List (Walk ℕ)) (v : ℕ) (k : Known) → floor ≤ floor' → ((d : ℕ) → k ≡ Reached d → IsPending front v d → IsPending front' v d) → Agrees floor front v k → Agrees floor' front' v k
agrees_still floor floor' front front' v Unknown rises more is = tt
agrees_still floor floor' front front' v (Reached d) rises more is = more d refl is
agrees_still floor floor' front front' v (Settled d) rises more is = omega arith

-- a node isn't settled if no walk to it is as short as this one
unsettled_beyond : (floor : ℕ) (front : List (Walk ℕ)) (v d : ℕ) (k : Known) → Agrees floor front v k → floor ≤ d → (¬ IsReachedWithin k d) → settled_label k ≡ None
unsettled_beyond floor front v d (Settled e) is beyond off = absurd (off (omega arith))
unsettled_beyond floor front v d other is beyond off = refl

-- when the queue is empty, each node that was reached is settled
settled_at_end : (floor v d : ℕ) (k : Known) → Agrees floor [] v k → IsReachedWithin k d → (e : ℕ) × (settled_label k ≡ Some (pos e)) × (e ≤ d)
settled_at_end floor v d Unknown is w = absurd w
settled_at_end floor v d (Reached e) is w = absurd (omega (arith, is.1.1))
settled_at_end floor v d (Settled e) is w = (e, refl, w)

within_more : (k : Known) (d e : ℕ) → d ≤ e → IsReachedWithin k d → IsReachedWithin k e
within_more Unknown d e less w = w
within_more found d e less w = omega arith

label_positive : (k : Known) (z : ℤ) → settled_label k ≡ Some z → (d : ℕ) × (z ≡ pos d)
label_positive (Settled d) z h = (d, cc)
label_positive other z h = absurd cc

-- ---- how many nodes are settled
at_most_one : (b : Bool) → cond b 1 0 ≤ 1
at_most_one true = omega arith
at_most_one false = omega arith

pub settled_count-le : (node_states : ℕ → Known) (n : ℕ) → settled_count node_states n ≤ n
unfolding settled_count
settled_count-le node_states zero = omega arith
settled_count-le node_states (suc n) = omega (arith, settled_count-le node_states n, at_most_one (is_settled (node_states (suc n))))

settled_count-same : (old new : ℕ → Known) (n : ℕ) → ((v : ℕ) → v ≤ n → settled_label (new v) ≡ settled_label (old v)) → settled_count new n ≡ settled_count old n
unfolding settled_count
settled_count-same old new zero same = refl
settled_count-same old new (suc n) same = rw (settled_count-same old new n (λ v low. same v (omega arith)), same (suc n) (omega arith)) refl

-- one more node is settled
settled_count-more : {old new : ℕ → Known} {node : ℕ} (d n : ℕ) → IsNode n node → settled_label (old node) ≡ None → Sets old node (Settled d) new → settled_count new n ≡ settled_count old n + 1
unfolding settled_count
settled_count-more d zero is off sets = absurd (omega (arith, is.0, is.1))
settled_count-more {old} {new} {node} d (suc n) is off sets = elim (cases_eq (suc n) node) [
  | inl same ↦
      let before = settled_count-same old new n (λ v low. ap settled_label (sets.there v (λ at. absurd (omega (arith, at, same, low))))) in
      rw (before, same, off, sets.here) (omega arith)
  | inr apart ↦
      let before = settled_count-more d n (is.0, omega (arith, is.1, apart)) off sets in
      rw (before, sets.there (suc n) apart) (omega arith)
]

settled_count-none : (node_states : ℕ → Known) (n : ℕ) → AreUnknown node_states → settled_count node_states n ≡ 0
unfolding settled_count
settled_count-none node_states zero unknown = refl
settled_count-none node_states (suc n) unknown = rw (settled_count-none node_states n unknown, unknown (suc n)) refl

-- ---- marks don't rise
pub lowers_none : (node_states : ℕ → Known) → Lowers node_states node_states
lowers_none node_states = record { settled = λ v. refl; within = λ v d w. w }

lowers_more : {old mid new : ℕ → Known} → Lowers old mid → Lowers mid new → Lowers old new
lowers_more l m = record { settled = λ v. m.settled v ∙ l.settled v; within = λ v d w. m.within v d (l.within v d w) }

lowers_count : {old new : ℕ → Known} (n : ℕ) → Lowers old new → settled_count new n ≡ settled_count old n
lowers_count {old} {new} n l = settled_count-same old new n (λ v low. l.settled v)

-- ---- what stays when marks fall
walk_stays : {a : Adjacency} {old : ℕ → Known} (new : ℕ → Known) → ((v d : ℕ) → settled_label (old v) ≡ Some (pos d) → settled_label (new v) ≡ Some (pos d)) → {o : Walk ℕ} → IsWalk a old o → IsWalk a new o
walk_stays new kept {o} w = record { base = w.base; weight = w.weight; node = w.node; pred = kept o.pred w.base w.pred; out_arc = w.out_arc; adds = w.adds }

waiting_stays : (a : Adjacency) (floor : ℕ) {old new : ℕ → Known} → Lowers old new → (o : Walk ℕ) → IsQueuedWalk a floor old o → IsQueuedWalk a floor new o
waiting_stays a floor {old} {new} l o w = record {
  walk = walk_stays new (λ v d s. l.settled v ∙ s) w.walk;
  beyond = w.beyond;
  within = l.within o.node o.dist w.within;
  bound = rw (lowers_count a.nodes l) w.bound;
}

-- ---- the marks and the queue after an offer
record IsOffered (a : Adjacency) (floor : ℕ) (e : Walk ℕ) (node_states : ℕ → Known) (front : List (Walk ℕ)) (node_states' : ℕ → Known) (front' : List (Walk ℕ)) : Type 0 where
  waits : IsFront a floor node_states' front'
  lowers : Lowers node_states node_states'
  within : IsReachedWithin (node_states' e.node) e.dist
  queue_bounded : length front' ≤ length front + 1

module _ {a : Adjacency} {floor : ℕ} {e : Walk ℕ} {node_states node_states' : ℕ → Known} {front : List (Walk ℕ)} (front' : List (Walk ℕ)) (is : IsFront a floor node_states front) (beyond : floor ≤ e.dist) (off : ¬ IsReachedWithin (node_states e.node) e.dist)
    (sets : Sets node_states e.node (Reached e.dist) node_states') (moved : IsPermutation (e ∷ front) front') (walk : IsWalk a node_states e) (bound : e.dist ≤ a.greatest * settled_count node_states a.nodes) where
  taken_lowers : Lowers node_states node_states'
  taken_lowers = record {
    settled = λ v. elim (cases_eq v e.node) [
      | inl same ↦ rw (same, sets.here) (sym (unsettled_beyond floor front e.node e.dist (node_states e.node) (is.agree e.node) beyond off))
      | inr apart ↦ ap settled_label (sets.there v apart)
    ];
    within = λ v d w. elim (cases_eq v e.node) [
      | inl same ↦ elim (cases_lt d e.dist) [
        | inl more ↦ absurd (off (within_more (node_states e.node) d e.dist (omega arith) (rw same at w)))
        | inr less ↦ rw (same, sets.here) less
      ]
      | inr apart ↦ rw (sets.there v apart) w
    ];
  }

  taken_waits : IsQueuedWalk a floor node_states' e
  taken_waits = record {
    walk = walk_stays node_states' (λ v d s. taken_lowers.settled v ∙ s) walk;
    beyond = beyond;
    within = rw sets.here (omega arith);
    bound = rw (lowers_count a.nodes taken_lowers) bound;
  }

  taken_front : IsFront a floor node_states' front'
  taken_front = record {
    adjacent = is.adjacent;
    waiting = λ o h. elim (has_cases e front front' moved o h) [
      | inl same ↦ rw (← same) taken_waits
      | inr old ↦ waiting_stays a floor taken_lowers o (is.waiting o old)
    ];
    agree = λ v. elim (cases_eq v e.node) [
      | inl same ↦ rw (same, sets.here) (e.pred, has_new e front front' moved)
      | inr apart ↦ rw (sets.there v apart) (agrees_still floor floor front front' v (node_states v) (omega arith) (λ d r p. (p.0, has_old e front front' moved (record { dist = d; node = v; pred = p.0 }) p.1)) (is.agree v))
    ];
  }

  taken_offered : IsOffered a floor e node_states front node_states' front'
  taken_offered = record {
    waits = taken_front;
    lowers = taken_lowers;
    within = taken_waits.within;
    queue_bounded = omega (arith, length_permutation (e ∷ front) front' moved);
  }

offered : {a : Adjacency} {floor : ℕ} {e : Walk ℕ} {node_states : ℕ → Known} {front : List (Walk ℕ)} (node_states' : ℕ → Known) (front' : List (Walk ℕ)) → IsFront a floor node_states front → floor ≤ e.dist
    → IsWalk a node_states e → e.dist ≤ a.greatest * settled_count node_states a.nodes → Offers e node_states front node_states' front' → IsOffered a floor e node_states front node_states' front'
offered {a} {floor} {e} {node_states} {front} node_states' front' is beyond walk bound o = elim o [
  | inl same ↦ rw (same.1, same.2) record { waits = is; lowers = lowers_none node_states; within = same.0; queue_bounded = omega arith }
  | inr new ↦ taken_offered front' is beyond new.0 new.1 new.2 walk bound
]

-- ---- the arcs of a node
out_lawful : {a : Adjacency} (v : ℕ) → AreByNode a → All (IsOutArc a.nodes a.greatest) (out a v)
unfolding out
out_lawful {a} v is = All-take (IsOutArc a.nodes a.greatest) _ _ (All-drop (IsOutArc a.nodes a.greatest) _ a.out_arcs.items is.lawful)

out_few : (a : Adjacency) (v : ℕ) → length (out a v) ≤ length a.out_arcs.items
unfolding out
out_few a v = simp (length-take, length-drop) (omega arith)

pub out_arc_at : {a : Adjacency} (node : ℕ) {out_arcs : List WeightedArc} (i : ℕ) (d : WeightedArc) → AreByNode a → out_arcs ≡ out a node → i < length out_arcs → IsOutArc a.nodes a.greatest (get_or out_arcs i d)
out_arc_at {a} node {out_arcs} i d is from inside = All-get_or (IsOutArc a.nodes a.greatest) out_arcs i d inside (rw from (out_lawful node is))

-- ---- one step of relaxing a node
pub record IsRelaxing (a : Adjacency) (dist : ℕ) (old : ℕ → Known) (walks : List (Walk ℕ)) (out_arcs : List WeightedArc) (i : ℕ) (node_states : ℕ → Known) (front : List (Walk ℕ)) : Type 0 where
  pub waits : IsFront a dist node_states front
  pub lowers : Lowers old node_states
  pub relaxed : All (IsArcRelaxed node_states dist) (take i out_arcs)
  pub queue_bounded : length front ≤ length walks + i

pub relaxing_none : {a : Adjacency} {node dist : ℕ} {old : ℕ → Known} {walks : List (Walk ℕ)} (out_arcs : List WeightedArc) → IsReady a node dist old walks → IsRelaxing a dist old walks out_arcs 0 old walks
relaxing_none {dist} {old} out_arcs ready = record { waits = ready.waits; lowers = lowers_none old; relaxed = All-nil (IsArcRelaxed old dist); queue_bounded = omega arith }

pub relaxing_more : {a : Adjacency} {dist node : ℕ} {old : ℕ → Known} {walks : List (Walk ℕ)} {out_arcs : List WeightedArc} {i : ℕ} (d : WeightedArc) {node_states : ℕ → Known} {front : List (Walk ℕ)} (node_states' : ℕ → Known) (front' : List (Walk ℕ))
    → IsReady a node dist old walks → out_arcs ≡ out a node → i < length out_arcs → IsRelaxing a dist old walks out_arcs i node_states front
    → Offers (record { dist = dist + (get_or out_arcs i d).weight; node = (get_or out_arcs i d).head; pred = node }) node_states front node_states' front' → IsRelaxing a dist old walks out_arcs (i + 1) node_states' front'
relaxing_more {a} {dist} {node} {old} {out_arcs} {i} d {node_states} {front} node_states' front' ready from inside so_far offers =
    let out_arc = get_or out_arcs i d in
    let e : Walk ℕ = record { dist = dist + out_arc.weight; node = out_arc.head; pred = node } in
    let lawful : IsOutArc a.nodes a.greatest out_arc = out_arc_at node i d so_far.waits.adjacent from inside in
    let walk : IsWalk a node_states e = record {
      base = dist;
      weight = out_arc.weight;
      node = ready.node;
      pred = so_far.lowers.settled node ∙ ready.settled;
      out_arc = rw (← from) (Contains-get_or out_arcs i d inside);
      adds = refl;
    } in
    let short : dist + out_arc.weight ≤ a.greatest * settled_count node_states a.nodes = rw (lowers_count a.nodes so_far.lowers) (omega (arith, lawful.weight, ready.bound)) in
    let new = offered node_states' front' so_far.waits (omega arith) walk short offers in
    record {
      waits = new.waits;
      lowers = lowers_more so_far.lowers new.lowers;
      relaxed = All-more (IsArcRelaxed node_states' dist) out_arcs i d inside (All-weaker (IsArcRelaxed node_states dist) (IsArcRelaxed node_states' dist) (λ h p. new.lowers.within h.head (dist + h.weight) p) (take i out_arcs) so_far.relaxed) new.within;
      queue_bounded = omega (arith, new.queue_bounded, so_far.queue_bounded);
    }

pub relaxing_all : {a : Adjacency} {dist : ℕ} (node : ℕ) {old : ℕ → Known} {walks : List (Walk ℕ)} {out_arcs : List WeightedArc} {i : ℕ} {node_states : ℕ → Known} {front : List (Walk ℕ)} → out_arcs ≡ out a node → length out_arcs ≡ i → IsRelaxing a dist old walks out_arcs i node_states front → Relaxes a node dist old walks node_states front
relaxing_all {a} {dist} node {out_arcs} {i} {node_states} from all is = record {
  waits = is.waits;
  lowers = is.lowers;
  relaxed = subst (All (IsArcRelaxed node_states dist)) (take_all i out_arcs (omega (arith, all)) ∙ from) is.relaxed;
  queue_bounded = omega (arith, is.queue_bounded, all, ap length from, out_few a node);
}

-- the distance after one more arc from a settled node stays below the limit
pub out_arc_within : {a : Adjacency} {node dist : ℕ} (limit : ℕ) {node_states : ℕ → Known} {front : List (Walk ℕ)} {out_arc : WeightedArc} → IsReady a node dist node_states front → a.nodes * a.greatest < limit → IsOutArc a.nodes a.greatest out_arc → dist + out_arc.weight < limit
out_arc_within {a} limit {node_states} ready bounded lawful =
    let most : a.greatest * settled_count node_states a.nodes ≤ a.greatest * a.nodes = mul-le-mul_left a.greatest (settled_count-le node_states a.nodes) in
    omega (arith, bounded, ready.bound, lawful.weight, most)

-- ---- one more label
-- the labels with one more, as `Block::add` promises
abbrev pub AddsLabel : BlockValue → Label → Type 0
AddsLabel b l = (v : ℕ) → label (with_label b l) v ≡ (if l.id == v then Some l.dist else label b v)

module _ (b : BlockValue) (l : Label) (fresh : label b l.id ≡ None) (adds : AddsLabel b l) where
  label_new : label (with_label b l) l.id ≡ Some l.dist
  label_new = elim (eqb_tells l.id l.id) [
    | inl same ↦ adds l.id ∙ ap (λ t. if t then Some l.dist else label b l.id) same.0
    | inr other ↦ absurd (other.1 refl)
  ]

  label_other : (v : ℕ) → l.id ≢ v → label (with_label b l) v ≡ label b v
  label_other v apart = elim (eqb_tells l.id v) [
    | inl same ↦ absurd (apart same.1)
    | inr other ↦ adds v ∙ ap (λ t. if t then Some l.dist else label b v) other.0
  ]

  label_stays : (v : ℕ) (d : ℤ) → label b v ≡ Some d → label (with_label b l) v ≡ Some d
  label_stays v d h = elim (cases_eq l.id v) [
    | inl same ↦ absurd (let e = sym h ∙ (ap (label b) (sym same) ∙ fresh) in cc)
    | inr apart ↦ label_other v apart ∙ h
  ]

  tight_stays : (a : Adjacency) (m : Label) → HasTightOutArc a b m → HasTightOutArc a (with_label b l) m
  tight_stays a m is = record { base = is.base; weight = is.weight; pred = label_stays m.pred (pos is.base) is.pred; out_arc = is.out_arc; adds = is.adds }

-- ---- the nearest first
nearest_first_none : IsNearestFirst []
nearest_first_none k d h = absurd (omega (arith, h))

nearest_first_more : (ls : List Label) (l : Label) → IsNearestFirst ls → All (λ (m : Label). m.dist ≤ℤ l.dist) ls → IsNearestFirst (ls ++ l ∷ [])
nearest_first_more ls l is low k d h = elim (cases_lt (k + 1) (length ls)) [
  | inl inside ↦ rw (get_or_append_left ls (l ∷ []) d k (omega (arith, inside)), get_or_append_left ls (l ∷ []) d (k + 1) inside) (is k d inside)
  | inr outside ↦
      let at : k + 1 ≡ length ls = omega (arith, h, outside, length-append ls (l ∷ [])) in
      let last : get_or (ls ++ l ∷ []) (k + 1) d ≡ l = rw at (get_or-append_seam ls l [] d) in
      rw (last, get_or_append_left ls (l ∷ []) d k (omega (arith, at))) (low k d (omega (arith, at)))
]

-- ---- the walk that was removed from the queue
module _ {a : Adjacency} {b : BlockValue} {node_states : ℕ → Known} {e : Walk ℕ} {front : List (Walk ℕ)} (p : IsPopped a b node_states e front) where
  abbrev is : IsPathSearch a b node_states p.before
  is = p.search

  abbrev moved : IsPermutation (e ∷ front) p.before
  moved = IsPermutation-sym p.before (e ∷ front) p.moved

  pub popped_waits : IsQueuedWalk a is.floor node_states e
  popped_waits = is.waits.waiting e (has_new e front p.before moved)

  pub popped_lawful : IsOutArc a.nodes a.greatest (out_arc_to e.node popped_waits.walk.weight)
  popped_lawful = All-contains (IsOutArc a.nodes a.greatest) (out a e.pred) (out_arc_to e.node popped_waits.walk.weight) (out_lawful e.pred is.waits.adjacent) popped_waits.walk.out_arc

  popped_pending : (v d : ℕ) → v ≢ e.node → IsPending p.before v d → IsPending front v d
  popped_pending v d other q = elim (has_cases e front p.before moved (record { dist = d; node = v; pred = q.0 }) q.1) [
    | inl same ↦ absurd (other (sym (ap (λ (o : Walk ℕ). o.node) same)))
    | inr old ↦ (q.0, old)
  ]

  -- its node was settled already
  pub popped_again : is_settled (node_states e.node) ≡ true → IsPathSearch a b node_states front
  popped_again s = record {
    floor = is.floor;
    waits = record {
      adjacent = is.waits.adjacent;
      waiting = λ o h. is.waits.waiting o (has_old e front p.before moved o h);
      agree = λ v. agrees_still is.floor is.floor p.before front v (node_states v) (omega arith) (λ d r. popped_pending v d (λ same. absurd (let t = ap is_settled (rw same at r) in cc))) (is.waits.agree v);
    };
    labelled = is.labelled;
    counted = is.counted;
    unbounded = is.unbounded;
    lawful = is.lawful;
    tight = is.tight;
    low = is.low;
    nearest_first = is.nearest_first;
    relaxed = is.relaxed;
  }

  popped_few : settled_count node_states a.nodes ≤ a.nodes
  popped_few = settled_count-le node_states a.nodes

  pub popped_small : e.dist < 2 ^ 90
  popped_small =
      let nodes_few : a.nodes ≤ most_nodes = is.waits.adjacent.nodes_few in
      let less : a.greatest * settled_count node_states a.nodes ≤ a.greatest * most_nodes = mul-le-mul_left a.greatest (omega (arith, popped_few, nodes_few)) in
      omega (arith, popped_waits.bound, less, is.waits.adjacent.small)

  -- no shorter walk to its node was found
  popped_nearest : (k : Known) (d : ℕ) → Agrees is.floor p.before e.node k → settled_label k ≡ None → IsReachedWithin k d → e.dist ≤ d
  popped_nearest Unknown d agrees off w = absurd w
  popped_nearest (Reached f) d agrees off w = elim (has_cases e front p.before moved (record { dist = f; node = e.node; pred = agrees.0 }) agrees.1) [
    | inl same ↦ let s = ap (λ (o : Walk ℕ). o.dist) same in omega (arith, s, w)
    | inr old ↦ let s = All-contains (λ (o : Walk ℕ). e.dist ≤ o.dist) front _ p.nearest old in omega (arith, s, w)
  ]
  popped_nearest (Settled f) d agrees off w = absurd cc

  module _ (unsettled : settled_label (node_states e.node) ≡ None) where
    pub has_none : label b e.node ≡ None
    has_none = is.labelled e.node ∙ unsettled

    module _ {marked : ℕ → Known} (sets : Sets node_states e.node (Settled e.dist) marked) where
      marked_kept : (v d : ℕ) → settled_label (node_states v) ≡ Some (pos d) → settled_label (marked v) ≡ Some (pos d)
      marked_kept v d s = rw (sets.there v (λ same. absurd (let t = rw same at s in cc))) s

      marked_count : settled_count marked a.nodes ≡ settled_count node_states a.nodes + 1
      marked_count = settled_count-more e.dist a.nodes popped_lawful.node unsettled sets

      marked_within : (v d : ℕ) → IsReachedWithin (node_states v) d → IsReachedWithin (marked v) d
      marked_within v d w = elim (cases_eq v e.node) [
        | inl same ↦ rw (same, sets.here) (popped_nearest (node_states e.node) d (is.waits.agree e.node) unsettled (rw same at w))
        | inr apart ↦ rw (sets.there v apart) w
      ]

      marked_waiting : (o : Walk ℕ) → Contains front o → IsQueuedWalk a e.dist marked o
      marked_waiting o h =
          let w = is.waits.waiting o (has_old e front p.before moved o h) in
          record {
            walk = walk_stays marked marked_kept w.walk;
            beyond = All-contains (λ (o : Walk ℕ). e.dist ≤ o.dist) front o p.nearest h;
            within = marked_within o.node o.dist w.within;
            bound = rw marked_count (omega (arith, w.bound));
          }

      marked_front : IsFront a e.dist marked front
      marked_front = record {
        adjacent = is.waits.adjacent;
        waiting = marked_waiting;
        agree = λ v. elim (cases_eq v e.node) [
          | inl same ↦ rw (same, sets.here) (omega arith)
          | inr apart ↦ rw (sets.there v apart) (agrees_still is.floor e.dist p.before front v (node_states v) popped_waits.beyond (λ d r. popped_pending v d apart) (is.waits.agree v))
        ];
      }

      pub marked_ready : IsReady a e.node e.dist marked front
      marked_ready = record {
        node = popped_lawful.node;
        settled = ap settled_label sets.here;
        bound = rw marked_count (omega (arith, popped_waits.bound));
        waits = marked_front;
      }

      module _ {node_states' : ℕ → Known} {front' : List (Walk ℕ)} (r : Relaxes a e.node e.dist marked front node_states' front') where
        count_after : settled_count node_states' a.nodes ≡ settled_count node_states a.nodes + 1
        count_after = lowers_count a.nodes r.lowers ∙ marked_count

        pub visited_less : work a node_states' front' ≤ work a node_states front
        visited_less =
            let c = settled_count node_states a.nodes in
            let k = a.nodes - (c + 1) in
            let below : c + 1 ≤ a.nodes = omega (arith, settled_count-le node_states' a.nodes, count_after) in
            let left : a.nodes - c ≡ k + 1 = omega (arith, below) in
            rw (count_after, left, times_more k (length a.out_arcs.items + 1)) (omega (arith, r.queue_bounded))

      abbrev pub added : Label
      added = record { dist = pos e.dist; id = e.node; pred = e.pred }

      pub added_pred : label b e.pred ≡ Some (pos popped_waits.walk.base)
      added_pred = is.labelled e.pred ∙ popped_waits.walk.pred

      pub added_label : IsLabel a.nodes added
      added_label =
          let wide : e.dist ≤ 10 ^ 30 = omega (arith, popped_small) in
          record { id = popped_lawful.node; dist = (omega (arith, ints), omega (arith, ints, wide)); pred = popped_waits.walk.node }

      pub added_few : length b.labels < most_count
      added_few = omega (arith, is.counted, popped_few, is.waits.adjacent.nodes_few)

      module _ (adds : AddsLabel b added) where
        added_tight : HasTightOutArc a (with_label b added) added
        added_tight = record {
          base = popped_waits.walk.base;
          weight = popped_waits.walk.weight;
          pred = label_stays b added has_none adds e.pred (pos popped_waits.walk.base) added_pred;
          out_arc = popped_waits.walk.out_arc;
          adds = ap pos popped_waits.walk.adds;
        }

        module _ (lawful : IsBlock a.nodes (with_label b added)) {node_states' : ℕ → Known} {front' : List (Walk ℕ)} (r : Relaxes a e.node e.dist marked front node_states' front') where
          labelled_after : (u : ℕ) → label (with_label b added) u ≡ settled_label (node_states' u)
          labelled_after u = elim (cases_eq e.node u) [
            | inl same ↦ rw (← same) (label_new b added has_none adds ∙ sym (r.lowers.settled e.node ∙ ap settled_label sets.here))
            | inr apart ↦ label_other b added has_none adds u apart ∙ (is.labelled u ∙ sym (r.lowers.settled u ∙ ap settled_label (sets.there u (λ same. apart (sym same)))))
          ]

          relaxed_after : (u d : ℕ) → label (with_label b added) u ≡ Some (pos d) → All (IsArcRelaxed node_states' d) (out a u)
          relaxed_after u d h = elim (cases_eq e.node u) [
            | inl same ↦
                let at : d ≡ e.dist = let new = label_new b added has_none adds in cc in
                rw (← same, at) r.relaxed
            | inr apart ↦ All-weaker (IsArcRelaxed node_states d) (IsArcRelaxed node_states' d) (λ h q. r.lowers.within h.head (d + h.weight) (marked_within h.head (d + h.weight) q)) (out a u) (is.relaxed u d (sym (label_other b added has_none adds u apart) ∙ h))
          ]

          nearer_before : All (λ (l : Label). l.dist ≤ℤ pos e.dist) b.labels
          nearer_before = All-weaker (λ (l : Label). l.dist ≤ℤ pos is.floor) (λ (l : Label). l.dist ≤ℤ pos e.dist) (λ l h. omega (arith, ints, h, popped_waits.beyond)) b.labels is.low

          pub visited : IsPathSearch a (with_label b added) node_states' front'
          visited = record {
            floor = e.dist;
            waits = r.waits;
            labelled = labelled_after;
            counted = omega (arith, count_after r, is.counted, length-append b.labels (added ∷ []));
            unbounded = is.unbounded;
            lawful = lawful;
            tight = All-push (HasTightOutArc a (with_label b added)) b.labels added (All-weaker (HasTightOutArc a b) (HasTightOutArc a (with_label b added)) (tight_stays b added has_none adds a) b.labels is.tight) added_tight;
            low = All-push (λ (l : Label). l.dist ≤ℤ pos e.dist) b.labels added nearer_before (omega (arith, ints));
            nearest_first = nearest_first_more b.labels added is.nearest_first nearer_before;
            relaxed = relaxed_after;
          }

-- ---- the start of a search
module _ {a : Adjacency} {source : ℕ} {node_states started : ℕ → Known} (is : AreByNode a) (node : IsNode a.nodes source) (unknown : AreUnknown node_states) (sets : Sets node_states source (Settled 0) started) where
  start_count : settled_count started a.nodes ≡ 1
  start_count =
      let zero_before = settled_count-none node_states a.nodes unknown in
      let more = settled_count-more 0 a.nodes node (ap settled_label (unknown source)) sets in
      omega (arith, zero_before, more)

  start_front : IsFront a 0 started []
  start_front = record {
    adjacent = is;
    waiting = λ o h. absurd (omega (arith, h.1));
    agree = λ v. elim (cases_eq v source) [
      | inl same ↦ rw (same, sets.here) (omega arith)
      | inr apart ↦ rw (sets.there v apart, unknown v) tt
    ];
  }

  pub start_ready : IsReady a source 0 started []
  start_ready = record {
    node = node;
    settled = ap settled_label sets.here;
    bound = rw start_count (omega arith);
    waits = start_front;
  }

  abbrev bare : BlockValue
  bare = record { source = source; radius = None; labels = [] }

  module _ (lawful : IsBlock a.nodes bare) {node_states' : ℕ → Known} {front' : List (Walk ℕ)} (r : Relaxes a source 0 started [] node_states' front') where
    start_labelled : (u : ℕ) → label bare u ≡ settled_label (node_states' u)
    start_labelled u = elim (eqb_tells source u) [
      | inl same ↦ rw (same.0, ← same.1, r.lowers.settled source, sets.here) refl
      | inr other ↦ rw (other.0, r.lowers.settled u, sets.there u (λ same. other.1 (sym same)), unknown u) refl
    ]

    pub start_search : IsPathSearch a bare node_states' front'
    start_search = record {
      floor = 0;
      waits = r.waits;
      labelled = start_labelled;
      counted = omega (arith, lowers_count a.nodes r.lowers, start_count);
      unbounded = refl;
      lawful = lawful;
      tight = All-nil (HasTightOutArc a bare);
      low = All-nil (λ (l : Label). l.dist ≤ℤ pos 0);
      nearest_first = nearest_first_none;
      relaxed = λ u d h. elim (eqb_tells source u) [
        | inl same ↦ let t = rw same.0 at h in let zero_dist : d ≡ 0 = cc in rw (← same.1, zero_dist) r.relaxed
        | inr other ↦ absurd (let t = rw other.0 at h in cc)
      ];
    }

-- ---- the end of a search
module _ {a : Adjacency} {b : BlockValue} {node_states : ℕ → Known} (is : IsPathSearch a b node_states []) where
  over_closed : IsClosed a b
  over_closed u d h = All-weaker (IsArcRelaxed node_states d) (λ out_arc. (e : ℕ) × (label b out_arc.head ≡ Some (pos e)) × (e ≤ d + out_arc.weight))
      (λ out_arc w. rw (is.labelled out_arc.head) (settled_at_end is.floor out_arc.head (d + out_arc.weight) (node_states out_arc.head) (is.waits.agree out_arc.head) w)) (out a u) (is.relaxed u d h)

  pub over_tree : {source : ℕ} → b.source ≡ source → IsPathTree a source b
  over_tree from = record {
    from = from;
    unbounded = is.unbounded;
    lawful = is.lawful;
    tight = is.tight;
    nearest_first = is.nearest_first;
    positive = λ v z h. label_positive (node_states v) z (sym (is.labelled v) ∙ h);
    closed = over_closed;
  }
