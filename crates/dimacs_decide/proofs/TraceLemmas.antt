-- Going down from raised nodes.
use Rattle.std.proofs.Common.{◌≡◌, ◌≢◌, ◌⊎◌, inl, inr, ℕ, suc, zero, ◌+◌, ◌-◌, ◌<◌, ◌≤◌, ◌==◌, true, false, List, [], ◌∷◌, ◌++◌, length, ℤ, pos, ◌+ℤ◌, ◌≤ℤ◌, refl, sym, ap, subst, ◌∙◌, arith, eq-eqb, All}
use Rattle.std.proofs.{lemmas.Int.{ints}, lemmas.Bool.{cases_eq, cases_order, ne_eqb}, Math.Seq.{get_or-append_seam}}
use Rattle.std.proofs.lemmas.List.{length-append, get_or_append_left}
use Rattle.std.specs.Prelude.{slice_index}
use Rattle.dimacs_network.specs.{declared.network.ArcView.{ArcView}, Arcs.{JoinsNodes, arc_at}}
use Rattle.dimacs_network.specs.{declared.adjacency_lists.Side.{Side}, AdjacencyLists.{end_of, other_end}}
use Rattle.dimacs_network.specs.declared.adjacency_lists.Side.TheVariants.{Tail, Head}
use Rattle.dimacs_instance.specs.MinFlows.{HasBounds}
use Rattle.dimacs_decide.specs.declared.heights.HeightLabel.{HeightLabel}
use Rattle.dimacs_decide.specs.inside.Heights.{AreHeights, BelowBound, below_of, bound, height_of}
use Rattle.dimacs_decide.specs.inside.Traces.{IsCycle, IsFollowing, IsTrace}
use Rattle.dimacs_decide.proofs.{CountLemmas.{all_zero, one_zero_fewer}, SideLemmas.{far_within, near_within}}
use Rattle.dimacs_decide.proofs.HeightLemmas.{arc_bounds, gain_most}

-- ---- the node below
pub below_none : (arcs : List ArcView) (l : HeightLabel) → l.arc_number ≡ 0 → below_of arcs l ≡ 0
below_none arcs l none = let b : (l.arc_number == 0) ≡ true = eq-eqb l.arc_number 0 none in rw b refl

pub below_some : (arcs : List ArcView) (l : HeightLabel) → 0 < l.arc_number → below_of arcs l ≡ end_of l.side (arc_at arcs (l.arc_number - 1))
below_some arcs l some = let b : (l.arc_number == 0) ≡ false = ne_eqb l.arc_number 0 (λ e. omega (arith, e, some)) in rw b refl

pub cases_zero : (n : ℕ) → (n ≡ 0) ⊎ (0 < n)
cases_zero zero = inl refl
cases_zero (suc n) = inr (omega arith)

pub some_place : (n : ℕ) → n ≢ 0 → 0 < n
some_place n ne = elim (cases_zero n) [ inl none ↦ absurd (ne none) | inr some ↦ some ]

module _ (nodes : ℕ) {arcs : List ArcView} {x : List ℤ} {labels : ℕ → HeightLabel} (joined : All (JoinsNodes nodes) arcs) (bounds : All HasBounds arcs) (now : AreHeights arcs x labels) where
  pub step_down : (v : ℕ) → height_of labels v ≤ℤ (height_of labels (below_of arcs (labels v)) +ℤ pos 9223372036854775808)
  step_down v = elim (cases_zero (labels v).arc_number) [
    | inl none ↦ let b = below_none arcs (labels v) none in rw b (omega (arith, ints, (now.low v none).0))
    | inr some ↦
        let r = now.raised v some in
        let b = below_some arcs (labels v) some in
        let l = labels v in
        let most = gain_most l.side (arc_at arcs (l.arc_number - 1)) (arc_bounds arcs (l.arc_number - 1) bounds (omega (arith, some, r.within))) in
        rw b (omega (arith, ints, r.low, most))
  ]

  pub below_inside : (v : ℕ) → below_of arcs (labels v) ≤ nodes
  below_inside v = elim (cases_zero (labels v).arc_number) [
    | inl none ↦ let b = below_none arcs (labels v) none in rw b (omega arith)
    | inr some ↦
        let r = now.raised v some in
        let b = below_some arcs (labels v) some in
        let l = labels v in
        rw b (near_within l.side nodes arcs (l.arc_number - 1) joined (omega (arith, some, r.within))).1
  ]

  --   no arc leads to node 0
  pub height_zero : height_of labels 0 ≤ℤ bound 0
  height_zero = elim (cases_zero (labels 0).arc_number) [
    | inl none ↦ (now.low 0 none).1
    | inr some ↦
        let r = now.raised 0 some in
        let l = labels 0 in
        let node = far_within l.side nodes arcs (l.arc_number - 1) joined (omega (arith, some, r.within)) in
        absurd (let e = r.to in omega (arith, e, node.0))
  ]

-- only node 0
pub trace_none : (nodes : ℕ) (labels : ℕ → HeightLabel) (places : ℕ → ℕ) → places 0 ≡ 1 → ((v : ℕ) → v ≢ 0 → places v ≡ 0) → height_of labels 0 ≤ℤ bound 0 → IsTrace nodes labels (0 ∷ []) places
trace_none nodes labels places one others low =
    let count = one_zero_fewer (λ v. 0) places 0 others (nodes + 1) (omega arith) refl (omega (arith, one)) in
    let all = all_zero (λ v. 0) (nodes + 1) (λ v h. refl) in
    let zero_alone : (v : ℕ) → 0 < places v → v ≡ 0 = λ v some. elim (cases_eq v 0) [ inl same ↦ same | inr ne ↦ absurd (omega (arith, some, others v ne)) ] in
    record {
      first = one;
      each = omega (arith, count, all);
      there = λ j h. elim (cases_eq j 0) [ inl same ↦ subst (λ i. places (slice_index (0 ∷ []) i) ≡ i + 1) (sym same) one | inr ne ↦ absurd (omega (arith, ne, h)) ];
      found = λ v some. subst (λ u. (places u ≤ 1) × (slice_index (0 ∷ []) (places u - 1) ≡ u)) (sym (zero_alone v some)) (omega (arith, one), rw one refl);
      low = λ v some. subst (λ u. height_of labels u ≤ℤ bound 1) (sym (zero_alone v some)) (omega (arith, ints, low));
    }

-- ---- one path down
pub follow_begin : {nodes : ℕ} (arcs : List ArcView) {labels : ℕ → HeightLabel} (start : ℕ) {path : List ℕ} {places : ℕ → ℕ} → start ≤ nodes → IsTrace nodes labels path places
    → IsFollowing nodes arcs labels start (length path) path places start
follow_begin arcs start inside is = record {
  first = is.first;
  some = omega (arith, (is.found 0 (omega (arith, is.first))).0, is.first);
  begun = omega arith;
  each = is.each;
  there = is.there;
  found = is.found;
  low = λ v some within. is.low v some;
  rest = λ v more. absurd (omega (arith, more, (is.found v (omega (arith, more))).0));
  steps = λ j behind less. absurd (omega (arith, behind, less));
  link = λ j behind same. absurd (omega (arith, behind, same));
  inside = inside;
  started = inl refl;
}

module _ {nodes : ℕ} {arcs : List ArcView} {x : List ℤ} {labels : ℕ → HeightLabel} (joined : All (JoinsNodes nodes) arcs) (bounds : All HasBounds arcs) (now : AreHeights arcs x labels)
    {start begin : ℕ} {path : List ℕ} {places : ℕ → ℕ} {at : ℕ} (is : IsFollowing nodes arcs labels start begin path places at) where
  abbrev longer : List ℕ
  longer = path ++ at ∷ []

  in_front : (j : ℕ) → j < length path → slice_index longer j ≡ slice_index path j
  in_front j h = get_or_append_left path (at ∷ []) 0 j h

  last_is : slice_index longer (length path) ≡ at
  last_is = get_or-append_seam path at [] 0

  length_is : length longer ≡ length path + 1
  length_is = length-append path (at ∷ [])

  steps_to : (j : ℕ) → begin ≤ j → j < length path → below_of arcs (labels (slice_index longer j)) ≡ slice_index longer (j + 1)
  steps_to j behind less = elim (cases_order (j + 1) (length path)) [
    | inl same ↦ rw (in_front j less, same) (is.link j behind same ∙ sym last_is)
    | inr apart ↦ elim apart [
      | inl low ↦ rw (in_front j less, in_front (j + 1) low) (is.steps j behind low)
      | inr high ↦ absurd (omega (arith, high, less))
    ]
  ]

  module _ (none : places at ≡ 0) (after : ℕ → ℕ) (here : after at ≡ length path + 1) (others : (v : ℕ) → v ≢ at → after v ≡ places v) where
    abbrev next : ℕ
    next = below_of arcs (labels at)

    not_at : (v : ℕ) → 0 < places v → v ≢ at
    not_at v some e = let f = ap places e in omega (arith, f, some, none)

    pub follow_keeps : (v : ℕ) → 0 < places v → 0 < after v
    follow_keeps v some = omega (arith, others v (not_at v some), some)

    pub follow_more : IsFollowing nodes arcs labels start begin longer after next
    follow_more =
        let down = step_down nodes joined bounds now at in
        record {
          first = others 0 (not_at 0 (omega (arith, is.first))) ∙ is.first;
          some = is.some;
          begun = omega (arith, length_is, is.begun);
          each = omega (arith, length_is, is.each, one_zero_fewer places after at others (nodes + 1) (omega (arith, is.inside)) none (omega (arith, here)));
          there = λ j h. elim (cases_order j (length path)) [
            | inl same ↦ subst (λ i. after (slice_index longer i) ≡ i + 1) (sym same) (rw last_is here)
            | inr apart ↦ elim apart [
              | inl low ↦ let t = is.there j low in rw (in_front j low) (others (slice_index path j) (not_at (slice_index path j) (omega (arith, t))) ∙ t)
              | inr high ↦ absurd (omega (arith, high, h, length_is))
            ]
          ];
          found = λ v some. elim (cases_eq v at) [
            | inl same ↦ subst (λ u. (after u ≤ length longer) × (slice_index longer (after u - 1) ≡ u)) (sym same) (omega (arith, here, length_is), (let e : after at - 1 ≡ length path = omega (arith, here) in rw e last_is))
            | inr ne ↦
                let e = others v ne in
                let old : 0 < places v = omega (arith, e, some) in
                let f = is.found v old in
                let inside : places v - 1 < length path = omega (arith, f.0, old) in
                (omega (arith, e, f.0, length_is), rw (e, in_front (places v - 1) inside) f.1)
          ];
          low = λ v some within. elim (cases_eq v at) [
            | inl same ↦ absurd (let e = ap after same in omega (arith, e, here, within, is.begun))
            | inr ne ↦ let e = others v ne in is.low v (omega (arith, e, some)) (omega (arith, e, within))
          ];
          rest = λ v more. elim (cases_eq v at) [
            | inl same ↦ subst (λ u. (height_of labels u +ℤ bound begin) ≤ℤ (height_of labels next +ℤ bound (length longer))) (sym same) (rw length_is (omega (arith, ints, down, is.begun)))
            | inr ne ↦ let e = others v ne in let r = is.rest v (omega (arith, e, more)) in rw length_is (omega (arith, ints, down, r))
          ];
          steps = λ j behind less. steps_to j behind (omega (arith, less, length_is));
          link = λ j behind same. let e : j ≡ length path = omega (arith, same, length_is) in rw (e, last_is) refl;
          inside = below_inside nodes joined bounds now at;
          started = inr (elim is.started [ inl same ↦ subst (λ u. 0 < after u) same (omega (arith, here)) | inr seen ↦ follow_keeps start seen ]);
        }

  --   the path came to a node of an earlier one
  pub follow_over : 0 < places at → places at ≤ begin → IsTrace nodes labels path places × (0 < places start)
  follow_over seen within = (
    record {
      first = is.first;
      each = is.each;
      there = is.there;
      found = is.found;
      low = λ v some. elim (cases_order (places v) begin) [
        | inl same ↦ omega (arith, ints, is.low v some (omega (arith, same)), is.begun)
        | inr apart ↦ elim apart [
          | inl less ↦ omega (arith, ints, is.low v some (omega (arith, less)), is.begun)
          | inr more ↦ omega (arith, ints, is.rest v more, is.low at seen within)
        ]
      ];
    },
    elim is.started [ inl same ↦ subst (λ u. 0 < places u) same seen | inr there ↦ there ],
  )

  --   or to a node of its own
  back : begin < places at → IsCycle arcs labels longer (places at - 1) (length path)
  back more =
      let f = is.found at (omega (arith, more)) in
      let inside : places at - 1 < length path = omega (arith, f.0, more) in
      let far : (j : ℕ) → begin ≤ j → j < length path → begin < places (slice_index longer (j + 1)) = λ j behind less. elim (cases_order (j + 1) (length path)) [
        | inl same ↦ rw (same, last_is) more
        | inr apart ↦ elim apart [
          | inl low ↦ rw (in_front (j + 1) low) (omega (arith, is.there (j + 1) low, behind))
          | inr high ↦ absurd (omega (arith, high, less))
        ]
      ] in
      record {
        ends = length_is;
        some = inside;
        steps = λ j behind less. steps_to j (omega (arith, behind, more)) less;
        closed = last_is ∙ sym (in_front (places at - 1) inside ∙ f.1);
        apart = λ i j behind less short e.
            let a = is.there i (omega (arith, less, short)) in
            let b = is.there j short in
            let c : slice_index path i ≡ slice_index path j = sym (in_front i (omega (arith, less, short))) ∙ e ∙ in_front j short in
            let d = ap places c in
            omega (arith, a, b, d, less);
        raised = λ j behind less. elim (cases_zero (labels (slice_index longer j)).arc_number) [
          | inl none ↦ absurd (
              let s = steps_to j (omega (arith, behind, more)) less in
              let z : slice_index longer (j + 1) ≡ 0 = sym s ∙ below_none arcs (labels (slice_index longer j)) none in
              let p = ap places z in
              omega (arith, p, is.first, is.some, far j (omega (arith, behind, more)) less)
              )
          | inr some ↦ some
        ];
      }

  pub follow_back : begin < places at → IsCycle arcs labels longer (places at - 1) (length longer - 1)
  follow_back more = let e : length longer - 1 ≡ length path = omega (arith, length_is) in rw e (back more)

-- ---- all paths down
pub all_low : {nodes : ℕ} {arcs : List ArcView} {x : List ℤ} {labels : ℕ → HeightLabel} {path : List ℕ} {places : ℕ → ℕ} → AreHeights arcs x labels → IsTrace nodes labels path places
    → ((k : ℕ) → k < length arcs → (0 < places (arc_at arcs k).tail) × (0 < places (arc_at arcs k).head)) → BelowBound (nodes + 1) labels
all_low {arcs} {labels} {places} now is seen v = elim (cases_zero (labels v).arc_number) [
  | inl none ↦ omega (arith, ints, (now.low v none).1)
  | inr some ↦
      let r = now.raised v some in
      let l = labels v in
      let k = l.arc_number - 1 in
      let both = seen k (omega (arith, some, r.within)) in
      let there : 0 < places v = subst (λ u. 0 < places u) r.to (at_far l.side k both) in
      omega (arith, ints, is.low v there, is.each)
]
  where
    at_far : (side : Side) (k : ℕ) → (0 < places (arc_at arcs k).tail) × (0 < places (arc_at arcs k).head) → 0 < places (other_end side (arc_at arcs k))
    at_far Tail k both = both.1
    at_far Head k both = both.0
