-- The path back from a node.
use Rattle.std.proofs.Common.{◌≡◌, ◌≢◌, ◌⊎◌, inl, inr, ℕ, suc, zero, ◌+◌, ◌-◌, ◌<◌, ◌≤◌, ◌==◌, Bool, true, false, not, cond, List, [], ◌∷◌, ◌++◌, All, length, Option, Some, None, IsSome, is_some, ℤ, pos, refl, sym, ap, subst, ◌∙◌, arith}
use Rattle.std.proofs.{lemmas.Bool.{cases_Bool, cases_lt, ne_eqb}, lemmas.Bool.Decides.{eqb_tells}}
use Rattle.std.proofs.{lemmas.List.{length-append}, lemmas.List.Elements.{All-cons, All-head, All-nil, All-tail}}
use Rattle.dimacs_lines.specs.Limits.{IsNode}
use Rattle.dimacs_decide.specs.{Predecessors.{LeadsBack, back}, inside.MarkedBlocks.{absent}}
use Rattle.dimacs_decide.specs.inside.LabelTrees.{AreOff, ComesFirst, EndsPath, IsPathBack, Leads, Places}
use Rattle.dimacs_claims.proofs.BuilderLemmas.{unlabelled}
use Rattle.dimacs_decide.proofs.CountLemmas.{count_all, count_some, one_fewer}

-- ---- steps
back_next : (pred : ℕ → ℕ) (n v : ℕ) → back pred (suc n) v ≡ pred (back pred n v)
back_next pred zero v = refl
back_next pred (suc n) v = back_next pred n (pred v)

back_sum : (pred : ℕ → ℕ) (m n v k : ℕ) → k ≡ m + n → back pred k v ≡ back pred n (back pred m v)
back_sum pred zero n v k is = let same : k ≡ n = omega (arith, is) in ap (λ j. back pred j v) same
back_sum pred (suc m) n v zero is = absurd (omega (arith, is))
back_sum pred (suc m) n v (suc k) is = back_sum pred m n (pred v) k (omega (arith, is))

-- all that a cycle leads to is on it
on_cycle : (pred : ℕ → ℕ) (j v : ℕ) → 0 < j → back pred j v ≡ v → (most n : ℕ) → n ≤ most → (r : ℕ) × (r < j) × (back pred n v ≡ back pred r v)
on_cycle pred j v some cycle zero n less = let none : n ≡ 0 = omega (arith, less) in (0, some, ap (λ k. back pred k v) none)
on_cycle pred j v some cycle (suc most) n less = elim (cases_lt n j) [
  | inl below ↦ (n, below, refl)
  | inr on ↦
      let (r, small, same) = on_cycle pred j v some cycle most (n - j) (omega (arith, less, some, on)) in
      (r, small, back_sum pred j (n - j) v n (omega (arith, on)) ∙ (ap (back pred (n - j)) cycle ∙ same))
]

-- ---- more nodes than there are: two are the same
module _ (pred : ℕ → ℕ) (v : ℕ) where
  -- whether the node is one of the first k
  abbrev visited : ℕ → ℕ → Bool
  visited zero u = false
  visited (suc k) u = cond (back pred k v == u) true (visited k u)

  found : (k u : ℕ) → visited k u ≡ true → (i : ℕ) × (i < k) × (back pred i v ≡ u)
  found zero u is = absurd (cc)
  found (suc k) u is = elim (eqb_tells (back pred k v) u) [
    | inl same ↦ (k, omega arith, same.1)
    | inr apart ↦ (let (i, less, e) = found k u (rw apart.0 at is) in (i, omega (arith, less), e))
  ]

  abbrev Repeats : ℕ → Type 0
  Repeats k = (i : ℕ) × (j : ℕ) × (i < j) × (j < k) × (back pred i v ≡ back pred j v)

  repeats_or_not : (n k : ℕ) → ((i : ℕ) → i < k → back pred i v < n) → Repeats k ⊎ (absent (visited k) n + k ≡ n)
  repeats_or_not n zero inside = inr (omega (arith, count_all (λ u. true) n (λ u h. refl)))
  repeats_or_not n (suc k) inside = elim (repeats_or_not n k (λ i less. inside i (omega (arith, less)))) [
    | inl (i, j, less, below, same) ↦ inl (i, j, less, omega (arith, below), same)
    | inr all ↦ elim (cases_Bool (visited k (back pred k v))) [
      | inl is ↦ (let (i, less, same) = found k (back pred k v) is in inl (i, k, less, omega arith, same))
      | inr new ↦
          let at = back pred k v in
          let here : visited (suc k) at ≡ true = elim (eqb_tells at at) [ inl same ↦ rw same.0 refl | inr apart ↦ absurd (apart.1 refl) ] in
          let one = one_fewer (λ u. not (visited k u)) (λ u. not (visited (suc k) u)) at (λ u apart. rw (ne_eqb at u (λ e. apart (sym e))) refl) n (inside k (omega arith)) (ap not new) (ap not here) in
          inr (omega (arith, all, one))
    ]
  ]

  module _ (nodes s : ℕ) (labelled : ℕ → Bool) (on : labelled s ≡ true) where
    --   a path that is too long is a cycle without the source
    never_long : ((i : ℕ) → i ≤ nodes → IsNode nodes (back pred i v)) → ((i : ℕ) → i ≤ nodes → labelled (back pred i v) ≡ false) → ¬ LeadsBack pred s v
    never_long inside off (n, leads) = elim (repeats_or_not (nodes + 1) (nodes + 1) (λ i less. omega (arith, (inside i (omega (arith, less))).1))) [
      | inl (i, j, less, below, same) ↦
          let w = back pred i v in
          let round : back pred (j - i) w ≡ w = sym (back_sum pred i (j - i) v j (omega (arith, less))) ∙ sym same in
          elim (cases_lt n i) [
            | inl early ↦ (let f : true ≡ false = sym on ∙ (ap labelled (sym leads) ∙ off n (omega (arith, early, less, below))) in absurd (cc))
            | inr late ↦
                let (r, small, is) = on_cycle pred (j - i) w (omega (arith, less)) round (n - i) (n - i) (omega arith) in
                let at : back pred n v ≡ back pred (i + r) v = back_sum pred i (n - i) v n (omega (arith, late)) ∙ (is ∙ sym (back_sum pred i r v (i + r) refl)) in
                let f : true ≡ false = sym on ∙ (ap labelled (sym leads ∙ at) ∙ off (i + r) (omega (arith, small, below, less))) in
                absurd (cc)
          ]
      | inr all ↦
          let none : visited (nodes + 1) 0 ≡ false = elim (cases_Bool (visited (nodes + 1) 0)) [
            | inl is ↦ (let (i, less, zero_at) = found (nodes + 1) 0 is in absurd (omega (arith, (inside i (omega (arith, less))).0, zero_at)))
            | inr new ↦ new
          ] in
          absurd (omega (arith, all, count_some (λ u. not (visited (nodes + 1) u)) 0 (nodes + 1) (omega arith) (ap not none)))
    ]

-- ---- the path
module _ (claim : ℕ → Option ℤ) (pred : ℕ → ℕ) where
  pub path_more : (v : ℕ) (path : List ℕ) (end : ℕ) → IsPathBack claim pred v path end → IsSome (claim end) → IsPathBack claim pred v (path ++ end ∷ []) (pred end)
  path_more v [] end is some = (is, subst (λ u. IsSome (claim u)) (sym is) some, ap pred is)
  path_more v (u ∷ path) end is some = (is.0, is.1, path_more (pred v) path end is.2 some)

  path_less : (v : ℕ) (path : List ℕ) (u end : ℕ) → IsPathBack claim pred v (path ++ u ∷ []) end → IsPathBack claim pred v path u × IsSome (claim u) × (pred u ≡ end)
  path_less v [] u end is = (is.0, subst (λ w. IsSome (claim w)) is.0 is.1, ap pred (sym is.0) ∙ is.2)
  path_less v (w ∷ path) u end is =
      let rest = path_less (pred v) path u end is.2 in
      ((is.0, is.1, rest.0), rest.1, rest.2)

  -- the first node of a path leads back to its end
  path_end : (v : ℕ) (path : List ℕ) (end : ℕ) → IsPathBack claim pred v path end → back pred (length path) v ≡ end
  path_end v [] end is = is
  path_end v (u ∷ path) end is = path_end (pred v) path end is.2

  pub path_leads : (v : ℕ) (path : List ℕ) (end : ℕ) → IsPathBack claim pred v path end → LeadsBack pred end v
  path_leads v path end is = (length path, path_end v path end is)

  first_some : (v : ℕ) (path : List ℕ) (u end : ℕ) → IsPathBack claim pred v (path ++ u ∷ []) end → IsSome (claim v)
  first_some v [] u end is = is.1
  first_some v (w ∷ path) u end is = is.1

  path_some : (v : ℕ) (path : List ℕ) (end : ℕ) → IsPathBack claim pred v path end → (i : ℕ) → i < length path → IsSome (claim (back pred i v))
  path_some v [] end is i less = absurd (omega (arith, less))
  path_some v (u ∷ path) end is zero less = is.1
  path_some v (u ∷ path) end is (suc i) less = path_some (pred v) path end is.2 i (omega (arith, less))

  path_off : (labelled : ℕ → Bool) (v : ℕ) (path : List ℕ) (end : ℕ) → IsPathBack claim pred v path end → AreOff labelled path → (i : ℕ) → i < length path → labelled (back pred i v) ≡ false
  path_off labelled v [] end is off i less = absurd (omega (arith, less))
  path_off labelled v (u ∷ path) end is off zero less = ap labelled is.0 ∙ All-head (λ w. labelled w ≡ false) u path off
  path_off labelled v (u ∷ path) end is off (suc i) less = path_off labelled (pred v) path end is.2 (All-tail (λ w. labelled w ≡ false) u path off) i (omega (arith, less))

  -- ---- the start of a path to a labelled node comes only first
  once_on : (labelled : ℕ → Bool) (v n u : ℕ) (path : List ℕ) (end : ℕ) → IsPathBack claim pred u path end → back pred n v ≡ u → 0 < n → ((i : ℕ) → i < n + length path → labelled (back pred i v) ≡ false) → labelled end ≡ true → All (λ w. w ≢ v) path
  once_on labelled v n u [] end is at some off on = All-nil (λ w. w ≢ v)
  once_on labelled v n u (w ∷ path) end is at some off on = All-cons (λ x. x ≢ v) w path
      (λ same.
      let long = length (w ∷ path) in
      let round : back pred n v ≡ v = at ∙ (is.0 ∙ same) in
      let (r, small, e) = on_cycle pred n v some round (n + long) (n + long) (omega arith) in
      let last : back pred (n + long) v ≡ end = back_sum pred n long v (n + long) refl ∙ (ap (back pred long) at ∙ path_end u (w ∷ path) end is) in
      let f : true ≡ false = sym on ∙ (ap labelled (sym last ∙ e) ∙ off r (omega (arith, small))) in
      cc)
      (once_on labelled v (suc n) (pred u) path end is.2 (back_next pred n v ∙ ap pred at) (omega arith) (λ i less. off i (omega (arith, less))) on)

  pub comes_first : (labelled : ℕ → Bool) (v : ℕ) (path : List ℕ) (end : ℕ) → IsPathBack claim pred v path end → AreOff labelled path → labelled end ≡ true → ComesFirst v path
  comes_first labelled v [] end is off on = tt
  comes_first labelled v (u ∷ path) end is off on = once_on labelled v 1 (pred v) path end is.2 refl (omega arith) (λ i less. path_off labelled v (u ∷ path) end is off i (omega (arith, less))) on

  -- ---- a path that doesn't end at a label never comes to the source
  stays_out : ((u : ℕ) → claim u ≡ None → claim (pred u) ≡ None) → (n u : ℕ) → claim u ≡ None → claim (back pred n u) ≡ None
  stays_out out zero u none = none
  stays_out out (suc n) u none = stays_out out n (pred u) (out u none)

  module _ (nodes s : ℕ) (labelled : ℕ → Bool) (v : ℕ) (path : List ℕ) (end : ℕ) (is : IsPathBack claim pred v path end) (off : AreOff labelled path) (on : labelled s ≡ true) (named : claim s ≡ Some (pos 0)) where
    never_out : ((u : ℕ) → claim u ≡ None → claim (pred u) ≡ None) → claim end ≡ None → ¬ LeadsBack pred s v
    never_out out none (n, leads) = elim (cases_lt n (length path)) [
      | inl early ↦ (let f : true ≡ false = sym on ∙ (ap labelled (sym leads) ∙ path_off labelled v path end is off n early) in absurd (cc))
      | inr late ↦
          let at : back pred n v ≡ back pred (n - length path) end = back_sum pred (length path) (n - length path) v n (omega (arith, late)) ∙ ap (back pred (n - length path)) (path_end v path end is) in
          let f : Some (pos 0) ≡ None = sym named ∙ (ap claim (sym leads ∙ at) ∙ stays_out out (n - length path) end none) in
          absurd (cc)
    ]

    pub never_back : ((u : ℕ) → IsSome (claim u) → IsNode nodes u) → ((u : ℕ) → claim u ≡ None → claim (pred u) ≡ None) → labelled end ≡ false → EndsPath nodes claim labelled (length path) end → ¬ LeadsBack pred s v
    never_back within out not_labelled (inl none) = never_out out none
    never_back within out not_labelled (inr (inl labelled_end)) = absurd (let f : true ≡ false = sym labelled_end ∙ not_labelled in cc)
    never_back within out not_labelled (inr (inr long)) = never_long pred v nodes s labelled on
        (λ i less. within (back pred i v) (path_some v path end is i (omega (arith, less, long))))
        (λ i less. path_off labelled v path end is off i (omega (arith, less, long)))

-- without a distance, neither has the predecessor one
pub none_within : (nodes : ℕ) (claim : ℕ → Option ℤ) (pred : ℕ → ℕ) → ((v : ℕ) → IsSome (claim v) → IsNode nodes v) → ((v : ℕ) → claim v ≡ None → pred v ≡ 0) → (u : ℕ) → claim u ≡ None → claim (pred u) ≡ None
none_within nodes claim pred within preds u none = ap claim (preds u none) ∙ elim (cases_Bool (is_some (claim 0))) [
  | inl some ↦ absurd (omega (arith, (within 0 some).0))
  | inr off ↦ unlabelled (claim 0) off
]

all_but_last : {X : Type 0} (P : X → Type 0) (xs : List X) (x : X) → All P (xs ++ x ∷ []) → All P xs × P x
all_but_last P [] x all = (All-nil P, All-head P x [] all)
all_but_last P (y ∷ xs) x all =
    let rest = all_but_last P xs x (All-tail P y (xs ++ x ∷ []) all) in
    (All-cons P y xs (All-head P y (xs ++ x ∷ []) all) rest.0, rest.1)

-- the last node of a path is its start if it is the only one
last_apart : (v : ℕ) (path : List ℕ) (end : ℕ) → ComesFirst v (path ++ end ∷ []) → ComesFirst v path × ((end ≢ v) ⊎ (path ≡ []))
last_apart v [] end first = (tt, inr refl)
last_apart v (u ∷ path) end first = let parts = all_but_last (λ w. w ≢ v) path end first in (parts.0, inl parts.1)

-- the start of a path isn't labelled
pub start_off : (claim : ℕ → Option ℤ) (pred : ℕ → ℕ) (labelled : ℕ → Bool) (v : ℕ) (path : List ℕ) (end : ℕ) → IsPathBack claim pred v path end → AreOff labelled path → (path ≡ []) ⊎ (labelled v ≡ false)
start_off claim pred labelled v [] end is off = inl refl
start_off claim pred labelled v (u ∷ path) end is off = inr (ap labelled is.0 ∙ All-head (λ w. labelled w ≡ false) u path off)

-- the last node of a path is removed, and its predecessor is labelled
module _ (claim : ℕ → Option ℤ) (pred : ℕ → ℕ) (labelled : ℕ → Bool) (v : ℕ) (old front : List ℕ) (node : ℕ) (is : old ≡ front ++ node ∷ []) (path : (end : ℕ) × IsPathBack claim pred v old end × (labelled end ≡ true)) (once : ComesFirst v old) (not_labelled : (old ≡ []) ⊎ (labelled v ≡ false)) where
  pub taken : IsPathBack claim pred v front node × IsSome (claim node) × (labelled (pred node) ≡ true)
  taken =
      let (end, goes, on) = path in
      let parts = path_less claim pred v front node end (subst (λ w. IsPathBack claim pred v w end) is goes) in
      (parts.0, parts.1, ap labelled parts.2 ∙ on)

  pub root_some : IsSome (claim v)
  root_some = first_some claim pred v front node path.0 (subst (λ w. IsPathBack claim pred v w path.0) is path.1)

  pub root_not_labelled : labelled v ≡ false
  root_not_labelled = elim not_labelled [ inl none ↦ absurd (omega (arith, ap length (sym is ∙ none), length-append front (node ∷ []))) | inr off ↦ off ]

  pub root_apart : ComesFirst v front × ((node ≢ v) ⊎ (front ≡ []))
  root_apart = last_apart v front node (subst (ComesFirst v) is once)

  --   unless the start itself gets its label, it still has none
  pub still_not_labelled : (after : ℕ → Bool) → Places labelled after node → (front ≡ []) ⊎ (after v ≡ false)
  still_not_labelled after placed = elim root_apart.1 [ inl apart ↦ inr (placed.1 v (λ e. apart (sym e)) ∙ root_not_labelled) | inr none ↦ inl none ]

-- the result for a node that doesn't lead back to the source
pub outcome : (claim : ℕ → Option ℤ) (pred : ℕ → ℕ) (s : ℕ) (labelled : ℕ → Bool) (v : ℕ) → (¬ LeadsBack pred s v) → (o : Option ℤ) → claim v ≡ o → (none : Bool) → is_some o ≡ not none → Leads pred s claim labelled v none
outcome claim pred s labelled v off None is true tells = inl is
outcome claim pred s labelled v off None is false tells = absurd (cc)
outcome claim pred s labelled v off (Some d) is true tells = absurd (cc)
outcome claim pred s labelled v off (Some d) is false tells = (ap is_some is, off)

pub labelled_so : (claim : ℕ → Option ℤ) (labelled : ℕ → Bool) (v : ℕ) → (claim v ≡ None) ⊎ (labelled v ≡ true) → IsSome (claim v) → labelled v ≡ true
labelled_so claim labelled v (inl none) some = absurd (let f : true ≡ false = sym some ∙ ap is_some none in cc)
labelled_so claim labelled v (inr on) some = on
