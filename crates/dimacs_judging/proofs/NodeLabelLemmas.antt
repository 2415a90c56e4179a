-- The table with a block's labels, and the tight arcs for them.
use Rattle.std.proofs.Common.{IsTrue, ◌^◌, cond, count_by, is_some, ◌≡◌, ◌≢◌, ◌⊎◌, ◌↔◌, inl, inr, ℕ, suc, zero, ◌+◌, ◌<◌, ◌≤◌, Bool, true, false, List, [], ◌∷◌, ◌++◌, Contains, length, take, drop, get_or, slice_get, Option, Some, None, IfSome, ℤ, pos, ◌+ℤ◌, refl, sym, ap, subst, ◌∙◌, arith}
use Rattle.std.proofs.{Math.Seq.{drop-cons}, lemmas.Bool.Decides.{eqb_tells, nat_tests}}
use Rattle.std.proofs.lemmas.Bool.{cases_eq, cases_lt, eq-eqb, false_from_ne_true, true_from_ne_false}
use Rattle.std.proofs.lemmas.List.Sums.{count_by-le-length, sum_by-cons}
use Rattle.std.proofs.lemmas.Option.{get_or_from_slice_get, slice_get_within}
use Rattle.std.proofs.lemmas.List.{get_or_default, take-append-drop, take_all, take_more}
use Rattle.std.proofs.lemmas.List.Elements.{All-cons, All-nil, Contains-append_cases, Contains-get_or}
use Rattle.std.specs.{Prelude.{◌==◌, ◌&&◌, if◌then◌else◌, nat_le, Result, Ok, Err}, Result.{result_and}}
use Rattle.std.specs.Int.{from_bool}
use Rattle.dimacs_network.specs.{declared.node_table.NodeTable.{NodeTable}, Tables.{blank_of}, Arcs.{arc_at, no_arc}}
use Rattle.dimacs_network.specs.declared.network.ArcView.{ArcView}
use Rattle.dimacs_records.specs.{declared.reasons.Reason.{Reason}, Ranges.{IsWide}}
use Rattle.dimacs_claims.specs.declared.label_list.Label.{Label}
use Rattle.dimacs_claims.specs.Labels.{BlockValue, IsBlock, IsFresh, distance_in, label, no_label}
use Rattle.dimacs_claims.proofs.{BuilderLemmas.{unlabelled}, ByIdLemmas.{distance_in-at, fresh_apart, label_elsewhere}}
use Rattle.dimacs_claims.proofs.BlockLemmas.{fresh_has_none, has_pred, label-with_label, label_at_wide}
use Rattle.dimacs_judging.specs.{declared.node_label.NodeLabel.{NodeLabel}, declared.verdict.Where.{Where}}
use Rattle.dimacs_judging.specs.{declared.verdict.Where.TheVariants.{Arc}, inside.CertificateTests.{distance_rows}}
use Rattle.dimacs_judging.specs.{CertificateTests.{RelaxFails, relax_row, support_row}, Labels.{HasTightArc}}
use Rattle.dimacs_judging.specs.{inside.Distances.{Improves, IsTight}, Tests.{Clear, ClearBelow, FirstOfRow, TestsRow}}
use Rattle.dimacs_judging.specs.inside.NodeLabels.{AreSupported, SupportIsSound, AreSupportedBelow, AreWide, DefaultsToNone, HasLabels, IsFirstTight, NodeEntry, IsTightFor, RelaxesArc, LabelsSupported, KeepsEntry, is_supported, supported_count}
use Rattle.dimacs_judging.specs.inside.Tests.{TestsRows, NamesReason}
use Rattle.dimacs_judging.proofs.RowLemmas.{relax_clear_more, relax_first}

pub supported_from : (k : NodeEntry) → 2 ^ 31 ≤ k.pred → is_supported k ≡ true
supported_from k past = grind (arith, nat_tests)

pub unsupported_below : (k : NodeEntry) → k.pred < 2 ^ 31 → is_supported k ≡ false
unsupported_below k below = grind (arith, nat_tests)

pub label_source : (b : BlockValue) → label b b.source ≡ Some (pos 0)
label_source b = let same : (b.source == b.source) ≡ true = eq-eqb b.source b.source refl in rw same refl

apart_ids : (a b : ℕ) → a ≢ b → (b == a) ≡ false
apart_ids a b off = elim (eqb_tells b a) [ inl same ↦ absurd (off (sym same.1)) | inr outcome ↦ outcome.0 ]

-- ---- the labels of a block
split_at : {A : Type 0} (xs : List A) (j : ℕ) (d : A) → j < length xs → xs ≡ take j xs ++ get_or xs j d ∷ drop (suc j) xs
split_at xs j d inside = sym (take-append-drop j xs) ∙ ap (λ rest. take j xs ++ rest) (drop-cons xs j d inside)

abbrev pub label_of : BlockValue → ℕ → Label
label_of b n = get_or b.labels n no_label

label_fresh : (nodes : ℕ) (b : BlockValue) → IsBlock nodes b → (n : ℕ) → n < length b.labels → IsFresh b.source (take n b.labels) (label_of b n)
label_fresh nodes b is n inside = is.fresh (take n b.labels) (drop (suc n) b.labels) (label_of b n) (split_at b.labels n no_label inside)

label_named : (nodes : ℕ) (b : BlockValue) → IsBlock nodes b → (l : Label) → Contains b.labels l → label b l.id ≡ Some l.dist
label_named nodes b is l (k, inside, at) =
    let same : label_of b k ≡ l = get_or_default b.labels k no_label l inside ∙ at in
    let off : b.source ≢ l.id = λ e. (label_fresh nodes b is k inside).0 (ap (λ (m : Label). m.id) same ∙ sym e) in
    label_elsewhere b l.id off ∙ subst (λ (m : Label). distance_in b.labels m.id ≡ Some m.dist) same (distance_in-at b.labels (fresh_apart b.source b.labels is.fresh) k inside)

pub label_wide : (nodes : ℕ) (b : BlockValue) (v : ℕ) → IsBlock nodes b → IfSome (label b v) IsWide
label_wide nodes b v is = label_at_wide nodes (b ∷ []) 0 v (All-cons (IsBlock nodes) b [] is (All-nil (IsBlock nodes)))

-- ---- setting labels
pub defaults_still : {D : Type 0} (value : D → Option ℤ) (old new : NodeTable (NodeLabel D)) → blank_of new ≡ blank_of old → DefaultsToNone value old → DefaultsToNone value new
defaults_still value old new same blank = ap (λ m. value m.dist) same ∙ blank

abbrev pub first_labels : BlockValue → ℕ → BlockValue
first_labels b n = record { source = b.source; radius = b.radius; labels = take n b.labels }

-- the table has the source and the first n labels
pub record AreLabelledFirst (b : BlockValue) (n : ℕ) (at : ℕ → NodeEntry) : Type 0 where
  pub labels : (v : ℕ) → (at v).dist ≡ label (first_labels b n) v
  pub preds : (l : Label) → Contains (take n b.labels) l → (at l.id).pred ≡ l.pred
  pub unsupported : (l : Label) → Contains (take n b.labels) l → is_supported (at l.id) ≡ false
  pub source : is_supported (at b.source) ≡ true

pub the_only : {A : Type 0} (x y : A) → Contains (x ∷ []) y → x ≡ y
the_only x y (zero, inside, is) = is
the_only x y (suc k, inside, is) = absurd (omega (arith, inside))

pub no_contains : {A : Type 0} {x : A} → Contains [] x → ⊥
no_contains has = omega (arith, has.1)

pub labelled_source : (b : BlockValue) (old new : ℕ → NodeEntry) → ((v : ℕ) → (old v).dist ≡ None) → ((v : ℕ) → v ≢ b.source → new v ≡ old v) → (new b.source).dist ≡ Some (pos 0) → is_supported (new b.source) ≡ true → AreLabelledFirst b 0 new
labelled_source b old new blank others dist supported = record {
  labels = λ v. elim (cases_eq v b.source) [
    | inl same ↦ ap (λ w. (new w).dist) same ∙ (dist ∙ (sym (label_source (first_labels b 0)) ∙ ap (label (first_labels b 0)) (sym same)))
    | inr off ↦ ap (λ (k : NodeEntry). k.dist) (others v off) ∙ (blank v ∙ sym (label_elsewhere (first_labels b 0) v (λ same. off (sym same))))
  ];
  preds = λ l has. absurd (no_contains has);
  unsupported = λ l has. absurd (no_contains has);
  source = supported;
}

pub labelled_more : (nodes : ℕ) (b : BlockValue) (n : ℕ) (old new : ℕ → NodeEntry) → IsBlock nodes b → n < length b.labels → AreLabelledFirst b n old → ((v : ℕ) → v ≢ (label_of b n).id → new v ≡ old v)
    → (new (label_of b n).id).dist ≡ Some (label_of b n).dist → (new (label_of b n).id).pred ≡ (label_of b n).pred → is_supported (new (label_of b n).id) ≡ false → AreLabelledFirst b (n + 1) new
labelled_more nodes b n old new is inside are others dist pred unsupported =
    let l = label_of b n in
    let fresh = label_fresh nodes b is n inside in
    let none : label (first_labels b n) l.id ≡ None = unlabelled (label (first_labels b n) l.id) (fresh_has_none (first_labels b n) l fresh) in
    let more : take (n + 1) b.labels ≡ take n b.labels ++ l ∷ [] = take_more b.labels n no_label inside in
    record {
      labels = λ v. subst (λ labels. (new v).dist ≡ label (record { source = b.source; radius = b.radius; labels = labels }) v) (sym more) (elim (cases_eq v l.id) [
        | inl same ↦
            ap (λ w. (new w).dist) same
            ∙ (dist ∙ sym (label-with_label (first_labels b n) l none v ∙ ap (λ t. if t then Some l.dist else label (first_labels b n) v) (eq-eqb l.id v (sym same))))
        | inr off ↦
            ap (λ (k : NodeEntry). k.dist) (others v off)
            ∙ (are.labels v ∙ sym (label-with_label (first_labels b n) l none v ∙ ap (λ t. if t then Some l.dist else label (first_labels b n) v) (apart_ids v l.id off)))
      ]);
      preds = λ k has. elim (Contains-append_cases (take n b.labels) (l ∷ []) k (subst (λ labels. Contains labels k) more has)) [
        | inl early ↦ ap (λ (x : NodeEntry). x.pred) (others k.id (fresh.1 k early)) ∙ are.preds k early
        | inr last ↦ (let same = the_only l k last in ap (λ (x : Label). (new x.id).pred) (sym same) ∙ (pred ∙ ap (λ (x : Label). x.pred) same))
      ];
      unsupported = λ k has. elim (Contains-append_cases (take n b.labels) (l ∷ []) k (subst (λ labels. Contains labels k) more has)) [
        | inl early ↦ ap is_supported (others k.id (fresh.1 k early)) ∙ are.unsupported k early
        | inr last ↦ (let same = the_only l k last in ap (λ (x : Label). is_supported (new x.id)) (sym same) ∙ unsupported)
      ];
      source = ap is_supported (others b.source (λ same. fresh.0 (sym same))) ∙ are.source;
    }

pub all_labelled : (nodes : ℕ) (arcs : List ArcView) (b : BlockValue) (n : ℕ) (at : ℕ → NodeEntry) → IsBlock nodes b → length b.labels ≤ n → AreLabelledFirst b n at → HasLabels arcs b at
all_labelled nodes arcs b n at is all are =
    let whole : take n b.labels ≡ b.labels = take_all n b.labels all in
    record {
      labels = λ v. are.labels v ∙ ap (λ labels. label (record { source = b.source; radius = b.radius; labels = labels }) v) whole;
      named = label_named nodes b is;
      preds = λ l has unsupported. are.preds l (subst (λ labels. Contains labels l) (sym whole) has);
      source = are.source;
      sound = λ l has supported. absurd (let e = are.unsupported l (subst (λ labels. Contains labels l) (sym whole) has) in cc);
    }

pub entries_wide : (nodes : ℕ) (arcs : List ArcView) (b : BlockValue) (at : ℕ → NodeEntry) → IsBlock nodes b → HasLabels arcs b at → AreWide at
entries_wide nodes arcs b at is are v = subst (λ claimed. IfSome claimed IsWide) (sym (are.labels v)) (label_wide nodes b v is)

-- ---- clearing labels
-- only the nodes of labels from the n-th on have labels
abbrev pub AreUnlabelledBut : BlockValue → ℕ → (ℕ → NodeEntry) → Type 0
AreUnlabelledBut b n at = (v : ℕ) → is_some (at v).dist ≡ true → (k : ℕ) × (n ≤ k) × (k < length b.labels) × ((label_of b k).id ≡ v)

pub unlabelled_source : (arcs : List ArcView) (b : BlockValue) (old new : ℕ → NodeEntry) → HasLabels arcs b old → ((v : ℕ) → v ≢ b.source → new v ≡ old v) → (new b.source).dist ≡ None → AreUnlabelledBut b 0 new
unlabelled_source arcs b old new are others none v some = elim (cases_eq v b.source) [
  | inl same ↦ absurd (let e = ap (λ w. is_some (new w).dist) same ∙ ap is_some none in cc)
  | inr off ↦
      let named = ap is_some (sym (are.labels v)) ∙ (ap (λ (k : NodeEntry). is_some k.dist) (sym (others v off)) ∙ some) in
      elim (has_pred b (record { dist = pos 0; id = v; pred = v }) named) [
        | inl source ↦ absurd (off source)
        | inr found ↦
            let (l, (k, inside, at), same) = found in
            (k, omega arith, inside, ap (λ (m : Label). m.id) (get_or_default b.labels k no_label l inside ∙ at) ∙ same)
      ]
]

pub unlabelled_more : (b : BlockValue) (n : ℕ) (old new : ℕ → NodeEntry) → AreUnlabelledBut b n old → ((v : ℕ) → v ≢ (label_of b n).id → new v ≡ old v) → (new (label_of b n).id).dist ≡ None → AreUnlabelledBut b (n + 1) new
unlabelled_more b n old new are others none v some = elim (cases_eq v (label_of b n).id) [
  | inl same ↦ absurd (let e = ap (λ w. is_some (new w).dist) same ∙ ap is_some none in cc)
  | inr off ↦
      let (k, from, inside, at) = are v (ap (λ (k : NodeEntry). is_some k.dist) (sym (others v off)) ∙ some) in
      elim (cases_lt n k) [
        | inl more ↦ (k, omega (arith, more), inside, at)
        | inr last ↦ absurd (let same : k ≡ n = omega (arith, from, last) in off (sym at ∙ ap (λ j. (label_of b j).id) same))
      ]
]

pub unlabelled_all : (b : BlockValue) (n : ℕ) (at : ℕ → NodeEntry) → length b.labels ≤ n → AreUnlabelledBut b n at → (v : ℕ) → (at v).dist ≡ None
unlabelled_all b n at all are v = by (at v).dist refl
  where
    by : (d : Option ℤ) → (at v).dist ≡ d → (at v).dist ≡ None
    by None is = is
    by (Some d) is = absurd (let (k, from, inside, same) = are v (ap is_some is) in omega (arith, from, inside, all))

-- ---- one arc
-- an arc that improves nothing doesn't fail
pub no_improvement : (radius from to : Option ℤ) (weight : ℤ) → (¬ Improves from to weight) → (reason : Reason) → ¬ RelaxFails radius from to weight reason
no_improvement radius from to weight holds reason (d, tail, inl out) = holds (d, tail, inl out.1)
no_improvement radius from to weight holds reason (d, tail, inr far) = holds (d, tail, inr far.1)

-- the arc is tight for a label without a tight arc, by two tests that are both evaluated
pub tight_where : (a : ArcView) (at : ℕ → NodeEntry) (leads lacks : Bool) → (IsTrue leads ↔ IsTight (at a.tail).dist (at a.head).dist a.cost) → (IsTrue lacks ↔ (((at a.head).pred ≡ a.tail) × (is_supported (at a.head) ≡ false))) → IsTrue (leads && lacks) ↔ IsFirstTight a at
tight_where a at true lacks leads_is lacks_is = (
  λ yes. (let leads = leads_is.0 refl in let waiting = lacks_is.0 yes in record { base = leads.0; tail = leads.1; head = leads.2; pred = waiting.0; unsupported = waiting.1 }),
  λ tight. lacks_is.1 (tight.pred, tight.unsupported),
)
tight_where a at false lacks leads_is lacks_is = (λ yes. absurd (let no : IsTrue false = yes in cc), λ tight. leads_is.1 (tight.base, tight.tail, tight.head))

-- the result of a test, with its terms replaced by equal ones
pub fault_between : (radius tail from head to : Option ℤ) (weight cost : ℤ) (fault : Option Reason) → tail ≡ from → head ≡ to → weight ≡ cost → NamesReason (RelaxFails radius tail head weight) fault → NamesReason (RelaxFails radius from to cost) fault
fault_between radius tail from head to weight cost fault tail_is head_is weight_is outcome =
    subst (λ t. NamesReason (RelaxFails radius t to cost) fault) tail_is (subst (λ h. NamesReason (RelaxFails radius tail h cost) fault) head_is (subst (λ w. NamesReason (RelaxFails radius tail head w) fault) weight_is outcome))

-- the head after relaxing the arc
module _ (a : ArcView) (old : ℕ → NodeEntry) where
  pub supported_with_arc : (supported : Bool) (new : NodeEntry) → (IsTrue supported ↔ IsFirstTight a old) → new.pred ≡ (old a.head).pred + (if supported then 2 ^ 31 else 0) → (is_supported new ≡ true) ↔ ((is_supported (old a.head) ≡ true) ⊎ IsFirstTight a old)
  supported_with_arc true new is pred = (λ so. inr (is.0 refl), λ either. supported_from new (omega (arith, pred)))
  supported_with_arc false new is pred =
      let same : new.pred ≡ (old a.head).pred = omega (arith, pred) in (
        λ so. inl (ap (λ n. nat_le (2 ^ 31) n) (sym same) ∙ so),
        λ either. elim either [
          | inl before ↦ ap (λ n. nat_le (2 ^ 31) n) same ∙ before
          | inr tight ↦ absurd (let no : IsTrue false = is.1 tight in cc)
        ],
      )

  pred_kept : (supported : Bool) (new : NodeEntry) → new.pred ≡ (old a.head).pred + (if supported then 2 ^ 31 else 0) → is_supported new ≡ false → new.pred ≡ (old a.head).pred
  pred_kept true new pred unsupported = absurd (let yes = supported_from new (omega (arith, pred)) in cc)
  pred_kept false new pred unsupported = omega (arith, pred)

  pub relaxes_put : (new : ℕ → NodeEntry) (supported : Bool) → ((v : ℕ) → v ≢ a.head → new v ≡ old v) → (new a.head).dist ≡ (old a.head).dist → (new a.head).pred ≡ (old a.head).pred + (if supported then 2 ^ 31 else 0) → (IsTrue supported ↔ IsFirstTight a old) → RelaxesArc a old new
  relaxes_put new supported others dist pred is = record {
    others = others;
    head = record { dist = dist; pred = pred_kept supported (new a.head) pred };
    supported = supported_with_arc supported (new a.head) is pred;
  }

-- ---- tight arcs
pub tight_for_some : (arcs : List ArcView) (b : BlockValue) (k : ℕ) (l : Label) → k < length arcs → IsTightFor b (arc_at arcs k) l → HasTightArc arcs b l
tight_for_some arcs b k l inside tight_for = (tight_for.base, tight_for.labelled, record { arc = arc_at arcs k; present = Contains-get_or arcs k no_arc inside; from = tight_for.from; to = tight_for.to; adds = tight_for.adds })

pub some_tight_for : (arcs : List ArcView) (b : BlockValue) (l : Label) → HasTightArc arcs b l → (k : ℕ) × (k < length arcs) × IsTightFor b (arc_at arcs k) l
some_tight_for arcs b l (base, labelled, arc) =
    let (k, inside, at) = arc.present in
    let same : arc.arc ≡ arc_at arcs k = sym at ∙ get_or_default arcs k arc.arc no_arc inside in
    (k, inside, subst (λ (c : ArcView). IsTightFor b c l) same (record { base = base; labelled = labelled; from = arc.from; to = arc.to; adds = arc.adds }))

-- ---- how many pass a test
module _ {X : Type 0} (p q : X → Bool) where
  step_less : (s t : Bool) → (s ≡ true → t ≡ true) → cond s 1 0 ≤ cond t 1 0
  step_less true true so = omega arith
  step_less true false so = absurd (let e = so refl in cc)
  step_less false t so = omega arith

  count_less : (xs : List X) → ((x : X) → p x ≡ true → q x ≡ true) → count_by p xs ≤ count_by q xs
  count_less [] so = omega arith
  count_less (x ∷ xs) so = omega (arith, sum_by-cons (λ y. cond (p y) 1 0) x xs, sum_by-cons (λ y. cond (q y) 1 0) x xs, step_less (p x) (q x) (so x), count_less xs so)

  count_more : (xs : List X) → ((x : X) → p x ≡ true → q x ≡ true) → (x : X) → Contains xs x → p x ≡ false → q x ≡ true → count_by p xs + 1 ≤ count_by q xs
  count_more [] so x has off on = absurd (no_contains has)
  count_more (y ∷ xs) so x (zero, inside, is) off on =
      let same : y ≡ x = is in
      omega (arith, sum_by-cons (λ z. cond (p z) 1 0) y xs, sum_by-cons (λ z. cond (q z) 1 0) y xs, ap {B = ℕ} (λ t. cond t 1 0) (ap p same ∙ off), ap {B = ℕ} (λ t. cond t 1 0) (ap q same ∙ on), count_less xs so)
  count_more (y ∷ xs) so x (suc k, inside, is) off on =
      omega (arith, sum_by-cons (λ z. cond (p z) 1 0) y xs, sum_by-cons (λ z. cond (q z) 1 0) y xs, step_less (p y) (q y) (so y), count_more xs so x (k, omega (arith, inside), is) off on)

count_all : {X : Type 0} (p : X → Bool) (xs : List X) → length xs ≤ count_by p xs → (x : X) → Contains xs x → p x ≡ true
count_all p xs all x has =
    true_from_ne_false (p x) (λ off. omega (arith, all, count_more p (λ y. true) xs (λ y on. refl) x has off refl, count_by-le-length (λ y. true) xs))

-- ---- after relaxing an arc
module _ (a : ArcView) (old new : ℕ → NodeEntry) (b : BlockValue) (relaxes : RelaxesArc a old new) where
  keeps_entry : (v : ℕ) → KeepsEntry (old v) (new v)
  keeps_entry v = elim (cases_eq v a.head) [
    | inl same ↦ subst (λ w. KeepsEntry (old w) (new w)) (sym same) relaxes.head
    | inr off ↦
        let e = relaxes.others v off in
        record { dist = ap (λ (k : NodeEntry). k.dist) e; pred = λ unsupported. ap (λ (k : NodeEntry). k.pred) e }
  ]

  pub dist_same : (v : ℕ) → (new v).dist ≡ (old v).dist
  dist_same v = (keeps_entry v).dist

  supported_still : (v : ℕ) → is_supported (old v) ≡ true → is_supported (new v) ≡ true
  supported_still v m = elim (cases_eq v a.head) [
    | inl same ↦ ap (λ w. is_supported (new w)) same ∙ relaxes.supported.1 (inl (ap (λ w. is_supported (old w)) (sym same) ∙ m))
    | inr off ↦ ap is_supported (relaxes.others v off) ∙ m
  ]

  unsupported_before : (v : ℕ) → is_supported (new v) ≡ false → is_supported (old v) ≡ false
  unsupported_before v unsupported = false_from_ne_true (is_supported (old v)) (λ supported. let yes = supported_still v supported in cc)

  pub labels_still : (c : ArcView) → LabelsSupported b old c → LabelsSupported b new c
  labels_still c node_labels l has tight_for = supported_still l.id (node_labels l has tight_for)

  count_still : supported_count b old ≤ supported_count b new
  count_still = count_less (λ (l : Label). is_supported (old l.id)) (λ (l : Label). is_supported (new l.id)) b.labels (λ l. supported_still l.id)

  module _ (arcs : List ArcView) (are : HasLabels arcs b old) where
    -- one more label has a tight arc
    count_after : IsFirstTight a old → supported_count b old + 1 ≤ supported_count b new
    count_after tight =
        let some : label b a.head ≡ Some (tight.base +ℤ a.cost) = sym (are.labels a.head) ∙ tight.head in
        elim (has_pred b (record { dist = pos 0; id = a.head; pred = a.head }) (ap is_some some)) [
          | inl source ↦ absurd (let yes = ap (λ v. is_supported (old v)) source ∙ are.source in let no = tight.unsupported in cc)
          | inr named ↦
              let (l, has, same) = named in
              count_more (λ (m : Label). is_supported (old m.id)) (λ (m : Label). is_supported (new m.id)) b.labels (λ m. supported_still m.id) l has
              (ap (λ v. is_supported (old v)) same ∙ tight.unsupported)
              (ap (λ v. is_supported (new v)) same ∙ relaxes.supported.1 (inr tight))
        ]

    pub count_on : (supported : Bool) (n more : ℕ) → (IsTrue supported → IsFirstTight a old) → n ≤ supported_count b old → more ≡ from_bool supported → n + more ≤ supported_count b new
    count_on true n more tight below one = omega (arith, below, one, count_after (tight refl))
    count_on false n more tight below none = omega (arith, below, none, count_still)

    module _ (i : ℕ) (here : slice_get arcs i ≡ Some a) where
      this_arc : arc_at arcs i ≡ a
      this_arc = get_or_from_slice_get arcs i a no_arc here

      first_tight_for : (l : Label) → Contains b.labels l → l.id ≡ a.head → IsFirstTight a old → IsTightFor b a l
      first_tight_for l has same tight =
          let unsupported : is_supported (old l.id) ≡ false = ap (λ v. is_supported (old v)) same ∙ tight.unsupported in
          let pred_is : l.pred ≡ a.tail = sym (are.preds l has unsupported) ∙ (ap (λ v. (old v).pred) same ∙ tight.pred) in
          let sum : Some (tight.base +ℤ a.cost) ≡ Some l.dist = sym tight.head ∙ (are.labels a.head ∙ (ap (label b) (sym same) ∙ are.named l has)) in
          record {
            base = tight.base;
            labelled = ap (label b) pred_is ∙ (sym (are.labels a.tail) ∙ tight.tail);
            from = sym pred_is;
            to = sym same;
            adds = cc;
          }

      tight_for_first : (l : Label) → Contains b.labels l → IsTightFor b a l → is_supported (old l.id) ≡ false → IsFirstTight a old
      tight_for_first l has tight_for unsupported = record {
        base = tight_for.base;
        tail = are.labels a.tail ∙ (ap (label b) tight_for.from ∙ tight_for.labelled);
        head = are.labels a.head ∙ (ap (label b) tight_for.to ∙ (are.named l has ∙ ap (λ d. Some d) (sym tight_for.adds)));
        pred = ap (λ v. (old v).pred) tight_for.to ∙ (are.preds l has unsupported ∙ sym tight_for.from);
        unsupported = ap (λ v. is_supported (old v)) tight_for.to ∙ unsupported;
      }

      alone_after : SupportIsSound arcs b new
      alone_after l has m = elim (cases_eq l.id a.head) [
        | inl same ↦ elim (relaxes.supported.0 (ap (λ v. is_supported (new v)) (sym same) ∙ m)) [
          | inl before ↦ are.sound l has (ap (λ v. is_supported (old v)) same ∙ before)
          | inr tight ↦ tight_for_some arcs b i l (slice_get_within arcs i a here) (subst (λ (c : ArcView). IsTightFor b c l) (sym this_arc) (first_tight_for l has same tight))
        ]
        | inr off ↦ are.sound l has (sym (ap is_supported (relaxes.others l.id off)) ∙ m)
      ]

      pub entries_after : HasLabels arcs b new
      entries_after = record {
        labels = λ v. dist_same v ∙ are.labels v;
        named = are.named;
        preds = λ l has unsupported. (keeps_entry l.id).pred unsupported ∙ are.preds l has (unsupported_before l.id unsupported);
        source = supported_still b.source are.source;
        sound = alone_after;
      }

      pub labels_this : LabelsSupported b new a
      labels_this l has tight_for = by (is_supported (old l.id)) refl
        where
          by : (before : Bool) → is_supported (old l.id) ≡ before → is_supported (new l.id) ≡ true
          by true supported = supported_still l.id supported
          by false unsupported = ap (λ v. is_supported (new v)) (sym tight_for.to) ∙ relaxes.supported.1 (inr (tight_for_first l has tight_for unsupported))

      pub supported_after : AreSupportedBelow arcs b i old → AreSupportedBelow arcs b (i + 1) new
      supported_after supported k less = elim (cases_eq k i) [
        | inl same ↦ subst (LabelsSupported b new) (sym (ap (arc_at arcs) same ∙ this_arc)) labels_this
        | inr off ↦ labels_still (arc_at arcs k) (supported k (omega (arith, less, off)))
      ]

      pub clear_after : ClearBelow (relax_row arcs b) i → ((reason : Reason) → ¬ RelaxFails b.radius (old a.tail).dist (old a.head).dist a.cost reason) → ClearBelow (relax_row arcs b) (i + 1)
      clear_after clear passing = relax_clear_more arcs b i a here clear (rw (are.labels a.tail, are.labels a.head) at passing)

      pub first_after : (reason : Reason) → ClearBelow (relax_row arcs b) i → RelaxFails b.radius (old a.tail).dist (old a.head).dist a.cost reason → FirstOfRow (relax_row arcs b) (Arc (i + 1)) reason
      first_after reason clear fails = relax_first arcs b i a here reason clear (rw (are.labels a.tail, are.labels a.head) at fails)

-- ---- all arcs
pub supported_all : (arcs : List ArcView) (b : BlockValue) (at : ℕ → NodeEntry) → SupportIsSound arcs b at → AreSupportedBelow arcs b (length arcs) at → AreSupported arcs b at
supported_all arcs b at alone all l has = (
  alone l has,
  λ tight. (let (k, inside, tight_for) = some_tight_for arcs b l tight in all k inside l has tight_for),
)

-- ---- the tests of labels, then those of arcs
pub both_tests : (arcs : List ArcView) (b : BlockValue) (labels relaxed : Result Unit (Where × Reason)) → TestsRow (support_row arcs b) labels → TestsRow (relax_row arcs b) relaxed → TestsRows (distance_rows arcs b) (result_and labels relaxed)
both_tests arcs b (Ok done) (Ok too) supported passed = (supported, (passed, tt))
both_tests arcs b (Ok done) (Err refusal) supported first = inr (supported, inl first)
both_tests arcs b (Err refusal) relaxed first passed = inl first

pub labels_tests : (arcs : List ArcView) (b : BlockValue) (labels : Result Unit (Where × Reason)) → TestsRow (support_row arcs b) labels → Clear (relax_row arcs b) → TestsRows (distance_rows arcs b) labels
labels_tests arcs b (Ok done) supported passed = (supported, (passed, tt))
labels_tests arcs b (Err refusal) first passed = inl first

-- ---- labels
pub all_counted : (arcs : List ArcView) (b : BlockValue) (at : ℕ → NodeEntry) → SupportIsSound arcs b at → length b.labels ≤ supported_count b at → Clear (support_row arcs b)
all_counted arcs b at alone all k place reason (inside, here, why, off) =
    let has = Contains-get_or b.labels k no_label inside in
    off (alone (get_or b.labels k no_label) has (count_all (λ (l : Label). is_supported (at l.id)) b.labels all (get_or b.labels k no_label) has))

pub label_supported : (arcs : List ArcView) (b : BlockValue) (at : ℕ → NodeEntry) (k : ℕ) → k < length b.labels → AreSupported arcs b at → (is_supported (at (get_or b.labels k no_label).id) ≡ true) ↔ HasTightArc arcs b (get_or b.labels k no_label)
label_supported arcs b at k inside supported = supported (get_or b.labels k no_label) (Contains-get_or b.labels k no_label inside)
