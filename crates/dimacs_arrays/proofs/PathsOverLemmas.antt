-- Queries and distances from arrays.
use Rattle.std.proofs.Common.{◌≡◌, ◌≢◌, ◌∙◌, inl, inr, ℕ, ◌+◌, ◌-◌, ◌<◌, ◌≤◌, ◌++◌, List, [], ◌∷◌, All, get_or, length, min, take, Option, None, Some, IfSome, IsSome, refl, sym, ap, subst, ℤ, arith}
use Rattle.std.proofs.{lemmas.Bool.{eq-eqb, ne_eqb}, lemmas.Bool.Decides.{eqb_tells}}
use Rattle.std.proofs.{lemmas.Slice.Zip.{get_or-zip, length-zip}, lemmas.Option.{slice_get-get_or, slice_get_past}}
use Rattle.std.proofs.lemmas.List.{append-nil, length-map, map-id, take_more}
use Rattle.std.proofs.lemmas.List.Elements.{All-cons, All-from_get_or, All-get_or, All-head, All-nil, All-tail, filter_map-append}
use Rattle.std.proofs.lemmas.List.FromFn.{get_or-range_with_len, length-range_with_len, map-range_with_len_more}
use Rattle.std.specs.{Prelude.{slice_get}, List.{cons_option, filter_map, range_with_len, zip}}
use Rattle.dimacs_lines.specs.Limits.{IsNode, most_count, most_nodes}
use Rattle.dimacs_records.specs.{declared.reasons.Reason.{Reason}, declared.reasons.Reason.TheVariants.{NumberRange}}
use Rattle.dimacs_records.specs.{Ranges.{IsId, IsWide}, declared.records.Record.TheVariants.{SourceQuery}}
use Rattle.dimacs_records.specs.declared.records.QueryKind.{QueryKind}
use Rattle.dimacs_instance.specs.QueryTexts.{AreIds, AreLawful, pair_query}
use Rattle.dimacs_claims.specs.{declared.label_list.Label.{Label}, DistanceTexts.{IsBare}}
use Rattle.dimacs_claims.specs.Labels.{BlockValue, IsLabel, IsWithinRadius, distance_in, label, with_label}
use Rattle.dimacs_judging.specs.{declared.verdict.Where.{Where}, declared.verdict.Where.TheVariants.{Node}}
use Rattle.dimacs_judging.specs.{declared.verdict.JudgeError.{JudgeError}, Tests.{AllClear, FirstOfRow, Refutes, Row}}
use Rattle.dimacs_judging.specs.declared.verdict.JudgeError.TheVariants.{Refused, Memory}
use Rattle.dimacs_judging.proofs.Firsts.{AllOneWay, OneWay}
use Rattle.dimacs_arrays.specs.{Answers.{first_misfit}, Paths.{AreLabelsBy}}
use Rattle.dimacs_arrays.specs.PathsSpelled.{AreOrderedLabels, IsPastId, label_with, queries_spelled, query_lengths, query_row}
use Rattle.dimacs_arrays.specs.inside.PathsSpelled.{AreInRange, AreInRangeBelow}
use Rattle.dimacs_arrays.proofs.AnswerLemmas.{all_fit}
use Rattle.dimacs_records.specs.declared.records.QueryKind.TheVariants as asks

-- ---- IDs of queries
past_one : (from : ℕ) (to : Option ℕ) (id other : ℕ) → IsPastId from to id → IsPastId from to other → id ≡ other
past_one from to id other (inl f) (inl g) = f.0 ∙ sym g.0
past_one from to id other (inl f) (inr g) = absurd (f.1 g.0)
past_one from to id other (inr f) (inl g) = absurd (g.1 f.0)
past_one from to id other (inr f) (inr g) = let e : Some id ≡ Some other = sym f.1 ∙ g.1 in cc

pub queries_one_way : (froms tos : List ℕ) → AllOneWay (query_row froms tos ∷ [])
queries_one_way froms tos = (one, tt)
  where
    one : OneWay (query_row froms tos)
    one k p q r s f g = (f.2.1 ∙ ap Node (past_one (get_or froms k 0) (slice_get tos k) f.2.0 g.2.0 f.2.2 g.2.2) ∙ sym g.2.1, f.1 ∙ sym g.1)

not_past : (from : ℕ) (to : Option ℕ) (id : ℕ) → IsId from → IfSome to IsId → ¬ IsPastId from to id
not_past from to id here there (inl f) = f.1 here
not_past from None id here there (inr f) = let e : None ≡ Some id = f.1 in cc
not_past from (Some to) id here there (inr f) = let e : Some to ≡ Some id = f.1 in let same : to ≡ id = cc in f.2 (subst IsId same there)

module _ (froms tos : List ℕ) where
  pub clear_at : (k : ℕ) (place : Where) (reason : Reason) → AreInRange froms tos k → ¬ query_row froms tos k place reason
  clear_at k place reason is f = not_past (get_or froms k 0) (slice_get tos k) f.2.0 is.0 is.1 f.2.2

  pub all_clear : AreInRangeBelow froms tos (length froms) → AllClear (query_row froms tos ∷ [])
  all_clear below = (λ k place reason f. clear_at k place reason (below k f.0) f, tt)

  pub first_past : (k id : ℕ) → k < length froms → AreInRangeBelow froms tos k → IsPastId (get_or froms k 0) (slice_get tos k) id → FirstOfRow (query_row froms tos) (Node id) NumberRange
  first_past k id inside below past = record { number = k; fails = (inside, refl, (id, refl, past)); earlier = λ j less place reason f. clear_at j place reason (below j less) f }

  some_is : (o : Option ℕ) → ((id : ℕ) → o ≡ Some id → IsId id) → IfSome o IsId
  some_is None each = tt
  some_is (Some id) each = each id refl

  --   lawful queries are in range
  pub lawful_in_range : (kind : QueryKind) → first_misfit (query_lengths kind froms tos) ≡ None → AreLawful (queries_spelled kind froms tos) → AreInRangeBelow froms tos (length froms)
  lawful_in_range asks.Sources fit lawful k inside =
      let none : length tos ≡ 0 = (all_fit (query_lengths asks.Sources froms tos) fit).1.0 in
      (All-get_or IsId froms k 0 inside lawful.ids, rw (slice_get_past tos k (omega (arith, none))) tt)
  lawful_in_range asks.Pairs fit lawful k inside =
      let same : length tos ≡ length froms = (all_fit (query_lengths asks.Pairs froms tos) fit).1.0 in
      let within : k < length tos = omega (arith, inside, same) in
      let ids : AreIds (get_or (zip froms tos) k (0, 0)) = All-get_or AreIds (zip froms tos) k (0, 0) (omega (arith, inside, same, length-zip froms tos)) lawful.ids in
      let both : AreIds (get_or froms k 0, get_or tos k 0) = subst AreIds (get_or-zip froms tos k (0, 0) inside within) ids in
      (both.0, rw (slice_get-get_or tos k 0 within) both.1)

  --   and the other way round
  pub in_range_lawful : (kind : QueryKind) → first_misfit (query_lengths kind froms tos) ≡ None → AreInRangeBelow froms tos (length froms) → AreLawful (queries_spelled kind froms tos)
  in_range_lawful asks.Sources fit below =
      let few : length froms ≡ min (length froms) most_count = (all_fit (query_lengths asks.Sources froms tos) fit).0 in
      record { few = omega (arith, few, length-map froms SourceQuery); ids = All-from_get_or IsId froms 0 (λ k inside. (below k inside).0) }
  in_range_lawful asks.Pairs fit below =
      let lengths = all_fit (query_lengths asks.Pairs froms tos) fit in
      let few : length froms ≡ min (length froms) most_count = lengths.0 in
      let same : length tos ≡ length froms = lengths.1.0 in
      record {
        few = omega (arith, few, length-map (zip froms tos) pair_query, length-zip froms tos);
        ids = All-from_get_or AreIds (zip froms tos) (0, 0) (λ k inside.
            let here : k < length froms = omega (arith, inside, length-zip froms tos) in
            let there : k < length tos = omega (arith, here, same) in
            let to = rw (slice_get-get_or tos k 0 there) at (below k here).1 in
            subst AreIds (sym (get_or-zip froms tos k (0, 0) here there)) ((below k here).0, to));
      }

pub pairs_more : (froms tos : List ℕ) (i : ℕ) → length tos ≡ length froms → i < length froms → take (i + 1) (zip froms tos) ≡ take i (zip froms tos) ++ (get_or froms i 0, get_or tos i 0) ∷ []
pairs_more froms tos i same inside =
    take_more (zip froms tos) i (0, 0) (omega (arith, inside, same, length-zip froms tos))
    ∙ ap (λ (pair : ℕ × ℕ). take i (zip froms tos) ++ pair ∷ []) (get_or-zip froms tos i (0, 0) inside (omega (arith, inside, same)))

-- ---- labels by ID
range_more : (n : ℕ) → range_with_len 1 (n + 1) ≡ range_with_len 1 n ++ (n + 1) ∷ []
range_more n =
    sym (map-id (range_with_len 1 (n + 1))) ∙ map-range_with_len_more (λ (v : ℕ). v) 1 n (n + 1) (omega arith) ∙ ap (λ (front : List ℕ). front ++ (n + 1) ∷ []) (map-id (range_with_len 1 n))

module _ (s : ℕ) (claim : ℕ → Option ℤ) where
  abbrev pub labels_to : List ℕ → List Label
  labels_to ids = filter_map (λ v. label_with s v (claim v)) ids

  abbrev pub first_labels : ℕ → List Label
  first_labels n = labels_to (range_with_len 1 n)

  pub first_more : (n : ℕ) → first_labels (n + 1) ≡ first_labels n ++ cons_option (label_with s (n + 1) (claim (n + 1))) []
  first_more n = ap labels_to (range_more n) ∙ filter_map-append (λ v. label_with s v (claim v)) (range_with_len 1 n) ((n + 1) ∷ [])

  by_claim : (v : ℕ) (o : Option ℤ) (rest : List Label) (u : ℕ) → v ≢ u → distance_in rest u ≡ None → distance_in (cons_option (label_with s v o) rest) u ≡ None
  by_claim v None rest u apart none = none
  by_claim v (Some d) rest u apart none = elim (eqb_tells v s) [
    | inl same ↦ rw same.0 none
    | inr other ↦ rw (other.0, ne_eqb v u apart) none
  ]

  none_in : (ids : List ℕ) (u : ℕ) → All (λ v. v ≢ u) ids → distance_in (labels_to ids) u ≡ None
  none_in [] u apart = refl
  none_in (v ∷ ids) u apart = by_claim v (claim v) (labels_to ids) u (All-head (λ w. w ≢ u) v ids apart) (none_in ids u (All-tail (λ w. w ≢ u) v ids apart))

  pub none_later : (n u : ℕ) → n < u → distance_in (first_labels n) u ≡ None
  none_later n u later =
      none_in (range_with_len 1 n) u
      (All-from_get_or (λ v. v ≢ u) (range_with_len 1 n) 0 (λ k inside e. omega (arith, later, inside, length-range_with_len 1 n, get_or-range_with_len 1 n k 0 (omega (arith, inside, length-range_with_len 1 n)), e)))

  few_by : (v : ℕ) (o : Option ℤ) (rest : List Label) (n : ℕ) → length rest ≤ n → length (cons_option (label_with s v o) rest) ≤ n + 1
  few_by v None rest n few = omega (arith, few)
  few_by v (Some d) rest n few = elim (eqb_tells v s) [
    | inl same ↦ rw same.0 (omega (arith, few))
    | inr other ↦ rw other.0 (omega (arith, few))
  ]

  few_in : (ids : List ℕ) → length (labels_to ids) ≤ length ids
  few_in [] = omega arith
  few_in (v ∷ ids) = subst (λ (n : ℕ). length (labels_to (v ∷ ids)) ≤ n) (omega arith) (few_by v (claim v) (labels_to ids) (length ids) (few_in ids))

  pub few_labels : (n : ℕ) → length (first_labels n) ≤ n
  few_labels n = subst (λ (m : ℕ). length (first_labels n) ≤ m) (length-range_with_len 1 n) (few_in (range_with_len 1 n))

  pred_by : (v : ℕ) (o : Option ℤ) (rest : List Label) → All (λ (l : Label). l.pred ≡ s) rest → All (λ (l : Label). l.pred ≡ s) (cons_option (label_with s v o) rest)
  pred_by v None rest all = all
  pred_by v (Some d) rest all = elim (eqb_tells v s) [
    | inl same ↦ rw same.0 all
    | inr other ↦ rw other.0 (All-cons (λ (l : Label). l.pred ≡ s) (record { dist = d; id = v; pred = s }) rest refl all)
  ]

  preds_in : (ids : List ℕ) → All (λ (l : Label). l.pred ≡ s) (labels_to ids)
  preds_in [] = All-nil (λ (l : Label). l.pred ≡ s)
  preds_in (v ∷ ids) = pred_by v (claim v) (labels_to ids) (preds_in ids)

  pub preds_are : (n : ℕ) → All (λ (l : Label). l.pred ≡ s) (first_labels n)
  preds_are n = preds_in (range_with_len 1 n)

  -- ---- the labels, one by one
  more_at : (id : ℕ) → 1 ≤ id → first_labels (id + 1 - 1) ≡ first_labels (id - 1) ++ cons_option (label_with s id (claim id)) []
  more_at id some =
      let last : id - 1 + 1 ≡ id = omega (arith, some) in
      let all : id - 1 + 1 ≡ id + 1 - 1 = omega (arith, some) in
      subst (λ (n : ℕ). first_labels n ≡ first_labels (id - 1) ++ cons_option (label_with s id (claim id)) []) all
      (subst (λ (v : ℕ). first_labels (id - 1 + 1) ≡ first_labels (id - 1) ++ cons_option (label_with s v (claim v)) []) last (first_more (id - 1)))

  abbrev pub block_to : ℕ → BlockValue
  block_to n = record { source = s; radius = None; labels = first_labels n }

  label_facts : (v : ℕ) (o : Option ℤ) (l : Label) → label_with s v o ≡ Some l → (l.id ≡ v) × (v ≢ s) × (l.pred ≡ s) × (o ≡ Some l.dist)
  label_facts v None l e = absurd (cc)
  label_facts v (Some d) l e = elim (eqb_tells v s) [
    | inl same ↦ absurd (let f : None ≡ Some l = rw same.0 at e in cc)
    | inr other ↦
        let f : Some (record { dist = d; id = v; pred = s }) ≡ Some l = rw other.0 at e in
        let is : record { dist = d; id = v; pred = s } ≡ l = cc in
        subst (λ (m : Label). (m.id ≡ v) × (v ≢ s) × (m.pred ≡ s) × (Some d ≡ Some m.dist)) is (refl, other.1, refl, refl)
  ]

  --   a node without a label, or with one
  pub none_more : (id : ℕ) (b : BlockValue) → 1 ≤ id → b ≡ block_to (id - 1) → label_with s id (claim id) ≡ None → b ≡ block_to (id + 1 - 1)
  none_more id b some is none =
      let same : first_labels (id + 1 - 1) ≡ first_labels (id - 1) ++ [] = subst (λ (o : Option Label). first_labels (id + 1 - 1) ≡ first_labels (id - 1) ++ cons_option o []) none (more_at id some) in
      is ∙ ap (λ (labels : List Label). record { source = s; radius = None; labels = labels }) (sym (same ∙ append-nil (first_labels (id - 1))))

  module _ (id : ℕ) (b : BlockValue) (l : Label) (some : 1 ≤ id) (is : b ≡ block_to (id - 1)) (labelled : label_with s id (claim id) ≡ Some l) where
    facts : (l.id ≡ id) × (id ≢ s) × (l.pred ≡ s) × (claim id ≡ Some l.dist)
    facts = label_facts id (claim id) l labelled

    pub one_more : with_label b l ≡ block_to (id + 1 - 1)
    one_more =
        let same : first_labels (id + 1 - 1) ≡ first_labels (id - 1) ++ l ∷ [] = subst (λ (o : Option Label). first_labels (id + 1 - 1) ≡ first_labels (id - 1) ++ cons_option o []) labelled (more_at id some) in
        ap (λ (c : BlockValue). with_label c l) is ∙ ap (λ (labels : List Label). record { source = s; radius = None; labels = labels }) (sym same)

    pub none_yet : label b l.id ≡ None
    none_yet =
        ap (λ (c : BlockValue). label c l.id) is ∙ ap (label (block_to (id - 1))) facts.0
        ∙ rw (ne_eqb s id (λ e. facts.1 (sym e))) (none_later (id - 1) id (omega (arith, some)))

    pub has_source : IsSome (label b l.pred)
    has_source = rw (is, facts.2, eq-eqb s s refl) refl

    pub few_yet : id ≤ most_nodes → length b.labels < most_count
    few_yet few = rw is (omega (arith, few, some, few_labels (id - 1)))

    pub lawful_label : (nodes : ℕ) (o : Option ℤ) → o ≡ claim id → IfSome o IsWide → IsNode nodes s → id ≤ nodes → IsLabel nodes l
    lawful_label nodes o same wide node within =
        let at : IfSome (Some l.dist) IsWide = subst (λ (p : Option ℤ). IfSome p IsWide) (same ∙ facts.3) wide in
        record { id = (omega (arith, facts.0, some), omega (arith, facts.0, within)); dist = at; pred = subst (IsNode nodes) (sym facts.2) node }

    pub near : IsWithinRadius b.radius l.dist
    near = rw is tt

pub bare_block : (s : ℕ) (claim : ℕ → Option ℤ) (n : ℕ) (b : BlockValue) → b ≡ block_to s claim n → IsBare b
bare_block s claim n b is = subst IsBare (sym is) (record { whole = refl; preds = preds_are s claim n })

-- what has no labels has none in order
pub none_ordered : (nodes s : ℕ) (claim : ℕ → Option ℤ) (pred : ℕ → ℕ) (rows : List Row) (error : JudgeError) → Refutes (AreLabelsBy nodes s claim pred) rows error → Refutes (AreOrderedLabels nodes s claim pred) rows error
none_ordered nodes s claim pred rows (Refused place reason) none = (none.0, λ labels are. none.1 labels are.0)
none_ordered nodes s claim pred rows Memory none = tt
