-- One more record of labels while their text is read.
use Rattle.std.proofs.Common.{◌≡◌, ℕ, zero, suc, ◌<◌, ◌≤◌, ◌+◌, ◌-◌, ◌∷◌, ◌++◌, [], List, Bool, true, false, inl, inr, Option, Some, None, length, drop, take, take_all, map, add-one, drop-cons, refl, ap, ap₂, sym, ◌∙◌, subst, arith, append_assoc}
use Rattle.std.proofs.{Math.Seq.{get_or-append_seam, set-append_seam}, lemmas.List.Folds.{list_any-append}}
use Rattle.std.proofs.lemmas.Bool.{cases_eq, false_from_ne_true, eq-eqb, le-leb, leb-false, lt-leb, ltb-false, ne_eqb, not-false, or_parts}
use Rattle.std.proofs.lemmas.List.{drop_all, length-append, length-map, take-append-le}
use Rattle.std.proofs.lemmas.List.Elements.{All-pop, All-push, All-nil}
use Rattle.std.specs.Prelude.{ℤ, IfSome, ◌&&◌, ◌||◌, if◌then◌else◌, not, pos, is_some, is_none, nat_le, slice_get, slice_index_or, slice_set, ◌==◌}
use Rattle.std.specs.{List.{All, list_any}, Ordering.{nat_cmp}, Cmp.{nat_cmp_total, nat_eq_equiv, unsigned_tied}}
use Rattle.std.specs.FinSet.{FinSet, contains, same_set, nat_cmp-IsAntisymmetric}
use Rattle.dimacs_lines.specs.Limits.{most_count, most_nodes}
use Rattle.dimacs_network.proofs.Nodes.{contains-empty, contains-insert}
use Rattle.dimacs_records.specs.{declared.kinds.TextKind.TheVariants.{Labels}, declared.order.Context.{Context}}
use Rattle.dimacs_records.specs.{declared.records.Record.{Record}, Earlier.{is_short, names}, Ranges.{IsRadius, IsWide}}
use Rattle.dimacs_records.specs.declared.records.Record.TheVariants.{LabelsProblem, LabelsBlock, LabelsNode}
use Rattle.dimacs_records.specs.Blocks.{block_in, is_full_block, is_labelled, is_past, is_past_block, is_short_block}
use Rattle.dimacs_records.specs.{Readings.{LineRecord, records_of}, Spelling.{kind_of}}
use Rattle.dimacs_records.specs.Tests.{Passes, PassesEnd, plain_context_after, plain_context_of, end_context_of, context_after}
use Rattle.dimacs_claims.specs.{declared.label_list.Label.{Label}, LabelTexts.{GivesLabels, label_line}}
use Rattle.dimacs_claims.specs.Labels.{AreSources, BlockValue, EachAfter, IsBlock, IsNewSource, distance_in, label, no_label, with_label, has_source}
use Rattle.dimacs_claims.specs.LabelsReading.{LabelsBegun, lines_of_blocks, labels_begun_records, plain_context, context, end_context}
use Rattle.dimacs_claims.specs.inside.LabelsReading.{AreLabelled, AreLabelsBegun}
use Rattle.dimacs_claims.proofs.BlockLemmas.{label_id, near_radius, is_some-label, is_some-push, some_if, block_empty, block_push, each_after_nil, each_after_push}
use Rattle.dimacs_claims.proofs.LabelRecords.{source_of, opened_with, last_after, last_cases, last_is, say_taken, short_by_records, list_any-has_source, lines_of_blocks-push_block, lines_of_blocks-push_label, lines_of_blocks-zero, new_source, push_same}
use Rattle.std.specs.FinSet as set

-- what the tests know follows from the records
pub plain_context_by_records : (b : LabelsBegun) → plain_context b ≡ plain_context_after (labels_begun_records b)
plain_context_by_records b = ap (plain_context_of (plain_context b).problem) (sym ((say_taken b).counted ∙ length-map b.blocks source_of))

pub source_by_records : (begun : LabelsBegun) (source : ℕ) → list_any (names source) (labels_begun_records begun) ≡ list_any (has_source source) begun.blocks
source_by_records begun source = (say_taken begun).named source ∙ sym (list_any-has_source source begun.blocks)

pub context_by_records : (b : LabelsBegun) (r : Record) → kind_of r ≡ Labels → context b r ≡ context_after (labels_begun_records b) r
context_by_records b (LabelsProblem nodes blocks) of_kind = plain_context_by_records b
context_by_records b (LabelsBlock source count radius) of_kind = ap (λ (e : Context). record (context b (LabelsBlock source count radius)) { problem = e.problem; counted = e.counted }) (plain_context_by_records b)
context_by_records b (LabelsNode id dist pred) of_kind = ap (λ (e : Context). record (context b (LabelsNode id dist pred)) { problem = e.problem; counted = e.counted }) (plain_context_by_records b)
context_by_records b r of_kind = absurd (cc)

pub end_context_by_records : (b : LabelsBegun) → end_context b ≡ end_context_of Labels (labels_begun_records b)
end_context_by_records b = ap (λ (e : Context). record (end_context b) { problem = e.problem; counted = e.counted }) (plain_context_by_records b)

-- a complete state gives its labels
pub gives_labels : (b : LabelsBegun) → AreLabelsBegun b → PassesEnd Labels (end_context b) → (rs : List LineRecord) → records_of rs ≡ labels_begun_records b → GivesLabels rs (record { nodes = b.nodes; blocks = b.blocks })
gives_labels begun are passes rs is =
    let parts = or_parts (is_short_block (block_in (labels_begun_records begun))) (is_short (plain_context begun).problem (length begun.blocks)) passes.finished in
    let full : begun.declared ≡ length begun.blocks = omega (arith, ltb-false (length begun.blocks) begun.declared parts.1, are.no_more) in
    let none : begun.missing ≡ 0 = omega (arith, ltb-false 0 begun.missing (sym (short_by_records begun are.none_lack) ∙ parts.0)) in (
      is ∙ ap₂ (λ n rs. LabelsProblem begun.nodes n ∷ rs) full (ap (λ m. lines_of_blocks m begun.blocks) none ∙ lines_of_blocks-zero begun.blocks),
      record { nodes_few = are.nodes_few; blocks_few = omega (arith, are.no_more, are.blocks_few); blocks = are.blocks; sources = are.sources },
    )

pub passes_of : (b c : LabelsBegun) (r : Record) → b ≡ c → Passes (context c r) r → Passes (context b r) r
passes_of b c r same passes = subst (λ (t : LabelsBegun). Passes (context t r) r) (sym same) passes

-- one more block, which passes the tests and has no labels yet
module _ (begun : LabelsBegun) (are : AreLabelsBegun begun) (source count : ℕ) (radius : Option ℤ) (passes : Passes (context begun (LabelsBlock source count radius)) (LabelsBlock source count radius)) where
  abbrev pub opened_block : BlockValue
  opened_block = record { source = source; radius = radius; labels = [] }

  abbrev pub with_opened : LabelsBegun
  with_opened = record { nodes = begun.nodes; declared = begun.declared; missing = count; blocks = begun.blocks ++ opened_block ∷ [] }

  pub begun_block : 1 ≤ source → count ≤ most_count → IfSome radius IsRadius → AreLabelsBegun with_opened
  begun_block least few radius_within =
      let within = ltb-false begun.nodes source passes.second_within in
      let new = sym (source_by_records begun source) ∙ passes.new_node in
      let room = leb-false begun.declared (length begun.blocks) passes.room in
      let longer = length-append begun.blocks (opened_block ∷ []) in
      record {
        nodes_few = are.nodes_few;
        blocks_few = are.blocks_few;
        no_more = omega (arith, room, longer);
        last_few = λ front last e. omega (arith, few, ap (λ (x : BlockValue). length x.labels) (push_same begun.blocks front opened_block last e));
        none_lack = λ e. absurd (omega (arith, ap length e, longer));
        blocks = All-push (IsBlock begun.nodes) begun.blocks opened_block are.blocks (block_empty begun.nodes source radius (least, within) radius_within);
        sources = each_after_push IsNewSource begun.blocks opened_block are.sources (new_source begun.blocks opened_block new);
      }

  pub pushed_block : labels_begun_records with_opened ≡ labels_begun_records begun ++ LabelsBlock source count radius ∷ []
  pushed_block =
      let none : begun.missing ≡ 0 = omega (arith, ltb-false _ _ (sym (short_by_records begun are.none_lack) ∙ passes.full_block)) in
      ap (λ rs. LabelsProblem begun.nodes begun.declared ∷ rs) (lines_of_blocks-push_block begun.blocks source count radius ∙ ap (λ m. lines_of_blocks m begun.blocks ++ LabelsBlock source count radius ∷ []) (sym none))

-- if b is the last block
module _ (begun : LabelsBegun) (front : List BlockValue) (b : BlockValue) (is : begun.blocks ≡ front ++ b ∷ []) (l : Label) where
  pub in_last : block_in (labels_begun_records begun) ≡ Some (opened_with begun.missing b)
  in_last = (say_taken begun).block ∙ last_is begun.blocks begun.missing (front, b, is)

  pub label_by_records : record (plain_context begun) { named = is_some (label b l.id); block_full = begun.missing == 0; pred_unknown = not (is_some (label b l.pred)); past_radius = is_past b.radius l.dist } ≡ context begun (label_line l)
  label_by_records = rw (in_last, is_some-label b l.id, is_some-label b l.pred, full (length b.labels) begun.missing (length (map label_id b.labels)) (length-map b.labels label_id)) refl
    where
      full : (n m k : ℕ) → k ≡ n → nat_le (n + m) k ≡ (m == 0)
      full n zero k same = le-leb (n + 0) k (omega (arith, same))
      full n (suc m) k same = lt-leb (n + suc m) k (omega (arith, same)) ∙ sym (ne_eqb (suc m) 0 (λ e. absurd (omega (arith, e))))

-- a label may come next; b is the last block
pub record Fits (begun : LabelsBegun) (l : Label) : Type 0 where
  pub front : List BlockValue
  pub b : BlockValue
  pub is : begun.blocks ≡ front ++ b ∷ []
  pub id : l.id ≤ begun.nodes
  pub pred : l.pred ≤ begun.nodes
  pub fresh : is_some (label b l.id) ≡ false
  pub lacks : 0 < begun.missing
  pub known : is_some (label b l.pred) ≡ true
  pub within_radius : is_past b.radius l.dist ≡ false

pub fits : (begun : LabelsBegun) (l : Label) → Passes (context begun (label_line l)) (label_line l) → Fits begun l
fits begun l passes = elim (last_cases begun.blocks) [
  | inl none ↦ absurd (cc (passes.placed, ap is_none ((say_taken begun).block ∙ ap (last_after begun.missing None) none)))
  | inr h ↦
      let b = h.1 in
      let last = sym (in_last begun h.0 b h.2 l) in
      record {
        front = h.0;
        b = b;
        is = h.2;
        id = ltb-false begun.nodes l.id passes.second_within;
        pred = ltb-false begun.nodes l.pred passes.fourth_within;
        fresh = is_some-label b l.id ∙ (ap (λ o. is_labelled o l.id) last ∙ passes.new_node);
        lacks = omega (arith, leb-false _ _ (ap is_full_block last ∙ passes.room), length-map b.labels label_id);
        known = is_some-label b l.pred ∙ (ap (λ o. is_labelled o l.pred) last ∙ not-false _ passes.pred_known);
        within_radius = ap (λ o. is_past_block o l.dist) last ∙ passes.within_radius;
      }
]

-- the state with this label
module _ (begun : LabelsBegun) (l : Label) (fit : Fits begun l) where
  abbrev pub kept : List BlockValue
  kept = fit.front ++ with_label fit.b l ∷ []

  abbrev pub with_kept : LabelsBegun
  with_kept = record { nodes = begun.nodes; declared = begun.declared; missing = begun.missing - 1; blocks = kept }

  same_length : length kept ≡ length begun.blocks
  same_length = omega (arith, ap length fit.is, length-append fit.front (fit.b ∷ []), length-append fit.front (with_label fit.b l ∷ []))

  pub pushed_label : labels_begun_records with_kept ≡ labels_begun_records begun ++ label_line l ∷ []
  pushed_label =
      let same : suc (begun.missing - 1) ≡ begun.missing = omega (arith, fit.lacks) in
      ap (λ rs. LabelsProblem begun.nodes begun.declared ∷ rs) (lines_of_blocks-push_label fit.front fit.b.source fit.b.radius fit.b.labels l (begun.missing - 1) ∙ ap₂ (λ m bs. lines_of_blocks m bs ++ label_line l ∷ []) same (sym fit.is))

  pub sources_stay : (seen : set.FinSet nat_cmp) → AreSources seen begun.blocks → AreSources seen kept
  sources_stay seen are id = are id ∙ (ap (list_any (has_source id)) fit.is ∙ (list_any-append (has_source id) fit.front (fit.b ∷ []) ∙ sym (list_any-append (has_source id) fit.front (with_label fit.b l ∷ []))))

  pub begun_label : AreLabelsBegun begun → 1 ≤ l.id → 1 ≤ l.pred → IsWide l.dist → AreLabelsBegun with_kept
  begun_label are id pred dist =
      let last = with_label fit.b l in
      let blocks = All-pop (IsBlock begun.nodes) (fit.front ++ fit.b ∷ []) fit.front (Some fit.b) refl (subst (All (IsBlock begun.nodes)) fit.is are.blocks) in
      let sources = subst (EachAfter IsNewSource) fit.is are.sources in
      let few = are.last_few fit.front fit.b fit.is in
      record {
        nodes_few = are.nodes_few;
        blocks_few = are.blocks_few;
        no_more = omega (arith, are.no_more, same_length);
        last_few = λ f c e. omega (arith, few, fit.lacks, length-append fit.b.labels (l ∷ []), ap (λ (x : BlockValue). length x.labels) (push_same fit.front f last c e));
        none_lack = λ e. absurd (omega (arith, ap length e, length-append fit.front (last ∷ [])));
        blocks = All-push (IsBlock begun.nodes) fit.front last blocks.0 (block_push begun.nodes fit.b l blocks.1 (record { id = (id, fit.id); dist = dist; pred = (pred, fit.pred) }) (omega (arith, few, fit.lacks)) fit.fresh fit.known (near_radius fit.b.radius l.dist fit.within_radius));
        sources = each_after_push IsNewSource fit.front last (before_last IsNewSource fit.front fit.b sources) (sources fit.front [] fit.b refl);
      }
    where
      before_last : {X : Type 0} (P : List X → X → Type 0) (xs : List X) (x : X) → EachAfter P (xs ++ x ∷ []) → EachAfter P xs
      before_last P xs x each before after y e = each before (after ++ x ∷ []) y (ap (λ ys. ys ++ x ∷ []) e ∙ append_assoc before (y ∷ after) (x ∷ []))

-- the last block, as found by its place
pub last_got : {X : Type 0} (xs : List X) (x : X) → Some x ≡ slice_get xs (length xs - 1) → (front : List X) × (xs ≡ front ++ x ∷ [])
last_got [] x e = absurd (cc)
last_got (y ∷ []) x e = let same : y ≡ x = cc in ([], ap (λ z. z ∷ []) same)
last_got (y ∷ z ∷ xs) x e =
    let at : length (y ∷ z ∷ xs) - 1 ≡ suc (length (z ∷ xs) - 1) = omega arith in
    let rest = last_got (z ∷ xs) x (subst (λ k. Some x ≡ slice_get (y ∷ z ∷ xs) k) at e) in
    (y ∷ rest.0, ap (λ t. y ∷ t) rest.1)

pub nothing_begun : (nodes declared : ℕ) → nodes ≤ most_nodes → declared ≤ most_count → AreLabelsBegun (record { nodes = nodes; declared = declared; missing = 0; blocks = [] })
nothing_begun nodes declared nodes_few blocks_few = record {
  nodes_few = nodes_few;
  blocks_few = blocks_few;
  no_more = omega arith;
  last_few = λ front b e. absurd (omega (arith, ap length e, length-append front (b ∷ [])));
  none_lack = λ e. refl;
  blocks = All-nil (IsBlock nodes);
  sources = each_after_nil IsNewSource;
}

-- the last block was replaced by itself with one more label
pub added_last : (items : List BlockValue) (new now : BlockValue) (n : ℕ) (l : Label) → n ≡ length items → now ≡ slice_index_or items (n - 1) now → new ≡ with_label now l
    → (front : List BlockValue) (b : BlockValue) → items ≡ front ++ b ∷ [] → slice_set items (n - 1) new ≡ front ++ with_label b l ∷ []
added_last items new now n l len got is front b e =
    let at : n - 1 ≡ length front = omega (arith, len, ap length e, length-append front (b ∷ [])) in
    let same : now ≡ b = got ∙ (ap₂ (λ xs k. slice_index_or xs k now) e at ∙ get_or-append_seam front b [] now) in
    ap₂ (λ xs k. slice_set xs k new) e at ∙ (set-append_seam front b [] new ∙ ap (λ x. front ++ x ∷ []) (is ∙ ap (λ x. with_label x l) same))

-- ---- the nodes with a label in the last block
pub labelled_none : AreLabelled set.empty []
labelled_none = record { none = λ _. refl; last = λ front b is. absurd (omega (arith, ap length is, length-append front (b ∷ []))) }

pub labelled_opened : (blocks : List BlockValue) (source : ℕ) (radius : Option ℤ) → AreLabelled set.empty (blocks ++ record { source = source; radius = radius; labels = [] } ∷ [])
labelled_opened blocks source radius =
    let opened : BlockValue = record { source = source; radius = radius; labels = [] } in
    record {
      none = λ _. refl;
      last = λ front b is id.
          let none : b.labels ≡ [] = sym (ap (λ (x : BlockValue). x.labels) (push_same blocks front opened b is)) in
          rw none (contains-empty id);
    }

or_swapped : (s t : Bool) → (s || t) ≡ (t || s)
or_swapped true true = refl
or_swapped true false = refl
or_swapped false true = refl
or_swapped false false = refl

-- the last block has one more label
pub labelled_more : (labelled : FinSet nat_cmp) (blocks front : List BlockValue) (b : BlockValue) (l : Label) → blocks ≡ front ++ b ∷ [] → AreLabelled labelled blocks → AreLabelled (set.insert labelled l.id) (front ++ with_label b l ∷ [])
labelled_more labelled blocks front b l is are = record {
  none = λ e. absurd (omega (arith, ap length e, length-append front (with_label b l ∷ [])));
  last = λ f last last_is id.
      let with_is : b.labels ++ l ∷ [] ≡ last.labels = ap (λ (x : BlockValue). x.labels) (push_same front f (with_label b l) last last_is) in
      rw (← with_is) (
      contains-insert labelled l.id id
      ∙ ap₂ (λ t u. t || u) (nat_eq_equiv.symm id l.id) (are.last front b is id)
      ∙ or_swapped (l.id == id) (is_some (distance_in b.labels id))
      ∙ sym (is_some-push b.labels l id));
}

insert_removed : (nodes : FinSet nat_cmp) (id : ℕ) → contains nodes id ≡ false → set.remove (set.insert nodes id) id ≡ nodes
insert_removed nodes id fresh =
    same_set nat_cmp_total nat_cmp-IsAntisymmetric _ _ (λ q.
    elim (cases_eq q id) [
      | inl same ↦ removed nodes id q true (eq-eqb q id same) ∙ sym (ap (contains nodes) same ∙ fresh)
      | inr apart ↦ removed nodes id q false (ne_eqb q id apart)
    ])
  where
    removed : (nodes : FinSet nat_cmp) (id q : ℕ) (t : Bool) → (q == id) ≡ t → contains (set.remove (set.insert nodes id) id) q ≡ (not t && (t || contains nodes q))
    removed nodes id q t is =
        set.contains-remove nat_cmp_total (set.insert nodes id) id q
        ∙ ap₂ (λ s u. not s && u) (unsigned_tied q id ∙ is) (contains-insert nodes id q ∙ ap (λ s. s || contains nodes q) is)

-- a label that could not be added is forgotten
pub labelled_again : (labelled : FinSet nat_cmp) (blocks front : List BlockValue) (b : BlockValue) (id : ℕ) → blocks ≡ front ++ b ∷ [] → is_some (label b id) ≡ false → AreLabelled labelled blocks → AreLabelled (set.remove (set.insert labelled id) id) blocks
labelled_again labelled blocks front b id is fresh are =
    rw (insert_removed labelled id (are.last front b is id ∙ (or_parts (b.source == id) _ (sym (some_if (b.source == id) (pos 0) (distance_in b.labels id)) ∙ fresh)).1)) are

pub take_before : {X : Type 0} (xs : List X) (x : X) (n : ℕ) → n ≡ length xs → take n (xs ++ x ∷ []) ≡ xs
take_before xs x n is = rw is (take-append-le (length xs) xs (x ∷ []) (omega arith) ∙ take_all (length xs) xs (omega arith))

-- nodes with a label from place i on, one of which is removed
pub removed_more : (labels : List Label) (i : ℕ) (nodes : FinSet nat_cmp) → i < length labels → ((id : ℕ) → contains nodes id ≡ true → is_some (distance_in (drop i labels) id) ≡ true)
    → (id : ℕ) → contains (set.remove nodes (slice_index_or labels i no_label).id) id ≡ true → is_some (distance_in (drop (i + 1) labels) id) ≡ true
removed_more labels i nodes inside have id there =
    let l = slice_index_or labels i no_label in
    let stays : (not (id == l.id) && contains nodes id) ≡ true =
    ap (λ t. not t && contains nodes id) (sym (unsigned_tied id l.id)) ∙ sym (set.contains-remove nat_cmp_total nodes l.id id) ∙ there in
    elim (cases_eq id l.id) [
      | inl same ↦ absurd (cc (stays, eq-eqb id l.id same))
      | inr apart ↦
          let had = have id (ap (λ t. not t && contains nodes id) (sym (ne_eqb id l.id apart)) ∙ stays) in
          let split : drop i labels ≡ l ∷ drop (i + 1) labels = drop-cons labels i no_label inside ∙ ap (λ k. l ∷ drop k labels) (sym (add-one i)) in
          sym (ap (λ ls. is_some (distance_in ls id)) split ∙ ap (λ t. is_some (if t then Some l.dist else distance_in (drop (i + 1) labels) id)) (ne_eqb l.id id (λ e. apart (sym e)))) ∙ had
    ]

pub removed_all : (labels : List Label) (n : ℕ) (nodes : FinSet nat_cmp) → length labels ≤ n → ((id : ℕ) → contains nodes id ≡ true → is_some (distance_in (drop n labels) id) ≡ true) → nodes ≡ set.empty
removed_all labels n nodes past have =
    same_set nat_cmp_total nat_cmp-IsAntisymmetric _ _ (λ id. false_from_ne_true (contains nodes id) (λ there. cc (ap (λ ls. is_some (distance_in ls id)) (drop_all n labels past), have id there)) ∙ sym (contains-empty id))

pub unlabelled : (x : Option ℤ) → is_some x ≡ false → x ≡ None
unlabelled None e = refl
unlabelled (Some d) e = absurd (cc)
