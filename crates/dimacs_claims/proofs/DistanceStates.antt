-- One more record of distances while their text is read.
use Rattle.std.proofs.Common.{◌≡◌, ℕ, ◌==◌, ◌≤◌, ◌∷◌, ◌++◌, [], List, Bool, true, false, inl, inr, Some, None, map, refl, ap, sym, ◌∙◌, subst, arith}
use Rattle.std.proofs.{lemmas.Bool.{eq-eqb, le-ltb}, lemmas.List.Elements.{All-nil, All-pop, All-push}}
use Rattle.std.specs.{Prelude.{ℤ, ◌||◌, is_none, not, Result, Ok, Err, OnOk, OnErr}, List.{All}}
use Rattle.dimacs_records.specs.{declared.kinds.TextKind.TheVariants.{Distances}, Spelling.{kind_of}}
use Rattle.dimacs_records.specs.{declared.order.Context.{Context}, declared.records.Record.{Record}}
use Rattle.dimacs_records.specs.declared.records.Record.TheVariants.{LabelsBlock, LabelsNode, DistancesProblem, DistancesBlock, DistancesNode}
use Rattle.dimacs_records.specs.Blocks.{block_in, is_labelled, is_past, is_past_block}
use Rattle.dimacs_records.specs.Readings.{LineRecord, numbered, records_of}
use Rattle.dimacs_records.specs.Tests.{Passes, end_context_of, context_after}
use Rattle.dimacs_records.proofs.CanonicalLaws.{numbered_all}
use Rattle.dimacs_claims.specs.{declared.label_list.Label.{Label}, LabelTexts.{GivesLabels}}
use Rattle.dimacs_claims.specs.DistanceTexts.{AreBare, GivesDistances, IsBare, bare}
use Rattle.dimacs_claims.specs.Labels.{BlockValue, IsBlock, LabelsValue, with_block, with_label}
use Rattle.dimacs_claims.specs.inside.LabelsReading.{AreLabelsBegun}
use Rattle.dimacs_claims.specs.LabelsReading.{LabelsBegun, context, bare_context, end_context, labels_begun_records}
use Rattle.dimacs_claims.proofs.BuilderLemmas.{end_context_by_records, in_last, plain_context_by_records, context_by_records}
use Rattle.dimacs_claims.proofs.DistanceLaws.{bare_counted_in, bare_full, bare_labelled, bare_misplaced, bare_named, bare_problem_in, bare_short}
use Rattle.dimacs_claims.proofs.LabelRecords.{HasLast, last_after, last_cases, say_taken}

-- what the tests know follows from the records
pub bare_by_records : (b : LabelsBegun) (r : Record) → kind_of r ≡ Distances → bare_context b r ≡ context_after (map bare (labels_begun_records b)) r
bare_by_records b (DistancesProblem nodes blocks) is =
    let rs = labels_begun_records b in
    rw (bare_problem_in rs, bare_counted_in rs) (plain_context_by_records b)
bare_by_records b (DistancesBlock source count) is =
    let rs = labels_begun_records b in
    rw (bare_problem_in rs, bare_counted_in rs, bare_named source rs, bare_short rs) (context_by_records b (LabelsBlock source count None) refl)
bare_by_records b (DistancesNode id dist) is =
    let rs = labels_begun_records b in
    rw (bare_problem_in rs, bare_counted_in rs, bare_misplaced rs, bare_labelled id rs, bare_full rs) (ap (λ (e : Context). record e { pred_unknown = false; past_radius = false }) (context_by_records b (LabelsNode id dist id) refl))
bare_by_records b r is = absurd (cc)

pub bare_end_context_by_records : (b : LabelsBegun) → end_context b ≡ end_context_of Distances (map bare (labels_begun_records b))
bare_end_context_by_records b =
    let rs = labels_begun_records b in
    rw (bare_problem_in rs, bare_counted_in rs, bare_short rs) (end_context_by_records b)

pub gives_distances : (begun : LabelsBegun) (labels : LabelsValue) → ((rs : List LineRecord) → records_of rs ≡ labels_begun_records begun → GivesLabels rs labels) → AreBare labels
    → (rs : List LineRecord) → records_of rs ≡ map bare (labels_begun_records begun) → GivesDistances rs labels
gives_distances begun labels gives are rs is =
    let taken = labels_begun_records begun in
    let given = gives (numbered 1 (map (λ (r : Record). Some r) taken)) (numbered_all taken) in
    (is ∙ ap (map bare) (sym (numbered_all taken) ∙ given.0), given.1, are)

-- ---- one more node
-- the last block, after which the line of a node comes
pub has_last : (begun : LabelsBegun) → is_none (block_in (labels_begun_records begun)) ≡ false → HasLast begun.blocks
has_last begun placed = elim (last_cases begun.blocks) [
  | inl none ↦ absurd (cc (placed, ap is_none ((say_taken begun).block ∙ ap (last_after begun.missing None) none)))
  | inr h ↦ h
]

abbrev pub Split : (BlockValue → Type 0) → List BlockValue → BlockValue → Type 0
Split P front b = All P front × P b

pub split_last : (P : BlockValue → Type 0) (blocks front : List BlockValue) (b : BlockValue) → blocks ≡ front ++ b ∷ [] → All P blocks → Split P front b
split_last P blocks front b is all = All-pop P (front ++ b ∷ []) front (Some b) refl (subst (All P) is all)

-- the blocks still have the form of distances
pub bare_more : (blocks front : List BlockValue) (b : BlockValue) (l : Label) → blocks ≡ front ++ b ∷ [] → All IsBare blocks → l.pred ≡ b.source → All IsBare (front ++ with_label b l ∷ [])
bare_more blocks front b l is all same =
    let parts = split_last IsBare blocks front b is all in
    All-push IsBare front (with_label b l) parts.0 (record { whole = parts.1.whole; preds = All-push (λ (m : Label). m.pred ≡ b.source) b.labels l parts.1.preds same })

-- a line of distances that passes the tests passes them as a label whose predecessor is the source
pub label_passes : (begun : LabelsBegun) (id : ℕ) (dist : ℤ) (pred : ℕ) → AreLabelsBegun begun → All IsBare begun.blocks → ((front : List BlockValue) (b : BlockValue) → begun.blocks ≡ front ++ b ∷ [] → pred ≡ b.source)
    → Passes (bare_context begun (DistancesNode id dist)) (DistancesNode id dist) → Passes (context begun (LabelsNode id dist pred)) (LabelsNode id dist pred)
label_passes begun id dist pred are bare_ones last p =
    let h = has_last begun p.placed in
    let b = h.1 in
    let source = last h.0 b h.2 in
    let is = (split_last (IsBlock begun.nodes) begun.blocks h.0 b h.2 are.blocks).1 in
    let whole = (split_last IsBare begun.blocks h.0 b h.2 bare_ones).1.whole in
    let block = in_last begun h.0 b h.2 (record { dist = dist; id = id; pred = pred }) in
    record {
      after_problem = p.after_problem;
      one_problem = p.one_problem;
      placed = p.placed;
      second_within = p.second_within;
      third_within = refl;
      fourth_within = le-ltb begun.nodes pred (omega (arith, source, is.source_within.1));
      new_node = p.new_node;
      new_end = refl;
      both_ends = refl;
      low = refl;
      cap = refl;
      room = p.room;
      full_block = refl;
      one_value = refl;
      pred_known = ap (λ o. not (is_labelled o pred)) block ∙ known (b.source == pred) _ (eq-eqb b.source pred (sym source));
      within_radius = ap (λ o. is_past_block o dist) block ∙ ap (λ radius. is_past radius dist) whole;
    }
  where
    known : (x y : Bool) → x ≡ true → not (x || y) ≡ false
    known true y e = refl
    known false y e = absurd (cc)

-- the source is a node
pub source_least : (begun : LabelsBegun) (pred : ℕ) → AreLabelsBegun begun → ((front : List BlockValue) (b : BlockValue) → begun.blocks ≡ front ++ b ∷ [] → pred ≡ b.source) → is_none (block_in (labels_begun_records begun)) ≡ false → 1 ≤ pred
source_least begun pred are last placed =
    let h = has_last begun placed in
    omega (arith, last h.0 h.1 h.2, (split_last (IsBlock begun.nodes) begun.blocks h.0 h.1 h.2 are.blocks).1.source_within.0)

-- ---- the blocks keep the form of distances, changed or not
pub bare_kept : {E : Type 0} (old new : LabelsBegun) (l : Label) (r : Result Unit E) → OnOk r ((front : List BlockValue) (b : BlockValue) → old.blocks ≡ front ++ b ∷ [] → new.blocks ≡ front ++ with_label b l ∷ []) → OnErr r (new ≡ old)
    → HasLast old.blocks → ((front : List BlockValue) (b : BlockValue) → old.blocks ≡ front ++ b ∷ [] → l.pred ≡ b.source) → All IsBare old.blocks → All IsBare new.blocks
bare_kept old new l (Ok done) kept same h last are = subst (All IsBare) (sym (kept h.0 h.1 h.2)) (bare_more old.blocks h.0 h.1 l h.2 are (last h.0 h.1 h.2))
bare_kept old new l (Err error) kept same h last are = subst (λ (t : LabelsBegun). All IsBare t.blocks) (sym same) are

pub bare_opened : {E : Type 0} (old new : LabelsBegun) (source : ℕ) (r : Result Unit E) → OnOk r (new.blocks ≡ old.blocks ++ record { source = source; radius = None; labels = [] } ∷ []) → OnErr r (new ≡ old) → All IsBare old.blocks → All IsBare new.blocks
bare_opened old new source (Ok done) opened same are =
    let b : BlockValue = record { source = source; radius = None; labels = [] } in
    subst (All IsBare) (sym opened) (All-push IsBare old.blocks b are (record { whole = refl; preds = All-nil (λ (l : Label). l.pred ≡ source) }))
bare_opened old new source (Err error) opened same are = subst (λ (t : LabelsBegun). All IsBare t.blocks) (sym same) are

pub bare_pushed : {E : Type 0} (old new : LabelsValue) (b : BlockValue) (r : Result Unit E) → OnOk r (new ≡ with_block old b) → OnErr r (new ≡ old) → IsBare b → AreBare old → AreBare new
bare_pushed old new b (Ok done) pushed same is are = subst AreBare (sym pushed) (All-push IsBare old.blocks b are is)
bare_pushed old new b (Err error) pushed same is are = subst AreBare (sym same) are
