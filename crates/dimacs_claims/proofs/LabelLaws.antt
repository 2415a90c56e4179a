-- The records of labels have no fault, give only one value, and can be spelled.
use Rattle.std.proofs.Common.{◌≡◌, ℕ, suc, ◌<◌, ◌≤◌, ◌+◌, ◌∷◌, ◌++◌, [], List, false, Option, Some, None, length, map, refl, ap, sym, ◌∙◌, subst, arith, append_assoc}
use Rattle.std.proofs.{lemmas.Bool.{le-ltb, ne_eqb}, lemmas.Bool.Decides.{nat_tests}, lemmas.Int.{ints}}
use Rattle.std.proofs.lemmas.List.{length-append, length-map, append-nil, map-append}
use Rattle.std.proofs.lemmas.List.Elements.{All-nil, All-cons, All-head, All-map, All-tail, All-append}
use Rattle.std.specs.{Prelude.{ℤ, IfOk, IfSome, Result, Ok, Err, codes, nat_le}, List.{All, list_any, flat_map}}
use Rattle.dimacs_lines.specs.Limits.{most_nodes}
use Rattle.dimacs_records.specs.{declared.kinds.TextKind.{TextKind}, declared.kinds.TextKind.TheVariants.{Labels}}
use Rattle.dimacs_records.specs.{declared.records.Record.{Record}, Blocks.{Block, is_short_block}, Ranges.{IsRadius}}
use Rattle.dimacs_records.specs.declared.records.Record.TheVariants.{LabelsProblem, LabelsBlock, LabelsNode}
use Rattle.dimacs_records.specs.{Forms.{form, Word, Nodes, Count, Id, Wide, Radius}, Canonical.{CanBeSpelled}}
use Rattle.dimacs_records.specs.{declared.faults.ReadError.{ReadError}, Texts.{AreFaultless, Reads, SpellsValue}}
use Rattle.dimacs_records.specs.{Readings.{LineRecord, numbered, records_of, IsAllowed, IsComplete}, Faults.{Fault}}
use Rattle.dimacs_records.proofs.CanonicalLaws.{canonical_spelled, numbered_all}
use Rattle.dimacs_claims.specs.declared.label_list.Label.{Label}
use Rattle.dimacs_claims.specs.Labels.{BlockValue, LabelsValue, AreLabels, EachAfter, IsBlock, IsLabel, IsFresh, HasPred, IsWithinRadius, IsNewSource}
use Rattle.dimacs_claims.specs.LabelTexts.{label_line, block_lines, label_records, GivesLabels, SpellsLabels, canonical_labels, FitText}
use Rattle.dimacs_claims.proofs.BlockLemmas.{label_id, is_some-label, fresh_has_none, not_past, pred_has_label}
use Rattle.dimacs_claims.proofs.{LineCounts.{one_a_line}, LabelRecords.{source_of, say_labels}}
use Rattle.dimacs_claims.proofs.LabelStates.{Say, opened, is_source, say_problem, say_block, say_label, first_problem, block_allowed, label_allowed, all_there}

-- each record is allowed after the earlier ones and those before it
unfoldable pub AllAllowed : List Record → List Record → Type 0
AllAllowed earlier [] = Unit {0}
AllAllowed earlier (r ∷ rs) = IsAllowed earlier r × AllAllowed (earlier ++ r ∷ []) rs

all_allowed-append : (xs ys earlier : List Record) → AllAllowed earlier xs → AllAllowed (earlier ++ xs) ys → AllAllowed earlier (xs ++ ys)
unfolding AllAllowed
all_allowed-append [] ys earlier a b = subst (λ e. AllAllowed e ys) (append-nil earlier) b
all_allowed-append (x ∷ xs) ys earlier a b = (a.0, all_allowed-append xs ys (earlier ++ x ∷ []) a.1 (subst (λ e. AllAllowed e ys) (sym (append_assoc earlier (x ∷ []) xs)) b))

pub allowed_at : (before all after earlier : List Record) (r : Record) → AllAllowed earlier all → all ≡ before ++ r ∷ after → IsAllowed (earlier ++ before) r
unfolding AllAllowed
allowed_at before [] after earlier r a e = absurd (omega (arith, ap length e, length-append before (r ∷ after)))
allowed_at [] (x ∷ xs) after earlier r a e = let first : x ≡ r = cc in subst (λ t. IsAllowed t r) (sym (append-nil earlier)) (subst (IsAllowed earlier) first a.0)
allowed_at (b ∷ before) (x ∷ xs) after earlier r a e =
    let first : x ≡ b = cc in
    subst (λ t. IsAllowed t r) (append_assoc earlier (b ∷ []) before) (subst (λ y. IsAllowed ((earlier ++ y ∷ []) ++ before) r) first (allowed_at before xs after (earlier ++ x ∷ []) r a.1 (cc)))

-- the item at this place has its property after the items before it
each_here : {X : Type 0} (P : List X → X → Type 0) (done more : List X) (x : X) → EachAfter P (done ++ x ∷ more) → P done x
each_here P done more x each = each done more x refl

each_next : {X : Type 0} (P : List X → X → Type 0) (done more : List X) (x : X) → EachAfter P (done ++ x ∷ more) → EachAfter P ((done ++ x ∷ []) ++ more)
each_next P done more x each = subst (EachAfter P) (sym (append_assoc done (x ∷ []) more)) each

abbrev with_labels : ℕ → Option ℤ → List Label → BlockValue
with_labels source radius ls = record { source = source; radius = radius; labels = ls }

pub not_full : (count n : ℕ) → n < count → nat_le count n ≡ false
not_full count n room = grind (arith, nat_tests, room)

-- the labels of a block are allowed after its line
labels_allowed : (ls done : List Label) (earlier : List Record) (nodes declared : ℕ) (sources : List ℕ) (source count : ℕ) (radius : Option ℤ) → Say earlier nodes declared sources (Some (opened source count radius (map label_id done)))
    → length done + length ls ≡ count → All (IsLabel nodes) ls → All (λ (l : Label). IsWithinRadius radius l.dist) ls → EachAfter (IsFresh source) (done ++ ls) → EachAfter (HasPred source) (done ++ ls) → AllAllowed earlier (map label_line ls)
unfolding AllAllowed
labels_allowed [] done earlier nodes declared sources source count radius say all within near fresh preds = tt
labels_allowed (l ∷ ls) done earlier nodes declared sources source count radius say all within near fresh preds =
    let is = All-head (IsLabel nodes) l ls within in
    let b = with_labels source radius done in
    let new = sym (is_some-label b l.id) ∙ fresh_has_none b l (each_here (IsFresh source) done ls l fresh) in
    let known = sym (is_some-label b l.pred) ∙ pred_has_label b l (each_here (HasPred source) done ls l preds) in
    let room : nat_le count (length (map label_id done)) ≡ false = rw (length-map done label_id) (not_full count (length done) (omega (arith, all))) in
    let next = subst (λ ids. Say (earlier ++ label_line l ∷ []) nodes declared sources (Some (opened source count radius ids))) (sym (map-append label_id done (l ∷ []))) (say_label earlier nodes declared sources source count radius (map label_id done) say l.id l.dist l.pred) in (
      label_allowed earlier nodes declared sources (Some (opened source count radius (map label_id done))) say l.id l.dist l.pred refl is.id.1 is.pred.1 new room known (not_past radius l.dist (All-head (λ (m : Label). IsWithinRadius radius m.dist) l ls near)),
      labels_allowed ls (done ++ l ∷ []) (earlier ++ label_line l ∷ []) nodes declared sources source count radius next (omega (arith, all, length-append done (l ∷ []))) (All-tail (IsLabel nodes) l ls within) (All-tail (λ (m : Label). IsWithinRadius radius m.dist) l ls near)
          (each_next (IsFresh source) done ls l fresh) (each_next (HasPred source) done ls l preds),
    )

-- a source that no block has
other_sources : (done : List BlockValue) (b : BlockValue) → IsNewSource done b → list_any (is_source b.source) (map source_of done) ≡ false
other_sources [] b new = refl
other_sources (d ∷ done) b new =
    rw (ne_eqb d.source b.source (new d (0, omega arith, refl))) (other_sources done b (λ o among. new o (suc among.0, omega (arith, among.1), among.2)))

full_is_not_short : (source count : ℕ) (radius : Option ℤ) (ids : List ℕ) → length ids ≡ count → is_short_block (Some (opened source count radius ids)) ≡ false
full_is_not_short source count radius ids full = le-ltb (length ids) count (omega (arith, full))

-- after other blocks, these blocks are allowed, and the text is complete with them
record BlocksFit (earlier : List Record) (rs : List Record) : Type 0 where
  allowed : AllAllowed earlier rs
  complete : IsComplete Labels (earlier ++ rs)

blocks_fit : (bs done : List BlockValue) (earlier : List Record) (nodes declared : ℕ) (last : Option Block) → Say earlier nodes declared (map source_of done) last → is_short_block last ≡ false
    → length done + length bs ≡ declared → All (IsBlock nodes) bs → EachAfter IsNewSource (done ++ bs) → BlocksFit earlier (flat_map block_lines bs)
unfolding AllAllowed
blocks_fit [] done earlier nodes declared last say full all are sources = record {
  allowed = tt;
  complete = subst (IsComplete Labels) (sym (append-nil earlier)) (all_there earlier nodes declared (map source_of done) last say (omega (arith, all, length-map done source_of)) full);
}
blocks_fit (b ∷ bs) done earlier nodes declared last say full all are sources =
    let is = All-head (IsBlock nodes) b bs are in
    let count = length b.labels in
    let new = other_sources done b (each_here IsNewSource done bs b sources) in
    let opens = block_allowed earlier nodes declared (map source_of done) last say b.source count b.radius is.source_within.1 new (omega (arith, all, length-map done source_of)) full in
    let begun = earlier ++ LabelsBlock b.source count b.radius ∷ [] in
    let said = say_block earlier nodes declared (map source_of done) last say b.source count b.radius in
    let labels = labels_allowed b.labels [] begun nodes declared (map source_of done ++ b.source ∷ []) b.source count b.radius said (omega arith) is.within is.within_radius is.fresh is.preds in
    let behind = say_labels b.labels begun nodes declared (map source_of done ++ b.source ∷ []) b.source count b.radius [] said in
    let here : AllAllowed earlier (block_lines b) = (opens, labels) in
    let next = subst (λ xs. Say (begun ++ map label_line b.labels) nodes declared xs (Some (opened b.source count b.radius (map label_id b.labels)))) (sym (map-append source_of done (b ∷ []))) behind in
    let same : begun ++ map label_line b.labels ≡ earlier ++ block_lines b = append_assoc earlier (LabelsBlock b.source count b.radius ∷ []) (map label_line b.labels) in
    let rest = blocks_fit bs (done ++ b ∷ []) (earlier ++ block_lines b) nodes declared (Some (opened b.source count b.radius (map label_id b.labels))) (subst (λ e. Say e nodes declared (map source_of (done ++ b ∷ [])) (Some (opened b.source count b.radius (map label_id b.labels)))) same next)
    (full_is_not_short b.source count b.radius (map label_id b.labels) (length-map b.labels label_id)) (omega (arith, all, length-append done (b ∷ []))) (All-tail (IsBlock nodes) b bs are) (each_next IsNewSource done bs b sources) in
    record {
      allowed = all_allowed-append (block_lines b) (flat_map block_lines bs) earlier here rest.allowed;
      complete = subst (IsComplete Labels) (append_assoc earlier (block_lines b) (flat_map block_lines bs)) rest.complete;
    }

-- all records of labels are allowed, and complete
pub record Whole (rs : List Record) : Type 0 where
  pub allowed : AllAllowed [] rs
  pub complete : IsComplete Labels rs

pub whole_records : (labels : LabelsValue) → AreLabels labels → Whole (label_records labels)
unfolding AllAllowed
whole_records labels are =
    let declared = length labels.blocks in
    let fit = blocks_fit labels.blocks [] (LabelsProblem labels.nodes declared ∷ []) labels.nodes declared None (say_problem labels.nodes declared) refl (omega arith) are.blocks are.sources in
    record { allowed = (first_problem labels.nodes declared, fit.allowed); complete = fit.complete }

pub labels_faultless : (rs : List LineRecord) (labels : LabelsValue) → GivesLabels rs labels → AreFaultless Labels (records_of rs)
labels_faultless rs labels h =
    let whole = whole_records labels h.1 in
    rw h.0 (record {
      allowed = λ before after r e. allowed_at before (label_records labels) after [] r whole.allowed e;
      complete = whole.complete;
    })

-- the labels before the first line of a block, then the blocks
abbrev Parts : Type 0
Parts = List Label × List BlockValue

with_record : Record → Parts → Parts
with_record (LabelsNode id dist pred) parts = (record { dist = dist; id = id; pred = pred } ∷ parts.0, parts.1)
with_record (LabelsBlock source count radius) parts = ([], record { source = source; radius = radius; labels = parts.0 } ∷ parts.1)
with_record r parts = parts

parts_of : List Record → Parts
parts_of [] = ([], [])
parts_of (r ∷ rs) = with_record r (parts_of rs)

pub labels_of : List Record → LabelsValue
labels_of (LabelsProblem nodes count ∷ rs) = record { nodes = nodes; blocks = (parts_of rs).1 }
labels_of rs = record { nodes = 0; blocks = [] }

parts_of-labels : (ls : List Label) (rs : List Record) → parts_of (map label_line ls ++ rs) ≡ (ls ++ (parts_of rs).0, (parts_of rs).1)
unfolding with_record parts_of
parts_of-labels [] rs = refl
parts_of-labels (l ∷ ls) rs = ap (with_record (label_line l)) (parts_of-labels ls rs)

parts_of-blocks : (bs : List BlockValue) → parts_of (flat_map block_lines bs) ≡ ([], bs)
unfolding with_record parts_of
parts_of-blocks [] = refl
parts_of-blocks (b ∷ bs) =
    let rest = flat_map block_lines bs in
    let labels : parts_of (map label_line b.labels ++ rest) ≡ (b.labels, bs) = parts_of-labels b.labels rest ∙ (ap (λ (p : Parts). (b.labels ++ p.0, p.1)) (parts_of-blocks bs) ∙ ap (λ ls. (ls, bs)) (append-nil b.labels)) in
    ap (with_record (LabelsBlock b.source (length b.labels) b.radius)) labels

pub labels_of-label_records : (labels : LabelsValue) → labels_of (label_records labels) ≡ labels
unfolding labels_of
labels_of-label_records labels = ap (λ (p : Parts). record { nodes = labels.nodes; blocks = p.1 }) (parts_of-blocks labels.blocks)

-- the records of labels give only one value
pub one_labels : (rs : List LineRecord) (labels others : LabelsValue) → GivesLabels rs labels → GivesLabels rs others → labels ≡ others
one_labels rs labels others a b = sym (labels_of-label_records labels) ∙ (ap labels_of (sym a.0 ∙ b.0) ∙ labels_of-label_records others)

problem_fits : (labels : LabelsValue) → AreLabels labels → CanBeSpelled Labels (LabelsProblem labels.nodes (length labels.blocks))
problem_fits labels are = record {
  form = form (codes "p") (Word (codes "dist") ∷ Nodes ∷ Count ∷ []);
  of_kind = (0, omega arith, refl);
  for_kind = refl;
  letter = refl;
  fit = (refl, ((omega (arith, ints), omega (arith, ints, are.nodes_few)), ((omega (arith, ints), omega (arith, ints, are.blocks_few)), tt)));
}

block_fits : (nodes : ℕ) (b : BlockValue) (radius : Option ℤ) → nodes ≤ most_nodes → IsBlock nodes b → IfSome radius IsRadius → CanBeSpelled Labels (LabelsBlock b.source (length b.labels) radius)
block_fits nodes b None few is within = record {
  form = form (codes "t") (Id ∷ Count ∷ []);
  of_kind = (1, omega arith, refl);
  for_kind = refl;
  letter = refl;
  fit = ((omega (arith, ints, is.source_within.0), omega (arith, ints, is.source_within.1, few)), ((omega (arith, ints), omega (arith, ints, is.few)), tt));
}
block_fits nodes b (Some radius) few is within = record {
  form = form (codes "t") (Id ∷ Count ∷ Radius ∷ []);
  of_kind = (2, omega arith, refl);
  for_kind = refl;
  letter = refl;
  fit = ((omega (arith, ints, is.source_within.0), omega (arith, ints, is.source_within.1, few)), ((omega (arith, ints), omega (arith, ints, is.few)), (within, tt)));
}

label_fits : (nodes : ℕ) (l : Label) → nodes ≤ most_nodes → IsLabel nodes l → CanBeSpelled Labels (label_line l)
label_fits nodes l few is = record {
  form = form (codes "d") (Id ∷ Wide ∷ Id ∷ []);
  of_kind = (3, omega arith, refl);
  for_kind = refl;
  letter = refl;
  fit = ((omega (arith, ints, is.id.0), omega (arith, ints, is.id.1, few)), (is.dist, ((omega (arith, ints, is.pred.0), omega (arith, ints, is.pred.1, few)), tt)));
}

blocks_spelled : (nodes : ℕ) (bs : List BlockValue) → nodes ≤ most_nodes → All (IsBlock nodes) bs → All (CanBeSpelled Labels) (flat_map block_lines bs)
blocks_spelled nodes [] few are = All-nil (CanBeSpelled Labels)
blocks_spelled nodes (b ∷ bs) few are =
    let is = All-head (IsBlock nodes) b bs are in
    let labels = All-map (CanBeSpelled Labels) label_line b.labels (λ k d below. label_fits nodes _ few (is.within k d below)) in
    All-append (CanBeSpelled Labels) (block_lines b) (flat_map block_lines bs) (All-cons (CanBeSpelled Labels) (LabelsBlock b.source (length b.labels) b.radius) (map label_line b.labels) (block_fits nodes b b.radius few is is.radius_within) labels)
    (blocks_spelled nodes bs few (All-tail (IsBlock nodes) b bs are))

pub records_fit : (labels : LabelsValue) → AreLabels labels → All (CanBeSpelled Labels) (label_records labels)
records_fit labels are = All-cons (CanBeSpelled Labels) (LabelsProblem labels.nodes (length labels.blocks)) (flat_map block_lines labels.blocks) (problem_fits labels are) (blocks_spelled labels.nodes labels.blocks are.nodes_few are.blocks)

-- the canonical text of labels spells them
pub labels_round_trip : (labels : LabelsValue) → AreLabels labels → FitText labels → SpellsLabels (canonical_labels labels) labels
labels_round_trip labels are few =
    let rs = label_records labels in
    record {
      by_line = map (λ (r : Record). Some r) rs;
      spelled = canonical_spelled Labels rs (records_fit labels are) few;
      given = (numbered_all rs, are);
    }

-- a text has at least as many lines as the labels that it spells, in either kind
pub fit_spelled : (kind : TextKind) (gives : List LineRecord → LabelsValue → Type 0) → ((rs : List LineRecord) (labels : LabelsValue) → gives rs labels → length (records_of rs) ≡ length (label_records labels))
    → (all : List (List ℕ)) (labels : LabelsValue) → SpellsValue kind gives all labels → FitText labels
fit_spelled kind gives as_many all labels spells =
    omega (arith, one_a_line kind all spells.by_line 1 spells.spelled.spell, spells.spelled.few, as_many (numbered 1 spells.by_line) labels spells.given, length-map (numbered 1 spells.by_line) (λ (r : LineRecord). r.spells))

pub fit_read : (kind : TextKind) (gives : List LineRecord → LabelsValue → Type 0) → ((rs : List LineRecord) (labels : LabelsValue) → gives rs labels → length (records_of rs) ≡ length (label_records labels))
    → (all : List (List ℕ)) (noted : Result LabelsValue ReadError) → Reads (SpellsValue kind gives all) (Fault kind all) noted → IfOk noted FitText
fit_read kind gives as_many all (Ok labels) h = fit_spelled kind gives as_many all labels h.0
fit_read kind gives as_many all (Err error) h = tt
