-- The records of distances have no fault, give only one value, and can be spelled: all as those of labels.
use Rattle.std.proofs.Common.{◌≡◌, ℕ, ◌==◌, suc, ◌∷◌, ◌++◌, [], List, Bool, true, false, Option, Some, None, length, map, refl, ap, ap₂, sym, ◌∙◌, subst, arith}
use Rattle.std.proofs.{lemmas.Bool.{cond_both}, lemmas.List.{length-map, map-append}}
use Rattle.std.proofs.lemmas.List.Elements.{All-head, All-map, All-tail, All-weaker}
use Rattle.std.specs.{Prelude.{IsTrue, ◌||◌, codes, if◌then◌else◌, is_none}, List.{All, flat_map, fold, list_any}}
use Rattle.dimacs_records.specs.{declared.kinds.TextKind.TheVariants.{Labels, Distances}, Canonical.{CanBeSpelled}}
use Rattle.dimacs_records.specs.{declared.order.Declared.{Declared}, declared.reasons.Reason.{Reason}}
use Rattle.dimacs_records.specs.declared.reasons.Reason.TheVariants.{NodeRange, NodeTwice, ProblemMissing, ProblemTwice, RecordOrder, TooFew, TooMany}
use Rattle.dimacs_records.specs.{declared.records.Record.{Record}, Conditions.{condition, end_condition}}
use Rattle.dimacs_records.specs.declared.records.Record.TheVariants.{LabelsProblem, LabelsBlock, LabelsNode, DistancesProblem, DistancesBlock, DistancesNode}
use Rattle.dimacs_records.specs.Blocks.{Block, block_after, block_in, is_full_block, is_labelled, is_short_block}
use Rattle.dimacs_records.specs.Earlier.{counted_in, is_above, is_counted, names, or_else, problem_in, problem_of}
use Rattle.dimacs_records.specs.{Forms.{Count, Id, Nodes, Radius, Wide, Word, form}, Spelling.{kind_of}}
use Rattle.dimacs_records.specs.{Readings.{IsAllowed, LineRecord, records_of}, Texts.{AreFaultless}}
use Rattle.dimacs_records.proofs.{CanonicalLaws.{canonical_spelled, numbered_all}, FitLaws.{fits_spelled}}
use Rattle.dimacs_claims.specs.{declared.label_list.Label.{Label}, Labels.{AreLabels, BlockValue, LabelsValue}}
use Rattle.dimacs_claims.specs.DistanceTexts.{AreBare, GivesDistances, IsBare, SpellsDistances, bare, canonical_distances, distance_records}
use Rattle.dimacs_claims.specs.LabelTexts.{FitText, block_lines, label_line, label_records}
use Rattle.dimacs_claims.proofs.LabelLaws.{AllAllowed, allowed_at, labels_of, labels_of-label_records, records_fit, whole_records}

-- ---- lines of distances contribute what lines of labels do, except for the radius
bare_problem : (r : Record) → problem_of (bare r) ≡ problem_of r
bare_problem (LabelsProblem nodes blocks) = refl
bare_problem (LabelsBlock source count radius) = refl
bare_problem (LabelsNode id dist pred) = refl
bare_problem r = refl

pub bare_problem_in : (rs : List Record) → problem_in (map bare rs) ≡ problem_in rs
bare_problem_in [] = refl
bare_problem_in (r ∷ rs) = ap₂ or_else (bare_problem r) (bare_problem_in rs)

bare_counted : (r : Record) → is_counted (bare r) ≡ is_counted r
bare_counted (LabelsProblem nodes blocks) = refl
bare_counted (LabelsBlock source count radius) = refl
bare_counted (LabelsNode id dist pred) = refl
bare_counted r = refl

pub bare_counted_in : (rs : List Record) → counted_in (map bare rs) ≡ counted_in rs
bare_counted_in [] = refl
bare_counted_in (r ∷ rs) =
    let same = bare_counted_in rs in
    rw (bare_counted r) (cond_both (is_counted r) _ _ (λ records. length records ≡ counted_in (r ∷ rs)) (λ e. rw e (ap suc same)) (λ e. rw e same))

bare_names : (id : ℕ) (r : Record) → names id (bare r) ≡ names id r
bare_names id (LabelsProblem nodes blocks) = refl
bare_names id (LabelsBlock source count radius) = refl
bare_names id (LabelsNode id' dist pred) = refl
bare_names id r = refl

pub bare_named : (id : ℕ) (rs : List Record) → list_any (names id) (map bare rs) ≡ list_any (names id) rs
bare_named id [] = refl
bare_named id (r ∷ rs) = ap₂ (λ a b. a || b) (bare_names id r) (bare_named id rs)

-- a block without its radius
abbrev whole_block : Option Block → Option Block
whole_block None = None
whole_block (Some b) = Some (record b { radius = None })

bare_after : (b : Option Block) (r : Record) → block_after (whole_block b) (bare r) ≡ whole_block (block_after b r)
bare_after b (LabelsProblem nodes blocks) = refl
bare_after b (LabelsBlock source count radius) = refl
bare_after None (LabelsNode id dist pred) = refl
bare_after (Some b) (LabelsNode id dist pred) = refl
bare_after b (DistancesBlock source count) = refl
bare_after None (DistancesNode id dist) = refl
bare_after (Some b) (DistancesNode id dist) = refl
bare_after b r = refl

bare_block_from : (rs : List Record) (b : Option Block) → fold block_after (whole_block b) (map bare rs) ≡ whole_block (fold block_after b rs)
bare_block_from [] b = refl
bare_block_from (r ∷ rs) b = ap (λ c. fold block_after c (map bare rs)) (bare_after b r) ∙ bare_block_from rs (block_after b r)

bare_block_in : (rs : List Record) → block_in (map bare rs) ≡ whole_block (block_in rs)
bare_block_in rs = bare_block_from rs None

-- what doesn't depend on the radius is the same
of_bare : {A : Type 0} (f : Option Block → A) → f (whole_block None) ≡ f None → ((b : Block) → f (whole_block (Some b)) ≡ f (Some b)) → (rs : List Record) → f (block_in (map bare rs)) ≡ f (block_in rs)
of_bare f none some rs = ap f (bare_block_in rs) ∙ same (block_in rs)
  where
    same : (b : Option Block) → f (whole_block b) ≡ f b
    same None = none
    same (Some b) = some b

pub bare_misplaced : (rs : List Record) → is_none (block_in (map bare rs)) ≡ is_none (block_in rs)
bare_misplaced = of_bare is_none refl (λ b. refl)

pub bare_labelled : (id : ℕ) (rs : List Record) → is_labelled (block_in (map bare rs)) id ≡ is_labelled (block_in rs) id
bare_labelled id = of_bare (λ b. is_labelled b id) refl (λ b. refl)

pub bare_full : (rs : List Record) → is_full_block (block_in (map bare rs)) ≡ is_full_block (block_in rs)
bare_full = of_bare is_full_block refl (λ b. refl)

pub bare_short : (rs : List Record) → is_short_block (block_in (map bare rs)) ≡ is_short_block (block_in rs)
bare_short = of_bare is_short_block refl (λ b. refl)

-- ---- if a line of distances is refused, so is the line of labels
above_second : (p : Option Declared) (id pred f : ℕ) (second : Bool) → (f == 2) ≡ second → IsTrue (if second then is_above p id else false) → IsTrue (if second then is_above p id else (if f == 4 then is_above p pred else false))
above_second p id pred f true e h = h
above_second p id pred f false e h = absurd (cc)

bare_condition : (e : List Record) (r : Record) (f : ℕ) (reason : Reason) → kind_of r ≡ Labels → IsTrue (condition (map bare e) (bare r) f reason) → IsTrue (condition e r f reason)
bare_condition e (LabelsProblem nodes blocks) f ProblemTwice is h = rw (bare_problem_in e) at h
bare_condition e (LabelsProblem nodes blocks) f reason is h = h
bare_condition e (LabelsBlock source count radius) f ProblemMissing is h = rw (bare_problem_in e) at h
bare_condition e (LabelsBlock source count radius) f NodeRange is h = rw (bare_problem_in e) at h
bare_condition e (LabelsBlock source count radius) f NodeTwice is h = rw (bare_named source e) at h
bare_condition e (LabelsBlock source count radius) f TooMany is h = rw (bare_problem_in e, bare_counted_in e) at h
bare_condition e (LabelsBlock source count radius) f TooFew is h = rw (bare_short e) at h
bare_condition e (LabelsBlock source count radius) f reason is h = h
bare_condition e (LabelsNode id dist pred) f ProblemMissing is h = rw (bare_problem_in e) at h
bare_condition e (LabelsNode id dist pred) f NodeRange is h = above_second (problem_in e) id pred f (f == 2) refl (rw (bare_problem_in e) at h)
bare_condition e (LabelsNode id dist pred) f RecordOrder is h = rw (bare_misplaced e) at h
bare_condition e (LabelsNode id dist pred) f NodeTwice is h = rw (bare_labelled id e) at h
bare_condition e (LabelsNode id dist pred) f TooMany is h = rw (bare_full e) at h
bare_condition e (LabelsNode id dist pred) f reason is h = absurd (cc)
bare_condition e r f reason is h = absurd (cc)

bare_allowed : (e : List Record) (r : Record) → kind_of r ≡ Labels → IsAllowed e r → IsAllowed (map bare e) (bare r)
bare_allowed e r is allowed p h = allowed p (h.0, bare_condition e r p.field p.reason is h.1)

abbrev IsLine : Record → Type 0
IsLine r = kind_of r ≡ Labels

all_bare_allowed : (rs e : List Record) → All IsLine rs → AllAllowed e rs → AllAllowed (map bare e) (map bare rs)
unfolding AllAllowed
all_bare_allowed [] e are all = tt
all_bare_allowed (r ∷ rs) e are all = (
  bare_allowed e r (All-head IsLine r rs are) all.0,
  subst (λ earlier. AllAllowed earlier (map bare rs)) (map-append bare e (r ∷ [])) (all_bare_allowed rs (e ++ r ∷ []) (All-tail IsLine r rs are) all.1),
)

bare_at_end : (rs : List Record) (reason : Reason) → IsTrue (end_condition Distances (map bare rs) reason) → IsTrue (end_condition Labels rs reason)
bare_at_end rs ProblemMissing h = rw (bare_problem_in rs) at h
bare_at_end rs TooFew h = rw (bare_short rs, bare_problem_in rs, bare_counted_in rs) at h
bare_at_end rs reason h = h

pub distances_faultless : (rs : List LineRecord) (d : LabelsValue) → GivesDistances rs d → AreFaultless Distances (records_of rs)
distances_faultless rs d h =
    let whole = whole_records d h.1 in
    let lines = All-weaker (CanBeSpelled Labels) IsLine (λ r can. can.for_kind) (label_records d) (records_fit d h.1) in
    let all = all_bare_allowed (label_records d) [] lines whole.allowed in
    rw h.0 (record {
      allowed = λ before after r e. allowed_at before (distance_records d) after [] r all e;
      complete = λ reason t. whole.complete reason (bare_at_end (label_records d) reason t);
    })

-- ---- lines of distances determine the lines of labels, whose predecessors are the sources
with_preds : ℕ → List Record → List Record
with_preds source [] = []
with_preds source (DistancesProblem nodes blocks ∷ rs) = LabelsProblem nodes blocks ∷ with_preds source rs
with_preds source (DistancesBlock other count ∷ rs) = LabelsBlock other count None ∷ with_preds other rs
with_preds source (DistancesNode id dist ∷ rs) = LabelsNode id dist source ∷ with_preds source rs
with_preds source (r ∷ rs) = r ∷ with_preds source rs

labels_with_preds : (ls : List Label) (source : ℕ) (rs : List Record) → All (λ (l : Label). l.pred ≡ source) ls → with_preds source (map bare (map label_line ls ++ rs)) ≡ map label_line ls ++ with_preds source (map bare rs)
unfolding with_preds
labels_with_preds [] source rs are = refl
labels_with_preds (l ∷ ls) source rs are =
    let IsOf : Label → Type 0 = λ m. m.pred ≡ source in
    ap₂ (λ pred more. LabelsNode l.id l.dist pred ∷ more) (sym (All-head IsOf l ls are)) (labels_with_preds ls source rs (All-tail IsOf l ls are))

blocks_with_preds : (bs : List BlockValue) (source : ℕ) → All IsBare bs → with_preds source (map bare (flat_map block_lines bs)) ≡ flat_map block_lines bs
unfolding with_preds
blocks_with_preds [] source are = refl
blocks_with_preds (b ∷ bs) source are =
    let is = All-head IsBare b bs are in
    ap₂ (λ radius more. LabelsBlock b.source (length b.labels) radius ∷ more) (sym is.whole)
    (labels_with_preds b.labels b.source (flat_map block_lines bs) is.preds ∙ ap (λ more. map label_line b.labels ++ more) (blocks_with_preds bs b.source (All-tail IsBare b bs are)))

records_with_preds : (d : LabelsValue) → AreBare d → with_preds 0 (distance_records d) ≡ label_records d
unfolding with_preds
records_with_preds d are = ap (λ more. LabelsProblem d.nodes (length d.blocks) ∷ more) (blocks_with_preds d.blocks 0 are)

value_with_preds : (rs : List Record) (d : LabelsValue) → rs ≡ distance_records d → AreBare d → d ≡ labels_of (with_preds 0 rs)
value_with_preds rs d is are = sym (ap labels_of (ap (with_preds 0) is ∙ records_with_preds d are) ∙ labels_of-label_records d)

-- the records of distances give only one value
pub one_distances : (rs : List LineRecord) (d others : LabelsValue) → GivesDistances rs d → GivesDistances rs others → d ≡ others
one_distances rs d others a b = value_with_preds (records_of rs) d a.0 a.2 ∙ sym (value_with_preds (records_of rs) others b.0 b.2)

-- ---- lines of distances can be spelled
bare_spelled : (r : Record) → CanBeSpelled Labels r → CanBeSpelled Distances (bare r)
bare_spelled (LabelsProblem nodes blocks) can =
    let fit = fits_spelled Labels (LabelsProblem nodes blocks) (Word (codes "dist") ∷ Nodes ∷ Count ∷ []) can refl in
    record { form = form (codes "p") (Word (codes "distances") ∷ Nodes ∷ Count ∷ []); of_kind = (0, omega arith, refl); for_kind = refl; letter = refl; fit = (refl, fit.1) }
bare_spelled (LabelsBlock source count None) can =
    let fit = fits_spelled Labels (LabelsBlock source count None) (Id ∷ Count ∷ []) can refl in
    record { form = form (codes "t") (Id ∷ Count ∷ []); of_kind = (1, omega arith, refl); for_kind = refl; letter = refl; fit = fit }
bare_spelled (LabelsBlock source count (Some radius)) can =
    let fit = fits_spelled Labels (LabelsBlock source count (Some radius)) (Id ∷ Count ∷ Radius ∷ []) can refl in
    record { form = form (codes "t") (Id ∷ Count ∷ []); of_kind = (1, omega arith, refl); for_kind = refl; letter = refl; fit = (fit.0, (fit.1.0, tt)) }
bare_spelled (LabelsNode id dist pred) can =
    let fit = fits_spelled Labels (LabelsNode id dist pred) (Id ∷ Wide ∷ Id ∷ []) can refl in
    record { form = form (codes "d") (Id ∷ Wide ∷ []); of_kind = (2, omega arith, refl); for_kind = refl; letter = refl; fit = (fit.0, (fit.1.0, tt)) }
bare_spelled r can = let is = can.for_kind in absurd (cc)

-- the canonical text of distances spells them
pub distances_round_trip : (d : LabelsValue) → AreLabels d → AreBare d → FitText d → SpellsDistances (canonical_distances d) d
distances_round_trip d are bare_ones few =
    let rs = distance_records d in
    let fit : All (CanBeSpelled Distances) rs = All-map (CanBeSpelled Distances) bare (label_records d) (All-weaker (CanBeSpelled Labels) (λ (r : Record). CanBeSpelled Distances (bare r)) bare_spelled (label_records d) (records_fit d are)) in
    record {
      by_line = map (λ (r : Record). Some r) rs;
      spelled = canonical_spelled Distances rs fit (rw (length-map (label_records d) bare) few);
      given = (numbered_all rs, are, bare_ones);
    }
