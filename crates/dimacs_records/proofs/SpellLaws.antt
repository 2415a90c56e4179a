-- A line spells at most one record.
use Rattle.std.proofs.Common.{◌≡◌, ℕ, zero, suc, ◌<◌, ◌∷◌, [], List, Bool, true, false, Option, Some, None, length, get_or, refl, ap, sym, ◌∙◌, subst, arith}
use Rattle.std.proofs.lemmas.Bool.{and_from, and_parts, cond_both, not-true, eq-eqb}
use Rattle.std.proofs.lemmas.List.Sums.{AllPass-from_list_all}
use Rattle.std.specs.{Prelude.{◌&&◌, ◌==◌, not, nat_abs, codes, if◌then◌else◌}, List.{Contains, list_all}}
use Rattle.std.specs.Str.{bytes_eq}
use Rattle.dimacs_lines.specs.Number.{number_in}
use Rattle.dimacs_records.specs.{declared.kinds.TextKind.{TextKind}, declared.records.End.{End}}
use Rattle.dimacs_records.specs.declared.kinds.TextKind.TheVariants.{Max, Min, Graph, Queries, Solution, Cut, Potentials, Labels, Distances}
use Rattle.dimacs_records.specs.{declared.records.End.TheVariants.{Source, Sink}, declared.records.Record.{Record}}
use Rattle.dimacs_records.specs.{declared.records.QueryKind.{QueryKind}, Shapes.{types_in, types_or}}
use Rattle.dimacs_records.specs.declared.records.QueryKind.TheVariants.{Sources, Pairs}
use Rattle.dimacs_records.specs.declared.records.Record.TheVariants.{MaxProblem, MaxNode, MaxArc, MinProblem, MinNode, MinArc, GraphProblem, GraphArc, QueriesProblem, SourceQuery, PairQuery, SolutionValue, SolutionEntry, CutProblem, CutNode, PotentialsProblem, PotentialsNode, LabelsProblem, LabelsBlock, LabelsNode, DistancesProblem, DistancesBlock, DistancesNode}
use Rattle.dimacs_records.specs.Forms.{FieldType, Word, Either, Number, Form, forms}
use Rattle.dimacs_records.specs.Spelling.{Part, Text, Amount, kind_of, letter_of, parts_of, SpellsField, SpellFields, SpellsRecord}
use Rattle.dimacs_records.proofs.FieldLemmas.{same_bytes}

-- these forms differ in the letter or the number of fields
abbrev differs : Form → Form → Bool
differs form other = not (bytes_eq form.letter other.letter && (length form.types == length other.types))

abbrev are_apart : List Form → Bool
are_apart [] = true
are_apart (form ∷ more) = list_all (differs form) more && are_apart more

forms_apart : (kind : TextKind) → are_apart (forms kind) ≡ true
forms_apart Max = refl
forms_apart Min = refl
forms_apart Graph = refl
forms_apart Queries = refl
forms_apart Solution = refl
forms_apart Cut = refl
forms_apart Potentials = refl
forms_apart Labels = refl
forms_apart Distances = refl

types_or-first : (types : List FieldType) (others : Option (List FieldType)) → types_or (length types) types others ≡ types
types_or-first types None = refl
types_or-first types (Some others) = rw (eq-eqb (length types) (length types) refl) refl

types_at : (all : List Form) (k : ℕ) (d : Form) → are_apart all ≡ true → k < length all → types_in all (get_or all k d).letter (length (get_or all k d).types) ≡ Some (get_or all k d).types
types_at [] k d apart below = absurd (omega (arith, below))
types_at (form ∷ more) zero d apart below = rw (same_bytes form.letter) (ap Some (types_or-first form.types (types_in more form.letter (length form.types))))
types_at (form ∷ more) (suc k) d apart below =
    let parts = and_parts (list_all (differs form) more) (are_apart more) apart in
    let inside : k < length more = omega (arith, below) in
    let other = get_or more k d in
    let found : types_in more other.letter (length other.types) ≡ Some other.types = types_at more k d parts.1 inside in
    let apart_here : (bytes_eq form.letter other.letter && (length form.types == length other.types)) ≡ false = not-true _ (AllPass-from_list_all (differs form) more parts.0 k d inside) in
    rw found (cond_both (bytes_eq form.letter other.letter) _ _ (λ types. types ≡ Some other.types)
    (λ letter. cond_both (length form.types == length other.types) _ _ (λ types. Some types ≡ Some other.types) (λ count. absurd (cc (and_from _ _ letter count, apart_here))) (λ _. refl))
    (λ _. refl))

-- the letter of a form and the number of its fields determine their types
pub form_types : (kind : TextKind) (form : Form) → Contains (forms kind) form → types_in (forms kind) form.letter (length form.types) ≡ Some form.types
form_types kind form c = subst (λ (f : Form). types_in (forms kind) f.letter (length f.types) ≡ Some f.types) c.2 (types_at (forms kind) c.0 form (forms_apart kind) c.1)

-- the content of a field of this type, if it has one
abbrev said_by : FieldType → List ℕ → Part
said_by (Word w) text = Text w
said_by (Either v w) text = Text text
said_by (Number low high) text = Amount (number_in text)

abbrev all_said_by : List FieldType → List (List ℕ) → List Part
all_said_by (type ∷ types) (text ∷ texts) = said_by type text ∷ all_said_by types texts
all_said_by types texts = []

part_said : (type : FieldType) (text : List ℕ) (part : Part) → SpellsField type text part → part ≡ said_by type text
part_said (Word w) text (Text word) h = ap Text h.1
part_said (Either v w) text (Text word) h = ap Text h.1
part_said (Number low high) text (Amount n) h = ap Amount h.0.1
part_said type text part h = absurd h

parts_said : (types : List FieldType) (texts : List (List ℕ)) (parts : List Part) → SpellFields types texts parts → parts ≡ all_said_by types texts
parts_said [] [] [] h = refl
parts_said (type ∷ types) (text ∷ texts) (part ∷ parts) h = rw (part_said type text part h.0, parts_said types texts parts h.1) refl
parts_said types texts parts h = absurd h

-- there are as many fields as types
pub as_many : (types : List FieldType) (texts : List (List ℕ)) (parts : List Part) → SpellFields types texts parts → (length texts ≡ length types) × (length parts ≡ length types)
as_many [] [] [] h = (refl, refl)
as_many (type ∷ types) (text ∷ texts) (part ∷ parts) h = let rest = as_many types texts parts h.1 in (ap suc rest.0, ap suc rest.1)
as_many types texts parts h = absurd h

abbrev end_of : List ℕ → End
end_of word = if bytes_eq word (codes "s") then Source else Sink

abbrev query_kind_of : List ℕ → QueryKind
query_kind_of word = if bytes_eq word (codes "ss") then Sources else Pairs

-- the record of this kind with this letter and these contents, if there is one
abbrev record_of : TextKind → List ℕ → List Part → Option Record
record_of Max letter (Text word ∷ Amount nodes ∷ Amount arcs ∷ []) = Some (MaxProblem (nat_abs nodes) (nat_abs arcs))
record_of Max letter (Amount id ∷ Text end ∷ []) = Some (MaxNode (nat_abs id) (end_of end))
record_of Max letter (Amount tail ∷ Amount head ∷ Amount cap ∷ []) = Some (MaxArc (nat_abs tail) (nat_abs head) cap)
record_of Min letter (Text word ∷ Amount nodes ∷ Amount arcs ∷ []) = Some (MinProblem (nat_abs nodes) (nat_abs arcs))
record_of Min letter (Amount id ∷ Amount supply ∷ []) = Some (MinNode (nat_abs id) supply)
record_of Min letter (Amount tail ∷ Amount head ∷ Amount low ∷ Amount cap ∷ Amount cost ∷ []) = Some (MinArc (nat_abs tail) (nat_abs head) low cap cost)
record_of Graph letter (Text word ∷ Amount nodes ∷ Amount arcs ∷ []) = Some (GraphProblem (nat_abs nodes) (nat_abs arcs))
record_of Graph letter (Amount tail ∷ Amount head ∷ Amount weight ∷ []) = Some (GraphArc (nat_abs tail) (nat_abs head) weight)
record_of Queries letter (Text word ∷ Text other ∷ Text asks ∷ Amount count ∷ []) = Some (QueriesProblem (query_kind_of asks) (nat_abs count))
record_of Queries letter (Amount id ∷ []) = Some (SourceQuery (nat_abs id))
record_of Queries letter (Amount from ∷ Amount to ∷ []) = Some (PairQuery (nat_abs from) (nat_abs to))
record_of Solution letter (Amount value ∷ []) = Some (SolutionValue value)
record_of Solution letter (Amount tail ∷ Amount head ∷ Amount flow ∷ []) = Some (SolutionEntry (nat_abs tail) (nat_abs head) flow)
record_of Cut letter (Text word ∷ Amount nodes ∷ Amount count ∷ []) = Some (CutProblem (nat_abs nodes) (nat_abs count))
record_of Cut letter (Amount id ∷ []) = Some (CutNode (nat_abs id))
record_of Potentials letter (Text word ∷ Amount nodes ∷ Amount count ∷ []) = Some (PotentialsProblem (nat_abs nodes) (nat_abs count))
record_of Potentials letter (Amount id ∷ Amount value ∷ []) = Some (PotentialsNode (nat_abs id) value)
record_of Labels letter (Text word ∷ Amount nodes ∷ Amount blocks ∷ []) = Some (LabelsProblem (nat_abs nodes) (nat_abs blocks))
record_of Labels letter (Amount source ∷ Amount count ∷ []) = Some (LabelsBlock (nat_abs source) (nat_abs count) None)
record_of Labels letter (Amount id ∷ Amount dist ∷ Amount pred ∷ []) = if bytes_eq letter (codes "t") then Some (LabelsBlock (nat_abs id) (nat_abs dist) (Some pred)) else Some (LabelsNode (nat_abs id) dist (nat_abs pred))
record_of Distances letter (Text word ∷ Amount nodes ∷ Amount blocks ∷ []) = Some (DistancesProblem (nat_abs nodes) (nat_abs blocks))
record_of Distances letter (Amount id ∷ Amount n ∷ []) = if bytes_eq letter (codes "t") then Some (DistancesBlock (nat_abs id) (nat_abs n)) else Some (DistancesNode (nat_abs id) n)
record_of kind letter parts = None

record_of-parts_of : (r : Record) → record_of (kind_of r) (letter_of r) (parts_of r) ≡ Some r
record_of-parts_of (MaxProblem nodes arcs) = refl
record_of-parts_of (MaxNode id Source) = refl
record_of-parts_of (MaxNode id Sink) = refl
record_of-parts_of (MaxArc tail head cap) = refl
record_of-parts_of (MinProblem nodes arcs) = refl
record_of-parts_of (MinNode id supply) = refl
record_of-parts_of (MinArc tail head low cap cost) = refl
record_of-parts_of (GraphProblem nodes arcs) = refl
record_of-parts_of (GraphArc tail head weight) = refl
record_of-parts_of (QueriesProblem Sources count) = refl
record_of-parts_of (QueriesProblem Pairs count) = refl
record_of-parts_of (SourceQuery id) = refl
record_of-parts_of (PairQuery from to) = refl
record_of-parts_of (SolutionValue value) = refl
record_of-parts_of (SolutionEntry tail head flow) = refl
record_of-parts_of (CutProblem nodes count) = refl
record_of-parts_of (CutNode id) = refl
record_of-parts_of (PotentialsProblem nodes count) = refl
record_of-parts_of (PotentialsNode id value) = refl
record_of-parts_of (LabelsProblem nodes blocks) = refl
record_of-parts_of (LabelsBlock source count None) = refl
record_of-parts_of (LabelsBlock source count (Some radius)) = refl
record_of-parts_of (LabelsNode id dist pred) = refl
record_of-parts_of (DistancesProblem nodes blocks) = refl
record_of-parts_of (DistancesBlock source count) = refl
record_of-parts_of (DistancesNode id dist) = refl

-- the record that fields of these types spell, if any
abbrev typed_record : TextKind → List ℕ → Option (List FieldType) → List (List ℕ) → Option Record
typed_record kind letter None after = None
typed_record kind letter (Some types) after = record_of kind letter (all_said_by types after)

abbrev spelled_record : TextKind → List (List ℕ) → Option Record
spelled_record kind [] = None
spelled_record kind (letter ∷ after) = typed_record kind letter (types_in (forms kind) letter (length after)) after

-- the fields of a spelled line have the types of its form
pub spelled_types : (kind : TextKind) (texts : List (List ℕ)) (r : Record) (h : SpellsRecord kind texts r) → types_in (forms kind) h.form.letter (length h.after) ≡ Some h.form.types
spelled_types kind texts r h = rw ((as_many h.form.types h.after (parts_of r) h.spells).0) (form_types kind h.form h.of_kind)

spelled_record-spelled : (kind : TextKind) (texts : List (List ℕ)) (r : Record) → SpellsRecord kind texts r → spelled_record kind texts ≡ Some r
spelled_record-spelled kind texts r h = rw (h.begins, spelled_types kind texts r h, ← parts_said h.form.types h.after (parts_of r) h.spells, ← h.for_kind, ← h.letter) (record_of-parts_of r)

pub spells_one : (kind : TextKind) (texts : List (List ℕ)) (r s : Record) → SpellsRecord kind texts r → SpellsRecord kind texts s → r ≡ s
spells_one kind texts r s a b = let same = sym (spelled_record-spelled kind texts r a) ∙ spelled_record-spelled kind texts s b in cc
