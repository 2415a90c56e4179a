-- What a run writes, and the status with which it ends.
use Rattle.std.specs.Prelude.{ℕ, ◌≡◌, ◌⊎◌, List, Option, Result, Ok, Err, codes}
use Rattle.dimacs_lines.specs.{Devices.{after_piece}, Lines.{lines}, Puts.{AcceptsFront}}
use Rattle.dimacs_records.specs.{declared.kinds.TextKind.{TextKind}, declared.reasons.Reason.{Reason}, Faults.{Fault}}
use Rattle.dimacs_records.specs.declared.kinds.TextKind.TheVariants.{Max, Min, Graph, Queries, Solution, Cut, Potentials, Labels, Distances}
use Rattle.dimacs_records.specs.{Readings.{LineRecord}, Texts.{SpellsValue}}
use Rattle.dimacs_claims.specs.Cuts.{GivesCut, canonical_cut, shown_cut}
use Rattle.dimacs_claims.specs.DistanceTexts.{GivesDistances, canonical_distances, shown_distances}
use Rattle.dimacs_claims.specs.LabelTexts.{GivesLabels, canonical_labels, shown_labels}
use Rattle.dimacs_claims.specs.Potentials.{GivesPotentials, canonical_potentials, shown_potentials}
use Rattle.dimacs_claims.specs.SolutionTexts.{GivesSolution, canonical_solution, shown_solution}
use Rattle.dimacs_instance.specs.Graph.{GivesGraph, canonical_graph, shown_graph}
use Rattle.dimacs_instance.specs.MaxTexts.{GivesMax, canonical_max, shown_max}
use Rattle.dimacs_instance.specs.MinTexts.{GivesMin, canonical_min, shown_min}
use Rattle.dimacs_instance.specs.QueryTexts.{GivesQueries, canonical_queries, shown_queries}
use Rattle.dimacs_jobs.specs.{declared.status.Status.{Status}, declared.status.Status.TheVariants.{Done, Refused}}
use Rattle.dimacs_runs.specs.{declared.text.TextForm.{TextForm}, Refusals.{refusal_line}}
use Rattle.dimacs_runs.specs.declared.text.TextForm.TheVariants.{Canonical, Summary}

-- the word for a kind of text in the lines of refusals
abbrev pub text_word : TextKind → List ℕ
text_word Queries = codes "query"
text_word Solution = codes "solution"
text_word Cut = codes "certificate"
text_word Potentials = codes "certificate"
text_word Labels = codes "certificate"
text_word Distances = codes "distances"
text_word instance = codes "instance"

-- the bytes have a fault, and the report is its line; or they spell a value, and the report follows from that
abbrev pub FaultOr : {V : Type 0} → TextKind → (List LineRecord → V → Type 0) → List ℕ → (V → Status → List ℕ → Type 0) → Status → List ℕ → Type 0
FaultOr kind gives bytes next status out =
    ((l : ℕ) × (f : ℕ) × (r : Reason) × Fault kind (lines bytes) l f r × (status ≡ Refused) × (out ≡ refusal_line (text_word kind) l f r))
    ⊎ ((v : _) × SpellsValue kind gives (lines bytes) v × next v status out)

-- the value is printed like this
abbrev pub IsPrinted : {V : Type 0} → (V → List ℕ) → V → Status → List ℕ → Type 0
IsPrinted printed v status out = (status ≡ Done) × (out ≡ printed v)

-- how a value is printed: as its canonical text, or as the line that describes it
abbrev pub in_form : {V : Type 0} → TextForm → (V → List ℕ) → (V → List ℕ) → V → List ℕ
in_form Canonical canonical shown = canonical
in_form Summary canonical shown = shown

-- what is printed for a text in this form
abbrev pub Prints : TextForm → TextKind → List ℕ → Status → List ℕ → Type 0
Prints form Max bytes = FaultOr Max GivesMax bytes (IsPrinted (in_form form canonical_max shown_max))
Prints form Min bytes = FaultOr Min GivesMin bytes (IsPrinted (in_form form canonical_min shown_min))
Prints form Graph bytes = FaultOr Graph GivesGraph bytes (IsPrinted (in_form form canonical_graph shown_graph))
Prints form Queries bytes = FaultOr Queries GivesQueries bytes (IsPrinted (in_form form canonical_queries shown_queries))
Prints form Solution bytes = FaultOr Solution GivesSolution bytes (IsPrinted (in_form form canonical_solution shown_solution))
Prints form Cut bytes = FaultOr Cut GivesCut bytes (IsPrinted (in_form form canonical_cut shown_cut))
Prints form Potentials bytes = FaultOr Potentials GivesPotentials bytes (IsPrinted (in_form form canonical_potentials shown_potentials))
Prints form Labels bytes = FaultOr Labels GivesLabels bytes (IsPrinted (in_form form canonical_labels shown_labels))
Prints form Distances bytes = FaultOr Distances GivesDistances bytes (IsPrinted (in_form form canonical_distances shown_distances))

-- this is the only possible outcome
abbrev pub ReportsAlone : (Status → List ℕ → Type 0) → Status → List ℕ → Type 0
ReportsAlone writes status out = writes status out × ((s : Status) (other : List ℕ) → writes s other → (s ≡ status) × (other ≡ out))

-- the text of a possible outcome was written; after an error, nothing or a beginning of it
abbrev pub Reports : {E : Type 0} → (Status → List ℕ → Type 0) → Result Status E → Option (List ℕ) → Option (List ℕ) → Type 0
Reports writes (Ok status) old new = (out : List ℕ) × ReportsAlone writes status out × (new ≡ after_piece old out)
Reports writes (Err error) old new = (new ≡ old) ⊎ ((status : Status) × (out : List ℕ) × ReportsAlone writes status out × AcceptsFront old out new)
