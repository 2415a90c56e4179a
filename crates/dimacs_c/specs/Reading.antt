-- What calls that read a text into arrays return and hand out.
use Rattle.std.specs.Prelude.{ℕ, ℤ, ◌≡◌, List, [], pos, Result, Ok, Err}
use Rattle.dimacs_records.specs.declared.faults.ReadError.{ReadError}
use Rattle.dimacs_records.specs.declared.faults.ReadError.TheVariants.{Refused, Device, Memory}
use Rattle.dimacs_fill.specs.{declared.error.FillError.{FillError}, declared.graph.GraphSizes.{GraphSizes}}
use Rattle.dimacs_fill.specs.{declared.labels.LabelSizes.{LabelSizes}, declared.max.MaxSizes.{MaxSizes}}
use Rattle.dimacs_fill.specs.{declared.min.MinSizes.{MinSizes}, declared.queries.QuerySizes.{QuerySizes}}
use Rattle.dimacs_judging.specs.declared.verdict.Where.TheVariants.{Node}
use Rattle.dimacs_runs.specs.{Refusals.{refusal_line}, Verdicts.{failure_line}}
use Rattle.dimacs_c.specs.{Calls.{Handed, HandsOut}, Kinds.{number_of_queries}}
use Rattle.dimacs_fill.specs.declared.error.FillError.TheVariants as fills

-- the status after reading a text
abbrev pub read_status : {W : Type 0} → Result W ReadError → ℕ
read_status (Ok sizes) = 0
read_status (Err (Refused place reason)) = 1
read_status (Err Device) = 4
read_status (Err Memory) = 4

-- the line of a text's fault; `text` is the word for the text
abbrev pub fault_line : {W : Type 0} → List ℕ → Result W ReadError → List ℕ
fault_line text (Ok sizes) = []
fault_line text (Err (Refused place reason)) = refusal_line text place.line place.field reason
fault_line text (Err Device) = []
fault_line text (Err Memory) = []

-- for a possible result of reading, with what it leaves in the arrays, the numbers are set, and the line is handed out,
-- with its status; out of memory is one, without a line
abbrev pub AnswersRead : {W : Type 0} → (Result W ReadError → Type 0) → (Result W ReadError → Type 0) → List ℕ → ℕ → Handed ℕ → Type 0
AnswersRead {W} reads sets text exit_status h =
    (r : Result W ReadError) × reads r × (exit_status ≡ read_status r) × HandsOut (fault_line text r) h × sets r

-- the numbers that a call sets: those of the text, or 0
abbrev pub SetsMax : ℕ → ℕ → ℕ → ℕ → Result MaxSizes ReadError → Type 0
SetsMax nodes source sink arcs (Ok sizes) = (nodes ≡ sizes.nodes) × (source ≡ sizes.source) × (sink ≡ sizes.sink) × (arcs ≡ sizes.arcs)
SetsMax nodes source sink arcs (Err error) = (nodes ≡ 0) × (source ≡ 0) × (sink ≡ 0) × (arcs ≡ 0)

abbrev pub SetsMin : ℕ → ℕ → ℕ → Result MinSizes ReadError → Type 0
SetsMin nodes arcs supplies (Ok sizes) = (nodes ≡ sizes.nodes) × (arcs ≡ sizes.arcs) × (supplies ≡ sizes.nodes)
SetsMin nodes arcs supplies (Err error) = (nodes ≡ 0) × (arcs ≡ 0) × (supplies ≡ 0)

abbrev pub SetsGraph : ℕ → ℕ → Result GraphSizes ReadError → Type 0
SetsGraph nodes arcs (Ok sizes) = (nodes ≡ sizes.nodes) × (arcs ≡ sizes.arcs)
SetsGraph nodes arcs (Err error) = (nodes ≡ 0) × (arcs ≡ 0)

-- the length of an array that a call hands out
abbrev pub SetsLength : {E : Type 0} → ℕ → Result ℕ E → Type 0
SetsLength needed (Ok length) = needed ≡ length
SetsLength needed (Err error) = needed ≡ 0

-- what queries ask, and how many there are
abbrev pub SetsQueries : ℕ → ℕ → Result QuerySizes ReadError → Type 0
SetsQueries pairs count (Ok sizes) = (pairs ≡ number_of_queries sizes.kind) × (count ≡ sizes.count)
SetsQueries pairs count (Err error) = (pairs ≡ 0) × (count ≡ 0)

-- the radius of a block, and the lengths of its arrays
abbrev pub SetsLabels : ℤ → ℕ → ℕ → Result LabelSizes FillError → Type 0
SetsLabels radius distances preds (Ok sizes) = (radius ≡ sizes.radius) × (distances ≡ sizes.nodes) × (preds ≡ sizes.nodes)
SetsLabels radius distances preds (Err error) = (radius ≡ pos 0) × (distances ≡ 0) × (preds ≡ 0)

-- the status and the line after reading a text whose numbers items may not hold: a node can be refused, too
abbrev pub fill_status : {W : Type 0} → Result W FillError → ℕ
fill_status (Ok sizes) = 0
fill_status {W} (Err (fills.Unread error)) = read_status {W = W} (Err error)
fill_status (Err (fills.Node id reason)) = 1

abbrev pub fill_line : {W : Type 0} → List ℕ → Result W FillError → List ℕ
fill_line text (Ok sizes) = []
fill_line {W} text (Err (fills.Unread error)) = fault_line {W = W} text (Err error)
fill_line text (Err (fills.Node id reason)) = failure_line (Node id) reason

-- as AnswersRead
abbrev pub AnswersFilled : {W : Type 0} → (Result W FillError → Type 0) → (Result W FillError → Type 0) → List ℕ → ℕ → Handed ℕ → Type 0
AnswersFilled {W} reads sets text exit_status h =
    (r : Result W FillError) × reads r × (exit_status ≡ fill_status r) × HandsOut (fill_line text r) h × sets r
