-- Inside: texts that are read one after another.
use Rattle.std.specs.Prelude.{ℕ, ◌≡◌, ◌⊎◌, List, Option, Some, Result, Ok, Err}
use Rattle.dimacs_lines.specs.Lines.{lines}
use Rattle.dimacs_records.specs.{declared.faults.ReadError.{ReadError}, declared.kinds.TextKind.{TextKind}}
use Rattle.dimacs_records.specs.{declared.reasons.Reason.{Reason}, Faults.{Fault}, Readings.{LineRecord}}
use Rattle.dimacs_records.specs.Texts.{Reads, SpellsValue}
use Rattle.dimacs_runs.specs.{declared.early_end.EarlyEnd.{EarlyEnd}, declared.early_end.EarlyEnd.TheVariants.{Error}}
use Rattle.dimacs_runs.specs.{Judgings.{OneMore}, Refusals.{refusal_line}, Runs.{text_word}}
use Rattle.dimacs_runs.specs.inside.Outcomes.{unread_end}
use Rattle.dimacs_jobs.specs.{declared.status.RunError.TheVariants.{Device}, declared.status.Status.{Status}}
use Rattle.dimacs_jobs.specs.declared.status.Status.TheVariants.{Refused}

-- a text: its word in refusals, the value that it spells, and its fault
pub record TextSpells (V : Type 0) : Type 1 where
  pub name : List ℕ
  pub spells : V → Type 0
  pub fault : ℕ → ℕ → Reason → Type 0

-- these bytes as a text of this kind; `gives` relates its records to its value
abbrev pub text_of : {V : Type 0} → TextKind → (List LineRecord → V → Type 0) → List ℕ → TextSpells V
text_of kind gives bytes = record { name = text_word kind; spells = SpellsValue kind gives (lines bytes); fault = Fault kind (lines bytes) }

-- the text has a fault, and the report is its line; or it spells a value, and the report follows from that
abbrev pub FaultIn : {V : Type 0} → TextSpells V → (V → Status → List ℕ → Type 0) → Status → List ℕ → Type 0
FaultIn text next status out =
    ((l : ℕ) × (f : ℕ) × (r : Reason) × text.fault l f r × (status ≡ Refused) × (out ≡ refusal_line text.name l f r))
    ⊎ ((v : _) × text.spells v × next v status out)

-- these bytes as a text of this kind, which spells its values like this
abbrev pub text_spells : {V : Type 0} → TextKind → (List ℕ → V → Type 0) → List ℕ → TextSpells V
text_spells kind spells bytes = record { name = text_word kind; spells = spells bytes; fault = Fault kind (lines bytes) }

abbrev pub ReadsIn : {V : Type 0} → TextSpells V → Result V ReadError → Type 0
ReadsIn text answer = Reads text.spells text.fault answer

-- a run ends at this text, which can't be read
abbrev pub StopsAt : {V : Type 0} → TextSpells V → EarlyEnd → Type 0
StopsAt text ended = (kind : TextKind) × (error : ReadError) × (text_word kind ≡ text.name) × ReadsIn text (Err error) × (ended ≡ unread_end kind error)

abbrev pub ReadsOne : {T V : Type 0} → (T → V) → TextSpells V → Result T EarlyEnd → Type 0
ReadsOne content text (Ok value) = ReadsIn text (Ok (content value))
ReadsOne content text (Err ended) = StopsAt text ended

-- the texts are read one after another, up to the first that can't be read
abbrev pub ReadsTwo : {T U V W : Type 0} → (T → V) → (U → W) → TextSpells V → TextSpells W → Result (T × U) EarlyEnd → Type 0
ReadsTwo f g x y (Ok values) = ReadsIn x (Ok (f values.0)) × ReadsIn y (Ok (g values.1))
ReadsTwo f g x y (Err ended) = StopsAt x ended ⊎ ((v : _) × ReadsIn x (Ok v) × StopsAt y ended)

-- the text of a solution is read into a place, whose values stand for the solution
abbrev pub PlacesOne : {T V : Type 0} → (V → T → Type 0) → TextSpells V → Result T EarlyEnd → Type 0
PlacesOne stands text (Ok placed) = (v : _) × stands v placed × ReadsIn text (Ok v)
PlacesOne stands text (Err ended) = StopsAt text ended

-- the same, and another text after it
abbrev pub ReadsPlaced : {T U V W : Type 0} → (V → T → Type 0) → (U → W) → TextSpells V → TextSpells W → Result (T × U) EarlyEnd → Type 0
ReadsPlaced stands g x y (Ok values) = (v : _) × stands v values.0 × ReadsIn x (Ok v) × ReadsIn y (Ok (g values.1))
ReadsPlaced stands g x y (Err ended) = StopsAt x ended ⊎ ((v : _) × ReadsIn x (Ok v) × StopsAt y ended)

-- a source has one more fault if an I/O error ended the run; otherwise none has
abbrev pub CountsUnread : {X : Type 0} → Result X EarlyEnd → List ℕ → List ℕ → Type 0
CountsUnread (Err (Error Device)) old new = OneMore old new
CountsUnread other old new = new ≡ old

-- the source holds a text of this kind with a fault
abbrev pub HasFault : TextKind → Option (List ℕ) → Type 0
HasFault kind coming = (a : List ℕ) × (l : ℕ) × (f : ℕ) × (r : Reason) × (coming ≡ Some a) × Fault kind (lines a) l f r
