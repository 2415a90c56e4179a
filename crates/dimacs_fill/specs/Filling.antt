-- The arrays of a caller, filled with as many items as fit.
use Rattle.std.specs.Prelude.{ℕ, ◌≡◌, ◌++◌, List, length, take, drop, map, ℤ, IfErr, IfOk, Result, Ok, Err}
use Rattle.dimacs_lines.specs.Lines.{lines}
use Rattle.dimacs_network.specs.declared.network.ArcView.{ArcView}
use Rattle.dimacs_records.specs.{declared.faults.ReadError.{ReadError}, declared.kinds.TextKind.{TextKind}}
use Rattle.dimacs_records.specs.{Faults.{Fault}, Readings.{CountsRead}, Texts.{Reads}}
use Rattle.dimacs_fill.specs.{declared.error.FillError.{FillError}, declared.error.FillError.TheVariants.{Node, Unread}}

-- as many of the items as fit, then the rest of the array as it was
abbrev pub filled : {X : Type 0} → List X → List X → List X
filled items old = take (length old) items ++ drop (length items) old

-- an array before and after a call
abbrev pub Array : Type 0 → Type 0
Array X = List X × List X

abbrev pub IsFilled : {X : Type 0} → List X → Array X → Type 0
IsFilled items a = a.1 ≡ filled items a.0

-- the array is as it was
abbrev pub IsKept : {X : Type 0} → Array X → Type 0
IsKept a = a.1 ≡ a.0

-- what an error leaves: the value is `none`
abbrev pub value_or : {V : Type 0} → V → Result V ReadError → V
value_or none (Ok v) = v
value_or none (Err error) = none

abbrev pub size_of : {V W : Type 0} → (V → W) → Result V ReadError → Result W ReadError
size_of f (Ok v) = Ok (f v)
size_of f (Err error) = Err error

-- the result has the sizes of the only value that the text spells, and the arrays get its items; or it is the text's only
-- fault, and they get the items of `none`; or out of memory, with them, too
abbrev pub ReadsInto : {V W : Type 0} → TextKind → List ℕ → (V → Type 0) → V → (V → W) → (V → Type 0) → Result W ReadError → Type 0
ReadsInto {V} kind text spells none size gets result =
    (answer : Result V ReadError) × Reads spells (Fault kind (lines text)) answer × (result ≡ size_of size answer) × gets (value_or none answer)

-- the same of an instance; after an error the arrays may hold anything
abbrev pub ReadsArcsInto : {V W : Type 0} → TextKind → List ℕ → (V → Type 0) → (V → W) → (V → Type 0) → Result W ReadError → Type 0
ReadsArcsInto {V} kind text spells size gets result =
    (answer : Result V ReadError) × Reads spells (Fault kind (lines text)) answer × (result ≡ size_of size answer) × IfOk answer gets

abbrev pub FillsIf : {V W : Type 0} → (V → Result W FillError → Type 0) → Result V ReadError → Result W FillError → Type 0
FillsIf fills (Ok v) result = fills v result
FillsIf fills (Err error) result = result ≡ Err (Unread error)

-- what the only value that the text spells fills, unless its numbers can't be items; or the text's only fault; after an
-- error the arrays are kept
abbrev pub ReadsFitting : {V W : Type 0} → TextKind → List ℕ → (V → Type 0) → (V → Result W FillError → Type 0) → Type 0 → Result W FillError → Type 0
ReadsFitting {V} kind text spells fills kept result =
    (answer : Result V ReadError) × Reads spells (Fault kind (lines text)) answer × FillsIf fills answer result × IfErr result (λ error. kept)

abbrev pub tails_of : List ArcView → List ℕ
tails_of arcs = map (λ (a : ArcView). a.tail) arcs

abbrev pub heads_of : List ArcView → List ℕ
heads_of arcs = map (λ (a : ArcView). a.head) arcs

abbrev pub lows_of : List ArcView → List ℤ
lows_of arcs = map (λ (a : ArcView). a.low) arcs

abbrev pub caps_of : List ArcView → List ℤ
caps_of arcs = map (λ (a : ArcView). a.cap) arcs

abbrev pub costs_of : List ArcView → List ℤ
costs_of arcs = map (λ (a : ArcView). a.cost) arcs

-- the source's faults after a text was read into arrays: one more after an I/O error, otherwise the same
abbrev pub CountsFilled : {V : Type 0} → Result V FillError → ℕ → ℕ → Type 0
CountsFilled (Ok v) old new = new ≡ old
CountsFilled {V} (Err (Unread error)) old new = CountsRead {V = V} (Err error) old new
CountsFilled (Err (Node id reason)) old new = new ≡ old
