-- What a call that reads hands out is the result of reading.
use Rattle.std.proofs.Common.{◌≡◌, ℕ, ℤ, List, Result, Ok, Err, refl, inl, inr}
use Rattle.dimacs_records.specs.{declared.faults.ReadError.{ReadError}, declared.kinds.TextKind.{TextKind}}
use Rattle.dimacs_records.specs.declared.faults.ReadError.TheVariants.{Refused, Device, Memory}
use Rattle.dimacs_lines.specs.declared.device.DeviceFault.{DeviceFault}
use Rattle.dimacs_arrays.specs.{declared.error.ArrayError.{ArrayError}, declared.solution.ClaimedFlow.{ClaimedFlow}}
use Rattle.dimacs_fill.specs.{declared.error.FillError.{FillError}, declared.error.FillError.TheVariants.{Unread, Node}}
use Rattle.dimacs_fill.specs.Filling.{ReadsArcsInto, ReadsFitting, ReadsInto}
use Rattle.dimacs_c.specs.{ArrayTexts.{value_read}, Calls.{Handed}, Reading.{AnswersFilled, AnswersRead}}
use Rattle.dimacs_c.specs.{inside.Printed.{value_if}, inside.Reading.{EndsUnfilled, EndsUnread}}
use Rattle.dimacs_c.proofs.ArrayLemmas.{IsSet, none_by}

-- out of memory is a possible result after any other error
pub read_memory : {V W : Type 0} (kind : TextKind) (text : List ℕ) (spells : V → Type 0) (none : V) (size : V → W) (gets : V → Type 0) (error : ReadError)
    → ReadsInto kind text spells none size gets (Err error) → ReadsInto kind text spells none size gets (Err Memory)
read_memory kind text spells none size gets error (Ok v, reads, is, got) = absurd (cc)
read_memory kind text spells none size gets error (Err other, reads, is, got) = (Err Memory, tt, refl, got)

pub arcs_memory : {V W : Type 0} (kind : TextKind) (text : List ℕ) (spells : V → Type 0) (size : V → W) (gets : V → Type 0) (error : ReadError)
    → ReadsArcsInto kind text spells size gets (Err error) → ReadsArcsInto kind text spells size gets (Err Memory)
arcs_memory kind text spells size gets error (Ok v, reads, is, got) = absurd (cc)
arcs_memory kind text spells size gets error (Err other, reads, is, got) = (Err Memory, tt, refl, tt)

module _ {W : Type 0} (reads sets : Result W ReadError → Type 0) (text : List ℕ) where
  pub was_unread : (error : ReadError) → reads (Err error) → reads (Err Memory) → sets (Err error) → sets (Err Memory) → (exit_status : ℕ) (h : Handed ℕ) → EndsUnread text error exit_status h → AnswersRead reads sets text exit_status h
  was_unread (Refused place reason) holds memory set cleared exit_status h (inl ends) = (Err (Refused place reason), holds, ends.0, ends.1, set)
  was_unread (Refused place reason) holds memory set cleared exit_status h (inr ends) = (Err Memory, memory, ends.0, none_by h ends.1, cleared)
  was_unread Device holds memory set cleared exit_status h ends = (Err Device, holds, ends.0, none_by h ends.1, set)
  was_unread Memory holds memory set cleared exit_status h ends = (Err Memory, holds, ends.0, none_by h ends.1, set)

-- the value that a call sets is that of its answer
pub value_set : (put : Result ℕ DeviceFault) (r : Result ClaimedFlow ArrayError) (value : ℤ) → value ≡ value_if put r → IsSet value_read r put value
value_set (Ok status) r value is = is
value_set (Err fault) r value is = is

-- ---- texts whose numbers items may not hold
pub fill_memory : {V W : Type 0} (kind : TextKind) (text : List ℕ) (spells : V → Type 0) (fills : V → Result W FillError → Type 0) (kept : Type 0) (error : FillError)
    → ReadsFitting kind text spells fills kept (Err error) → ReadsFitting kind text spells fills kept (Err (Unread Memory))
fill_memory kind text spells fills kept error (answer, reads, is, same) = (Err Memory, tt, refl, same)

module _ {W : Type 0} (reads sets : Result W FillError → Type 0) (text : List ℕ) where
  pub unfilled : (error : FillError) → reads (Err error) → reads (Err (Unread Memory)) → sets (Err error) → sets (Err (Unread Memory)) → (exit_status : ℕ) (h : Handed ℕ) → EndsUnfilled text error exit_status h
      → AnswersFilled reads sets text exit_status h
  unfilled (Unread (Refused place reason)) holds memory set cleared exit_status h (inl ends) = (Err (Unread (Refused place reason)), holds, ends.0, ends.1, set)
  unfilled (Unread (Refused place reason)) holds memory set cleared exit_status h (inr ends) = (Err (Unread Memory), memory, ends.0, none_by h ends.1, cleared)
  unfilled (Unread Device) holds memory set cleared exit_status h ends = (Err (Unread Device), holds, ends.0, none_by h ends.1, set)
  unfilled (Unread Memory) holds memory set cleared exit_status h ends = (Err (Unread Memory), holds, ends.0, none_by h ends.1, set)
  unfilled (Node id reason) holds memory set cleared exit_status h (inl ends) = (Err (Node id reason), holds, ends.0, ends.1, set)
  unfilled (Node id reason) holds memory set cleared exit_status h (inr ends) = (Err (Unread Memory), memory, ends.0, none_by h ends.1, cleared)
