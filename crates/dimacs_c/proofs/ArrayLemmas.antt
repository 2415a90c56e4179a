-- What a call over arrays hands out is its answer.
use Rattle.std.proofs.Common.{◌≡◌, ◌∙◌, ◌++◌, ℕ, List, [], ◌∷◌, Option, None, Some, Result, Ok, Err, refl, ap, subst, inl, inr}
use Rattle.std.specs.Prelude.{IfOk, IfSome}
use Rattle.dimacs_lines.specs.{declared.device.DeviceFault.{DeviceFault}, Puts.{Accepts}}
use Rattle.dimacs_judging.specs.declared.verdict.Verdict.{Verdict}
use Rattle.dimacs_arrays.specs.{declared.error.ArrayError.{ArrayError}, declared.error.ArrayError.TheVariants.{Memory}}
use Rattle.dimacs_c.specs.Arrays.{AnswersItems, AnswersLine, Buffers, HandsOutAll, Printed, buffers, printed, verdict_printed}
use Rattle.dimacs_c.specs.{Calls.{Handed, HandsNothing, HandsOut, handed}, inside.Calls.{EndsPrinted}}
use Rattle.dimacs_c.specs.inside.Printed.{EndsWhole, line_status, line_text, parts}
use Rattle.dimacs_c.proofs.CallLemmas.{bytes_of}
use Rattle.dimacs_c.specs.declared.printed.Printed as found

-- nothing is handed out to a buffer that stays as it was
hands_none : {X : Type 0} (buffer : List X) → HandsOut [] (handed buffer buffer 0)
hands_none [] = record { needed = refl; front = refl }
hands_none (x ∷ buffer) = record { needed = refl; front = refl }

pub none_by : {X : Type 0} (h : Handed X) → HandsNothing h → HandsOut [] h
none_by h nothing = rw (nothing.needed, nothing.unchanged) (hands_none h.buffer)

-- the judge's answer was handed out, or memory ran out
pub line_answered : (judges : Result Verdict ArrayError → Type 0) → judges (Err Memory) → (r : Result Verdict ArrayError) → judges r → (exit_status : ℕ) (h : Handed ℕ)
    → EndsWhole (printed verdict_printed r) exit_status h → AnswersLine judges exit_status h
line_answered judges memory r holds exit_status h (inl ends) = (r, holds, ends.0, ends.1)
line_answered judges memory r holds exit_status h (inr ends) = (Err Memory, memory, ends.0, none_by h ends.1)

-- the text was handed out, or memory ran out
pub text_answered : {X : Type 0} (prints : X → Printed) (gives : Result X ArrayError → Type 0) → gives (Err Memory) → (r : Result X ArrayError) → gives r → (exit_status : ℕ) (h : Handed ℕ)
    → EndsWhole (printed prints r) exit_status h → AnswersItems prints gives exit_status (buffers h None None None)
text_answered prints gives memory r holds exit_status h (inl ends) = (r, holds, ends.0, record { line = ends.1; marks = tt; numbers = tt; amounts = tt })
text_answered prints gives memory r holds exit_status h (inr ends) = (Err Memory, memory, ends.0, record { line = none_by h ends.1; marks = tt; numbers = tt; amounts = tt })

-- ---- items, for the buffers that a call may have
module _ {I : Type 0} (items : List I) where
  abbrev pub EndsTo : Result ℕ DeviceFault → Option (Handed I) → Type 0
  EndsTo put buffer = IfSome buffer (λ h. (exit_status : ℕ) × EndsPrinted put items exit_status h)

  handed_to : (status : ℕ) (buffer : Option (Handed I)) → EndsTo (Ok status) buffer → IfSome buffer (HandsOut items)
  handed_to status None ends = tt
  handed_to status (Some h) ends = ends.1.1

  none_to : (fault : DeviceFault) (buffer : Option (Handed I)) → EndsTo (Err fault) buffer → IfSome buffer (HandsOut [])
  none_to fault None ends = tt
  none_to fault (Some h) ends = none_by h ends.1.1

-- the value of the answer is set if the line was written, otherwise that of out of memory
abbrev pub IsSet : {X V : Type 0} → (Result X ArrayError → V) → Result X ArrayError → Result ℕ DeviceFault → V → Type 0
IsSet value_of r (Ok status) value = value ≡ value_of r
IsSet value_of r (Err fault) value = value ≡ value_of (Err Memory)

nothing_set : {X : Type 0} (r : Result X ArrayError) (put : Result ℕ DeviceFault) → IsSet {V = ℕ} (λ made. 0) r put 0
nothing_set r (Ok status) = refl
nothing_set r (Err fault) = refl

-- the parts are those of the answer
module _ {X : Type 0} (prints : X → Printed) (gives : Result X ArrayError → Type 0) (memory : gives (Err Memory)) (r : Result X ArrayError) (holds : gives r)
    (f : found.Printed ℕ) (same : parts f ≡ printed prints r) where
  --   the line was written and all was handed out, with the value, or memory ran out
  pub claim_answered : {V : Type 0} (value_of : Result X ArrayError → V) (put : Result ℕ DeviceFault) → IfOk put (λ status. status ≡ line_status f.line)
      → (start line : List ℕ) → start ≡ [] → Accepts put (Some start) (line_text f.line) (Some line)
      → (all : Buffers) (exit_status : ℕ) → EndsPrinted put line exit_status all.line → EndsTo f.marks.now put all.marks → EndsTo f.numbers.now put all.numbers → EndsTo f.amounts.now put all.amounts
      → (value : V) → IsSet value_of r put value
      → (made : Result X ArrayError) × gives made × (exit_status ≡ (printed prints made).status) × HandsOutAll (printed prints made) all × (value ≡ value_of made)
  claim_answered value_of (Ok status) is start line empty put all exit_status ends marks numbers amounts value set =
      let line_is : line ≡ line_text f.line = bytes_of put ∙ ap (λ front. front ++ line_text f.line) empty in
      let out : HandsOutAll (parts f) all =
      record {
        line = subst (λ text. HandsOut text all.line) line_is ends.1;
        marks = handed_to f.marks.now status all.marks marks;
        numbers = handed_to f.numbers.now status all.numbers numbers;
        amounts = handed_to f.amounts.now status all.amounts amounts;
      } in
      (r, holds, ends.0 ∙ is ∙ ap (λ (p : Printed). p.status) same, subst (λ p. HandsOutAll p all) same out, set)
  claim_answered value_of (Err fault) is start line empty put all exit_status ends marks numbers amounts value set = (
    Err Memory,
    memory,
    ends.0,
    record {
      line = none_by all.line ends.1;
      marks = none_to f.marks.now fault all.marks marks;
      numbers = none_to f.numbers.now fault all.numbers numbers;
      amounts = none_to f.amounts.now fault all.amounts amounts;
    },
    set,
  )

  --   the same for a call that sets no value
  pub items_answered : (put : Result ℕ DeviceFault) → IfOk put (λ status. status ≡ line_status f.line)
      → (start line : List ℕ) → start ≡ [] → Accepts put (Some start) (line_text f.line) (Some line)
      → (all : Buffers) (exit_status : ℕ) → EndsPrinted put line exit_status all.line → EndsTo f.marks.now put all.marks → EndsTo f.numbers.now put all.numbers → EndsTo f.amounts.now put all.amounts
      → AnswersItems prints gives exit_status all
  items_answered put is start line empty accepts all exit_status ends marks numbers amounts =
      let a = claim_answered {V = ℕ} (λ made. 0) put is start line empty accepts all exit_status ends marks numbers amounts 0 (nothing_set r put) in
      (a.0, a.1, a.2, a.3)
