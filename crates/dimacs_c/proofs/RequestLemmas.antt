-- The words of a command, and what they are answered.
use Rattle.std.proofs.{Common.{◌≡◌, Bool, List, ℕ, ap, arith, inr, length, map}, lemmas.List.{length-map}}
use Rattle.std.proofs.lemmas.List.Splits.{length-slice_split}
use Rattle.std.specs.{List.{slice_split}, Str.{IsUtf8}}
use Rattle.dimacs_usage.specs.{Answers.{Answers}, declared.asked.Asked.{Asked}}
use Rattle.dimacs_c.specs.Requests.{AreWords, Tells, TellsWords}

-- what the words of a text are answered is told
pub tells : {A : Type 0} (f : A → List ℕ) (bytes same : List ℕ) (items given : List A) (asked : Asked) (status : ℕ) (text : List ℕ) → IsUtf8 bytes × AreWords bytes (map f items) → given ≡ items
    → Answers (map f given) same asked → Tells asked status text → TellsWords bytes same status text
tells f bytes same items given asked status text are is answers told = inr (are.0, (map f items, asked, are.1, rw (← is) answers, told))

-- a text has one part at least
pub some_part : {A : Type 0} (f : A → List ℕ) (test : ℕ → Bool) (bytes : List ℕ) (parts given : List A) → map f parts ≡ slice_split test bytes → given ≡ parts → ¬ (length given ≡ 0)
some_part f test bytes parts given same is none = omega (arith, length-slice_split test bytes, ap length same, length-map parts f, ap length is)
