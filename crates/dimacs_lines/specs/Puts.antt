-- What a sink accepts of a text.
use Rattle.std.specs.Prelude.{ℕ, ◌≡◌, ◌++◌, List, Option, Result, Ok, Err}
use Rattle.dimacs_lines.specs.Devices.{CountsFault, Written, after_piece}

-- it accepted the first bytes of the text, or none, and nothing else
pub record AcceptsFront (old : Option (List ℕ)) (text : List ℕ) (new : Option (List ℕ)) : Type 0 where
  pub front : List ℕ
  pub rest : List ℕ
  pub whole : text ≡ front ++ rest
  pub accepted : new ≡ after_piece old front

-- it accepted the whole text; after an error, the first bytes of it
abbrev pub Accepts : {V E : Type 0} → Result V E → Option (List ℕ) → List ℕ → Option (List ℕ) → Type 0
Accepts (Ok value) old text new = new ≡ after_piece old text
Accepts (Err error) old text new = AcceptsFront old text new

-- the same, and an error adds one fault
pub record Puts {V E : Type 0} (result : Result V E) (old : Written) (text : List ℕ) (new : Written) : Type 0 where
  pub accepted : Accepts result old.accepted text new.accepted
  pub fault : CountsFault result old.faults new.faults
