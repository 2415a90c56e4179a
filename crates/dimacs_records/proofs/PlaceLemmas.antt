-- The first fault of a line's fields is the first condition in the order.
use Rattle.std.proofs.Common.{◌≡◌, ℕ, zero, suc, ◌≤◌, ◌∷◌, ◌++◌, [], List, Bool, true, false, Option, Some, None, length, refl, ◌∙◌, arith}
use Rattle.std.proofs.lemmas.Bool.{cond_both, eq-eqb, ne_eqb}
use Rattle.std.proofs.lemmas.List.Elements.{All-nil, All-cons, All-head, All-tail}
use Rattle.std.specs.{Prelude.{◌==◌, not, if◌then◌else◌}, List.{All}}
use Rattle.dimacs_records.specs.{declared.reasons.Reason.{Reason}, declared.faults.LineFault.{LineFault}}
use Rattle.dimacs_records.specs.declared.reasons.Reason.TheVariants.{UnknownLine, FieldCount, BadNumber, NumberRange, BadWord}
use Rattle.dimacs_records.specs.{Earlier.{or_else}, Forms.{FieldType, Word, Either, Number}}
use Rattle.dimacs_records.specs.Shapes.{field_condition, fields_condition, letter_condition}
use Rattle.dimacs_records.specs.Order.{FaultPlace, at, field_places, shape_places}
use Rattle.dimacs_records.specs.inside.FieldReader.{fault_at, fault_in, fields_fault, form_fault}
use Rattle.dimacs_records.proofs.FirstLemmas.{first_by}

abbrev pub place_of : LineFault → FaultPlace
place_of fault = at fault.field fault.reason

abbrev pub place_in : Option LineFault → Option FaultPlace
place_in None = None
place_in (Some fault) = Some (place_of fault)

-- the places of k fields, from field n on
abbrev places_from : ℕ → ℕ → List FaultPlace
places_from n zero = []
places_from n (suc k) = field_places n ++ places_from (suc n) k

abbrev IsFrom : ℕ → FaultPlace → Type 0
IsFrom n p = n ≤ p.field

places_start : (n k : ℕ) → All (IsFrom n) (places_from n k)
places_start n zero = All-nil (IsFrom n)
places_start n (suc k) =
    let rest = later n (places_from (suc n) k) (places_start (suc n) k) in
    let words = All-cons (IsFrom n) (at n BadWord) (places_from (suc n) k) (omega arith) rest in
    let ranges = All-cons (IsFrom n) (at n NumberRange) (at n BadWord ∷ places_from (suc n) k) (omega arith) words in
    All-cons (IsFrom n) (at n BadNumber) (at n NumberRange ∷ at n BadWord ∷ places_from (suc n) k) (omega arith) ranges
  where
    later : (n : ℕ) (ps : List FaultPlace) → All (IsFrom (suc n)) ps → All (IsFrom n) ps
    later n [] h = All-nil (IsFrom n)
    later n (p ∷ ps) h = All-cons (IsFrom n) p ps (omega (arith, All-head (IsFrom (suc n)) p ps h)) (later n ps (All-tail (IsFrom (suc n)) p ps h))

-- at a place where the condition is tested
abbrev pub test_at : (ℕ → Reason → Bool) → FaultPlace → Bool
test_at condition p = condition p.field p.reason

same_first : {X : Type 0} (f g : X → Bool) (xs : List X) → All (λ x. f x ≡ g x) xs → first_by f xs ≡ first_by g xs
same_first f g [] h = refl
same_first f g (x ∷ xs) h = rw (All-head (λ x. f x ≡ g x) x xs h, same_first f g xs (All-tail (λ x. f x ≡ g x) x xs h)) refl

none_first : {X : Type 0} (xs : List X) → first_by (λ x. false) xs ≡ None
none_first [] = refl
none_first (x ∷ xs) = none_first xs

-- the places after a field are those of the later fields
past_first : (n : ℕ) (type : FieldType) (types : List FieldType) (text : List ℕ) (texts : List (List ℕ)) (ps : List FaultPlace) → All (IsFrom (suc n)) ps
    → All (λ p. test_at (fields_condition n (type ∷ types) (text ∷ texts)) p ≡ test_at (fields_condition (suc n) types texts) p) ps
past_first n type types text texts [] h = All-nil _
past_first n type types text texts (p ∷ ps) h =
    let past : (p.field == n) ≡ false = ne_eqb p.field n (omega (arith, All-head (IsFrom (suc n)) p ps h)) in
    All-cons (λ p. test_at (fields_condition n (type ∷ types) (text ∷ texts)) p ≡ test_at (fields_condition (suc n) types texts) p) p ps (rw past refl) (past_first n type types text texts ps (All-tail (IsFrom (suc n)) p ps h))

first_field : (n : ℕ) (b c d : Bool) (rest : Option LineFault) → (if b then Some (at n BadNumber) else if c then Some (at n NumberRange) else if d then Some (at n BadWord) else place_in rest)
    ≡ place_in (or_else (fault_in n (if b then Some BadNumber else if c then Some NumberRange else if d then Some BadWord else None)) rest)
first_field n true c d rest = refl
first_field n false true d rest = refl
first_field n false false true rest = refl
first_field n false false false rest = refl

first_of_fields : (n k : ℕ) (types : List FieldType) (texts : List (List ℕ)) → length types ≤ k → first_by (test_at (fields_condition n types texts)) (places_from n k) ≡ place_in (fields_fault n types texts)
first_of_fields n k [] texts short = none_first (places_from n k)
first_of_fields n k (type ∷ types) [] short = none_first (places_from n k)
first_of_fields n zero (type ∷ types) (text ∷ texts) short = absurd (omega (arith, short))
first_of_fields n (suc k) (type ∷ types) (text ∷ texts) short =
    let test = test_at (fields_condition n (type ∷ types) (text ∷ texts)) in
    let rest : first_by test (places_from (suc n) k) ≡ place_in (fields_fault (suc n) types texts) = same_first test (test_at (fields_condition (suc n) types texts)) (places_from (suc n) k) (past_first n type types text texts (places_from (suc n) k) (places_start (suc n) k)) ∙ first_of_fields (suc n) k types texts (omega (arith, short)) in
    rw (eq-eqb n n refl, rest) (first_field n (field_condition type text BadNumber) (field_condition type text NumberRange) (field_condition type text BadWord) (fields_fault (suc n) types texts))

other_field : (type : FieldType) (text : List ℕ) → (field_condition type text UnknownLine ≡ false) × (field_condition type text FieldCount ≡ false)
other_field (Word w) text = (refl, refl)
other_field (Either v w) text = (refl, refl)
other_field (Number low high) text = (refl, refl)

-- a letter that the kind has isn't refused
known : (n : ℕ) (types : List FieldType) (texts : List (List ℕ)) (f : ℕ) → fields_condition n types texts f UnknownLine ≡ false
known n [] texts f = refl
known n (type ∷ types) [] f = refl
known n (type ∷ types) (text ∷ texts) f = cond_both (f == n) _ _ (λ b. b ≡ false) (λ _. (other_field type text).0) (λ _. known (suc n) types texts f)

by_count : (b : Bool) (fault : Option LineFault) → (if not b then Some (at 0 FieldCount) else place_in fault) ≡ place_in (if b then fault else Some (fault_at 0 FieldCount))
by_count true fault = refl
by_count false fault = refl

-- the first condition of the shape after a letter that the kind has
pub first_of_shape : (types : List FieldType) (texts : List (List ℕ)) → length types ≤ 5 → first_by (test_at (letter_condition (Some types) texts)) shape_places ≡ place_in (form_fault types texts)
first_of_shape types texts short =
    let rest : first_by (test_at (letter_condition (Some types) texts)) (places_from 2 5) ≡ place_in (fields_fault 2 types texts) = first_of_fields 2 5 types texts short in
    rw (known 2 types texts 1, rest) (by_count (length types == length texts) (fields_fault 2 types texts))
