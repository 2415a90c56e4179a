-- The runs of a line are its fields.
use Rattle.std.proofs.Common.{◌≡◌, ◌≢◌, ◌+◌, ◌<◌, ◌≤◌, ◌∷◌, [], ℕ, zero, suc, List, true, false, length, take, drop, get_or, inl, inr, refl, ap, sym, subst, arith, drop-cons}
use Rattle.std.proofs.{Math.Nat.{add-sub_cancel_left}, lemmas.Bool.{cases_lt, cond_both, eqb-true, eqb-false}}
use Rattle.std.proofs.{lemmas.List.{drop_all}, lemmas.List.Elements.{All-nil, All-cons, All-head, All-tail}}
use Rattle.std.specs.{Prelude.{◌==◌}, List.{All, Any}}
use Rattle.dimacs_lines.specs.Fields.{is_blank, Run, onto_runs, runs_from, fields_of, AreApart, IsInRun, AreFields}
use Rattle.dimacs_lines.proofs.FieldLemmas.{runs_start}

abbrev IsSolid : ℕ → Type 0
IsSolid b = is_blank b ≡ false

-- what the theorem states of one run
record IsField (line : List ℕ) (run : Run) : Type 0 where
  some : run.text ≢ []
  no_blank : All IsSolid run.text
  in_place : take (length run.text) (drop run.start line) ≡ run.text

-- the theorem for the bytes from place i on
record AreFieldsFrom (line : List ℕ) (i : ℕ) (runs : List Run) : Type 0 where
  each : All (IsField line) runs
  apart : AreApart runs
  none_left_out : (place : ℕ) → i ≤ place → place < length line → IsSolid (get_or line place 0) → Any (IsInRun place) runs

-- the byte at place i, with a text right after it
abbrev byte_then : List ℕ → ℕ → List ℕ → Run
byte_then line i text = record { text = get_or line i 0 ∷ text; start = i }

any_first : (P : Run → Type 0) (run : Run) (runs : List Run) → P run → Any P (run ∷ runs)
any_first P run runs p = (0, run, omega arith, refl, p)

any_later : (P : Run → Type 0) (run : Run) (runs : List Run) → Any P runs → Any P (run ∷ runs)
any_later P run runs a = (suc a.0, a.1, omega (arith, a.2), a.3, a.4)

any_other_first : (P : Run → Type 0) (run other : Run) (runs : List Run) → (P run → P other) → Any P (run ∷ runs) → Any P (other ∷ runs)
any_other_first P run other runs f (zero, x, lt, e, p) = any_first P other runs (f (subst P (sym e) p))
any_other_first P run other runs f (suc k, x, lt, e, p) = (suc k, x, lt, e, p)

-- the first run may be replaced by one that ends at the same place
apart_other_first : (run other : Run) (runs : List Run) → other.start + length other.text ≡ run.start + length run.text → AreApart (run ∷ runs) → AreApart (other ∷ runs)
apart_other_first run other [] same apart = tt
apart_other_first run other (next ∷ runs) same apart = (omega (arith, apart.0), apart.1)

-- a blank adds no run
past_blank : (line : List ℕ) (i : ℕ) (runs : List Run) → is_blank (get_or line i 0) ≡ true → AreFieldsFrom line (suc i) runs → AreFieldsFrom line i runs
past_blank line i runs blank h = record {
  each = h.each;
  apart = h.apart;
  none_left_out = λ place from to solid. elim (cases_lt i place) [
    | inl later ↦ h.none_left_out place (omega arith) to solid
    | inr here ↦ let same : place ≡ i = omega arith in absurd (cc)
  ];
}

-- a byte at place i that is no blank, in front of the later runs
module _ (line : List ℕ) (i : ℕ) (inside : i < length line) (first : IsSolid (get_or line i 0)) where
  byte_then_field : (text : List ℕ) → All IsSolid text → take (length text) (drop (suc i) line) ≡ text → IsField line (byte_then line i text)
  byte_then_field text solid after = record {
    some = λ e. absurd (cc);
    no_blank = All-cons IsSolid (get_or line i 0) text first solid;
    in_place = rw (drop-cons line i 0 inside) (ap (λ bs. get_or line i 0 ∷ bs) after);
  }

  -- if it is a run by itself
  alone : (runs : List Run) → AreApart (byte_then line i [] ∷ runs) → AreFieldsFrom line (suc i) runs → AreFieldsFrom line i (byte_then line i [] ∷ runs)
  alone runs apart h = record {
    each = All-cons (IsField line) (byte_then line i []) runs (byte_then_field [] (All-nil IsSolid) refl) h.each;
    apart = apart;
    none_left_out = λ place from to solid. elim (cases_lt i place) [
      | inl later ↦ any_later (IsInRun place) _ runs (h.none_left_out place (omega arith) to solid)
      | inr here ↦ any_first (IsInRun place) _ runs (omega arith, omega arith)
    ];
  }

  -- if it joins the run that starts right after it
  joined : (run : Run) (runs : List Run) → run.start ≡ suc i → AreFieldsFrom line (suc i) (run ∷ runs) → AreFieldsFrom line i (byte_then line i run.text ∷ runs)
  joined run runs next h =
      let field = All-head (IsField line) run runs h.each in
      let both = byte_then line i run.text in
      record {
        each = All-cons (IsField line) both runs (byte_then_field run.text field.no_blank (rw (← next) field.in_place)) (All-tail (IsField line) run runs h.each);
        apart = apart_other_first run both runs (omega arith) h.apart;
        none_left_out = λ place from to solid. elim (cases_lt i place) [
          | inl later ↦ any_other_first (IsInRun place) run both runs (λ c. (omega arith, omega (arith, c))) (h.none_left_out place (omega arith) to solid)
          | inr here ↦ any_first (IsInRun place) both runs (omega arith, omega arith)
        ];
      }

  onto : (runs : List Run) → All (λ (run : Run). suc i ≤ run.start) runs → AreFieldsFrom line (suc i) runs → AreFieldsFrom line i (onto_runs (get_or line i 0) i runs)
  onto [] start h = alone [] tt h
  onto (run ∷ runs) start h =
      let later = All-head (λ (run : Run). suc i ≤ run.start) run runs start in
      cond_both (run.start == suc i) _ _ (AreFieldsFrom line i)
      (λ e. joined run runs (eqb-true run.start (suc i) e) h)
      (λ e. let ne = eqb-false run.start (suc i) e in alone (run ∷ runs) (omega arith, h.apart) h)

-- by induction on the number of bytes left
fields_from : (line : List ℕ) (left i : ℕ) → i + left ≡ length line → AreFieldsFrom line i (runs_from i (drop i line))
fields_from line zero i e =
    rw (drop_all i line (omega arith)) (record { each = All-nil (IsField line); apart = tt; none_left_out = λ place from to solid. absurd (omega arith) })
fields_from line (suc left) i e =
    let inside : i < length line = omega arith in
    let runs = runs_from (suc i) (drop (suc i) line) in
    let h = fields_from line left (suc i) (omega arith) in
    rw (drop-cons line i 0 inside) (cond_both (is_blank (get_or line i 0)) _ _ (AreFieldsFrom line i)
    (λ blank. past_blank line i runs blank h)
    (λ solid. onto line i inside solid runs (runs_start (suc i) (drop (suc i) line)) h))

pub are_fields : (line : List ℕ) → AreFields line (fields_of line)
are_fields line =
    let h = fields_from line (length line) 0 (omega arith) in
    record {
      some = λ k run lt. (h.each k run lt).some;
      no_blank = λ k run lt. (h.each k run lt).no_blank;
      in_place = λ k run lt. rw add-sub_cancel_left (h.each k run lt).in_place;
      apart = h.apart;
      none_left_out = λ place. h.none_left_out place (omega arith);
    }
