-- What was done with files, call by call, and which calls failed.
use Rattle.std.proofs.Common.{ℕ, ◌≡◌, ◌≢◌, ◌++◌, ◌∙◌, ◌⊎◌, List, [], ◌∷◌, Option, None, Some, Result, Ok, Err, refl, sym, ap, subst, append_assoc, append-nil, arith, eq-zero-or-pos, flat_map, inl, inr, map, ne_eqb}
use Rattle.std.proofs.lemmas.Grind.{flat_map-append}
use Rattle.std.specs.Option.{option_or}
use Rattle.dimacs_lines.specs.Devices.{one_more}
use Rattle.dimacs_runs.specs.{declared.failure.Failure.{Failure}, declared.failure.Failure.TheVariants.{File, Output}}
use Rattle.dimacs_runs.specs.{declared.failure.FileCall.{FileCall}, Judgings.{CountsDevices, OneMore}}
use Rattle.dimacs_runs.specs.Commands.{WritesNothing, failures_named, output_faults}
use Rattle.dimacs_runs.specs.Files.{FileEvent, FilesSeen, Read, ReadFile, Sees, WrittenFile, Wrote, after_events, failures, faults_after}
use Rattle.dimacs_runs.specs.inside.Commands.{IsFirstOf, named}
use Rattle.dimacs_jobs.specs.{declared.status.RunError.{RunError}, declared.status.Status.{Status}}
use Rattle.dimacs_jobs.specs.declared.status.RunError.TheVariants.{Device, Memory}
use Rattle.dimacs_runs.specs.declared.failure.CommandError.TheVariants as errors
use Rattle.dimacs_runs.specs.declared.failure.FileCall.TheVariants as calls

after_twice : (log : Option (List FileEvent)) (xs ys : List FileEvent) → after_events (after_events log xs) ys ≡ after_events log (xs ++ ys)
after_twice None xs ys = refl
after_twice (Some earlier) xs ys = ap Some (append_assoc earlier xs ys)

faults_twice : {X : Type 0} (faults : ℕ) (xs ys : List X) → faults_after (faults_after faults xs) ys ≡ faults_after faults (xs ++ ys)
faults_twice faults [] ys = refl
faults_twice faults (x ∷ xs) ys = faults_twice (one_more faults) xs ys

-- these events, then more
pub sees_then : (xs ys : List FileEvent) (a b c : FilesSeen) → Sees xs a b → Sees ys b c → Sees (xs ++ ys) a c
sees_then xs ys a b c first second = record {
  done = second.done ∙ ap (λ (log : Option (List FileEvent)). after_events log ys) first.done ∙ after_twice a.done xs ys;
  faults = second.faults ∙ ap (λ (n : ℕ). faults_after n (flat_map failures ys)) first.faults ∙ faults_twice a.faults (flat_map failures xs) (flat_map failures ys) ∙ ap (λ (fs : List (FileCall × List ℕ)). faults_after a.faults fs) (sym (flat_map-append failures xs ys));
}

pub sees_two : {x y : FileEvent} {a b c : FilesSeen} → Sees (x ∷ []) a b → Sees (y ∷ []) b c → Sees (x ∷ y ∷ []) a c
sees_two {x} {y} {a} {b} {c} first second = sees_then (x ∷ []) (y ∷ []) a b c first second

pub sees_three : {x y z : FileEvent} {a b c d : FilesSeen} → Sees (x ∷ []) a b → Sees (y ∷ []) b c → Sees (z ∷ []) c d → Sees (x ∷ y ∷ z ∷ []) a d
sees_three {x} {y} {z} {a} {b} {c} {d} first second third = sees_then (x ∷ y ∷ []) (z ∷ []) a c d (sees_two first second) third

-- ---- closed files, their faults, and the first fault
abbrev pub Closed : Type 0
Closed = ReadFile ⊎ WrittenFile

abbrev pub closing : Closed → FileEvent
closing (inl file) = Read file
closing (inr file) = Wrote file

abbrev pub closings : List Closed → List FileEvent
closings closed = map closing closed

abbrev pub faults_of : Closed → ℕ
faults_of (inl file) = file.faults
faults_of (inr file) = file.seen.faults

abbrev pub none_of : Closed → ℕ
none_of file = 0

abbrev call_of : Closed → FileCall × List ℕ
call_of (inl file) = (calls.Read, file.name)
call_of (inr file) = (calls.Write, file.name)

no_failure : (file : Closed) → faults_of file ≡ 0 → failures (closing file) ≡ []
no_failure (inl file) is = rw is refl
no_failure (inr file) is = rw is refl

a_failure : (file : Closed) → faults_of file ≢ 0 → failures (closing file) ≡ call_of file ∷ []
a_failure (inl file) other = rw (ne_eqb file.faults 0 other) refl
a_failure (inr file) other = rw (ne_eqb file.seen.faults 0 other) refl

module _ (faults counted : ℕ) where
  abbrev pub all_before : List Closed → List ℕ
  all_before closed = map none_of closed ++ faults ∷ []

  abbrev pub all_after : List Closed → List ℕ
  all_after closed = map faults_of closed ++ counted ∷ []

  none_failed : (closed : List Closed) → all_after closed ≡ all_before closed → (flat_map failures (closings closed) ≡ []) × (counted ≡ faults)
  none_failed [] same = (refl, cc)
  none_failed (file ∷ files) same =
      let here : faults_of file ≡ 0 = cc in
      let later : all_after files ≡ all_before files = cc in
      let rest = none_failed files later in
      (rw (no_failure file here, rest.0) refl, rest.1)

  one_failed : (closed : List Closed) → OneMore (all_before closed) (all_after closed)
      → ((flat_map failures (closings closed) ≡ []) × (counted ≡ one_more faults)) ⊎ ((failure : FileCall × List ℕ) × (flat_map failures (closings closed) ≡ failure ∷ []) × (counted ≡ faults))
  one_failed [] (inl (more, same)) = inl (refl, more)
  one_failed [] (inr (same, never)) = absurd never
  one_failed (file ∷ files) (inl (more, same)) =
      let rest = none_failed files same in
      inr (call_of file, rw (a_failure file (omega (arith, more)), rest.0) refl, rest.1)
  one_failed (file ∷ files) (inr (same, more)) = elim (one_failed files more) [
    | inl rest ↦ inl (rw (no_failure file same, rest.0) refl, rest.1)
    | inr rest ↦ inr (rest.0, rw (no_failure file same, rest.1) refl, rest.2)
  ]

  -- the result of a run names the operation that failed
  pub names_failure : {X : Type 0} (closed : List Closed) (ended : Result X RunError) (failure : Option Failure) → IsFirstOf failure (flat_map failures (closings closed))
      → CountsDevices ended (all_before closed) (all_after closed) → (flat_map failures (closings closed) ≡ failures_named (named ended failure)) × (counted ≡ output_faults (named ended failure) faults)
  names_failure closed (Ok x) failure first counts = none_failed closed counts
  names_failure closed (Err Memory) failure first counts = none_failed closed counts
  names_failure closed (Err Device) None first counts = elim (one_failed closed counts) [
    | inl none ↦ none
    | inr one ↦ let never : [] ≡ one.0 ∷ [] = sym first ∙ one.1 in absurd cc
  ]
  names_failure closed (Err Device) (Some (File call name)) first counts = elim (one_failed closed counts) [
    | inl none ↦ let never : [] ≡ (call, name.now) ∷ first.0 = sym none.0 ∙ first.1 in absurd cc
    | inr one ↦ let same : one.0 ∷ [] ≡ (call, name.now) ∷ first.0 = sym one.1 ∙ first.1 in let it : one.0 ≡ (call, name.now) = cc in (one.1 ∙ ap (λ (f : FileCall × List ℕ). f ∷ []) it, one.2)
  ]
  names_failure closed (Err Device) (Some Output) first counts = absurd first

-- the first failure of the first files, or otherwise of the others
first_or : (a b : Option Failure) (xs ys : List (FileCall × List ℕ)) → IsFirstOf a xs → IsFirstOf b ys → IsFirstOf (option_or a b) (xs ++ ys)
first_or None b xs ys first second = rw first second
first_or (Some (File call name)) b xs ys first second = (first.0 ++ ys, rw first.1 refl)
first_or (Some Output) b xs ys first second = absurd first

pub one_first : (a : Option Failure) (x : FileEvent) → IsFirstOf a (failures x) → IsFirstOf a (flat_map failures (x ∷ []))
one_first a x first = subst (λ (all : List (FileCall × List ℕ)). IsFirstOf a all) (sym (append-nil (failures x))) first

pub two_first : (a b : Option Failure) (x y : FileEvent) → IsFirstOf a (failures x) → IsFirstOf b (failures y) → IsFirstOf (option_or a b) (flat_map failures (x ∷ y ∷ []))
two_first a b x y first second = first_or a b (failures x) (flat_map failures (y ∷ [])) first (one_first b y second)

pub three_first : (a b c : Option Failure) (x y z : FileEvent) → IsFirstOf a (failures x) → IsFirstOf b (failures y) → IsFirstOf c (failures z) → IsFirstOf (option_or (option_or a b) c) (flat_map failures (x ∷ y ∷ z ∷ []))
three_first a b c x y z first second third =
    subst (λ (all : List (FileCall × List ℕ)). IsFirstOf (option_or (option_or a b) c) all) (append_assoc (failures x) (failures y) (flat_map failures (z ∷ [])))
    (first_or (option_or a b) c (failures x ++ failures y) (flat_map failures (z ∷ [])) (first_or a b (failures x) (failures y) first second) (one_first c z third))

-- ---- a file that was read failed
abbrev pub AnyRead : List Closed → Type 0
AnyRead [] = ⊥
AnyRead (inl file ∷ files) = (file.faults ≢ 0) ⊎ AnyRead files
AnyRead (inr file ∷ files) = AnyRead files

same_call : (c d : FileCall) (m n : List ℕ) (xs ys : List (FileCall × List ℕ)) → (c, m) ∷ xs ≡ (d, n) ∷ ys → c ≡ d
same_call c d m n xs ys is = let pair : (c, m) ≡ (d, n) = cc in ap (λ (it : FileCall × List ℕ). it.0) pair

-- the first failure among closed files is one of reading or of writing
first_call : (closed : List Closed) (call : FileCall) (name : List ℕ) (rest : List (FileCall × List ℕ)) → flat_map failures (closings closed) ≡ (call, name) ∷ rest
    → ((call ≡ calls.Read) × AnyRead closed) ⊎ (call ≡ calls.Write)
first_call [] call name rest is = absurd cc
first_call (inl file ∷ files) call name rest is = elim (eq-zero-or-pos file.faults) [
  | inl none ↦ elim (first_call files call name rest (rw (no_failure (inl file) none) at is)) [ inl read ↦ inl (read.0, inr read.1) | inr wrote ↦ inr wrote ]
  | inr some ↦
      let other : file.faults ≢ 0 = omega (arith, some) in
      let it : (calls.Read, file.name) ∷ flat_map failures (closings files) ≡ (call, name) ∷ rest = rw (a_failure (inl file) other) at is in
      inl (same_call call calls.Read name file.name rest (flat_map failures (closings files)) (sym it), inl other)
]
first_call (inr file ∷ files) call name rest is = elim (eq-zero-or-pos file.seen.faults) [
  | inl none ↦ first_call files call name rest (rw (no_failure (inr file) none) at is)
  | inr some ↦
      let it : (calls.Write, file.name) ∷ flat_map failures (closings files) ≡ (call, name) ∷ rest = rw (a_failure (inr file) (omega (arith, some))) at is in
      inr (same_call call calls.Write name file.name rest (flat_map failures (closings files)) (sym it))
]

-- if nothing is written, memory ran out or a file that was read failed
pub why_nothing : (P : Type 0) (closed : List Closed) (ended : Result Status RunError) (failure : Option Failure) → IsFirstOf failure (flat_map failures (closings closed))
    → (ended ≡ Err Memory → P) → (AnyRead closed → P) → WritesNothing (named ended failure) → P
why_nothing P closed (Err Memory) failure first memory read nothing = memory refl
why_nothing P closed (Err Device) (Some (File call name)) first memory read nothing = elim (first_call closed call name.now first.0 first.1) [
  | inl it ↦ read it.1
  | inr wrote ↦ absurd (subst (λ (c : FileCall). WritesNothing (Err (errors.Device (File c name)))) wrote nothing)
]
why_nothing P closed ended failure first memory read nothing = absurd nothing
