-- What was written to memory is handed out.
use Rattle.std.proofs.Common.{◌≡◌, ◌∙◌, ◌++◌, ℕ, List, [], ◌∷◌, Option, None, Some, Result, Ok, Err, ap, subst, get_or, drop, inl, inr}
use Rattle.std.specs.Prelude.{unwrap_or}
use Rattle.dimacs_jobs.specs.{declared.jobs.JudgeKind.{JudgeKind}, declared.status.RunError.{RunError}}
use Rattle.dimacs_jobs.specs.{declared.status.Status.{Status}, declared.jobs.SolveJob.{SolveJob}}
use Rattle.dimacs_jobs.specs.declared.jobs.SolveJob.TheVariants.{Max, Min, Paths}
use Rattle.dimacs_runs.specs.{Runs.{Reports}, Judged.{IsClaim}, Outputs.{AcceptAll, ReportsAll}, Solved.{AreQueries}}
use Rattle.dimacs_c.specs.{Calls.{Answers, AnswersTexts, Handed, HandNothing, HandsEach, HandsOut}, inside.Calls.{Ends}}

pub is_claim : (k : JudgeKind) (coming : Option (List ℕ)) (b : List ℕ) → coming ≡ Some b → IsClaim k coming b
is_claim kind coming b is = λ some. is

pub are_queries : (job : SolveJob) (coming : Option (List ℕ)) (b : List ℕ) → coming ≡ Some b → AreQueries job coming b
are_queries (Max limit) coming b is = tt
are_queries (Min limit) coming b is = tt
are_queries Paths coming b is = is

pub bytes_of : {a b : List ℕ} → Some a ≡ Some b → a ≡ b
bytes_of is = ap (λ (sink : Option (List ℕ)). unwrap_or sink []) is

-- one sink was empty, and its bytes were handed out
pub answered : (writes : Status → List ℕ → Type 0) (ended : Result Status RunError) (start bytes : List ℕ) (exit_status : ℕ) (h : Handed ℕ) → start ≡ []
    → Reports writes ended (Some start) (Some bytes) → Ends ended bytes exit_status h → Answers writes exit_status h
answered writes (Ok s) start bytes exit_status h empty reports ends =
    let whole : bytes ≡ reports.0 = bytes_of reports.2 ∙ ap (λ front. front ++ reports.0) empty in
    inl (s, reports.0, reports.1, ends.0, subst (λ text. HandsOut text h) whole ends.1)
answered writes (Err error) start bytes exit_status h empty reports ends = inr ends

-- ---- several texts, each from its own sink
-- the bytes of a sink, and the buffer for them
abbrev pub Output : Type 0
Output = List ℕ × Handed ℕ

abbrev pub empty_sinks : List Output → List (Option (List ℕ))
empty_sinks [] = []
empty_sinks (k ∷ outputs) = Some [] ∷ empty_sinks outputs

abbrev pub written_sinks : List Output → List (Option (List ℕ))
written_sinks [] = []
written_sinks (k ∷ outputs) = Some k.0 ∷ written_sinks outputs

abbrev pub buffers_of : List Output → List (Handed ℕ)
buffers_of [] = []
buffers_of (k ∷ outputs) = k.1 ∷ buffers_of outputs

-- each buffer got the bytes of its sink, or nothing
abbrev pub EndEach : Result Status RunError → List Output → Type 0
EndEach ended [] = Unit {0}
EndEach ended (k ∷ outputs) = ((exit_status : ℕ) × Ends ended k.0 exit_status k.1) × EndEach ended outputs

hands_each : (s : Status) (texts : List (List ℕ)) (outputs : List Output) → AcceptAll texts (empty_sinks outputs) (written_sinks outputs) → EndEach (Ok s) outputs → HandsEach texts (buffers_of outputs)
hands_each s [] [] same ends = tt
hands_each s [] (k ∷ outputs) same ends =
    let empty : k.0 ≡ [] = bytes_of (ap (λ sinks. get_or sinks 0 None) same) in
    let rest : written_sinks outputs ≡ empty_sinks outputs = ap (drop 1) same in
    (subst (λ text. HandsOut text k.1) empty ends.0.1.1, hands_each s [] outputs rest ends.1)
hands_each s (text ∷ texts) [] never ends = absurd never
hands_each s (text ∷ texts) (k ∷ outputs) accepted ends = (subst (λ t. HandsOut t k.1) (bytes_of accepted.0) ends.0.1.1, hands_each s texts outputs accepted.1 ends.1)

hand_nothing : (error : RunError) (outputs : List Output) → EndEach (Err error) outputs → HandNothing (buffers_of outputs)
hand_nothing error [] ends = tt
hand_nothing error (k ∷ outputs) ends = (ends.0.1.1, hand_nothing error outputs ends.1)

-- all sinks were empty, and their bytes were handed out
pub answered_texts : (writes : Status → List (List ℕ) → Type 0) (ended : Result Status RunError) (outputs : List Output) (report : List ℕ) (exit_status : ℕ) (last : Handed ℕ)
    → ReportsAll writes ended (empty_sinks outputs) (written_sinks outputs) → EndEach ended outputs → Ends ended report exit_status last → AnswersTexts writes exit_status (buffers_of outputs)
answered_texts writes (Ok s) outputs report exit_status last reports ends status = inl (s, reports.0, reports.1, status.0, hands_each s reports.0 outputs reports.2 ends)
answered_texts writes (Err error) outputs report exit_status last reports ends status = inr (status.0, hand_nothing error outputs ends)
