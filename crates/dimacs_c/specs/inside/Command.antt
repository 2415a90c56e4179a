-- Inside: the end of a command, as what a run wrote or as a status alone.
use Rattle.std.specs.Prelude.{ℕ, ◌≡◌, ◌⊎◌, List, [], ◌∷◌, Result, Ok, Err}
use Rattle.dimacs_runs.specs.declared.in_memory.Ran.{Ran}
use Rattle.dimacs_jobs.specs.Outcomes.{status_number}

-- it ends so, or memory ran out
abbrev pub Ended : (ℕ → List (List ℕ) → Type 0) → Result Ran ℕ → Type 0
Ended ends (Ok ran) = ends (status_number (Ok ran.status)) (ran.made.bytes ∷ ran.more.bytes ∷ ran.printed.bytes ∷ [])
Ended ends (Err status) = (status ≡ 4) ⊎ ends status []
