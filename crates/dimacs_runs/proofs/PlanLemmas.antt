-- How a run over the files of a plan ends.
use Rattle.std.proofs.Common.{ℕ, ◌≡◌, ◌≢◌, ◌++◌, ◌∙◌, ◌⊎◌, List, [], ◌∷◌, Option, None, Some, Result, Ok, Err, refl, sym, ap, append_assoc, append-nil, flat_map, inl, inr, map}
use Rattle.std.proofs.{lemmas.Grind.{flat_map-append}, lemmas.Result.{err_from_is_err_and}}
use Rattle.std.specs.{Prelude.{IsErr}, Result.{IsErrAnd}}
use Rattle.dimacs_lines.specs.Devices.{Written}
use Rattle.dimacs_runs.specs.{declared.failure.CommandError.{CommandError}, declared.failure.Failure.{Failure}}
use Rattle.dimacs_runs.specs.{Runs.{Reports}, Judged.{IsClaim, Judged}, declared.outcome.Outcome.{Outcome}}
use Rattle.dimacs_runs.specs.{Judgings.{CountsDevices}, Solved.{AreQueries, Solved}, Outputs.{MayWrite, ReportsAll}}
use Rattle.dimacs_runs.specs.Commands.{Contents, Plan, RunsFiles, Reporting, ReportsJudged, WritesSolved, accepted_before, accepted_after, closed_empty, seen_by}
use Rattle.dimacs_runs.specs.Files.{Created, FileEvent, FilesSeen, NotCreated, NotOpened, Opened, Read, ReadFile, Sees, WrittenFile, Wrote, after_events, failures}
use Rattle.dimacs_runs.specs.inside.Commands.{FailsWith, IsFirstOf, named}
use Rattle.dimacs_jobs.specs.{declared.jobs.JudgeKind.{JudgeKind}, declared.jobs.SolveJob.{SolveJob}}
use Rattle.dimacs_jobs.specs.{declared.status.RunError.{RunError}, declared.status.Status.{Status}}
use Rattle.dimacs_jobs.specs.declared.status.RunError.TheVariants.{Device, Memory}
use Rattle.dimacs_runs.proofs.FileLemmas.{AnyRead, Closed, all_after, all_before, closings, sees_then, names_failure, why_nothing}
use Rattle.dimacs_jobs.specs.declared.jobs.JudgeKind.TheVariants as judges
use Rattle.dimacs_jobs.specs.declared.jobs.SolveJob.TheVariants as solves

pub opened_none : (names : List (List ℕ)) → flat_map failures (map Opened names) ≡ []
opened_none [] = refl
opened_none (name ∷ names) = opened_none names

created_none : (names : List (List ℕ)) → flat_map failures (map Created names) ≡ []
created_none [] = refl
created_none (name ∷ names) = created_none names

empty_none : (empty : Option (List ℕ)) (names : List (List ℕ)) → flat_map failures (map (closed_empty empty) names) ≡ []
empty_none empty [] = refl
empty_none empty (name ∷ names) = empty_none empty names

-- no failure is among the files that were opened and created before
failures_after : (opened created : List (List ℕ)) (more : List FileEvent) → flat_map failures ((map Opened opened ++ map Created created) ++ more) ≡ flat_map failures more
failures_after opened created more =
    flat_map-append failures (map Opened opened ++ map Created created) more
    ∙ rw (flat_map-append failures (map Opened opened) (map Created created), opened_none opened, created_none created) refl

abbrev closed_files : List ReadFile → List WrittenFile → List Closed
closed_files read written = map inl read ++ map inr written

closings-closed_files : (read : List ReadFile) (written : List WrittenFile) → closings (closed_files read written) ≡ map Read read ++ map Wrote written
closings-closed_files [] [] = refl
closings-closed_files [] (file ∷ written) = ap (λ (events : List FileEvent). Wrote file ∷ events) (closings-closed_files [] written)
closings-closed_files (file ∷ read) written = ap (λ (events : List FileEvent). Read file ∷ events) (closings-closed_files read written)

-- nothing was done
pub sees_nothing : (seen : FilesSeen) → Sees [] seen seen
sees_nothing seen = record { done = nothing seen.done; faults = refl }
  where
    nothing : (log : Option (List FileEvent)) → log ≡ after_events log []
    nothing None = refl
    nothing (Some earlier) = sym (ap Some (append-nil earlier))

pub is_error : {X : Type 0} (result : Result X CommandError) (error : CommandError) → IsErrAnd result (λ e. e ≡ error) → result ≡ Err error
is_error result error is = let (other, same, it) = err_from_is_err_and result is in same ∙ ap Err it

module _ {plan : Plan} {holds : Contents} {empty : Option (List ℕ)} {writes : Reporting} {result : Result Status CommandError} {a : FilesSeen} {output : Written} where
  -- a file could not be opened
  pub stops_opening : {name : List ℕ} {error : CommandError} {b c : FilesSeen} (before after : List (List ℕ)) → plan.opened ≡ before ++ name ∷ after → IsErrAnd result (λ e. e ≡ error)
      → Sees (map Opened before) a b → FailsWith (NotOpened name) b c error → RunsFiles plan holds empty writes result (seen_by a output) (seen_by c output)
  stops_opening {name} {error} {b} {c} before after whole is seen fails = rw (is_error result error is) record {
    events = map Opened before ++ NotOpened name fails.cause ∷ [];
    seen = sees_then (map Opened before) (NotOpened name fails.cause ∷ []) a b c seen fails.seen;
    failure = flat_map-append failures (map Opened before) (NotOpened name fails.cause ∷ []) ∙ rw (opened_none before) (append-nil (failures (NotOpened name fails.cause)) ∙ fails.failure);
    faults = sym (fails.output output.faults);
    ends = inl (inl (record { before = before; name = name; after = after; error = fails.cause; whole = whole; happened = refl }), refl, refl);
  }

  -- a file could not be created, and those before it were closed
  pub stops_creating : {name : List ℕ} {error : CommandError} {b c d : FilesSeen} (before after : List (List ℕ)) → plan.created ≡ before ++ name ∷ after → IsErrAnd result (λ e. e ≡ error)
      → Sees (map Opened plan.opened ++ map Created before) a b → FailsWith (NotCreated name) b c error → Sees (map (closed_empty empty) before) c d
      → RunsFiles plan holds empty writes result (seen_by a output) (seen_by d output)
  stops_creating {name} {error} {b} {c} {d} before after whole is seen fails closed = rw (is_error result error is) record {
    events = map Opened plan.opened ++ map Created before ++ NotCreated name fails.cause ∷ map (closed_empty empty) before;
    seen = sees_then (map Opened plan.opened ++ map Created before) (NotCreated name fails.cause ∷ map (closed_empty empty) before) a b d seen
        (sees_then (NotCreated name fails.cause ∷ []) (map (closed_empty empty) before) b c d fails.seen closed);
    failure = failures_after plan.opened before (NotCreated name fails.cause ∷ map (closed_empty empty) before) ∙ rw (empty_none empty before) (append-nil (failures (NotCreated name fails.cause)) ∙ fails.failure);
    faults = sym (fails.output output.faults);
    ends = inl (inr (record { before = before; name = name; after = after; error = fails.cause; whole = whole; happened = refl }), refl, refl);
  }

  -- the files were opened, created, used and closed
  pub uses_files : {b c : FilesSeen} {new : Written} (read : List ReadFile) (written : List WrittenFile) (ended : Result Status RunError) (failure : Option Failure)
      → map (λ (file : ReadFile). file.name) read ≡ plan.opened → map (λ (file : WrittenFile). file.name) written ≡ plan.created
      → Sees (map Opened plan.opened ++ map Created plan.created) a b → Sees (map Read read ++ map Wrote written) b c
      → result ≡ named ended failure → IsFirstOf failure (flat_map failures (closings (closed_files read written)))
      → CountsDevices ended (all_before output.faults new.faults (closed_files read written)) (all_after output.faults new.faults (closed_files read written))
      → ((texts : List (List ℕ)) → map holds plan.opened ≡ map Some texts → writes texts (named ended failure) (accepted_before plan.created empty output.accepted) (accepted_after written new.accepted))
      → (ended ≡ Err Memory → accepted_after written new.accepted ≡ accepted_before plan.created empty output.accepted)
      → (AnyRead (closed_files read written) → accepted_after written new.accepted ≡ accepted_before plan.created empty output.accepted)
      → RunsFiles plan holds empty writes result (seen_by a output) (seen_by c new)
  uses_files {b} {c} {new} read written ended failure all_read all_written opened closed is first counts reported memory unread =
      let files : List Closed = closed_files read written in
      let fails = names_failure output.faults new.faults files ended failure first counts in
      rw is record {
        events = (map Opened plan.opened ++ map Created plan.created) ++ (map Read read ++ map Wrote written);
        seen = sees_then (map Opened plan.opened ++ map Created plan.created) (map Read read ++ map Wrote written) a b c opened closed;
        failure = failures_after plan.opened plan.created (map Read read ++ map Wrote written) ∙ ap (flat_map failures) (sym (closings-closed_files read written)) ∙ fails.0;
        faults = fails.1;
        ends = inr (record {
          read = read;
          written = written;
          all_read = all_read;
          all_written = all_written;
          happened = sym (append_assoc (map Opened plan.opened ++ map Created plan.created) (map Read read) (map Wrote written));
          reports = reported;
          nothing_written = why_nothing _ files ended failure first memory unread;
        });
      }

-- ---- the texts in files
abbrev pub EachText : List (Option (List ℕ)) → (List (List ℕ) → Type 0) → Type 0
EachText [] P = P []
EachText (x ∷ xs) P = (a : List ℕ) → x ≡ Some a → EachText xs (λ texts. P (a ∷ texts))

pub each_text : (xs : List (Option (List ℕ))) (P : List (List ℕ) → Type 0) → EachText xs P → (texts : List (List ℕ)) → xs ≡ map Some texts → P texts
each_text [] P each [] is = each
each_text (x ∷ xs) P each (a ∷ more) is = let first : x ≡ Some a = cc in let rest : xs ≡ map Some more = cc in each_text xs (λ texts. P (a ∷ texts)) (each a first) more rest
each_text xs P each texts is = absurd cc

-- ---- what a run reports, after its failure was named
pub reports_named : (writes : Status → List ℕ → Type 0) (ended : Result Status RunError) (failure : Option Failure) (old new : Option (List ℕ)) → Reports writes ended old new → Reports writes (named ended failure) old new
reports_named writes (Err Device) (Some it) old new reports = reports
reports_named writes ended failure old new reports = reports

pub reports_all_named : (writes : Status → List (List ℕ) → Type 0) (ended : Result Status RunError) (failure : Option Failure) (old new : List (Option (List ℕ))) → ReportsAll writes ended old new → ReportsAll writes (named ended failure) old new
reports_all_named writes (Err Device) (Some it) old new reports = reports
reports_all_named writes ended failure old new reports = reports

-- ---- texts that could not be read
pub one_of : {A : Type 0} → A ⊎ ⊥ → A
one_of (inl it) = it
one_of (inr never) = absurd never

-- a text could not be read, so there is no outcome
pub no_outcome : (outcome : Result Outcome RunError) (read : List ReadFile) → CountsDevices outcome (map (λ (file : ReadFile). 0) read) (map (λ (file : ReadFile). file.faults) read) → AnyRead (map inl read) → IsErr outcome
no_outcome (Err error) read counts any = refl
no_outcome (Ok o) [] counts never = absurd never
no_outcome (Ok o) (file ∷ read) counts (inl some) = let none : file.faults ≡ 0 = cc in absurd (some none)
no_outcome (Ok o) (file ∷ read) counts (inr rest) = let others : map (λ (file : ReadFile). file.faults) read ≡ map (λ (file : ReadFile). 0) read = cc in no_outcome (Ok o) read others rest

-- ---- what each kind of run reports
pub judged_reports : (kind : JudgeKind) (a b c : List ℕ) (result : Result Status CommandError) (old new : Option (List ℕ)) → Reports (Judged kind a b c) result old new → ReportsJudged kind (a ∷ b ∷ c ∷ []) result (old ∷ []) (new ∷ [])
judged_reports judges.Infeasible a b c result old new reports = reports
judged_reports kind a b c result old new reports = reports

pub is_claim : (kind : JudgeKind) (coming : Option (List ℕ)) (b : List ℕ) → coming ≡ Some b → IsClaim kind coming b
is_claim kind coming b is = λ some. is

pub flow_writes : (job : SolveJob) (a b : List ℕ) (result : Result Status CommandError) (old new : List (Option (List ℕ))) → job ≢ solves.Paths → ReportsAll (MayWrite (Solved job a b)) result old new → WritesSolved job (a ∷ []) result old new
flow_writes solves.Paths a b result old new flow reports = absurd (flow refl)
flow_writes job a b result old new flow reports = reports

pub flow_asks_nothing : (job : SolveJob) (coming : Option (List ℕ)) (b : List ℕ) → job ≢ solves.Paths → AreQueries job coming b
flow_asks_nothing solves.Paths coming b flow = absurd (flow refl)
flow_asks_nothing job coming b flow = tt
