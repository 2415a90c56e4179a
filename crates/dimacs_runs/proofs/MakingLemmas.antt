-- How a run ends that reads files, and creates one for the text that comes of them.
use Rattle.std.proofs.Common.{ℕ, ◌≡◌, ◌≢◌, ◌++◌, ◌∙◌, List, [], ◌∷◌, Option, None, Some, Result, Ok, Err, refl, sym, ap, append-nil, flat_map, inl, inr, map}
use Rattle.std.proofs.lemmas.Grind.{flat_map-append}
use Rattle.std.specs.Result.{IsErrAnd}
use Rattle.dimacs_lines.specs.Devices.{Written}
use Rattle.dimacs_runs.specs.{declared.failure.CommandError.{CommandError}, declared.failure.Failure.{Failure}}
use Rattle.dimacs_runs.specs.{declared.outcome.Outcome.{Outcome}, declared.outcome.OutputText.{OutputText}}
use Rattle.dimacs_runs.specs.{Judgings.{CountsDevices}, Outputs.{ReportsAll}, Reports.{report_lines}}
use Rattle.dimacs_runs.specs.declared.outcome.OutputText.TheVariants.{Cut, Labels, Nothing, Potentials, Solution}
use Rattle.dimacs_runs.specs.Commands.{Contents, Making, MakesOfFiles, files_for, seen_by}
use Rattle.dimacs_runs.specs.Files.{Created, FileEvent, FilesSeen, NotCreated, NotOpened, Opened, Read, ReadFile, Sees, WrittenFile, closed_written, failures}
use Rattle.dimacs_runs.specs.inside.Commands.{FailsWith, IsFirstOf, named}
use Rattle.dimacs_runs.specs.inside.Making.{AnswersFiles, IsWritten, WritesOutcome, WritesReport}
use Rattle.dimacs_runs.specs.inside.Outcomes.{EndsWriting, IfEnds, text_bytes, nowhere, shown_texts}
use Rattle.dimacs_jobs.specs.{declared.status.RunError.{RunError}, declared.status.Status.{Status}}
use Rattle.dimacs_jobs.specs.declared.status.RunError.TheVariants.{Device, Memory}
use Rattle.dimacs_runs.proofs.FileLemmas.{all_after, all_before, closings, one_first, sees_then, sees_two, names_failure, why_nothing}
use Rattle.dimacs_runs.proofs.PlanLemmas.{is_error, opened_none, reports_all_named, sees_nothing}
use Rattle.dimacs_runs.proofs.WritingLemmas.{counts_both, counts_reported, counts_without, one_more_with, shown_written}

-- ---- possible outcomes of what was written
reports_all_from : {E : Type 0} (a b : Status → List (List ℕ) → Type 0) (result : Result Status E) (old new : List (Option (List ℕ))) → ((s : Status) (o : List (List ℕ)) → a s o → b s o)
    → ReportsAll a result old new → ReportsAll b result old new
reports_all_from a b (Ok status) old new to reports = (reports.0, to status reports.0 reports.1, reports.2)
reports_all_from a b (Err error) old new to (inl same) = inl same
reports_all_from a b (Err error) old new to (inr reports) = inr (reports.0, reports.1, to reports.0 reports.1 reports.2, reports.3)

-- ---- the output, after the files that were read
counts_with : {X : Type 0} (ended : Result X RunError) (n : ℕ) (old new : List ℕ) → CountsDevices ended old new → CountsDevices ended (old ++ n ∷ []) (new ++ n ∷ [])
counts_with (Ok x) n old new counts = rw counts refl
counts_with (Err Memory) n old new counts = rw counts refl
counts_with (Err Device) n old new counts = one_more_with (n ∷ []) old new counts

-- ---- files were read, and something was made of their texts
module _ {opened : List (List ℕ)} {holds : Contents} {makes : Making} {result : Result Outcome CommandError} {a : FilesSeen} where
  -- a file could not be opened
  pub answers_nothing : {name : List ℕ} {error : CommandError} {b c : FilesSeen} (before after : List (List ℕ)) → opened ≡ before ++ name ∷ after → IsErrAnd result (λ e. e ≡ error)
      → Sees (map Opened before) a b → FailsWith (NotOpened name) b c error → AnswersFiles opened holds makes result a c
  answers_nothing {name} {error} {b} {c} before after whole is seen fails = rw (is_error result error is) record {
    events = map Opened before ++ NotOpened name fails.cause ∷ [];
    seen = sees_then (map Opened before) (NotOpened name fails.cause ∷ []) a b c seen fails.seen;
    failure = flat_map-append failures (map Opened before) (NotOpened name fails.cause ∷ []) ∙ rw (opened_none before) (append-nil (failures (NotOpened name fails.cause)) ∙ fails.failure);
    output = λ faults. sym (fails.output faults);
    ends = inl (record { before = before; name = name; after = after; error = fails.cause; whole = whole; happened = refl }, refl);
  }

  -- the files were opened, read and closed
  pub answers_files : {b c : FilesSeen} (read : List ReadFile) (answer : Result Outcome RunError) (failure : Option Failure) → map (λ (file : ReadFile). file.name) read ≡ opened
      → Sees (map Opened opened) a b → Sees (map Read read) b c → result ≡ named answer failure → IsFirstOf failure (flat_map failures (map Read read))
      → CountsDevices answer (map (λ (file : ReadFile). 0) read) (map (λ (file : ReadFile). file.faults) read)
      → ((texts : List (List ℕ)) → map holds opened ≡ map Some texts → IfEnds shown_texts (makes texts) answer)
      → AnswersFiles opened holds makes result a c
  answers_files {b} {c} read answer failure all_read opens closes is first counts possible =
      let fails = λ (n : ℕ). names_failure n n (map inl read) answer failure (rw (closings_read read) first) (rw (before_read n read, after_read n read) (counts_with answer n _ _ counts)) in
      rw is record {
        events = map Opened opened ++ map Read read;
        seen = sees_then (map Opened opened) (map Read read) a b c opens closes;
        failure = flat_map-append failures (map Opened opened) (map Read read) ∙ rw (opened_none opened) (ap (flat_map failures) (sym (closings_read read)) ∙ (fails 0).0);
        output = λ faults. (fails faults).1;
        ends = inr (record { read = read; all_read = all_read; happened = refl; possible = λ texts same. may_name texts answer failure (possible texts same) });
      }
    where
      closings_read : (read : List ReadFile) → closings (map inl read) ≡ map Read read
      closings_read [] = refl
      closings_read (file ∷ read) = ap (λ (events : List FileEvent). Read file ∷ events) (closings_read read)

      before_read : (n : ℕ) (read : List ReadFile) → all_before n n (map inl read) ≡ map (λ (file : ReadFile). 0) read ++ n ∷ []
      before_read n [] = refl
      before_read n (file ∷ read) = ap (λ (all : List ℕ). 0 ∷ all) (before_read n read)

      after_read : (n : ℕ) (read : List ReadFile) → all_after n n (map inl read) ≡ map (λ (file : ReadFile). file.faults) read ++ n ∷ []
      after_read n [] = refl
      after_read n (file ∷ read) = ap (λ (all : List ℕ). file.faults ∷ all) (after_read n read)

      may_name : (texts : List (List ℕ)) (answer : Result Outcome RunError) (failure : Option Failure) → IfEnds shown_texts (makes texts) answer → IfEnds shown_texts (makes texts) (named answer failure)
      may_name texts (Ok p) failure may = may
      may_name texts (Err Device) None may = tt
      may_name texts (Err Device) (Some it) may = tt
      may_name texts (Err Memory) failure may = tt

-- ---- the outcome is written
module _ (opened created : List (List ℕ)) {holds : Contents} {empty : Option (List ℕ)} {makes : Making} {result : Result Status CommandError} {a b : FilesSeen} {old : Written} where
  -- there is no outcome
  pub makes_nothing : (error : CommandError) → AnswersFiles opened holds makes (Err error) a b → IsErrAnd result (λ e. e ≡ error) → MakesOfFiles (record { opened = opened; created = created }) holds empty makes result (seen_by a old) (seen_by b old)
  makes_nothing error answers is = rw (is_error result error is) record {
    events = answers.events;
    seen = answers.seen;
    failure = answers.failure;
    faults = answers.output old.faults;
    ends = elim answers.ends [
      | inl stops ↦ inl (inl (record { before = stops.0.before; name = stops.0.name; after = stops.0.after; error = stops.0.error; whole = stops.0.whole; happened = stops.0.happened }), refl, refl)
      | inr read ↦ inr (record {
        read = read.read;
        written = [];
        all_read = read.all_read;
        happened = read.happened ∙ sym (append-nil (map Opened opened ++ map Read read.read));
        reports = λ texts same. inl refl;
        nothing_written = λ nothing. (refl, refl);
      })
    ];
  }

  -- the outcome was written
  pub makes_of_files : {c : FilesSeen} {new : Written} (p : Outcome) → AnswersFiles opened holds makes (Ok p) a b → WritesOutcome p created empty result (seen_by b old) (seen_by c new)
      → MakesOfFiles (record { opened = opened; created = created }) holds empty makes result (seen_by a old) (seen_by c new)
  makes_of_files {c} {new} p answers puts = elim answers.ends [
    | inl stops ↦ let never = stops.1 in absurd cc
    | inr read ↦ record {
      events = answers.events ++ puts.events;
      seen = sees_then answers.events puts.events a b c answers.seen puts.seen;
      failure = flat_map-append failures answers.events puts.events ∙ rw answers.failure puts.failure;
      faults = puts.faults;
      ends = elim puts.ends [
        | inl nowhere ↦ inl (
          inr (record {
            read = read.read;
            name = nowhere.name;
            error = nowhere.error;
            all_read = read.all_read;
            whole = nowhere.whole;
            happened = rw (read.happened, nowhere.happened) refl;
            possible = λ texts same. (_, _, read.possible texts same, nowhere.text);
          }),
          nowhere.failed,
          nowhere.nothing_written,
        )
        | inr text ↦ inr (record {
          read = read.read;
          written = text.written;
          all_read = read.all_read;
          happened = rw (read.happened, text.happened) refl;
          reports = λ texts same. reports_all_from (IsWritten p) _ result _ _ (λ s o is. (rw (is.0, is.1) (read.possible texts same), rw is.1 text.all_written)) text.reports;
          nothing_written = λ nothing. absurd (text.something_written nothing);
        })
      ];
    }
  ]

-- ---- whether there is a text
file_for_text : (text : OutputText) (report : List ℕ) (names : List (List ℕ)) → text ≢ Nothing → files_for names (text_bytes text ∷ report ∷ []) ≡ names
file_for_text Nothing report names has_text = absurd (has_text refl)
file_for_text (Solution solution) report names has_text = refl
file_for_text (Cut cut) report names has_text = refl
file_for_text (Potentials potentials) report names has_text = refl
file_for_text (Labels labels) report names has_text = refl

no_file_for_nothing : (text : OutputText) (report : List ℕ) (names : List (List ℕ)) → text ≡ Nothing → files_for names (text_bytes text ∷ report ∷ []) ≡ []
no_file_for_nothing Nothing report names is = refl
no_file_for_nothing other report names is = absurd cc

no_files : (out : List (List ℕ)) → files_for [] out ≡ []
no_files [] = refl
no_files ([] ∷ out) = refl
no_files ((x ∷ text) ∷ out) = refl

never_memory : (p : Outcome) (ended : Result Status RunError) (old new : List Written) → EndsWriting (Ok p) ended old new → ended ≢ Err Memory
never_memory p (Ok status) old new ends is = absurd cc
never_memory p (Err Device) old new ends is = absurd cc
never_memory p (Err Memory) old new ends is = let never : Memory ≡ Device = ends.0 in absurd cc

-- ---- writing an outcome
-- only the report
pub report_alone : {result : Result Status CommandError} {old new : Written} (p : Outcome) (ended : Result Status RunError) → result ≡ named ended None → EndsWriting (Ok p) ended (nowhere ∷ nowhere ∷ old ∷ []) (nowhere ∷ nowhere ∷ new ∷ []) → WritesReport p result old new
report_alone {result} {old} {new} p ended is ends =
    let fails = names_failure old.faults new.faults [] ended None refl (counts_reported (Ok p) ended [] [] old new refl refl ends) in
    rw is record {
      reports = reports_all_named (IsWritten p) ended None _ _ (shown_written (IsWritten p) (Ok p) ended (nowhere ∷ old ∷ []) (nowhere ∷ new ∷ []) (refl, refl) ends);
      failure = sym fails.0;
      faults = fails.1;
      something_written = why_nothing ⊥ [] ended None refl (never_memory p ended _ _ ends) (λ unread. unread);
    }

module _ {empty : Option (List ℕ)} {result : Result Status CommandError} {old : Written} {b : FilesSeen} (p : Outcome) where
  no_text : {new : Written} (names : List (List ℕ)) → files_for names (shown_texts p) ≡ [] → WritesReport p result old new → WritesOutcome p names empty result (seen_by b old) (seen_by b new)
  no_text {new} names none puts = record {
    events = [];
    seen = sees_nothing b;
    failure = sym puts.failure;
    faults = puts.faults;
    ends = inr (record { written = []; all_written = sym none; happened = refl; reports = puts.reports; something_written = puts.something_written });
  }

  -- no file is named
  pub writes_unnamed : {new : Written} → WritesReport p result old new → WritesOutcome p [] empty result (seen_by b old) (seen_by b new)
  writes_unnamed {new} puts = no_text {new = new} [] (no_files (shown_texts p)) puts

  -- there is no text
  pub writes_no_text : {new : Written} (names : List (List ℕ)) → p.shown ≡ Nothing → WritesReport p result old new → WritesOutcome p names empty result (seen_by b old) (seen_by b new)
  writes_no_text {new} names is puts = no_text {new = new} names (no_file_for_nothing p.shown (report_lines p.report) names is) puts

  -- the file for the text could not be created
  pub writes_nowhere : {name : List ℕ} {error : CommandError} {c : FilesSeen} → p.shown ≢ Nothing → IsErrAnd result (λ e. e ≡ error) → FailsWith (NotCreated name) b c error → WritesOutcome p (name ∷ []) empty result (seen_by b old) (seen_by c old)
  writes_nowhere {name} {error} has_text is fails = rw (is_error result error is) record {
    events = NotCreated name fails.cause ∷ [];
    seen = fails.seen;
    failure = append-nil (failures (NotCreated name fails.cause)) ∙ fails.failure;
    faults = sym (fails.output old.faults);
    ends = inl (record { name = name; error = fails.cause; whole = refl; happened = refl; text = file_for_text p.shown (report_lines p.report) (name ∷ []) has_text; failed = refl; nothing_written = refl });
  }

  -- the file for the text was created, written and closed
  pub writes_text : {new : Written} {name : List ℕ} {c d : FilesSeen} (seen : Written) (ended : Result Status RunError) (failure : Option Failure) → p.shown ≢ Nothing → Sees (Created name ∷ []) b c → Sees (closed_written name seen ∷ []) c d
      → result ≡ named ended failure → IsFirstOf failure (failures (closed_written name seen)) → EndsWriting (Ok p) ended (nowhere ∷ record { accepted = empty; faults = 0 } ∷ old ∷ []) (nowhere ∷ seen ∷ new ∷ [])
      → WritesOutcome p (name ∷ []) empty result (seen_by b old) (seen_by d new)
  writes_text {new} {name} {c} {d} seen ended failure has_text created closed is first ends =
      let file : WrittenFile = record { name = name; seen = seen } in
      let fresh : Written = record { accepted = empty; faults = 0 } in
      let counts = counts_without ended [] [] (0 ∷ old.faults ∷ []) (seen.faults ∷ new.faults ∷ []) refl (counts_both (Ok p) ended [] [] _ _ refl ends) in
      let one = one_first failure (closed_written name seen) first in
      let fails = names_failure old.faults new.faults (inr file ∷ []) ended failure one counts in
      rw is record {
        events = Created name ∷ closed_written name seen ∷ [];
        seen = sees_two created closed;
        failure = fails.0;
        faults = fails.1;
        ends = inr (record {
          written = file ∷ [];
          all_written = sym (file_for_text p.shown (report_lines p.report) (name ∷ []) has_text);
          happened = refl;
          reports = reports_all_named (IsWritten p) ended failure _ _ (shown_written (IsWritten p) (Ok p) ended (fresh ∷ old ∷ []) (seen ∷ new ∷ []) (refl, refl) ends);
          something_written = why_nothing ⊥ (inr file ∷ []) ended failure one (never_memory p ended _ _ ends) (λ unread. unread);
        });
      }
