-- Reports on texts that are read one after another, for each form of report.
use Rattle.std.proofs.Common.{◌≡◌, ◌∙◌, ◌⊎◌, ℕ, List, Result, Ok, Err, refl, sym, subst, ap, inl, inr}
use Rattle.std.proofs.lemmas.Result.{err_from_is_err_and}
use Rattle.std.specs.Result.{IsErrAnd}
use Rattle.dimacs_records.specs.{declared.faults.ReadError.{ReadError}, declared.kinds.TextKind.{TextKind}}
use Rattle.dimacs_records.specs.declared.reasons.Reason.{Reason}
use Rattle.dimacs_jobs.specs.{declared.status.Status.{Status}, declared.status.Status.TheVariants.{Refused}}
use Rattle.dimacs_jobs.specs.declared.status.RunError.{RunError}
use Rattle.dimacs_runs.specs.{declared.outcome.Outcome.{Outcome}, declared.report.Report.{Report}}
use Rattle.dimacs_runs.specs.{declared.early_end.EarlyEnd.{EarlyEnd}, Certified.{uncertified}, Refusals.{refusal_line}}
use Rattle.dimacs_runs.specs.{Outputs.{MayWrite, WritesAlike, report_of}, Runs.{ReportsAlone, text_word}}
use Rattle.dimacs_runs.specs.{Solved.{report_alone}, inside.Judgings.{ReadsIn, StopsAt, TextSpells}}
use Rattle.dimacs_runs.specs.inside.Outcomes.{IfEnds, outcome_texts, reporting, outcome_of, shown_texts, unread_end}
use Rattle.dimacs_runs.specs.{Reports.{report_lines}, inside.Reports.{report_status}}
use Rattle.dimacs_runs.specs.declared.report.Report.TheVariants as reports
use Rattle.dimacs_records.specs.declared.faults.ReadError.TheVariants as read_errors

-- a form of report: it depends only on the possible outcomes, and can report a refusal that is the only one
pub record Way (O : Type 0) : Type 1 where
  pub writes : (Status → O → Type 0) → Status → O → Type 0
  pub texts : Outcome → O
  pub alone : List ℕ → O
  pub lines : (report : Report) → texts (reporting report) ≡ alone (report_lines report)
  pub carried : (a b : Status → O → Type 0) (s : Status) (o : O) → ((t : Status) (p : O) → a t p → b t p) → ((t : Status) (p : O) → b t p → a t p) → writes a s o → writes b s o
  pub refused : (a : Status → O → Type 0) (o : O) → a Refused o → ((t : Status) (p : O) → a t p → (t ≡ Refused) × (p ≡ o)) → writes a Refused o

abbrev pub reporting_way : Way (List ℕ)
reporting_way = record {
  writes = ReportsAlone;
  texts = λ o. report_lines o.report;
  alone = λ line. line;
  lines = λ report. refl;
  carried = λ a b s o to from written. (to s o written.0, λ t p h. written.1 t p (from t p h));
  refused = λ a o written only. (written, only);
}

abbrev pub certifying : Way (List (List ℕ))
certifying = record {
  writes = WritesAlike;
  texts = shown_texts;
  alone = uncertified;
  lines = λ report. refl;
  carried = λ a b s o to from written. (to s o written.0, λ t p h. written.1 t p (from t p h));
  refused = λ a o written only. (written, λ t p h. let is = only t p h in (is.0, ap report_of is.1));
}

abbrev pub solving : Way (List (List ℕ))
solving = record {
  writes = MayWrite;
  texts = outcome_texts;
  alone = report_alone;
  lines = λ report. refl;
  carried = λ a b s o to from written. (to s o written.0, λ refusal h. written.1 refusal (from Refused refusal h));
  refused = λ a o written only. (written, λ refusal h. (refl, sym (only Refused refusal h).1));
}

-- a run ends early, like this
abbrev pub Stopped : EarlyEnd → Result Outcome EarlyEnd → Type 0
Stopped ended result = IsErrAnd result (λ error. error ≡ ended)

module _ {O : Type 0} (way : Way O) where
  abbrev pub Ends : (Status → O → Type 0) → Result Outcome RunError → Type 0
  Ends a outcome = IfEnds way.texts (way.writes a) outcome

  module _ {V : Type 0} (text : TextSpells V) where
    -- the report is the line of the text's fault
    abbrev pub FaultLine : Status → O → Type 0
    FaultLine s o = (l : ℕ) × (f : ℕ) × (r : Reason) × text.fault l f r × (s ≡ Refused) × (o ≡ way.alone (refusal_line text.name l f r))

    -- a text that could not be read is reported by its fault, if that is the only possible outcome
    unread_reported : (a : Status → O → Type 0) → ((l f : ℕ) (r : Reason) → text.fault l f r → a Refused (way.alone (refusal_line text.name l f r))) → ((s : Status) (o : O) → a s o → FaultLine s o ⊎ ((v : V) × text.spells v))
        → (kind : TextKind) (error : ReadError) → text_word kind ≡ text.name → ReadsIn text (Err error) → Ends a (outcome_of (Err (unread_end kind error)))
    unread_reported a to from kind (read_errors.Refused place reason) is read =
        rw (way.lines (reports.Refused kind place reason), is) (way.refused a (way.alone (refusal_line text.name place.line place.field reason)) (to place.line place.field reason read.0) only)
      where
        only : (s : Status) (o : O) → a s o → (s ≡ Refused) × (o ≡ way.alone (refusal_line text.name place.line place.field reason))
        only s o h = elim (from s o h) [
          | inl it ↦ let same = read.1 it.0 it.1 it.2 it.3 in (it.4, it.5 ∙ rw (same.0, same.1, same.2) refl)
          | inr it ↦ absurd (read.2 it.0 it.1)
        ]
    unread_reported a to from kind read_errors.Device is read = tt
    unread_reported a to from kind read_errors.Memory is read = tt

    pub unread_ends : (a : Status → O → Type 0) → ((l f : ℕ) (r : Reason) → text.fault l f r → a Refused (way.alone (refusal_line text.name l f r))) → ((s : Status) (o : O) → a s o → FaultLine s o ⊎ ((v : V) × text.spells v))
        → (ended : EarlyEnd) (result : Result Outcome EarlyEnd) → Stopped ended result → StopsAt text ended → Ends a (outcome_of result)
    unread_ends a to from ended result stopped (kind, error, word, read, at) =
        let (it, is, same) = err_from_is_err_and result stopped in
        rw (is, same, at) (unread_reported a to from kind error word read)

    module _ (next : V → Status → O → Type 0) where
      -- or the report follows from the text's value
      abbrev pub FaultThen : Status → O → Type 0
      FaultThen s o = FaultLine s o ⊎ ((v : V) × text.spells v × next v s o)

      -- the text was read, and what follows from its value was reported
      pub value_ends : (v : V) (outcome : Result Outcome RunError) → ReadsIn text (Ok v) → Ends (next v) outcome → Ends FaultThen outcome
      value_ends v (Ok it) read follows = way.carried (next v) FaultThen (report_status it.report) (way.texts it) (λ s o h. inr (v, read.0, h)) (λ s o h. elim h [
        | inl it ↦ absurd (read.2 it.0 it.1 it.2 it.3)
        | inr it ↦ subst (λ (w : V). next w s o) (read.1 it.0 it.1) it.2
      ]) follows
      value_ends v (Err error) read follows = tt

      -- the text could not be read
      pub stop_ends : (ended : EarlyEnd) (result : Result Outcome EarlyEnd) → Stopped ended result → StopsAt text ended → Ends FaultThen (outcome_of result)
      stop_ends ended result stopped stop = unread_ends FaultThen (λ l f r fault. inl (l, f, r, fault, refl, refl)) (λ s o h. elim h [ inl it ↦ inl it | inr it ↦ inr (it.0, it.1) ]) ended result stopped stop

  module _ {V W : Type 0} (x : TextSpells V) (y : TextSpells W) (next : V → W → Status → O → Type 0) where
    abbrev after_first : V → Status → O → Type 0
    after_first v = FaultThen y (next v)

    -- two texts were read
    pub two_end : (v : V) (w : W) (outcome : Result Outcome RunError) → ReadsIn x (Ok v) → ReadsIn y (Ok w) → Ends (next v w) outcome → Ends (FaultThen x after_first) outcome
    two_end v w outcome read also follows = value_ends x after_first v outcome read (value_ends y (next v) w outcome also follows)

    -- one of two texts could not be read
    pub two_stop : (ended : EarlyEnd) (result : Result Outcome EarlyEnd) → Stopped ended result → StopsAt x ended ⊎ ((v : V) × ReadsIn x (Ok v) × StopsAt y ended) → Ends (FaultThen x after_first) (outcome_of result)
    two_stop ended result stopped (inl first) = stop_ends x after_first ended result stopped first
    two_stop ended result stopped (inr (v, read, second)) = value_ends x after_first v (outcome_of result) read (stop_ends y (next v) ended result stopped second)

  module _ {V W X : Type 0} (x : TextSpells V) (y : TextSpells W) (z : TextSpells X) (next : V → W → X → Status → O → Type 0) where
    abbrev after_second : V → W → Status → O → Type 0
    after_second v w = FaultThen z (next v w)

    abbrev three : Status → O → Type 0
    three = FaultThen x (λ v. FaultThen y (after_second v))

    -- three texts were read
    pub three_end : (v : V) (w : W) (u : X) (outcome : Result Outcome RunError) → ReadsIn x (Ok v) → ReadsIn y (Ok w) → ReadsIn z (Ok u) → Ends (next v w u) outcome → Ends three outcome
    three_end v w u outcome first second third follows = two_end x y after_second v w outcome first second (value_ends z (next v w) u outcome third follows)

    -- one of three texts could not be read
    pub three_stop : (ended : EarlyEnd) (result : Result Outcome EarlyEnd) → Stopped ended result → StopsAt x ended ⊎ ((v : V) × ReadsIn x (Ok v) × (StopsAt y ended ⊎ ((w : W) × ReadsIn y (Ok w) × StopsAt z ended))) → Ends three (outcome_of result)
    three_stop ended result stopped (inl first) = stop_ends x (λ v. FaultThen y (after_second v)) ended result stopped first
    three_stop ended result stopped (inr (v, read, inl second)) = two_stop x y after_second ended result stopped (inr (v, read, second))
    three_stop ended result stopped (inr (v, read, inr (w, also, third))) = two_end x y after_second v w (outcome_of result) read also (stop_ends z (next v w) ended result stopped third)
