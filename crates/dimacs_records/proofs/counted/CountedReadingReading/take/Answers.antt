use Rattle.std.proofs.{Common.{◌≡◌, ◌++◌, ◌∷◌, [], ◌∙◌, ℕ, List, ap, subst, sym, true}, lemmas.List.{map-append}}
use Rattle.std.proofs.lemmas.Result.{err_from_is_err_and}
use Rattle.dimacs_records.specs.{Conditions.{needs_problem}, Readings.{LineRecord, on_line, records_of}}
use Rattle.dimacs_records.specs.{declared.records.Record.{Record}, Spelling.{kind_of}}
use Rattle.dimacs_records.proofs.OrderLemmas.{allowed_by_records, refused_by_records}
use Rattle.dimacs_records.proofs.counted.CountedReadingReading.take.Goals as goal

-- one more record after those that were taken
one_more : (rs : List LineRecord) (line : ℕ) (said : Record) → records_of (rs ++ on_line line said ∷ []) ≡ records_of rs ++ said ∷ []
one_more rs line said = map-append (λ (r : LineRecord). r.spells) rs (on_line line said ∷ [])

pub returns-in_ok-keep-in-Some-clause-taken : goal.returns-in_ok-keep-in-Some-clause-taken
returns-in_ok-keep-in-Some-clause-taken g c = λ rs h before.
    let kept = c.in_ok-keep-in-Some.ensures.added (records_of rs) (rw c.in-Some.is at h) in
    subst (g.B.Builder.built_from c.keep.new.self) (sym (one_more rs c.args._line c.args.rec)) kept

pub returns-in_ok-test_first-in-None-clause-taken : goal.returns-in_ok-test_first-in-None-clause-taken
returns-in_ok-test_first-in-None-clause-taken g c = λ rs h before.
    let none : records_of rs ≡ [] = rw c.in-None.is at h in
    subst (g.B.Builder.built_from c.begin.result) (sym (one_more rs c.args._line c.args.rec ∙ ap (λ xs. xs ++ c.args.rec ∷ []) none)) c.begin.ensures

pub returns-in_err-test_first-in-None-clause-refused : goal.returns-in_err-test_first-in-None-clause-refused
returns-in_err-test_first-in-None-clause-refused g c =
    let p = err_from_is_err_and c.from_residual-in_err-test_first-in-None.result c.from_residual-in_err-test_first-in-None.ensures.1 in
    let needs : needs_problem (kind_of c.args.rec) ≡ true = ap needs_problem c.requires.of_kind.spelled.for_kind ∙ g.met.B.Builder.has_problem in
    rw (p.1, p.2) (λ rs h. let none : records_of rs ≡ [] = rw c.in-None.is at h in rw none (c.in_err-test_first-in-None.ensures.refused needs))

pub returns-in_ok-test_first-in-None-clause-allowed : goal.returns-in_ok-test_first-in-None-clause-allowed
returns-in_ok-test_first-in-None-clause-allowed g c = λ rs h.
    let none : records_of rs ≡ [] = rw c.in-None.is at h in rw none c.in_ok-test_first-in-None.ensures.allowed

pub returns-in_ok-keep-in-Some-clause-allowed : goal.returns-in_ok-keep-in-Some-clause-allowed
returns-in_ok-keep-in-Some-clause-allowed g c = λ rs h.
    let begun = rw c.in-Some.is at h in
    allowed_by_records c.context.result (records_of rs) c.args.rec c.in_ok-test_record-in-Some.ensures.passes (c.context.ensures.of_records (records_of rs) begun)

pub returns-in_err-test_record-in-Some-clause-refused : goal.returns-in_err-test_record-in-Some-clause-refused
returns-in_err-test_record-in-Some-clause-refused g c =
    let p = err_from_is_err_and c.from_residual.result c.from_residual.ensures.1 in
    rw (p.1, p.2) (λ rs h.
    let begun = rw c.in-Some.is at h in
    refused_by_records c.context.result (records_of rs) c.args.rec _ c.in_err-test_record-in-Some.ensures.first_fault (c.context.ensures.of_records (records_of rs) begun))
