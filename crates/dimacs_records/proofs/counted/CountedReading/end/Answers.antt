use Rattle.std.proofs.{Common.{◌≡◌, ◌∙◌, [], refl, sym}, lemmas.Result.{err_from_is_err_and}}
use Rattle.dimacs_records.specs.Readings.{records_of}
use Rattle.dimacs_records.proofs.OrderLemmas.{end_refused_by_records, none_at_end}
use Rattle.dimacs_records.proofs.counted.CountedReading.end.Goals as goal

pub returns-in_default-clause-refused : goal.returns-in_default-clause-refused
returns-in_default-clause-refused g c = λ rs h.
    let none : records_of rs ≡ [] = rw (sym c.take.ensures.value ∙ c.in_default.is) at h in
    rw c.refused.ensures (refl, rw none (none_at_end g.B.Builder.kind g.met.B.Builder.has_problem))

pub returns-in_err-test_end-clause-refused : goal.returns-in_err-test_end-clause-refused
returns-in_err-test_end-clause-refused g c =
    let p = err_from_is_err_and c.from_residual.result c.from_residual.ensures.1 in
    let noted = rw c.kind.ensures.kind at c.in_err-test_end.ensures.first_fault in
    rw (p.1, p.2) (λ rs h. end_refused_by_records g.B.Builder.kind c.end_context.result (records_of rs) _ noted (c.end_context.ensures.of_records (records_of rs) (rw (sym c.take.ensures.value ∙ c.in-Some.is) at h)))
