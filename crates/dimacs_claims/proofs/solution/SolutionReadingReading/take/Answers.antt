use Rattle.std.proofs.{Common.{w64, rules}, lemmas.Int.{to_z-of_z}, lemmas.Result.{err_from_is_err_and}}
use Rattle.std.specs.Int.{w128}
use Rattle.dimacs_records.specs.{declared.records.Record.TheVariants.{SolutionValue}, Readings.{records_of}}
use Rattle.dimacs_records.proofs.OrderLemmas.{refused_by_records}
use Rattle.dimacs_claims.specs.{declared.place.Entry.{Entry}, inside.SolutionReading.{value_context}}
use Rattle.dimacs_claims.proofs.SolutionLemmas.{entry_placed, value_placed, value_by_records}
use Rattle.dimacs_claims.proofs.solution.SolutionReadingReading.take.Goals as goal

pub returns-in_err-test_record-in-SolutionValue-clause-refused : goal.returns-in_err-test_record-in-SolutionValue-clause-refused
returns-in_err-test_record-in-SolutionValue-clause-refused g c =
    let stands = g.P.Place.stands_for c.args.self.now.place in
    let noted = rw c.context.ensures at c.in_err-test_record-in-SolutionValue.ensures.first_fault in
    let p = err_from_is_err_and c.from_residual.result c.from_residual.ensures.1 in
    rw (p.1, p.2, c.in-SolutionValue.is) (λ rs h. refused_by_records (value_context c.args.self.now.value) (records_of rs) (SolutionValue c.in-SolutionValue.value) _ noted (value_by_records stands rs c.args.self.now.value c.in-SolutionValue.value h))

pub returns-in_ok-test_record-in-SolutionValue-clause-allowed : goal.returns-in_ok-test_record-in-SolutionValue-clause-allowed
returns-in_ok-test_record-in-SolutionValue-clause-allowed g c = λ rs h.
    let stands = g.P.Place.stands_for c.args.self.now.place in
    let passes = rw c.context.ensures at c.in_ok-test_record-in-SolutionValue.ensures.passes in
    rw c.in-SolutionValue.is (value_placed stands rs c.args.self.now.value c.args.line c.in-SolutionValue.value passes h).0

pub returns-in_ok-test_record-in-SolutionValue-clause-taken : goal.returns-in_ok-test_record-in-SolutionValue-clause-taken
returns-in_ok-test_record-in-SolutionValue-clause-taken g c = λ rs h before.
    let stands = g.P.Place.stands_for c.args.self.now.place in
    let passes = rw c.context.ensures at c.in_ok-test_record-in-SolutionValue.ensures.passes in
    rw (c.in-SolutionValue.is, to_z-of_z w128 c.in-SolutionValue.value (search rules)) (value_placed stands rs c.args.self.now.value c.args.line c.in-SolutionValue.value passes h).1

pub returns-in_ok-place-in-SolutionEntry-clause-taken : goal.returns-in_ok-place-in-SolutionEntry-clause-taken
returns-in_ok-place-in-SolutionEntry-clause-taken g c = λ rs h before.
    let said = c.in-SolutionEntry in
    let entry : Entry = record { tail = said.tail; head = said.head; flow = said.flow; line = c.args.line } in
    let placed = rw (to_z-of_z w64 said.flow (search rules)) at c.in_ok-place-in-SolutionEntry.ensures.placed in
    rw said.is (entry_placed (g.P.Place.stands_for c.args.self.now.place) rs c.args.self.now.value entry (g.P.Place.stands_for c.place.new.self) placed h).1
