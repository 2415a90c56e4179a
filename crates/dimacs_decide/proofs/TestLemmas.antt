-- What passed tests show.
use Rattle.std.proofs.{Common.{List, Result, Ok, Err, refl}, lemmas.Bool.{false≢true}}
use Rattle.std.specs.Prelude.{IsTrue, is_ok}
use Rattle.dimacs_records.specs.declared.reasons.Reason.{Reason}
use Rattle.dimacs_judging.specs.{declared.verdict.Where.{Where}, Tests.{Row, Decides}}

-- if no test fails, the statement holds
pub holds : {P : Type 0} (rows : List Row) (tested : Result Unit (Where × Reason)) → Decides P rows tested → IsTrue (is_ok tested) → P
holds rows (Ok done) decided ok = decided
holds rows (Err refusal) decided ok = absurd (false≢true ok)

-- if the statement holds, no test fails
pub passes : {P : Type 0} (rows : List Row) (tested : Result Unit (Where × Reason)) → Decides P rows tested → P → IsTrue (is_ok tested)
passes rows (Ok done) decided statement = refl
passes rows (Err refusal) decided statement = absurd (decided.1 statement)
