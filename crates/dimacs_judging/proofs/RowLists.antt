-- Lists of rows of tests, one list after another.
use Rattle.std.proofs.Common.{inl, inr, List, [], ◌∷◌, ◌++◌}
use Rattle.dimacs_records.specs.declared.reasons.Reason.{Reason}
use Rattle.dimacs_judging.specs.{declared.verdict.Where.{Where}, Tests.{Row, AllClear, First}}
use Rattle.dimacs_judging.proofs.Firsts.{AllOneWay}

-- the first test that fails is in the first list
pub first_in_front : (rows more : List Row) (p : Where) (r : Reason) → First rows p r → First (rows ++ more) p r
first_in_front [] more p r f = absurd f
first_in_front (row ∷ rows) more p r (inl f) = inl f
first_in_front (row ∷ rows) more p r (inr f) = inr (f.0, first_in_front rows more p r f.1)

-- the first list is clear, and the first test that fails is in the second
pub first_after : (rows more : List Row) (p : Where) (r : Reason) → AllClear rows → First more p r → First (rows ++ more) p r
first_after [] more p r clear f = f
first_after (row ∷ rows) more p r clear f = inr (clear.0, first_after rows more p r clear.1 f)

pub all_clear-append : (rows more : List Row) → AllClear rows → AllClear more → AllClear (rows ++ more)
all_clear-append [] more clear all = all
all_clear-append (row ∷ rows) more clear all = (clear.0, all_clear-append rows more clear.1 all)

pub all_one_way-append : (rows more : List Row) → AllOneWay rows → AllOneWay more → AllOneWay (rows ++ more)
all_one_way-append [] more one all = all
all_one_way-append (row ∷ rows) more one all = (one.0, all_one_way-append rows more one.1 all)
