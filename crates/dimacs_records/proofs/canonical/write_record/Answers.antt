use Rattle.dimacs_records.proofs.canonical.write_record.Goals as goal

pub returns-in-MaxProblem : goal.returns-in-MaxProblem
returns-in-MaxProblem g c start text h = rw c.in-MaxProblem.is (c.write_problem.ensures start text h)

pub returns-in-MinProblem : goal.returns-in-MinProblem
returns-in-MinProblem g c start text h = rw c.in-MinProblem.is (c.write_problem-in-MinProblem.ensures start text h)

pub returns-in-GraphProblem : goal.returns-in-GraphProblem
returns-in-GraphProblem g c start text h = rw c.in-GraphProblem.is (c.write_problem-in-GraphProblem.ensures start text h)

pub returns-in-CutProblem : goal.returns-in-CutProblem
returns-in-CutProblem g c start text h = rw c.in-CutProblem.is (c.write_problem-in-CutProblem.ensures start text h)

pub returns-in-PotentialsProblem : goal.returns-in-PotentialsProblem
returns-in-PotentialsProblem g c start text h = rw c.in-PotentialsProblem.is (c.write_problem-in-PotentialsProblem.ensures start text h)

pub returns-in-LabelsProblem : goal.returns-in-LabelsProblem
returns-in-LabelsProblem g c start text h = rw c.in-LabelsProblem.is (c.write_problem-in-LabelsProblem.ensures start text h)

pub returns-in-DistancesProblem : goal.returns-in-DistancesProblem
returns-in-DistancesProblem g c start text h = rw c.in-DistancesProblem.is (c.write_problem-in-DistancesProblem.ensures start text h)
