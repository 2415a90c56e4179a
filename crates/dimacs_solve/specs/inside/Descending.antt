-- Inside: one step of a descent.
use Rattle.std.specs.Prelude.{◌≡◌, List, ℤ}
use Rattle.dimacs_claims.specs.Potentials.{potential_of}
use Rattle.dimacs_instance.specs.MinFlows.{MinValue}
use Rattle.dimacs_judging.specs.{InfeasibleJudge.{ShowsNoFlow}, Optimum.{Least}, Potentials.{Slack}}
use Rattle.dimacs_decide.specs.Bounds.{KeepsBounds}
use Rattle.dimacs_solve.specs.{declared.question.Reply.{Reply}, Descending.{IsBetter}}
use Rattle.dimacs_solve.specs.declared.question.Reply.TheVariants as replies

-- the reply about a flow
abbrev pub IsReply : MinValue → List ℤ → Reply → Type 0
IsReply i x (replies.Optimal p) = Least i x × Slack i.arcs x (potential_of p) × (p.nodes ≡ i.nodes)
IsReply i x (replies.Infeasible set) = ShowsNoFlow i set
IsReply i x (replies.Better y) = (¬ Least i x) × KeepsBounds i.arcs y × IsBetter i x y
