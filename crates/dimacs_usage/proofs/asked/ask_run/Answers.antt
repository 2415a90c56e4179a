use Rattle.std.proofs.Common.{◌≡◌, false, map, true}
use Rattle.std.specs.String.{string_bytes}
use Rattle.dimacs_usage.specs.Slips.{IsSolver, IsStopped}
use Rattle.dimacs_usage.proofs.{StopLemmas.{all_stopped}, asked.ask_run.Goals.{else-explains, then-explains}}
use Rattle.dimacs_usage.proofs.asked.ask_run.Goals as goal

pub returns-in_ok-complaint_of_slip-in-Some : goal.returns-in_ok-complaint_of_slip-in-Some
returns-in_ok-complaint_of_slip-in-Some c =
    let solved : IsSolver c.args.job.verb → c.args.explains ≡ true = λ solver. elim c.if-explains.branch [
      | then-explains w ↦ w.if-explains.true
      | else-explains w ↦
          let solves : w.solves.result ≡ true = w.solves.ensures.1 solver in
          let never : false ≡ true = rw (w.value-is, solves) at c.if-not-solves.true in
          absurd cc
    ] in
    let slip = c.in-Some.ensures.slip in
    let stopped : IsStopped c.args.job c.args.explains c.args.same.now = ((slip.0, slip.2), solved) in
    all_stopped c.words_ask_for_one_thing.ensures (map string_bytes c.args.arguments.now) c.args.same.now c.args.job c.args.explains c.requires stopped
