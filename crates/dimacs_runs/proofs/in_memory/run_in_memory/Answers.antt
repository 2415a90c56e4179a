use Rattle.std.proofs.Common.{Some, ap}
use Rattle.dimacs_runs.specs.{Certified.{Certified}, Outputs.{WritesAlike}, Spread.{Spreads}}
use Rattle.dimacs_runs.proofs.InMemoryLemmas.{one_made}
use Rattle.dimacs_runs.proofs.in_memory.run_in_memory.Goals as goal

pub returns-in-Convert : goal.returns-in-Convert
returns-in-Convert c = record { makes = rw c.in-Convert.is c.print.ensures.reports; kept = c.print.ensures.kept }

pub returns-in-Show : goal.returns-in-Show
returns-in-Show c = record { makes = rw c.in-Show.is c.print-in-Show.ensures.reports; kept = c.print-in-Show.ensures.kept }

pub returns-in-Certify : goal.returns-in-Certify
returns-in-Certify c =
    let a = c.args.texts.first.now in
    let b = c.args.texts.second.now in
    let may = c.certify_claim.ensures.certifies a b (ap Some c.new-first.ensures) (λ some. ap Some c.new-second.ensures) in
    record { makes = rw c.in-Certify.is (one_made (WritesAlike (Certified c.in-Certify.kind a b)) c.certify_claim.result c.make_one.result may c.make_one.ensures.keeps c.make_one.ensures.one); kept = c.make_one.ensures.kept }

pub returns-in-Spread : goal.returns-in-Spread
returns-in-Spread c =
    let a = c.args.texts.first.now in
    let b = c.args.texts.second.now in
    let may = c.spread_claim.ensures.spreads a b (ap Some c.new-first.ensures) (ap Some c.new-second.ensures) in
    record { makes = rw c.in-Spread.is (one_made (WritesAlike (Spreads c.in-Spread.kind a b)) c.spread_claim.result c.make_one-in-Spread.result may c.make_one-in-Spread.ensures.keeps c.make_one-in-Spread.ensures.one); kept = c.make_one-in-Spread.ensures.kept }
