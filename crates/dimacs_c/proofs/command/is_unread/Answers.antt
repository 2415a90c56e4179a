use Rattle.std.proofs.Common.{◌≡◌, ◌+◌, ℕ, arith, subst, sym}
use Rattle.dimacs_runs.specs.InMemory.{Refuses}
use Rattle.dimacs_c.proofs.command.is_unread.Goals as goal

pub returns-in-Some : goal.returns-in-Some
returns-in-Some c =
    let here : c.args.unread ≡ c.in-Some.place + 1 = omega (arith, c.in-Some.ensures) in
    let found = λ (place : ℕ). λ (at : c.args.unread ≡ place + 1). let same : place ≡ c.in-Some.place = omega (arith, at, here) in same in (
      (λ yes. (c.in-Some.place, here, c.refuses_text.ensures.0 yes)),
      λ unread. c.refuses_text.ensures.1 (subst (λ place. Refuses c.args.job.verb place c.args.report.now) (found unread.0 unread.1) unread.2),
    )
