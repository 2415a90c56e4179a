use Rattle.std.proofs.Common.{inl, inr, map, refl}
use Rattle.std.specs.String.{string_bytes}
use Rattle.dimacs_jobs.specs.declared.jobs.Request.TheVariants.{Run, Explain}
use Rattle.dimacs_c.proofs.command.run.Goals as goal

pub returns-in-None : goal.returns-in-None
returns-in-None c = inr (inl ((λ job. (c.in-None.ensures.not_requested (Run job), c.in-None.ensures.not_requested (Explain job))), refl, refl))

pub returns-in-Some-HelpOn : goal.returns-in-Some-HelpOn
returns-in-Some-HelpOn c =
    let law = c.words_ask_for_one_thing.ensures (map string_bytes c.args.arguments.now) in
    inr (inl (law.0 c.in-Some-HelpOn.field-0 (rw c.in-Some-HelpOn.field-0-is tt) c.in-Some-HelpOn.ensures.requested, refl, refl))
