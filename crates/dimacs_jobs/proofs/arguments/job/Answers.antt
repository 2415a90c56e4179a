use Rattle.std.proofs.Common.{◌∙◌, refl}
use Rattle.std.specs.String.{string_bytes}
use Rattle.dimacs_jobs.proofs.VerbLemmas.{job_asked, no_options, too_few}
use Rattle.dimacs_jobs.proofs.arguments.job.Goals as goal

pub returns-then-files-least-clause-not_asked : goal.returns-then-files-least-clause-not_asked
returns-then-files-least-clause-not_asked c =
    let most = rw c.texts-texts.ensures.kinds at c.min.ensures in
    let least = c.least.ensures ∙ rw (c.texts-texts.ensures.kinds, c.texts-texts.ensures.read, c.texts-texts.ensures.writes) refl in
    too_few string_bytes c.in_ok-verb.verb _ c.in_ok-verb.rest.now c.min.result c.in_ok-verb.ensures.named most c.least.result least (rw (← c.in_ok-files.ensures.cases.3) c.if-files-least.true)

pub returns-in_err-verb-2-clause-not_asked : goal.returns-in_err-verb-2-clause-not_asked
returns-in_err-verb-2-clause-not_asked c =
    let most = rw c.texts-texts.ensures.kinds at c.min.ensures in
    rw c.from_residual-in_err-verb-2.ensures (no_options string_bytes c.in_ok-verb.verb _ c.in_ok-verb.rest.now c.min.result c.in_ok-verb.ensures.named most c.in_ok-files.options.now c.in_ok-files.ensures.cases.2 c.in_err-verb-2.ensures.not_given)

pub returns-clause-asked : goal.returns-clause-asked
returns-clause-asked c =
    let most = rw c.texts-texts.ensures.kinds at c.min.ensures in
    let least = rw (c.least.ensures, c.texts-texts.ensures.kinds, c.texts-texts.ensures.read, c.texts-texts.ensures.writes) at c.if-files-least.false in
    job_asked string_bytes c.in_ok-verb.verb _ c.in_ok-verb.rest.now c.min.result c.in_ok-verb.ensures.named most c.in_ok-verb-2.verb c.in_ok-files.files.now c.in_ok-files.options.now
    c.in_ok-verb-2.ensures.given.0 c.in_ok-files.ensures.cases.1 c.in_ok-files.ensures.cases.2 c.in_ok-files.ensures.cases.3 least c.in_ok-verb-2.ensures.given.1
