-- Words that ask for a run which a slip stops ask for nothing else.
use Rattle.std.proofs.Common.{◌≡◌, ◌∙◌, Bool, List, true, false, refl, subst, sym, ℕ}
use Rattle.dimacs_jobs.specs.{declared.jobs.Job.{Job}, declared.jobs.Request.{Request}, declared.jobs.Verb.{Verb}}
use Rattle.dimacs_jobs.specs.declared.jobs.Request.TheVariants.{Help, HelpOn, Version, Run, Explain}
use Rattle.dimacs_jobs.specs.declared.jobs.Verb.TheVariants.{Convert, Show, Judge, Certify, Spread, Solve}
use Rattle.dimacs_jobs.specs.{Jobs.{HaveOnePlan, Requests, without_limit}, OneRequest.{OneRequestLaw}}
use Rattle.dimacs_usage.specs.{Answers.{IsForStopped, RequestsRun}, Slips.{IsStopped}}
use Rattle.dimacs_jobs.specs.declared.jobs.SolveJob.TheVariants as solves

-- the same files for another verb
abbrev by : Job → Verb → Job
by job verb = record { verb = verb; files = job.files }

-- a limit has no part in what stops a run
stopped_bare : (verb : Verb) (job : Job) (explains : Bool) (same : List ℕ) → IsStopped (by job verb) explains same → IsStopped (by job (without_limit verb)) explains same
stopped_bare (Solve (solves.Max limit)) job explains same stopped = stopped
stopped_bare (Solve (solves.Min limit)) job explains same stopped = stopped
stopped_bare (Solve solves.Paths) job explains same stopped = stopped
stopped_bare (Convert kind) job explains same stopped = stopped
stopped_bare (Show kind) job explains same stopped = stopped
stopped_bare (Judge kind) job explains same stopped = stopped
stopped_bare (Certify kind) job explains same stopped = stopped
stopped_bare (Spread kind) job explains same stopped = stopped

stopped_limited : (verb : Verb) (job : Job) (explains : Bool) (same : List ℕ) → IsStopped (by job (without_limit verb)) explains same → IsStopped (by job verb) explains same
stopped_limited (Solve (solves.Max limit)) job explains same stopped = stopped
stopped_limited (Solve (solves.Min limit)) job explains same stopped = stopped
stopped_limited (Solve solves.Paths) job explains same stopped = stopped
stopped_limited (Convert kind) job explains same stopped = stopped
stopped_limited (Show kind) job explains same stopped = stopped
stopped_limited (Judge kind) job explains same stopped = stopped
stopped_limited (Certify kind) job explains same stopped = stopped
stopped_limited (Spread kind) job explains same stopped = stopped

stopped_too : (job other : Job) (explains : Bool) (same : List ℕ) → HaveOnePlan job other → IsStopped job explains same → IsStopped other explains same
stopped_too job other explains same (verbs, files) stopped =
    let bare : IsStopped (by job (without_limit job.verb)) explains same = stopped_bare job.verb job explains same stopped in
    let there : IsStopped (by other (without_limit other.verb)) explains same = rw (verbs, files) bare in
    stopped_limited other.verb other explains same there

pub all_stopped : OneRequestLaw → (words : List (List ℕ)) (same : List ℕ) (job : Job) (explains : Bool) → RequestsRun words job explains → IsStopped job explains same
    → (wanted : Request) → Requests words wanted → IsForStopped same wanted
all_stopped law words same job false asked stopped Help other = absurd (((law words).0 Help tt other job).0 asked)
all_stopped law words same job false asked stopped (HelpOn command) other = absurd (((law words).0 (HelpOn command) tt other job).0 asked)
all_stopped law words same job false asked stopped Version other = absurd (((law words).0 Version tt other job).0 asked)
all_stopped law words same job false asked stopped (Run again) other = stopped_too job again false same ((law words).2 job again asked other) stopped
all_stopped law words same job false asked stopped (Explain again) other = absurd ((law words).1 job again asked other)
all_stopped law words same job true asked stopped Help other = absurd (((law words).0 Help tt other job).1 asked)
all_stopped law words same job true asked stopped (HelpOn command) other = absurd (((law words).0 (HelpOn command) tt other job).1 asked)
all_stopped law words same job true asked stopped Version other = absurd (((law words).0 Version tt other job).1 asked)
all_stopped law words same job true asked stopped (Run again) other = absurd ((law words).1 again job other asked)
all_stopped law words same job true asked stopped (Explain again) other = stopped_too job again true same ((law words).3 job again asked other) stopped
