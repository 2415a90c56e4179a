use Rattle.dimacs_c.proofs.CommandLemmas.{explained_ends}
use Rattle.dimacs_c.proofs.command.explain_job.Goals as goal

pub returns-in-Ok : goal.returns-in-Ok
returns-in-Ok c =
    let old = c.in_ok-ran.ran in
    let new = c.explain_in_memory.new.ran in
    let texts = c.args.texts in
    let ends = explained_ends c.args.job c.args.unread texts.first.now texts.second.now texts.third.now old.status old.made.bytes old.more.bytes old.printed.bytes new.printed.bytes c.in_ok-ran.ensures.ends c.in-Ok.ensures.explained in
    rw (c.explain_in_memory.ensures.status, c.explain_in_memory.ensures.made, c.explain_in_memory.ensures.more) ends
