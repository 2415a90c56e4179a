use Rattle.std.specs.{Prelude.{codes}, String.{string_bytes}}
use Rattle.std.proofs.Common.{◌∙◌}
use Rattle.dimacs_jobs.proofs.{ArgumentLemmas.{two_arguments}, RequestLemmas.{no_help_after, no_help_before}}
use Rattle.dimacs_jobs.proofs.arguments.helped.Goals as goal

pub returns-in-help-default-clause-not_asked : goal.returns-in-help-default-clause-not_asked
returns-in-help-default-clause-not_asked c =
    no_help_before c.command-in-help-default.result _ c.as_str-2.result.now
    (two_arguments string_bytes c.args.arguments.now c.first-item.result c.second-item.result (codes "help") c.as_str-2.result.now c.in-len2.len_at_least c.in-len2.len_below
    c.first-item.is c.second-item.is (rw (← c.in-help-default.is-help-0) c.as_str.ensures.value) c.as_str-2.ensures.value)
    c.in-help-default.not-text-1 c.in-help-default.not-text-2-1 c.command-in-help-default.ensures.not_named

pub returns-in_default-text-clause-not_asked : goal.returns-in_default-text-clause-not_asked
returns-in_default-text-clause-not_asked c =
    no_help_after c.command.result _ c.as_str.result.now c.as_str-2.result.now
    (two_arguments string_bytes c.args.arguments.now c.first-item.result c.second-item.result _ _ c.in-len2.len_at_least c.in-len2.len_below c.first-item.is c.second-item.is
    c.as_str.ensures.value c.as_str-2.ensures.value) c.command.ensures.not_named
