use Rattle.std.specs.{Prelude.{codes}, String.{string_bytes}}
use Rattle.std.proofs.{lemmas.Slice.Eq.{bytes_eq-Decides}, Common.{sym, ◌∙◌}}
use Rattle.dimacs_jobs.proofs.ArgumentLemmas.{limited, two_arguments}
use Rattle.dimacs_jobs.proofs.arguments.limit.Goals as goal

pub returns-in-len2-clause-limit : goal.returns-in-len2-clause-limit
returns-in-len2-clause-limit c =
    limited c.limit_in.result _ c.as_bytes.result.now
    (two_arguments string_bytes c.args.options.now c.option-item.result c.number-item.result _ _ c.in-len2.len_at_least c.in-len2.len_below c.option-item.is c.number-item.is
    (sym ((bytes_eq-Decides c.as_str.result.now (codes "--limit")).0 (sym c.if-eq.ensures)) ∙ c.as_str.ensures.value) c.as_bytes.ensures.value) c.limit_in.ensures.spelled
