use Rattle.std.proofs.{Common.{[], ◌∷◌, drop, map}, lemmas.List.{length-map}}
use Rattle.std.specs.String.{string_bytes}
use Rattle.dimacs_runs.proofs.{MakingLemmas.{makes_nothing, makes_of_files}, NameLemmas.{first_two_names, last_name}}
use Rattle.dimacs_runs.proofs.runs_that_make.make_of_claim.Goals as goal

pub returns-in_err-outcome : goal.returns-in_err-outcome
returns-in_err-outcome g c =
    let read = first_two_names string_bytes c.args.names.now c.instance-item.result c.claim-item.result c.as_str.result.now c.as_str-2.result.now c.requires.at_least c.instance-item.is c.claim-item.is c.as_str.ensures.value c.as_str-2.ensures.value in
    record { runs = rw read (makes_nothing (c.as_str.result.now ∷ c.as_str-2.result.now ∷ []) (drop 2 (map string_bytes c.args.names.now)) _ c.in_err-outcome.ensures.answers c.from_residual.ensures.1) }

pub returns : goal.returns
returns g c =
    let read = first_two_names string_bytes c.args.names.now c.instance-item.result c.claim-item.result c.as_str.result.now c.as_str-2.result.now c.requires.at_least c.instance-item.is c.claim-item.is c.as_str.ensures.value c.as_str-2.ensures.value in
    let created = last_name (λ name. name.now) 2 (map string_bytes c.args.names.now) c.name_at.result (rw (length-map c.args.names.now string_bytes) c.requires.at_most) c.name_at.ensures in
    record { runs = rw (read, ← created) (makes_of_files (c.as_str.result.now ∷ c.as_str-2.result.now ∷ []) _ c.in_ok-outcome.outcome c.in_ok-outcome.ensures.answers c.write_outcome_file.ensures.writes) }
