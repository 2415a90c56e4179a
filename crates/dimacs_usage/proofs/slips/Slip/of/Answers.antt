use Rattle.std.specs.String.{string_bytes}
use Rattle.std.proofs.{Common.{◌≡◌, ◌∙◌, ap, length, sym}, lemmas.List.{length-map}}
use Rattle.dimacs_jobs.specs.Jobs.{names_read}
use Rattle.dimacs_usage.proofs.slips.Slip.of.Goals as goal

pub returns-clause-slip : goal.returns-clause-slip
returns-clause-slip c =
    let count : length c.names_read-read.result.now ≡ length (names_read c.args.job) = sym (length-map c.names_read-read.result.now string_bytes) ∙ ap length c.names_read-read.ensures in
    rw (c.names_written.ensures, c.front-kept.ensures, c.after.ensures, c.kept_count.ensures, c.after-files.ensures, c.first_file.ensures, count) at c.first_wrong.ensures.wrong
