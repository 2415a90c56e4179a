use Rattle.std.proofs.{Common.{rules, ◌≡◌, ◌++◌}, lemmas.List.{append_assoc}}
use Rattle.std.specs.Prelude.{codes}
use Rattle.dimacs_quote.specs.ShellWords.{Reads}
use Rattle.dimacs_quote.proofs.shell_word.printed.Goals as goal

pub returns : goal.returns
returns c =
    let format = c.in_ok-format.format.items in
    let e : c.extend_from_slice-3.new.self.items ≡ codes "\"$(printf '" ++ (format ++ codes "')\"") = search (rules, append_assoc) in
    rw e (Reads.printed format c.args.path.now (search rules) c.requires)
