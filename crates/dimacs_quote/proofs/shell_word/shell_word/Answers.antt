use Rattle.std.proofs.Common.{rules, ◌≡◌, subst}
use Rattle.std.specs.List.{All}
use Rattle.dimacs_quote.specs.ShellWords.{IsPlain, Reads, path_of}
use Rattle.dimacs_quote.proofs.WordLemmas.{plain_reads}
use Rattle.dimacs_quote.proofs.shell_word.shell_word.Goals as goal

pub returns-then-are_plain : goal.returns-then-are_plain
returns-then-are_plain c =
    let path = c.in_ok-path.path.items in
    let e : path ≡ path_of c.args.name.now = search rules in
    let all : All IsPlain path = search rules in
    subst (Reads path) e (plain_reads path all)
