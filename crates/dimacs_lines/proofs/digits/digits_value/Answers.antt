use Rattle.std.proofs.{Common.{◌-◌, take, drop, sym, ap, subst, ◌∙◌, take-take}, lemmas.List.{take_rest}}
use Rattle.std.specs.Int.Digits.{AllBelowBase, number_from_digits}
use Rattle.dimacs_lines.proofs.PlaceSums.{number_from_digits-zeros, turned, AllBelowBase-digits, AllPass-digits}
use Rattle.dimacs_lines.proofs.digits.digits_value.Goals as goal

pub eight_digits-requires : goal.eight_digits-requires
eight_digits-requires c =
    let count = c.args.count in
    let rest = drop c.args.at c.args.line.now in
    let loaded = ap (take count) (c.load.ensures ∙ ap (take 8) (take_rest c.args.line.now c.args.at)) ∙ take-take count 8 rest c.requires.at_most_eight in
    let is = c.values_on_top.ensures ∙ ap (turned (8 - count)) loaded in
    subst (AllBelowBase 10) (sym is) (AllBelowBase-digits (8 - count) (take count rest) c.requires.digits)

pub returns : goal.returns
returns c =
    let count = c.args.count in
    let rest = drop c.args.at c.args.line.now in
    let loaded = ap (take count) (c.load.ensures ∙ ap (take 8) (take_rest c.args.line.now c.args.at)) ∙ take-take count 8 rest c.requires.at_most_eight in
    let is = c.values_on_top.ensures ∙ ap (turned (8 - count)) loaded in
    c.eight_digits.ensures ∙ ap (number_from_digits 10) is ∙ number_from_digits-zeros (8 - count) (take count rest) (AllPass-digits (take count rest) c.requires.digits)
