use Rattle.std.proofs.{Common.{◌≡◌, ap, refl, rules, ◌∙◌, length, map, take, arith}, lemmas.Int.{to_z-of_z}}
use Rattle.std.specs.Int.{w128}
use Rattle.dimacs_records.proofs.{ReadLaws.{spells_one_value}, WrittenLemmas.{all_items, lines_of_items}}
use Rattle.dimacs_claims.specs.SolutionTexts.{canonical_solution, claimed, entry_record}
use Rattle.dimacs_claims.proofs.SolutionLemmas.{canonical-renumbered, one_solution, solution_round_trip}
use Rattle.dimacs_claims.proofs.solution.write_solution.Goals as goal

pub returns-clause-puts : goal.returns-clause-puts
returns-clause-puts g c =
    let value = c.args.solution.now.value in
    let entries = c.as_slice-entries.result.now in
    let n = length entries in
    let same : entries ≡ c.args.solution.now.entries.items = search rules in
    rw (all_items entry_record n entries refl, same, to_z-of_z w128 value (search rules)) at (c.put_text.ensures (λ i. take i (map entry_record entries)) (lines_of_items entry_record _ n entries (omega arith) (λ i rec within e. e)))

pub returns-clause-round_trip : goal.returns-clause-round_trip
returns-clause-round_trip g c = solution_round_trip (claimed c.args.solution.now)

pub returns-clause-same_text : goal.returns-clause-same_text
returns-clause-same_text g c = λ lawful read spelled.
    let solution = claimed c.args.solution.now in
    ap canonical_solution (spells_one_value _ _ _ read _ one_solution spelled (solution_round_trip solution lawful)) ∙ canonical-renumbered solution
