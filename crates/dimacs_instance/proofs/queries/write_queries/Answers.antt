use Rattle.std.proofs.{Common.{ap, ◌∷◌, [], refl, take, arith}, lemmas.List.{take_all}}
use Rattle.dimacs_records.specs.declared.records.Record.TheVariants.{QueriesProblem}
use Rattle.dimacs_records.proofs.{ReadLaws.{spells_one_value}, WrittenLemmas.{line_after, lines_after, lines_of_list}}
use Rattle.dimacs_instance.specs.QueryTexts.{asked, canonical_queries, query_lines}
use Rattle.dimacs_instance.proofs.QueriesLemmas.{queries_round_trip, one_queries}
use Rattle.dimacs_instance.proofs.queries.write_queries.Goals as goal

pub returns-clause-puts : goal.returns-clause-puts
returns-clause-puts g c =
    let start = g.S.Sink.seen c.args.sink.now in
    let rs = query_lines (asked c.args.queries.now) in
    let problem = QueriesProblem c.kind.result c.len.result in
    let n = c.len-2.result in
    let first = line_after start _ _ [] problem (c.write_problem.ensures start [] (c.new-output.ensures.written start)) in
    let all = c.write_lines.ensures (λ i. take i rs) (lines_of_list _ n rs (omega (arith, c.len-2.ensures)) (λ i rec within e. e)) start _ first in
    rw (take_all n rs (omega (arith, c.len-2.ensures)), c.kind.ensures, c.len.ensures) at (c.finish.ensures start _ (lines_after start _ _ [] (problem ∷ []) (take n rs) _ refl all))

pub returns-clause-round_trip : goal.returns-clause-round_trip
returns-clause-round_trip g c = queries_round_trip (asked c.args.queries.now)

pub returns-clause-same_text : goal.returns-clause-same_text
returns-clause-same_text g c = λ lawful read spelled. ap canonical_queries (spells_one_value _ _ _ read _ one_queries spelled (queries_round_trip _ lawful))
