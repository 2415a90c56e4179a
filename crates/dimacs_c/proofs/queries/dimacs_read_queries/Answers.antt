use Rattle.std.proofs.Common.{[], Some, ap, codes, refl}
use Rattle.dimacs_instance.specs.QueryTexts.{Sources, SpellsQueries}
use Rattle.dimacs_fill.specs.QueriesFilled.{HoldQueries, ReadsQueriesInto, query_sizes}
use Rattle.dimacs_c.specs.{Calls.{handed}, Reading.{SetsQueries}}
use Rattle.dimacs_c.proofs.ReadLemmas.{read_memory, was_unread}
use Rattle.dimacs_records.specs.declared.kinds.TextKind.TheVariants as kinds
use Rattle.dimacs_c.proofs.queries.dimacs_read_queries.Goals as goal

pub returns-in-Err : goal.returns-in-Err
returns-in-Err c =
    let text = c.args.text.now in
    let reads = c.in-Err.ensures.reads text (ap Some c.new.ensures) in
    was_unread (ReadsQueriesInto text (c.args.froms.now, c.read_queries_into.new.froms) (c.args.tos.now, c.read_queries_into.new.tos)) (SetsQueries 0 0) (codes "query") c.in-Err.error reads
    (read_memory kinds.Queries text (SpellsQueries text) (Sources []) query_sizes (HoldQueries (c.args.froms.now, c.read_queries_into.new.froms) (c.args.tos.now, c.read_queries_into.new.tos)) c.in-Err.error reads) (refl, refl) (refl, refl)
    c.end_unread.result (handed c.args.out.now c.end_unread.new.out c.end_unread.new.needed) c.end_unread.ensures
