use Rattle.std.proofs.Common.{Some, ap, codes, refl}
use Rattle.dimacs_records.specs.declared.kinds.TextKind.TheVariants.{Max}
use Rattle.dimacs_instance.specs.MaxTexts.{SpellsMax}
use Rattle.dimacs_fill.specs.MaxFilled.{HoldMax, ReadsMaxInto, max_sizes}
use Rattle.dimacs_c.specs.{Calls.{handed}, Reading.{SetsMax}}
use Rattle.dimacs_c.proofs.ReadLemmas.{arcs_memory, was_unread}
use Rattle.dimacs_c.proofs.read_instance.dimacs_read_max.Goals as goal

pub returns-in-Err : goal.returns-in-Err
returns-in-Err c =
    let text = c.args.text.now in
    let reads = c.in-Err.ensures.reads text (ap Some c.new.ensures) in
    was_unread (ReadsMaxInto text (c.args.tails.now, c.read_max_into.new.tails) (c.args.heads.now, c.read_max_into.new.heads) (c.args.caps.now, c.read_max_into.new.caps)) (SetsMax 0 0 0 0) (codes "instance") c.in-Err.error reads
    (arcs_memory Max text (SpellsMax text) max_sizes (HoldMax (c.args.tails.now, c.read_max_into.new.tails) (c.args.heads.now, c.read_max_into.new.heads) (c.args.caps.now, c.read_max_into.new.caps)) c.in-Err.error reads) (refl, refl, refl, refl) (refl, refl, refl, refl)
    c.end_unread.result (handed c.args.out.now c.end_unread.new.out c.end_unread.new.needed) c.end_unread.ensures
