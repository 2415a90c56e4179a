use Rattle.std.proofs.Common.{Some, ap, codes, refl}
use Rattle.dimacs_records.specs.declared.kinds.TextKind.TheVariants.{Min}
use Rattle.dimacs_instance.specs.MinTexts.{SpellsMin}
use Rattle.dimacs_fill.specs.MinFilled.{HoldMin, ReadsMinInto, min_sizes}
use Rattle.dimacs_c.specs.{Calls.{handed}, Reading.{SetsMin}}
use Rattle.dimacs_c.proofs.ReadLemmas.{arcs_memory, was_unread}
use Rattle.dimacs_c.proofs.read_instance.dimacs_read_min.Goals as goal

pub returns-in-Err : goal.returns-in-Err
returns-in-Err c =
    let text = c.args.text.now in
    let reads = c.in-Err.ensures.reads text (ap Some c.new.ensures) in
    was_unread (ReadsMinInto text (c.args.tails.now, c.read_min_into-read.new.tails) (c.args.heads.now, c.read_min_into-read.new.heads) (c.args.lows.now, c.read_min_into-read.new.lows) (c.args.caps.now, c.read_min_into-read.new.caps) (c.args.costs.now, c.read_min_into-read.new.costs) (c.args.supplies.now, c.read_min_into-read.new.supplies)) (SetsMin 0 0 0) (codes "instance") c.in-Err.error reads
    (arcs_memory Min text (SpellsMin text) min_sizes (HoldMin (c.args.tails.now, c.read_min_into-read.new.tails) (c.args.heads.now, c.read_min_into-read.new.heads) (c.args.lows.now, c.read_min_into-read.new.lows) (c.args.caps.now, c.read_min_into-read.new.caps) (c.args.costs.now, c.read_min_into-read.new.costs) (c.args.supplies.now, c.read_min_into-read.new.supplies)) c.in-Err.error reads) (refl, refl, refl) (refl, refl, refl)
    c.end_unread.result (handed c.args.out.now c.end_unread.new.out c.end_unread.new.needed) c.end_unread.ensures
