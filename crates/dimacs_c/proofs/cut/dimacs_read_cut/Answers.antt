use Rattle.std.proofs.Common.{Some, ap, codes, refl}
use Rattle.dimacs_records.specs.declared.kinds.TextKind.TheVariants.{Cut}
use Rattle.dimacs_claims.specs.Cuts.{CutValue, SpellsCut, empty_cut}
use Rattle.dimacs_fill.specs.{CutFilled.{ReadsCutInto, inside_of}, Filling.{IsFilled}}
use Rattle.dimacs_c.specs.{Calls.{handed}, Reading.{SetsLength}}
use Rattle.dimacs_c.proofs.ReadLemmas.{read_memory, was_unread}
use Rattle.dimacs_c.proofs.cut.dimacs_read_cut.Goals as goal

pub returns-in-Err : goal.returns-in-Err
returns-in-Err c =
    let text = c.args.text.now in
    let reads = c.in-Err.ensures.reads text (ap Some c.new.ensures) in
    was_unread (ReadsCutInto text (c.args.inside.now, c.read_cut_into.new.inside)) (SetsLength 0) (codes "certificate") c.in-Err.error reads
    (read_memory Cut text (SpellsCut text) (empty_cut 0) (λ (c : CutValue). c.nodes) (λ (cut : CutValue). IsFilled (inside_of cut) (c.args.inside.now, c.read_cut_into.new.inside)) c.in-Err.error reads) refl refl
    c.end_unread.result (handed c.args.out.now c.end_unread.new.out c.end_unread.new.needed) c.end_unread.ensures
