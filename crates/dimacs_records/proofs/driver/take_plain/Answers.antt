use Rattle.std.proofs.{Common.{◌≡◌, ◌+◌, ◌<◌, length, drop, length-drop, arith, Ok, Err, ◌∙◌}, lemmas.List.{drop-drop}}
use Rattle.std.proofs.lemmas.Slice.{between_to_end}
use Rattle.dimacs_lines.specs.Limits.{most_lines}
use Rattle.dimacs_records.specs.{inside.Plain.{SpellsFirst}, Spelling.{texts_in}}
use Rattle.dimacs_records.proofs.{HeldLines.{one_more_whole, plain_step}, TakenLines.{one_taken}}
use Rattle.dimacs_records.proofs.driver.take_plain.Goals as goal

pub returns-in-Err-clause-takes : goal.returns-in-Err-clause-takes
returns-in-Err-clause-takes g c = λ all coming h.
    let line = c.in-Some.line in
    let loop = c.loop-line in
    let bytes = drop loop.bytes c.args.held.now in
    let given = c.args.given + loop.lines in
    let spells : SpellsFirst c.args.kind bytes line.rec line.size = rw (between_to_end c.args.held.now loop.bytes (length c.args.held.now) (omega (arith, loop.invariant.within))) at c.in-Some.ensures in
    let next : c.args.given + (loop.lines + 1) ≡ given + 1 = omega arith in
    let few : given < most_lines = omega (arith, loop.invariant.few, loop.invariant.within, c.requires.within_limit, spells.size_is, spells.within, length-drop loop.bytes c.args.held.now) in
    rw (c.at_line.ensures, next)
    (plain_step c.args.kind all bytes given line.size coming line.rec (g.R.Reading.stands_for loop.reading) (g.R.Reading.stands_for c.take.new.self) (Err c.in-Err.error) spells few (loop.invariant.read all coming h)
    c.in-Err.ensures.allowed c.in-Err.ensures.taken c.in-Err.ensures.refused)

pub loop-line-preserved : goal.loop-line-preserved
loop-line-preserved g c =
    let line = c.in-Some.line in
    let loop = c.loop-line in
    let held = c.args.held.now in
    let bytes = drop loop.bytes held in
    let given = c.args.given + loop.lines in
    let spells : SpellsFirst c.args.kind bytes line.rec line.size = rw (between_to_end c.args.held.now loop.bytes (length c.args.held.now) (omega (arith, loop.invariant.within))) at c.in-Some.ensures in
    let next : c.args.given + (loop.lines + 1) ≡ given + 1 = omega arith in
    let few : given < most_lines = omega (arith, loop.invariant.few, loop.invariant.within, c.requires.within_limit, spells.size_is, spells.within, length-drop loop.bytes held) in
    record {
      kind = c.take.ensures.kind ∙ loop.invariant.kind;
      within = omega (arith, loop.invariant.within, spells.within, length-drop loop.bytes held);
      whole = one_more_whole c.args.kind held loop.bytes loop.lines line.size line.rec loop.invariant.whole spells;
      few = omega (arith, loop.invariant.few, spells.size_is);
      read = λ all coming h.
          let step = plain_step c.args.kind all bytes given line.size coming line.rec (g.R.Reading.stands_for loop.reading) (g.R.Reading.stands_for c.take.new.self) (Ok c.in_default-take.field-0) spells few (loop.invariant.read all coming h)
          c.in_default-take.ensures.allowed (rw next at c.in_default-take.ensures.taken) c.in_default-take.ensures.refused in
          rw (next, ← drop-drop line.size loop.bytes held) step;
      spelled = λ before.
          let there : c.args.given + loop.lines + 1 ≡ c.args.given + (loop.lines + 1) = omega arith in
          one_taken c.args.kind (c.args.given + (loop.lines + 1)) line.rec (g.R.Reading.stands_for loop.reading) (g.R.Reading.stands_for c.take.new.self) (record { texts = texts_in spells.line; spelled = spells.reads.1 }) c.in_default-take.ensures.taken (rw there at (loop.invariant.spelled before));
      fixed = c.take.ensures.fixed ∙ loop.invariant.fixed;
      kept = λ value keeps. loop.invariant.kept value (c.take.ensures.kept value keeps);
    }
