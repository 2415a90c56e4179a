use Rattle.std.proofs.{Common.{◌≡◌, Option, None, Some, Ok, refl, subst, false}, lemmas.Result.{err_from_is_err_and}}
use Rattle.std.specs.Prelude.{is_some}
use Rattle.dimacs_lines.specs.Reader.{text_left}
use Rattle.dimacs_records.specs.inside.Driver.{ReadsNext}
use Rattle.dimacs_records.proofs.driver.read_lines.Goals as goal

pub returns-in_err-take_held-clause-reads : goal.returns-in_err-take_held-clause-reads
returns-in_err-take_held-clause-reads g c = λ all h.
    let p = err_from_is_err_and c.from_residual.result c.from_residual.ensures.1 in
    rw (p.1, p.2) (c.in_err-take_held.ensures.reads all (g.S.Source.coming c.loop-lines.source) (c.loop-lines.invariant.read all h))

pub returns-in_err-read_line-clause-reads : goal.returns-in_err-read_line-clause-reads
returns-in_err-read_line-clause-reads g c = λ all h.
    let p = err_from_is_err_and c.from_residual-in_err-read_line.result c.from_residual-in_err-read_line.ensures.1 in
    let held = c.in_ok-take_held.ensures.reads all (g.S.Source.coming c.loop-lines.source) (c.loop-lines.invariant.read all h) in
    rw (p.1, p.2) (c.in_err-read_line.ensures.reads all held)

pub returns-then-is_none-clause-within_limit : goal.returns-then-is_none-clause-within_limit
returns-then-is_none-clause-within_limit g c = rw c.given-count.ensures (c.in_ok-take_held.ensures.within_limit c.loop-lines.invariant.within_limit)

none_of : {X : Type 0} → (o : Option X) → is_some o ≡ false → o ≡ None
none_of None h = refl
none_of (Some x) h = absurd (cc)

pub returns-then-is_none-clause-reads : goal.returns-then-is_none-clause-reads
returns-then-is_none-clause-reads g c = λ all h.
    let held = c.in_ok-take_held.ensures.reads all (g.S.Source.coming c.loop-lines.source) (c.loop-lines.invariant.read all h) in
    let later = text_left c.read_line.new.lines (g.S.Source.coming c.read_line.new.source) in
    let none : c.in_ok-read_line.field-0 ≡ None = none_of c.in_ok-read_line.field-0 c.if-is_none.ensures in
    let read : ReadsNext c.args.kind all c.take_held.new.lines.given later (g.R.Reading.stands_for c.read_line.new.reading) (Ok None) =
    subst (λ answer. ReadsNext c.args.kind all c.take_held.new.lines.given later (g.R.Reading.stands_for c.read_line.new.reading) (Ok answer)) none (c.in_ok-read_line.ensures.reads all held) in
    rw c.given-count.ensures read
