use Rattle.std.proofs.Common.{refl}
use Rattle.std.specs.String.{string_bytes}
use Rattle.dimacs_c.proofs.RequestLemmas.{tells}
use Rattle.dimacs_c.proofs.request.answer.Goals as goal

pub returns-in-Nothing : goal.returns-in-Nothing
returns-in-Nothing c =
    tells string_bytes c.args.words.now c.args.same.now c.in-Some.arguments.items c.deref.result.now c.in_ok-text.field-0 2 (string_bytes c.in-Nothing.text) (rw c.in-Some.is at c.in_ok-arguments.ensures)
    c.deref.ensures.value c.in_ok-text.ensures (rw c.in-Nothing.is (refl, refl))

pub returns-in-Text : goal.returns-in-Text
returns-in-Text c =
    tells string_bytes c.args.words.now c.args.same.now c.in-Some.arguments.items c.deref.result.now c.in_ok-text.field-0 0 (string_bytes c.in-Text.text) (rw c.in-Some.is at c.in_ok-arguments.ensures)
    c.deref.ensures.value c.in_ok-text.ensures (rw c.in-Text.is (refl, refl))

pub returns : goal.returns
returns c =
    tells string_bytes c.args.words.now c.args.same.now c.in-Some.arguments.items c.deref.result.now c.in_ok-text.field-0 6 (string_bytes c.in_ok-plan-in-Run.field-0)
    (rw c.in-Some.is at c.in_ok-arguments.ensures) c.deref.ensures.value c.in_ok-text.ensures (rw c.in-Run.is (refl, c.in_ok-plan-in-Run.ensures))
