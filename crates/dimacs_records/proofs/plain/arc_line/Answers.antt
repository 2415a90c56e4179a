use Rattle.std.proofs.{Common.{[], ◌∷◌, refl, rules, subst, sym, SFits, w64}, lemmas.Int.{to_z-of_z}}
use Rattle.dimacs_records.specs.{Forms.{Id, Whole, form}, inside.Plain.{IsPlainLine}}
use Rattle.dimacs_records.proofs.PlainRecords.{ends_stand, plain_spells}
use Rattle.dimacs_records.proofs.plain.arc_line.Goals as goal

pub returns : goal.returns
returns c =
    let bytes = c.args.bytes.now in
    let letter = c.args.letter in
    let start = c.in_ok-numbers.ensures.left in
    let tail = c.in_ok-tail in
    let head = c.in_ok-head in
    let number = c.in_ok-number in
    let fits : SFits w64 number.number = search rules in
    let types = Id ∷ Id ∷ Whole ∷ [] in
    let size = c.size.new.self.at in
    let spells = rw (to_z-of_z w64 number.number fits) at c.in_ok-rec.ensures in
    let line = ends_stand bytes letter tail.tail head.head c.id.new.self.at c.id-2.new.self.at size number.number c.in_ok-numbers.ensures.begins
    (rw start at tail.ensures.stands) tail.ensures.range (rw (tail.ensures.bytes, start) at head.ensures.stands) head.ensures.range
    (rw (head.ensures.bytes, tail.ensures.bytes, start) at number.ensures.stands) fits in
    rw c.at-size.ensures
    (plain_spells c.args.kind (form (letter ∷ []) types) bytes letter size c.in_ok-rec.rec spells.among spells.of_kind spells.of_letter refl refl (subst (λ parts. IsPlainLine bytes letter types parts size) (sym spells.parts) line))
