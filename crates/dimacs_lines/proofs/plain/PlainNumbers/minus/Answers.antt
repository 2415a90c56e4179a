use Rattle.std.proofs.Common.{◌≡◌, ◌+◌, ◌-◌, ◌%◌, ◌<◌, ℕ, inl, inr, bit_and, get_or, refl, ap, sym, ◌∙◌, arith}
use Rattle.std.proofs.lemmas.Bool.{cases_eq, cases_lt, eq-eqb, le-ltb, lt-ltb, ne_eqb}
use Rattle.std.specs.Int.Bits.{and_self}
use Rattle.dimacs_lines.specs.{Plain.{NumbersLeft}, inside.Plain.{ends_from}}
use Rattle.dimacs_lines.proofs.EndMarks.{ends_after_minus, ends_fit}
use Rattle.dimacs_lines.proofs.plain.PlainNumbers.minus.Goals as goal

kept : (ends : ℕ) → ends < 4294967296 → bit_and ends ((ends + (4294967296 - 0)) % 4294967296) ≡ ends
kept ends few =
    let same : (ends + (4294967296 - 0)) % 4294967296 ≡ ends = omega (arith, few) in
    ap (bit_and ends) same ∙ and_self ends

pub invariant_of-self : goal.invariant_of-self
invariant_of-self c =
    let bytes = c.self.inside.bytes.now in
    let start = c.self.inside.start in
    let at = c.self.inside.at in
    let ends = c.self.inside.ends in
    let room = c.self.invariant.0 in
    let is = c.self.invariant.2 in
    let place : c.at.result ≡ start + at = c.at.ensures ∙ ap (λ (n : NumbersLeft). n.at) (sym c.self.view_is) in
    let few : ends < 4294967296 = rw is (ends_fit bytes start at room) in
    let still : at ≡ at + 0 = omega arith in
    let stays = kept ends few ∙ is ∙ ap (ends_from bytes start) still in
    elim (cases_lt at 32) [
      | inl early ↦ elim (cases_eq (get_or bytes c.at.result 0) 45) [
        | inl minus ↦
            let one : c.from.result ≡ 1 = c.from.ensures ∙ rw (lt-ltb at 32 early, eq-eqb _ 45 minus) refl in
            let one-2 : c.from-2.result ≡ 1 = c.from-2.ensures ∙ rw (lt-ltb at 32 early, eq-eqb _ 45 minus) refl in
            rw (one, one-2) (room, omega (arith, early), ap (λ n. bit_and n ((n + 4294967295) % 4294967296)) is ∙ ends_after_minus bytes start at room early (rw place at minus))
        | inr other ↦
            let none : c.from.result ≡ 0 = c.from.ensures ∙ rw (lt-ltb at 32 early, ne_eqb _ 45 other) refl in
            let none-2 : c.from-2.result ≡ 0 = c.from-2.ensures ∙ rw (lt-ltb at 32 early, ne_eqb _ 45 other) refl in
            rw (none, none-2) (room, omega (arith, early), stays)
      ]
      | inr late ↦
          let none : c.from.result ≡ 0 = c.from.ensures ∙ rw (le-ltb at 32 late) refl in
          let none-2 : c.from-2.result ≡ 0 = c.from-2.ensures ∙ rw (le-ltb at 32 late) refl in
          rw (none, none-2) (room, omega (arith, c.self.invariant.1), stays)
    ]
