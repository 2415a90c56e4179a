-- One put after another.
use Rattle.std.proofs.Common.{◌≡◌, ◌++◌, ◌+◌, ℕ, List, Option, None, Some, take, drop, refl, ap, sym, ◌∙◌, append_assoc}
use Rattle.std.proofs.{Math.Seq.{take-add}, lemmas.List.{take-append-drop}}
use Rattle.dimacs_lines.specs.{Devices.{after_piece}, Puts.{AcceptsFront}}

-- two pieces after each other are one piece
pub after_piece-after_piece : (old : Option (List ℕ)) (a b : List ℕ) → after_piece (after_piece old a) b ≡ after_piece old (a ++ b)
after_piece-after_piece None a b = refl
after_piece-after_piece (Some held) a b = ap (λ x. Some x) (append_assoc held a b)

pub after_piece-take : (old : Option (List ℕ)) (n k : ℕ) (text : List ℕ) → after_piece (after_piece old (take n text)) (take k (drop n text)) ≡ after_piece old (take (n + k) text)
after_piece-take old n k text = after_piece-after_piece old (take n text) (take k (drop n text)) ∙ ap (after_piece old) (sym (take-add n k text))

pub AcceptsFront-take : (old new : Option (List ℕ)) (k : ℕ) (text : List ℕ) → new ≡ after_piece old (take k text) → AcceptsFront old text new
AcceptsFront-take old new k text h = record { front = take k text; rest = drop k text; whole = sym (take-append-drop k text); accepted = h }

-- the second text after the first
pub AcceptsFront-after : (old mid new : Option (List ℕ)) (before text : List ℕ) → mid ≡ after_piece old before → AcceptsFront mid text new → AcceptsFront old (before ++ text) new
AcceptsFront-after old mid new before text h fronts = record {
  front = before ++ fronts.front;
  rest = fronts.rest;
  whole = ap (λ x. before ++ x) fronts.whole ∙ sym (append_assoc before fronts.front fronts.rest);
  accepted = fronts.accepted ∙ (ap (λ o. after_piece o fronts.front) h ∙ after_piece-after_piece old before fronts.front);
}

-- the first bytes of a text are the first bytes of a longer text
pub AcceptsFront-longer : (old new : Option (List ℕ)) (text more : List ℕ) → AcceptsFront old text new → AcceptsFront old (text ++ more) new
AcceptsFront-longer old new text more fronts = record {
  front = fronts.front;
  rest = fronts.rest ++ more;
  whole = ap (λ x. x ++ more) fronts.whole ∙ append_assoc fronts.front fronts.rest more;
  accepted = fronts.accepted;
}
