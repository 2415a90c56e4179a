-- Writing through a buffer.
use Rattle.std.proofs.Common.{◌++◌, ℕ, List, [], Bool, true, false, ap, sym, ◌∙◌, subst, append_assoc, refl, ◌≡◌}
use Rattle.std.proofs.lemmas.List.{append-nil}
use Rattle.dimacs_lines.specs.{Devices.{Written, after_piece, one_more}, Puts.{AcceptsFront}}
use Rattle.dimacs_lines.specs.{OutputBuffers.{IsWrittenBy}, inside.OutputBuffers.{IsPut}}
use Rattle.dimacs_lines.proofs.PutLemmas.{after_piece-after_piece, AcceptsFront-after, AcceptsFront-longer}

-- more is held, or nothing after a fault
pub IsWritten-kept : (failed : Bool) (old new : Written) (text kept more : List ℕ) → IsWrittenBy failed old text new kept → IsWrittenBy failed old (text ++ more) new (kept ++ more)
IsWritten-kept false old new text kept more h = record { front = h.front; whole = ap (λ x. x ++ more) h.whole ∙ append_assoc h.front kept more; accepted = h.accepted; sound = h.sound }
IsWritten-kept true old new text kept more h = (AcceptsFront-longer old.accepted new.accepted text more h.0, h.1)

-- what was held is put
pub IsWritten-put : (failed after : Bool) (start old new : Written) (text kept : List ℕ) → IsPut failed old kept after new → IsWrittenBy failed start text old kept → IsWrittenBy after start text new []
IsWritten-put true after start old new text kept put h = rw (put.0, put.1) h
IsWritten-put false true start old new text kept put h =
    (subst (λ x. AcceptsFront start.accepted x new.accepted) (sym h.whole) (AcceptsFront-after start.accepted old.accepted new.accepted h.front kept h.accepted put.0), put.1 ∙ ap one_more h.sound)
IsWritten-put false false start old new text kept put h = record {
  front = text;
  whole = sym (append-nil text);
  accepted = put.0 ∙ (ap (λ o. after_piece o kept) h.accepted ∙ (after_piece-after_piece start.accepted h.front kept ∙ ap (after_piece start.accepted) (sym h.whole)));
  sound = put.1 ∙ h.sound;
}

-- a letter, three fields and an end, one after another
pub line_of_three_fields : (kept letter a b c end : List ℕ) → ((((kept ++ letter) ++ a) ++ b) ++ c) ++ end ≡ kept ++ (letter ++ ((a ++ (b ++ (c ++ []))) ++ end))
line_of_three_fields kept letter a b c end = rw (append-nil c, append_assoc, append_assoc, append_assoc, append_assoc, append_assoc, append_assoc) refl
