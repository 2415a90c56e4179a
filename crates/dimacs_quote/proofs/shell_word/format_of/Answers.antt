use Rattle.std.proofs.Common.{rules, ◌≡◌, ◌++◌, ◌∷◌, [], ◌+◌, ◌/◌, ◌%◌, slice_index_or, subst, take, arith}
use Rattle.std.proofs.lemmas.List.{take_all, take_more}
use Rattle.dimacs_quote.specs.ShellWords.{IsAlphanumeric}
use Rattle.dimacs_quote.proofs.WordLemmas.{Begins, begins_end, begins_itself, begins_octal}
use Rattle.dimacs_quote.proofs.shell_word.format_of.Goals.{then-is_alphanumeric+in_ok-push, else-is_alphanumeric+in_ok-extend_from_slice}
use Rattle.dimacs_quote.proofs.shell_word.format_of.Goals as goal

pub loop-byte-preserved : goal.loop-byte-preserved
loop-byte-preserved c =
    let i = c.loop-byte.byte-index in
    let path = c.args.path.now in
    let b = slice_index_or path i 0 in
    let more : take (i + 1) path ≡ take i path ++ b ∷ [] = take_more path i 0 (omega arith) in
    elim c.if-is_alphanumeric.branch [
      | then-is_alphanumeric+in_ok-push w ↦
          let is : IsAlphanumeric b = search rules in
          let e : c.if-is_alphanumeric.format.items ≡ c.loop-byte.format.items ++ b ∷ [] = search rules in
          rw (e, more) (begins_itself c.loop-byte.format.items (take i path) b is c.loop-byte.invariant)
      | else-is_alphanumeric+in_ok-extend_from_slice w ↦
          let e : c.if-is_alphanumeric.format.items ≡ c.loop-byte.format.items ++ 92 ∷ (48 + b / 64) ∷ (48 + b / 8 % 8) ∷ (48 + b % 8) ∷ [] = search rules in
          rw (e, more) (begins_octal c.loop-byte.format.items (take i path) b (search (rules, c.type_inv.path i)) c.loop-byte.invariant)
    ]

pub returns : goal.returns
returns c =
    let all : take c.loop-byte.byte-index c.args.path.now ≡ c.args.path.now = take_all _ _ (omega arith) in
    begins_end c.loop-byte.format.items c.args.path.now (subst (Begins c.loop-byte.format.items) all c.loop-byte.invariant)
