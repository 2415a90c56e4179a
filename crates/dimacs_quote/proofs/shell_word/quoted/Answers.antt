use Rattle.std.proofs.Common.{rules, ◌≡◌, ◌≢◌, ◌++◌, ◌∷◌, [], ◌+◌, slice_index_or, subst, sym, take, arith}
use Rattle.std.proofs.lemmas.List.{take_all, take_more}
use Rattle.dimacs_quote.specs.ShellWords.{Reads}
use Rattle.dimacs_quote.proofs.WordLemmas.{Open, open_begin, open_end, open_more, open_quote}
use Rattle.dimacs_quote.proofs.shell_word.quoted.Goals.{then-byte-eq39+in_ok-extend_from_slice, else-byte-eq39+in_ok-push}
use Rattle.dimacs_quote.proofs.shell_word.quoted.Goals as goal

pub loop-byte-init : goal.loop-byte-init
loop-byte-init c =
    let e : c.in_ok-word.word.items ≡ 39 ∷ [] = search (rules, c.in_ok-word.ensures) in
    subst (λ w. Open w []) (sym e) open_begin

pub loop-byte-preserved : goal.loop-byte-preserved
loop-byte-preserved c =
    let i = c.loop-byte.byte-index in
    let path = c.args.path.now in
    let b = slice_index_or path i 0 in
    let more : take (i + 1) path ≡ take i path ++ b ∷ [] = take_more path i 0 (omega arith) in
    elim c.if-byte-eq39.branch [
      | then-byte-eq39+in_ok-extend_from_slice w ↦
          let is : b ≡ 39 = search rules in
          let e : c.if-byte-eq39.word.items ≡ c.loop-byte.word.items ++ 39 ∷ 92 ∷ 39 ∷ 39 ∷ [] = search rules in
          rw (e, more, is) (open_quote c.loop-byte.word.items (take i path) c.loop-byte.invariant)
      | else-byte-eq39+in_ok-push w ↦
          let apart : b ≢ 39 = search rules in
          let e : c.if-byte-eq39.word.items ≡ c.loop-byte.word.items ++ b ∷ [] = search rules in
          rw (e, more) (open_more c.loop-byte.word.items (take i path) b apart c.loop-byte.invariant)
    ]

pub returns : goal.returns
returns c =
    let all : take c.loop-byte.byte-index c.args.path.now ≡ c.args.path.now = take_all _ _ (omega arith) in
    let e : c.push-2.new.self.items ≡ c.loop-byte.word.items ++ 39 ∷ [] = search rules in
    rw e (subst (Reads (c.loop-byte.word.items ++ 39 ∷ [])) all (open_end c.loop-byte.word.items (take c.loop-byte.byte-index c.args.path.now) c.loop-byte.invariant))
