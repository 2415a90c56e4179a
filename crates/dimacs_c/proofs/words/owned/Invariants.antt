use Rattle.std.proofs.Common.{◌≡◌, map, take}
use Rattle.std.specs.String.{string_bytes}
use Rattle.dimacs_c.proofs.words.owned.Given as goal

-- the words so far were copied
abbrev pub invariant-loop-word : goal.invariant-loop-word
invariant-loop-word l = map string_bytes l.owned.items ≡ map (λ word. word.now) (take l.word-index l.words)
