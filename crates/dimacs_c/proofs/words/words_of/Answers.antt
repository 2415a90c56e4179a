use Rattle.std.proofs.Common.{Bor, List, nat_eq, ℕ}
use Rattle.dimacs_c.proofs.RequestLemmas.{some_part}
use Rattle.dimacs_c.proofs.words.words_of.Goals as goal

pub returns : goal.returns
returns c =
    absurd (some_part (λ (part : Bor (List ℕ)). part.now) (λ byte. nat_eq byte 0) c.in-Ok.text.now c.in_ok-parts.parts.items c.deref.result.now c.in_ok-parts.ensures c.deref.ensures.value c.in-None.ensures.cases)
