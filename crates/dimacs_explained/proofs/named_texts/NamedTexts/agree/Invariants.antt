use Rattle.std.proofs.Common.{map}
use Rattle.std.specs.String.{string_bytes}
use Rattle.dimacs_explained.specs.inside.Texts.{Agree, three}
use Rattle.dimacs_explained.proofs.named_texts.NamedTexts.agree.Given as goal

-- the texts before this one that have the name are the same
abbrev pub invariant-loop-place : goal.invariant-loop-place
invariant-loop-place l = Agree l.place (map string_bytes l.self.names.now) (three l.self.texts) l.name l.text
