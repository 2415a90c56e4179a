use Rattle.std.proofs.Common.{◌∷◌, [], append_assoc}
use Rattle.dimacs_records.proofs.printed.write_part.Goals as goal

pub returns-in-Word : goal.returns-in-Word
returns-in-Word g c start text h =
    rw (c.in-Word.is, ← append_assoc text (32 ∷ []) c.in-Word.word.now) (c.write-in-Word.ensures start _ (c.write.ensures start text h))
