use Rattle.std.proofs.Common.{◌≡◌, ◌-◌, length}
use Rattle.std.specs.List.{position_or_len}
use Rattle.dimacs_lines.specs.{Lines.{is_end}, Reader.{text_left}}
use Rattle.dimacs_lines.proofs.reader.Lines.find_end.Given as goal

abbrev pub invariant-loop-length : goal.invariant-loop-length
invariant-loop-length g l =
    let coming = g.S.Source.coming in
    let faults = g.S.Source.faults in
    record {
      place : l.length ≡ position_or_len is_end l.self.held;
      left : text_left l.fn.self (coming l.fn.source) ≡ text_left l.self (coming l.source);
      given : l.self.given ≡ l.fn.self.given;
      progress : l.self.progress ≡ l.fn.self.progress;
      sound : faults l.source ≡ faults l.fn.source;
    }

abbrev pub decreases-loop-length : goal.decreases-loop-length
decreases-loop-length g l = 1048577 - length l.self.held
