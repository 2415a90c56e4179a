use Rattle.std.proofs.Common.{[], ◌∷◌, inl, inr, refl}
use Rattle.dimacs_c.proofs.command.dimacs_command.Goals as goal

pub returns-in-Ok : goal.returns-in-Ok
returns-in-Ok c =
    let ran = c.in-Ok.ran in
    let ends = rw (c.readable.ensures, c.readable-2.ensures, c.readable-3.ensures) at c.in-Ok.ensures in
    let made = rw c.bytes.ensures at c.hand_out.ensures in
    let more = rw c.bytes-in-Ok.ensures at c.hand_out-in-Ok.ensures in
    let printed = rw c.bytes-in-Ok-2.ensures at c.hand_out-in-Ok-2.ensures in
    (ran.made.bytes ∷ ran.more.bytes ∷ ran.printed.bytes ∷ [], (made, (more, (printed, tt))), inr (rw (c.from.ensures, c.exit_status.ensures) ends))

pub returns-in-Err : goal.returns-in-Err
returns-in-Err c =
    let ends = rw (c.readable.ensures, c.readable-2.ensures, c.readable-3.ensures) at c.in-Err.ensures in
    ([], (c.hand_out-in-Err.ensures, (c.hand_out-in-Err-2.ensures, (c.hand_out-in-Err-3.ensures, tt))), elim ends [ inl four ↦ inl (four, refl) | inr ends ↦ inr ends ])
