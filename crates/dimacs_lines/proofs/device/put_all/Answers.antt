use Rattle.std.proofs.{Common.{◌≡◌, ◌+◌, ap, ◌∙◌, arith, take, drop}, lemmas.Bool.Decides.{nat_tests}}
use Rattle.std.proofs.{lemmas.Grind.{common_steps}, lemmas.List.{take_rest}, lemmas.Result.{err_from_is_err_and}}
use Rattle.dimacs_lines.specs.Devices.{after_piece, one_more}
use Rattle.dimacs_lines.proofs.{PutLemmas.{after_piece-take, AcceptsFront-take}, device.put_all.Goals.{In_ok-count}}
use Rattle.dimacs_lines.proofs.device.put_all.Goals as goal

-- what this put accepted follows what was accepted before
taken : (g : _) (c : In_ok-count g) → (g.S.Sink.seen c.put.new.self).accepted ≡ after_piece (g.S.Sink.seen c.args.sink.now).accepted (take (c.loop-done.done + c.in_ok-count.count) c.args.bytes.now)
taken g c =
    let seen = g.S.Sink.seen in
    let text = c.args.bytes.now in
    let n = c.loop-done.done in
    let k = c.in_ok-count.count in
    c.in_ok-count.ensures.taken ∙ ap (λ piece. after_piece (seen c.loop-done.sink).accepted (take k piece)) (take_rest text n)
    ∙ ap (λ s. after_piece s (take k (drop n text))) c.loop-done.invariant.taken ∙ after_piece-take (seen c.args.sink.now).accepted n k text

pub returns-in_err-count : goal.returns-in_err-count
returns-in_err-count g c =
    let p = err_from_is_err_and c.from_residual.result c.from_residual.ensures.1 in
    rw p.1 (record {
      accepted = AcceptsFront-take _ _ c.loop-done.done c.args.bytes.now (c.in_err-count.ensures.unchanged ∙ c.loop-done.invariant.taken);
      fault = c.in_err-count.ensures.faults ∙ ap one_more c.loop-done.invariant.sound;
    })

pub returns-then-count-eq0 : goal.returns-then-count-eq0
returns-then-count-eq0 g c = record {
  accepted = AcceptsFront-take _ _ _ c.args.bytes.now (taken g (goal.at.returns-then-count-eq0 g c).In_ok-count);
  fault = grind (arith, nat_tests);
}

pub loop-done-preserved : goal.loop-done-preserved
loop-done-preserved g c = record {
  within = grind (arith, common_steps);
  taken = taken g (goal.at.loop-done-preserved g c).In_ok-count;
  sound = grind (arith, nat_tests);
}
