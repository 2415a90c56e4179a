use Rattle.std.proofs.{Common.{w8, ap, ◌%◌, ◌==◌, arith}, lemmas.Nat.Bits.{bit_at_set_same, bit_at_set_other}}
use Rattle.dimacs_network.proofs.node_set.with_bit.Goals as goal

pub returns : goal.returns
returns c = record {
  set = ap (λ b. b == 1) (bit_at_set_same w8 c.args.byte (c.args.id % 8) (omega arith));
  others = λ other off. ap (λ b. b == 1) (bit_at_set_other w8 c.args.byte (c.args.id % 8) (omega arith) (other % 8) off);
}
