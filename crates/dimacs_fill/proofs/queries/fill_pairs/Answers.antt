use Rattle.std.proofs.Common.{ℕ, map, refl}
use Rattle.dimacs_fill.proofs.FillLemmas.{each_part}
use Rattle.dimacs_fill.proofs.queries.fill_pairs.Goals as goal

pub returns-clause-froms : goal.returns-clause-froms
returns-clause-froms c = c.fill.ensures (map (λ (p : ℕ × ℕ). p.0) c.args.pairs.now) (each_part (λ (p : ℕ × ℕ). p.0) _ _ c.args.pairs.now refl (λ i x within e. e))

pub returns-clause-tos : goal.returns-clause-tos
returns-clause-tos c = c.fill-2.ensures (map (λ (p : ℕ × ℕ). p.1) c.args.pairs.now) (each_part (λ (p : ℕ × ℕ). p.1) _ _ c.args.pairs.now refl (λ i x within e. e))
