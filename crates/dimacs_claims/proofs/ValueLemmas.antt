-- Lemmas about potentials.
use Rattle.std.proofs.{Common.{◌≡◌, ◌≤◌, ℕ, ◌==◌, Option, Some, None, refl, sym, ◌∙◌, ap, arith}, lemmas.Int.{ints}}
use Rattle.std.proofs.lemmas.Bool.{cond_both, eqb-true}
use Rattle.std.specs.{Prelude.{ℤ, pos, unwrap_or, Result, Ok, Err, OnOk, OnErr}, Ordering.{nat_cmp, int_eq}}
use Rattle.std.specs.FinMap.{FinMap, get, insert, remove, get-empty}
use Rattle.dimacs_lines.specs.Limits.{most_nodes, IsNode}
use Rattle.dimacs_network.proofs.Nodes.{get-insert}
use Rattle.dimacs_records.specs.{Ranges.{IsWide}, NodeValues.{without_zeros}}
use Rattle.dimacs_claims.specs.Potentials.{PotentialsValue, ArePotentials, IsPotential, potential_of, with_potential, zero_potentials}
use Rattle.dimacs_records.proofs.{NameLemmas.{isnt_zero}, ZeroLemmas.{get-removed, without_zeros-insert}}

pub zero_law : (nodes : ℕ) → nodes ≤ most_nodes → ArePotentials (zero_potentials nodes)
zero_law nodes few = record { nodes_few = few; within = λ id n e. absurd (cc (get-empty nat_cmp id, e)) }

pub law_with_potential : (p : PotentialsValue) (id : ℕ) (n : ℤ) → ArePotentials p → IsNode p.nodes id → IsWide n → ArePotentials (with_potential p id n)
law_with_potential p id n law node wide = record {
  nodes_few = law.nodes_few;
  within = λ other w e. let within : get p.values other ≡ Some w → IsPotential p.nodes other w = law.within other w in
      cond_both (int_eq n (pos 0)) (remove p.values id) (insert p.values id n) (λ values. get values other ≡ Some w → IsPotential p.nodes other w)
      (λ _ is. cond_both (other == id) None (get p.values other) (λ v. v ≡ Some w → IsPotential p.nodes other w) (λ _ none. absurd (cc)) (λ _. within) (sym (get-removed p.values id other) ∙ is))
      (λ some is. cond_both (other == id) (Some n) (get p.values other) (λ v. v ≡ Some w → IsPotential p.nodes other w)
      (λ same set. let value : w ≡ n = cc in rw (eqb-true other id same, value) (node, isnt_zero n some, wide)) (λ _. within) (sym (get-insert p.values id other n) ∙ is)) e;
}

-- after a value was set, or not
pub law_after_set : {E : Type 0} (nodes : ℕ) (old new : FinMap nat_cmp ℤ) (id : ℕ) (n : ℤ) (r : Result Unit E) → OnOk r (new ≡ insert old id n) → OnErr r (new ≡ old)
    → ArePotentials (record { nodes = nodes; values = without_zeros old }) → IsNode nodes id → IsWide n → ArePotentials (record { nodes = nodes; values = without_zeros new })
law_after_set nodes old new id n (Ok done) set unset law node wide =
    rw (set, without_zeros-insert old id n) (law_with_potential (record { nodes = nodes; values = without_zeros old }) id n law node wide)
law_after_set nodes old new id n (Err error) set unset law node wide = rw unset law

pub set_potential : {E : Type 0} (nodes : ℕ) (old new : FinMap nat_cmp ℤ) (id : ℕ) (n : ℤ) (r : Result Unit E) → OnOk r (new ≡ insert old id n)
    → OnOk r ((record { nodes = nodes; values = without_zeros new }) ≡ with_potential (record { nodes = nodes; values = without_zeros old }) id n)
set_potential nodes old new id n (Ok done) set = ap (λ m. record { nodes = nodes; values = m }) (ap without_zeros set ∙ without_zeros-insert old id n)
set_potential nodes old new id n (Err error) set = tt

pub potential_wide : (p : PotentialsValue) → ArePotentials p → (id : ℕ) → IsWide (potential_of p id)
potential_wide p law id = by_found (get p.values id) refl
  where
    by_found : (found : Option ℤ) → get p.values id ≡ found → IsWide (unwrap_or found (pos 0))
    by_found None e = (omega (arith, ints), omega (arith, ints))
    by_found (Some n) e = (law.within id n e).2
