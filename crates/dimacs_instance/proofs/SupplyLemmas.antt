-- Building minimum cost flow instances keeps their laws.
use Rattle.std.proofs.Common.{◌≡◌, ◌≤◌, ◌+◌, [], ℕ, List, Bool, true, false, None, Some, cond, refl, sym, ◌∙◌, ap, ◌==◌, arith}
use Rattle.std.proofs.lemmas.List.Elements.{All-nil}
use Rattle.std.specs.{Prelude.{ℤ, pos, if◌then◌else◌, Result, Ok, Err, OnOk, OnErr}, List.{All}}
use Rattle.std.specs.{Ordering.{int_eq, nat_cmp}, FinMap.{FinMap, empty, entries, get, insert, remove}}
use Rattle.dimacs_lines.specs.Limits.{most_nodes, IsNode}
use Rattle.dimacs_network.proofs.Entries.{All-empty, All-entries, All-get, All-insert}
use Rattle.dimacs_records.specs.{NodeValues.{without_zeros}, Ranges.{IsWhole}}
use Rattle.dimacs_records.proofs.{NameLemmas.{isnt_zero}, ZeroLemmas.{get-removed, without_zeros-insert}}
use Rattle.dimacs_network.specs.{declared.network.ArcView.{ArcView}, Arcs.{JoinsNodes}}
use Rattle.dimacs_instance.specs.MinFlows.{MinValue, IsMin, IsSupply, HasBounds, with_supply}
use Rattle.dimacs_instance.proofs.MinTextLemmas.{no_supply_past}

-- an instance without supplies and arcs is lawful
pub empty_min : (nodes : ℕ) → nodes ≤ most_nodes → IsMin (record { nodes = nodes; supplies = empty; arcs = [] })
empty_min nodes few = record {
  nodes_few = few;
  arcs_few = omega arith;
  supplied = All-empty (IsSupply nodes);
  joined = All-nil (JoinsNodes nodes);
  bounds = All-nil HasBounds;
}

module _ (m : MinValue) (law : IsMin m) where
  removed_at : (id other : ℕ) (v : ℤ) (b : Bool) → cond b None (get m.supplies other) ≡ Some v → IsSupply m.nodes (other, v)
  removed_at id other v true e = absurd (cc)
  removed_at id other v false e = All-get (IsSupply m.nodes) m.supplies other v law.supplied e

  removed_past : (id other : ℕ) (b : Bool) → m.nodes + 1 ≤ other → cond b None (get m.supplies other) ≡ None
  removed_past id other true past = refl
  removed_past id other false past = no_supply_past m law other past

  module _ (id : ℕ) (n : ℤ) (node : IsNode m.nodes id) (whole : IsWhole n) where
    supplied_after : (b : Bool) → int_eq n (pos 0) ≡ b → All (IsSupply m.nodes) (entries (if b then remove m.supplies id else insert m.supplies id n))
    supplied_after true e =
        All-entries (IsSupply m.nodes) (remove m.supplies id) (m.nodes + 1) (λ other past. get-removed m.supplies id other ∙ removed_past id other (other == id) past)
        (λ other v is. removed_at id other v (other == id) (sym (get-removed m.supplies id other) ∙ is))
    supplied_after false e = All-insert (IsSupply m.nodes) m.supplies id n law.supplied (node, isnt_zero n e, whole)

    pub min_with_supply : IsMin (with_supply m id n)
    min_with_supply = record {
      nodes_few = law.nodes_few;
      arcs_few = law.arcs_few;
      supplied = supplied_after (int_eq n (pos 0)) refl;
      joined = law.joined;
      bounds = law.bounds;
    }

-- if a supply was set, and if not
module _ (nodes : ℕ) (arcs : List ArcView) (old new : FinMap nat_cmp ℤ) (id : ℕ) (n : ℤ) where
  abbrev with_values : FinMap nat_cmp ℤ → MinValue
  with_values values = record { nodes = nodes; supplies = without_zeros values; arcs = arcs }

  pub min_after_set : {E : Type 0} (r : Result Unit E) → OnOk r (new ≡ insert old id n) → OnErr r (new ≡ old) → IsMin (with_values old) → IsNode nodes id → IsWhole n → IsMin (with_values new)
  min_after_set (Ok done) set unset law node whole = rw (set, without_zeros-insert old id n) (min_with_supply (with_values old) law id n node whole)
  min_after_set (Err error) set unset law node whole = rw unset law

  pub supply_set : {E : Type 0} (r : Result Unit E) → OnOk r (new ≡ insert old id n) → OnOk r (with_values new ≡ with_supply (with_values old) id n)
  supply_set (Ok done) set = ap with_values set ∙ ap (λ m. record { nodes = nodes; supplies = m; arcs = arcs }) (without_zeros-insert old id n)
  supply_set (Err error) set = tt
