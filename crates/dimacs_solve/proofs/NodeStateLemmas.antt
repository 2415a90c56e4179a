-- The table after one more mark.
use Rattle.std.proofs.{Common.{◌≡◌, ◌≢◌, ℕ, ◌≤◌, inl, inr, sym, subst, Result, Ok, Err}, lemmas.Bool.{cases_eq}}
use Rattle.std.specs.Prelude.{OnOk, OnErr}
use Rattle.dimacs_network.specs.{declared.node_table.NodeTable.{NodeTable}, Tables.{SameValues, value_of}}
use Rattle.dimacs_solve.specs.declared.node_states.NodeState.{NodeState}

-- no mark is from a later round, and it stays so after one is set
module _ {D : Type 0} (round : ℕ) (old new : NodeTable (NodeState D)) (earlier : (v : ℕ) → (value_of old v).round ≤ round) (node : ℕ) (node_state : NodeState D) (within : node_state.round ≤ round) where
  no_later_set : value_of new node ≡ node_state → ((v : ℕ) → v ≢ node → value_of new v ≡ value_of old v) → (v : ℕ) → (value_of new v).round ≤ round
  no_later_set here there v =
      elim (cases_eq v node) [
        | inl same ↦ subst (λ w. (value_of new w).round ≤ round) (sym same) (rw here within)
        | inr apart ↦ rw (there v apart) (earlier v)
      ]

  pub no_later : {E : Type 0} (outcome : Result (Unit {0}) E) → OnOk outcome (value_of new node ≡ node_state) → OnOk outcome ((v : ℕ) → v ≢ node → value_of new v ≡ value_of old v) → OnErr outcome (SameValues old new) → (v : ℕ) → (value_of new v).round ≤ round
  no_later (Ok x) here there same = no_later_set here there
  no_later (Err e) here there same = λ v. rw (same v) (earlier v)
