-- Only nodes have distances.
use Rattle.std.proofs.Common.{◌≡◌, inl, inr, ℕ, zero, suc, ◌<◌, List, length, Option, Some, None, IsSome, is_some, true, false, ℤ, refl, sym, ap, ◌∙◌, arith}
use Rattle.std.proofs.{lemmas.Bool.{cases_lt}, lemmas.List.{get_or_past}, lemmas.Option.{slice_get_within}}
use Rattle.std.specs.Prelude.{slice_get}
use Rattle.dimacs_lines.specs.Limits.{IsNode}
use Rattle.dimacs_decide.specs.{Claims.{claimed_by_node, unless_greatest}, Predecessors.{pred_by_node}}
use Rattle.dimacs_judging.specs.Tests.{Clear}
use Rattle.dimacs_arrays.specs.Paths.{pred_row}
use Rattle.dimacs_arrays.proofs.LabelLemmas.{zero_pred}

there : (o : Option ℤ) → IsSome (unless_greatest o) → (d : ℤ) × (o ≡ Some d)
there None some = absurd (let f : false ≡ true = some in cc)
there (Some d) some = (d, refl)

pub distance_within : (distances : List ℤ) (v : ℕ) → IsSome (claimed_by_node distances v) → IsNode (length distances) v
distance_within distances zero some = absurd (let f : false ≡ true = some in cc)
distance_within distances (suc k) some =
    let (d, is) = there (slice_get distances k) some in
    (omega arith, omega (arith, slice_get_within distances k d is))

-- ---- without a distance there is no predecessor
past_end : (preds : List ℕ) (v : ℕ) → length preds < v → pred_by_node preds v ≡ 0
past_end preds zero past = refl
past_end preds (suc k) past = get_or_past preds k 0 (omega (arith, past))

pub no_pred_without : (preds : List ℕ) (nodes s : ℕ) (claim : ℕ → Option ℤ) → length preds ≡ nodes → Clear (pred_row nodes s claim (pred_by_node preds)) → (v : ℕ) → claim v ≡ None → pred_by_node preds v ≡ 0
no_pred_without preds nodes s claim each clear zero none = refl
no_pred_without preds nodes s claim each clear (suc k) none = elim (cases_lt nodes (suc k)) [
  | inr within ↦ zero_pred nodes s claim (pred_by_node preds) clear (suc k) (omega arith, within) (λ due. let f : false ≡ true = sym (ap is_some none) ∙ due.1 in cc)
  | inl past ↦ past_end preds (suc k) (omega (arith, past, each))
]
