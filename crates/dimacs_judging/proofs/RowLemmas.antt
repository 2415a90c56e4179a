-- Rows of tests, test by test.
use Rattle.std.proofs.Common.{◌≡◌, ℕ, ◌+◌, ◌<◌, ◌≤◌, List, length, get_or, slice_get, Some, Option, Result, Ok, Err, IsSome, sym, ◌∙◌, ℤ, pos, refl, arith, below_more}
use Rattle.std.proofs.lemmas.Option.{get_or_from_slice_get, slice_get_within}
use Rattle.dimacs_network.specs.{declared.network.ArcView.{ArcView}, Arcs.{no_arc, arc_at}, Skips.{Skips}}
use Rattle.dimacs_network.proofs.SkipLemmas.{skipped}
use Rattle.dimacs_records.specs.{declared.reasons.Reason.{Reason}, declared.reasons.Reason.TheVariants.{NoTightArc}}
use Rattle.dimacs_judging.specs.{declared.verdict.Where.{Where}, declared.verdict.Where.TheVariants.{Arc, Node}}
use Rattle.dimacs_judging.specs.{FlowTests.{balance_row}, Flows.{net}, Labels.{HasTightArc}, inside.Tests.{AsksNothing}}
use Rattle.dimacs_judging.specs.Tests.{Row, ClearBelow, Clear, FirstOfRow, TestsRow}
use Rattle.dimacs_judging.specs.CertificateTests.{negative_row, support_row, RelaxFails, relax_row, weight_row}
use Rattle.dimacs_judging.specs.Rows.{amount_at, arc_row, flow_row, node_row}
use Rattle.dimacs_claims.specs.Labels.{BlockValue, label, no_label}

-- one more test that passes
clear_more : (row : Row) (n : ℕ) → ClearBelow row n → ((place : Where) (reason : Reason) → ¬ row n place reason) → ClearBelow row (n + 1)
clear_more row n below at = below_more (λ k. (place : Where) (reason : Reason) → ¬ row k place reason) n below at

-- ---- arcs
pub arc_clear_more : (arcs : List ArcView) (fails : ℕ → Reason → Type 0) (i : ℕ) → ClearBelow (arc_row arcs fails) i → ((reason : Reason) → ¬ fails i reason) → ClearBelow (arc_row arcs fails) (i + 1)
arc_clear_more arcs fails i below at = clear_more (arc_row arcs fails) i below (λ place reason f. at reason f.2)

pub arc_clear_end : (arcs : List ArcView) (fails : ℕ → Reason → Type 0) (n : ℕ) → length arcs ≤ n → ClearBelow (arc_row arcs fails) n → Clear (arc_row arcs fails)
arc_clear_end arcs fails n all below k place reason f = below k (omega (arith, f.0)) place reason f

pub arc_first : (arcs : List ArcView) (fails : ℕ → Reason → Type 0) (i : ℕ) (reason : Reason) → i < length arcs → ClearBelow (arc_row arcs fails) i → fails i reason → FirstOfRow (arc_row arcs fails) (Arc (i + 1)) reason
arc_first arcs fails i reason inside below at = record { number = i; fails = (inside, refl, at); earlier = below }

-- ---- arcs with their amounts
module _ (fails : ArcView → ℤ → Reason → Type 0) (arcs : List ArcView) (x : List ℤ) (i : ℕ) (a : ArcView) (z : ℤ) (here : slice_get arcs i ≡ Some a) (carries : slice_get x i ≡ Some z) where
  same_arc : arc_at arcs i ≡ a
  same_arc = get_or_from_slice_get arcs i a no_arc here

  same_amount : amount_at x i ≡ z
  same_amount = get_or_from_slice_get x i z (pos 0) carries

  pub flow_clear_more : ClearBelow (flow_row fails arcs x) i → ((reason : Reason) → ¬ fails a z reason) → ClearBelow (flow_row fails arcs x) (i + 1)
  flow_clear_more below at = arc_clear_more arcs _ i below (rw (same_arc, same_amount) at)

  pub flow_first : (reason : Reason) → ClearBelow (flow_row fails arcs x) i → fails a z reason → FirstOfRow (flow_row fails arcs x) (Arc (i + 1)) reason
  flow_first reason below at = arc_first arcs _ i reason (slice_get_within arcs i a here) below (rw (same_arc, same_amount) at)

-- ---- nodes
pub node_clear_more : (nodes : ℕ) (fails : ℕ → Reason → Type 0) (v : ℕ) → ClearBelow (node_row nodes fails) v → ((reason : Reason) → ¬ fails v reason) → ClearBelow (node_row nodes fails) (v + 1)
node_clear_more nodes fails v below at = clear_more (node_row nodes fails) v below (λ place reason f. at reason f.2)

-- nodes that have no balance, and may have none
pub balances_skipped : (nodes : ℕ) (arcs : List ArcView) (demand : ℕ → Option ℤ) (x : List ℤ) (from end to : ℕ) → ((v : ℕ) → from ≤ v → v < to → AsksNothing (demand v)) → Skips (λ v. net arcs x v ≡ pos 0) from end to
    → ClearBelow (balance_row nodes arcs demand x) from → ClearBelow (balance_row nodes arcs demand x) to
balances_skipped nodes arcs demand x from end to nothing is =
    skipped _ (ClearBelow (balance_row nodes arcs demand x)) from end to is
    (λ v least below none clear. node_clear_more nodes _ v clear (λ reason f. f.1.2 (none ∙ sym (nothing v least below f.1.0 f.1.1))))

pub node_clear_end : (nodes : ℕ) (fails : ℕ → Reason → Type 0) (n : ℕ) → nodes < n → ClearBelow (node_row nodes fails) n → Clear (node_row nodes fails)
node_clear_end nodes fails n all below v place reason f = below v (omega (arith, f.0.1)) place reason f

pub no_node_zero : (nodes : ℕ) (fails : ℕ → Reason → Type 0) → ClearBelow (node_row nodes fails) 1
no_node_zero nodes fails v below place reason f = absurd (omega (arith, below, f.0.0))

pub node_first : (nodes : ℕ) (fails : ℕ → Reason → Type 0) (v : ℕ) (reason : Reason) → 1 ≤ v → v ≤ nodes → ClearBelow (node_row nodes fails) v → fails v reason → FirstOfRow (node_row nodes fails) (Node v) reason
node_first nodes fails v reason low high below at = record { number = v; fails = ((low, high), refl, at); earlier = below }

-- ---- weights
pub weights_all : (arcs : List ArcView) (b : BlockValue) → Clear (negative_row arcs) → Clear (weight_row arcs b)
weights_all arcs b clear k place reason f = clear k place reason f.1

pub weights_tests : (arcs : List ArcView) (b : BlockValue) → IsSome b.radius → (outcome : Result Unit (Where × Reason)) → TestsRow (negative_row arcs) outcome → TestsRow (weight_row arcs b) outcome
weights_tests arcs b some (Ok done) clear = weights_all arcs b clear
weights_tests arcs b some (Err refusal) first = record { number = first.number; fails = (some, first.fails); earlier = λ k less place reason f. first.earlier k less place reason f.1 }

-- ---- labels
pub support_clear_more : (arcs : List ArcView) (b : BlockValue) (k : ℕ) → ClearBelow (support_row arcs b) k → HasTightArc arcs b (get_or b.labels k no_label) → ClearBelow (support_row arcs b) (k + 1)
support_clear_more arcs b k below has = clear_more (support_row arcs b) k below (λ place reason f. f.3 has)

pub support_first : (arcs : List ArcView) (b : BlockValue) (k : ℕ) → k < length b.labels → ClearBelow (support_row arcs b) k → (¬ HasTightArc arcs b (get_or b.labels k no_label)) → FirstOfRow (support_row arcs b) (Node (get_or b.labels k no_label).id) NoTightArc
support_first arcs b k inside below off = record { number = k; fails = (inside, refl, refl, off); earlier = below }

pub support_clear_end : (arcs : List ArcView) (b : BlockValue) (n : ℕ) → length b.labels ≤ n → ClearBelow (support_row arcs b) n → Clear (support_row arcs b)
support_clear_end arcs b n all below k place reason f = below k (omega (arith, f.0)) place reason f

module _ (arcs : List ArcView) (b : BlockValue) (i : ℕ) (a : ArcView) (here : slice_get arcs i ≡ Some a) where
  this_arc : arc_at arcs i ≡ a
  this_arc = get_or_from_slice_get arcs i a no_arc here

  pub relax_clear_more : ClearBelow (relax_row arcs b) i → ((reason : Reason) → ¬ RelaxFails b.radius (label b a.tail) (label b a.head) a.cost reason) → ClearBelow (relax_row arcs b) (i + 1)
  relax_clear_more below at = arc_clear_more arcs _ i below (rw this_arc at)

  pub relax_first : (reason : Reason) → ClearBelow (relax_row arcs b) i → RelaxFails b.radius (label b a.tail) (label b a.head) a.cost reason → FirstOfRow (relax_row arcs b) (Arc (i + 1)) reason
  relax_first reason below at = arc_first arcs _ i reason (slice_get_within arcs i a here) below (rw this_arc at)
