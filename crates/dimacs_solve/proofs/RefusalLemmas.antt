-- What the tests of the entries answer.
use Rattle.std.proofs.Common.{◌≡◌, inl, inr, ℕ, ◌^◌, ◌<◌, List, length, Result, Ok, Err, All, pos, neg_ℤ, ◌≤ℤ◌, ◌<ℤ◌, sym, ◌∙◌, arith}
use Rattle.std.proofs.{lemmas.Int.{ints}, lemmas.List.Elements.{All-get_or}}
use Rattle.std.specs.Prelude.{IfErr, OnOk}
use Rattle.dimacs_claims.specs.declared.place.Entry.{Entry}
use Rattle.dimacs_instance.specs.MinFlows.{HasBounds}
use Rattle.dimacs_network.specs.{declared.network.ArcView.{ArcView}, Arcs.{arc_at, no_arc}}
use Rattle.dimacs_records.specs.{Ranges.{IsWhole}, declared.reasons.Reason.{Reason}}
use Rattle.dimacs_judging.specs.{declared.verdict.Where.{Where}, Rows.{arc_row}}
use Rattle.dimacs_judging.specs.Tests.{AllClear, Clear, First, FirstAlone, TestsRow}
use Rattle.dimacs_judging.proofs.Firsts.{OneWay, arc_one_way, one_first}
use Rattle.dimacs_solve.specs.Spread.{AmountFails, arc_sum, caps, left_for, lows, spread_rows, unknown_row}
use Rattle.dimacs_solve.proofs.{DealtLemmas.{cap_at, caps_long, low_at, lows_long}, SumLemmas.{arc_sum-le}}

pub ok_from : {P Q : Type 0} (told : Result Unit (Where × Reason)) → (P → Q) → OnOk told P → OnOk told Q
ok_from (Ok done) so p = so p
ok_from (Err refusal) so p = tt

pub all_clear : (arcs : List ArcView) (entries : List Entry) (told : Result Unit (Where × Reason)) → Clear (unknown_row arcs entries) → TestsRow (arc_row arcs (AmountFails arcs entries)) told → OnOk told (AllClear (spread_rows arcs entries))
all_clear arcs entries (Ok done) known fits = (known, (fits, tt))
all_clear arcs entries (Err refusal) known fits = tt

-- each test fails in only one way
module _ (arcs : List ArcView) (entries : List Entry) (bounds : All HasBounds arcs) where
  unknown_one_way : OneWay (unknown_row arcs entries)
  unknown_one_way k p q r s f g = (f.1 ∙ sym g.1, f.2 ∙ sym g.2)

  lows_least : (tail head : ℕ) → arc_sum arcs (lows arcs) tail head ≤ℤ arc_sum arcs (caps arcs) tail head
  lows_least tail head = arc_sum-le arcs (lows arcs) (caps arcs) tail head (lows_long arcs) (caps_long arcs) (λ i h j. let l = low_at arcs i h in let c = cap_at arcs i h in let has = All-get_or HasBounds arcs i no_arc h bounds in omega (arith, ints, l, c, has.1))

  -- a sum can't be both too little and too much
  apart : (k : ℕ) → k < length arcs → left_for arcs entries (lows arcs) k <ℤ neg_ℤ (pos (2 ^ 63)) → pos (2 ^ 63) ≤ℤ left_for arcs entries (caps arcs) k → ⊥
  apart k inside less more =
      let has = All-get_or HasBounds arcs k no_arc inside bounds in
      let whole : IsWhole (arc_at arcs k).cap = has.2 in
      let l = low_at arcs k inside in
      let c = cap_at arcs k inside in
      omega (arith, ints, less, more, has.0, whole.1, l, c, lows_least (arc_at arcs k).tail (arc_at arcs k).head)

  one_reason : (k : ℕ) (r s : Reason) → AmountFails arcs entries k r → AmountFails arcs entries k s → r ≡ s
  one_reason k r s (first, inl f) (also, inl g) = f.0 ∙ sym g.0
  one_reason k r s (first, inr f) (also, inr g) = f.0 ∙ sym g.0
  one_reason k r s (first, inl f) (also, inr g) = absurd (apart k first.0 f.1 g.1)
  one_reason k r s (first, inr f) (also, inl g) = absurd (apart k first.0 g.1 f.1)

  pub first_alone : (place : Where) (reason : Reason) → First (spread_rows arcs entries) place reason → FirstAlone (spread_rows arcs entries) place reason
  first_alone place reason first = (first, λ other why also. one_first (spread_rows arcs entries) other place why reason (unknown_one_way, (arc_one_way arcs (AmountFails arcs entries) one_reason, tt)) also first)

  pub alone_from : (told : Result Unit (Where × Reason)) → Clear (unknown_row arcs entries) → TestsRow (arc_row arcs (AmountFails arcs entries)) told → IfErr told (λ refusal. FirstAlone (spread_rows arcs entries) refusal.0 refusal.1)
  alone_from (Ok done) known fits = tt
  alone_from (Err refusal) known fits = first_alone refusal.0 refusal.1 (inr (known, inl fits))
