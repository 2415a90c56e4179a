use Rattle.std.proofs.Common.{rules, ◌≡◌, ◌<◌, inl, inr, length, get_or, pos, ◌+ℤ◌, SFits, w64, refl, ◌∙◌, arith, below_more}
use Rattle.std.proofs.{lemmas.Int.{ints, to_z-of_z}, lemmas.Bool.{cases_eq, cases_lt}}
use Rattle.std.proofs.lemmas.List.{get_or_past, get_or-set_other, get_or-set_same}
use Rattle.std.specs.Int.{w128}
use Rattle.dimacs_records.specs.Ranges.{IsWhole}
use Rattle.dimacs_judging.specs.Rows.{amount_at}
use Rattle.dimacs_solve.specs.inside.Rests.{RestFails, rest_row}
use Rattle.dimacs_solve.proofs.RestLemmas.{fits_none, leaves_range, some_rest}
use Rattle.dimacs_solve.proofs.rests.put_rests.Goals as goal

pub loop-arc-init : goal.loop-arc-init
loop-arc-init c = record {
  put = λ k below. absurd (omega (arith, below));
  left = λ k past. refl;
  fits = λ k below place reason f. absurd (omega (arith, below));
}

pub loop-arc-preserved : goal.loop-arc-preserved
loop-arc-preserved c =
    let x = c.loop-arc.amounts in
    let n = c.loop-arc.arc in
    let here = c.loop-arc.invariant in
    let long : n < length x = omega (arith, c.loop-arc-test.true, c.loop-arc.auto.amounts) in
    let amount : SFits w64 c.in-Some.amount = search rules in
    let was : SFits w64 (get_or x n (pos 0)) = search rules in
    let rest : SFits w128 (get_or c.args.rests.now n (pos 0)) = search rules in
    let sum : c.in-Some.amount ≡ get_or x n (pos 0) +ℤ get_or c.args.rests.now n (pos 0) = rw (to_z-of_z w64 (get_or x n (pos 0)) was, to_z-of_z w128 (get_or c.args.rests.now n (pos 0)) rest) at c.in-Some.ensures.sum in
    let left = here.left n (omega arith) in
    let put : c.in-Some.amount ≡ amount_at c.args.amounts.now n +ℤ amount_at c.args.rests.now n = omega (arith, ints, sum, left) in
    rw (to_z-of_z w64 c.in-Some.amount amount) (record {
      put = λ k below. elim (cases_eq k n) [
        | inl same ↦ rw (same, get_or-set_same x n c.in-Some.amount (pos 0) long) put
        | inr other ↦ get_or-set_other x n k c.in-Some.amount (pos 0) other ∙ here.put k (omega (arith, below, other))
      ];
      left = λ k past. get_or-set_other x n k c.in-Some.amount (pos 0) (omega (arith, past)) ∙ here.left k (omega (arith, past));
      fits = below_more (λ j. (place : _) (reason : _) → ¬ rest_row c.args.amounts.now c.args.rests.now j place reason) n here.fits (λ place reason f. fits_none c.in-Some.amount _ reason amount put f.2);
    })

pub reason_of-requires : goal.reason_of-requires
reason_of-requires c =
    let n = c.loop-arc.arc in
    let x = get_or c.loop-arc.amounts n (pos 0) in
    let r = get_or c.args.rests.now n (pos 0) in
    let was : SFits w64 x = search rules in
    let rest : SFits w128 r = search rules in
    let wide : ¬ IsWhole (x +ℤ r) = rw (to_z-of_z w64 x was, to_z-of_z w128 r rest) at c.in-None.ensures.wide in
    rw (to_z-of_z w128 r rest) (some_rest x r was wide)

pub returns-in-None : goal.returns-in-None
returns-in-None c =
    let n = c.loop-arc.arc in
    let here = c.loop-arc.invariant in
    let x = get_or c.loop-arc.amounts n (pos 0) in
    let r = get_or c.args.rests.now n (pos 0) in
    let was : SFits w64 x = search rules in
    let rest : SFits w128 r = search rules in
    let wide : ¬ IsWhole (x +ℤ r) = rw (to_z-of_z w64 x was, to_z-of_z w128 r rest) at c.in-None.ensures.wide in
    let fails : RestFails r c.reason_of.result = rw (to_z-of_z w128 r rest) at c.reason_of.ensures in
    record {
      put = tt;
      fits = record {
        number = n;
        fails = (omega (arith, c.loop-arc-test.true, c.requires.one_each), refl, leaves_range x (amount_at c.args.amounts.now n) r c.reason_of.result was (here.left n (omega arith)) wide fails);
        earlier = here.fits;
      };
    }

pub returns : goal.returns
returns c = record {
  put = λ k. elim (cases_lt k c.loop-arc.arc) [
    | inl less ↦ c.loop-arc.invariant.put k less
    | inr more ↦ (
        let none = get_or_past c.args.rests.now k (pos 0) (omega (arith, more, c.loop-arc-test.false, c.requires.one_each)) in
        let left = c.loop-arc.invariant.left k more in
        omega (arith, ints, none, left)
        )
  ];
  fits = λ k place reason f. c.loop-arc.invariant.fits k (omega (arith, f.0, c.loop-arc-test.false, c.requires.one_each)) place reason f;
}
