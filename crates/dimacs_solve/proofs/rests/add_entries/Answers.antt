use Rattle.std.proofs.Common.{rules, ◌≡◌, ◌<◌, ◌+◌, ◌^◌, List, length, take, get_or, set, pos, ◌+ℤ◌, Some, None, SFits, w64, refl, sym, subst, ◌∙◌, arith, below_more}
use Rattle.std.proofs.{lemmas.Int.{ints, to_z-of_z}, lemmas.List.{take_all, take_more}}
use Rattle.std.specs.Int.{w128}
use Rattle.dimacs_claims.specs.declared.place.Entry.{Entry}
use Rattle.dimacs_network.specs.Arcs.{IsKthBetween}
use Rattle.dimacs_judging.specs.Claims.{no_entry, entry_at}
use Rattle.dimacs_solve.specs.{Spread.{unknown_row}, inside.Rests.{AddUp}}
use Rattle.dimacs_solve.proofs.EndLemmas.{first_itself, known_from}
use Rattle.dimacs_solve.proofs.RestLemmas.{fits_more, rests_changed, rests_long, sums_more}
use Rattle.dimacs_solve.proofs.rests.add_entries.Goals as goal

pub overflow_add-rests : goal.overflow_add-rests
overflow_add-rests g c =
    let e = entry_at c.args.entries.now c.loop-entry.entry-index in
    let flow : SFits w64 e.flow = search rules in
    let from : c.from.result ≡ e.flow = c.from.ensures ∙ to_z-of_z w64 e.flow flow in
    let few : (length c.args.arcs.now + c.loop-entry.entry-index) < 2 ^ 63 + 4294967296 = omega (arith, c.loop-entry-test.true, c.requires.entry_limit, c.requires.arc_limit) in
    let fits = fits_more (length c.args.arcs.now + c.loop-entry.entry-index) (get_or c.loop-entry.rests c.in-Some.first (pos 0)) e.flow few (c.loop-entry.invariant.rests.small c.in-Some.first) flow in
    omega (arith, ints, fits.0, fits.1, from, flow)

pub loop-entry-init : goal.loop-entry-init
loop-entry-init g c = record {
  clear = λ k below place reason f. absurd (omega (arith, below));
  rests = rests_long c.args.arcs.now (length c.args.arcs.now) (length c.args.arcs.now + 0) c.args.rests.now (omega arith) c.requires.rests;
  sums = λ x sums. sums;
}

pub loop-entry-preserved : goal.loop-entry-preserved
loop-entry-preserved g c =
    let arcs = c.args.arcs.now in
    let entries = c.args.entries.now in
    let k = c.loop-entry.entry-index in
    let e = entry_at entries k in
    let rests = c.loop-entry.rests in
    let first = c.in-Some.first in
    let n = length arcs + k in
    let here = c.loop-entry.invariant in
    let found : IsKthBetween arcs e.tail e.head 0 (Some first) = rw c.in-Some.is at c.first.ensures in
    let flow : SFits w64 e.flow = search rules in
    let from : c.from.result ≡ e.flow = c.from.ensures ∙ to_z-of_z w64 e.flow flow in
    let few : n < 2 ^ 63 + 4294967296 = omega (arith, c.loop-entry-test.true, c.requires.entry_limit, c.requires.arc_limit) in
    let fits = fits_more n (get_or rests first (pos 0)) e.flow few (here.rests.small first) flow in
    let wide : SFits w128 c.from.result = omega (arith, ints, from, flow) in
    let passes : (place : _) (reason : _) → ¬ unknown_row arcs entries k place reason = λ place reason f. f.3 (known_from arcs e.tail e.head first found) in
    rw (to_z-of_z w128 c.from.result wide, from, to_z-of_z w128 (get_or rests first (pos 0)) fits.0, to_z-of_z w128 (get_or rests first (pos 0) +ℤ e.flow) fits.1) (record {
      clear = below_more (λ j. (place : _) (reason : _) → ¬ unknown_row arcs entries j place reason) k here.clear passes;
      rests = rests_long arcs (n + 1) (length arcs + (k + 1)) (set rests first (get_or rests first (pos 0) +ℤ e.flow)) (omega arith) (rests_changed arcs n rests first (get_or rests first (pos 0) +ℤ e.flow) here.rests found.0 (first_itself arcs e.tail e.head first found) fits.2);
      sums = λ x sums. subst (λ (es : List Entry). AddUp arcs es (set rests first (get_or rests first (pos 0) +ℤ e.flow)) x) (sym (take_more entries k no_entry c.loop-entry-test.true)) (sums_more arcs (take k entries) e rests x first here.rests.one_each found (here.sums x sums));
    })

pub returns-in_default : goal.returns-in_default
returns-in_default g c =
    let arcs = c.args.arcs.now in
    let e = entry_at c.args.entries.now c.loop-entry.entry-index in
    let none : IsKthBetween arcs e.tail e.head 0 None = rw c.in_default.is at c.first.ensures in
    record {
      unknown = record { number = c.loop-entry.entry-index; fails = (c.loop-entry-test.true, refl, refl, λ known. absurd (omega (arith, none, known))); earlier = c.loop-entry.invariant.clear };
      rests = tt;
      sums = tt;
    }

pub returns : goal.returns
returns g c =
    let arcs = c.args.arcs.now in
    let entries = c.args.entries.now in
    let k = c.loop-entry.entry-index in
    let all : length entries ≡ k = omega (arith, c.loop-entry-test.false, c.loop-entry.auto.entry-index-end) in
    record {
      unknown = λ j place reason f. c.loop-entry.invariant.clear j (omega (arith, f.0, all)) place reason f;
      rests = rests_long arcs (length arcs + k) (length arcs + length entries) c.loop-entry.rests (omega (arith, all)) c.loop-entry.invariant.rests;
      sums = λ x sums. subst (λ (es : List Entry). AddUp arcs es c.loop-entry.rests x) (take_all k entries c.loop-entry-test.false) (c.loop-entry.invariant.sums x sums);
    }
