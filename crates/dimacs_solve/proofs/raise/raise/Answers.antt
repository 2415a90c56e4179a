use Rattle.std.proofs.{Common.{rules, ◌≡◌, ◌-ℤ◌, ◌+ℤ◌, SFits, w64, refl, ◌∙◌, arith}, lemmas.Int.{ints, to_z-of_z}}
use Rattle.std.proofs.lemmas.Option.{get_or_from_slice_get}
use Rattle.std.specs.Int.{w128}
use Rattle.dimacs_network.specs.Arcs.{no_arc}
use Rattle.dimacs_judging.specs.Rows.{amount_at}
use Rattle.dimacs_solve.specs.inside.Raised.{IsMore}
use Rattle.dimacs_solve.proofs.RaisedLemmas.{IsAmountOf, amount_of, fits_raised, fits_taken}
use Rattle.dimacs_solve.proofs.raise.raise.Goals.{After-arc, After-more_of-more}
use Rattle.dimacs_solve.proofs.raise.raise.Goals as goal

-- the arc's amount
amount : (g : _) (c : After-arc g) → IsAmountOf c.arc.result (amount_at c.args.amounts.now c.args.arc)
amount g c = amount_of c.args.arc c.arc.result c.arc.ensures c.requires.known c.requires.bounds c.requires.amounts

-- what is put on the arc
put : (g : _) (c : After-more_of-more g) → IsMore (amount_at c.args.rests.now c.first_parallel-first.result) (c.arc.result.cap -ℤ amount_at c.args.amounts.now c.args.arc) c.more_of-more.result
put g c =
    let a = c.arc.result in
    let z = amount_at c.args.amounts.now c.args.arc in
    let r = amount_at c.args.rests.now c.first_parallel-first.result in
    let at = amount_of c.args.arc a c.arc.ensures c.requires.known c.requires.bounds c.requires.amounts in
    let rest : SFits w128 r = search rules in
    rw (to_z-of_z w64 a.cap at.cap_fits, to_z-of_z w64 z at.fits, to_z-of_z w64 (a.cap -ℤ z) at.residual_fits, to_z-of_z w128 r rest) at c.more_of-more.ensures

pub overflow_sub-residual : goal.overflow_sub-residual
overflow_sub-residual g c =
    let at = amount g (goal.at.overflow_sub-residual g c).After-arc in
    rw (to_z-of_z w64 c.arc.result.cap at.cap_fits, to_z-of_z w64 _ at.fits) at.residual_fits

pub more_of-more-requires : goal.more_of-more-requires
more_of-more-requires g c =
    let at = amount g (goal.at.more_of-more-requires g c).After-arc in
    rw (to_z-of_z w64 c.arc.result.cap at.cap_fits, to_z-of_z w64 _ at.fits, to_z-of_z w64 _ at.residual_fits) at.residual

pub overflow_sub-rests : goal.overflow_sub-rests
overflow_sub-rests g c =
    let r = amount_at c.args.rests.now c.first_parallel-first.result in
    let more = c.more_of-more.result in
    let rest : SFits w128 r = search rules in
    let narrow : SFits w64 more = search rules in
    let from : c.from.result ≡ more = c.from.ensures ∙ to_z-of_z w64 more narrow in
    let wide : SFits w128 c.from.result = omega (arith, ints, from, narrow) in
    rw (to_z-of_z w128 r rest, to_z-of_z w128 c.from.result wide, from) (fits_taken rest (put g (goal.at.overflow_sub-rests g c).After-more_of-more))

pub overflow_add-amounts : goal.overflow_add-amounts
overflow_add-amounts g c =
    let more = c.more_of-more.result in
    let at = amount g (goal.at.overflow_add-amounts g c).After-arc in
    let narrow : SFits w64 more = search rules in
    rw (to_z-of_z w64 _ at.fits, to_z-of_z w64 more narrow) (fits_raised at (put g (goal.at.overflow_add-amounts g c).After-more_of-more))

pub returns : goal.returns
returns g c =
    let z = amount_at c.args.amounts.now c.args.arc in
    let r = amount_at c.args.rests.now c.first_parallel-first.result in
    let more = c.more_of-more.result in
    let at = amount g (goal.at.returns g c).After-arc in
    let is = put g (goal.at.returns g c).After-more_of-more in
    let rest : SFits w128 r = search rules in
    let narrow : SFits w64 more = search rules in
    let from : c.from.result ≡ more = c.from.ensures ∙ to_z-of_z w64 more narrow in
    let wide : SFits w128 c.from.result = omega (arith, ints, from, narrow) in
    rw (to_z-of_z w128 r rest, to_z-of_z w128 c.from.result wide, from, to_z-of_z w128 (r -ℤ more) (fits_taken rest is), to_z-of_z w64 z at.fits, to_z-of_z w64 more narrow, to_z-of_z w64 (z +ℤ more) (fits_raised at is)) (record {
      first = c.first_parallel-first.result;
      more = more;
      is_first = c.first_parallel-first.ensures;
      is_more = rw (get_or_from_slice_get c.args.arcs.now c.args.arc c.arc.result no_arc c.arc.ensures) is;
      rest_is = refl;
      amount_is = refl;
    })
