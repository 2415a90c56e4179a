use Rattle.std.proofs.{Common.{◌≡◌, inl, length, ◌∙◌}, lemmas.Result.{err_from_is_err_and}}
use Rattle.dimacs_solve.specs.inside.Rests.{AddUp}
use Rattle.dimacs_solve.proofs.DealtLemmas.{put_cheapest, put_deals, put_fits}
use Rattle.dimacs_solve.proofs.RefusalLemmas.{all_clear, alone_from, first_alone, ok_from}
use Rattle.dimacs_solve.proofs.spread.deal.Goals as goal

pub returns : goal.returns
returns g c =
    let arcs = c.args.arcs.now in
    let entries = c.args.entries.now in
    let rests = c.raise_all.new.rests in
    let x = c.raise_all.new.amounts in
    let z = c.put_rests.new.amounts in
    let known = c.in_ok-add_entries.ensures.unknown in
    let dealt = c.raise_all.ensures.dealt in
    let sums : AddUp arcs entries rests x = c.raise_all.ensures.sums entries (c.in_ok-add_entries.ensures.sums c.put_lows.new.amounts c.put_lows.ensures.sums) in
    let long : length z ≡ length arcs = c.put_rests.auto.amounts ∙ dealt.within.one_each in
    let fits = put_fits arcs entries rests x dealt sums c.requires.bounds c.put_rests.result c.put_rests.ensures.fits in
    record {
      deals = ok_from c.put_rests.result (λ put. put_deals arcs entries rests x dealt sums z long put) c.put_rests.ensures.put;
      least = ok_from c.put_rests.result (λ put. put_cheapest arcs entries rests x dealt sums z long put c.requires.bounds) c.put_rests.ensures.put;
      tested = all_clear arcs entries c.put_rests.result known fits;
      refused = alone_from arcs entries c.requires.bounds c.put_rests.result known fits;
    }

-- an entry has no arc
pub returns-in_err-add_entries-clause-refused : goal.returns-in_err-add_entries-clause-refused
returns-in_err-add_entries-clause-refused g c =
    let (refusal, is, same) = err_from_is_err_and c.from_residual.result c.from_residual.ensures.1 in
    rw (is, same) (first_alone c.args.arcs.now c.args.entries.now c.requires.bounds _ _ (inl c.in_err-add_entries.ensures.unknown))
