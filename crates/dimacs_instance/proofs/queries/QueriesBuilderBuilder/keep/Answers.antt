use Rattle.std.proofs.{Common.{◌≡◌, ◌<◌, ◌∷◌, [], length, false, refl, arith}, lemmas.Bool.Decides.{nat_tests}}
use Rattle.std.proofs.{lemmas.Grind.{common_steps}, lemmas.Int.{ints}, lemmas.List.Elements.{All-push}}
use Rattle.std.specs.Prelude.{nat_le}
use Rattle.dimacs_records.specs.{declared.records.Record.TheVariants.{PairQuery}, Canonical.{FitAll}, Forms.{Id}}
use Rattle.dimacs_records.specs.Spelling.{parts_of}
use Rattle.dimacs_records.proofs.FitLaws.{fits_of}
use Rattle.dimacs_instance.specs.QueryTexts.{AreIds, HaveIds, Pairs, query_lines}
use Rattle.dimacs_records.specs.declared.kinds.TextKind.TheVariants as kinds
use Rattle.dimacs_instance.proofs.queries.QueriesBuilderBuilder.keep.Goals as goal

pub invariant_of-self-in-Continue-branch-2 : goal.invariant_of-self-in-Continue-branch-2
invariant_of-self-in-Continue-branch-2 c =
    let pairs = Pairs c.in-Pairs.pairs.items in
    let now : c.args.self.now ≡ record { declared = c.self.inside.declared; queries = pairs } = rw (← c.self.view_is, c.in-Pairs.is) refl in
    let full : nat_le c.self.inside.declared (length (query_lines pairs)) ≡ false = rw (now, c.in-PairQuery.is) at c.requires.passes.room in
    let room : length (query_lines pairs) < c.self.inside.declared = grind (arith, nat_tests, full) in
    let fit : FitAll (Id ∷ Id ∷ []) (parts_of (PairQuery c.in-PairQuery.from c.in-PairQuery.to)) = fits_of kinds.Queries (PairQuery c.in-PairQuery.from c.in-PairQuery.to) (Id ∷ Id ∷ []) (rw (← c.in-PairQuery.is) c.requires.of_kind) refl in
    let ids : AreIds (c.in-PairQuery.from, c.in-PairQuery.to) = (omega (arith, ints, fit.0), omega (arith, ints, fit.1.0)) in
    let old : HaveIds pairs = rw c.in-Pairs.is at c.self.invariant.ids in
    record { few = c.self.invariant.few; no_more = grind (arith, common_steps); ids = rw c.in_ok-push-in-PairQuery.ensures.items (All-push AreIds c.in-Pairs.pairs.items (c.in-PairQuery.from, c.in-PairQuery.to) old ids) }
