-- Arrays that get item after item.
use Rattle.std.proofs.Common.{◌≡◌, ◌∙◌, ◌++◌, ◌∷◌, ◌≤◌, ◌-◌, inl, inr, ℕ, List, [], refl, ap, sym, length, take, drop, map, arith}
use Rattle.std.proofs.lemmas.Bool.{cases_lt}
use Rattle.std.proofs.lemmas.List.{drop-drop, length-append, length-map, length-set, map-append, set_past, take-append-drop, take-append-le, take_all, take_more_set}
use Rattle.std.specs.{Prelude.{slice_set}, Borrow.{MutBor}}
use Rattle.dimacs_network.specs.declared.network.ArcView.{ArcView}
use Rattle.dimacs_fill.specs.{Filling.{filled}, inside.Columns.{ArcColumns, AreLater, BeginsWith, KeepsFrom}}

module _ {X : Type 0} where
  --   one more item, if it fits
  pub begins_more : (items array : List X) (x : X) → BeginsWith items array → BeginsWith (items ++ x ∷ []) (slice_set array (length items) x)
  begins_more items array x begins = elim (cases_lt (length items) (length array)) [
    | inl fits ↦
        ap (λ n. take n (slice_set array (length items) x)) (length-append items (x ∷ []))
        ∙ take_more_set array (length items) x fits
        ∙ ap (λ front. front ++ x ∷ []) (begins ∙ take_all (length array) items (omega (arith, fits)))
        ∙ sym (take_all (length (slice_set array (length items) x)) (items ++ x ∷ []) (omega (arith, fits, length-set array (length items) x, length-append items (x ∷ []))))
    | inr full ↦
        ap (λ l. take (length (items ++ x ∷ [])) l) (set_past array (length items) x full)
        ∙ take_all (length (items ++ x ∷ [])) array (omega (arith, full, length-append items (x ∷ [])))
        ∙ sym (take_all (length items) array full) ∙ begins
        ∙ sym (take-append-le (length array) items (x ∷ []) full)
        ∙ ap (λ l. take (length l) (items ++ x ∷ [])) (sym (set_past array (length items) x full))
  ]

  --   the part of one more arc
  pub begins_part : (part : ArcView → X) (arcs : List ArcView) (a : ArcView) (old new : List X) (at : ℕ) → at ≡ length arcs → BeginsWith (map part arcs) old → new ≡ slice_set old at (part a) → BeginsWith (map part (arcs ++ a ∷ [])) new
  begins_part part arcs a old new at count begins is =
      rw (map-append part arcs (a ∷ []), is, count ∙ sym (length-map arcs part)) (begins_more (map part arcs) old (part a) begins)

  --   an array that begins with the items, and has its rest
  pub filled_by : (items old new : List X) → BeginsWith items new → length new ≡ length old → drop (length items) new ≡ drop (length items) old → new ≡ filled items old
  filled_by items old new begins long rest =
      sym (take-append-drop (length items) new)
      ∙ ap (λ front. front ++ drop (length items) new) (begins ∙ ap (λ n. take n items) long)
      ∙ ap (λ back. take (length old) items ++ back) rest

  further : (place more : ℕ) (old new : List X) → place ≤ more → drop place new ≡ drop place old → drop more new ≡ drop more old
  further place more old new no_less same =
      ap (λ n. drop n new) (omega (arith, no_less)) ∙ sym (drop-drop (more - place) place new) ∙ ap (drop (more - place)) same ∙ drop-drop (more - place) place old ∙ ap (λ n. drop n old) (omega (arith, no_less))

  pub keeps_twice : (place more : ℕ) (a b c : MutBor (List X)) → place ≤ more → KeepsFrom place a b → KeepsFrom more b c → KeepsFrom more a c
  keeps_twice place more a b c no_less first second = record {
    long = second.long ∙ first.long;
    rest = second.rest ∙ further place more a.now b.now no_less first.rest;
  }

  pub keeps_itself : (place : ℕ) (a : MutBor (List X)) → KeepsFrom place a a
  keeps_itself place a = record { long = refl; rest = refl }

pub later_twice : (a b c : ArcColumns) → AreLater a b → AreLater b c → AreLater a c
later_twice a b c first second = record {
  more = omega (arith, first.more, second.more);
  tails = keeps_twice b.at c.at a.tails b.tails c.tails second.more first.tails second.tails;
  heads = keeps_twice b.at c.at a.heads b.heads c.heads second.more first.heads second.heads;
  lows = keeps_twice b.at c.at a.lows b.lows c.lows second.more first.lows second.lows;
  caps = keeps_twice b.at c.at a.caps b.caps c.caps second.more first.caps second.caps;
  costs = keeps_twice b.at c.at a.costs b.costs c.costs second.more first.costs second.costs;
}

pub later_itself : (a : ArcColumns) → AreLater a a
later_itself a = record {
  more = omega arith;
  tails = keeps_itself a.at a.tails;
  heads = keeps_itself a.at a.heads;
  lows = keeps_itself a.at a.lows;
  caps = keeps_itself a.at a.caps;
  costs = keeps_itself a.at a.costs;
}
