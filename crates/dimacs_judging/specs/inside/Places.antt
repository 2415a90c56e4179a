-- Inside: a flow while entries are put on their arcs, entry by entry.
use Rattle.std.specs.Prelude.{List, ℤ, Result, Ok, Err, ◌++◌, ◌∷◌, [], ◌≡◌, ◌<◌, ◌≤◌, ◌^◌, Bool, true, false, length, replicate, if◌then◌else◌, Option, None, Some}
use Rattle.dimacs_network.specs.{declared.network.ArcView.{ArcView}, declared.arc_index.ArcIndex.{ArcIndex}}
use Rattle.dimacs_network.specs.ArcOrder.{HasRoom, Indexes}
use Rattle.dimacs_claims.specs.declared.place.Entry.{Entry}
use Rattle.dimacs_records.specs.declared.reasons.Reason.{Reason}
use Rattle.dimacs_judging.specs.{declared.verdict.Where.{Where}, Claims.{Carries, EntryFails, entry_row}}
use Rattle.dimacs_judging.specs.{Tests.{Clear, FirstOfRow}, Places.{PlacesValue, HavePlaced}}

-- an amount for each arc and, from the first entry out of order on, a count
pub record HaveRoom (p : PlacesValue) : Type 0 where
  pub flow : length p.flow ≡ length p.arcs
  pub counts : p.out_of_order ≡ true → length p.counts ≡ length p.arcs
  pub no_counts : p.out_of_order ≡ false → p.counts ≡ []
  pub in_order : p.in_order ≤ length p.arcs
  pub arc_limit : length p.arcs < 2 ^ 32

-- entries are counted from now on
abbrev pub left_order : PlacesValue → PlacesValue
left_order p = record p { out_of_order = true; counts = if p.out_of_order then p.counts else replicate (length p.arcs) 0 }

-- an index of these arcs, if there is one: filled, or with room for them
abbrev pub IsIndexFor : List ArcView → Bool → Option ArcIndex → Type 0
IsIndexFor arcs filled None = Unit {0}
IsIndexFor arcs true (Some index) = Indexes arcs index
IsIndexFor arcs false (Some index) = HasRoom arcs index

-- one more entry: it passes and its flow is put, or the reason why it fails
abbrev pub PutsEntry : List ArcView → List Entry → Entry → Result Unit Reason → PlacesValue → Type 0
PutsEntry arcs before e (Ok done) p = HavePlaced p (before ++ e ∷ [])
PutsEntry arcs before e (Err reason) p = Clear (entry_row arcs before) × EntryFails arcs before e reason

-- the flow of the entries, or the first that fails
abbrev pub FindsFlow : List ArcView → List Entry → Result (List ℤ) (Where × Reason) → Type 0
FindsFlow arcs entries (Ok x) = Carries arcs entries x
FindsFlow arcs entries (Err refusal) = FirstOfRow (entry_row arcs entries) refusal.0 refusal.1
