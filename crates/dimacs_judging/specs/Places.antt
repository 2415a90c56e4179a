-- A flow while entries are put on their arcs, entry by entry.
use Rattle.std.specs.Prelude.{ℕ, zero, suc, ◌≡◌, Bool, false, List, take, get_or, count_by, ℤ, Option, None, Some}
use Rattle.dimacs_network.specs.{declared.network.ArcView.{ArcView}, Arcs.{joins, IsKthBetween}}
use Rattle.dimacs_claims.specs.{declared.place.Entry.{Entry}, declared.place.Placed.{Placed}}
use Rattle.dimacs_claims.specs.{SolutionReading.{IsPlaced}, SolutionTexts.{SolutionValue}}
use Rattle.dimacs_records.specs.declared.reasons.Reason.{Reason}
use Rattle.dimacs_judging.specs.{declared.verdict.Where.{Where}, Claims.{is_between, claimed_flow, entry_row}}
use Rattle.dimacs_judging.specs.Tests.{Clear, FirstOfRow}

-- the arcs, their amounts and counts, how many entries came in order, whether another came, whether entries are searched for,
-- and the first that fails
pub record PlacesValue : Type 0 where
  pub arcs : List ArcView
  pub flow : List ℤ
  pub counts : List ℕ
  pub in_order : ℕ
  pub out_of_order : Bool
  pub searched : Bool
  pub refusal : Option (Where × Reason)

-- k, or n if k is 0
abbrev pub counted_or : ℕ → ℕ → ℕ
counted_or zero n = n
counted_or (suc k) n = suc k

-- how many entries with these ends came: the count at their first arc, or, if it is 0, such arcs below `in_order`
abbrev pub placed_between : PlacesValue → ℕ → ℕ → ℕ → ℕ
placed_between p tail head first = counted_or (get_or p.counts first 0) (count_by (joins tail head) (take p.in_order p.arcs))

-- the entries pass, and their flow is on the arcs
pub record HavePlaced (p : PlacesValue) (entries : List Entry) : Type 0 where
  pub clear : Clear (entry_row p.arcs entries)
  pub amounts : p.flow ≡ claimed_flow p.arcs entries
  pub counted : (tail head first : ℕ) → IsKthBetween p.arcs tail head 0 (Some first)
      → placed_between p tail head first ≡ count_by (is_between tail head) entries
  pub uncounted : p.out_of_order ≡ false → (k : ℕ) → get_or p.counts k 0 ≡ 0
  pub ordered : p.out_of_order ≡ false → (tail head : ℕ) → count_by (joins tail head) (take p.in_order p.arcs) ≡ count_by (is_between tail head) entries

-- the first entry that fails, or the flow if none does
abbrev pub Hold : PlacesValue → List Entry → Option (Where × Reason) → Type 0
Hold p entries None = HavePlaced p entries
Hold p entries (Some refusal) = FirstOfRow (entry_row p.arcs entries) refusal.0 refusal.1

-- these entries were put
abbrev pub ArePlaced : PlacesValue → List Entry → Type 0
ArePlaced p entries = Hold p entries p.refusal

-- the solution has the value that was read, and its entries were put
abbrev pub StandsFor : Placed PlacesValue → SolutionValue → Type 0
StandsFor placed s = IsPlaced placed.value placed.value_line (ArePlaced placed.place) s
