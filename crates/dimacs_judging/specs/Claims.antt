-- The flows that the entries of solutions claim.
use Rattle.std.specs.Prelude.{ℕ, ◌≡◌, ◌==◌, ◌<◌, ◌≤◌, ◌&&◌, ◌⊎◌, Bool, List, length, map, take, get_or, count_by, ℤ, pos}
use Rattle.std.specs.List.{filter, range_with_len}
use Rattle.dimacs_network.specs.{declared.network.ArcView.{ArcView}, Arcs.{joins, arc_at}}
use Rattle.dimacs_claims.specs.declared.place.Entry.{Entry}
use Rattle.dimacs_records.specs.declared.reasons.Reason.{Reason}
use Rattle.dimacs_records.specs.declared.reasons.Reason.TheVariants.{UnknownArc, ArcTwice}
use Rattle.dimacs_judging.specs.{declared.verdict.Where.TheVariants.{Solution}, Tests.{Row}}

-- the entry has these ends
abbrev pub is_between : ℕ → ℕ → Entry → Bool
is_between tail head e = (e.tail == tail) && (e.head == head)

abbrev pub no_entry : Entry
no_entry = record { tail = 0; head = 0; flow = pos 0; line = 0 }

-- the entry with this index
abbrev pub entry_at : List Entry → ℕ → Entry
entry_at entries k = get_or entries k no_entry

-- the entries with these ends, in order
abbrev pub entries_between : List Entry → ℕ → ℕ → List Entry
entries_between entries tail head = filter (is_between tail head) entries

-- how many arcs before the arc with this index have its ends
abbrev pub parallels_before : List ArcView → ℕ → ℕ
parallels_before arcs i = count_by (joins (arc_at arcs i).tail (arc_at arcs i).head) (take i arcs)

-- the claimed amount of an arc: after k arcs with its ends, that of the entry after k such entries; 0 without one
abbrev pub claimed_of : List ArcView → List Entry → ℕ → ℤ
claimed_of arcs entries i = (get_or (entries_between entries (arc_at arcs i).tail (arc_at arcs i).head) (parallels_before arcs i) no_entry).flow

-- the claimed amount of each arc
abbrev pub claimed_flow : List ArcView → List Entry → List ℤ
claimed_flow arcs entries = map (claimed_of arcs entries) (range_with_len 0 (length arcs))

-- some arc has the ends of the entry
abbrev pub IsKnown : List ArcView → Entry → Type 0
IsKnown arcs e = 1 ≤ count_by (joins e.tail e.head) arcs

-- fewer earlier entries than arcs have the ends of this entry
abbrev pub HasArc : List ArcView → List Entry → Entry → Type 0
HasArc arcs before e = count_by (is_between e.tail e.head) before < count_by (joins e.tail e.head) arcs

-- every entry has its arc, and x is the claimed flow: the k-th entry with given ends belongs to the k-th arc with them
pub record Carries (arcs : List ArcView) (entries : List Entry) (x : List ℤ) : Type 0 where
  pub each_has_arc : (k : ℕ) → k < length entries → HasArc arcs (take k entries) (entry_at entries k)
  pub amounts : x ≡ claimed_flow arcs entries

-- no arc has the ends of the entry; or some do, but at least as many earlier entries have them
abbrev pub EntryFails : List ArcView → List Entry → Entry → Reason → Type 0
EntryFails arcs before e reason =
    ((reason ≡ UnknownArc) × (¬ IsKnown arcs e))
    ⊎ ((reason ≡ ArcTwice) × IsKnown arcs e × (count_by (joins e.tail e.head) arcs ≤ count_by (is_between e.tail e.head) before))

-- the tests of the entries; each names the entry's line
abbrev pub entry_row : List ArcView → List Entry → Row
entry_row arcs entries k place reason =
    (k < length entries) × (place ≡ Solution (entry_at entries k).line 0) × EntryFails arcs (take k entries) (entry_at entries k) reason
