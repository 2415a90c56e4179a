-- Inside: the arrays that get the arcs of a text.
use Rattle.std.specs.{Prelude.{ℕ, ℤ, ◌≡◌, ◌≤◌, ◌∷◌, [], List, length, take, drop}, Borrow.{MutBor}}
use Rattle.dimacs_lines.specs.Limits.{most_count}
use Rattle.dimacs_network.specs.declared.network.ArcView.{ArcView}
use Rattle.dimacs_fill.specs.declared.arc_reading.ArcReading.{ArcReading}
use Rattle.dimacs_fill.specs.Filling.{tails_of, heads_of, lows_of, caps_of, costs_of}

-- the arrays, and how many arcs came
pub record ArcColumns : Type 0 where
  pub at : ℕ
  pub tails : MutBor (List ℕ)
  pub heads : MutBor (List ℕ)
  pub lows : MutBor (List ℤ)
  pub caps : MutBor (List ℤ)
  pub costs : MutBor (List ℤ)

abbrev pub columns : {R V : Type 0} → ArcReading R V → ArcColumns
columns reading = record { at = reading.at; tails = reading.tails; heads = reading.heads; lows = reading.lows; caps = reading.caps; costs = reading.costs }

-- what it reads into
abbrev pub names : {R V : Type 0} → ArcReading R V → List ℕ
names reading = reading.counted.ghost_name ∷ reading.tails.ghost_name ∷ reading.heads.ghost_name ∷ reading.lows.ghost_name ∷ reading.caps.ghost_name ∷ reading.costs.ghost_name ∷ []

-- the array begins with these items, as many as fit
abbrev pub BeginsWith : {X : Type 0} → List X → List X → Type 0
BeginsWith items array = take (length items) array ≡ take (length array) items

-- the arrays begin with the parts of these arcs
pub record Hold (columns : ArcColumns) (arcs : List ArcView) : Type 0 where
  pub count : columns.at ≡ length arcs
  pub tails : BeginsWith (tails_of arcs) columns.tails.now
  pub heads : BeginsWith (heads_of arcs) columns.heads.now
  pub lows : BeginsWith (lows_of arcs) columns.lows.now
  pub caps : BeginsWith (caps_of arcs) columns.caps.now
  pub costs : BeginsWith (costs_of arcs) columns.costs.now

-- the same, if they are as few as a text may have
abbrev pub HoldArcs : ArcColumns → List ArcView → Type 0
HoldArcs columns arcs = length arcs ≤ most_count → Hold columns arcs

-- the array is unchanged from this place on
pub record KeepsFrom {X : Type 0} (place : ℕ) (old new : MutBor (List X)) : Type 0 where
  pub long : length new.now ≡ length old.now
  pub rest : drop place new.now ≡ drop place old.now

-- after more arcs came
pub record AreLater (old new : ArcColumns) : Type 0 where
  pub more : old.at ≤ new.at
  pub tails : KeepsFrom new.at old.tails new.tails
  pub heads : KeepsFrom new.at old.heads new.heads
  pub lows : KeepsFrom new.at old.lows new.lows
  pub caps : KeepsFrom new.at old.caps new.caps
  pub costs : KeepsFrom new.at old.costs new.costs
