-- A table as a map.
use Rattle.std.proofs.Common.{◌≡◌, ◌≢◌, inl, inr, ℕ, zero, suc, ◌*◌, ◌/◌, ◌<◌, ◌≤◌, length, Option, None, Some, IsSome, refl, sym, ◌∙◌, ap, arith}
use Rattle.std.proofs.{lemmas.Bool.{cases_eq, cases_lt, true_from_ne_false}, lemmas.Int.{ints}}
use Rattle.std.proofs.lemmas.List.{get_or_past}
use Rattle.std.specs.{Prelude.{ℤ, ◌<ℤ◌, int_lt, Result, Ok, Err, OnOk}, Bool.{then_some}, Ordering.{nat_cmp}}
use Rattle.std.specs.{Cmp.{nat_cmp_total}, FinMap.{FinMap, empty, insert, get, same_map, nat_cmp-IsAntisymmetric}}
use Rattle.dimacs_network.specs.{declared.node_table.NodeTable.{NodeTable}, declared.node_table.TheConstants.{NO_PAGE}}
use Rattle.dimacs_network.specs.{Maps.{below_greatest, greatest, made_of, values_below, with_option}, Slots.{place_of}}
use Rattle.dimacs_network.specs.{Skips.{Skips}, Tables.{HasSlot, SameValues, blank_of, reach_of, value_of}}
use Rattle.dimacs_network.proofs.{Nodes.{get-empty, get-insert_same, get-insert_other}, SkipLemmas.{Skips-weaker}}
use Rattle.dimacs_network.proofs.SlotLemmas.{slot_value-no_page, slot_value-past}

module _ {T : Type 0} where
  -- looking up the values below n
  get-with_option_other : (nodes : FinMap nat_cmp T) (id other : ℕ) (value : Option T) → other ≢ id → get (with_option nodes id value) other ≡ get nodes other
  get-with_option_other nodes id other None apart = refl
  get-with_option_other nodes id other (Some value) apart = get-insert_other nodes id other value apart

  pub get-values_below_past : (f : ℕ → Option T) (n id : ℕ) → n ≤ id → get (values_below f n) id ≡ None
  unfolding values_below
  get-values_below_past f zero id h = get-empty id
  get-values_below_past f (suc n) id h = get-with_option_other (values_below f n) n id (f n) (omega arith) ∙ get-values_below_past f n id (omega arith)

  get-with_option_same : (nodes : FinMap nat_cmp T) (id : ℕ) (value : Option T) → get nodes id ≡ None → get (with_option nodes id value) id ≡ value
  get-with_option_same nodes id None h = h
  get-with_option_same nodes id (Some value) h = get-insert_same nodes id value

  pub get-values_below : (f : ℕ → Option T) (n id : ℕ) → id < n → get (values_below f n) id ≡ f id
  unfolding values_below
  get-values_below f zero id h = absurd (omega arith)
  get-values_below f (suc n) id h =
      elim (cases_eq id n) [
        | inl same ↦ rw same (get-with_option_same (values_below f n) n (f n) (get-values_below_past f n n (omega arith)))
        | inr apart ↦ get-with_option_other (values_below f n) n id (f n) apart ∙ get-values_below f n id (omega arith)
      ]

module _ {A : Type 0} where
  pub value_of-past : (table : NodeTable A) (id : ℕ) → 64 * reach_of table ≤ id → value_of table id ≡ blank_of table
  value_of-past table id past =
      slot_value-no_page table.blank table.directory.items table.slots.items id table.numbered (get_or_past table.directory.items (id / 64) NO_PAGE (omega (arith, past)))

module _ {A T : Type 0} (make : A → Option T) where
  pub get-made_of : (table : NodeTable A) (id : ℕ) → make (blank_of table) ≡ None → get (made_of make table) id ≡ make (value_of table id)
  unfolding made_of
  get-made_of table id blank =
      elim (cases_lt id (64 * reach_of table)) [
        | inl h ↦ get-values_below (λ id. make (value_of table id)) (64 * reach_of table) id h
        | inr h ↦ get-values_below_past (λ id. make (value_of table id)) (64 * reach_of table) id h ∙ sym (ap make (value_of-past table id h) ∙ blank)
      ]

  pub made_of-none : (table : NodeTable A) → make (blank_of table) ≡ None → ((id : ℕ) → value_of table id ≡ blank_of table) → made_of make table ≡ empty
  made_of-none table blank none = same_map nat_cmp_total nat_cmp-IsAntisymmetric _ _ (λ id. get-made_of table id blank ∙ ap make (none id) ∙ blank ∙ sym (get-empty id))

  pub made_of-same : (old new : NodeTable A) → make (blank_of old) ≡ None → blank_of new ≡ blank_of old → SameValues old new → made_of make new ≡ made_of make old
  made_of-same old new blank still same =
      same_map nat_cmp_total nat_cmp-IsAntisymmetric _ _ (λ id. get-made_of new id (ap make still ∙ blank) ∙ ap make (same id) ∙ sym (get-made_of old id blank))

  pub made_of-set : (old new : NodeTable A) (id : ℕ) (here : A) (value : T) → make (blank_of old) ≡ None → blank_of new ≡ blank_of old → make here ≡ Some value → value_of new id ≡ here
      → ((other : ℕ) → other ≢ id → value_of new other ≡ value_of old other) → made_of make new ≡ insert (made_of make old) id value
  made_of-set old new id here value blank still makes is others =
      same_map nat_cmp_total nat_cmp-IsAntisymmetric _ _ (λ other.
      elim (cases_eq other id) [
        | inl same ↦ rw same (get-made_of new id (ap make still ∙ blank) ∙ ap make is ∙ makes ∙ sym (get-insert_same (made_of make old) id value))
        | inr apart ↦ get-made_of new other (ap make still ∙ blank) ∙ ap make (others other apart) ∙ sym (get-made_of old other blank) ∙ sym (get-insert_other (made_of make old) id other value apart)
      ])

  -- the IDs that were not set are not in the map
  pub made_of-skips : (table : NodeTable A) (from end to : ℕ) → make (blank_of table) ≡ None → Skips (λ id. value_of table id ≡ blank_of table) from end to → Skips (λ id. get (made_of make table) id ≡ None) from end to
  made_of-skips table from end to blank is = Skips-weaker _ _ from end to (λ id same. get-made_of table id blank ∙ ap make same ∙ blank) is

  -- a node with a value has a slot
  pub HasSlot-value : (table : NodeTable A) (id : ℕ) → make (blank_of table) ≡ None → IsSome (get (made_of make table) id) → HasSlot table id
  HasSlot-value table id blank some =
      elim (cases_lt (place_of table.directory.items id) (length table.slots.items)) [
        | inl inside ↦ inside
        | inr past ↦ let impossible = rw (get-made_of table id blank, slot_value-past table.blank table.directory.items table.slots.items id past, blank) at some in cc
      ]

  pub made_of-set_ok : {E : Type 0} (result : Result (Unit {0}) E) (old new : NodeTable A) (id : ℕ) (here : A) (value : T) → make (blank_of old) ≡ None → blank_of new ≡ blank_of old → make here ≡ Some value
      → OnOk result (value_of new id ≡ here) → OnOk result ((other : ℕ) → other ≢ id → value_of new other ≡ value_of old other) → OnOk result (made_of make new ≡ insert (made_of make old) id value)
  made_of-set_ok (Ok done) old new id here value blank still makes is others = made_of-set old new id here value blank still makes is others
  made_of-set_ok (Err error) old new id here value blank still makes is others = tt

-- ---- the greatest number stands for none
pub below_greatest-none : (number : ℤ) → number ≡ greatest → below_greatest number ≡ None
below_greatest-none number is = ap below_greatest is

pub below_greatest-some : (number : ℤ) → number <ℤ greatest → below_greatest number ≡ Some number
below_greatest-some number below = ap (λ t. then_some t number) (true_from_ne_false (int_lt number greatest) (λ is. omega (arith, ints, below, is)))
