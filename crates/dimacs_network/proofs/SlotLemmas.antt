-- The values in slots, by ID.
use Rattle.std.proofs.Common.{◌≡◌, ◌≢◌, inl, inr, ℕ, ◌+◌, ◌*◌, ◌/◌, ◌%◌, ◌-◌, ◌<◌, ◌≤◌, List, [], ◌++◌, length, replicate, set, get_or, refl, sym, ◌∙◌, ap, arith, get_or-set_same, get_or-set_other}
use Rattle.std.proofs.lemmas.Bool.{cases_eq, cases_lt}
use Rattle.std.proofs.lemmas.List.{get_or_append_left, get_or-append_right, get_or_past, get_or-replicate, length-replicate}
use Rattle.dimacs_network.specs.{declared.node_table.TheConstants.{NO_PAGE}, Slots.{number_of, place_of, slot_value}}
use Rattle.dimacs_network.specs.inside.Slots.{IsDirectory, SameNumbers}

pub place_of-number : (directory : List ℕ) (id : ℕ) → place_of directory id ≡ number_of directory id * 64 + id % 64
unfolding place_of
place_of-number directory id = omega arith

-- the same directory numbers give the same places
pub place_of-same : (old new : List ℕ) → SameNumbers old new → (id : ℕ) → place_of new id ≡ place_of old id
unfolding place_of
place_of-same old new same id = ap (λ n. 64 * n + id % 64) (same (id / 64))

-- two IDs have different places
apart_places : (directory : List ℕ) (slots id other : ℕ) → IsDirectory directory slots → place_of directory id < slots → place_of directory other ≡ place_of directory id → other ≡ id
unfolding place_of
apart_places directory slots id other is inside same =
    let numbers : number_of directory id ≡ number_of directory other = omega (arith, same) in
    let below : 64 * number_of directory id < slots = omega (arith, inside) in
    let pages : id / 64 ≡ other / 64 = is.distinct (id / 64) (other / 64) below numbers in
    omega (arith, same, numbers, pages)

module _ {T : Type 0} (blank : T) where
  pub slot_value-none : (id : ℕ) → slot_value blank [] [] id ≡ blank
  unfolding slot_value
  slot_value-none id = refl

  -- what a look-up finds
  pub slot_value-found : (directory : List ℕ) (slots : List T) (id : ℕ) → get_or slots (place_of directory id) blank ≡ slot_value blank directory slots id
  unfolding slot_value
  slot_value-found directory slots id = refl

  pub slot_value-past : (directory : List ℕ) (slots : List T) (id : ℕ) → length slots ≤ place_of directory id → slot_value blank directory slots id ≡ blank
  unfolding slot_value
  slot_value-past directory slots id past = get_or_past slots (place_of directory id) blank past

  pub slot_value-blank : (directory : List ℕ) (slots : List T) → ((place : ℕ) → get_or slots place blank ≡ blank) → (id : ℕ) → slot_value blank directory slots id ≡ blank
  unfolding slot_value
  slot_value-blank directory slots all id = all (place_of directory id)

  -- the value on a page that isn't allocated
  pub slot_value-no_page : (directory : List ℕ) (slots : List T) (id : ℕ) → IsDirectory directory (length slots) → number_of directory id ≡ NO_PAGE → slot_value blank directory slots id ≡ blank
  unfolding place_of
  slot_value-no_page directory slots id is none = slot_value-past directory slots id (omega (arith, none, is.numbers_fit))

  pub slot_value-same_page : (directory : List ℕ) (slots : List T) (id other : ℕ) → IsDirectory directory (length slots) → length slots ≤ place_of directory id → other / 64 ≡ id / 64 → slot_value blank directory slots other ≡ blank
  unfolding place_of
  slot_value-same_page directory slots id other is past same = slot_value-past directory slots other (omega (arith, past, is.whole, ap (λ i. get_or directory i NO_PAGE) same))

  -- the values after one was put
  pub slot_value-put : (directory : List ℕ) (slots : List T) (id : ℕ) (value : T) → place_of directory id < length slots → slot_value blank directory (set slots (place_of directory id) value) id ≡ value
  unfolding slot_value
  slot_value-put directory slots id value inside = get_or-set_same slots (place_of directory id) value blank inside

  pub slot_value-put_other : (directory : List ℕ) (slots : List T) (id other : ℕ) (value : T) → IsDirectory directory (length slots) → place_of directory id < length slots → other ≢ id → slot_value blank directory (set slots (place_of directory id) value) other ≡ slot_value blank directory slots other
  unfolding slot_value
  slot_value-put_other directory slots id other value is inside apart = get_or-set_other slots (place_of directory id) (place_of directory other) value blank (λ same. apart (apart_places directory (length slots) id other is inside same))

  -- the values of IDs with another slot, or none
  pub slot_value-put_elsewhere : (directory : List ℕ) (slots : List T) (place other : ℕ) (value : T) → place < length slots → ¬ ((place ≡ place_of directory other) × (place_of directory other < length slots)) → slot_value blank directory (set slots place value) other ≡ slot_value blank directory slots other
  unfolding slot_value
  slot_value-put_elsewhere directory slots place other value inside off = get_or-set_other slots place (place_of directory other) value blank (λ same. off (sym same, omega (arith, same, inside)))

  pub replicate_blank : (n i : ℕ) → get_or (replicate n blank) i blank ≡ blank
  replicate_blank n i = elim (cases_lt i n) [
    | inl inside ↦ get_or-replicate n i blank blank inside
    | inr past ↦ get_or_past (replicate n blank) i blank (rw length-replicate past)
  ]

  pub slot_value-same : (old new : List ℕ) (slots : List T) → SameNumbers old new → (id : ℕ) → slot_value blank new slots id ≡ slot_value blank old slots id
  unfolding slot_value
  slot_value-same old new slots same id = ap (λ place. get_or slots place blank) (place_of-same old new same id)

-- ---- one page more
module _ (directory : List ℕ) (slots id : ℕ) (is : IsDirectory directory slots) (free : slots ≤ place_of directory id) (room : slots / 64 < NO_PAGE) (inside : id / 64 < length directory) where
  abbrev number : ℕ
  number = slots / 64

  abbrev longer : List ℕ
  longer = set directory (id / 64) number

  at_page : (i : ℕ) → i ≡ id / 64 → get_or longer i NO_PAGE ≡ number
  at_page i same = rw same (get_or-set_same directory (id / 64) number NO_PAGE inside)

  elsewhere : (i : ℕ) → i ≢ id / 64 → get_or longer i NO_PAGE ≡ get_or directory i NO_PAGE
  elsewhere i apart = get_or-set_other directory (id / 64) i number NO_PAGE apart

  taken_before : (i : ℕ) → i ≢ id / 64 → 64 * get_or longer i NO_PAGE < slots + 64 → 64 * get_or directory i NO_PAGE < slots
  taken_before i off below = elim (cases_eq (get_or directory i NO_PAGE) NO_PAGE) [
    | inl none ↦ absurd (omega (arith, below, elsewhere i off, none, room, is.whole))
    | inr some ↦ is.allocated i some
  ]

  pub page_place : place_of longer id < slots + 64
  unfolding place_of
  page_place = omega (arith, at_page (id / 64) refl, is.whole)

  module _ {T : Type 0} (blank : T) (values more : List T) (size : length values ≡ slots) (all_blank : (i : ℕ) → get_or more i blank ≡ blank) where
    stays : (i : ℕ) → get_or (values ++ more) i blank ≡ get_or values i blank
    stays i = elim (cases_lt i (length values)) [
      | inl inside ↦ get_or_append_left values more blank i inside
      | inr past ↦ get_or-append_right values more (length values) i blank refl past ∙ (all_blank (i - length values) ∙ sym (get_or_past values i blank past))
    ]

    pub page_values : (other : ℕ) → slot_value blank longer (values ++ more) other ≡ slot_value blank directory values other
    unfolding slot_value place_of
    page_values other =
        stays (place_of longer other) ∙ elim (cases_eq (other / 64) (id / 64)) [
          | inl same ↦
              let old : length values ≤ place_of directory other = omega (arith, free, size, is.whole, ap (λ i. get_or directory i NO_PAGE) same) in
              let new : length values ≤ place_of longer other = omega (arith, at_page (other / 64) same, size, is.whole) in
              get_or_past values (place_of longer other) blank new ∙ sym (get_or_past values (place_of directory other) blank old)
          | inr off ↦ ap (λ n. get_or values (64 * n + other % 64) blank) (elsewhere (other / 64) off)
        ]

-- the same pages in a longer directory
pub same_directory : (old new : List ℕ) (slots : ℕ) → SameNumbers old new → length new ≤ 67108864 → IsDirectory old slots → IsDirectory new slots
same_directory old new slots same short is = record {
  short = short;
  whole = is.whole;
  numbers_fit = is.numbers_fit;
  allocated = λ i some. rw (same i) (is.allocated i (λ none. some (same i ∙ none)));
  distinct = λ i j below equal. is.distinct i j (rw (same i) at below) (sym (same i) ∙ equal ∙ same j);
}
