-- A set of nodes, by the bytes that hold it.
use Rattle.std.proofs.Common.{◌≡◌, ◌≢◌, inl, inr, ℕ, ◌*◌, ◌/◌, ◌%◌, ◌<◌, ◌≤◌, ◌==◌, List, length, Bool, true, false, cond, is_some, refl, sym, ◌∙◌, ap, arith}
use Rattle.std.proofs.{lemmas.Bool.{cases_eq, cases_lt, eq-eqb, false≢true, ne_eqb}, lemmas.List.{get_or_past}}
use Rattle.std.proofs.lemmas.Nat.Bits.{bit_at-zero}
use Rattle.std.specs.{Prelude.{◌||◌, ◌&&◌, not, IsTrue, Result, Ok, Err, OnErr}, Bool.{then_some}}
use Rattle.std.specs.{Cmp.{nat_cmp_total, unsigned_tied}, FinMap.{contains_key-keys}}
use Rattle.std.specs.FinSet.{contains, contains-from_list, same_set, nat_cmp-IsAntisymmetric}
use Rattle.dimacs_network.specs.{Sets.{byte_at, has_bit, has_node, nodes_in}, inside.Sets.{SameBytes}}
use Rattle.dimacs_network.proofs.MapLemmas.{get-values_below, get-values_below_past}
use Rattle.dimacs_network.proofs.Nodes.{contains-empty, contains-insert}
use Rattle.std.specs.FinSet as set

is_some-then_some : (b : Bool) → is_some (then_some b (tt {0})) ≡ b
is_some-then_some true = refl
is_some-then_some false = refl

-- a byte without bits has no node
has_bit-zero : (byte id : ℕ) → byte ≡ 0 → has_bit byte id ≡ false
has_bit-zero byte id none = ap (λ b. has_bit b id) none ∙ ap (λ bit. bit == 1) (bit_at-zero (id % 8))

-- nor has one past the last
has_node-past : (bytes : List ℕ) (id : ℕ) → length bytes ≤ id / 8 → has_node bytes id ≡ false
has_node-past bytes id past = has_bit-zero _ id (get_or_past bytes (id / 8) 0 past)

pub contains-nodes_in : (bytes : List ℕ) (id : ℕ) → contains (nodes_in bytes) id ≡ has_node bytes id
unfolding nodes_in
contains-nodes_in bytes id =
    contains-from_list nat_cmp_total _ id ∙ sym (contains_key-keys _ id)
    ∙ elim (cases_lt id (8 * length bytes)) [
      | inl inside ↦ ap is_some (get-values_below _ _ id inside) ∙ is_some-then_some (has_node bytes id)
      | inr past ↦ ap is_some (get-values_below_past _ _ id past) ∙ sym (has_node-past bytes id (omega (arith, past)))
    ]

pub contains-past : (bytes : List ℕ) (id : ℕ) → length bytes ≤ id / 8 → contains (nodes_in bytes) id ≡ false
contains-past bytes id past = contains-nodes_in bytes id ∙ has_node-past bytes id past

pub nodes_in-none : (bytes : List ℕ) → ((place : ℕ) → byte_at bytes place ≡ 0) → nodes_in bytes ≡ set.empty
nodes_in-none bytes none =
    same_set nat_cmp_total nat_cmp-IsAntisymmetric _ _ (λ id. contains-nodes_in bytes id ∙ has_bit-zero _ id (none (id / 8)) ∙ sym (contains-empty id))

pub nodes_in-same : (old new : List ℕ) → SameBytes old new → nodes_in new ≡ nodes_in old
nodes_in-same old new same =
    same_set nat_cmp_total nat_cmp-IsAntisymmetric _ _ (λ id.
    contains-nodes_in new id ∙ ap (λ b. has_bit b id) (same (id / 8)) ∙ sym (contains-nodes_in old id))

-- one bit of one byte may have changed
module _ (old new : List ℕ) (id : ℕ)
    (bits : (other : ℕ) → other % 8 ≢ id % 8 → has_bit (byte_at new (id / 8)) other ≡ has_bit (byte_at old (id / 8)) other)
    (bytes : (place : ℕ) → place ≢ id / 8 → byte_at new place ≡ byte_at old place) where
  has_node-other : (other : ℕ) → other ≢ id → has_node new other ≡ has_node old other
  has_node-other other apart =
      elim (cases_eq (other / 8) (id / 8)) [
        | inl same ↦
            ap (λ p. has_bit (byte_at new p) other) same
            ∙ bits other (λ lower. apart (omega (arith, same, lower)))
            ∙ sym (ap (λ p. has_bit (byte_at old p) other) same)
        | inr off ↦ ap (λ b. has_bit b other) (bytes (other / 8) off)
      ]

  contains-changed : (b : Bool) → has_bit (byte_at new (id / 8)) id ≡ b → (other : ℕ) → contains (nodes_in new) other ≡ cond (other == id) b (contains (nodes_in old) other)
  contains-changed b here other =
      contains-nodes_in new other
      ∙ elim (cases_eq other id) [
        | inl same ↦ ap (has_node new) same ∙ here ∙ ap (λ t. cond t b (contains (nodes_in old) other)) (sym (eq-eqb other id same))
        | inr apart ↦
            has_node-other other apart ∙ sym (contains-nodes_in old other)
            ∙ ap (λ t. cond t b (contains (nodes_in old) other)) (sym (ne_eqb other id apart))
      ]

  pub nodes_in-insert : has_bit (byte_at new (id / 8)) id ≡ true → nodes_in new ≡ set.insert (nodes_in old) id
  nodes_in-insert here =
      same_set nat_cmp_total nat_cmp-IsAntisymmetric _ _ (λ other.
      contains-changed true here other ∙ either (other == id) (contains (nodes_in old) other) ∙ sym (contains-insert (nodes_in old) id other))
    where
      either : (t b : Bool) → cond t true b ≡ (t || b)
      either true b = refl
      either false b = refl

  pub nodes_in-remove : has_bit (byte_at new (id / 8)) id ≡ false → nodes_in new ≡ set.remove (nodes_in old) id
  nodes_in-remove here =
      same_set nat_cmp_total nat_cmp-IsAntisymmetric _ _ (λ other.
      contains-changed false here other ∙ both (other == id) (contains (nodes_in old) other)
      ∙ sym (set.contains-remove nat_cmp_total (nodes_in old) id other ∙ ap (λ t. not t && contains (nodes_in old) other) (unsigned_tied other id)))
    where
      both : (t b : Bool) → cond t false b ≡ (not t && b)
      both true b = refl
      both false b = refl

-- a node without a byte isn't there
pub nodes_in-absent : (bytes : List ℕ) (id : ℕ) → length bytes ≤ id / 8 → nodes_in bytes ≡ set.remove (nodes_in bytes) id
nodes_in-absent bytes id past = nodes_in-remove bytes bytes id (λ other apart. refl) (λ place off. refl) (has_node-past bytes id past)

-- a node that is there has a byte
pub has_byte : (bytes : List ℕ) (id : ℕ) → IsTrue (contains (nodes_in bytes) id) → id / 8 < length bytes
has_byte bytes id there =
    elim (cases_lt (id / 8) (length bytes)) [
      | inl inside ↦ inside
      | inr past ↦ let impossible = rw (contains-past bytes id past) at there in absurd (false≢true impossible)
    ]

-- the same after a call that failed
pub nodes_in-same_err : {T E : Type 0} (result : Result T E) (old new : List ℕ) → SameBytes old new → OnErr result (nodes_in new ≡ nodes_in old)
nodes_in-same_err (Ok done) old new same = tt
nodes_in-same_err (Err error) old new same = nodes_in-same old new same
