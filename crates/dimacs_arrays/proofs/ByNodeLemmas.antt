-- One more node of an array by node.
use Rattle.std.proofs.Common.{◌≡◌, inl, inr, ℕ, zero, suc, ◌+◌, ◌<◌, ◌≤◌, ◌==◌, ◌||◌, ◌^◌, List, [], ◌∷◌, length, get_or, map, Option, Some, None, Result, Ok, Err, Bool, true, false, cond, refl, sym, ◌∙◌, ap, add-one, arith}
use Rattle.std.proofs.Math.Path.{fun_ext}
use mir.Val.{bool_byte}
use Rattle.std.specs.Prelude.{ℤ, pos, neg_ℤ, ◌+ℤ◌, ◌≤ℤ◌, nat_lt, if◌then◌else◌, unwrap_or, IfNone, IfOk}
use Rattle.std.specs.{List.{range_with_len}, Ordering.{int_eq, nat_cmp}, Cmp.{signed_Decides}}
use Rattle.std.specs.FinMap.{empty, get, insert, remove}
use Rattle.std.proofs.lemmas.Bool.{cases_Bool, cases_lt, cases_order, eq-eqb, le-ltb, lt-ltb, ne_eqb}
use Rattle.std.proofs.{lemmas.List.{get_or_past}, lemmas.List.Elements.{All-cons, All-nil}, lemmas.Int.{by_lt_z, ints}}
use Rattle.std.proofs.lemmas.List.FromFn.{get_or-map-range_with_len, length-map-range_with_len}
use Rattle.dimacs_network.proofs.Nodes.{contains-empty, contains-insert, get-empty, get-insert}
use Rattle.dimacs_records.specs.Ranges.{IsWide}
use Rattle.dimacs_lines.specs.Limits.{IsNode}
use Rattle.dimacs_records.proofs.ZeroLemmas.{get-removed}
use Rattle.dimacs_claims.specs.Cuts.{CutValue, IsCut, empty_cut, with_node}
use Rattle.dimacs_claims.specs.Potentials.{PotentialsValue, potential_of, with_potential, zero_potentials}
use Rattle.dimacs_judging.specs.Cuts.{members}
use Rattle.dimacs_arrays.specs.{inside.MinCertified.{AreShifted, IsLeastOf, IsWiderBy}, MinArrays.{IsWider}}
use Rattle.dimacs_arrays.specs.ByNode.{AreBits, marked, number_of}

-- the items of the first n nodes, and none for the others
module _ {T : Type 0} (nothing : T) where
  abbrev pub among : ℕ → T → ℕ → T
  among n x v = cond (nat_lt n v) nothing x

  pub among_none : (x : T) (v : ℕ) → (v ≡ 0 → x ≡ nothing) → nothing ≡ among 0 x v
  among_none x zero none = sym (none refl)
  among_none x (suc v) none = rw (lt-ltb 0 (suc v) (omega arith)) refl

  pub among_all : (n : ℕ) (x : T) (v : ℕ) → (n < v → x ≡ nothing) → among n x v ≡ x
  among_all n x v past = elim (cases_lt n v) [
    | inl more ↦ rw (lt-ltb n v more) (sym (past more))
    | inr within ↦ rw (le-ltb n v within) refl
  ]

  module _ (x : T) (n v : ℕ) where
    --     one more node, with the item y
    pub among_more : (y : T) → (v ≡ n + 1 → x ≡ y) → cond (v == n + 1) y (among n x v) ≡ among (n + 1) x v
    among_more y here = elim (cases_order v (n + 1)) [
      | inl same ↦ rw (eq-eqb v (n + 1) same, le-ltb (n + 1) v (omega (arith, same))) (sym (here same))
      | inr apart ↦ elim apart [
        | inl low ↦ rw (ne_eqb v (n + 1) (λ same. omega (arith, same, low)), le-ltb n v (omega (arith, low)), le-ltb (n + 1) v (omega (arith, low))) refl
        | inr high ↦ rw (ne_eqb v (n + 1) (λ same. omega (arith, same, high)), lt-ltb n v (omega (arith, high)), lt-ltb (n + 1) v high) refl
      ]
    ]

    --     or with none
    pub among_same : (v ≡ n + 1 → x ≡ nothing) → among n x v ≡ among (n + 1) x v
    among_same here = elim (cases_order v (n + 1)) [
      | inl same ↦ rw (lt-ltb n v (omega (arith, same)), le-ltb (n + 1) v (omega (arith, same))) (sym (here same))
      | inr apart ↦ elim apart [
        | inl low ↦ rw (le-ltb n v (omega (arith, low)), le-ltb (n + 1) v (omega (arith, low))) refl
        | inr high ↦ rw (lt-ltb n v (omega (arith, high)), lt-ltb (n + 1) v high) refl
      ]
    ]

-- ---- nodes
abbrev pub nodes_among : ℕ → Bool → ℕ → Bool
nodes_among = among false

or_cond : (t b : Bool) → (t || b) ≡ cond t true b
or_cond true b = refl
or_cond false b = refl

module _ (bytes : List ℕ) where
  pub no_nodes : (nodes v : ℕ) → members (empty_cut nodes) v ≡ nodes_among 0 (marked bytes v) v
  no_nodes nodes v = contains-empty v ∙ among_none false (marked bytes v) v (λ zero_is. ap (marked bytes) zero_is)

  module _ (cut new : CutValue) (i : ℕ) (so_far : (v : ℕ) → members cut v ≡ nodes_among i (marked bytes v) v) where
    here : (v : ℕ) → v ≡ i + 1 → marked bytes v ≡ nat_lt 0 (get_or bytes i 0)
    here v same = ap (marked bytes) (same ∙ add-one i)

    pub node_in : new ≡ with_node cut (i + 1) → nat_lt 0 (get_or bytes i 0) ≡ true → (v : ℕ) → members new v ≡ nodes_among (i + 1) (marked bytes v) v
    node_in is inside v =
        ap (λ c. members c v) is ∙ contains-insert cut.ids (i + 1) v ∙ or_cond (v == i + 1) (members cut v) ∙ ap (cond (v == i + 1) true) (so_far v)
        ∙ among_more false (marked bytes v) i v true (λ same. here v same ∙ inside)

    pub node_out : nat_lt 0 (get_or bytes i 0) ≡ false → (v : ℕ) → members cut v ≡ nodes_among (i + 1) (marked bytes v) v
    node_out outside v = so_far v ∙ among_same false (marked bytes v) i v (λ same. here v same ∙ outside)

  marked_past : (v : ℕ) → length bytes < v → marked bytes v ≡ false
  marked_past zero past = refl
  marked_past (suc k) past = ap (nat_lt 0) (get_or_past bytes k 0 (omega (arith, past)))

  pub all_nodes : (cut : CutValue) → ((v : ℕ) → members cut v ≡ nodes_among (length bytes) (marked bytes v) v) → members cut ≡ marked bytes
  all_nodes cut so_far = fun_ext (λ v. so_far v ∙ among_all false (length bytes) (marked bytes v) v (marked_past v))

abbrev pub byte_in : (ℕ → Bool) → ℕ → ℕ
byte_in set v = bool_byte (set v)

one_if : (b : Bool) → nat_lt 0 (bool_byte b) ≡ b
one_if true = refl
one_if false = refl

-- the bytes of a set mark its nodes, and no others
marked-bytes : (set : ℕ → Bool) (nodes v : ℕ) → IsNode nodes v → marked (map (byte_in set) (range_with_len 1 nodes)) v ≡ set v
marked-bytes set nodes zero node = absurd (omega (arith, node.0))
marked-bytes set nodes (suc k) node = ap (λ n. nat_lt 0 n) (get_or-map-range_with_len (byte_in set) 1 nodes k (suc k) 0 (omega (arith, node.1)) (omega arith)) ∙ one_if (set (suc k))

-- and no other
pub marked_set : (c : CutValue) → IsCut c → marked (map (byte_in (members c)) (range_with_len 1 c.nodes)) ≡ members c
marked_set c law = fun_ext each
  where
    bytes : List ℕ
    bytes = map (byte_in (members c)) (range_with_len 1 c.nodes)

    outside : (v : ℕ) → (¬ IsNode c.nodes v) → false ≡ members c v
    outside v off = elim (cases_Bool (members c v)) [ inl is ↦ absurd (off (law.within v is)) | inr none ↦ sym none ]

    each : (v : ℕ) → marked bytes v ≡ members c v
    each zero = outside zero (λ node. omega (arith, node.0))
    each (suc k) = elim (cases_lt k c.nodes) [
      | inl within ↦ marked-bytes (members c) c.nodes (suc k) (omega arith, omega (arith, within))
      | inr past ↦ ap (nat_lt 0) (get_or_past bytes k 0 (omega (arith, past, length-map-range_with_len (byte_in (members c)) 1 c.nodes))) ∙ outside (suc k) (λ node. omega (arith, node.1, past))
    ]

one_bit : (b : Bool) → bool_byte b ≤ 1
one_bit true = omega arith
one_bit false = omega arith

-- each byte is 0 or 1
pub bits : (set : ℕ → Bool) (ids : List ℕ) → AreBits (map (byte_in set) ids)
bits set [] = All-nil _
bits set (v ∷ ids) = All-cons (λ byte. byte ≤ 1) (byte_in set v) (map (byte_in set) ids) (one_bit (set v)) (bits set ids)

-- ---- numbers
abbrev pub number_among : ℕ → ℤ → ℕ → ℤ
number_among = among (pos 0)

value_removed : (t : Bool) (found : Option ℤ) → unwrap_or (cond t None found) (pos 0) ≡ cond t (pos 0) (unwrap_or found (pos 0))
value_removed true found = refl
value_removed false found = refl

value_set : (t : Bool) (n : ℤ) (found : Option ℤ) → unwrap_or (cond t (Some n) found) (pos 0) ≡ cond t n (unwrap_or found (pos 0))
value_set true n found = refl
value_set false n found = refl

-- setting a potential changes only that of its node
potential_after : (p : PotentialsValue) (id : ℕ) (n : ℤ) (v : ℕ) → potential_of (with_potential p id n) v ≡ cond (v == id) n (potential_of p v)
potential_after p id n v = by_test (int_eq n (pos 0)) refl
  where
    by_test : (b : Bool) → int_eq n (pos 0) ≡ b → unwrap_or (get (if b then remove p.values id else insert p.values id n) v) (pos 0) ≡ cond (v == id) n (potential_of p v)
    by_test true zero_is =
        let is : pos 0 ≡ n = sym ((signed_Decides n (pos 0)).0 zero_is) in
        ap (λ found. unwrap_or found (pos 0)) (get-removed p.values id v) ∙ value_removed (v == id) (get p.values v) ∙ ap (λ m. cond (v == id) m (potential_of p v)) is
    by_test false some = ap (λ found. unwrap_or found (pos 0)) (get-insert p.values id v n) ∙ value_set (v == id) n (get p.values v)

no_potential : (v : ℕ) → unwrap_or (get (empty {K = ℕ} {X = ℤ} {R = nat_cmp}) v) (pos 0) ≡ pos 0
no_potential v = ap (λ found. unwrap_or found (pos 0)) (get-empty v)

module _ (numbers : List ℤ) where
  pub no_numbers : (nodes v : ℕ) → potential_of (zero_potentials nodes) v ≡ number_among 0 (number_of numbers v) v
  no_numbers nodes v = no_potential v ∙ among_none (pos 0) (number_of numbers v) v (λ zero_is. ap (number_of numbers) zero_is)

  pub number_set : (p new : PotentialsValue) (i : ℕ) (n : ℤ) → n ≡ get_or numbers i (pos 0) → new ≡ with_potential p (i + 1) n → ((v : ℕ) → potential_of p v ≡ number_among i (number_of numbers v) v)
      → (v : ℕ) → potential_of new v ≡ number_among (i + 1) (number_of numbers v) v
  number_set p new i n n_is is so_far v =
      ap (λ q. potential_of q v) is ∙ potential_after p (i + 1) n v ∙ ap (cond (v == i + 1) n) (so_far v)
      ∙ among_more (pos 0) (number_of numbers v) i v n (λ same. ap (number_of numbers) (same ∙ add-one i) ∙ sym n_is)

  number_past : (v : ℕ) → length numbers < v → number_of numbers v ≡ pos 0
  number_past zero past = refl
  number_past (suc k) past = get_or_past numbers k (pos 0) (omega (arith, past))

  pub all_numbers : (p : PotentialsValue) → ((v : ℕ) → potential_of p v ≡ number_among (length numbers) (number_of numbers v) v) → potential_of p ≡ number_of numbers
  all_numbers p so_far = fun_ext (λ v. so_far v ∙ among_all (pos 0) (length numbers) (number_of numbers v) v (number_past v))

-- the potentials of all nodes, with the same number added to each
abbrev pub sum_of : PotentialsValue → ℤ → ℕ → ℤ
sum_of p shift v = potential_of p v +ℤ shift

pub sums_are : (p : PotentialsValue) (shift : ℤ) → AreShifted p shift (map (sum_of p shift) (range_with_len 1 p.nodes))
sums_are p shift = record { each = length-map-range_with_len (sum_of p shift) 1 p.nodes; sums = sums }
  where
    sums : (v : ℕ) → IsNode p.nodes v → number_of (map (sum_of p shift) (range_with_len 1 p.nodes)) v ≡ sum_of p shift v
    sums zero node = absurd (omega (arith, node.0))
    sums (suc k) node = get_or-map-range_with_len (sum_of p shift) 1 p.nodes k (suc k) (pos 0) (omega (arith, node.1)) (omega arith)

-- ---- the least potential
-- the least potential of the nodes up to i, node 1 included
pub record IsLeastUpTo (p : PotentialsValue) (i : ℕ) (least : ℤ) : Type 0 where
  pub wide : IsWide least
  pub below : (v : ℕ) → IsNode i v → least ≤ℤ potential_of p v
  pub found : 1 ≤ p.nodes → (w : ℕ) × IsNode p.nodes w × (least ≡ potential_of p w)

-- if the least of them becomes the least number of 64 bits, and another doesn't fit
pub wider_by : (p : PotentialsValue) (least shift : ℤ) → IsLeastOf p least → (least +ℤ shift) ≡ neg_ℤ (pos (2 ^ 63)) → IsWiderBy p shift → IsWider p
wider_by p least shift is moved (v, node, more) =
    let (w, inside, same) = is.found (omega (arith, node.0, node.1)) in
    let low = is.below v node in
    (v, w, node, inside, by_lt_z (potential_of p v) (potential_of p w +ℤ pos (2 ^ 64)) (λ less. absurd (more (omega (arith, ints, moved, low), omega (arith, ints, moved, same, less)))) (λ far. omega (arith, ints, far)))

pub if_wider : {X E : Type 0} (p : PotentialsValue) (shift : ℤ) → (IsWiderBy p shift → IsWider p) → (result : Result (Option X) E) → IfOk result (λ outcome. IfNone outcome (IsWiderBy p shift)) → IfOk result (λ outcome. IfNone outcome (IsWider p))
if_wider p shift wider (Ok None) by = wider by
if_wider p shift wider (Ok (Some x)) by = tt
if_wider p shift wider (Err error) by = tt
