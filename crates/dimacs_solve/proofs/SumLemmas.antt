-- Sums from one node to another.
use Rattle.std.proofs.Common.{◌≡◌, ◌≢◌, inl, inr, ℕ, zero, suc, ◌<◌, Bool, true, false, List, [], ◌∷◌, length, set, replicate, ℤ, pos, ◌+ℤ◌, ◌-ℤ◌, ◌≤ℤ◌, refl, sym, ◌∙◌, arith}
use Rattle.std.proofs.{lemmas.Int.{ints}, lemmas.Bool.{cases_eq, cases_lt}}
use Rattle.std.proofs.lemmas.List.{length-set, length-replicate, get_or-replicate, get_or-set_other, get_or-set_same, get_or_past}
use Rattle.dimacs_network.specs.{declared.network.ArcView.{ArcView}, Arcs.{joins, arc_at}}
use Rattle.dimacs_judging.specs.{Flows.{when}, Rows.{amount_at}}
use Rattle.dimacs_solve.specs.Spread.{arc_sum, KeepsBounds}

-- ---- terms
pub when_zero : (b : Bool) → when b (pos 0) ≡ pos 0
when_zero true = refl
when_zero false = refl

pub when_apart : (b : Bool) (v z : ℤ) → when b v ≡ when b z +ℤ when b (v -ℤ z)
when_apart true v z = omega (arith, ints)
when_apart false v z = omega (arith, ints)

pub when_sum : (b : Bool) (v z d : ℤ) → v ≡ z +ℤ d → when b v ≡ when b z +ℤ when b d
when_sum true v z d is = omega (arith, ints, is)
when_sum false v z d is = omega (arith, ints)

when_le : (b : Bool) (z w : ℤ) → (b ≡ true → z ≤ℤ w) → when b z ≤ℤ when b w
when_le true z w le = le refl
when_le false z w le = omega (arith, ints)

-- ---- sums
pub amount_zero : (n k : ℕ) → amount_at (replicate n (pos 0)) k ≡ pos 0
amount_zero n k = elim (cases_lt k n) [
  | inl inside ↦ get_or-replicate n k (pos 0) (pos 0) inside
  | inr past ↦ get_or_past (replicate n (pos 0)) k (pos 0) (omega (arith, past, length-replicate {A = ℤ} n (pos 0)))
]

pub arc_sum-zero : (arcs : List ArcView) (n tail head : ℕ) → arc_sum arcs (replicate n (pos 0)) tail head ≡ pos 0
arc_sum-zero [] n tail head = refl
arc_sum-zero (a ∷ arcs) zero tail head = refl
arc_sum-zero (a ∷ arcs) (suc n) tail head = omega (arith, ints, when_zero (joins tail head a), arc_sum-zero arcs n tail head)

-- another amount on one arc
pub arc_sum-set : (arcs : List ArcView) (x : List ℤ) (k : ℕ) (v : ℤ) (tail head : ℕ) → length x ≡ length arcs → k < length arcs
    → arc_sum arcs (set x k v) tail head ≡ arc_sum arcs x tail head +ℤ when (joins tail head (arc_at arcs k)) (v -ℤ amount_at x k)
arc_sum-set [] x k v tail head long inside = absurd (omega (arith, inside))
arc_sum-set (a ∷ arcs) [] k v tail head long inside = absurd (omega (arith, long))
arc_sum-set (a ∷ arcs) (z ∷ x) zero v tail head long inside = omega (arith, ints, when_apart (joins tail head a) v z)
arc_sum-set (a ∷ arcs) (z ∷ x) (suc k) v tail head long inside =
    omega (arith, ints, arc_sum-set arcs x k v tail head (omega (arith, long)) (omega (arith, inside)))

-- the sums of two flows
pub arc_sum-add : (arcs : List ArcView) (x r z : List ℤ) (tail head : ℕ) → length x ≡ length arcs → length r ≡ length arcs → length z ≡ length arcs
    → ((k : ℕ) → amount_at z k ≡ amount_at x k +ℤ amount_at r k) → arc_sum arcs z tail head ≡ arc_sum arcs r tail head +ℤ arc_sum arcs x tail head
arc_sum-add [] x r z tail head l m n each = refl
arc_sum-add (a ∷ arcs) [] r z tail head l m n each = absurd (omega (arith, l))
arc_sum-add (a ∷ arcs) (u ∷ x) [] z tail head l m n each = absurd (omega (arith, m))
arc_sum-add (a ∷ arcs) (u ∷ x) (v ∷ r) [] tail head l m n each = absurd (omega (arith, n))
arc_sum-add (a ∷ arcs) (u ∷ x) (v ∷ r) (w ∷ z) tail head l m n each =
    omega (arith, ints, when_sum (joins tail head a) w u v (each 0), arc_sum-add arcs x r z tail head (omega (arith, l)) (omega (arith, m)) (omega (arith, n)) (λ k. each (suc k)))

-- no more on any arc between these nodes
abbrev pub NoMore : List ArcView → List ℤ → List ℤ → ℕ → ℕ → Type 0
NoMore arcs x y tail head = (k : ℕ) → k < length arcs → joins tail head (arc_at arcs k) ≡ true → amount_at x k ≤ℤ amount_at y k

pub arc_sum-le : (arcs : List ArcView) (x y : List ℤ) (tail head : ℕ) → length x ≡ length arcs → length y ≡ length arcs → NoMore arcs x y tail head
    → arc_sum arcs x tail head ≤ℤ arc_sum arcs y tail head
arc_sum-le [] x y tail head l m each = omega (arith, ints)
arc_sum-le (a ∷ arcs) [] y tail head l m each = absurd (omega (arith, l))
arc_sum-le (a ∷ arcs) (z ∷ x) [] tail head l m each = absurd (omega (arith, m))
arc_sum-le (a ∷ arcs) (z ∷ x) (w ∷ y) tail head l m each =
    omega (arith, ints, when_le (joins tail head a) z w (each 0 (omega arith)), arc_sum-le arcs x y tail head (omega (arith, l)) (omega (arith, m)) (λ k h. each (suc k) (omega (arith, h))))

-- the same on every arc between these nodes
abbrev pub Alike : List ArcView → List ℤ → List ℤ → ℕ → ℕ → Type 0
Alike arcs x y tail head = (k : ℕ) → k < length arcs → joins tail head (arc_at arcs k) ≡ true → amount_at x k ≡ amount_at y k

pub arc_sum-alike : (arcs : List ArcView) (x y : List ℤ) (tail head : ℕ) → length x ≡ length arcs → length y ≡ length arcs → Alike arcs x y tail head
    → arc_sum arcs x tail head ≡ arc_sum arcs y tail head
arc_sum-alike arcs x y tail head l m alike =
    let most = arc_sum-le arcs x y tail head l m (λ k h j. let e = alike k h j in omega (arith, ints, e)) in
    let least = arc_sum-le arcs y x tail head m l (λ k h j. let e = alike k h j in omega (arith, ints, e)) in
    omega (arith, ints, most, least)

-- nothing but on one arc
pub arc_sum-one : (arcs : List ArcView) (x : List ℤ) (k tail head : ℕ) → length x ≡ length arcs → k < length arcs → joins tail head (arc_at arcs k) ≡ true
    → ((i : ℕ) → i < length arcs → joins tail head (arc_at arcs i) ≡ true → i ≢ k → amount_at x i ≡ pos 0) → arc_sum arcs x tail head ≡ amount_at x k
arc_sum-one arcs x k tail head long inside joined others =
    let here : k < length x = omega (arith, long, inside) in
    let without = set x k (pos 0) in
    let zeros = replicate (length arcs) (pos 0) in
    let none = arc_sum-alike arcs without zeros tail head (length-set x k (pos 0) ∙ long) (length-replicate (length arcs) (pos 0)) (λ i h j. elim (cases_eq i k) [
      | inl same ↦ rw same (get_or-set_same x k (pos 0) (pos 0) here ∙ sym (amount_zero (length arcs) k))
      | inr other ↦ get_or-set_other x k i (pos 0) (pos 0) other ∙ others i h j other ∙ sym (amount_zero (length arcs) i)
    ]) in
    let changed = rw joined at (arc_sum-set arcs x k (pos 0) tail head long inside) in
    omega (arith, ints, none, changed, arc_sum-zero arcs (length arcs) tail head)

-- ---- bounds, arc by arc
pub kept_long : (arcs : List ArcView) (x : List ℤ) (tail head : ℕ) → KeepsBounds arcs x tail head → length x ≡ length arcs
kept_long [] [] tail head keeps = refl
kept_long [] (z ∷ x) tail head keeps = absurd keeps
kept_long (a ∷ arcs) [] tail head keeps = absurd keeps
kept_long (a ∷ arcs) (z ∷ x) tail head keeps = omega (arith, kept_long arcs x tail head keeps.1)

pub kept_at : (arcs : List ArcView) (x : List ℤ) (tail head k : ℕ) → KeepsBounds arcs x tail head → k < length arcs → joins tail head (arc_at arcs k) ≡ true
    → ((arc_at arcs k).low ≤ℤ amount_at x k) × (amount_at x k ≤ℤ (arc_at arcs k).cap)
kept_at [] x tail head k keeps inside joined = absurd (omega (arith, inside))
kept_at (a ∷ arcs) [] tail head k keeps inside joined = absurd keeps
kept_at (a ∷ arcs) (z ∷ x) tail head zero keeps inside joined = keeps.0 joined
kept_at (a ∷ arcs) (z ∷ x) tail head (suc k) keeps inside joined = kept_at arcs x tail head k keeps.1 (omega (arith, inside)) joined

pub kept_from : (arcs : List ArcView) (x : List ℤ) (tail head : ℕ) → length x ≡ length arcs
    → ((k : ℕ) → k < length arcs → joins tail head (arc_at arcs k) ≡ true → ((arc_at arcs k).low ≤ℤ amount_at x k) × (amount_at x k ≤ℤ (arc_at arcs k).cap)) → KeepsBounds arcs x tail head
kept_from [] [] tail head long each = tt
kept_from [] (z ∷ x) tail head long each = absurd (omega (arith, long))
kept_from (a ∷ arcs) [] tail head long each = absurd (omega (arith, long))
kept_from (a ∷ arcs) (z ∷ x) tail head long each = (each 0 (omega arith), kept_from arcs x tail head (omega (arith, long)) (λ k h. each (suc k) (omega (arith, h))))
