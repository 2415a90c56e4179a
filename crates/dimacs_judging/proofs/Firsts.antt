-- At most one test is the first that fails, and none if all pass.
use Rattle.std.proofs.{Common.{◌≡◌, inl, inr, ℕ, List, [], ◌∷◌, subst, sym, ◌∙◌}, lemmas.Bool.{cases_order}}
use Rattle.dimacs_network.specs.declared.network.ArcView.{ArcView}
use Rattle.dimacs_records.specs.declared.reasons.Reason.{Reason}
use Rattle.dimacs_judging.specs.{declared.verdict.Where.{Where}, Tests.{Row, AllClear, FirstOfRow, First}}
use Rattle.dimacs_judging.specs.Rows.{arc_row, node_row, one_test}

-- each test of the row fails in only one way
abbrev pub OneWay : Row → Type 0
OneWay row = (k : ℕ) (p q : Where) (r s : Reason) → row k p r → row k q s → (p ≡ q) × (r ≡ s)

abbrev pub AllOneWay : List Row → Type 0
AllOneWay [] = Unit {0}
AllOneWay (row ∷ rows) = OneWay row × AllOneWay rows

pub one_of_row : (row : Row) (p q : Where) (r s : Reason) → OneWay row → FirstOfRow row p r → FirstOfRow row q s → (p ≡ q) × (r ≡ s)
one_of_row row p q r s one f g = elim (cases_order f.number g.number) [
  | inl is ↦ one g.number p q r s (subst (λ (k : ℕ). row k p r) is f.fails) g.fails
  | inr m ↦ elim m [ inl l ↦ absurd (g.earlier f.number l p r f.fails) | inr l ↦ absurd (f.earlier g.number l q s g.fails) ]
]

-- at most one test is the first
pub one_first : (rows : List Row) (p q : Where) (r s : Reason) → AllOneWay rows → First rows p r → First rows q s → (p ≡ q) × (r ≡ s)
one_first [] p q r s one f g = absurd f
one_first (row ∷ rows) p q r s one (inl f) (inl g) = one_of_row row p q r s one.0 f g
one_first (row ∷ rows) p q r s one (inl f) (inr g) = absurd (g.0 f.number p r f.fails)
one_first (row ∷ rows) p q r s one (inr f) (inl g) = absurd (f.0 g.number q s g.fails)
one_first (row ∷ rows) p q r s one (inr f) (inr g) = one_first rows p q r s one.1 f.1 g.1

-- if all tests pass, none is the first that fails
pub none_first : (rows : List Row) (p : Where) (r : Reason) → AllClear rows → ¬ First rows p r
none_first [] p r clear f = f
none_first (row ∷ rows) p r clear (inl f) = clear.0 f.number p r f.fails
none_first (row ∷ rows) p r clear (inr f) = none_first rows p r clear.1 f.1

-- ---- the rows of this crate
pub arc_one_way : (arcs : List ArcView) (fails : ℕ → Reason → Type 0) → ((k : ℕ) (r s : Reason) → fails k r → fails k s → r ≡ s) → OneWay (arc_row arcs fails)
arc_one_way arcs fails one k p q r s f g = (f.1 ∙ sym g.1, one k r s f.2 g.2)

pub node_one_way : (nodes : ℕ) (fails : ℕ → Reason → Type 0) → ((v : ℕ) (r s : Reason) → fails v r → fails v s → r ≡ s) → OneWay (node_row nodes fails)
node_one_way nodes fails one v p q r s f g = (f.1 ∙ sym g.1, one v r s f.2 g.2)

pub one_test_one_way : (place : Where) (why : Reason) (fails : Type 0) → OneWay (one_test place why fails)
one_test_one_way place why fails k p q r s f g = (f.1 ∙ sym g.1, f.2 ∙ sym g.2)
