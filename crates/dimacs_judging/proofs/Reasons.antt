-- Each test fails for only one reason.
use Rattle.std.proofs.Common.{◌≡◌, inl, inr, ℕ, Bool, true, false, not, ◌&&◌, List, [], ◌∷◌, Option, Some, None, ℤ, sym, ◌∙◌, arith}
use Rattle.std.proofs.lemmas.Int.{ints}
use Rattle.dimacs_network.specs.{declared.network.ArcView.{ArcView}, Arcs.{arc_at}}
use Rattle.dimacs_records.specs.declared.reasons.Reason.{Reason}
use Rattle.dimacs_records.specs.declared.reasons.Reason.TheVariants.{SourceOutside, SinkInside}
use Rattle.dimacs_judging.specs.{declared.verdict.Where.TheVariants.{Node}, Rows.{amount_at}}
use Rattle.dimacs_judging.specs.FlowTests.{BoundFails, bound_row, balance_row, cost_row}
use Rattle.dimacs_judging.specs.CertificateTests.{TightFails, cut_rows, slack_row, support_row, RelaxFails, label_rows, weight_row}
use Rattle.dimacs_instance.specs.MaxFlows.{MaxValue}
use Rattle.dimacs_claims.specs.Labels.{BlockValue}
use Rattle.dimacs_judging.proofs.Firsts.{OneWay, AllOneWay, arc_one_way, node_one_way, one_test_one_way}

one_bound : (a : ArcView) (x : ℤ) (r s : Reason) → BoundFails a x r → BoundFails a x s → r ≡ s
one_bound a x r s (inl f) (inl g) = f.0 ∙ sym g.0
one_bound a x r s (inl f) (inr g) = absurd (omega (arith, ints, f.1, g.1))
one_bound a x r s (inr f) (inl g) = absurd (omega (arith, ints, f.1, g.1))
one_bound a x r s (inr f) (inr g) = f.0 ∙ sym g.0

pub bound_one_way : (arcs : List ArcView) (x : List ℤ) → OneWay (bound_row arcs x)
bound_one_way arcs x = arc_one_way arcs _ (λ k r s f g. one_bound (arc_at arcs k) (amount_at x k) r s f g)

pub balance_one_way : (nodes : ℕ) (arcs : List ArcView) (demand : ℕ → Option ℤ) (x : List ℤ) → OneWay (balance_row nodes arcs demand x)
balance_one_way nodes arcs demand x = node_one_way nodes _ (λ v r s f g. f.0 ∙ sym g.0)

pub cost_one_way : (arcs : List ArcView) (x : List ℤ) → OneWay (cost_row arcs x)
cost_one_way arcs x = arc_one_way arcs _ (λ k r s f g. f.0 ∙ sym g.0)

not_both : (p q : Bool) → p && not q ≡ true → q && not p ≡ true → ⊥
not_both true true h k = cc
not_both true false h k = cc
not_both false true h k = cc
not_both false false h k = cc

one_tight : (set : ℕ → Bool) (a : ArcView) (x : ℤ) (r s : Reason) → TightFails set a x r → TightFails set a x s → r ≡ s
one_tight set a x r s (inl f) (inl g) = f.0 ∙ sym g.0
one_tight set a x r s (inl f) (inr g) = absurd (not_both (set a.tail) (set a.head) f.1 g.1)
one_tight set a x r s (inr f) (inl g) = absurd (not_both (set a.tail) (set a.head) g.1 f.1)
one_tight set a x r s (inr f) (inr g) = f.0 ∙ sym g.0

pub cut_one_way : (i : MaxValue) (set : ℕ → Bool) (x : List ℤ) → AllOneWay (cut_rows i set x)
cut_one_way i set x =
    (one_test_one_way (Node i.source) SourceOutside (set i.source ≡ false), (one_test_one_way (Node i.sink) SinkInside (set i.sink ≡ true), (arc_one_way i.arcs _ (λ k r s f g. one_tight set (arc_at i.arcs k) (amount_at x k) r s f g), tt)))

pub slack_one_way : (arcs : List ArcView) (p : ℕ → ℤ) (x : List ℤ) → OneWay (slack_row arcs p x)
slack_one_way arcs p x = arc_one_way arcs _ (λ k r s f g. f.0 ∙ sym g.0)

support_one_way : (arcs : List ArcView) (b : BlockValue) → OneWay (support_row arcs b)
support_one_way arcs b k p q r s f g = (f.1 ∙ sym g.1, f.2 ∙ sym g.2)

pub one_relax : (radius tail head : Option ℤ) (w : ℤ) (r s : Reason) → RelaxFails radius tail head w r → RelaxFails radius tail head w s → r ≡ s
one_relax radius tail head w r s (d, is, inl f) (e, also, inl g) = f.0 ∙ sym g.0
one_relax radius tail head w r s (d, is, inl f) (e, also, inr g) = absurd (let (h, head_is, less) = g.1 in let both : None ≡ Some h = sym f.1 ∙ head_is in cc)
one_relax radius tail head w r s (d, is, inr f) (e, also, inl g) = absurd (let (h, head_is, less) = f.1 in let both : None ≡ Some h = sym g.1 ∙ head_is in cc)
one_relax radius tail head w r s (d, is, inr f) (e, also, inr g) = f.0 ∙ sym g.0

weight_one_way : (arcs : List ArcView) (b : BlockValue) → OneWay (weight_row arcs b)
weight_one_way arcs b k p q r s f g = (f.1.1 ∙ sym g.1.1, f.1.2.0 ∙ sym g.1.2.0)

pub labels_one_way : (arcs : List ArcView) (blocks : List BlockValue) → AllOneWay (label_rows arcs blocks)
labels_one_way arcs [] = tt
labels_one_way arcs (b ∷ blocks) = (weight_one_way arcs b, (support_one_way arcs b, (arc_one_way arcs _ (λ k r s f g. one_relax _ _ _ _ r s f g), labels_one_way arcs blocks)))
