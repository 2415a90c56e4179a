use Rattle.std.proofs.{Common.{◌≡◌, ℕ, ◌<◌, ◌∙◌, ap, arith, inl, inr, ℤ, sym, subst}, lemmas.Int.{ints}}
use Rattle.std.proofs.lemmas.Bool.{cases_order}
use Rattle.dimacs_network.specs.Tables.{value_of}
use Rattle.dimacs_decide.specs.inside.Residual.{IsResidualSearch, rank_of}
use Rattle.dimacs_decide.proofs.search.Search.begin_all.Goals.{then-get-gt0+in_ok-begin, else-get-gt0}
use Rattle.dimacs_decide.proofs.search.Search.begin_all.Goals as goal

pub loop-id-preserved : goal.loop-id-preserved
loop-id-preserved c =
    let imbalance = value_of c.args.self.now.imbalance in
    let visits = value_of c.loop-id.self.visits in
    let id = c.loop-id.id in
    let nodes = c.args.nodes in
    let now = c.loop-id.invariant in
    let same : value_of c.loop-id.self.imbalance ≡ imbalance = ap value_of now.imbalance in
    let here : c.get.result ≡ imbalance id = c.get.ensures.value ∙ ap (λ (s : ℕ → ℤ). s id) same in
    let low = now.low in
    elim c.if-get-gt0.branch [
      | then-get-gt0+in_ok-begin w ↦
          let b = w.in_ok-begin.ensures in
          let skip = rw (w.self-is, b.imbalance, now.imbalance) at c.next_nonzero-id.ensures in
          rw w.self-is record {
            low = omega (arith, low, skip.onward);
            within = skip.within;
            imbalance = b.imbalance ∙ now.imbalance;
            reached = λ v some less more. elim (cases_order v id) [
              | inl e ↦ subst (λ u. 0 < rank_of (value_of w.begin.new.self.visits) u) (sym e) b.reached
              | inr apart ↦ elim apart [
                | inl low ↦ let r = now.reached v some low more in let o = b.others v (λ e. omega (arith, e, low)) in omega (arith, r, o)
                | inr high ↦ absurd (let none = skip.blank v (omega (arith, high)) less in omega (arith, ints, none, more))
              ]
            ];
            none = λ v h. b.others v (λ e. omega (arith, e, h, skip.onward)) ∙ now.none v (omega (arith, h, skip.onward));
            search = λ arcs x was.
                let before = subst (λ (s : ℕ → ℤ). IsResidualSearch nodes arcs x s visits c.loop-id.self.queue.items 0) (sym same) (now.search arcs x was) in
                subst (λ (s : ℕ → ℤ). IsResidualSearch nodes arcs x s (value_of w.begin.new.self.visits) w.begin.new.self.queue.items 0) same (b.search nodes arcs x (low, omega arith) before);
          }
      | else-get-gt0 w ↦
          let skip = rw (w.self-is, now.imbalance) at c.next_nonzero-id.ensures in
          rw w.self-is record {
            low = omega (arith, low, skip.onward);
            within = skip.within;
            imbalance = now.imbalance;
            reached = λ v some less more. elim (cases_order v id) [
              | inl e ↦ absurd (let f : imbalance v ≡ imbalance id = ap imbalance e in let no = w.if-get-gt0.false in omega (arith, ints, f, here, more, no))
              | inr apart ↦ elim apart [ inl low ↦ now.reached v some low more | inr high ↦ absurd (let none = skip.blank v (omega (arith, high)) less in omega (arith, ints, none, more)) ]
            ];
            none = λ v h. now.none v (omega (arith, h, skip.onward));
            search = now.search;
          }
    ]
