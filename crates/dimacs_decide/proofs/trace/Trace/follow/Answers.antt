use Rattle.std.proofs.Common.{◌≡◌, ◌+◌, ◌∙◌, ap, sym, subst, arith, length, ◌++◌, ◌∷◌, []}
use Rattle.std.proofs.lemmas.List.{length-append}
use Rattle.dimacs_network.specs.Tables.{value_of}
use Rattle.dimacs_decide.specs.{inside.Heights.{below_of}, inside.Traces.{IsFollowing}}
use Rattle.dimacs_decide.proofs.CountLemmas.{one_zero_fewer}
use Rattle.dimacs_decide.proofs.TraceLemmas.{follow_back, follow_begin, follow_keeps, follow_more, follow_over, some_place}
use Rattle.dimacs_decide.proofs.trace.Trace.follow.Goals as goal

pub loop-self-init : goal.loop-self-init
loop-self-init g c =
    let path = c.args.self.now.path.items in
    let places = value_of c.args.self.now.places in
    let begun = follow_begin (g.N.Network.list c.args.network.now) c.args.start c.requires.start c.requires.trace in
    record {
      following = subst (λ b. IsFollowing (g.N.Network.node_count c.args.network.now) (g.N.Network.list c.args.network.now) (value_of c.args.labels.now) c.args.start b path places c.args.start) (sym (c.len-begin.ensures ∙ c.args.self.now.path.ok.0)) begun;
      keeps = λ v some. some;
    }

pub loop-self-smaller : goal.loop-self-smaller
loop-self-smaller g c =
    let nodes = g.N.Network.node_count c.args.network.now in
    let path = c.loop-self.self.path.items in
    let places = value_of c.loop-self.self.places in
    let at = c.loop-self.at in
    let none : places at ≡ 0 = sym c.get.ensures.value ∙ c.loop-self-test.true in
    let longer : c.push.new.self.items ≡ path ++ at ∷ [] = c.in_ok-push.ensures.items in
    let here : value_of c.set.new.self at ≡ length path + 1 = c.in_ok-set.ensures.set ∙ c.len.ensures ∙ c.push.new.self.ok.0 ∙ ap length longer ∙ length-append path (at ∷ []) in
    let fewer = one_zero_fewer places (value_of c.set.new.self) at c.in_ok-set.ensures.others (nodes + 1) (omega (arith, c.loop-self.invariant.following.inside)) none (omega (arith, here)) in
    omega (arith, fewer)

pub loop-self-preserved : goal.loop-self-preserved
loop-self-preserved g c =
    let path = c.loop-self.self.path.items in
    let after = value_of c.set.new.self in
    let at = c.loop-self.at in
    let is = c.loop-self.invariant.following in
    let none : value_of c.loop-self.self.places at ≡ 0 = sym c.get.ensures.value ∙ c.loop-self-test.true in
    let longer : c.push.new.self.items ≡ path ++ at ∷ [] = c.in_ok-push.ensures.items in
    let here : after at ≡ length path + 1 = c.in_ok-set.ensures.set ∙ c.len.ensures ∙ c.push.new.self.ok.0 ∙ ap length longer ∙ length-append path (at ∷ []) in
    let below = below_of (g.N.Network.list c.args.network.now) in
    let next : c.below-at.result ≡ below (value_of c.args.labels.now at) = c.below-at.ensures ∙ ap below c.get-in-loop-self.ensures.value in
    record {
      following = rw (longer, next) (follow_more c.requires.joined c.requires.bounds c.requires.heights.1 is none after here c.in_ok-set.ensures.others);
      keeps = λ v some. follow_keeps c.requires.joined c.requires.bounds c.requires.heights.1 is none after here c.in_ok-set.ensures.others v (c.loop-self.invariant.keeps v some);
    }

pub returns-then-place-begin-clause-followed : goal.returns-then-place-begin-clause-followed
returns-then-place-begin-clause-followed g c =
    let seen = some_place (value_of c.loop-self.self.places c.loop-self.at) (λ e. c.loop-self-test.false (c.get.ensures.value ∙ e)) in
    follow_over c.requires.joined c.requires.bounds c.requires.heights.1 c.loop-self.invariant.following seen (rw c.get-place.ensures.value at c.if-place-begin.true)

pub returns-clause-followed : goal.returns-clause-followed
returns-clause-followed g c =
    rw (c.in_ok-push-2.ensures.items, c.get-place.ensures.value) (follow_back c.requires.joined c.requires.bounds c.requires.heights.1 c.loop-self.invariant.following (rw c.get-place.ensures.value at c.if-place-begin.false))
