-- Claimed distances: what shows that they are right, or wrong.
use Rattle.std.proofs.Common.{◌≡◌, ◌≢◌, inl, inr, ℕ, ◌+◌, ◌≤◌, Bool, true, false, List, [], ◌∷◌, ◌++◌, All, Contains, Option, Some, None, IsSome, Result, Ok, Err, ℤ, pos, ◌+ℤ◌, ◌≤ℤ◌, refl, sym, ap, subst, ◌∙◌, arith}
use Rattle.std.proofs.{lemmas.Bool.{cases_Bool}, lemmas.Bool.Decides.{eqb_tells}, lemmas.Int.{ints, by_lt_z}}
use Rattle.std.proofs.lemmas.List.Elements.{All-nil, All-cons, All-contains, All-get_or, All-from_get_or, Contains-get_or}
use Rattle.std.specs.Result.{IsErrAnd}
use Rattle.dimacs_network.specs.{declared.network.ArcView.{ArcView}, Arcs.{JoinsNodes, NetworkValue, arc_at, no_arc}}
use Rattle.dimacs_lines.specs.Limits.{IsNode}
use Rattle.dimacs_records.specs.declared.reasons.Reason.{Reason}
use Rattle.dimacs_records.specs.declared.reasons.Reason.TheVariants.{Escapes, NotShortest, NoTightArc}
use Rattle.dimacs_claims.specs.Labels.{BlockValue, IsBlock, LabelsValue, label, label_in}
use Rattle.dimacs_judging.specs.{declared.verdict.Where.{Where}, declared.verdict.Where.TheVariants.{Arc, Node}}
use Rattle.dimacs_judging.specs.{declared.verdict.JudgeError.{JudgeError}, Answers.{block_of}}
use Rattle.dimacs_judging.specs.{declared.verdict.JudgeError.TheVariants.{Refused, Memory}, QueryTests.{HasFullBlock}}
use Rattle.dimacs_judging.specs.{CertificateTests.{RelaxFails}, Labels.{HasTightArc, IsRelaxed, LabelsOk}}
use Rattle.dimacs_judging.specs.Tests.{AllClear, Clear, First, FirstOfRow, FirstAlone}
use Rattle.dimacs_judging.specs.Walks.{Dist, IsDistance, IsWalk, weight}
use Rattle.dimacs_judging.proofs.{Distances.{labels_are_distances}, LabelsPassing.{stays_near}, Reasons.{one_relax}}
use Rattle.dimacs_judging.proofs.Firsts.{AllOneWay, arc_one_way, node_one_way, one_first, one_test_one_way}
use Rattle.dimacs_decide.specs.Distances.{AreDistancesFrom, AreLabelsOf, DecidesDistances, IsTight, IsTightlyReached, claim_row, claim_rows, reach_row, source_row}
use Rattle.dimacs_decide.specs.{inside.DistanceBlocks.{DecidesBlock, IsBlockOf}, TightTails.{IsRelaxedBy}}
use Rattle.dimacs_decide.specs.inside.TightTrees.{IsTightTree, IsWholeTightTree, ReachesAll}
use Rattle.dimacs_decide.proofs.MarkedLemmas.{some_of}

-- ---- walks joined end to end
walk_append : (g p q : List ArcView) (s u t : ℕ) → IsWalk g s u p → IsWalk g u t q → IsWalk g s t (p ++ q)
walk_append g [] q s u t w v = rw w v
walk_append g (a ∷ p) q s u t w v = (w.0, w.1, walk_append g p q a.head u t w.2 v)

weight_append : (p q : List ArcView) → weight (p ++ q) ≡ weight p +ℤ weight q
weight_append [] q = omega (arith, ints)
weight_append (a ∷ p) q = omega (arith, ints, weight_append p q)

pub walk_one : (g walk : List ArcView) (s : ℕ) (a : ArcView) → IsWalk g s a.tail walk → Contains g a → IsWalk g s a.head (walk ++ a ∷ [])
walk_one g walk s a w has = walk_append g walk (a ∷ []) s a.tail a.head w (has, refl, refl)

-- ---- distances pass the tests
-- twice round a walk from a node to itself weighs no less than once
source_zero : (g : List ArcView) (s : ℕ) (outcome : Option ℤ) → IsDistance g s s outcome None → outcome ≡ Some (pos 0)
source_zero g s None is = absurd (is [] refl)
source_zero g s (Some d) is =
    let none : d ≤ℤ pos 0 = is.least [] refl in
    let twice : d ≤ℤ weight (is.walk ++ is.walk) = is.least (is.walk ++ is.walk) (walk_append g is.walk is.walk s s s is.leads is.leads) in
    let zero : d ≡ pos 0 = omega (arith, ints, none, twice, weight_append is.walk is.walk, is.weighs) in
    ap Some zero

arc_holds : (g : List ArcView) (s : ℕ) (a : ArcView) (tail head : Option ℤ) (reason : Reason) → Contains g a → IsDistance g s a.tail tail None → IsDistance g s a.head head None → ¬ RelaxFails None tail head a.cost reason
arc_holds g s a None head reason has t h (d, is, f) = absurd (cc)
arc_holds g s a (Some c) None reason has t h (d, is, f) = h (t.walk ++ a ∷ []) (walk_one g t.walk s a t.leads has)
arc_holds g s a (Some c) (Some e) reason has t h (d, is, inl out) = let f : Some e ≡ None = out.1 in cc
arc_holds g s a (Some c) (Some e) reason has t h (d, is, inr far) =
    let (b, named, less) = far.1 in
    let same_tail : c ≡ d = cc in
    let same_head : e ≡ b = cc in
    let le = h.least (t.walk ++ a ∷ []) (walk_one g t.walk s a t.leads has) in
    omega (arith, ints, le, less, same_tail, same_head, weight_append t.walk (a ∷ []), t.weighs)

-- ---- if no arc fails
relaxed_at : (head : Option ℤ) (d w : ℤ) → ((reason : Reason) → ¬ RelaxFails None (Some d) head w reason) → (e : ℤ) × (head ≡ Some e) × (e ≤ℤ (d +ℤ w))
relaxed_at None d w off = absurd (off Escapes (d, refl, inl (refl, refl, tt)))
relaxed_at (Some e) d w off = (e, refl, by_lt_z (d +ℤ w) e (λ l. absurd (off NotShortest (d, refl, inr (refl, (e, refl, l))))) (λ le. le))

pub all_relaxed : (arcs : List ArcView) (claim : ℕ → Option ℤ) → Clear (claim_row arcs claim) → All (IsRelaxedBy claim) arcs
all_relaxed arcs claim clear = All-from_get_or (IsRelaxedBy claim) arcs no_arc (λ k h d is.
    relaxed_at (claim (arc_at arcs k).head) d (arc_at arcs k).cost (λ reason f. clear k (Arc (k + 1)) reason (h, refl, rw is f)))

module _ (g : List ArcView) (claim : ℕ → Option ℤ) (relaxed : All (IsRelaxedBy claim) g) where
  --   the claim at the end of a walk is at most that at its beginning plus the weight
  bounded : (walk : List ArcView) (u v : ℕ) (d : ℤ) → IsWalk g u v walk → claim u ≡ Some d → (e : ℤ) × (claim v ≡ Some e) × (e ≤ℤ (d +ℤ weight walk))
  bounded [] u v d w at = (d, rw (← w) at, omega (arith, ints))
  bounded (a ∷ walk) u v d w at =
      let (e, head, le) = All-contains (IsRelaxedBy claim) g a relaxed w.0 d (rw w.1 at) in
      let (f, end, below) = bounded walk a.head v e w.2 head in
      (f, end, omega (arith, ints, le, below))

  --   if it is equal, each arc of the walk is tight
  tight_along : (walk : List ArcView) (u v : ℕ) (d e : ℤ) → IsWalk g u v walk → claim u ≡ Some d → claim v ≡ Some e → e ≡ d +ℤ weight walk → All (IsTight claim) walk
  tight_along [] u v d e w at end heavy = All-nil (IsTight claim)
  tight_along (a ∷ walk) u v d e w at end heavy =
      let tail : claim a.tail ≡ Some d = rw w.1 at in
      let (f, head, le) = All-contains (IsRelaxedBy claim) g a relaxed w.0 d tail in
      let (h, also, below) = bounded walk a.head v f w.2 head in
      let both : Some h ≡ Some e = sym also ∙ end in
      let same : h ≡ e = cc in
      let exact : f ≡ d +ℤ a.cost = omega (arith, ints, le, below, same, heavy) in
      let rest : e ≡ f +ℤ weight walk = omega (arith, ints, exact, heavy) in
      All-cons (IsTight claim) a walk (d, tail, head ∙ ap Some exact) (tight_along walk a.head v f e w.2 head end rest)

-- a walk of tight arcs leads to each node with a distance
true_reaches : (g : List ArcView) (s : ℕ) (claim : ℕ → Option ℤ) → Clear (claim_row g claim) → claim s ≡ Some (pos 0) → (v : ℕ) → IsSome (claim v) → IsDistance g s v (claim v) None → IsTightlyReached g s claim v
true_reaches g s claim clear at v some is =
    let (e, named) = some_of (claim v) some in
    let dist : Dist g s v e = rw named at is in
    (dist.walk, dist.leads, tight_along g claim (all_relaxed g claim clear) dist.walk s v (pos 0) e dist.leads at named (omega (arith, ints, dist.weighs)))

-- ---- all tests of a true claim pass
pub true_clear : (g : NetworkValue) (s : ℕ) (claim : ℕ → Option ℤ) → All (JoinsNodes g.nodes) g.arcs → IsNode g.nodes s → AreDistancesFrom g s claim → AllClear (claim_rows g s claim)
true_clear g s claim joined node are =
    let at = source_zero g.arcs s (claim s) (are s node) in
    let arcs : Clear (claim_row g.arcs claim) = λ k place reason f.
    let ends : JoinsNodes g.nodes (arc_at g.arcs k) = All-get_or (JoinsNodes g.nodes) g.arcs k no_arc f.0 joined in
    arc_holds g.arcs s (arc_at g.arcs k) _ _ reason (Contains-get_or g.arcs k no_arc f.0) (are _ ends.0) (are _ ends.1) f.2 in
    (λ k place reason f. f.3 at, (arcs, (λ v place reason f. f.2.2 (true_reaches g.arcs s claim arcs at v f.2.1 (are v f.0)), tt)))

-- ---- what the first test that fails shows
pub claim_one_way : (g : NetworkValue) (s : ℕ) (claim : ℕ → Option ℤ) → AllOneWay (claim_rows g s claim)
claim_one_way g s claim =
    (one_test_one_way (Node s) NotShortest _, (arc_one_way g.arcs _ (λ k q r f h. one_relax None _ _ _ q r f h), (node_one_way g.nodes _ (λ v q r f h. f.0 ∙ sym h.0), tt)))

module _ (g : NetworkValue) (s : ℕ) (claim : ℕ → Option ℤ) (place : Where) (reason : Reason) where
  abbrev pub IsRefuted : Type 0
  IsRefuted = FirstAlone (claim_rows g s claim) place reason × (¬ AreDistancesFrom g s claim)

  alone : First (claim_rows g s claim) place reason → FirstAlone (claim_rows g s claim) place reason
  alone first = (first, λ other why also. one_first (claim_rows g s claim) other place why reason (claim_one_way g s claim) also first)

  pub source_refuted : IsNode g.nodes s → FirstOfRow (source_row s claim) place reason → IsRefuted
  source_refuted node first = (alone (inl first), λ are. first.fails.3 (source_zero g.arcs s (claim s) (are s node)))

  pub arc_refuted : All (JoinsNodes g.nodes) g.arcs → Clear (source_row s claim) → FirstOfRow (claim_row g.arcs claim) place reason → IsRefuted
  arc_refuted joined source first = (
    alone (inr (source, inl first)),
    λ are.
        let k = first.number in
        let ends : JoinsNodes g.nodes (arc_at g.arcs k) = All-get_or (JoinsNodes g.nodes) g.arcs k no_arc first.fails.0 joined in
        arc_holds g.arcs s (arc_at g.arcs k) _ _ reason (Contains-get_or g.arcs k no_arc first.fails.0) (are _ ends.0) (are _ ends.1) first.fails.2,
  )

  pub node_refuted : claim s ≡ Some (pos 0) → Clear (source_row s claim) → Clear (claim_row g.arcs claim) → FirstOfRow (reach_row g s claim) place reason → IsRefuted
  node_refuted at source arcs first = (
    alone (inr (source, inr (arcs, inl first))),
    λ are.
        first.fails.2.2 (true_reaches g.arcs s claim arcs at first.number first.fails.2.1 (are first.number first.fails.0)),
  )

-- the test of the source
same_zero : (s : ℕ) (claim : ℕ → Option ℤ) (o : Option ℤ) → claim s ≡ o → Clear (source_row s claim) → claim s ≡ Some (pos 0)
same_zero s claim None is clear = absurd (clear 0 (Node s) NotShortest (refl, refl, refl, λ z. let f : None ≡ Some (pos 0) = sym is ∙ z in cc))
same_zero s claim (Some d) is clear =
    let at : (d ≢ pos 0) → ⊥ = λ off. clear 0 (Node s) NotShortest (refl, refl, refl, λ z. off (let f : Some d ≡ Some (pos 0) = sym is ∙ z in cc)) in
    by_lt_z d (pos 0)
    (λ less. absurd (at (λ e. omega (arith, ints, e, less))))
    (λ most. by_lt_z (pos 0) d (λ less. absurd (at (λ e. omega (arith, ints, e, less)))) (λ least. let e : d ≡ pos 0 = omega (arith, ints, most, least) in is ∙ ap Some e))

pub zero_from_clear : (s : ℕ) (claim : ℕ → Option ℤ) → Clear (source_row s claim) → claim s ≡ Some (pos 0)
zero_from_clear s claim clear = same_zero s claim (claim s) refl clear

-- ---- if no test fails
carried : (g : List ArcView) (s s' v : ℕ) (outcome outcome' radius : Option ℤ) → s ≡ s' → outcome ≡ outcome' → radius ≡ None → IsDistance g s v outcome radius → IsDistance g s' v outcome' None
carried g s s' v outcome outcome' radius source same none is = rw (← source, ← same, ← none) is

-- labels with the claimed distances, each with a tight arc from its predecessor
module _ (g : NetworkValue) (s : ℕ) (claim : ℕ → Option ℤ) (b : BlockValue) (joined : All (JoinsNodes g.nodes) g.arcs) (source : b.source ≡ s) (whole : b.radius ≡ None) (lawful : IsBlock g.nodes b)
    (tight : All (HasTightArc g.arcs b) b.labels) (agrees : (v : ℕ) → IsNode g.nodes v → label b v ≡ claim v) (relaxed : All (IsRelaxedBy claim) g.arcs) where
  labels_relaxed : All (IsRelaxed b) g.arcs
  labels_relaxed = All-from_get_or (IsRelaxed b) g.arcs no_arc (λ k h d is.
      let ends : JoinsNodes g.nodes (arc_at g.arcs k) = All-get_or (JoinsNodes g.nodes) g.arcs k no_arc h joined in
      let (e, named, le) = All-get_or (IsRelaxedBy claim) g.arcs k no_arc h relaxed d (sym (agrees _ ends.0) ∙ is) in
      inl (e, agrees _ ends.1 ∙ named, le))

  passes : LabelsOk g.arcs b
  passes = record { weights = rw whole tt; tight = tight; relaxed = labels_relaxed }

  pub shown : AreDistancesFrom g s claim × IsBlockOf g s claim b
  shown = (
    λ v node. carried g.arcs b.source s v (label b v) (claim v) b.radius source (agrees v node) whole (labels_are_distances g.arcs b lawful.preds (stays_near g.nodes b lawful) passes v),
    record { lawful = lawful; source = source; whole = whole; passes = passes; agrees = agrees },
  )

-- ---- a search over tight arcs
pub same_option : (mine outcome : Option ℤ) → ((d : ℤ) → mine ≡ Some d → outcome ≡ Some d) → (IsSome outcome → IsSome mine) → mine ≡ outcome
same_option None None has all = refl
same_option (Some d) outcome has all = sym (has d refl)
same_option None (Some c) has all = absurd (let f : false ≡ true = all refl in cc)

pub reaches_all : (g : NetworkValue) (s : ℕ) (claim : ℕ → Option ℤ) (b : BlockValue) (reached : ℕ → Bool) → Clear (reach_row g s claim) → b.source ≡ s → IsWholeTightTree g.nodes g.arcs claim b reached → ReachesAll g.nodes claim reached
reaches_all g s claim b reached nodes source whole v node some = elim (cases_Bool (reached v)) [
  | inl on ↦ on
  | inr off ↦ absurd (nodes v (Node v) NoTightArc (node, refl, (refl, some, λ walk. let t = whole.closed v (rw source walk) in let f : true ≡ false = sym t ∙ off in cc)))
]

pub certified : (g : NetworkValue) (s : ℕ) (claim : ℕ → Option ℤ) (b : BlockValue) (reached : ℕ → Bool) → All (JoinsNodes g.nodes) g.arcs → b.source ≡ s → IsTightTree g.nodes g.arcs claim b reached → ReachesAll g.nodes claim reached
    → Clear (claim_row g.arcs claim) → AreDistancesFrom g s claim × IsBlockOf g s claim b
certified g s claim b reached joined source is all arcs =
    let agrees : (v : ℕ) → IsNode g.nodes v → label b v ≡ claim v = λ v node. same_option (label b v) (claim v) (is.block.claimed v) (λ some. sym (is.block.marks v) ∙ all v node some) in
    shown g s claim b joined source is.block.whole is.block.lawful is.tight_arcs agrees (all_relaxed g.arcs claim arcs)

-- ---- a single block
found_alone : (b : BlockValue) (s : ℕ) → b.source ≡ s → block_of (b ∷ []) s ≡ Some b
found_alone b s source = elim (eqb_tells b.source s) [ inl same ↦ rw same.0 refl | inr apart ↦ absurd (apart.1 source) ]

pub labelled : (g : NetworkValue) (s : ℕ) (claim : ℕ → Option ℤ) (b : BlockValue) → IsNode g.nodes s → IsBlockOf g s claim b → AreLabelsOf g s claim (record { nodes = g.nodes; blocks = b ∷ [] })
labelled g s claim b node is =
    let found = found_alone b s is.source in
    record {
      alone = refl;
      passes = record {
        nodes = refl;
        queries = All-cons (λ id. id ≤ g.nodes) s [] node.1 (All-nil _);
        blocks = All-cons (HasFullBlock (b ∷ [])) s [] (b, found, is.whole) (All-nil _);
        labels = All-cons (LabelsOk g.arcs) b [] is.passes (All-nil _);
      };
      agrees = λ v inside. ap (λ o. label_in o v) found ∙ is.agrees v inside;
    }

-- the error is the first test that fails
pub refused : (g : NetworkValue) (s : ℕ) (claim : ℕ → Option ℤ) (place : Where) (reason : Reason) → IsRefuted g s claim place reason → (result : Result BlockValue JudgeError) → IsErrAnd result (λ error. error ≡ Refused place reason) → DecidesBlock g s claim result
refused g s claim place reason refuted (Ok b) is = absurd is
refused g s claim place reason refuted (Err error) is = subst (λ (e : JudgeError). DecidesBlock g s claim (Err e)) (sym is) refuted

decided_alone : (g : NetworkValue) (s : ℕ) (claim : ℕ → Option ℤ) (error : JudgeError) → DecidesBlock g s claim (Err error) → DecidesDistances g s claim (Err error)
decided_alone g s claim (Refused place reason) outcome = outcome
decided_alone g s claim Memory outcome = tt

-- the same if it is returned as the function's own error
pub refused_alone : (g : NetworkValue) (s : ℕ) (claim : ℕ → Option ℤ) (error : JudgeError) → DecidesBlock g s claim (Err error) → (result : Result LabelsValue JudgeError) → IsErrAnd result (λ e. e ≡ error) → DecidesDistances g s claim result
refused_alone g s claim error outcome (Ok labels) is = absurd is
refused_alone g s claim error outcome (Err e) is = subst (λ (e : JudgeError). DecidesDistances g s claim (Err e)) (sym is) (decided_alone g s claim error outcome)
