-- One more record of a graph while its text is read.
use Rattle.std.proofs.Common.{◌≡◌, ℕ, suc, ◌<◌, ◌≤◌, ◌∷◌, ◌++◌, [], List, false, Some, length, map, refl, ap, ap₂, sym, ◌∙◌, arith}
use Rattle.std.proofs.{lemmas.Bool.{le-ltb}, lemmas.Int.{ints}, lemmas.List.{length-append, length-map}}
use Rattle.std.proofs.{lemmas.List.Elements.{All-cons, All-head, All-map, All-tail}, lemmas.Bool.Decides.{nat_tests}}
use Rattle.std.specs.{Prelude.{ℤ, pos, codes, nat_lt, nat_le}, List.{All}}
use Rattle.dimacs_lines.specs.Limits.{most_nodes}
use Rattle.dimacs_records.specs.{declared.kinds.TextKind.TheVariants.{Graph}, declared.records.Record.{Record}}
use Rattle.dimacs_records.specs.{declared.records.Record.TheVariants.{GraphProblem, GraphArc}, Earlier.{counted_in}}
use Rattle.dimacs_records.specs.{Spelling.{kind_of}, Tests.{plain_context_after, plain_context_of, context_after}}
use Rattle.dimacs_records.specs.{Readings.{IsAllowed, IsComplete, LineRecord, records_of}, Canonical.{CanBeSpelled}}
use Rattle.dimacs_records.specs.{Forms.{form, Word, Nodes, Count, Id, Whole}, Texts.{AreFaultless}}
use Rattle.dimacs_records.proofs.{ConditionLemmas.{is_allowed, is_complete}, SplitLemmas.{image_at, All-at}}
use Rattle.dimacs_records.proofs.CanonicalLaws.{canonical_spelled, numbered_all}
use Rattle.dimacs_network.specs.{declared.network.ArcView.{ArcView}, KeptArcs.{weight_arc}}
use Rattle.dimacs_network.specs.Arcs.{JoinsNodes, NetworkValue}
use Rattle.dimacs_instance.specs.Graph.{IsGraph, HasWeightAlone, GivesGraph, SpellsGraph, canonical_graph, graph_records, graph_arc}
use Rattle.dimacs_instance.specs.GraphReading.{GraphBegun, graph_begun_records, plain_context}

counted_in-arcs : (arcs : List ArcView) → counted_in (map graph_arc arcs) ≡ length arcs
counted_in-arcs [] = refl
counted_in-arcs (a ∷ arcs) = ap suc (counted_in-arcs arcs)

-- after the problem line and these arcs
module _ (nodes declared : ℕ) (arcs : List ArcView) where
  abbrev earlier : List Record
  earlier = GraphProblem nodes declared ∷ map graph_arc arcs

  pub one_more_arc : (t h : ℕ) (w : ℤ) → t ≤ nodes → h ≤ nodes → length arcs < declared → IsAllowed earlier (GraphArc t h w)
  one_more_arc t h w tail head room =
      let counted : nat_le declared (counted_in earlier) ≡ false = rw (counted_in-arcs arcs) (grind (arith, nat_tests, room)) in
      is_allowed earlier (GraphArc t h w) (rw (le-ltb nodes t tail, le-ltb nodes h head, counted) refl)

  pub all_arcs : declared ≤ length arcs → IsComplete Graph earlier
  all_arcs full =
      let counted : nat_lt (counted_in earlier) declared ≡ false = rw (counted_in-arcs arcs) (le-ltb (length arcs) declared full) in
      is_complete Graph earlier (rw counted refl)

pub first_problem : (n m : ℕ) → IsAllowed [] (GraphProblem n m)
first_problem n m = is_allowed [] (GraphProblem n m) refl

-- what the tests know follows from the records
pub plain_context_by_records : (b : GraphBegun) → plain_context b ≡ plain_context_after (graph_begun_records b)
plain_context_by_records b = ap (plain_context_of (plain_context b).problem) (sym (counted_in-arcs b.arcs))

pub context_by_records : (b : GraphBegun) (r : Record) → kind_of r ≡ Graph → plain_context b ≡ context_after (graph_begun_records b) r
context_by_records b (GraphProblem n m) of_kind = plain_context_by_records b
context_by_records b (GraphArc t h w) of_kind = plain_context_by_records b
context_by_records b r of_kind = absurd (cc)

arc_allowed : (nodes declared : ℕ) (arcs : List ArcView) (a : ArcView) (before : List Record) (r : Record) → before ≡ GraphProblem nodes declared ∷ map graph_arc arcs → r ≡ graph_arc a
    → JoinsNodes nodes a → length arcs < declared → IsAllowed before r
arc_allowed nodes declared arcs a before r before_is r_is joins room = rw (before_is, r_is) (one_more_arc nodes declared arcs a.tail a.head a.cost joins.0.1 joins.1.1 room)

-- the records of a graph have no fault
graph_allowed : (g : NetworkValue) → IsGraph g → (before after : List Record) (r : Record) → graph_records g ≡ before ++ r ∷ after → IsAllowed before r
graph_allowed g is [] after r e = let first : r ≡ GraphProblem g.nodes (length g.arcs) = cc in rw first (first_problem g.nodes (length g.arcs))
graph_allowed g is (b ∷ bs) after r e =
    let first : b ≡ GraphProblem g.nodes (length g.arcs) = cc in
    let at = image_at graph_arc g.arcs bs after r (cc) in
    let joins = All-at (JoinsNodes g.nodes) g.arcs at.front at.back at.x at.xs_are is.joined in
    let room : length at.front < length g.arcs = omega (arith, ap length at.xs_are, length-append at.front (at.x ∷ at.back)) in
    arc_allowed g.nodes (length g.arcs) at.front at.x (b ∷ bs) r (ap (λ t. t ∷ bs) first ∙ ap (λ ts. GraphProblem g.nodes (length g.arcs) ∷ ts) at.before_is) at.y_is joins room

pub graph_faultless : (rs : List LineRecord) (g : NetworkValue) → GivesGraph rs g → AreFaultless Graph (records_of rs)
graph_faultless rs g h = rw h.0 (record { allowed = graph_allowed g h.1; complete = all_arcs g.nodes (length g.arcs) g.arcs (omega arith) })

-- the arc of a record, and the graph of a problem line and arcs
arc_of : Record → ArcView
arc_of (GraphArc t h w) = weight_arc t h w
arc_of r = weight_arc 0 0 (pos 0)

graph_of : List Record → NetworkValue
graph_of (GraphProblem n m ∷ rs) = record { nodes = n; arcs = map arc_of rs }
graph_of rs = record { nodes = 0; arcs = [] }

arc_of-graph_arc : (a : ArcView) → HasWeightAlone a → arc_of (graph_arc a) ≡ a
unfolding arc_of
arc_of-graph_arc a alone = sym (ap₂ (λ l c. record { tail = a.tail; head = a.head; low = l; cap = c; cost = a.cost }) alone.0 alone.1)

arcs_of-graph_arcs : (arcs : List ArcView) → All HasWeightAlone arcs → map arc_of (map graph_arc arcs) ≡ arcs
arcs_of-graph_arcs [] alone = refl
arcs_of-graph_arcs (a ∷ arcs) alone = ap₂ (λ x xs. x ∷ xs) (arc_of-graph_arc a (All-head HasWeightAlone a arcs alone)) (arcs_of-graph_arcs arcs (All-tail HasWeightAlone a arcs alone))

graph_of-graph_records : (g : NetworkValue) → IsGraph g → graph_of (graph_records g) ≡ g
unfolding graph_of
graph_of-graph_records g is = ap (λ arcs. record { nodes = g.nodes; arcs = arcs }) (arcs_of-graph_arcs g.arcs is.weights)

-- records give only one graph
pub one_graph : (rs : List LineRecord) (g h : NetworkValue) → GivesGraph rs g → GivesGraph rs h → g ≡ h
one_graph rs g h a b = sym (graph_of-graph_records g a.1) ∙ (ap graph_of (sym a.0 ∙ b.0) ∙ graph_of-graph_records h b.1)

problem_fits : (g : NetworkValue) → IsGraph g → CanBeSpelled Graph (GraphProblem g.nodes (length g.arcs))
problem_fits g is = record {
  form = form (codes "p") (Word (codes "sp") ∷ Nodes ∷ Count ∷ []);
  of_kind = (0, omega arith, refl);
  for_kind = refl;
  letter = refl;
  fit = (refl, ((omega (arith, ints), omega (arith, ints, is.nodes_few)), ((omega (arith, ints), omega (arith, ints, is.arcs_few)), tt)));
}

arc_fits : (nodes : ℕ) (a : ArcView) → nodes ≤ most_nodes → JoinsNodes nodes a → HasWeightAlone a → CanBeSpelled Graph (graph_arc a)
arc_fits nodes a few joins alone = record {
  form = form (codes "a") (Id ∷ Id ∷ Whole ∷ []);
  of_kind = (1, omega arith, refl);
  for_kind = refl;
  letter = refl;
  fit = ((omega (arith, ints, joins.0.0), omega (arith, ints, joins.0.1, few)), ((omega (arith, ints, joins.1.0), omega (arith, ints, joins.1.1, few)), (alone.2, tt)));
}

-- the canonical text of a graph spells it
pub graph_round_trip : (g : NetworkValue) → IsGraph g → SpellsGraph (canonical_graph g) g
graph_round_trip g is =
    let arcs = All-map (CanBeSpelled Graph) graph_arc g.arcs (λ k d below. arc_fits g.nodes _ is.nodes_few (is.joined k d below) (is.weights k d below)) in
    let fit = All-cons (CanBeSpelled Graph) (GraphProblem g.nodes (length g.arcs)) (map graph_arc g.arcs) (problem_fits g is) arcs in
    record {
      by_line = map (λ (r : Record). Some r) (graph_records g);
      spelled = canonical_spelled Graph (graph_records g) fit (omega (arith, length-map g.arcs graph_arc, is.arcs_few));
      given = (numbered_all (graph_records g), is);
    }
