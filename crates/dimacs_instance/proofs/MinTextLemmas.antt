-- The texts of minimum cost flow instances.
use Rattle.std.proofs.Common.{◌≡◌, ◌≢◌, ℕ, ◌<◌, ◌≤◌, ◌∷◌, ◌++◌, [], List, Bool, true, false, Option, Some, None, length, map, cond, ◌+◌, refl, ap, ap₂, sym, ◌∙◌, arith}
use Rattle.std.proofs.{lemmas.Bool.{eq-eqb, false_from_ne_true}, lemmas.Int.{ints}}
use Rattle.std.proofs.lemmas.List.{append-nil, length-append, length-map}
use Rattle.std.proofs.lemmas.List.Elements.{All-cons, All-head, All-tail, All-append, All-map, All-weaker}
use Rattle.std.specs.{Prelude.{ℤ, pos, codes, not, int_lt, ◌≤ℤ◌, ◌<ℤ◌, count_by}, List.{All, filter, list_any}}
use Rattle.std.specs.{Int.Signed.{lt_z_yes}, FinMap.{from_entries, entries, get}}
use Rattle.dimacs_lines.specs.Limits.{most_nodes, IsNode}
use Rattle.dimacs_network.proofs.Entries.{from_entries-entries, entries_once, length-entries, All-get}
use Rattle.dimacs_records.specs.{declared.kinds.TextKind.TheVariants.{Min}, declared.records.Record.{Record}}
use Rattle.dimacs_records.specs.declared.records.Record.TheVariants.{MinProblem, MinNode, MinArc}
use Rattle.dimacs_records.specs.{Forms.{form, Word, Nodes, Count, Id, Whole}, Canonical.{CanBeSpelled}}
use Rattle.dimacs_records.specs.{Readings.{LineRecord, records_of, IsAllowed}, Texts.{AreFaultless}}
use Rattle.dimacs_records.specs.NodeValues.{is_of, has_value, NameNodes}
use Rattle.dimacs_records.proofs.{SplitLemmas.{image_at, All-at}, CanonicalLaws.{canonical_spelled, numbered_all}}
use Rattle.dimacs_records.proofs.{CountLemmas.{once_before}, NameLemmas.{not_zero}}
use Rattle.dimacs_network.specs.{declared.network.ArcView.{ArcView}, Arcs.{JoinsNodes}}
use Rattle.dimacs_instance.specs.MinFlows.{MinValue, IsMin, IsSupply, HasBounds}
use Rattle.dimacs_instance.specs.MinTexts.{min_node, min_arc, min_records, GivesMin, SpellsMin, canonical_min, canonical_min_records}
use Rattle.dimacs_instance.proofs.MinLemmas.{node_new, one_more_arc, all_arcs, allows_problem}

-- an item of two joined lists is in the first or in the second
pub data InEither {A : Type 0} (xs ys before : List A) (y : A) : Type 0 where
  in_first : (after : List A) → xs ≡ before ++ y ∷ after → InEither xs ys before y
  in_second : (front after : List A) → before ≡ xs ++ front → ys ≡ front ++ y ∷ after → InEither xs ys before y

in_either : {A : Type 0} (xs ys before after : List A) (y : A) → xs ++ ys ≡ before ++ y ∷ after → InEither xs ys before y
in_either [] ys before after y e = in_second before after refl e
in_either (x ∷ xs) ys [] after y e = let first : x ≡ y = cc in in_first xs (ap (λ t. t ∷ xs) first)
in_either (x ∷ xs) ys (b ∷ bs) after y e =
    let first : x ≡ b = cc in
    elim (in_either xs ys bs after y (cc)) [
      | in_first rest is ↦ in_first rest (ap₂ (λ t ts. t ∷ ts) first is)
      | in_second front rest before_is is ↦ in_second front rest (ap₂ (λ t ts. t ∷ ts) (sym first) before_is) is
    ]

int_lt_not : (x y : ℤ) → y ≤ℤ x → int_lt x y ≡ false
int_lt_not x y h = false_from_ne_true (int_lt x y) (λ e. let below : x <ℤ y = lt_z_yes {a = x} {b = y} (rw e tt) in absurd (omega (arith, ints, below, h)))

node_allowed : (m : MinValue) (named front back : List (ℕ × ℤ)) (s : ℕ × ℤ) (before : List Record) (r : Record) → NameNodes m.nodes named → named ≡ front ++ s ∷ back
    → before ≡ min_records m.nodes (length m.arcs) front [] → r ≡ min_node s → IsAllowed before r
node_allowed m named front back s before r are is before_is r_is =
    let node : IsNode m.nodes s.0 = All-at (λ (x : ℕ × ℤ). IsNode m.nodes x.0) named front back s is are.within in
    let once : count_by (is_of s.0) (front ++ s ∷ back) ≤ 1 = rw (← is) (are.once s.0) in
    let new : list_any (is_of s.0) front ≡ false = once_before (is_of s.0) front back s (eq-eqb s.0 s.0 refl) once in
    rw (before_is, r_is) (node_new m.nodes (length m.arcs) front [] s.0 s.1 (omega arith) node.1 new)

arc_allowed : (m : MinValue) (named : List (ℕ × ℤ)) (front back : List ArcView) (a : ArcView) (before : List Record) (r : Record) → IsMin m → m.arcs ≡ front ++ a ∷ back
    → before ≡ min_records m.nodes (length m.arcs) named front → r ≡ min_arc a → IsAllowed before r
arc_allowed m named front back a before r law is before_is r_is =
    let joined : JoinsNodes m.nodes a = All-at (JoinsNodes m.nodes) m.arcs front back a is law.joined in
    let bounds : HasBounds a = All-at HasBounds m.arcs front back a is law.bounds in
    let room : length front < length m.arcs = omega (arith, ap length is, length-append front (a ∷ back)) in
    rw (before_is, r_is) (one_more_arc m.nodes (length m.arcs) named front a joined.0.1 joined.1.1 (int_lt_not a.low (pos 0) bounds.0) (int_lt_not a.cap a.low bounds.1) room)

-- the records of an instance have no fault
min_allowed : (m : MinValue) (named : List (ℕ × ℤ)) → NameNodes m.nodes named → IsMin m → (before after : List Record) (r : Record) → min_records m.nodes (length m.arcs) named m.arcs ≡ before ++ r ∷ after → IsAllowed before r
min_allowed m named are law [] after r e = let first : r ≡ MinProblem m.nodes (length m.arcs) = cc in rw first (allows_problem m.nodes (length m.arcs))
min_allowed m named are law (b ∷ bs) after r e =
    let first : b ≡ MinProblem m.nodes (length m.arcs) = cc in
    elim (in_either (map min_node named) (map min_arc m.arcs) bs after r (cc)) [
      | in_first rest is ↦
          let at = image_at min_node named bs rest r is in
          node_allowed m named at.front at.back at.x (b ∷ bs) r are at.xs_are (ap₂ (λ t ts. t ∷ ts) first (at.before_is ∙ sym (append-nil (map min_node at.front)))) at.y_is
      | in_second front rest before_is is ↦
          let at = image_at min_arc m.arcs front rest r is in
          arc_allowed m named at.front at.back at.x (b ∷ bs) r law at.xs_are (ap₂ (λ t ts. t ∷ ts) first (before_is ∙ ap (λ t. map min_node named ++ t) at.before_is)) at.y_is
    ]

pub min_faultless : (rs : List LineRecord) (m : MinValue) → GivesMin rs m → AreFaultless Min (records_of rs)
min_faultless rs m h = rw h.records (record { allowed = min_allowed m h.named h.name_nodes h.is_min; complete = all_arcs m.nodes (length m.arcs) h.named m.arcs (omega arith) })

-- the node lines and the arcs among some records
nodes_in : List Record → ℕ
nodes_in (MinProblem n m ∷ rs) = n
nodes_in rs = 0

named_in : List Record → List (ℕ × ℤ)
named_in [] = []
named_in (MinNode id s ∷ rs) = (id, s) ∷ named_in rs
named_in (r ∷ rs) = named_in rs

arcs_in : List Record → List ArcView
arcs_in [] = []
arcs_in (MinArc t h l c w ∷ rs) = record { tail = t; head = h; low = l; cap = c; cost = w } ∷ arcs_in rs
arcs_in (r ∷ rs) = arcs_in rs

named_in-arcs : (arcs : List ArcView) → named_in (map min_arc arcs) ≡ []
unfolding named_in
named_in-arcs [] = refl
named_in-arcs (a ∷ arcs) = named_in-arcs arcs

named_in-lines : (named : List (ℕ × ℤ)) (arcs : List ArcView) → named_in (map min_node named ++ map min_arc arcs) ≡ named
unfolding named_in
named_in-lines [] arcs = named_in-arcs arcs
named_in-lines (s ∷ named) arcs = ap (λ t. s ∷ t) (named_in-lines named arcs)

arcs_in-arcs : (arcs : List ArcView) → arcs_in (map min_arc arcs) ≡ arcs
unfolding arcs_in
arcs_in-arcs [] = refl
arcs_in-arcs (a ∷ arcs) = ap (λ t. a ∷ t) (arcs_in-arcs arcs)

arcs_in-lines : (named : List (ℕ × ℤ)) (arcs : List ArcView) → arcs_in (map min_node named ++ map min_arc arcs) ≡ arcs
unfolding arcs_in
arcs_in-lines [] arcs = arcs_in-arcs arcs
arcs_in-lines (s ∷ named) arcs = arcs_in-lines named arcs

nodes_in-records : (n c : ℕ) (named : List (ℕ × ℤ)) (arcs : List ArcView) → nodes_in (min_records n c named arcs) ≡ n
unfolding nodes_in
nodes_in-records n c named arcs = refl

named_in-records : (n c : ℕ) (named : List (ℕ × ℤ)) (arcs : List ArcView) → named_in (min_records n c named arcs) ≡ named
unfolding named_in
named_in-records n c named arcs = named_in-lines named arcs

arcs_in-records : (n c : ℕ) (named : List (ℕ × ℤ)) (arcs : List ArcView) → arcs_in (min_records n c named arcs) ≡ arcs
unfolding arcs_in
arcs_in-records n c named arcs = arcs_in-lines named arcs

-- records give only one instance
pub one_min : (rs : List LineRecord) (g h : MinValue) → GivesMin rs g → GivesMin rs h → g ≡ h
one_min rs g h a b =
    let same = sym a.records ∙ b.records in
    let nodes : g.nodes ≡ h.nodes = sym (nodes_in-records g.nodes (length g.arcs) a.named g.arcs) ∙ ap nodes_in same ∙ nodes_in-records h.nodes (length h.arcs) b.named h.arcs in
    let named : a.named ≡ b.named = sym (named_in-records g.nodes (length g.arcs) a.named g.arcs) ∙ ap named_in same ∙ named_in-records h.nodes (length h.arcs) b.named h.arcs in
    let arcs : g.arcs ≡ h.arcs = sym (arcs_in-records g.nodes (length g.arcs) a.named g.arcs) ∙ ap arcs_in same ∙ arcs_in-records h.nodes (length h.arcs) b.named h.arcs in
    let supplies : g.supplies ≡ h.supplies = a.supplies ∙ ap (λ x. from_entries (filter has_value x)) named ∙ sym b.supplies in
    λ i. record { nodes = nodes i; supplies = supplies i; arcs = arcs i }

problem_fits : (m : MinValue) → IsMin m → CanBeSpelled Min (MinProblem m.nodes (length m.arcs))
problem_fits m law = record {
  form = form (codes "p") (Word (codes "min") ∷ Nodes ∷ Count ∷ []);
  of_kind = (0, omega arith, refl);
  for_kind = refl;
  letter = refl;
  fit = (refl, ((omega (arith, ints), omega (arith, ints, law.nodes_few)), ((omega (arith, ints), omega (arith, ints, law.arcs_few)), tt)));
}

node_fits : (nodes : ℕ) → nodes ≤ most_nodes → (s : ℕ × ℤ) → IsSupply nodes s → CanBeSpelled Min (min_node s)
node_fits nodes few s h = record {
  form = form (codes "n") (Id ∷ Whole ∷ []);
  of_kind = (1, omega arith, refl);
  for_kind = refl;
  letter = refl;
  fit = ((omega (arith, ints, h.0.0), omega (arith, ints, h.0.1, few)), (h.2, tt));
}

arc_fits : (nodes : ℕ) (a : ArcView) → nodes ≤ most_nodes → JoinsNodes nodes a → HasBounds a → CanBeSpelled Min (min_arc a)
arc_fits nodes a few joined bounds = record {
  form = form (codes "a") (Id ∷ Id ∷ Whole ∷ Whole ∷ Whole ∷ []);
  of_kind = (2, omega arith, refl);
  for_kind = refl;
  letter = refl;
  fit = (
    (omega (arith, ints, joined.0.0), omega (arith, ints, joined.0.1, few)),
    (
      (omega (arith, ints, joined.1.0), omega (arith, ints, joined.1.1, few)),
      ((omega (arith, ints, bounds.0), omega (arith, ints, bounds.1, bounds.2.1)), (bounds.2, (bounds.3, tt))),
    ),
  );
}

records_fit : (m : MinValue) → IsMin m → All (CanBeSpelled Min) (canonical_min_records m)
records_fit m law =
    All-cons (CanBeSpelled Min) (MinProblem m.nodes (length m.arcs)) (map min_node (entries m.supplies) ++ map min_arc m.arcs) (problem_fits m law)
    (All-append (CanBeSpelled Min) (map min_node (entries m.supplies)) (map min_arc m.arcs)
    (All-map (CanBeSpelled Min) min_node (entries m.supplies) (λ k d below. node_fits m.nodes law.nodes_few _ (law.supplied k d below)))
    (All-map (CanBeSpelled Min) min_arc m.arcs (λ k d below. arc_fits m.nodes _ law.nodes_few (law.joined k d below) (law.bounds k d below))))

-- only nodes have supplies
pub no_supply : (m : MinValue) → IsMin m → (id : ℕ) → ¬ IsNode m.nodes id → get m.supplies id ≡ None
no_supply m law id out = of_value (get m.supplies id) refl
  where
    of_value : (o : Option ℤ) → get m.supplies id ≡ o → o ≡ None
    of_value None e = refl
    of_value (Some s) e = absurd (out (All-get (IsSupply m.nodes) m.supplies id s law.supplied e).0)

pub no_supply_past : (m : MinValue) → IsMin m → (id : ℕ) → m.nodes + 1 ≤ id → get m.supplies id ≡ None
no_supply_past m law id past = no_supply m law id (λ node. omega (arith, node.1))

pub supplied_test : (s : ℕ × ℤ) → s.1 ≢ pos 0 → has_value s ≡ true
supplied_test s some = ap not (not_zero s.1 some)

all_pass : {A : Type 0} (p : A → Bool) (xs : List A) → All (λ x. p x ≡ true) xs → filter p xs ≡ xs
all_pass p [] h = refl
all_pass p (x ∷ xs) h = ap (λ b. cond b (x ∷ filter p xs) (filter p xs)) (All-head (λ x. p x ≡ true) x xs h) ∙ ap (λ t. x ∷ t) (all_pass p xs (All-tail (λ x. p x ≡ true) x xs h))

-- the canonical text of an instance spells it
pub min_round_trip : (m : MinValue) → IsMin m → SpellsMin (canonical_min m) m
min_round_trip m law =
    let few : length (entries m.supplies) ≤ m.nodes + 1 = length-entries m.supplies (m.nodes + 1) (no_supply_past m law) in
    let kept : filter has_value (entries m.supplies) ≡ entries m.supplies =
    all_pass has_value (entries m.supplies) (All-weaker (IsSupply m.nodes) (λ (s : ℕ × ℤ). has_value s ≡ true) (λ s h. supplied_test s h.1) (entries m.supplies) law.supplied) in
    record {
      by_line = map (λ (r : Record). Some r) (canonical_min_records m);
      spelled = canonical_spelled Min (canonical_min_records m) (records_fit m law)
          (omega (arith, length-append (map min_node (entries m.supplies)) (map min_arc m.arcs), length-map (entries m.supplies) min_node, length-map m.arcs min_arc, few, law.nodes_few, law.arcs_few));
      given = record {
        named = entries m.supplies;
        name_nodes = record {
          within = All-weaker (IsSupply m.nodes) (λ (s : ℕ × ℤ). IsNode m.nodes s.0) (λ s h. h.0) (entries m.supplies) law.supplied;
          once = entries_once m.supplies (m.nodes + 1) (no_supply_past m law);
        };
        supplies = sym (ap from_entries kept ∙ from_entries-entries m.supplies);
        records = numbered_all (canonical_min_records m);
        is_min = law;
      };
    }
