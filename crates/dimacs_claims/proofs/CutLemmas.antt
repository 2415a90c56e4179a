-- Sets of nodes, and one more record of a set while its text is read.
use Rattle.std.proofs.Common.{◌≡◌, ℕ, suc, ◌<◌, ◌≤◌, ◌∷◌, ◌++◌, [], List, Bool, true, false, Some, length, map, ◌+◌, ◌==◌, ◌||◌, refl, ap, ap₂, sym, ◌∙◌, subst, arith}
use Rattle.std.proofs.{lemmas.List.{map-append, map-id, length-append, length-map}, lemmas.Simd.{map-map}}
use Rattle.std.proofs.{lemmas.List.Elements.{All-nil, All-cons, All-map, All-push}, lemmas.Bool.{le-ltb, eqb-true}}
use Rattle.std.proofs.{lemmas.Bool.Decides.{nat_tests}, lemmas.Int.{ints}}
use Rattle.std.specs.{Prelude.{codes, nat_lt, nat_le, count_by}, List.{All, list_any, range_with_len}}
use Rattle.std.specs.{Ordering.{nat_cmp}, Cmp.{nat_cmp_total}}
use Rattle.std.specs.FinSet.{FinSet, contains, from_list, from_list_push, same_set, contains-from_list_nat, nat_cmp-IsAntisymmetric}
use Rattle.dimacs_lines.specs.Limits.{most_count, most_nodes, IsNode}
use Rattle.dimacs_network.proofs.Nodes.{contains-insert, contains-empty}
use Rattle.dimacs_records.specs.{declared.records.Record.{Record}, declared.order.Context.{Context}, Spelling.{kind_of}}
use Rattle.dimacs_records.specs.{declared.records.Record.TheVariants.{CutProblem, CutNode}, Earlier.{names, counted_in}}
use Rattle.dimacs_records.specs.{Canonical.{CanBeSpelled}, Forms.{form, Word, Nodes, Count, Id}, Texts.{AreFaultless}}
use Rattle.dimacs_records.specs.Readings.{LineRecord, records_of, IsAllowed, IsComplete}
use Rattle.dimacs_records.specs.Tests.{Passes, plain_context_after, plain_context_of, context_after}
use Rattle.dimacs_records.proofs.{CanonicalLaws.{canonical_spelled, numbered_all}, SplitLemmas.{image_at, All-at}}
use Rattle.dimacs_records.proofs.ConditionLemmas.{is_allowed, is_complete, allowed_at}
use Rattle.dimacs_records.proofs.CountLemmas.{once_before, once_more}
use Rattle.dimacs_claims.specs.Cuts.{CutValue, IsCut, AreNamed, GivesCut, SpellsCut, canonical_cut, cut_records, empty_cut, ids_in, is_id, with_node}
use Rattle.dimacs_claims.specs.CutReading.{CutBegun, IsCutBegunBy, plain_context, context}
use Rattle.dimacs_claims.proofs.NodeLists.{passing_once, passing_few, none_passing, All-passing, passing_listed, passing_more}
use Rattle.std.specs.FinSet as set
use Rattle.dimacs_records.specs.declared.kinds.TextKind.TheVariants as kinds

any_names : (id : ℕ) (named : List ℕ) → list_any (names id) (map CutNode named) ≡ list_any (is_id id) named
any_names id [] = refl
any_names id (x ∷ named) = ap (λ b. (x == id) || b) (any_names id named)

counted : (named : List ℕ) → counted_in (map CutNode named) ≡ length named
counted [] = refl
counted (x ∷ named) = ap suc (counted named)

-- after the problem line and these lines
module _ (nodes declared : ℕ) (named : List ℕ) where
  abbrev earlier : List Record
  earlier = cut_records nodes declared named

  module _ (id : ℕ) where
    one_more : id ≤ nodes → list_any (is_id id) named ≡ false → length named < declared → IsAllowed earlier (CutNode id)
    one_more within new room =
        let all : nat_le declared (counted_in earlier) ≡ false = rw (counted named) (grind (arith, nat_tests, room)) in
        is_allowed earlier (CutNode id) (rw (le-ltb nodes id within, any_names id named, new, all) refl)

  all_lines : declared ≤ length named → IsComplete kinds.Cut earlier
  all_lines full =
      let few : nat_lt (counted_in earlier) declared ≡ false = rw (counted named) (le-ltb (length named) declared full) in
      is_complete kinds.Cut earlier (rw few refl)

allows_problem : (n k : ℕ) → IsAllowed [] (CutProblem n k)
allows_problem n k = is_allowed [] (CutProblem n k) refl

-- one more line, with a new node
pub named_more : (nodes : ℕ) (named : List ℕ) (id : ℕ) → AreNamed nodes named → IsNode nodes id → list_any (is_id id) named ≡ false → AreNamed nodes (named ++ id ∷ [])
named_more nodes named id are node new = record {
  within = All-push (IsNode nodes) named id are.within node;
  once = once_more is_id named id (λ other same. ap (λ n. list_any (is_id n) named) (sym (eqb-true id other same)) ∙ new) are.once;
}

-- the set of the named nodes
contains_named : (ids : FinSet nat_cmp) (named : List ℕ) (id : ℕ) → ids ≡ from_list named → contains ids id ≡ list_any (is_id id) named
contains_named ids named id is = ap (λ s. contains s id) is ∙ contains-from_list_nat named id

pub one_node_more : (c : CutValue) (id : ℕ) → contains c.ids id ≡ false → IsNode c.nodes id → length (ids_in (with_node c id)) ≡ length (ids_in c) + 1
one_node_more c id new node = passing_more (contains c.ids) (contains (set.insert c.ids id)) c.nodes id new (contains-insert c.ids id) node

pub no_nodes : (nodes : ℕ) → length (ids_in (empty_cut nodes)) ≡ 0
no_nodes nodes = ap length (none_passing (contains set.empty) (range_with_len 1 nodes) contains-empty)

-- the laws of sets
pub empty_law : (nodes : ℕ) → nodes ≤ most_nodes → IsCut (empty_cut nodes)
empty_law nodes few = record { nodes_few = few; within = λ id e. absurd (cc (contains-empty id, e)) }

pub law_with_node : (c : CutValue) (id : ℕ) → IsCut c → IsNode c.nodes id → IsCut (with_node c id)
law_with_node c id law node = record { nodes_few = law.nodes_few; within = λ other e. by_test other (other == id) refl (sym (contains-insert c.ids id other) ∙ e) }
  where
    by_test : (other : ℕ) (b : Bool) → (other == id) ≡ b → ((other == id) || contains c.ids other) ≡ true → IsNode c.nodes other
    by_test other true same e = let is : other ≡ id = eqb-true other id same in rw is node
    by_test other false apart e = law.within other (sym (ap (λ b. b || contains c.ids other) apart) ∙ e)

-- what the tests know follows from the records
pub plain_context_by_records : (b : CutBegun) (rs : List Record) → IsCutBegunBy b rs → plain_context b ≡ plain_context_after rs
plain_context_by_records b rs h = rw h.records (ap (plain_context_of (plain_context b).problem) (h.count ∙ sym (counted h.named)))

named_by_records : (b : CutBegun) (rs : List Record) (id : ℕ) → IsCutBegunBy b rs → list_any (names id) rs ≡ contains b.cut.ids id
named_by_records b rs id h = rw h.records (any_names id h.named ∙ sym (contains_named b.cut.ids h.named id h.ids))

pub context_by_records : (b : CutBegun) (r : Record) → kind_of r ≡ kinds.Cut → (rs : List Record) → IsCutBegunBy b rs → context b r ≡ context_after rs r
context_by_records b (CutProblem n k) of_kind rs h = plain_context_by_records b rs h
context_by_records b (CutNode id) of_kind rs h = ap₂ (λ (e : Context) t. record e { named = t }) (plain_context_by_records b rs h) (sym (named_by_records b rs id h))
context_by_records b r of_kind rs h = absurd (cc)

-- the state after a problem line
pub begins : (n k : ℕ) → n ≤ most_nodes → IsCutBegunBy (record { declared = k; cut = empty_cut n }) (CutProblem n k ∷ [])
begins n k few = record {
  named = [];
  are_named = record { within = All-nil (IsNode n); once = λ id. omega arith };
  ids = refl;
  count = no_nodes n;
  no_more = omega arith;
  is_cut = empty_law n few;
  records = refl;
}

-- one more node, which passes the tests
pub more : (b : CutBegun) (id : ℕ) → 1 ≤ id → Passes (context b (CutNode id)) (CutNode id) → (rs : List Record) → IsCutBegunBy b rs
    → IsCutBegunBy (record b { cut = with_node b.cut id }) (rs ++ CutNode id ∷ [])
more b id least p rs h =
    let node : IsNode b.cut.nodes id = (least, grind (arith, nat_tests, p.second_within)) in
    let room : length (ids_in b.cut) < b.declared = grind (arith, nat_tests, p.room) in
    let size : length (h.named ++ id ∷ []) ≡ length h.named + 1 = length-append h.named (id ∷ []) in
    record {
      named = h.named ++ id ∷ [];
      are_named = named_more b.cut.nodes h.named id h.are_named node (sym (contains_named b.cut.ids h.named id h.ids) ∙ p.new_node);
      ids = ap (λ s. set.insert s id) h.ids ∙ sym (from_list_push nat_cmp_total nat_cmp-IsAntisymmetric h.named id);
      count = omega (arith, one_node_more b.cut id p.new_node node, h.count, size);
      no_more = omega (arith, room, h.count, size);
      is_cut = law_with_node b.cut id h.is_cut node;
      records = ap (λ rs. rs ++ CutNode id ∷ []) h.records ∙ ap (λ rs. CutProblem b.cut.nodes b.declared ∷ rs) (sym (map-append CutNode h.named (id ∷ [])));
    }

-- the lines of a set have no fault
lines_allowed : (nodes : ℕ) (named : List ℕ) → AreNamed nodes named → (before after : List Record) (r : Record) → cut_records nodes (length named) named ≡ before ++ r ∷ after → IsAllowed before r
lines_allowed nodes named are [] after r e = let first : r ≡ CutProblem nodes (length named) = cc in rw first (allows_problem nodes (length named))
lines_allowed nodes named are (b ∷ bs) after r e =
    let first : b ≡ CutProblem nodes (length named) = cc in
    let at = image_at CutNode named bs after r (cc) in
    let room : length at.front < length named = omega (arith, ap length at.xs_are, length-append at.front (at.x ∷ at.back)) in
    let node : IsNode nodes at.x = All-at (IsNode nodes) named at.front at.back at.x at.xs_are are.within in
    let once : count_by (is_id at.x) (at.front ++ at.x ∷ at.back) ≤ 1 = subst (λ (xs : List ℕ). count_by (is_id at.x) xs ≤ 1) at.xs_are (are.once at.x) in
    let new : list_any (is_id at.x) at.front ≡ false = once_before (is_id at.x) at.front at.back at.x (grind (arith, nat_tests)) once in
    allowed_at (b ∷ bs) (cut_records nodes (length named) at.front) r (CutNode at.x) (ap₂ (λ x xs. x ∷ xs) first at.before_is) at.y_is (one_more nodes (length named) at.front at.x node.1 new room)

pub cut_faultless : (rs : List LineRecord) (c : CutValue) → GivesCut rs c → AreFaultless kinds.Cut (records_of rs)
cut_faultless rs c h =
    rw h.records (record { allowed = lines_allowed c.nodes h.named h.are_named; complete = all_lines c.nodes (length h.named) h.named (omega arith) })

-- records give only one set
id_of : Record → ℕ
id_of (CutNode id) = id
id_of r = 0

cut_of : List Record → CutValue
cut_of (CutProblem nodes count ∷ rs) = record { nodes = nodes; ids = from_list (map id_of rs) }
cut_of rs = empty_cut 0

cut_of-records : (nodes count : ℕ) (named : List ℕ) → cut_of (cut_records nodes count named) ≡ record { nodes = nodes; ids = from_list named }
unfolding cut_of id_of
cut_of-records nodes count named = ap (λ (xs : List ℕ). record { nodes = nodes; ids = from_list xs }) (map-map id_of CutNode named ∙ map-id named)

cut_given : (rs : List LineRecord) (c : CutValue) → GivesCut rs c → cut_of (records_of rs) ≡ c
cut_given rs c h = ap cut_of h.records ∙ cut_of-records c.nodes (length h.named) h.named ∙ ap (λ (s : FinSet nat_cmp). record { nodes = c.nodes; ids = s }) (sym h.ids)

pub one_cut : (rs : List LineRecord) (c d : CutValue) → GivesCut rs c → GivesCut rs d → c ≡ d
one_cut rs c d a b = sym (cut_given rs c a) ∙ cut_given rs d b

pub few_ids : (c : CutValue) → IsCut c → length (ids_in c) ≤ most_nodes
few_ids c law = omega (arith, passing_few (contains c.ids) c.nodes, law.nodes_few)

ids_named : (c : CutValue) → IsCut c → AreNamed c.nodes (ids_in c)
ids_named c law = record {
  within = All-passing (IsNode c.nodes) (contains c.ids) (range_with_len 1 c.nodes) law.within;
  once = passing_once (contains c.ids) c.nodes;
}

set_of_ids : (c : CutValue) → IsCut c → c.ids ≡ from_list (ids_in c)
set_of_ids c law =
    same_set nat_cmp_total nat_cmp-IsAntisymmetric c.ids (from_list (ids_in c)) (λ id. sym (contains-from_list_nat (ids_in c) id ∙ passing_listed (contains c.ids) c.nodes id (law.within id)))

-- adding a node of the set changes nothing
pub again_same : (s : FinSet nat_cmp) (id : ℕ) → contains s id ≡ true → set.insert s id ≡ s
again_same s id h = same_set nat_cmp_total nat_cmp-IsAntisymmetric (set.insert s id) s (λ other. contains-insert s id other ∙ by_test other (other == id) refl)
  where
    by_test : (other : ℕ) (b : Bool) → (other == id) ≡ b → (b || contains s other) ≡ contains s other
    by_test other true e = sym (ap (contains s) (eqb-true other id e) ∙ h)
    by_test other false e = refl

problem_fits : (nodes count : ℕ) → nodes ≤ most_nodes → count ≤ most_count → CanBeSpelled kinds.Cut (CutProblem nodes count)
problem_fits nodes count nodes_few few = record {
  form = form (codes "p") (Word (codes "cut") ∷ Nodes ∷ Count ∷ []);
  of_kind = (0, omega arith, refl);
  for_kind = refl;
  letter = refl;
  fit = (refl, ((omega (arith, ints), omega (arith, ints, nodes_few)), ((omega (arith, ints), omega (arith, ints, few)), tt)));
}

line_fits : (id : ℕ) → 1 ≤ id → id ≤ most_nodes → CanBeSpelled kinds.Cut (CutNode id)
line_fits id least most = record {
  form = form (codes "u") (Id ∷ []);
  of_kind = (1, omega arith, refl);
  for_kind = refl;
  letter = refl;
  fit = ((omega (arith, ints, least), omega (arith, ints, most)), tt);
}

-- the canonical text of a set spells it
pub cut_round_trip : (c : CutValue) → IsCut c → SpellsCut (canonical_cut c) c
cut_round_trip c law =
    let all = cut_records c.nodes (length (ids_in c)) (ids_in c) in
    let few = few_ids c law in
    let problem : CanBeSpelled kinds.Cut (CutProblem c.nodes (length (ids_in c))) = problem_fits c.nodes (length (ids_in c)) law.nodes_few (omega (arith, few)) in
    let named = (ids_named c law).within in
    let lines = All-map (CanBeSpelled kinds.Cut) CutNode (ids_in c) (λ k d below. line_fits _ (named k d below).0 (omega (arith, (named k d below).1, law.nodes_few))) in
    let fit : All (CanBeSpelled kinds.Cut) all = All-cons (CanBeSpelled kinds.Cut) (CutProblem c.nodes (length (ids_in c))) (map CutNode (ids_in c)) problem lines in
    record {
      by_line = map (λ (r : Record). Some r) all;
      spelled = canonical_spelled kinds.Cut all fit (omega (arith, few, length-map (ids_in c) CutNode));
      given = record {
        named = ids_in c;
        are_named = ids_named c law;
        ids = set_of_ids c law;
        records = numbered_all all;
        is_cut = law;
      };
    }
