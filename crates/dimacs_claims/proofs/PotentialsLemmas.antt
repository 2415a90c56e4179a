-- Potentials, and one more record of potentials while their text is read.
use Rattle.std.proofs.Common.{◌≡◌, ◌≢◌, ℕ, suc, ◌<◌, ◌≤◌, ◌∷◌, ◌++◌, [], List, Bool, true, false, Option, Some, None, length, map, cond, ◌+◌, ◌-◌, ◌==◌, ◌||◌, refl, ap, ap₂, sym, ◌∙◌, subst, arith}
use Rattle.std.proofs.{lemmas.List.{map-append, map-id, length-append, length-map}, lemmas.Simd.{map-map}}
use Rattle.std.proofs.{lemmas.List.Elements.{All-nil, All-cons, All-map}, lemmas.Bool.Decides.{nat_tests}}
use Rattle.std.proofs.{lemmas.Bool.{cond-true, cond_both, le-ltb, eqb-true}, lemmas.Int.{ints}}
use Rattle.std.specs.{Prelude.{ℤ, pos, codes, is_some, nat_lt, nat_le, not, count_by, unwrap_or}, Ordering.{nat_cmp}}
use Rattle.std.specs.{List.{All, filter, list_any, range_with_len}, Cmp.{nat_cmp_total, unsigned_tied}}
use Rattle.std.specs.FinMap.{FinMap, empty, get, insert, from_entries, same_map, get-from_entries, nat_cmp-IsAntisymmetric}
use Rattle.std.specs.FinMap.Entries.{find}
use Rattle.dimacs_lines.specs.Limits.{most_count, most_nodes, IsNode}
use Rattle.dimacs_network.specs.Skips.{Skips}
use Rattle.dimacs_network.proofs.SkipLemmas.{Skips-weaker}
use Rattle.dimacs_records.specs.{declared.records.Record.{Record}, declared.order.Context.{Context}, Ranges.{IsWide}}
use Rattle.dimacs_records.specs.declared.records.Record.TheVariants.{PotentialsProblem, PotentialsNode}
use Rattle.dimacs_records.specs.{Earlier.{names, counted_in}, Canonical.{CanBeSpelled, AreLines, records_of_line}}
use Rattle.dimacs_records.specs.{Forms.{form, Word, Nodes, Count, Id, Wide}, Texts.{AreFaultless}, Spelling.{kind_of}}
use Rattle.dimacs_records.specs.Readings.{LineRecord, records_of, IsAllowed, IsComplete}
use Rattle.dimacs_records.specs.NodeValues.{NameNodes, has_value, is_nonzero, is_of, without_zeros}
use Rattle.dimacs_records.specs.Tests.{Passes, PassesEnd, plain_context_after, plain_context_of, context_after}
use Rattle.dimacs_records.proofs.{CanonicalLaws.{canonical_spelled, numbered_all}, SplitLemmas.{image_at, All-at}}
use Rattle.dimacs_records.proofs.ConditionLemmas.{is_allowed, is_complete, allowed_at}
use Rattle.dimacs_records.proofs.CountLemmas.{once_before, same_test}
use Rattle.dimacs_records.proofs.NameLemmas.{has-from_entries, map_more, named_more, not_zero, without_zeros-named}
use Rattle.dimacs_claims.specs.{Cuts.{is_id}, inside.PotentialsReading.{potentials_begun}}
use Rattle.dimacs_claims.specs.Potentials.{PotentialsValue, ArePotentials, GivesPotentials, SpellsPotentials, canonical_potentials, node_line, nonzero_ids, potential_of, potentials_records, with_values, zero_potentials}
use Rattle.dimacs_claims.specs.PotentialsReading.{PotentialsBegun, ArePotentialsBegunBy, plain_context, context, has_line}
use Rattle.dimacs_claims.proofs.NodeLists.{All-passing, count_map, passing, passing_below, passing_few, passing_listed, passing_once, lines_of_passing}
use Rattle.dimacs_records.specs.declared.kinds.TextKind.TheVariants as kinds

any_names : (id : ℕ) (named : List (ℕ × ℤ)) → list_any (names id) (map node_line named) ≡ list_any (is_of id) named
any_names id [] = refl
any_names id (n ∷ named) = ap (λ b. (n.0 == id) || b) (any_names id named)

counted : (named : List (ℕ × ℤ)) → counted_in (map node_line named) ≡ length named
counted [] = refl
counted (n ∷ named) = ap suc (counted named)

-- after the problem line and these lines
module _ (nodes declared : ℕ) (named : List (ℕ × ℤ)) where
  abbrev earlier : List Record
  earlier = potentials_records nodes declared named

  module _ (id : ℕ) (v : ℤ) where
    one_more : id ≤ nodes → list_any (is_of id) named ≡ false → length named < declared → IsAllowed earlier (PotentialsNode id v)
    one_more within new room =
        let all : nat_le declared (counted_in earlier) ≡ false = rw (counted named) (grind (arith, nat_tests, room)) in
        is_allowed earlier (PotentialsNode id v) (rw (le-ltb nodes id within, any_names id named, new, all) refl)

  all_lines : declared ≤ length named → IsComplete kinds.Potentials earlier
  all_lines full =
      let few : nat_lt (counted_in earlier) declared ≡ false = rw (counted named) (le-ltb (length named) declared full) in
      is_complete kinds.Potentials earlier (rw few refl)

allows_problem : (n k : ℕ) → IsAllowed [] (PotentialsProblem n k)
allows_problem n k = is_allowed [] (PotentialsProblem n k) refl

-- what the tests know follows from the records
pub plain_context_by_records : (b : PotentialsBegun) (rs : List Record) → ArePotentialsBegunBy b rs → plain_context b ≡ plain_context_after rs
plain_context_by_records b rs h = rw h.records (ap (plain_context_of (plain_context b).problem) (h.count ∙ sym (counted h.named)))

has_named : (b : PotentialsBegun) (id : ℕ) {rs : List Record} (h : ArePotentialsBegunBy b rs) → has_line b id ≡ list_any (is_of id) h.named
has_named b id h = ap (λ m. is_some (get m id)) h.values ∙ has-from_entries h.named id

named_by_records : (b : PotentialsBegun) (rs : List Record) (id : ℕ) → ArePotentialsBegunBy b rs → list_any (names id) rs ≡ has_line b id
named_by_records b rs id h = rw h.records (any_names id h.named ∙ sym (has_named b id h))

pub context_by_records : (b : PotentialsBegun) (r : Record) → kind_of r ≡ kinds.Potentials → (rs : List Record) → ArePotentialsBegunBy b rs → context b r ≡ context_after rs r
context_by_records b (PotentialsProblem n k) of_kind rs h = plain_context_by_records b rs h
context_by_records b (PotentialsNode id v) of_kind rs h = ap₂ (λ (e : Context) t. record e { named = t }) (plain_context_by_records b rs h) (sym (named_by_records b rs id h))
context_by_records b r of_kind rs h = absurd (cc)

-- the state after a problem line
pub begins : (n k : ℕ) → ArePotentialsBegunBy (record { nodes = n; declared = k; taken = 0; values = empty }) (PotentialsProblem n k ∷ [])
begins n k = record {
  named = [];
  name_nodes = record { within = All-nil (λ (m : ℕ × ℤ). IsNode n m.0); once = λ id. omega arith };
  values = refl;
  count = refl;
  no_more = omega arith;
  records = refl;
}

-- one more node, which passes the tests
module _ (b : PotentialsBegun) (id : ℕ) (v : ℤ) (least : 1 ≤ id) (noted : Passes (context b (PotentialsNode id v)) (PotentialsNode id v)) where
  pub node : IsNode b.nodes id
  node = (least, grind (arith, nat_tests, noted.second_within))

  pub room : b.taken < b.declared
  room = grind (arith, nat_tests, noted.room)

  pub adds : (rs : List Record) → ArePotentialsBegunBy b rs → ArePotentialsBegunBy (record b { taken = b.taken + 1; values = insert b.values id v }) (rs ++ PotentialsNode id v ∷ [])
  adds rs h =
      let new : list_any (is_of id) h.named ≡ false = sym (has_named b id h) ∙ noted.new_node in
      record {
        named = h.named ++ (id, v) ∷ [];
        name_nodes = named_more h.named id v new b.nodes h.name_nodes node;
        values = ap (λ m. insert m id v) h.values ∙ sym (map_more h.named id v new);
        count = omega (arith, h.count, length-append h.named ((id, v) ∷ []));
        no_more = omega (arith, room);
        records = ap (λ rs. rs ++ PotentialsNode id v ∷ []) h.records ∙ ap (λ rs. PotentialsProblem b.nodes b.declared ∷ rs) (sym (map-append node_line h.named ((id, v) ∷ [])));
      }

-- a complete state gives its potentials
pub gives_potentials : (b : PotentialsBegun) → ArePotentials (potentials_begun b) → PassesEnd kinds.Potentials (plain_context b) → (rs : List LineRecord) → ArePotentialsBegunBy b (records_of rs)
    → GivesPotentials rs (potentials_begun b)
gives_potentials b law p rs h =
    let full : b.declared ≡ length h.named = grind (arith, nat_tests, p.finished, h.count, h.no_more) in
    record { named = h.named; name_nodes = h.name_nodes; values = ap without_zeros h.values ∙ without_zeros-named h.named b.nodes h.name_nodes; records = h.records ∙ ap (λ k. potentials_records b.nodes k h.named) full; are_potentials = law }

-- the lines of potentials have no fault
lines_allowed : (nodes : ℕ) (named : List (ℕ × ℤ)) → NameNodes nodes named → (before after : List Record) (r : Record) → potentials_records nodes (length named) named ≡ before ++ r ∷ after → IsAllowed before r
lines_allowed nodes named are [] after r e = let first : r ≡ PotentialsProblem nodes (length named) = cc in rw first (allows_problem nodes (length named))
lines_allowed nodes named are (b ∷ bs) after r e =
    let first : b ≡ PotentialsProblem nodes (length named) = cc in
    let at = image_at node_line named bs after r (cc) in
    let room : length at.front < length named = omega (arith, ap length at.xs_are, length-append at.front (at.x ∷ at.back)) in
    let node : IsNode nodes at.x.0 = All-at (λ (n : ℕ × ℤ). IsNode nodes n.0) named at.front at.back at.x at.xs_are are.within in
    let once : count_by (is_of at.x.0) (at.front ++ at.x ∷ at.back) ≤ 1 = subst (λ (xs : List (ℕ × ℤ)). count_by (is_of at.x.0) xs ≤ 1) at.xs_are (are.once at.x.0) in
    let new : list_any (is_of at.x.0) at.front ≡ false = once_before (is_of at.x.0) at.front at.back at.x (grind (arith, nat_tests)) once in
    allowed_at (b ∷ bs) (potentials_records nodes (length named) at.front) r (node_line at.x) (ap₂ (λ x xs. x ∷ xs) first at.before_is) at.y_is (one_more nodes (length named) at.front at.x.0 at.x.1 node.1 new room)

pub potentials_faultless : (rs : List LineRecord) (p : PotentialsValue) → GivesPotentials rs p → AreFaultless kinds.Potentials (records_of rs)
potentials_faultless rs p h =
    rw h.records (record { allowed = lines_allowed p.nodes h.named h.name_nodes; complete = all_lines p.nodes (length h.named) h.named (omega arith) })

-- records give only one set of potentials
value_of : Record → ℕ × ℤ
value_of (PotentialsNode id v) = (id, v)
value_of r = (0, pos 0)

potentials_in : List Record → PotentialsValue
potentials_in (PotentialsProblem nodes count ∷ rs) = record { nodes = nodes; values = from_entries (filter has_value (map value_of rs)) }
potentials_in rs = zero_potentials 0

potentials_in-records : (nodes count : ℕ) (named : List (ℕ × ℤ)) → potentials_in (potentials_records nodes count named) ≡ record { nodes = nodes; values = from_entries (filter has_value named) }
unfolding potentials_in value_of
potentials_in-records nodes count named = ap (λ (xs : List (ℕ × ℤ)). record { nodes = nodes; values = from_entries (filter has_value xs) }) (map-map value_of node_line named ∙ map-id named)

potentials_given : (rs : List LineRecord) (p : PotentialsValue) → GivesPotentials rs p → potentials_in (records_of rs) ≡ p
potentials_given rs p h =
    ap potentials_in h.records ∙ potentials_in-records p.nodes (length h.named) h.named ∙ ap (λ (m : FinMap nat_cmp ℤ). record { nodes = p.nodes; values = m }) (sym h.values)

pub one_potentials : (rs : List LineRecord) (p q : PotentialsValue) → GivesPotentials rs p → GivesPotentials rs q → p ≡ q
one_potentials rs p q a b = sym (potentials_given rs p a) ∙ potentials_given rs q b

-- the nodes with a potential other than 0
abbrev pub nonzero_at : PotentialsValue → ℕ → Bool
nonzero_at p id = is_nonzero (potential_of p id)

nonzero_node : (p : PotentialsValue) → ArePotentials p → (id : ℕ) → nonzero_at p id ≡ true → IsNode p.nodes id × IsWide (potential_of p id)
nonzero_node p law id e = by_case (get p.values id) refl e
  where
    by_case : (o : Option ℤ) → get p.values id ≡ o → is_nonzero (unwrap_or o (pos 0)) ≡ true → IsNode p.nodes id × IsWide (unwrap_or o (pos 0))
    by_case None is e = absurd (cc)
    by_case (Some v) is e = let has = law.within id v is in (has.0, has.2)

count_named : (p : PotentialsValue) (id : ℕ) (ids : List ℕ) → count_by (is_of id) (with_values p ids) ≡ count_by (is_id id) ids
count_named p id ids = count_map (is_of id) (λ n. (n, potential_of p n)) ids

nonzero_named : (p : PotentialsValue) → ArePotentials p → NameNodes p.nodes (with_values p (nonzero_ids p))
nonzero_named p law = record {
  within = All-map (λ (n : ℕ × ℤ). IsNode p.nodes n.0) (λ id. (id, potential_of p id)) (nonzero_ids p) (All-passing (λ id. IsNode p.nodes id) (nonzero_at p) (range_with_len 1 p.nodes) (λ id e. (nonzero_node p law id e).0));
  once = λ id. omega (arith, count_named p id (nonzero_ids p), passing_once (nonzero_at p) p.nodes id);
}

-- none of them has potential 0
all_have_values : (p : PotentialsValue) (ids : List ℕ) → filter has_value (with_values p (filter (nonzero_at p) ids)) ≡ with_values p (filter (nonzero_at p) ids)
all_have_values p [] = refl
all_have_values p (id ∷ ids) =
    let rest = all_have_values p ids in
    cond_both (nonzero_at p id) _ _ (λ xs. filter has_value (with_values p xs) ≡ with_values p xs)
    (λ e. cond-true (nonzero_at p id) _ _ e ∙ ap (λ xs. (id, potential_of p id) ∷ xs) rest) (λ _. rest)

found_listed : (p : PotentialsValue) (id : ℕ) (ids : List ℕ) → find nat_cmp id (with_values p ids) ≡ cond (list_any (is_id id) ids) (Some (potential_of p id)) None
found_listed p id [] = refl
found_listed p id (x ∷ ids) =
    ap (λ b. cond b (Some (potential_of p x)) (find nat_cmp id (with_values p ids))) (unsigned_tied id x ∙ same_test id x)
    ∙ cond_both (x == id) _ _ (λ found. found ≡ cond (list_any (is_id id) (x ∷ ids)) (Some (potential_of p id)) None)
    (λ same. rw same (ap (λ n. Some (potential_of p n)) (eqb-true x id same))) (λ apart. rw apart (found_listed p id ids))

kept_value : (p : PotentialsValue) → ArePotentials p → (id : ℕ) → get p.values id ≡ cond (nonzero_at p id) (Some (potential_of p id)) None
kept_value p law id = by_case (get p.values id) refl
  where
    by_case : (o : Option ℤ) → get p.values id ≡ o → o ≡ cond (is_nonzero (unwrap_or o (pos 0))) (Some (unwrap_or o (pos 0))) None
    by_case None is = refl
    by_case (Some v) is = ap (λ b. cond (not b) (Some v) None) (sym (not_zero v (law.within id v is).1))

values_named : (p : PotentialsValue) → ArePotentials p → p.values ≡ from_entries (filter has_value (with_values p (nonzero_ids p)))
values_named p law =
    same_map nat_cmp_total nat_cmp-IsAntisymmetric _ _ (λ id.
    kept_value p law id
    ∙ ap (λ b. cond b (Some (potential_of p id)) None) (sym (passing_listed (nonzero_at p) p.nodes id (λ e. (nonzero_node p law id e).0)))
    ∙ sym (found_listed p id (nonzero_ids p))
    ∙ sym (get-from_entries nat_cmp_total (with_values p (nonzero_ids p)) id))
    ∙ ap from_entries (sym (all_have_values p (range_with_len 1 p.nodes)))

pub few_nonzero : (p : PotentialsValue) → ArePotentials p → length (nonzero_ids p) ≤ most_nodes
few_nonzero p law = omega (arith, passing_few (nonzero_at p) p.nodes, law.nodes_few)

problem_fits : (nodes count : ℕ) → nodes ≤ most_nodes → count ≤ most_count → CanBeSpelled kinds.Potentials (PotentialsProblem nodes count)
problem_fits nodes count nodes_few few = record {
  form = form (codes "p") (Word (codes "pot") ∷ Nodes ∷ Count ∷ []);
  of_kind = (0, omega arith, refl);
  for_kind = refl;
  letter = refl;
  fit = (refl, ((omega (arith, ints), omega (arith, ints, nodes_few)), ((omega (arith, ints), omega (arith, ints, few)), tt)));
}

line_fits : (id : ℕ) (v : ℤ) → 1 ≤ id → id ≤ most_nodes → IsWide v → CanBeSpelled kinds.Potentials (PotentialsNode id v)
line_fits id v least most wide = record {
  form = form (codes "y") (Id ∷ Wide ∷ []);
  of_kind = (1, omega arith, refl);
  for_kind = refl;
  letter = refl;
  fit = ((omega (arith, ints, least), omega (arith, ints, most)), (wide, tt));
}

-- the canonical text of potentials spells them
pub potentials_round_trip : (p : PotentialsValue) → ArePotentials p → SpellsPotentials (canonical_potentials p) p
potentials_round_trip p law =
    let ids = nonzero_ids p in
    let all = potentials_records p.nodes (length ids) (with_values p ids) in
    let few = few_nonzero p law in
    let same_length : length (with_values p ids) ≡ length ids = length-map ids (λ id. (id, potential_of p id)) in
    let problem : CanBeSpelled kinds.Potentials (PotentialsProblem p.nodes (length ids)) = problem_fits p.nodes (length ids) law.nodes_few (omega (arith, few)) in
    let can = All-map (λ (n : ℕ × ℤ). IsNode p.nodes n.0 × IsWide n.1) (λ id. (id, potential_of p id)) ids (All-passing (λ id. IsNode p.nodes id × IsWide (potential_of p id)) (nonzero_at p) (range_with_len 1 p.nodes) (nonzero_node p law)) in
    let lines = All-map (CanBeSpelled kinds.Potentials) node_line (with_values p ids) (λ k d below. line_fits _ _ (can k d below).0.0 (omega (arith, (can k d below).0.1, law.nodes_few)) (can k d below).1) in
    let fit : All (CanBeSpelled kinds.Potentials) all = All-cons (CanBeSpelled kinds.Potentials) (PotentialsProblem p.nodes (length ids)) (map node_line (with_values p ids)) problem lines in
    record {
      by_line = map (λ (r : Record). Some r) all;
      spelled = canonical_spelled kinds.Potentials all fit (omega (arith, few, same_length, length-map (with_values p ids) node_line));
      given = record {
        named = with_values p ids;
        name_nodes = nonzero_named p law;
        values = values_named p law;
        records = numbered_all all ∙ ap (λ k. potentials_records p.nodes k (with_values p ids)) (sym same_length);
        are_potentials = law;
      };
    }

-- a line for each node with a potential other than 0
pub potential_lines : (p : PotentialsValue) (spells : ℕ → Option Record → Type 0) (n : ℕ)
    → ((i : ℕ) (rec : Option Record) → i < n → spells i rec → rec ≡ cond (nonzero_at p (i + 1)) (Some (PotentialsNode (i + 1) (potential_of p (i + 1)))) None)
    → AreLines spells n (λ i. map node_line (with_values p (passing (nonzero_at p) i)))
potential_lines p spells n each =
    let value : ℕ → ℕ × ℤ = λ id. (id, potential_of p id) in
    let h = lines_of_passing (nonzero_at p) (λ id. node_line (value id)) spells n each in
    record {
      none = refl;
      more = λ i rec within e.
          map-map node_line value (passing (nonzero_at p) (i + 1)) ∙ h.more i rec within e ∙ ap (λ rs. rs ++ records_of_line rec) (sym (map-map node_line value (passing (nonzero_at p) i)));
    }

-- nodes of potential 0
pub skips_nonzero : (p : PotentialsValue) (from end to : ℕ) → Skips (λ id. potential_of p id ≡ pos 0) from end to → Skips (λ id. nonzero_at p id ≡ false) from end to
skips_nonzero p from end to is = Skips-weaker _ _ from end to (λ id none. ap is_nonzero none) is

-- the number of nodes below this ID with a potential other than 0
pub count_below_in : (p : PotentialsValue) (id : ℕ) → 1 ≤ id → potential_of p id ≢ pos 0 → length (passing (nonzero_at p) (id - 1)) + 1 ≡ length (passing (nonzero_at p) (id + 1 - 1))
count_below_in p id least some =
    let one : filter (nonzero_at p) (id ∷ []) ≡ id ∷ [] = ap (λ b. cond (not b) (id ∷ []) []) (not_zero (potential_of p id) some) in
    omega (arith, ap length (passing_below (nonzero_at p) id least), length-append (passing (nonzero_at p) (id - 1)) (filter (nonzero_at p) (id ∷ [])), ap length one)

pub count_below_out : (p : PotentialsValue) (id : ℕ) → 1 ≤ id → potential_of p id ≡ pos 0 → length (passing (nonzero_at p) (id - 1)) ≡ length (passing (nonzero_at p) (id + 1 - 1))
count_below_out p id least none =
    let no_one : filter (nonzero_at p) (id ∷ []) ≡ [] = ap (λ v. cond (is_nonzero v) (id ∷ []) []) none in
    omega (arith, ap length (passing_below (nonzero_at p) id least), length-append (passing (nonzero_at p) (id - 1)) (filter (nonzero_at p) (id ∷ [])), ap length no_one)
