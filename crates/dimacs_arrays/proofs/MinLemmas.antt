-- The arrays of a minimum cost flow instance, supply by supply.
use Rattle.std.proofs.Common.{◌≡◌, ℕ, suc, ◌+◌, ◌<◌, ◌≤◌, ◌==◌, List, [], ◌∷◌, ◌++◌, length, take, get_or, false, refl, sym, ap, ◌∙◌, arith}
use Rattle.std.proofs.{lemmas.Bool.{ne_eqb}, lemmas.List.{length-take-le, take_all, take_more}}
use Rattle.std.proofs.lemmas.List.Elements.{All-weaker}
use Rattle.std.specs.{Prelude.{ℤ, pos}, List.{list_any, range_with_len, zip}, FinMap.{empty, from_entries, insert}}
use Rattle.dimacs_records.specs.NodeValues.{is_of, without_zeros}
use Rattle.dimacs_records.proofs.{NameLemmas.{map_more, without_zeros-empty}, ZeroLemmas.{without_zeros-insert}}
use Rattle.dimacs_network.specs.declared.network.ArcView.{ArcView}
use Rattle.dimacs_instance.specs.MinFlows.{MinValue, IsMin, HasBounds, with_supply}
use Rattle.dimacs_judging.specs.Tests.{AllClear}
use Rattle.dimacs_judging.proofs.Firsts.{AllOneWay}
use Rattle.dimacs_arrays.specs.declared.min.MinArrays.{MinArrays}
use Rattle.dimacs_arrays.specs.MinArrays.{min_arc, min_limits, min_spelled, supplies_by_node}
use Rattle.dimacs_arrays.proofs.LentLemmas.{lent_many}
use Rattle.dimacs_arrays.proofs.LimitLemmas.{HasLawfulBounds, all_limits_clear, limits_one_way}

-- ---- supplies
abbrev by_node : List ℤ → List (ℕ × ℤ)
by_node xs = zip (range_with_len 1 (length xs)) xs

none_past : (xs : List ℤ) (first id : ℕ) → first + length xs ≤ id → list_any (is_of id) (zip (range_with_len first (length xs)) xs) ≡ false
none_past [] first id past = refl
none_past (x ∷ xs) first id past =
    let apart : (first == id) ≡ false = ne_eqb first id (λ same. omega (arith, same, past)) in
    rw apart (none_past xs (first + 1) id (omega (arith, past)))

by_node_more : (xs : List ℤ) (x : ℤ) → by_node (xs ++ x ∷ []) ≡ by_node xs ++ (length xs + 1, x) ∷ []
by_node_more xs x = from_first xs 1
  where
    from_first : (ys : List ℤ) (first : ℕ) → zip (range_with_len first (length (ys ++ x ∷ []))) (ys ++ x ∷ []) ≡ zip (range_with_len first (length ys)) ys ++ (length ys + first, x) ∷ []
    from_first [] first = let e : first ≡ 0 + first = omega arith in ap (λ n. (n, x) ∷ []) e
    from_first (y ∷ ys) first =
        let same : length ys + (first + 1) ≡ suc (length ys) + first = omega arith in
        ap (λ rest. (first, y) ∷ rest) (from_first ys (first + 1) ∙ ap (λ n. zip (range_with_len (first + 1) (length ys)) ys ++ (n, x) ∷ []) same)

-- one more supply
pub supplies_more : (xs : List ℤ) (x : ℤ) (nodes : ℕ) (arcs : List ArcView) → with_supply (record { nodes = nodes; supplies = supplies_by_node xs; arcs = arcs }) (length xs + 1) x
    ≡ record { nodes = nodes; supplies = supplies_by_node (xs ++ x ∷ []); arcs = arcs }
supplies_more xs x nodes arcs =
    let named : from_entries (by_node (xs ++ x ∷ [])) ≡ insert (from_entries (by_node xs)) (length xs + 1) x =
    ap from_entries (by_node_more xs x) ∙ map_more (by_node xs) (length xs + 1) x (none_past xs 1 (length xs + 1) (omega arith)) in
    ap (λ m. record { nodes = nodes; supplies = m; arcs = arcs }) (sym (ap without_zeros named ∙ without_zeros-insert (from_entries (by_node xs)) (length xs + 1) x))

-- the instance with the first supplies, still without arcs
abbrev pub supplied_by : List ℤ → ℕ → ℕ → MinValue
supplied_by xs nodes n = record { nodes = nodes; supplies = supplies_by_node (take n xs); arcs = [] }

pub no_supplies : (xs : List ℤ) (nodes : ℕ) (new : MinValue) → new ≡ record { nodes = nodes; supplies = empty; arcs = [] } → new ≡ supplied_by xs nodes 0
no_supplies xs nodes new is = is ∙ ap (λ m. record { nodes = nodes; supplies = m; arcs = [] }) (sym without_zeros-empty)

pub supply_set : (xs : List ℤ) (nodes i : ℕ) (old new : MinValue) (x : ℤ) → i < length xs → x ≡ get_or xs i (pos 0) → old ≡ supplied_by xs nodes i → new ≡ with_supply old (i + 1) x → new ≡ supplied_by xs nodes (i + 1)
supply_set xs nodes i old new x inside x_is old_is new_is =
    let long : length (take i xs) ≡ i = length-take-le i xs (omega (arith, inside)) in
    let taken : take (i + 1) xs ≡ take i xs ++ x ∷ [] = take_more xs i (pos 0) inside ∙ ap (λ y. take i xs ++ y ∷ []) (sym x_is) in
    new_is ∙ ap (λ (m : MinValue). with_supply m (i + 1) x) old_is ∙ ap (λ n. with_supply (supplied_by xs nodes i) (n + 1) x) (sym long)
    ∙ supplies_more (take i xs) x nodes [] ∙ ap (λ (ys : List ℤ). record { nodes = nodes; supplies = supplies_by_node ys; arcs = [] }) (sym taken)

pub all_supplies : (xs : List ℤ) (nodes n : ℕ) (new : MinValue) → length xs ≤ n → new ≡ supplied_by xs nodes n → new ≡ record { nodes = nodes; supplies = supplies_by_node xs; arcs = [] }
all_supplies xs nodes n new all is = is ∙ ap (λ (ys : List ℤ). record { nodes = nodes; supplies = supplies_by_node ys; arcs = [] }) (take_all n xs all)

-- ---- arcs
module _ (a : MinArrays) where
  abbrev count : ℕ
  count = length a.tails.now

  pub min_one_way : AllOneWay (min_limits a)
  min_one_way = limits_one_way a.nodes count [] (min_spelled a).arcs tt

  pub min_clear : IsMin (min_spelled a) → AllClear (min_limits a)
  min_clear law =
      all_limits_clear a.nodes count [] (min_spelled a).arcs law.nodes_few (omega (arith, law.arcs_few, lent_many (min_arc a) count)) tt law.joined
      (All-weaker HasBounds HasLawfulBounds (λ b bounds. (bounds.0, bounds.1)) (min_spelled a).arcs law.bounds)
