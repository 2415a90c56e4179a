-- Supplies by node: lines and sums.
use Rattle.std.proofs.Common.{◌≡◌, ℕ, zero, suc, ◌≤◌, ◌∷◌, ◌++◌, [], List, Option, Some, None, map, ◌+◌, ◌*◌, ◌^◌, cond, refl, ap, ap₂, sym, ◌∙◌, add-one, arith, ◌<◌}
use Rattle.std.proofs.{lemmas.Bool.{cond_both}, lemmas.Int.{ints}, lemmas.List.{append-nil, map-append}}
use Rattle.std.proofs.lemmas.List.Sums.{sum_by-append, sum_by-cons}
use Rattle.std.specs.{Prelude.{ℤ, pos, negsuc, ◌≤ℤ◌, ◌<ℤ◌, ◌+ℤ◌, sum_by, unwrap_or}, List.{filter}}
use Rattle.std.specs.FinMap.{get, entries, values}
use Rattle.dimacs_lines.specs.Limits.{most_nodes}
use Rattle.dimacs_network.specs.Skips.{Skips}
use Rattle.dimacs_network.proofs.SkipLemmas.{skipped}
use Rattle.dimacs_network.proofs.Entries.{entry_of, entries_below, entries_below-none, entries_below-next, entries_are, All-get}
use Rattle.dimacs_records.specs.{declared.records.Record.TheVariants.{MinNode}, Canonical.{AreLines, records_of_line}}
use Rattle.dimacs_records.specs.{Ranges.{IsWhole}, NodeValues.{has_value, is_nonzero}, declared.records.Record.{Record}}
use Rattle.dimacs_instance.specs.MinFlows.{MinValue, IsMin, IsSupply, supply_of, positive_part, negative_part}
use Rattle.dimacs_instance.specs.MinTexts.{min_node}
use Rattle.dimacs_instance.proofs.MinTextLemmas.{no_supply, no_supply_past, supplied_test}

-- the supplies of the nodes below n
abbrev pub supplies_below : MinValue → ℕ → List (ℕ × ℤ)
supplies_below m n = entries_below (get m.supplies) n

module _ (m : MinValue) (law : IsMin m) where
  entry_is : (id : ℕ) (o : Option ℤ) → get m.supplies id ≡ o → entry_of id o ≡ filter has_value ((id, unwrap_or o (pos 0)) ∷ [])
  entry_is id None e = refl
  entry_is id (Some v) e = sym (ap (λ b. cond b ((id, v) ∷ []) []) (supplied_test (id, v) (All-get (IsSupply m.nodes) m.supplies id v law.supplied e).1))

  pub first_supplies : supplies_below m 1 ≡ []
  first_supplies = entries_below-next (get m.supplies) 0 ∙ ap (λ es. es ++ entry_of 0 (get m.supplies 0)) (entries_below-none (get m.supplies)) ∙ ap (entry_of 0) (no_supply m law 0 (λ node. omega (arith, node.0)))

  pub next_supplies : (id : ℕ) → supplies_below m (id + 1) ≡ supplies_below m id ++ filter has_value ((id, supply_of m id) ∷ [])
  next_supplies id = entries_below-next (get m.supplies) id ∙ ap (λ es. supplies_below m id ++ es) (entry_is id (get m.supplies id) refl)

  pub skipped_supplies : (from end to : ℕ) → Skips (λ id. supply_of m id ≡ pos 0) from end to → supplies_below m to ≡ supplies_below m from
  skipped_supplies from end to is =
      skipped _ (λ n. supplies_below m n ≡ supplies_below m from) from end to is
      (λ id least below none h. next_supplies id ∙ ap (λ s. supplies_below m id ++ filter has_value ((id, s) ∷ [])) none ∙ append-nil (supplies_below m id) ∙ h) refl

  pub all_supplies : supplies_below m (m.nodes + 1) ≡ entries m.supplies
  all_supplies = sym (entries_are m.supplies (m.nodes + 1) (no_supply_past m law))

  whole_value : (id : ℕ) (o : Option ℤ) → get m.supplies id ≡ o → IsWhole (unwrap_or o (pos 0))
  whole_value id None e = (omega (arith, ints), omega (arith, ints))
  whole_value id (Some v) e = (All-get (IsSupply m.nodes) m.supplies id v law.supplied e).2

  pub whole_supply : (id : ℕ) → IsWhole (supply_of m id)
  whole_supply id = whole_value id (get m.supplies id) refl

-- the sum of one part of each of these supplies
abbrev pub sum_below : (ℤ → ℕ) → MinValue → ℕ → ℕ
sum_below part m n = sum_by part (map (λ (s : ℕ × ℤ). s.1) (supplies_below m n))

module _ (part : ℤ → ℕ) (nothing : part (pos 0) ≡ 0) (m : MinValue) where
  sum-entry_of : (id : ℕ) (o : Option ℤ) → sum_by part (map (λ (s : ℕ × ℤ). s.1) (entry_of id o)) ≡ part (unwrap_or o (pos 0))
  sum-entry_of id None = sym nothing
  sum-entry_of id (Some v) = sum_by-cons part v [] ∙ omega arith

  pub sum_next : (id : ℕ) → sum_below part m (id + 1) ≡ sum_below part m id + part (supply_of m id)
  sum_next id =
      ap (λ es. sum_by part (map (λ (s : ℕ × ℤ). s.1) es)) (entries_below-next (get m.supplies) id)
      ∙ ap (sum_by part) (map-append (λ (s : ℕ × ℤ). s.1) (supplies_below m id) (entry_of id (get m.supplies id)))
      ∙ sum_by-append part (map (λ (s : ℕ × ℤ). s.1) (supplies_below m id)) (map (λ (s : ℕ × ℤ). s.1) (entry_of id (get m.supplies id)))
      ∙ ap (λ n. sum_below part m id + n) (sum-entry_of id (get m.supplies id))

  sum_none : sum_below part m 0 ≡ 0
  sum_none = ap (λ es. sum_by part (map (λ (s : ℕ × ℤ). s.1) es)) (entries_below-none (get m.supplies))

  pub sum_bound : (few : (id : ℕ) → part (supply_of m id) ≤ 2 ^ 63) (n : ℕ) → sum_below part m n ≤ n * 2 ^ 63
  sum_bound few zero = omega (arith, sum_none)
  sum_bound few (suc n) =
      let next : sum_below part m (suc n) ≡ sum_below part m n + part (supply_of m n) = ap (sum_below part m) (sym (add-one n)) ∙ sum_next n in
      omega (arith, next, sum_bound few n, few n)

  pub sum_skip : (from end to : ℕ) → Skips (λ id. supply_of m id ≡ pos 0) from end to → sum_below part m to ≡ sum_below part m from
  sum_skip from end to is = skipped _ (λ n. sum_below part m n ≡ sum_below part m from) from end to is (λ id least below none h. omega (arith, sum_next id, ap part none, nothing, h)) refl

  --   one more supply was added
  pub sum_more : (id : ℕ) (old new s : ℤ) → old ≡ pos (sum_below part m id) → s ≡ supply_of m id → new ≡ old +ℤ pos (part s) → new ≡ pos (sum_below part m (id + 1))
  sum_more id old new s old_is s_is new_is = new_is ∙ ap₂ (λ x y. x +ℤ pos (part y)) old_is s_is ∙ ap pos (sym (sum_next id))

  pub sum_first : IsMin m → sum_below part m 1 ≡ 0
  sum_first law = ap (λ es. sum_by part (map (λ (s : ℕ × ℤ). s.1) es)) (first_supplies m law)

  pub sum_all : IsMin m → sum_below part m (m.nodes + 1) ≡ sum_by part (values m.supplies)
  sum_all law = ap (λ es. sum_by part (map (λ (s : ℕ × ℤ). s.1) es)) (all_supplies m law)

  pub sum_fits : ((id : ℕ) → part (supply_of m id) ≤ 2 ^ 63) → (n : ℕ) → n ≤ most_nodes → (pos 0 ≤ℤ pos (sum_below part m n)) × (pos (sum_below part m n) <ℤ pos (2 ^ 100))
  sum_fits few n h = (omega (arith, ints), omega (arith, ints, sum_bound few n, h))

pub positive_few : (s : ℤ) → IsWhole s → positive_part s ≤ 2 ^ 63
positive_few (pos n) h = omega (arith, ints, h.1)
positive_few (negsuc n) h = omega arith

pub negative_few : (s : ℤ) → IsWhole s → negative_part s ≤ 2 ^ 63
negative_few (pos n) h = omega arith
negative_few (negsuc n) h = omega (arith, ints, h.0)

-- a line for each node whose supply isn't 0
pub supply_lines : (m : MinValue) → IsMin m → (spells : ℕ → Option Record → Type 0) (n : ℕ)
    → ((i : ℕ) (rec : Option Record) → i < n → spells i rec → rec ≡ cond (is_nonzero (supply_of m (i + 1))) (Some (MinNode (i + 1) (supply_of m (i + 1)))) None)
    → AreLines spells n (λ i. map min_node (supplies_below m (i + 1)))
supply_lines m law spells n each = record {
  none = ap (map min_node) (first_supplies m law);
  more = λ i rec within e.
      ap (map min_node) (next_supplies m law (i + 1)) ∙ map-append min_node (supplies_below m (i + 1)) (filter has_value ((i + 1, supply_of m (i + 1)) ∷ []))
      ∙ ap (λ rs. map min_node (supplies_below m (i + 1)) ++ rs)
      (cond_both (is_nonzero (supply_of m (i + 1))) _ _ (λ s. map min_node s ≡ records_of_line rec) (λ t. rw (each i rec within e, t) refl) (λ t. rw (each i rec within e, t) refl));
}
