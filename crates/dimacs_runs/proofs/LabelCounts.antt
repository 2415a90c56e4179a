-- The labels of certified distances have as few lines as the distances, so that they fit a text.
use Rattle.std.proofs.Common.{◌≡◌, ◌≢◌, inl, inr, eqb, ℕ, suc, ◌<◌, ◌≤◌, ◌∷◌, [], List, Bool, true, false, Option, Some, None, length, take, drop, map, get_or, refl, ap, ap₂, sym, ◌∙◌, subst, arith}
use Rattle.std.proofs.{Math.Seq.{split_at}, lemmas.Bool.{cases_Bool, eqb-true, ne_eqb}, lemmas.Cmp.{nat_eq_equiv}}
use Rattle.std.proofs.lemmas.List.{get_or-map, get_or_default, length-append, length-map}
use Rattle.std.proofs.{lemmas.Map.Keys.{IsDistinct-from_apart}, lemmas.Map.Made.{is_some-lookup}}
use Rattle.std.proofs.lemmas.Map.Steps.{length-le_from_keys}
use Rattle.std.specs.{Prelude.{is_some, ◌==◌, ◌||◌}, List.{IsDistinct, flat_map, list_any}, Map.{keys_of, lookup}}
use Rattle.std.specs.Option.{IsSome}
use Rattle.dimacs_lines.specs.{Limits.{IsNode}, Lines.{lines}}
use Rattle.dimacs_network.specs.Arcs.{NetworkValue}
use Rattle.dimacs_records.specs.declared.kinds.TextKind.TheVariants.{Distances}
use Rattle.dimacs_claims.specs.{declared.label_list.Label.{Label}, inside.ById.{id_at}}
use Rattle.dimacs_claims.specs.DistanceTexts.{GivesDistances, SpellsDistances, bare}
use Rattle.dimacs_claims.specs.Labels.{AreLabels, BlockValue, IsBlock, LabelsValue, label, label_in, no_label}
use Rattle.dimacs_claims.specs.LabelTexts.{FitText, block_lines, label_line, label_records}
use Rattle.dimacs_claims.proofs.{BlockLemmas.{is_some-label, label_id}, ByIdLemmas.{fresh_apart}}
use Rattle.dimacs_claims.proofs.LabelLaws.{fit_spelled}
use Rattle.dimacs_judging.specs.{inside.Labels.{block_at}, QueryTests.{HasBlock}}
use Rattle.dimacs_judging.proofs.BlockNumbers.{block_found}
use Rattle.dimacs_decide.specs.CertifiedPaths.{AreLabelsOfAll, block_source}
use Rattle.dimacs_decide.proofs.CertifiedPathsLemmas.{same_place}

-- ---- one block
abbrev ids : List Label → List ℕ
ids labels = map label_id labels

abbrev keyed : Label → ℕ × Label
keyed l = (l.id, l)

keys_are : (labels : List Label) → keys_of (map keyed labels) ≡ ids labels
keys_are [] = refl
keys_are (l ∷ labels) = ap (λ rest. l.id ∷ rest) (keys_are labels)

flipped : (q : ℕ) (ns : List ℕ) → list_any (λ n. n == q) ns ≡ list_any (eqb q) ns
flipped q [] = refl
flipped q (n ∷ ns) = ap₂ (λ (a b : Bool). a || b) (nat_eq_equiv.symm n q) (flipped q ns)

found : (q : ℕ) (labels : List Label) → list_any (eqb q) (ids labels) ≡ true → (k : ℕ) × (k < length labels) × (q ≡ id_at labels k)
found q [] h = absurd cc
found q (l ∷ labels) h = elim (cases_Bool (eqb q l.id)) [
  | inl here ↦ (0, omega arith, eqb-true q l.id here)
  | inr other ↦
      let rest : list_any (eqb q) (ids labels) ≡ true = sym (ap (λ (b : Bool). b || list_any (eqb q) (ids labels)) other) ∙ h in
      let (k, inside, is) = found q labels rest in
      (suc k, omega (arith, inside), is)
]

some_is : {X : Type 0} (x : Option X) → is_some x ≡ true → IsSome x
some_is None h = absurd cc
some_is (Some x) h = refl

module _ (nodes : ℕ) (made claimed : BlockValue) (is : IsBlock nodes made) (from : made.source ≡ claimed.source) (same : (v : ℕ) → IsNode nodes v → label made v ≡ label claimed v) where
  distinct : IsDistinct eqb (ids made.labels)
  distinct = IsDistinct-from_apart eqb (ids made.labels) (λ i j d less inside.
      let there : j < length made.labels = omega (arith, inside, length-map made.labels label_id) in
      let here : i < length made.labels = omega (arith, less, there) in
      rw (get_or-map label_id made.labels i no_label d here, get_or-map label_id made.labels j no_label d there) (ne_eqb _ _ (λ e.
      let one : i ≡ j = fresh_apart made.source made.labels is.fresh i j here there e in omega (arith, one, less))))

  --     the node of a label has a label in the claim
  labelled : (q : ℕ) → list_any (eqb q) (ids made.labels) ≡ true → list_any (eqb q) (ids claimed.labels) ≡ true
  labelled q h =
      let (k, inside, at) = found q made.labels h in
      let node : IsNode nodes q = subst (IsNode nodes) (sym at) (is.within k no_label inside).id in
      let apart : made.source ≢ q = λ e. (is.fresh (take k made.labels) (drop (suc k) made.labels) (get_or made.labels k no_label) (split_at made.labels k no_label inside)).0 (sym at ∙ sym e) in
      let off : (made.source == q) ≡ false = ne_eqb made.source q apart in
      let given : is_some (label made q) ≡ true = is_some-label made q ∙ (ap (λ (b : Bool). b || list_any (λ n. n == q) (ids made.labels)) off ∙ (flipped q (ids made.labels) ∙ h)) in
      let claims : list_any (λ other. other == q) (claimed.source ∷ ids claimed.labels) ≡ true = sym (is_some-label claimed q) ∙ (ap is_some (sym (same q node)) ∙ given) in
      sym (flipped q (ids claimed.labels)) ∙ (sym (ap (λ (b : Bool). b || list_any (λ n. n == q) (ids claimed.labels)) (ap (λ s. s == q) (sym from) ∙ off)) ∙ claims)

  fewer_labels : length made.labels ≤ length claimed.labels
  fewer_labels =
      let keys : length (ids made.labels) ≤ length (map keyed claimed.labels) = length-le_from_keys nat_eq_equiv (ids made.labels) (map keyed claimed.labels) distinct (λ q h.
      some_is (lookup (eqb q) (map keyed claimed.labels)) (is_some-lookup (eqb q) (map keyed claimed.labels) ∙ (ap (list_any (eqb q)) (keys_are claimed.labels) ∙ labelled q h))) in
      omega (arith, keys, length-map made.labels label_id, length-map claimed.labels keyed)

-- ---- all blocks
fewer_lines : (made claimed : List BlockValue) → length made ≡ length claimed → ((k : ℕ) → k < length made → length (block_at made k).labels ≤ length (block_at claimed k).labels)
    → length (flat_map block_lines made) ≤ length (flat_map block_lines claimed)
fewer_lines [] [] same fewer = omega arith
fewer_lines [] (c ∷ claimed) same fewer = omega arith
fewer_lines (m ∷ made) [] same fewer = absurd (omega (arith, same))
fewer_lines (m ∷ made) (c ∷ claimed) same fewer =
    let first = fewer 0 (omega arith) in
    let rest = fewer_lines made claimed (omega (arith, same)) (λ k inside. fewer (suc k) (omega (arith, inside))) in
    omega (arith, first, rest, length-append (block_lines m) (flat_map block_lines made), length-append (block_lines c) (flat_map block_lines claimed), length-map m.labels label_line, length-map c.labels label_line)

module _ (g : NetworkValue) (d labels : LabelsValue) (are_distances : AreLabels d) (are : AreLabels labels) (nodes : d.nodes ≡ g.nodes) (of : AreLabelsOfAll g d.blocks labels) where
  long : length labels.blocks ≡ length d.blocks
  long = omega (arith, ap length of.sources, length-map labels.blocks block_source, length-map d.blocks block_source)

  fewer_at : (k : ℕ) → k < length labels.blocks → length (block_at labels.blocks k).labels ≤ length (block_at d.blocks k).labels
  fewer_at k inside =
      let made = block_at labels.blocks k in
      let claimed = block_at d.blocks k in
      let there : k < length d.blocks = omega (arith, inside, long) in
      let from : made.source ≡ claimed.source = sym (get_or-map block_source labels.blocks k _ 0 inside) ∙ (ap (λ ns. get_or ns k 0) of.sources ∙ get_or-map block_source d.blocks k _ 0 there) in
      let has : HasBlock labels.blocks claimed.source = (k, made, inside, get_or_default labels.blocks k _ _ inside, from) in
      let (i, b, within, at, is, source) = block_found labels.blocks claimed.source has in
      let here : block_at labels.blocks i ≡ b = get_or_default labels.blocks i _ b within ∙ at in
      let one : i ≡ k = same_place labels.blocks are.sources i k within inside (ap block_source here ∙ (source ∙ sym from)) in
      let own : b ≡ made = sym here ∙ ap (block_at labels.blocks) one in
      fewer_labels labels.nodes made claimed (are.blocks k _ inside) from (λ v node.
      ap (λ o. label_in o v) (ap (λ (x : BlockValue). Some x) (sym own) ∙ sym is) ∙ of.agrees k _ there v (subst (λ n. IsNode n v) of.passes.nodes node))

  -- labels of distances that fit a text fit one too
  pub labels_fit : FitText d → FitText labels
  labels_fit fits = omega (arith, fits, fewer_lines labels.blocks d.blocks long fewer_at)

-- distances that are spelled fit a text
pub distances_fit : (text : List ℕ) (d : LabelsValue) → SpellsDistances text d → FitText d
distances_fit text d spells = fit_spelled Distances GivesDistances (λ rs other given. ap length given.0 ∙ length-map (label_records other) bare) (lines text) d spells
