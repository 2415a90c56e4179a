-- One more label in a block.
use Rattle.std.proofs.Common.{◌≡◌, ℕ, zero, suc, ◌<◌, ◌∷◌, ◌++◌, [], List, Bool, true, false, cond, Option, Some, None, length, slice_index_or, refl, ap, sym, ◌∙◌, subst, arith, inl, inr, ◌⊎◌}
use Rattle.std.proofs.{lemmas.Bool.{cond_both, eqb-true, eq-eqb, false_from_ne_true}, lemmas.List.{length-append}}
use Rattle.std.proofs.{lemmas.Int.{ints}, lemmas.List.Elements.{All-head, All-nil, All-push, All-tail}}
use Rattle.std.specs.Prelude.{ℤ, pos, int_lt, IfSome, is_some, if◌then◌else◌, ◌==◌, ◌||◌, map}
use Rattle.std.specs.List.{All, Contains, list_any}
use Rattle.dimacs_lines.specs.Limits.{most_count, IsNode}
use Rattle.dimacs_records.specs.{Blocks.{is_past}, Earlier.{or_else}, Ranges.{IsRadius, IsWide}}
use Rattle.dimacs_records.proofs.SplitLemmas.{two_places, same, sooner, later}
use Rattle.dimacs_claims.specs.declared.label_list.Label.{Label}
use Rattle.dimacs_claims.specs.Labels.{BlockValue, label, label_at, distance_in, with_label, EachAfter, IsFresh, HasPred, IsLabel, IsBlock, IsWithinRadius, IsNewSource, AreLabels}

-- a test before a choice
test_first : (b : Bool) (d : ℤ) (rest other : Option ℤ) → (if b then Some d else or_else rest other) ≡ or_else (if b then Some d else rest) other
test_first true d rest other = refl
test_first false d rest other = refl

abbrev one_label : Label → ℕ → Option ℤ
one_label l v = if l.id == v then Some l.dist else None

distance_in-push : (ls : List Label) (l : Label) (v : ℕ) → distance_in (ls ++ l ∷ []) v ≡ or_else (distance_in ls v) (one_label l v)
distance_in-push [] l v = refl
distance_in-push (m ∷ ls) l v = ap (λ rest. if m.id == v then Some m.dist else rest) (distance_in-push ls l v) ∙ test_first (m.id == v) m.dist (distance_in ls v) (one_label l v)

label-push : (b : BlockValue) (l : Label) (v : ℕ) → label (with_label b l) v ≡ or_else (label b v) (one_label l v)
label-push b l v = ap (λ rest. if b.source == v then Some (pos 0) else rest) (distance_in-push b.labels l v) ∙ test_first (b.source == v) (pos 0) (distance_in b.labels v) (one_label l v)

or_else-none : (x : Option ℤ) → or_else x None ≡ x
or_else-none None = refl
or_else-none (Some d) = refl

-- the new label's node had no distance before
one_more_at : (c : Bool) (d : ℤ) (x : Option ℤ) → (c ≡ true → x ≡ None) → cond c (Some d) x ≡ or_else x (if c then Some d else None)
one_more_at true d x h = sym (ap (λ y. or_else y (Some d)) (h refl))
one_more_at false d x h = sym (or_else-none x)

-- the claimed distances with one more label
pub label-with_label : (b : BlockValue) (l : Label) → label b l.id ≡ None → (v : ℕ) → label (with_label b l) v ≡ (if l.id == v then Some l.dist else label b v)
label-with_label b l fresh v = label-push b l v ∙ sym (one_more_at (l.id == v) l.dist (label b v) (λ e. subst (λ w. label b w ≡ None) (eqb-true l.id v e) fresh))

-- the properties of earlier items stay, and the last item comes after all others
pub each_after_nil : {X : Type 0} (P : List X → X → Type 0) → EachAfter P []
each_after_nil P before after x e = absurd (omega (arith, ap length e, length-append before (x ∷ after)))

pub each_after_push : {X : Type 0} (P : List X → X → Type 0) (xs : List X) (x : X) → EachAfter P xs → P xs x → EachAfter P (xs ++ x ∷ [])
each_after_push P xs x each last before after y e = elim (two_places xs before [] after x y e) [
  | same before_is y_is ↦ subst (λ ys. P ys y) before_is (subst (P xs) y_is last)
  | sooner rest longer ↦ absurd (omega (arith, ap length e, length-append xs (x ∷ []), length-append before (y ∷ after), ap length longer, length-append xs (x ∷ rest)))
  | later rest longer ↦ each before rest y longer
]

pub some_if : (c : Bool) (d : ℤ) (x : Option ℤ) → is_some (if c then Some d else x) ≡ (c || is_some x)
some_if true d x = refl
some_if false d x = refl

abbrev pub label_id : Label → ℕ
label_id l = l.id

is_some-distance_in : (ls : List Label) (v : ℕ) → is_some (distance_in ls v) ≡ list_any (λ other. other == v) (map label_id ls)
is_some-distance_in [] v = refl
is_some-distance_in (l ∷ ls) v = some_if (l.id == v) l.dist (distance_in ls v) ∙ ap (λ t. (l.id == v) || t) (is_some-distance_in ls v)

-- a node has a distance if it had one or is the node of the last label
some_either : (x : Option ℤ) (c : Bool) (d : ℤ) → is_some (or_else x (if c then Some d else None)) ≡ (is_some x || c)
some_either None true d = refl
some_either None false d = refl
some_either (Some e) true d = refl
some_either (Some e) false d = refl

pub is_some-push : (ls : List Label) (l : Label) (v : ℕ) → is_some (distance_in (ls ++ l ∷ []) v) ≡ (is_some (distance_in ls v) || (l.id == v))
is_some-push ls l v = ap is_some (distance_in-push ls l v) ∙ some_either (distance_in ls v) (l.id == v) l.dist

-- a node has a label if it is the source or the node of a label
pub is_some-label : (b : BlockValue) (v : ℕ) → is_some (label b v) ≡ list_any (λ other. other == v) (b.source ∷ map label_id b.labels)
is_some-label b v = some_if (b.source == v) (pos 0) (distance_in b.labels v) ∙ ap (λ t. (b.source == v) || t) (is_some-distance_in b.labels v)

abbrev LabelOf : List Label → ℕ → Type 0
LabelOf ls v = (m : Label) × Contains ls m × (m.id ≡ v)

further : (m : Label) (ls : List Label) (v : ℕ) → LabelOf ls v → LabelOf (m ∷ ls) v
further m ls v h = (h.0, (suc h.1.0, (omega (arith, h.1.1)), h.1.2), h.2)

label_found : (ls : List Label) (v : ℕ) → is_some (distance_in ls v) ≡ true → LabelOf ls v
label_found [] v h = absurd (cc)
label_found (m ∷ ls) v h =
    cond_both (m.id == v) (Some m.dist) (distance_in ls v) (λ d. is_some d ≡ true → LabelOf (m ∷ ls) v)
    (λ e t. (m, (0, omega arith, refl), eqb-true m.id v e)) (λ e t. further m ls v (label_found ls v t)) h

or_true : (c b : Bool) → (c ≡ true) ⊎ (b ≡ true) → (c || b) ≡ true
or_true true b h = refl
or_true false b (inl e) = absurd (cc)
or_true false b (inr e) = e

label_there : (ls : List Label) (v k : ℕ) (m : Label) → k < length ls → slice_index_or ls k m ≡ m → m.id ≡ v → is_some (distance_in ls v) ≡ true
label_there [] v k m below e is = absurd (omega (arith, below))
label_there (l ∷ ls) v zero m below e is =
    some_if (l.id == v) l.dist (distance_in ls v) ∙ or_true (l.id == v) _ (inl (eq-eqb l.id v (ap label_id e ∙ is)))
label_there (l ∷ ls) v (suc k) m below e is =
    some_if (l.id == v) l.dist (distance_in ls v) ∙ or_true (l.id == v) _ (inr (label_there ls v k m (omega (arith, below)) e is))

-- a predecessor with a label
pub has_pred : (b : BlockValue) (l : Label) → is_some (label b l.pred) ≡ true → HasPred b.source b.labels l
has_pred b l h =
    cond_both (b.source == l.pred) (Some (pos 0)) (distance_in b.labels l.pred) (λ d. is_some d ≡ true → HasPred b.source b.labels l)
    (λ e t. inl (sym (eqb-true b.source l.pred e))) (λ e t. inr (label_found b.labels l.pred t)) h

pub pred_has_label : (b : BlockValue) (l : Label) → HasPred b.source b.labels l → is_some (label b l.pred) ≡ true
pred_has_label b l (inl e) = some_if (b.source == l.pred) (pos 0) (distance_in b.labels l.pred) ∙ or_true (b.source == l.pred) _ (inl (eq-eqb _ _ (sym e)))
pred_has_label b l (inr h) = some_if (b.source == l.pred) (pos 0) (distance_in b.labels l.pred) ∙ or_true (b.source == l.pred) _ (inr (label_there b.labels l.pred h.1.0 h.0 h.1.1 h.1.2 h.2))

-- a node without a label
pub is_fresh : (b : BlockValue) (l : Label) → is_some (label b l.id) ≡ false → IsFresh b.source b.labels l
is_fresh b l h = (
  λ e. absurd (not_both (or_true (b.source == l.id) _ (inl (eq-eqb _ _ (sym e))))),
  λ m among e. absurd (not_both (or_true (b.source == l.id) _ (inr (label_there b.labels l.id among.0 m among.1 among.2 e)))),
)
  where
    not_both : ((b.source == l.id) || is_some (distance_in b.labels l.id)) ≡ true → ⊥
    not_both t = let s = some_if (b.source == l.id) (pos 0) (distance_in b.labels l.id) in absurd (cc)

pub fresh_has_none : (b : BlockValue) (l : Label) → IsFresh b.source b.labels l → is_some (label b l.id) ≡ false
fresh_has_none b l h =
    false_from_ne_true _ (cond_both (b.source == l.id) (Some (pos 0)) (distance_in b.labels l.id) (λ d. is_some d ≡ true → ⊥)
    (λ e t. h.0 (sym (eqb-true b.source l.id e))) (λ e t. let m = label_found b.labels l.id t in h.1 m.0 m.1 m.2))

-- a block with one more label
pub block_push : (nodes : ℕ) (b : BlockValue) (l : Label) → IsBlock nodes b → IsLabel nodes l → length b.labels < most_count → is_some (label b l.id) ≡ false → is_some (label b l.pred) ≡ true → IsWithinRadius b.radius l.dist → IsBlock nodes (with_label b l)
block_push nodes b l is label_is room fresh pred near = record {
  source_within = is.source_within;
  radius_within = is.radius_within;
  few = omega (arith, room, length-append b.labels (l ∷ []));
  within = All-push (IsLabel nodes) b.labels l is.within label_is;
  within_radius = All-push (λ (m : Label). IsWithinRadius b.radius m.dist) b.labels l is.within_radius near;
  fresh = each_after_push (IsFresh b.source) b.labels l is.fresh (is_fresh b l fresh);
  preds = each_after_push (HasPred b.source) b.labels l is.preds (has_pred b l pred);
}

-- a block without labels
pub block_empty : (nodes source : ℕ) (radius : Option ℤ) → IsNode nodes source → IfSome radius IsRadius → IsBlock nodes (record { source = source; radius = radius; labels = [] })
block_empty nodes source radius within radius_within = record {
  source_within = within;
  radius_within = radius_within;
  few = omega arith;
  within = All-nil (IsLabel nodes);
  within_radius = All-nil (λ (m : Label). IsWithinRadius radius m.dist);
  fresh = each_after_nil (IsFresh source);
  preds = each_after_nil (HasPred source);
}

-- a distance that isn't beyond the radius
pub near_radius : (radius : Option ℤ) (dist : ℤ) → is_past radius dist ≡ false → IsWithinRadius radius dist
near_radius None dist h = tt
near_radius (Some r) dist h = omega (arith, ints, h)

pub not_past : (radius : Option ℤ) (dist : ℤ) → IsWithinRadius radius dist → is_past radius dist ≡ false
not_past None dist near = refl
not_past (Some r) dist near = false_from_ne_true (int_lt r dist) (λ past. omega (arith, ints, past, near))

-- ---- labels with one more block
pub labels_push : (nodes : ℕ) (blocks : List BlockValue) (b : BlockValue) → AreLabels (record { nodes = nodes; blocks = blocks }) → IsBlock nodes b → IsNewSource blocks b → length blocks < most_count → AreLabels (record { nodes = nodes; blocks = blocks ++ b ∷ [] })
labels_push nodes blocks b are lawful new few = record {
  nodes_few = are.nodes_few;
  blocks_few = omega (arith, few, length-append blocks (b ∷ []));
  blocks = All-push (IsBlock nodes) blocks b are.blocks lawful;
  sources = each_after_push IsNewSource blocks b are.sources new;
}

-- ---- claimed distances are in their range
either_wide : (c : Bool) (d : ℤ) (x : Option ℤ) → IsWide d → IfSome x IsWide → IfSome (if c then Some d else x) IsWide
either_wide true d x here rest = here
either_wide false d x here rest = rest

distance_wide : (nodes : ℕ) (ls : List Label) (v : ℕ) → All (IsLabel nodes) ls → IfSome (distance_in ls v) IsWide
distance_wide nodes [] v all = tt
distance_wide nodes (l ∷ ls) v all = either_wide (l.id == v) l.dist (distance_in ls v) (All-head (IsLabel nodes) l ls all).dist (distance_wide nodes ls v (All-tail (IsLabel nodes) l ls all))

label_wide : (nodes : ℕ) (b : BlockValue) (v : ℕ) → IsBlock nodes b → IfSome (label b v) IsWide
label_wide nodes b v is = either_wide (b.source == v) (pos 0) (distance_in b.labels v) (omega (arith, ints), omega (arith, ints)) (distance_wide nodes b.labels v is.within)

pub label_at_wide : (nodes : ℕ) (blocks : List BlockValue) (k v : ℕ) → All (IsBlock nodes) blocks → IfSome (label_at blocks k v) IsWide
label_at_wide nodes [] k v all = tt
label_at_wide nodes (b ∷ blocks) zero v all = label_wide nodes b v (All-head (IsBlock nodes) b blocks all)
label_at_wide nodes (b ∷ blocks) (suc k) v all = label_at_wide nodes blocks k v (All-tail (IsBlock nodes) b blocks all)
