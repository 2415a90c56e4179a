-- The numbers of blocks, by source.
use Rattle.std.proofs.Common.{◌≡◌, inl, inr, ℕ, ◌+◌, ◌<◌, ◌==◌, ◌↔◌, IsTrue, Bool, true, false, List, ◌∷◌, [], ◌++◌, length, get_or, take, drop, not, cond, Option, Some, None, is_some, refl, sym, ◌∙◌, ap, arith}
use Rattle.std.proofs.lemmas.Bool.{lt-ltb, le-ltb, cases_lt, cases_eq, eq-eqb, ne_eqb, eqb-true, cond-false, cond-true}
use Rattle.std.proofs.lemmas.List.{get_or_default, get_or_append_left, get_or_at, length-take-le, take_more, drop_more, take-append-drop, length_push}
use Rattle.std.proofs.{lemmas.List.Elements.{Contains-get_or}, lemmas.List.Folds.{find_at, position_or_len_push}}
use Rattle.std.proofs.{lemmas.List.Quantifiers.{position-Some}, lemmas.Option.{slice_get_past, slice_get-get_or}}
use Rattle.std.proofs.lemmas.List.Sums.{position_or_len_is, fails_before_first, prefix_len-le-length}
use Rattle.std.specs.{List.{find, position, position_or_len, slice_get}, Option.{option_and_then}, Ordering.{nat_cmp}}
use Rattle.std.specs.FinMap.{FinMap, insert}
use Rattle.dimacs_network.proofs.Nodes.{get-insert_same, get-insert_other}
use Rattle.dimacs_claims.specs.Labels.{BlockValue, EachAfter, IsNewSource, label_at, has_source}
use Rattle.dimacs_judging.specs.{Answers.{block_of, distance_from}, QueryTests.{HasBlock, HasFullBlock}}
use Rattle.dimacs_judging.specs.inside.QueryTests.{AreNumbers, radius_from, radius_in}
use Rattle.dimacs_claims.proofs.BuilderLemmas.{unlabelled}

-- ---- the first place that passes a test
module _ {X : Type 0} (p : X → Bool) where
  position-first : (xs : List X) (i : ℕ) (d : X) → i < length xs → p (get_or xs i d) ≡ true → ((k : ℕ) → k < i → p (get_or xs k d) ≡ false) → position p xs ≡ Some i
  position-first xs i d inside here before =
      let at : position_or_len p xs ≡ i = position_or_len_is p xs i d (omega (arith, inside)) before (λ h. here) in
      rw (at, lt-ltb i (length xs) inside) refl

  fails_all : (xs : List X) (d : X) → position p xs ≡ None → (k : ℕ) → k < length xs → p (get_or xs k d) ≡ false
  fails_all xs d none k inside = fails_before_first p xs k d (elim (cases_lt (position_or_len p xs) (length xs)) [
    | inl found ↦ absurd (let e = rw (lt-ltb (position_or_len p xs) (length xs) found) at none in cc)
    | inr past ↦ omega (arith, inside, past)
  ])

  -- one more item at the end, which fails
  position-push : (xs : List X) (x : X) → p x ≡ false → position p (xs ++ x ∷ []) ≡ position p xs
  position-push xs x off =
      let more = position_or_len_push p xs x in
      let most = prefix_len-le-length (λ y. not (p y)) xs in
      elim (cases_lt (position_or_len p xs) (length xs)) [
        | inl found ↦
            (let same : position_or_len p (xs ++ x ∷ []) ≡ position_or_len p xs = more ∙ cond-false (position_or_len p xs == length xs) (length xs + cond (p x) 0 1) (position_or_len p xs) (ne_eqb _ _ (λ e. omega (arith, e, found))) in
            rw (same, lt-ltb (position_or_len p xs) (length (xs ++ x ∷ [])) (omega (arith, found, length_push xs x)), lt-ltb (position_or_len p xs) (length xs) found) refl)
        | inr past ↦
            (let end : position_or_len p (xs ++ x ∷ []) ≡ length xs + 1 = more ∙ cond-true (position_or_len p xs == length xs) (length xs + cond (p x) 0 1) (position_or_len p xs) (eq-eqb _ _ (omega (arith, past, most))) ∙ rw off refl in
            rw (end, le-ltb (length xs + 1) (length (xs ++ x ∷ [])) (omega (arith, length_push xs x)), le-ltb (position_or_len p xs) (length xs) past) refl)
      ]

  find-position : (xs : List X) → find p xs ≡ option_and_then (slice_get xs) (position p xs)
  find-position xs = elim (cases_lt (position_or_len p xs) (length xs)) [
    | inl found ↦ rw (lt-ltb (position_or_len p xs) (length xs) found) (find_at p xs)
    | inr past ↦ rw (le-ltb (position_or_len p xs) (length xs) past) (find_at p xs ∙ slice_get_past xs (position_or_len p xs) past)
  ]

-- ---- whether a source has a block
pub has_block : (blocks : List BlockValue) (source i : ℕ) → position (has_source source) blocks ≡ Some i → HasBlock blocks source
has_block blocks source i is =
    let d : BlockValue = record { source = 0; radius = None; labels = [] } in
    let found = position-Some (has_source source) blocks i d is in
    (i, get_or blocks i d, found.0, get_or_default blocks i _ _ found.0, eqb-true _ _ found.1)

pub no_block : (blocks : List BlockValue) (source : ℕ) → position (has_source source) blocks ≡ None → ¬ HasBlock blocks source
no_block blocks source none has =
    let (k, b, inside, there, same) = has in
    let off = rw there at (fails_all (has_source source) blocks b none k inside) in
    let on = eq-eqb b.source source same in
    cc

-- the block of a source with this number
pub block_numbered : (blocks : List BlockValue) (source i : ℕ) (b : BlockValue) → position (has_source source) blocks ≡ Some i → b ≡ get_or blocks i b → block_of blocks source ≡ Some b
block_numbered blocks source i b is at =
    find-position (has_source source) blocks ∙ (ap (option_and_then (slice_get blocks)) is ∙ (slice_get-get_or blocks i b (position-Some (has_source source) blocks i b is).0 ∙ ap (λ (d : BlockValue). Some d) (sym at)))

pub block_unnumbered : (blocks : List BlockValue) (source : ℕ) → position (has_source source) blocks ≡ None → block_of blocks source ≡ None
block_unnumbered blocks source none = rw (find-position (has_source source) blocks, none) refl

pub full_tells : (blocks : List BlockValue) (source i : ℕ) (b : BlockValue) (outcome : Bool) → position (has_source source) blocks ≡ Some i → b ≡ get_or blocks i b → is_some b.radius ≡ not outcome → IsTrue outcome ↔ HasFullBlock blocks source
full_tells blocks source i b true is at some = (λ t. (b, block_numbered blocks source i b is at, unlabelled b.radius some), λ full. refl)
full_tells blocks source i b false is at some = (
  λ t. absurd (let f : false ≡ true = t in cc),
  λ full.
      let (d, found, none) = full in
      let both : Some b ≡ Some d = sym (block_numbered blocks source i b is at) ∙ found in
      let same : b ≡ d = cc in
      let off : is_some b.radius ≡ false = ap (λ (e : BlockValue). is_some e.radius) same ∙ ap is_some none in
      absurd (let f : true ≡ false = sym some ∙ off in cc),
)

pub no_full_block : (blocks : List BlockValue) (source : ℕ) → position (has_source source) blocks ≡ None → ¬ HasFullBlock blocks source
no_full_block blocks source none full = let f : None ≡ Some full.0 = sym (block_unnumbered blocks source none) ∙ full.1 in cc

pub radius_some : (blocks : List BlockValue) (source i : ℕ) (b : BlockValue) → position (has_source source) blocks ≡ Some i → b ≡ get_or blocks i b → b.radius ≡ radius_from blocks source
radius_some blocks source i b is at = ap radius_in (sym (block_numbered blocks source i b is at))

pub radius_none : (blocks : List BlockValue) (source : ℕ) → position (has_source source) blocks ≡ None → None ≡ radius_from blocks source
radius_none blocks source none = ap radius_in (sym (block_unnumbered blocks source none))

-- a source has a block exactly if it has a number
pub numbered_tells : (blocks : List BlockValue) (source : ℕ) (number : Option ℕ) (outcome : Bool) → outcome ≡ is_some number → number ≡ position (has_source source) blocks → IsTrue outcome ↔ HasBlock blocks source
numbered_tells blocks source None outcome e is = (λ t. absurd (let f : true ≡ false = sym t ∙ e in cc), λ has. absurd (no_block blocks source (sym is) has))
numbered_tells blocks source (Some i) outcome e is = (λ t. has_block blocks source i (sym is), λ has. e)

-- ---- the numbers so far
pub numbers_more : (blocks : List BlockValue) (numbers : FinMap nat_cmp ℕ) (i : ℕ) (b : BlockValue) → i < length blocks → b ≡ get_or blocks i b → EachAfter IsNewSource blocks
    → AreNumbers (take i blocks) numbers → AreNumbers (take (i + 1) blocks) (insert numbers b.source i)
numbers_more blocks numbers i b inside is new are source =
    let step : take (i + 1) blocks ≡ take i blocks ++ b ∷ [] = take_more blocks i b inside ∙ ap (λ x. take i blocks ++ x ∷ []) (sym is) in
    let len : length (take i blocks) ≡ i = length-take-le i blocks (omega (arith, inside)) in
    let split : blocks ≡ take i blocks ++ b ∷ drop (i + 1) blocks = sym (take-append-drop i blocks) ∙ ap (λ rest. take i blocks ++ rest) (drop_more blocks i b inside ∙ ap (λ x. x ∷ drop (i + 1) blocks) (sym is)) in
    let apart : IsNewSource (take i blocks) b = new (take i blocks) (drop (i + 1) blocks) b split in
    elim (cases_eq source b.source) [
      | inl same ↦ rw (same, step) (get-insert_same numbers b.source i ∙ sym (position-first (has_source b.source) (take i blocks ++ b ∷ []) i b (omega (arith, len, length_push (take i blocks) b)) (rw (get_or_at (take i blocks) b [] b i len) (eq-eqb b.source b.source refl)) (λ k below.
          let within : k < length (take i blocks) = omega (arith, below, len) in
          rw (get_or_append_left (take i blocks) (b ∷ []) b k within) (ne_eqb _ _ (apart (get_or (take i blocks) k b) (Contains-get_or (take i blocks) k b within))))))
      | inr other ↦ get-insert_other numbers b.source source i other ∙ are source ∙ sym (position-push (has_source source) (take i blocks) b (ne_eqb b.source source (λ e. other (sym e)))) ∙ ap (position (has_source source)) (sym step)
    ]

-- ---- distances and radii by number
pub distance_none : (blocks : List BlockValue) (from to : ℕ) → position (has_source from) blocks ≡ None → None ≡ distance_from blocks from to
distance_none blocks from to none = rw (find-position (has_source from) blocks, none) refl

pub distance_some : (blocks : List BlockValue) (from to i : ℕ) → position (has_source from) blocks ≡ Some i → label_at blocks i to ≡ distance_from blocks from to
distance_some blocks from to i is = rw (find-position (has_source from) blocks, is) refl

-- a source with a block
pub block_found : (blocks : List BlockValue) (source : ℕ) → HasBlock blocks source → (i : ℕ) × (b : BlockValue) × (i < length blocks) × (get_or blocks i b ≡ b) × (block_of blocks source ≡ Some b) × (b.source ≡ source)
block_found blocks source has = by_number (position (has_source source) blocks) refl
  where
    by_number : (number : Option ℕ) → position (has_source source) blocks ≡ number → (i : ℕ) × (b : BlockValue) × (i < length blocks) × (get_or blocks i b ≡ b) × (block_of blocks source ≡ Some b) × (b.source ≡ source)
    by_number None is = absurd (no_block blocks source is has)
    by_number (Some i) is =
        let d : BlockValue = record { source = 0; radius = None; labels = [] } in
        let found = position-Some (has_source source) blocks i d is in
        let first : block_of blocks source ≡ slice_get blocks i = find-position (has_source source) blocks ∙ ap (option_and_then (slice_get blocks)) is in
        (i, get_or blocks i d, found.0, get_or_default blocks i _ _ found.0, first ∙ slice_get-get_or blocks i d found.0, eqb-true _ _ found.1)
