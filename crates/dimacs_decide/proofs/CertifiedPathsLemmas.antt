-- Blocks of claimed distances, block by block.
use Rattle.std.proofs.Common.{◌≡◌, ◌≢◌, inl, inr, ℕ, suc, zero, ◌+◌, ◌<◌, ◌≤◌, List, [], ◌∷◌, ◌++◌, All, take, drop, length, get_or, Option, Some, None, Result, ℤ, Ok, Err, refl, sym, ap, subst, ◌∙◌, arith}
use Rattle.std.proofs.{Math.Path.{fun_ext}, lemmas.Bool.{cases_order}}
use Rattle.std.proofs.lemmas.List.{drop_more, get_or-take, get_or_default, length-take-le, take-append-drop}
use Rattle.std.proofs.lemmas.List.Elements.{All-cons, All-from_get_or, All-get_or, All-head, All-map, All-nil, All-tail, All-weaker, AllZip-get_or, all_zip_more, length_all_zip}
use Rattle.std.specs.{List.{AllZip}, Result.{IsErrAnd}}
use Rattle.dimacs_lines.specs.Limits.{IsNode}
use Rattle.dimacs_network.specs.Arcs.{JoinsNodes, NetworkValue}
use Rattle.dimacs_records.specs.declared.reasons.Reason.{Reason}
use Rattle.dimacs_claims.specs.Labels.{AreLabels, BlockValue, EachAfter, IsBlock, IsNewSource, LabelsValue, label, label_in}
use Rattle.dimacs_judging.specs.{declared.verdict.Where.{Where}, declared.verdict.JudgeError.{JudgeError}}
use Rattle.dimacs_judging.specs.{declared.verdict.JudgeError.TheVariants.{Refused, Memory}, Answers.{block_of}}
use Rattle.dimacs_judging.specs.{Labels.{LabelsOk}, QueryTests.{HasBlock, HasFullBlock}, Tests.{First}}
use Rattle.dimacs_judging.specs.inside.Labels.{block_at}
use Rattle.dimacs_judging.proofs.{BlockNumbers.{block_found}, Firsts.{AllOneWay, one_first}}
use Rattle.dimacs_judging.proofs.RowLists.{all_one_way-append, first_after, first_in_front}
use Rattle.dimacs_decide.specs.CertifiedPaths.{AreAllDistances, AreLabelsOfAll, CertifiesPaths, block_source, distances_rows, sources_of}
use Rattle.dimacs_decide.specs.Distances.{AreDistancesFrom, claim_rows}
use Rattle.dimacs_decide.specs.inside.DistanceBlocks.{DecidesBlock, IsBlockFor}
use Rattle.dimacs_decide.proofs.ClaimLemmas.{claim_one_way, true_clear}

abbrev no_block : BlockValue
no_block = record { source = 0; radius = None; labels = [] }

-- ---- the sources differ
apart_before : (blocks : List BlockValue) → EachAfter IsNewSource blocks → (i j : ℕ) → i < j → j < length blocks → (block_at blocks i).source ≢ (block_at blocks j).source
apart_before blocks new i j before inside =
    let split : blocks ≡ take j blocks ++ block_at blocks j ∷ drop (j + 1) blocks = sym (take-append-drop j blocks) ∙ ap (λ rest. take j blocks ++ rest) (drop_more blocks j no_block inside) in
    let within : i < length (take j blocks) = omega (arith, before, length-take-le j blocks (omega (arith, inside))) in
    new (take j blocks) (drop (j + 1) blocks) (block_at blocks j) split (block_at blocks i) (i, within, get_or-take j blocks i (block_at blocks i) before ∙ get_or_default blocks i (block_at blocks i) no_block (omega (arith, before, inside)))

pub same_place : (blocks : List BlockValue) → EachAfter IsNewSource blocks → (i j : ℕ) → i < length blocks → j < length blocks → (block_at blocks i).source ≡ (block_at blocks j).source → i ≡ j
same_place blocks new i j here there same = elim (cases_order i j) [
  | inl is ↦ is
  | inr other ↦ elim other [
    | inl before ↦ absurd (apart_before blocks new i j before there same)
    | inr after ↦ absurd (apart_before blocks new j i after here (sym same))
  ]
]

pub same_block : (blocks : List BlockValue) (k : ℕ) (b : BlockValue) → k < length blocks → b ≡ get_or blocks k b → b ≡ block_at blocks k
same_block blocks k b inside is = is ∙ get_or_default blocks k b no_block inside

pub sources_within : (nodes : ℕ) (claim : LabelsValue) → claim.nodes ≡ nodes → AreLabels claim → All (λ (b : BlockValue). IsNode nodes b.source) claim.blocks
sources_within nodes claim same are = All-weaker (IsBlock claim.nodes) (λ (b : BlockValue). IsNode nodes b.source) (λ b is. subst (λ n. IsNode n b.source) same is.source_within) claim.blocks are.blocks

-- ---- the decision about a block that was copied by node
pub decided_here : (g : NetworkValue) (b d : BlockValue) (source : ℕ) (claim : ℕ → Option ℤ) (result : Result BlockValue JudgeError) → b ≡ d → source ≡ b.source → ((v : ℕ) → claim v ≡ label b v) → DecidesBlock g source claim result → DecidesBlock g d.source (label d) result
decided_here g b d source claim result same from copied outcome =
    let here : DecidesBlock g b.source (label b) result = subst (λ c. DecidesBlock g b.source c result) (fun_ext copied) (subst (λ s. DecidesBlock g s claim result) from outcome) in
    subst (λ (e : BlockValue). DecidesBlock g e.source (label e) result) same here

-- ---- what the first test that fails shows
module _ (g : NetworkValue) (joined : All (JoinsNodes g.nodes) g.arcs) where
  first_in : (blocks : List BlockValue) (k : ℕ) (place : Where) (reason : Reason) → k < length blocks → All (λ (b : BlockValue). IsNode g.nodes b.source) blocks → AreAllDistances g (take k blocks)
      → First (claim_rows g (block_at blocks k).source (label (block_at blocks k))) place reason → First (distances_rows g blocks) place reason
  first_in [] k place reason inside nodes hold first = absurd (omega (arith, inside))
  first_in (b ∷ blocks) zero place reason inside nodes hold first = first_in_front (claim_rows g b.source (label b)) (distances_rows g blocks) place reason first
  first_in (b ∷ blocks) (suc k) place reason inside nodes hold first =
      let P : BlockValue → Type 0 = λ b. AreDistancesFrom g b.source (label b) in
      let N : BlockValue → Type 0 = λ b. IsNode g.nodes b.source in
      first_after (claim_rows g b.source (label b)) (distances_rows g blocks) place reason
      (true_clear g b.source (label b) joined (All-head N b blocks nodes) (All-head P b (take k blocks) hold))
      (first_in blocks k place reason (omega (arith, inside)) (All-tail N b blocks nodes) (All-tail P b (take k blocks) hold) first)

  all_one_way : (blocks : List BlockValue) → AllOneWay (distances_rows g blocks)
  all_one_way [] = tt
  all_one_way (b ∷ blocks) = all_one_way-append (claim_rows g b.source (label b)) (distances_rows g blocks) (claim_one_way g b.source (label b)) (all_one_way blocks)

  refuted : (blocks : List BlockValue) (k : ℕ) (error : JudgeError) → k < length blocks → All (λ (b : BlockValue). IsNode g.nodes b.source) blocks → AreAllDistances g (take k blocks)
      → DecidesBlock g (block_at blocks k).source (label (block_at blocks k)) (Err error) → CertifiesPaths g blocks (Err error)
  refuted blocks k (Refused place reason) inside nodes hold outcome =
      let first = first_in blocks k place reason inside nodes hold outcome.0.0 in
      ((first, λ other why also. one_first (distances_rows g blocks) other place why reason (all_one_way blocks) also first), λ are. outcome.1 (All-get_or (λ (b : BlockValue). AreDistancesFrom g b.source (label b)) blocks k no_block inside are))
  refuted blocks k Memory inside nodes hold outcome = tt

  --   the same if it is returned as the function's own error
  pub refused_at : (blocks : List BlockValue) (k : ℕ) (error : JudgeError) → k < length blocks → All (λ (b : BlockValue). IsNode g.nodes b.source) blocks → AreAllDistances g (take k blocks)
      → DecidesBlock g (block_at blocks k).source (label (block_at blocks k)) (Err error) → (result : Result LabelsValue JudgeError) → IsErrAnd result (λ e. e ≡ error) → CertifiesPaths g blocks result
  refused_at blocks k error inside nodes hold outcome (Ok labels) is = absurd is
  refused_at blocks k error inside nodes hold outcome (Err e) is = subst (λ (e : JudgeError). CertifiesPaths g blocks (Err e)) (sym is) (refuted blocks k error inside nodes hold outcome)

-- ---- blocks for the first claims
module _ (g : NetworkValue) (blocks made : List BlockValue) (k : ℕ) (inside : k < length blocks) (zip : AllZip (IsBlockFor g) (take k blocks) made) where
  so_many : length made ≡ k
  so_many = omega (arith, length_all_zip (IsBlockFor g) (take k blocks) made zip, length-take-le k blocks (omega (arith, inside)))

  pub fewer : length made < length blocks
  fewer = omega (arith, so_many, inside)

  --   none has the next source
  pub next_source : EachAfter IsNewSource blocks → (b : BlockValue) → b.source ≡ (block_at blocks k).source → IsNewSource made b
  next_source new b from other (j, within, is) same =
      let before : j < k = omega (arith, within, so_many) in
      let taken : j < length (take k blocks) = omega (arith, before, length-take-le k blocks (omega (arith, inside))) in
      let of = AllZip-get_or (IsBlockFor g) (take k blocks) made j no_block other zip taken in
      let there : other.source ≡ (block_at blocks j).source = ap block_source (sym is) ∙ (of.source ∙ ap block_source (get_or-take k blocks j no_block before)) in
      apart_before blocks new j k before inside (sym there ∙ (same ∙ from))

pub made_more : (g : NetworkValue) (blocks made : List BlockValue) (k : ℕ) (m : BlockValue) → k < length blocks → AllZip (IsBlockFor g) (take k blocks) made → IsBlockFor g (block_at blocks k) m → AllZip (IsBlockFor g) (take (k + 1) blocks) (made ++ m ∷ [])
made_more g blocks made k m inside zip of = all_zip_more (IsBlockFor g) blocks made k (block_at blocks k) m inside (get_or_default blocks k no_block (block_at blocks k) inside) zip of

-- ---- a block for each claim
module _ (g : NetworkValue) where
  zip_sources : (blocks made : List BlockValue) → AllZip (IsBlockFor g) blocks made → sources_of made ≡ sources_of blocks
  zip_sources [] [] zip = refl
  zip_sources [] (m ∷ made) zip = absurd zip
  zip_sources (b ∷ blocks) [] zip = absurd zip
  zip_sources (b ∷ blocks) (m ∷ made) zip = ap (λ s. s ∷ sources_of made) zip.0.source ∙ ap (λ rest. b.source ∷ rest) (zip_sources blocks made zip.1)

  zip_passes : (blocks made : List BlockValue) → AllZip (IsBlockFor g) blocks made → All (LabelsOk g.arcs) made
  zip_passes [] [] zip = All-nil (LabelsOk g.arcs)
  zip_passes [] (m ∷ made) zip = absurd zip
  zip_passes (b ∷ blocks) [] zip = absurd zip
  zip_passes (b ∷ blocks) (m ∷ made) zip = All-cons (LabelsOk g.arcs) m made zip.0.passes (zip_passes blocks made zip.1)

  module _ (blocks made : List BlockValue) (new : EachAfter IsNewSource blocks) (zip : AllZip (IsBlockFor g) blocks made) where
    --     the block with a source is the one made for it
    found : (k : ℕ) → k < length blocks → (m : BlockValue) × (block_of made (block_at blocks k).source ≡ Some m) × IsBlockFor g (block_at blocks k) m
    found k inside =
        let long = length_all_zip (IsBlockFor g) blocks made zip in
        let own = AllZip-get_or (IsBlockFor g) blocks made k no_block no_block zip inside in
        let has : HasBlock made (block_at blocks k).source = (k, get_or made k no_block, omega (arith, inside, long), get_or_default made k _ _ (omega (arith, inside, long)), own.source) in
        let (i, m, within, there, is, same) = block_found made (block_at blocks k).source has in
        let here : i < length blocks = omega (arith, within, long) in
        let of : IsBlockFor g (block_at blocks i) m = subst (IsBlockFor g (block_at blocks i)) there (AllZip-get_or (IsBlockFor g) blocks made i no_block m zip here) in
        let at : i ≡ k = same_place blocks new i k here inside (sym of.source ∙ same) in
        (m, is, subst (λ j. IsBlockFor g (block_at blocks j) m) at of)

    pub paths_certified : (nodes : ℕ) → nodes ≡ g.nodes → All (λ (b : BlockValue). IsNode g.nodes b.source) blocks → AreLabelsOfAll g blocks (record { nodes = nodes; blocks = made })
    paths_certified nodes same within = record {
      sources = zip_sources blocks made zip;
      passes = record {
        nodes = same;
        queries = All-map (λ id. id ≤ g.nodes) block_source blocks (All-weaker (λ (b : BlockValue). IsNode g.nodes b.source) (λ (b : BlockValue). b.source ≤ g.nodes) (λ b is. is.1) blocks within);
        blocks = All-map (HasFullBlock made) block_source blocks (All-from_get_or (λ (b : BlockValue). HasFullBlock made b.source) blocks no_block (λ k inside. let (m, is, of) = found k inside in (m, is, of.whole)));
        labels = zip_passes blocks made zip;
      };
      agrees = All-from_get_or (λ (b : BlockValue). (v : ℕ) → IsNode g.nodes v → label_in (block_of made b.source) v ≡ label b v) blocks no_block (λ k inside v node. let (m, is, of) = found k inside in ap (λ o. label_in o v) is ∙ of.agrees v node);
    }
