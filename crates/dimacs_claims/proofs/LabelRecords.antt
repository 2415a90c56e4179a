-- The records of labels.
use Rattle.std.proofs.Common.{◌≡◌, ℕ, suc, ◌+◌, ◌∷◌, ◌++◌, [], List, Bool, true, false, Option, Some, None, length, map, refl, ap, ap₂, sym, ◌∙◌, arith, append_assoc, inl, inr, ◌⊎◌, zero}
use Rattle.std.proofs.{lemmas.Bool.{lt-ltb, le-ltb, eq-eqb, or_parts, true≢false}, lemmas.List.Folds.{list_any-append}}
use Rattle.std.proofs.lemmas.List.{length-append, length-map, append-nil, map-append}
use Rattle.std.specs.{Prelude.{ℤ, nat_lt, ◌==◌, ◌||◌}, List.{list_any, flat_map}, Ordering.{nat_cmp, eq_by_cmp}}
use Rattle.std.specs.Cmp.{nat_cmp_total, nat_eq_equiv, unsigned_tied}
use Rattle.dimacs_records.specs.{declared.records.Record.{Record}, Blocks.{Block, block_in, is_short_block}}
use Rattle.dimacs_records.specs.declared.records.Record.TheVariants.{LabelsProblem, LabelsBlock}
use Rattle.dimacs_claims.specs.{declared.label_list.Label.{Label}, LabelTexts.{label_line, block_lines}}
use Rattle.dimacs_claims.specs.Labels.{AreSources, BlockValue, IsNewSource, has_source}
use Rattle.dimacs_claims.specs.LabelsReading.{LabelsBegun, lines_of_short, lacking, lines_of_blocks, labels_begun_records}
use Rattle.dimacs_claims.proofs.BlockLemmas.{label_id}
use Rattle.dimacs_claims.proofs.LabelStates.{Say, opened, is_source, say_problem, say_block, say_label}
use Rattle.std.specs.FinSet as set

abbrev pub source_of : BlockValue → ℕ
source_of b = b.source

-- what is known of the earlier records after these labels
pub say_labels : (ls : List Label) (earlier : List Record) (nodes declared : ℕ) (sources : List ℕ) (source count : ℕ) (radius : Option ℤ) (ids : List ℕ) → Say earlier nodes declared sources (Some (opened source count radius ids))
    → Say (earlier ++ map label_line ls) nodes declared sources (Some (opened source count radius (ids ++ map label_id ls)))
say_labels [] earlier nodes declared sources source count radius ids say = rw (append-nil earlier, append-nil ids) say
say_labels (l ∷ ls) earlier nodes declared sources source count radius ids say =
    rw (← append_assoc earlier (label_line l ∷ []) (map label_line ls), ← append_assoc ids (l.id ∷ []) (map label_id ls))
    (say_labels ls (earlier ++ label_line l ∷ []) nodes declared sources source count radius (ids ++ l.id ∷ []) (say_label earlier nodes declared sources source count radius ids say l.id l.dist l.pred))

-- the block as its records give it, lacking so many labels
abbrev pub opened_with : ℕ → BlockValue → Block
opened_with missing b = opened b.source (length b.labels + missing) b.radius (map label_id b.labels)

pub say_short : (missing : ℕ) (b : BlockValue) (earlier : List Record) (nodes declared : ℕ) (sources : List ℕ) (last : Option Block) → Say earlier nodes declared sources last
    → Say (earlier ++ lines_of_short missing b) nodes declared (sources ++ b.source ∷ []) (Some (opened_with missing b))
say_short missing b earlier nodes declared sources last say =
    let count = length b.labels + missing in
    rw (← append_assoc earlier (LabelsBlock b.source count b.radius ∷ []) (map label_line b.labels))
    (say_labels b.labels (earlier ++ LabelsBlock b.source count b.radius ∷ []) nodes declared (sources ++ b.source ∷ []) b.source count b.radius [] (say_block earlier nodes declared sources last say b.source count b.radius))

abbrev pub last_after : ℕ → Option Block → List BlockValue → Option Block
last_after missing last [] = last
last_after missing last (b ∷ more) = last_after missing (Some (opened_with (lacking missing more) b)) more

say_blocks : (blocks : List BlockValue) (missing : ℕ) (earlier : List Record) (nodes declared : ℕ) (sources : List ℕ) (last : Option Block) → Say earlier nodes declared sources last
    → Say (earlier ++ lines_of_blocks missing blocks) nodes declared (sources ++ map source_of blocks) (last_after missing last blocks)
say_blocks [] missing earlier nodes declared sources last say = rw (append-nil earlier, append-nil sources) say
say_blocks (b ∷ more) missing earlier nodes declared sources last say =
    rw (← append_assoc earlier (lines_of_short (lacking missing more) b) (lines_of_blocks missing more), ← append_assoc sources (b.source ∷ []) (map source_of more))
    (say_blocks more missing (earlier ++ lines_of_short (lacking missing more) b) nodes declared (sources ++ b.source ∷ []) (Some (opened_with (lacking missing more) b))
    (say_short (lacking missing more) b earlier nodes declared sources last say))

last_after-push : (front : List BlockValue) (b : BlockValue) (missing : ℕ) (last : Option Block) → last_after missing last (front ++ b ∷ []) ≡ Some (opened_with missing b)
last_after-push [] b missing last = refl
last_after-push (f ∷ front) b missing last = last_after-push front b missing (Some (opened_with (lacking missing (front ++ b ∷ [])) f))

-- blocks that lack no labels
lacking-zero : (blocks : List BlockValue) → lacking 0 blocks ≡ 0
lacking-zero [] = refl
lacking-zero (b ∷ more) = refl

lines_of_short-zero : (b : BlockValue) (missing : ℕ) → missing ≡ 0 → lines_of_short missing b ≡ block_lines b
lines_of_short-zero b missing none = ap (λ n. LabelsBlock b.source n b.radius ∷ map label_line b.labels) (omega (arith, none))

pub lines_of_blocks-zero : (blocks : List BlockValue) → lines_of_blocks 0 blocks ≡ flat_map block_lines blocks
lines_of_blocks-zero [] = refl
lines_of_blocks-zero (b ∷ more) = ap₂ (λ xs ys. xs ++ ys) (lines_of_short-zero b (lacking 0 more) (lacking-zero more)) (lines_of_blocks-zero more)

-- one more label in the last block
pub lines_of_blocks-push_label : (front : List BlockValue) (source : ℕ) (radius : Option ℤ) (ls : List Label) (l : Label) (missing : ℕ)
    → lines_of_blocks missing (front ++ record { source = source; radius = radius; labels = ls ++ l ∷ [] } ∷ []) ≡ lines_of_blocks (suc missing) (front ++ record { source = source; radius = radius; labels = ls } ∷ []) ++ label_line l ∷ []
lines_of_blocks-push_label [] source radius ls l missing =
    let count : length (ls ++ l ∷ []) + missing ≡ length ls + suc missing = omega (arith, length-append ls (l ∷ [])) in
    ap (λ rs. rs ++ []) (ap₂ (λ n rs. LabelsBlock source n radius ∷ rs) count (map-append label_line ls (l ∷ []))) ∙ (append-nil _ ∙ ap (λ rs. rs ++ label_line l ∷ []) (sym (append-nil (lines_of_short (suc missing) (record { source = source; radius = radius; labels = ls })))))
lines_of_blocks-push_label (f ∷ front) source radius ls l missing =
    ap₂ (λ n rs. lines_of_short n f ++ rs) (lacking-push front _ _ missing (suc missing)) (lines_of_blocks-push_label front source radius ls l missing) ∙ sym (append_assoc (lines_of_short (lacking (suc missing) (front ++ record { source = source; radius = radius; labels = ls } ∷ [])) f) _ (label_line l ∷ []))
  where
    lacking-push : (bs : List BlockValue) (b c : BlockValue) (m n : ℕ) → lacking m (bs ++ b ∷ []) ≡ lacking n (bs ++ c ∷ [])
    lacking-push [] b c m n = refl
    lacking-push (a ∷ bs) b c m n = refl

-- one more block after complete ones
pub lines_of_blocks-push_block : (blocks : List BlockValue) (source count : ℕ) (radius : Option ℤ)
    → lines_of_blocks count (blocks ++ record { source = source; radius = radius; labels = [] } ∷ []) ≡ lines_of_blocks 0 blocks ++ LabelsBlock source count radius ∷ []
lines_of_blocks-push_block [] source count radius = let same : 0 + count ≡ count = omega arith in ap (λ n. LabelsBlock source n radius ∷ []) same
lines_of_blocks-push_block (f ∷ blocks) source count radius =
    ap₂ (λ n rs. lines_of_short n f ++ rs) (lacking-both blocks _ count) (lines_of_blocks-push_block blocks source count radius) ∙ sym (append_assoc (lines_of_short (lacking 0 blocks) f) _ (LabelsBlock source count radius ∷ []))
  where
    lacking-both : (bs : List BlockValue) (b : BlockValue) (n : ℕ) → lacking n (bs ++ b ∷ []) ≡ lacking 0 bs
    lacking-both [] b n = refl
    lacking-both (a ∷ bs) b n = refl

-- what is known after the records so far
pub say_taken : (begun : LabelsBegun) → Say (labels_begun_records begun) begun.nodes begun.declared (map source_of begun.blocks) (last_after begun.missing None begun.blocks)
say_taken begun = say_blocks begun.blocks begun.missing (LabelsProblem begun.nodes begun.declared ∷ []) begun.nodes begun.declared [] None (say_problem begun.nodes begun.declared)

abbrev pub HasLast : List BlockValue → Type 0
HasLast blocks = (front : List BlockValue) × (b : BlockValue) × (blocks ≡ front ++ b ∷ [])

pub last_cases : (blocks : List BlockValue) → (blocks ≡ []) ⊎ HasLast blocks
last_cases [] = inl refl
last_cases (b ∷ more) = elim (last_cases more) [
  | inl none ↦ inr ([], b, ap (λ bs. b ∷ bs) none)
  | inr h ↦ inr (b ∷ h.0, h.1, ap (λ bs. b ∷ bs) h.2)
]

pub last_is : (blocks : List BlockValue) (missing : ℕ) (h : HasLast blocks) → last_after missing None blocks ≡ Some (opened_with missing h.1)
last_is blocks missing h = ap (last_after missing None) h.2 ∙ last_after-push h.0 h.1 missing None

-- the last block is short if it lacks labels
pub short_by_records : (begun : LabelsBegun) → (begun.blocks ≡ [] → begun.missing ≡ 0) → is_short_block (block_in (labels_begun_records begun)) ≡ nat_lt 0 begun.missing
short_by_records begun only = ap is_short_block (say_taken begun).block ∙ (elim (last_cases begun.blocks) [
  | inl none ↦ ap (λ bs. is_short_block (last_after begun.missing None bs)) none ∙ sym (ap (nat_lt 0) (only none))
  | inr h ↦ ap is_short_block (last_is begun.blocks begun.missing h) ∙ fewer (length h.1.labels) begun.missing (length (map label_id h.1.labels)) (length-map h.1.labels label_id)
])
  where
    fewer : (n m k : ℕ) → k ≡ n → nat_lt k (n + m) ≡ nat_lt 0 m
    fewer n zero k same = le-ltb k (n + 0) (omega (arith, same))
    fewer n (suc m) k same = lt-ltb k (n + suc m) (omega (arith, same)) ∙ sym (lt-ltb 0 (suc m) (omega arith))

pub list_any-has_source : (id : ℕ) (blocks : List BlockValue) → list_any (has_source id) blocks ≡ list_any (is_source id) (map source_of blocks)
list_any-has_source id [] = refl
list_any-has_source id (b ∷ blocks) = ap (λ t. (b.source == id) || t) (list_any-has_source id blocks)

or_after : (a b c : Bool) → a ≡ c → (a || b) ≡ (b || (c || false))
or_after true true c same = refl
or_after true false c same = ap (λ t. t || false) same
or_after false true c same = refl
or_after false false c same = ap (λ t. t || false) same

-- one more block adds its source
pub are_sources_more : (sources : set.FinSet nat_cmp) (blocks : List BlockValue) (b : BlockValue) → AreSources sources blocks → AreSources (set.insert sources b.source) (blocks ++ b ∷ [])
are_sources_more sources blocks b are id =
    set.contains-insert nat_cmp_total sources b.source id ∙ (ap (λ t. eq_by_cmp nat_cmp id b.source || t) (are id)
    ∙ (or_after (eq_by_cmp nat_cmp id b.source) (list_any (has_source id) blocks) (b.source == id) (unsigned_tied id b.source ∙ nat_eq_equiv.symm id b.source) ∙ sym (list_any-append (has_source id) blocks (b ∷ []))))

-- a source that no block has
pub new_source : (blocks : List BlockValue) (b : BlockValue) → list_any (has_source b.source) blocks ≡ false → IsNewSource blocks b
new_source [] b none other among same = absurd (omega (arith, among.1))
new_source (d ∷ blocks) b none other (zero, below, is) same =
    let first = ap (λ (o : BlockValue). o.source == b.source) is ∙ eq-eqb other.source b.source same in
    absurd (true≢false (sym first ∙ (or_parts (d.source == b.source) _ none).0))
new_source (d ∷ blocks) b none other (suc k, below, is) same = new_source blocks b (or_parts (d.source == b.source) _ none).1 other (k, omega (arith, below), is) same

pub push_same : {X : Type 0} (xs ys : List X) (x y : X) → xs ++ x ∷ [] ≡ ys ++ y ∷ [] → x ≡ y
push_same [] [] x y e = cc
push_same [] (d ∷ ys) x y e = absurd (omega (arith, ap length e, length-append ys (y ∷ [])))
push_same (d ∷ xs) [] x y e = absurd (omega (arith, ap length e, length-append xs (x ∷ [])))
push_same (c ∷ xs) (d ∷ ys) x y e = push_same xs ys x y (cc)
