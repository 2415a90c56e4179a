-- Blocks of labels, block by block.
use Rattle.std.proofs.Common.{◌≡◌, ◌∙◌, ap, get_or, refl, inl, inr, ℕ, suc, zero, ◌+◌, ◌<◌, List, [], ◌∷◌, length, take, add-one, arith, Err, Option, ℤ}
use Rattle.dimacs_network.specs.declared.network.ArcView.{ArcView}
use Rattle.dimacs_records.specs.declared.reasons.Reason.{Reason}
use Rattle.dimacs_judging.specs.{declared.verdict.JudgeError.{JudgeError}, declared.verdict.Where.{Where}}
use Rattle.dimacs_judging.specs.{declared.verdict.JudgeError.TheVariants.{Refused, Memory}, inside.Labels.{block_at}}
use Rattle.dimacs_judging.specs.{CertificateTests.{label_rows, weight_row}, Tests.{AllClear, Clear, First}}
use Rattle.dimacs_judging.specs.{inside.CertificateTests.{block_rows, distance_rows}, inside.Tests.{TestsAll}}
use Rattle.dimacs_claims.specs.{declared.label_list.Label.{Label}, Labels.{BlockValue, label, label_at}}

blocks_more_suc : (arcs : List ArcView) (blocks : List BlockValue) (k : ℕ) → k < length blocks → AllClear (label_rows arcs (take k blocks)) → AllClear (block_rows arcs (block_at blocks k)) → AllClear (label_rows arcs (take (suc k) blocks))
blocks_more_suc arcs [] k inside before here = absurd (omega arith)
blocks_more_suc arcs (b ∷ blocks) zero inside before here = (here.0, (here.1.0, (here.1.1.0, tt)))
blocks_more_suc arcs (b ∷ blocks) (suc k) inside before here = (before.0, (before.1.0, (before.1.1.0, blocks_more_suc arcs blocks k (omega arith) before.1.1.1 here)))

pub blocks_more : (arcs : List ArcView) (blocks : List BlockValue) (k : ℕ) → k < length blocks → AllClear (label_rows arcs (take k blocks)) → AllClear (block_rows arcs (block_at blocks k)) → AllClear (label_rows arcs (take (k + 1) blocks))
blocks_more arcs blocks k inside before here = rw add-one (blocks_more_suc arcs blocks k inside before here)

-- the first test that fails in a block is the first of all if the blocks before it pass
pub blocks_first : (arcs : List ArcView) (blocks : List BlockValue) (k : ℕ) (place : Where) (reason : Reason) → k < length blocks → AllClear (label_rows arcs (take k blocks)) → First (block_rows arcs (block_at blocks k)) place reason → First (label_rows arcs blocks) place reason
blocks_first arcs [] k place reason inside before here = absurd (omega arith)
blocks_first arcs (b ∷ blocks) zero place reason inside before (inl here) = inl here
blocks_first arcs (b ∷ blocks) zero place reason inside before (inr (clear, inl here)) = inr (clear, inl here)
blocks_first arcs (b ∷ blocks) zero place reason inside before (inr (clear, inr (also, inl here))) = inr (clear, inr (also, inl here))
blocks_first arcs (b ∷ blocks) zero place reason inside before (inr (clear, inr (also, inr (too, none)))) = absurd none
blocks_first arcs (b ∷ blocks) (suc k) place reason inside before here = inr (before.0, inr (before.1.0, inr (before.1.1.0, blocks_first arcs blocks k place reason (omega arith) before.1.1.1 here)))

-- a label in the block with a number
pub label_at-block : (blocks : List BlockValue) (k v : ℕ) → k < length blocks → label_at blocks k v ≡ label (block_at blocks k) v
label_at-block [] k v inside = absurd (omega arith)
label_at-block (b ∷ blocks) zero v inside = refl
label_at-block (b ∷ blocks) (suc k) v inside = label_at-block blocks k v (omega arith)

the_element : {X : Type 0} (xs : List X) (k : ℕ) (d e : X) → k < length xs → get_or xs k d ≡ get_or xs k e
the_element [] k d e inside = absurd (omega arith)
the_element (x ∷ xs) zero d e inside = refl
the_element (x ∷ xs) (suc k) d e inside = the_element xs k d e (omega arith)

-- the labels of the block with this number
pub labels_of_block : (blocks : List BlockValue) (k : ℕ) (b : BlockValue) (labels : List Label) → k < length blocks → b ≡ get_or blocks k b → labels ≡ b.labels → labels ≡ (block_at blocks k).labels
labels_of_block blocks k b labels inside is labels_are = labels_are ∙ ap (λ (d : BlockValue). d.labels) (is ∙ the_element blocks k b _ inside)

-- the radius of the block with this number
pub radius_of_block : (blocks : List BlockValue) (k : ℕ) (b : BlockValue) (radius : Option ℤ) → k < length blocks → b ≡ get_or blocks k b → radius ≡ b.radius → radius ≡ (block_at blocks k).radius
radius_of_block blocks k b radius inside is radius_is = radius_is ∙ ap (λ (d : BlockValue). d.radius) (is ∙ the_element blocks k b _ inside)

-- ---- the tests of one block as tests of all
pub block_is : (blocks : List BlockValue) (k : ℕ) (b : BlockValue) → k < length blocks → b ≡ get_or blocks k b → b ≡ block_at blocks k
block_is blocks k b inside is = is ∙ the_element blocks k b _ inside

-- the tests of one block after its weights have passed
pub after_weights : (arcs : List ArcView) (b : BlockValue) (error : JudgeError) → Clear (weight_row arcs b) → TestsAll (distance_rows arcs b) (Err error) → TestsAll (block_rows arcs b) (Err error)
after_weights arcs b (Refused place reason) clear first = inr (clear, first)
after_weights arcs b Memory clear first = tt

pub blocks_tests : (arcs : List ArcView) (blocks : List BlockValue) (k : ℕ) (error : JudgeError) → k < length blocks → AllClear (label_rows arcs (take k blocks)) → TestsAll (block_rows arcs (block_at blocks k)) (Err error) → TestsAll (label_rows arcs blocks) (Err error)
blocks_tests arcs blocks k (Refused place reason) inside clear first = blocks_first arcs blocks k place reason inside clear first
blocks_tests arcs blocks k Memory inside clear first = tt
