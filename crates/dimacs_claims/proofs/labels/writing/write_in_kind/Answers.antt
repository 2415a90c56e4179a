use Rattle.std.proofs.Common.{◌≡◌, ℕ, ◌<◌, ◌∷◌, [], List, ◌++◌, ◌+◌, ap, sym, subst, ◌∙◌, map, take, length, get_or}
use Rattle.std.proofs.{lemmas.List.{append-nil, map-append, take_more}, lemmas.List.Concat.{flat_map-append}}
use Rattle.std.specs.List.{All, flat_map}
use Rattle.dimacs_records.specs.{declared.records.Record.{Record}, declared.records.Record.TheVariants.{LabelsProblem}}
use Rattle.dimacs_records.specs.Canonical.{canonical_text}
use Rattle.dimacs_claims.specs.{inside.Lines.{in_kind}, Labels.{BlockValue, IsBlock}, LabelTexts.{block_lines}}
use Rattle.dimacs_records.proofs.WrittenLemmas.{line_after, lines_after}
use Rattle.dimacs_claims.proofs.labels.writing.write_in_kind.Goals as goal

-- one more block
next_block : (f : Record → Record) (first : Record) (bs : List BlockValue) (i : ℕ) (d : BlockValue) → i < length bs
    → map f (first ∷ flat_map block_lines (take (i + 1) bs)) ≡ map f (first ∷ flat_map block_lines (take i bs)) ++ map f (block_lines (get_or bs i d))
next_block f first bs i d below =
    ap (λ t. map f (first ∷ flat_map block_lines t)) (take_more bs i d below)
    ∙ (ap (λ t. map f (first ∷ t)) (flat_map-append block_lines (take i bs) (get_or bs i d ∷ []) ∙ ap (λ t. flat_map block_lines (take i bs) ++ t) (append-nil (block_lines (get_or bs i d))))
    ∙ map-append f (first ∷ flat_map block_lines (take i bs)) (block_lines (get_or bs i d)))

pub loop-block-init : goal.loop-block-init
loop-block-init g c =
    let start = g.S.Sink.seen c.args.sink.now in
    line_after start _ _ [] (in_kind c.args.kind (LabelsProblem c.nodes-nodes.result (length c.blocks-blocks.result.now))) (rw c.in_kind.ensures at (c.write_record.ensures start [] (c.new-output.ensures.written start)))

pub loop-block-preserved : goal.loop-block-preserved
loop-block-preserved g c =
    let start = g.S.Sink.seen c.args.sink.now in
    let f = in_kind c.args.kind in
    let blocks = c.blocks-blocks.result.now in
    let i = c.loop-block.block-index in
    let b = c.block-item.result in
    let first = LabelsProblem c.nodes-nodes.result (length blocks) in
    let before = map f (first ∷ flat_map block_lines (take i blocks)) in
    let all = map f (first ∷ flat_map block_lines (take (i + 1) blocks)) in
    let next : all ≡ before ++ map f (block_lines b) = next_block f first blocks i b c.loop-block-test.true ∙ ap (λ x. before ++ map f (block_lines x)) (sym c.block-item.is) in
    lines_after start _ _ [] before (map f (block_lines b)) all next (c.write_block.ensures start (canonical_text before) c.loop-block.invariant)

pub write_block-requires : goal.write_block-requires
write_block-requires g c =
    let nodes = c.args.labels.now.nodes in
    let lawful = subst (All (IsBlock nodes)) (sym c.blocks-blocks.ensures.blocks) c.blocks-blocks.ensures.lawful.blocks in
    let is : IsBlock nodes c.block-item.result = subst (IsBlock nodes) (sym c.block-item.is) (lawful c.loop-block.block-index c.block-item.result c.loop-block-test.true) in
    is.few
