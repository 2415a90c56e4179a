use Rattle.dimacs_records.proofs.BlockForm.{reads_block}
use Rattle.dimacs_records.proofs.lines.labels.block.Goals as goal

pub returns : goal.returns
returns c =
    reads_block c.args.fields c.id-source.new.self c.count-count.new.self c.radius-radius.new.self c.id-source.result c.count-count.result c.radius-radius.result c.finish.result c.requires c.id-source.ensures c.count-count.ensures c.radius-radius.ensures c.finish.ensures
