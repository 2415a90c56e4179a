use Rattle.std.proofs.{Common.{◌≡◌, ◌+◌, ◌*◌, ◌%◌, ◌∙◌, ap, sym}, lemmas.List.{get_or_past}}
use Rattle.dimacs_network.specs.{declared.node_table.TheConstants.{NO_PAGE}, Slots.{number_of}}
use Rattle.dimacs_network.proofs.{SlotLemmas.{place_of-number}, node_table.slot_index.Goals.{in-Some, in-None}}
use Rattle.dimacs_network.proofs.node_table.slot_index.Goals as goal

pub returns : goal.returns
returns c =
    let number : c.match-get.number ≡ number_of c.args.directory.now c.args.id =
    elim c.match-get.branch [
      | in-Some w ↦ w.number-is ∙ w.in-Some.ensures.lookup.3.1 NO_PAGE
      | in-None w ↦ w.number-is ∙ sym (get_or_past _ _ NO_PAGE w.in-None.ensures.lookup.3)
    ] in
    ap (λ n. n * 64 + c.args.id % 64) number ∙ sym (place_of-number c.args.directory.now c.args.id)
