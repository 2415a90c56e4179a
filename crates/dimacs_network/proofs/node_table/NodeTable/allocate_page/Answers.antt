use Rattle.std.proofs.Common.{◌≡◌, ◌≤◌, ◌<◌, ◌+◌, ◌-◌, ◌*◌, ◌/◌, ◌++◌, ◌∙◌, ap, length, replicate, arith, rules, refl}
use Rattle.std.proofs.lemmas.List.{take_all}
use Rattle.std.specs.Vec.{vec_len}
use Rattle.dimacs_network.specs.{declared.node_table.TheConstants.{NO_PAGE}, Slots.{place_of}}
use Rattle.dimacs_network.proofs.SlotLemmas.{same_directory, place_of-same, slot_value-same, page_values, page_place, replicate_blank}
use Rattle.dimacs_network.proofs.node_table.NodeTable.allocate_page.Goals as goal

pub returns-in_err-extend_directory-clause-same : goal.returns-in_err-extend_directory-clause-same
returns-in_err-extend_directory-clause-same g c =
    let table = c.args.self.now in
    slot_value-same table.blank table.directory.items c.extend_directory.new.directory.items table.slots.items c.in_err-extend_directory.ensures.same

pub returns-in_err-resize-clause-same : goal.returns-in_err-resize-clause-same
returns-in_err-resize-clause-same g c =
    let table = c.args.self.now in
    rw c.in_err-resize.ensures.items (slot_value-same table.blank table.directory.items c.extend_directory.new.directory.items table.slots.items c.in_ok-extend_directory.ensures.same)

pub returns : goal.returns
returns g c =
    let table = c.args.self.now in
    let new = c.extend_directory.new.directory.items in
    let values = table.slots.items in
    let same = c.in_ok-extend_directory.ensures.same in
    let len : vec_len table.slots ≡ length values = search rules in
    let number : c.len-number.result ≡ length values = c.len-number.ensures ∙ len in
    let is = same_directory _ new (length values) same (c.in_ok-extend_directory.ensures.short table.numbered.short) table.numbered in
    let whole : length values ≡ 64 * (length values / 64) = omega (arith, is.whole) in
    let added = (length values / 64 + 1) * 64 - vec_len table.slots in
    let more : c.resize.new.self.items ≡ values ++ replicate added table.blank =
    rw number at c.in_ok-resize.ensures.items ∙ ap (λ vs. vs ++ replicate added table.blank) (take_all ((length values / 64 + 1) * 64) values (omega (arith, whole))) in
    let longer_by : length c.resize.new.self.items ≡ (c.len-number.result / 64 + 1) * 64 = search rules in
    let longer : length c.resize.new.self.items ≡ length values + 64 = omega (arith, longer_by, number, is.whole) in
    let free : length values ≤ place_of new c.args.id = omega (arith, place_of-same _ new same c.args.id, c.requires) in
    let room : length values / 64 < NO_PAGE = omega (arith, number, c.if-number.false) in
    record {
      same = rw (more, number) (λ id. page_values new (length values) c.args.id is free room c.in_ok-extend_directory.ensures.reached table.blank values (replicate added table.blank) refl (replicate_blank table.blank added) id ∙ slot_value-same table.blank _ new values same id);
      place = (rw c.deref.ensures.value at c.slot_index.ensures, rw (number, longer) (page_place new (length values) c.args.id is free room c.in_ok-extend_directory.ensures.reached));
      same_blank = search rules;
      memory = search rules;
    }
