use Rattle.std.proofs.Common.{◌≡◌, inl, inr, ◌<◌, ◌*◌, ◌/◌, ◌∙◌, ap, sym, get_or, length, arith, rules}
use Rattle.std.proofs.{lemmas.Bool.{cases_lt}, lemmas.List.{get_or_past, get_or_read}}
use Rattle.std.specs.Vec.{vec_len}
use Rattle.dimacs_network.specs.declared.node_table.TheConstants.{NO_PAGE}
use Rattle.dimacs_network.proofs.SlotLemmas.{slot_value-no_page}
use Rattle.dimacs_network.proofs.node_table.NodeTable.next_page.Goals as goal

pub loop-page-preserved : goal.loop-page-preserved
loop-page-preserved g c = λ id least below.
    let table = c.args.self.now in
    let directory = table.directory.items in
    let page = c.loop-page.page in
    let len : vec_len table.directory ≡ length directory = search rules in
    let inside : page < length directory = omega (arith, len, c.loop-page-test.true, c.min-pages.ensures, c.len.ensures) in
    elim (cases_lt id (64 * page)) [
      | inl before ↦ c.loop-page.invariant id least before
      | inr past ↦
          let here : id / 64 ≡ page = omega (arith, past, below) in
          let none : get_or directory page NO_PAGE ≡ NO_PAGE = sym (get_or_read directory page c.index.result.now inside c.index.ensures NO_PAGE) ∙ c.if-index.false in
          slot_value-no_page table.blank directory table.slots.items id table.numbered (ap (λ i. get_or directory i NO_PAGE) here ∙ none)
    ]

pub returns : goal.returns
returns g c =
    let table = c.args.self.now in
    let directory = table.directory.items in
    let len : vec_len table.directory ≡ length directory = search rules in
    record {
      onward = c.requires;
      within = omega arith;
      blank = λ id least below. elim (cases_lt (id / 64) (length directory)) [
        | inl inside ↦ c.loop-page.invariant id least (omega (arith, inside, below, len, c.loop-page-test.false, c.min-pages.ensures, c.len.ensures))
        | inr past ↦ slot_value-no_page table.blank directory table.slots.items id table.numbered (get_or_past directory (id / 64) NO_PAGE past)
      ];
    }
