-- The arcs of a text that is read into arrays.
use Rattle.std.proofs.Common.{◌≡◌, ◌≤◌, ◌∙◌, ◌∷◌, ◌++◌, ℕ, List, [], Option, None, Some, Ok, Err, refl, ap, ap₂, sym, map, length, inl, inr, ℤ}
use Rattle.std.proofs.lemmas.List.{append-nil, length-map, map-append}
use Rattle.std.proofs.lemmas.List.Elements.{All-head, All-tail, filter_map-append}
use Rattle.std.specs.List.{All, cons_option, filter_map}
use Rattle.dimacs_records.specs.{declared.records.Record.{Record}, declared.faults.ReadError.{ReadError}}
use Rattle.dimacs_records.specs.{declared.kinds.TextKind.{TextKind}, Faults.{Fault, Spell}}
use Rattle.dimacs_records.specs.Readings.{IsReadWhole, LineRecord, ReadsLines, RefusesLine, numbered, on_line, records_of}
use Rattle.dimacs_records.specs.Texts.{AreFaultless, AreSpelled, Reads, SpellsValue}
use Rattle.dimacs_records.specs.declared.kinds.TextKind.TheVariants.{Graph, Max, Min}
use Rattle.dimacs_records.proofs.ReadLaws.{reads_exactly, spelled_of_faultless, spells_one_value}
use Rattle.dimacs_network.specs.{declared.network.ArcView.{ArcView}, Arcs.{NetworkValue}}
use Rattle.dimacs_instance.specs.{Graph.{GivesGraph, HasWeightAlone, graph_arc}, MaxFlows.{HasCapacityAlone, MaxValue}}
use Rattle.dimacs_instance.specs.{MaxTexts.{GivesMax, max_arc}, MinFlows.{MinValue}}
use Rattle.dimacs_instance.specs.{MinTexts.{GivesMin, min_arc, min_node}, declared.summaries.min.MinNodes.{MinNodes}}
use Rattle.dimacs_instance.specs.declared.summaries.graph.GraphSummary.{GraphSummary}
use Rattle.dimacs_instance.specs.declared.summaries.max.MaxSummary.{MaxSummary}
use Rattle.dimacs_instance.specs.Summaries.{HasNodes, SumsUpGraph, SumsUpMax}
use Rattle.dimacs_lines.specs.{Lines.{lines}, Limits.{most_count}}
use Rattle.dimacs_instance.proofs.{GraphLemmas.{graph_faultless, one_graph}, MaxTextLemmas.{max_faultless, one_max}}
use Rattle.dimacs_instance.proofs.MinTextLemmas.{min_faultless, one_min}
use Rattle.dimacs_fill.specs.{GraphFilled.{ReadsGraphInto}, MaxFilled.{ReadsMaxInto}, inside.Arcs.{arc_in, arcs_in}}
use Rattle.dimacs_fill.specs.MinFilled.{ReadsMinInto, supplies_of}
use Rattle.dimacs_fill.specs.Filling.{caps_of, costs_of, filled, heads_of, lows_of, tails_of}
use Rattle.dimacs_fill.specs.inside.Columns.{ArcColumns, AreLater, Hold, HoldArcs}
use Rattle.dimacs_fill.proofs.ColumnLemmas.{filled_by}
use Rattle.dimacs_records.specs.declared.faults.ReadError.TheVariants as read_errors

-- ---- the arcs of records
max_arcs : (arcs : List ArcView) → All HasCapacityAlone arcs → filter_map arc_in (map max_arc arcs) ≡ arcs
max_arcs [] alone = refl
max_arcs (a ∷ arcs) alone =
    let here = All-head HasCapacityAlone a arcs alone in
    ap₂ (λ (first : ArcView) (rest : List ArcView). first ∷ rest)
    (ap₂ (λ low cost. record { tail = a.tail; head = a.head; low = low; cap = a.cap; cost = cost }) (sym here.0) (sym here.1))
    (max_arcs arcs (All-tail HasCapacityAlone a arcs alone))

graph_arcs : (arcs : List ArcView) → All HasWeightAlone arcs → filter_map arc_in (map graph_arc arcs) ≡ arcs
graph_arcs [] alone = refl
graph_arcs (a ∷ arcs) alone =
    let here = All-head HasWeightAlone a arcs alone in
    ap₂ (λ (first : ArcView) (rest : List ArcView). first ∷ rest)
    (ap₂ (λ low cap. record { tail = a.tail; head = a.head; low = low; cap = cap; cost = a.cost }) (sym here.0) (sym here.1))
    (graph_arcs arcs (All-tail HasWeightAlone a arcs alone))

min_arcs : (arcs : List ArcView) → filter_map arc_in (map min_arc arcs) ≡ arcs
min_arcs [] = refl
min_arcs (a ∷ arcs) = ap (λ (rest : List ArcView). a ∷ rest) (min_arcs arcs)

no_node_arcs : (named : List (ℕ × ℤ)) → filter_map arc_in (map min_node named) ≡ []
no_node_arcs [] = refl
no_node_arcs (n ∷ named) = no_node_arcs named

pub max_given : (rs : List LineRecord) (m : MaxValue) → GivesMax rs m → arcs_in (records_of rs) ≡ m.arcs
max_given rs m (inl is, law) = ap arcs_in is ∙ max_arcs m.arcs law.capacities
max_given rs m (inr is, law) = ap arcs_in is ∙ max_arcs m.arcs law.capacities

pub min_given : (rs : List LineRecord) (m : MinValue) → GivesMin rs m → arcs_in (records_of rs) ≡ m.arcs
min_given rs m given =
    ap arcs_in given.records ∙ filter_map-append arc_in (map min_node given.named) (map min_arc m.arcs) ∙ ap₂ (λ (nodes arcs : List ArcView). nodes ++ arcs) (no_node_arcs given.named) (min_arcs m.arcs)

pub graph_given : (rs : List LineRecord) (g : NetworkValue) → GivesGraph rs g → arcs_in (records_of rs) ≡ g.arcs
graph_given rs g given = ap arcs_in given.0 ∙ graph_arcs g.arcs given.1.weights

-- one more record, with an arc or without
arcs_after : (rs : List LineRecord) (line : ℕ) (r : Record) → arcs_in (records_of (rs ++ on_line line r ∷ [])) ≡ arcs_in (records_of rs) ++ arcs_in (r ∷ [])
arcs_after rs line r =
    ap arcs_in (map-append (λ (it : LineRecord). it.spells) rs (on_line line r ∷ [])) ∙ filter_map-append arc_in (records_of rs) (r ∷ [])

pub one_arc : (rs : List LineRecord) (line : ℕ) (r : Record) (arc : ArcView) → arc_in r ≡ Some arc → arcs_in (records_of (rs ++ on_line line r ∷ [])) ≡ arcs_in (records_of rs) ++ arc ∷ []
one_arc rs line r arc is = arcs_after rs line r ∙ ap (λ (o : Option ArcView). arcs_in (records_of rs) ++ cons_option o []) is

pub no_arc : (rs : List LineRecord) (line : ℕ) (r : Record) → arc_in r ≡ None → arcs_in (records_of (rs ++ on_line line r ∷ [])) ≡ arcs_in (records_of rs)
no_arc rs line r is = arcs_after rs line r ∙ ap (λ (o : Option ArcView). arcs_in (records_of rs) ++ cons_option o []) is ∙ append-nil (arcs_in (records_of rs))

-- ---- the arrays of arcs
pub record AreFilled (arcs : List ArcView) (old new : ArcColumns) : Type 0 where
  pub tails : new.tails.now ≡ filled (tails_of arcs) old.tails.now
  pub heads : new.heads.now ≡ filled (heads_of arcs) old.heads.now
  pub lows : new.lows.now ≡ filled (lows_of arcs) old.lows.now
  pub caps : new.caps.now ≡ filled (caps_of arcs) old.caps.now
  pub costs : new.costs.now ≡ filled (costs_of arcs) old.costs.now

module _ {X : Type 0} (part : ArcView → X) (arcs : List ArcView) (at : ℕ) (count : at ≡ length arcs) where
  place : at ≡ length (map part arcs)
  place = count ∙ sym (length-map arcs part)

pub filled_columns : (arcs : List ArcView) (old new : ArcColumns) → Hold new arcs → AreLater old new → AreFilled arcs old new
filled_columns arcs old new hold later = record {
  tails = filled_by (tails_of arcs) old.tails.now new.tails.now hold.tails later.tails.long (rw (place (λ (a : ArcView). a.tail) arcs new.at hold.count) at later.tails.rest);
  heads = filled_by (heads_of arcs) old.heads.now new.heads.now hold.heads later.heads.long (rw (place (λ (a : ArcView). a.head) arcs new.at hold.count) at later.heads.rest);
  lows = filled_by (lows_of arcs) old.lows.now new.lows.now hold.lows later.lows.long (rw (place (λ (a : ArcView). a.low) arcs new.at hold.count) at later.lows.rest);
  caps = filled_by (caps_of arcs) old.caps.now new.caps.now hold.caps later.caps.long (rw (place (λ (a : ArcView). a.cap) arcs new.at hold.count) at later.caps.rest);
  costs = filled_by (costs_of arcs) old.costs.now new.costs.now hold.costs later.costs.long (rw (place (λ (a : ArcView). a.cost) arcs new.at hold.count) at later.costs.rest);
}

-- ---- the text
pub whole_inner : (kind : TextKind) (all : List (List ℕ)) (count : ℕ) (stands : List LineRecord → Type 0) (hold : List LineRecord → Type 0) → IsReadWhole kind all count (λ rs. stands rs × hold rs) → IsReadWhole kind all count stands
whole_inner kind all count stands hold whole = record { by_line = whole.by_line; counted = whole.counted; clean = whole.clean; stands = whole.stands.0 }

-- lines spell the same records
one_list : (kind : TextKind) (all : List (List ℕ)) (by_line other : List (Option Record)) → AreSpelled kind all by_line → Spell kind all other → numbered 1 other ≡ numbered 1 by_line
one_list kind all by_line other spelled spell =
    spells_one_value kind (λ rs given. given ≡ rs) all (numbered 1 other) (numbered 1 by_line) (λ rs v w is also. is ∙ sym also)
    (record { by_line = other; spelled = record { few = spelled.few; short = spelled.short; spell = spell }; given = refl })
    (record { by_line = by_line; spelled = spelled; given = refl })

module _ {T V : Type 0} (kind : TextKind) (gives : List LineRecord → V → Type 0) (sums_up : T → V → Type 0) (arcs : V → List ArcView)
    (faultless : (rs : List LineRecord) (v : V) → gives rs v → AreFaultless kind (records_of rs))
    (one : (rs : List LineRecord) (v w : V) → gives rs v → gives rs w → v ≡ w)
    (arcs_given : (rs : List LineRecord) (v : V) → gives rs v → arcs_in (records_of rs) ≡ arcs v)
    (few : (rs : List LineRecord) (v : V) → gives rs v → length (arcs v) ≤ most_count)
    (all : List (List ℕ)) where
  abbrev GivesSum : List LineRecord → T → Type 0
  GivesSum rs sum = (v : V) × gives rs v × sums_up sum v

  --   the value that the text spells, and its arcs in the arrays
  pub record IsReadInto (sum : T) (old new : ArcColumns) : Type 0 where
    pub value : V
    pub summed : sums_up sum value
    pub reads : Reads (SpellsValue kind gives all) (Fault kind all) (Ok value)
    pub filled : AreFilled (arcs value) old new

  pub read_into : (count : ℕ) (stands : List LineRecord → Type 0) (old new : ArcColumns) (sum : T)
      → IsReadWhole kind all count (λ rs. stands rs × HoldArcs new (arcs_in (records_of rs))) → ReadsLines kind GivesSum all (Ok sum) → AreLater old new → IsReadInto sum old new
  read_into count stands old new sum whole ended later =
      let (v, given, summed) = ended.given in
      let same = one_list kind all ended.by_line whole.by_line (spelled_of_faultless kind all ended.by_line ended.faultless) whole.clean.spell in
      let hold : HoldArcs new (arcs v) = rw (arcs_given (numbered 1 ended.by_line) v given) at (rw same at whole.stands.1) in
      record {
        value = v;
        summed = summed;
        reads = reads_exactly kind gives all (Ok v) faultless one (record { by_line = ended.by_line; faultless = ended.faultless; given = given });
        filled = filled_columns (arcs v) old new (hold (few (numbered 1 ended.by_line) v given)) later;
      }

  pub unread : (error : ReadError) → ReadsLines kind GivesSum all (Err error) → Reads (SpellsValue kind gives all) (Fault kind all) (Err error)
  unread (read_errors.Refused place reason) fault = reads_exactly kind gives all (Err (read_errors.Refused place reason)) faultless one fault
  unread read_errors.Device done = tt
  unread read_errors.Memory done = tt

  pub refused : (error : ReadError) → RefusesLine kind all error → Reads (SpellsValue kind gives all) (Fault kind all) (Err error)
  refused (read_errors.Refused place reason) fault = unread (read_errors.Refused place reason) (inl fault)
  refused read_errors.Device done = tt
  refused read_errors.Memory done = tt

-- ---- each kind
abbrev pub StandAnd : ArcColumns → (List LineRecord → Type 0) → List LineRecord → Type 0
StandAnd columns stands rs = stands rs × HoldArcs columns (arcs_in (records_of rs))

module _ (text : List ℕ) (count : ℕ) (stands : List LineRecord → Type 0) (old new : ArcColumns) (later : AreLater old new) (tails heads : List ℕ) (tails_are : tails ≡ new.tails.now) (heads_are : heads ≡ new.heads.now) where
  pub max_into : (caps : List ℤ) → caps ≡ new.caps.now → (sum : MaxSummary) → IsReadWhole Max (lines text) count (StandAnd new stands) → ReadsLines Max (λ rs s. (m : MaxValue) × GivesMax rs m × SumsUpMax s m) (lines text) (Ok sum)
      → ReadsMaxInto text (old.tails.now, tails) (old.heads.now, heads) (old.caps.now, caps) (Ok (record { nodes = sum.nodes; source = sum.source; sink = sum.sink; arcs = sum.arcs }))
  max_into caps caps_are sum whole ended =
      let read = read_into Max GivesMax SumsUpMax (λ (m : MaxValue). m.arcs) max_faultless one_max max_given (λ rs m given. given.1.arcs_few) (lines text) count stands old new sum whole ended later in (
        Ok read.value,
        read.reads,
        ap (λ (s : MaxSummary). Ok (record { nodes = s.nodes; source = s.source; sink = s.sink; arcs = s.arcs })) read.summed,
        (tails_are ∙ read.filled.tails, heads_are ∙ read.filled.heads, caps_are ∙ read.filled.caps),
      )

  pub graph_into : (weights : List ℤ) → weights ≡ new.costs.now → (sum : GraphSummary) → IsReadWhole Graph (lines text) count (StandAnd new stands) → ReadsLines Graph (λ rs s. (g : NetworkValue) × GivesGraph rs g × SumsUpGraph s g) (lines text) (Ok sum)
      → ReadsGraphInto text (old.tails.now, tails) (old.heads.now, heads) (old.costs.now, weights) (Ok (record { nodes = sum.nodes; arcs = sum.arcs }))
  graph_into weights weights_are sum whole ended =
      let read = read_into Graph GivesGraph SumsUpGraph (λ (g : NetworkValue). g.arcs) graph_faultless one_graph graph_given (λ rs g given. given.1.arcs_few) (lines text) count stands old new sum whole ended later in (
        Ok read.value,
        read.reads,
        ap (λ (s : GraphSummary). Ok (record { nodes = s.nodes; arcs = s.arcs })) read.summed,
        (tails_are ∙ read.filled.tails, heads_are ∙ read.filled.heads, weights_are ∙ read.filled.costs),
      )

  pub min_into : (lows caps costs supplies_old supplies : List ℤ) → lows ≡ new.lows.now → caps ≡ new.caps.now → costs ≡ new.costs.now → (sum : MinNodes) (nodes : ℕ) → nodes ≡ sum.without_arcs.nodes → supplies ≡ filled (supplies_of sum.without_arcs) supplies_old
      → IsReadWhole Min (lines text) count (StandAnd new stands) → ReadsLines Min (λ rs s. (m : MinValue) × GivesMin rs m × HasNodes s m) (lines text) (Ok sum)
      → ReadsMinInto text (old.tails.now, tails) (old.heads.now, heads) (old.lows.now, lows) (old.caps.now, caps) (old.costs.now, costs) (supplies_old, supplies) (Ok (record { nodes = nodes; arcs = sum.arcs }))
  min_into lows caps costs supplies_old supplies lows_are caps_are costs_are sum nodes nodes_are supplied whole ended =
      let read = read_into Min GivesMin HasNodes (λ (m : MinValue). m.arcs) min_faultless one_min min_given (λ rs m given. given.is_min.arcs_few) (lines text) count stands old new sum whole ended later in (
        Ok read.value,
        read.reads,
        rw nodes_are (ap (λ (s : MinNodes). Ok (record { nodes = s.without_arcs.nodes; arcs = s.arcs })) read.summed),
        (tails_are ∙ read.filled.tails, heads_are ∙ read.filled.heads, lows_are ∙ read.filled.lows, caps_are ∙ read.filled.caps, costs_are ∙ read.filled.costs, supplied ∙ ap (λ (s : MinNodes). filled (supplies_of s.without_arcs) supplies_old) read.summed),
      )
