-- A set of nodes while its text is read, and how such values are stored.
use Rattle.std.specs.{Prelude.{ℕ, ◌≡◌, ◌≤◌, List, length, refl, Some}, Coded.{Coded, code_by, coded×, coded_ℕ}}
use Rattle.std.specs.{Ordering.{nat_cmp}, FinSet.{FinSet, from_list, contains}}
use Rattle.dimacs_records.specs.{declared.records.Record.{Record}, declared.order.Context.{Context}}
use Rattle.dimacs_records.specs.{declared.records.Record.TheVariants.{CutNode}, Tests.{plain_context_of}}
use Rattle.dimacs_claims.specs.Cuts.{CutValue, IsCut, AreNamed, cut_records, ids_in}
use Rattle.std.specs.FinSet as set

-- the declared count, and the nodes so far
pub record CutBegun : Type 0 where
  pub declared : ℕ
  pub cut : CutValue

-- these records may lead to this state
pub record IsCutBegunBy (begun : CutBegun) (rs : List Record) : Type 0 where
  pub named : List ℕ
  pub are_named : AreNamed begun.cut.nodes named
  pub ids : begun.cut.ids ≡ from_list named
  pub count : length (ids_in begun.cut) ≡ length named
  pub no_more : length named ≤ begun.declared
  pub is_cut : IsCut begun.cut
  pub records : rs ≡ cut_records begun.cut.nodes begun.declared named

abbrev pub cut_code : Coded CutValue
cut_code = code_by (ℕ × FinSet nat_cmp) (coded× coded_ℕ (set.code coded_ℕ)) (λ c. (c.nodes, c.ids)) (λ p. record { nodes = p.0; ids = p.1 }) (λ _. refl)

abbrev pub begun_code : Coded CutBegun
begun_code = code_by (ℕ × CutValue) (coded× coded_ℕ cut_code) (λ b. (b.declared, b.cut)) (λ p. record { declared = p.0; cut = p.1 }) (λ _. refl)

-- what the tests need after the problem line and these nodes
abbrev pub plain_context : CutBegun → Context
plain_context begun = plain_context_of (Some (record { nodes = Some begun.cut.nodes; count = begun.declared })) (length (ids_in begun.cut))

-- the same for one more record
abbrev pub context : CutBegun → Record → Context
context begun (CutNode id) = record (plain_context begun) { named = contains begun.cut.ids id }
context begun r = plain_context begun
