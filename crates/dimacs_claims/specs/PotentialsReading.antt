-- Potentials while their text is read, and how such values are stored.
use Rattle.std.specs.{Prelude.{ℕ, ℤ, ◌≡◌, ◌≤◌, List, length, refl, Bool, Some, is_some}, Ordering.{nat_cmp}}
use Rattle.std.specs.{Coded.{Coded, code_by, coded×, coded_ℕ, coded_ℤ}, FinMap.{FinMap, from_entries, get}}
use Rattle.dimacs_records.specs.{declared.records.Record.{Record}, NodeValues.{NameNodes}, Tests.{plain_context_of}}
use Rattle.dimacs_records.specs.{declared.order.Context.{Context}, declared.records.Record.TheVariants.{PotentialsNode}}
use Rattle.dimacs_claims.specs.Potentials.{PotentialsValue, potentials_records}
use Rattle.std.specs.FinMap as map

-- the declared numbers, how many lines came, and the potentials on them
pub record PotentialsBegun : Type 0 where
  pub nodes : ℕ
  pub declared : ℕ
  pub taken : ℕ
  pub values : FinMap nat_cmp ℤ

-- these records may lead to this state
pub record ArePotentialsBegunBy (begun : PotentialsBegun) (rs : List Record) : Type 0 where
  pub named : List (ℕ × ℤ)
  pub name_nodes : NameNodes begun.nodes named
  pub values : begun.values ≡ from_entries named
  pub count : begun.taken ≡ length named
  pub no_more : begun.taken ≤ begun.declared
  pub records : rs ≡ potentials_records begun.nodes begun.declared named

abbrev pub potentials_code : Coded PotentialsValue
potentials_code = code_by (ℕ × FinMap nat_cmp ℤ) (coded× coded_ℕ (map.code coded_ℕ coded_ℤ))
    (λ p. (p.nodes, p.values)) (λ p. record { nodes = p.0; values = p.1 }) (λ _. refl)

abbrev pub begun_code : Coded PotentialsBegun
begun_code =
    code_by (ℕ × (ℕ × (ℕ × FinMap nat_cmp ℤ))) (coded× coded_ℕ (coded× coded_ℕ (coded× coded_ℕ (map.code coded_ℕ coded_ℤ))))
    (λ b. (b.nodes, (b.declared, (b.taken, b.values))))
    (λ p. record { nodes = p.0; declared = p.1.0; taken = p.1.1.0; values = p.1.1.1 }) (λ _. refl)

abbrev pub has_line : PotentialsBegun → ℕ → Bool
has_line begun id = is_some (get begun.values id)

-- what the tests need after the problem line and these lines
abbrev pub plain_context : PotentialsBegun → Context
plain_context begun = plain_context_of (Some (record { nodes = Some begun.nodes; count = begun.declared })) begun.taken

-- the same for one more record
abbrev pub context : PotentialsBegun → Record → Context
context begun (PotentialsNode id value) = record (plain_context begun) { named = has_line begun id }
context begun r = plain_context begun
