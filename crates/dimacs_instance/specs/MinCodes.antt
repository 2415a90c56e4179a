-- How the values of minimum cost flow instances are stored.
use Rattle.std.specs.{Prelude.{ℕ, ℤ, List, refl}, Coded.{Coded, code_by, coded×, coded_ℕ, coded_ℤ, coded_list}}
use Rattle.std.specs.{Ordering.{nat_cmp}, FinMap.{FinMap}}
use Rattle.dimacs_network.specs.declared.network.ArcView.{ArcView}
use Rattle.dimacs_instance.specs.{MinFlows.{MinValue}, MinReading.{MinBegun, MinCount}}
use Rattle.std.specs.FinMap as map

abbrev arc_code : Coded ArcView
arc_code =
    code_by (ℕ × (ℕ × (ℤ × (ℤ × ℤ)))) (coded× coded_ℕ (coded× coded_ℕ (coded× coded_ℤ (coded× coded_ℤ coded_ℤ))))
    (λ a. (a.tail, (a.head, (a.low, (a.cap, a.cost)))))
    (λ p. record { tail = p.0; head = p.1.0; low = p.1.1.0; cap = p.1.1.1.0; cost = p.1.1.1.1 }) (λ _. refl)

abbrev pub supplies_code : Coded (FinMap nat_cmp ℤ)
supplies_code = map.code coded_ℕ coded_ℤ

abbrev pub min_code : Coded MinValue
min_code =
    code_by (ℕ × (FinMap nat_cmp ℤ × List ArcView)) (coded× coded_ℕ (coded× supplies_code (coded_list arc_code))) (λ m. (m.nodes, (m.supplies, m.arcs)))
    (λ p. record { nodes = p.0; supplies = p.1.0; arcs = p.1.1 }) (λ _. refl)

abbrev pub begun_code : Coded MinBegun
begun_code =
    code_by (ℕ × (ℕ × (FinMap nat_cmp ℤ × List ArcView))) (coded× coded_ℕ (coded× coded_ℕ (coded× supplies_code (coded_list arc_code))))
    (λ b. (b.nodes, (b.declared, (b.supplies, b.arcs))))
    (λ p. record { nodes = p.0; declared = p.1.0; supplies = p.1.1.0; arcs = p.1.1.1 }) (λ _. refl)

-- how the counts are stored
abbrev pub count_code : Coded MinCount
count_code =
    code_by (ℕ × (ℕ × (FinMap nat_cmp ℤ × ℕ))) (coded× coded_ℕ (coded× coded_ℕ (coded× supplies_code coded_ℕ)))
    (λ c. (c.nodes, (c.declared, (c.supplies, c.arcs))))
    (λ p. record { nodes = p.0; declared = p.1.0; supplies = p.1.1.0; arcs = p.1.1.1 }) (λ _. refl)
