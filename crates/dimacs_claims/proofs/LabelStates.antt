-- What is known of the earlier records of labels, and which records are allowed after them.
use Rattle.std.proofs.Common.{◌≡◌, ℕ, ◌<◌, ◌≤◌, ◌+◌, ◌∷◌, ◌++◌, [], List, Bool, true, false, Option, Some, None, length, refl, ap, sym, ◌∙◌, arith}
use Rattle.std.proofs.{Math.Bool.{or-false}, lemmas.Bool.{le-ltb}, lemmas.Bool.Decides.{nat_tests}}
use Rattle.std.proofs.{lemmas.List.{length-append}, lemmas.List.Elements.{filter-append}}
use Rattle.std.proofs.{lemmas.List.Folds.{list_any-append}, lemmas.List.Sums.{fold-append}}
use Rattle.std.specs.{Prelude.{ℤ, is_none, nat_le, ◌==◌, ◌||◌}, List.{list_any}}
use Rattle.dimacs_records.specs.{declared.kinds.TextKind.TheVariants.{Labels}, declared.records.Record.{Record}}
use Rattle.dimacs_records.specs.declared.records.Record.TheVariants.{LabelsProblem, LabelsBlock, LabelsNode}
use Rattle.dimacs_records.specs.Blocks.{Block, block_in, block_after, is_labelled, is_full_block, is_past_block, is_short_block}
use Rattle.dimacs_records.specs.{declared.order.Declared.{Declared}, Readings.{IsAllowed, IsComplete}}
use Rattle.dimacs_records.specs.Earlier.{declares, problem_in, problem_of, or_else, counted_in, is_counted, names}
use Rattle.dimacs_records.proofs.ConditionLemmas.{is_allowed, is_complete}

abbrev pub is_source : ℕ → ℕ → Bool
is_source id source = source == id

-- the earlier records have this problem line, blocks of these sources, and this last block
pub record Say (earlier : List Record) (nodes declared : ℕ) (sources : List ℕ) (last : Option Block) : Type 0 where
  pub problem : problem_in earlier ≡ declares nodes declared
  pub counted : counted_in earlier ≡ length sources
  pub named : (id : ℕ) → list_any (names id) earlier ≡ list_any (is_source id) sources
  pub block : block_in earlier ≡ last

abbrev pub opened : ℕ → ℕ → Option ℤ → List ℕ → Block
opened source count radius ids = record { source = source; count = count; radius = radius; ids = ids }

problem_in-append : (rs more : List Record) (p : Declared) → problem_in rs ≡ Some p → problem_in (rs ++ more) ≡ Some p
problem_in-append [] more p h = absurd (cc)
problem_in-append (r ∷ rs) more p h = by_first (problem_of r) refl h (problem_in-append rs more p)
  where
    by_first : (first : Option Declared) → problem_of r ≡ first → or_else first (problem_in rs) ≡ Some p → (problem_in rs ≡ Some p → problem_in (rs ++ more) ≡ Some p) → or_else (problem_of r) (problem_in (rs ++ more)) ≡ Some p
    by_first None e t after = rw e (after t)
    by_first (Some q) e t after = rw e t

counted_in-append : (rs more : List Record) → counted_in (rs ++ more) ≡ counted_in rs + counted_in more
counted_in-append rs more = ap length (filter-append is_counted rs more) ∙ length-append _ _

block_in-push : (rs : List Record) (r : Record) → block_in (rs ++ r ∷ []) ≡ block_after (block_in rs) r
block_in-push rs r = fold-append block_after None rs (r ∷ [])

-- after the problem line
pub say_problem : (nodes declared : ℕ) → Say (LabelsProblem nodes declared ∷ []) nodes declared [] None
say_problem nodes declared = record { problem = refl; counted = refl; named = λ id. refl; block = refl }

-- what follows from that
module _ (earlier : List Record) (nodes declared : ℕ) (sources : List ℕ) (last : Option Block) (say : Say earlier nodes declared sources last) where
  pub say_block : (source count : ℕ) (radius : Option ℤ) → Say (earlier ++ LabelsBlock source count radius ∷ []) nodes declared (sources ++ source ∷ []) (Some (opened source count radius []))
  say_block source count radius = record {
    problem = problem_in-append earlier (LabelsBlock source count radius ∷ []) _ say.problem;
    counted = counted_in-append earlier (LabelsBlock source count radius ∷ []) ∙ (ap (λ n. n + 1) say.counted ∙ sym (length-append sources (source ∷ [])));
    named = λ id. list_any-append (names id) earlier (LabelsBlock source count radius ∷ []) ∙ (ap (λ b. b || list_any (is_source id) (source ∷ [])) (say.named id) ∙ sym (list_any-append (is_source id) sources (source ∷ [])));
    block = block_in-push earlier (LabelsBlock source count radius);
  }

  pub block_allowed : (source count : ℕ) (radius : Option ℤ) → source ≤ nodes → list_any (is_source source) sources ≡ false → length sources < declared → is_short_block last ≡ false → IsAllowed earlier (LabelsBlock source count radius)
  block_allowed source count radius within fresh room short =
      let counted : nat_le declared (length sources) ≡ false = grind (arith, nat_tests, room) in
      is_allowed earlier (LabelsBlock source count radius) (rw (say.problem, say.counted, say.block, le-ltb nodes source within, say.named source, fresh, counted, short) refl)

  pub label_allowed : (id : ℕ) (dist : ℤ) (pred : ℕ) → is_none last ≡ false → id ≤ nodes → pred ≤ nodes → is_labelled last id ≡ false → is_full_block last ≡ false → is_labelled last pred ≡ true → is_past_block last dist ≡ false → IsAllowed earlier (LabelsNode id dist pred)
  label_allowed id dist pred inside id_within pred_within fresh room known near =
      is_allowed earlier (LabelsNode id dist pred) (rw (say.problem, say.block, inside, le-ltb nodes id id_within, le-ltb nodes pred pred_within, fresh, room, known, near) refl)

  pub all_there : declared ≤ length sources → is_short_block last ≡ false → IsComplete Labels earlier
  all_there full short = is_complete Labels earlier (rw (say.problem, say.counted, say.block, le-ltb (length sources) declared full, short) refl)

-- one more label
pub say_label : (earlier : List Record) (nodes declared : ℕ) (sources : List ℕ) (source count : ℕ) (radius : Option ℤ) (ids : List ℕ) → Say earlier nodes declared sources (Some (opened source count radius ids))
    → (id : ℕ) (dist : ℤ) (pred : ℕ) → Say (earlier ++ LabelsNode id dist pred ∷ []) nodes declared sources (Some (opened source count radius (ids ++ id ∷ [])))
say_label earlier nodes declared sources source count radius ids say id dist pred = record {
  problem = problem_in-append earlier (LabelsNode id dist pred ∷ []) _ say.problem;
  counted = counted_in-append earlier (LabelsNode id dist pred ∷ []) ∙ omega (arith, say.counted);
  named = λ v. list_any-append (names v) earlier (LabelsNode id dist pred ∷ []) ∙ (or-false _ ∙ say.named v);
  block = block_in-push earlier (LabelsNode id dist pred) ∙ ap (λ b. block_after b (LabelsNode id dist pred)) say.block;
}

-- before the first record
pub first_problem : (nodes blocks : ℕ) → IsAllowed [] (LabelsProblem nodes blocks)
first_problem nodes blocks = is_allowed [] (LabelsProblem nodes blocks) refl
