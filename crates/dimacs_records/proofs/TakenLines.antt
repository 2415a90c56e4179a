-- Records that lines can spell, for any source.
use Rattle.std.proofs.Common.{ℕ, ◌<◌, ◌≤◌, ◌+◌, ◌++◌, ◌∷◌, [], List, Result, Ok, Err, arith}
use Rattle.std.proofs.{lemmas.List.Elements.{All-nil, All-push, All-weaker}, lemmas.List.{length-append}}
use Rattle.std.specs.Prelude.{OnOk}
use Rattle.dimacs_records.specs.{declared.kinds.TextKind.{TextKind}, declared.records.Record.{Record}}
use Rattle.dimacs_records.specs.declared.faults.TakeError.{TakeError}
use Rattle.dimacs_records.specs.Readings.{LineRecord, on_line, AreBefore, IsOfKind, HasTaken}

abbrev IsSpelled : TextKind → LineRecord → Type 0
IsSpelled kind r = IsOfKind kind r.spells

later : (line more : ℕ) (rs : List LineRecord) → line ≤ more → AreBefore line rs → AreBefore more rs
later line more rs no_less before = All-weaker (λ (r : LineRecord). r.line < line) (λ (r : LineRecord). r.line < more) (λ r h. omega (arith, h, no_less)) rs before

-- they are also before any later line
pub taken_before : (kind : TextKind) (line more : ℕ) (stands_for : List LineRecord → Type 0) → line ≤ more → HasTaken kind line stands_for → HasTaken kind more stands_for
taken_before kind line more stands_for no_less (rs, stands, are) =
    (rs, stands, record { of_kind = are.of_kind; before = later line more rs no_less are.before; few = omega (arith, are.few, no_less) })

-- before line 1 there are none
pub none_taken : (kind : TextKind) (stands_for : List LineRecord → Type 0) → stands_for [] → HasTaken kind 1 stands_for
none_taken kind stands_for stands = ([], stands, record { of_kind = All-nil (IsSpelled kind); before = All-nil (λ (r : LineRecord). r.line < 1); few = omega arith })

-- one more record was taken
pub one_taken : (kind : TextKind) (number : ℕ) (r : Record) (old new : List LineRecord → Type 0) → IsOfKind kind r
    → ((rs : List LineRecord) → old rs → AreBefore number rs → new (rs ++ on_line number r ∷ [])) → HasTaken kind number old → HasTaken kind (number + 1) new
one_taken kind number r old new is taken (rs, stands, are) = (
  rs ++ on_line number r ∷ [],
  taken rs stands are.before,
  record {
    of_kind = All-push (IsSpelled kind) rs (on_line number r) are.of_kind is;
    before = All-push (λ (x : LineRecord). x.line < number + 1) rs (on_line number r) (later number (number + 1) rs (omega arith) are.before) (omega arith);
    few = omega (arith, are.few, length-append rs (on_line number r ∷ []));
  },
)

pub one_taken_or_not : (kind : TextKind) (number : ℕ) (r : Record) (old new : List LineRecord → Type 0) (result : Result Unit TakeError) → IsOfKind kind r
    → OnOk result ((rs : List LineRecord) → old rs → AreBefore number rs → new (rs ++ on_line number r ∷ [])) → OnOk result (HasTaken kind number old → HasTaken kind (number + 1) new)
one_taken_or_not kind number r old new (Ok done) is taken = one_taken kind number r old new is taken
one_taken_or_not kind number r old new (Err error) is taken = tt
