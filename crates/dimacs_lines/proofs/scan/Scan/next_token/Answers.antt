use Rattle.std.proofs.Common.{◌≡◌, ◌+◌, ◌-◌, ◌<◌, ◌≤◌, ◌∙◌, ◌∷◌, ℕ, refl, arith, length, take, drop, ap, sym, length-drop, List, subst}
use Rattle.std.proofs.{lemmas.List.{length-take}, lemmas.List.Sums.{prefix_len-le-length}}
use Rattle.std.proofs.{lemmas.Slice.{between_to_end}, Math.ListN.{drop_of_length-le}}
use Rattle.std.specs.{Prelude.{not}, List.{position_or_len}}
use Rattle.dimacs_lines.specs.Fields.{is_blank, runs_from}
use Rattle.dimacs_lines.proofs.FieldLemmas.{runs_next, runs_none}
use Rattle.dimacs_lines.proofs.scan.Scan.next_token.Goals as goal

pub returns-then-start-line-clause-none : goal.returns-then-start-line-clause-none
returns-then-start-line-clause-none c =
    let line = c.self.inside.line.now in
    let at = c.self.inside.at in
    let n = c.leading_blanks.result in
    let inside : at ≤ length line = c.self.invariant in
    let blanks : n ≡ position_or_len (λ b. not (is_blank b)) (drop at line) = rw (between_to_end line at (length line) (omega arith)) at c.leading_blanks.ensures.length in
    let end : length line ≤ at + n = omega (arith, c.if-start-line.true) in
    (rw (← c.self.view_is) (runs_none line at n blanks end), ap (runs_from (at + n)) (drop_of_length-le line end))

pub returns-clause-some : goal.returns-clause-some
returns-clause-some c =
    let line = c.self.inside.line.now in
    let at = c.self.inside.at in
    let n = c.leading_blanks.result in
    let token = c.token_at-token.result in
    let r = position_or_len is_blank (drop (at + n) line) in
    let inside : at ≤ length line = c.self.invariant in
    let blanks : n ≡ position_or_len (λ b. not (is_blank b)) (drop at line) = rw (between_to_end line at (length line) (omega arith)) at c.leading_blanks.ensures.length in
    let most : n ≤ length line - at = rw (between_to_end line at (length line) (omega arith), length-drop at line) at c.leading_blanks.ensures.within in
    let some : at + n < length line = omega (arith, c.if-start-line.false) in
    let text : token.field.text.now ≡ take r (drop (at + n) line) = c.token_at-token.ensures.text in
    let start : token.field.start ≡ at + n = c.token_at-token.ensures.start in
    let fits : r ≤ length (drop (at + n) line) = prefix_len-le-length (λ b. not (is_blank b)) (drop (at + n) line) in
    let same : r ≡ length token.field.text.now = sym (ap length text ∙ (length-take r (drop (at + n) line) ∙ omega (arith, fits))) in
    let P : List ℕ → ℕ → ℕ → Type 0 = λ ys from k. runs_from at (drop at line) ≡ record { text = ys; start = from } ∷ runs_from (at + n + k) (drop (at + n + k) line) in
    let step : P (take r (drop (at + n) line)) (at + n) r = runs_next line at n r blanks some refl in
    let told : P token.field.text.now token.field.start (length token.field.text.now) =
    subst (λ ys. P ys token.field.start (length token.field.text.now)) (sym text) (subst (λ from. P (take r (drop (at + n) line)) from (length token.field.text.now)) (sym start) (subst (P (take r (drop (at + n) line)) (at + n)) same step)) in
    rw (← c.self.view_is) told
