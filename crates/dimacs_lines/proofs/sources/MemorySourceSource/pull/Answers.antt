use Rattle.std.proofs.Common.{◌≡◌, ◌≤◌, ◌<◌, ◌++◌, [], ◌∷◌, ℕ, List, Some, ◌∙◌, ap, ap₂, sym, refl, arith, length, take, drop, take_at}
use Rattle.std.proofs.lemmas.List.{length-take-le, take-append-drop}
use Rattle.std.specs.Prelude.{min}
use Rattle.dimacs_lines.proofs.sources.MemorySourceSource.pull.Goals as goal

-- what was copied to the front, and what is left, are the text
copied_and_left : (text front back copied into : List ℕ) (count : ℕ) → copied ≡ front → front ≡ take count text → back ≡ drop count text → count ≤ length text → text ≡ take count (copied ++ drop count into) ++ back
copied_and_left text front back copied into count copies front_is back_is few =
    let is = copies ∙ front_is in
    let size : length copied ≡ count = ap length is ∙ length-take-le count text few in
    sym (ap (λ xs. xs ++ back) (take_at copied (drop count into) count size) ∙ ap₂ (λ xs ys. xs ++ ys) is back_is ∙ take-append-drop count text)

nothing_left : (text : List ℕ) (most : ℕ) → 0 < most → min most (length text) ≡ 0 → text ≡ []
nothing_left [] most room none = refl
nothing_left (b ∷ bs) most room none = absurd (omega (arith, room, none))

pub returns-clause-given : goal.returns-clause-given
returns-clause-given c =
    ap (λ xs. Some xs) (sym c.self.view_is ∙ copied_and_left _ _ _ c.copy_from_slice.new.self c.args.into.now c.min-count.result c.copy_from_slice.ensures.after c.split_at.ensures.front c.split_at.ensures.back (omega (arith, c.min-count.ensures)))

pub returns-clause-end : goal.returns-clause-end
returns-clause-end c = λ room e.
    let none : c.min-count.result ≡ 0 = cc in
    sym c.self.view_is ∙ nothing_left c.self.inside.rest.now _ room (sym c.min-count.ensures ∙ none)
