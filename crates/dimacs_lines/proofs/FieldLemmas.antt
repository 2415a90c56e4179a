-- The runs of a line, one after another.
use Rattle.std.proofs.Common.{◌≡◌, ◌+◌, ◌<◌, ◌≤◌, ◌∷◌, [], ℕ, suc, List, Bool, true, false, length, take, drop, get_or, refl, ap, sym, ◌∙◌, subst, arith, drop-cons, length-drop}
use Rattle.std.proofs.{Math.ListN.{drop_of_length-le}, lemmas.Bool.{cond_both, eq-eqb}, lemmas.Bool.Decides.{nat_tests}}
use Rattle.std.proofs.{lemmas.List.{drop-drop}, lemmas.List.Elements.{All-nil, All-cons, All-head, All-tail}}
use Rattle.std.proofs.lemmas.List.Sums.{passes_at_first}
use Rattle.std.specs.{Prelude.{not, ◌==◌}, List.{position_or_len, All}}
use Rattle.dimacs_lines.specs.Fields.{is_blank, Run, onto_runs, runs_from}

-- no run of what starts at place i starts before it
abbrev StartsFrom : ℕ → Run → Type 0
StartsFrom i run = i ≤ run.start

starts_later : (i j : ℕ) (runs : List Run) → i ≤ j → All (StartsFrom j) runs → All (StartsFrom i) runs
starts_later i j [] le all = All-nil (StartsFrom i)
starts_later i j (run ∷ runs) le all = All-cons (StartsFrom i) run runs (omega (arith, All-head (StartsFrom j) run runs all)) (starts_later i j runs le (All-tail (StartsFrom j) run runs all))

onto_starts : (b i : ℕ) (runs : List Run) → All (StartsFrom (suc i)) runs → All (StartsFrom i) (onto_runs b i runs)
onto_starts b i [] all = All-cons (StartsFrom i) _ [] (omega arith) (All-nil (StartsFrom i))
onto_starts b i (run ∷ runs) all =
    cond_both (run.start == suc i) _ _ (All (StartsFrom i))
    (λ _. All-cons (StartsFrom i) _ runs (omega arith) (starts_later i (suc i) runs (omega arith) (All-tail (StartsFrom (suc i)) run runs all)))
    (λ _. All-cons (StartsFrom i) _ (run ∷ runs) (omega arith) (starts_later i (suc i) (run ∷ runs) (omega arith) all))

pub runs_start : (i : ℕ) (xs : List ℕ) → All (StartsFrom i) (runs_from i xs)
runs_start i [] = All-nil (StartsFrom i)
runs_start i (b ∷ bs) =
    let later = runs_from (suc i) bs in
    let start = runs_start (suc i) bs in
    cond_both (is_blank b) _ _ (All (StartsFrom i)) (λ _. starts_later i (suc i) later (omega arith) start) (λ _. onto_starts b i later start)

same_runs : (i j : ℕ) (xs ys : List ℕ) → i ≡ j → xs ≡ ys → runs_from i xs ≡ runs_from j ys
same_runs i j xs ys p q = cc

drop_one_more : (n b : ℕ) (bs : List ℕ) → drop (1 + n) (b ∷ bs) ≡ drop n bs
drop_one_more n b bs = let e : 1 + n ≡ suc n = omega arith in rw e refl

-- how many blanks the bytes begin with, and how many bytes stand before the first blank
abbrev pub blanks_in : List ℕ → ℕ
blanks_in xs = position_or_len (λ b. not (is_blank b)) xs

abbrev pub run_in : List ℕ → ℕ
run_in xs = position_or_len is_blank xs

past_at : (test : Bool) (i b : ℕ) (bs : List ℕ) → is_blank b ≡ test → runs_from (suc i) bs ≡ runs_from (suc i + blanks_in bs) (drop (blanks_in bs) bs) → runs_from i (b ∷ bs) ≡ runs_from (i + blanks_in (b ∷ bs)) (drop (blanks_in (b ∷ bs)) (b ∷ bs))
past_at true i b bs h more =
    let skipped : runs_from i (b ∷ bs) ≡ runs_from (suc i) bs = rw h refl in
    let n : blanks_in (b ∷ bs) ≡ 1 + blanks_in bs = rw h refl in
    skipped ∙ (more ∙ rw n (same_runs (suc i + blanks_in bs) (i + (1 + blanks_in bs)) (drop (blanks_in bs) bs) (drop (1 + blanks_in bs) (b ∷ bs)) (omega arith) (sym (drop_one_more (blanks_in bs) b bs))))
past_at false i b bs h more =
    let n : blanks_in (b ∷ bs) ≡ 0 = rw h refl in
    rw n (same_runs i (i + 0) (b ∷ bs) (b ∷ bs) (omega arith) refl)

-- leading blanks add no run
runs_past : (i : ℕ) (xs : List ℕ) → runs_from i xs ≡ runs_from (i + blanks_in xs) (drop (blanks_in xs) xs)
runs_past i [] = refl
runs_past i (b ∷ bs) = past_at (is_blank b) i b bs refl (runs_past (suc i) bs)

-- a run of n bytes, and the later ones
abbrev run_and_rest : ℕ → ℕ → List ℕ → List Run
run_and_rest i n xs = record { text = take n xs; start = i } ∷ runs_from (i + n) (drop n xs)

longer : (b i n : ℕ) (bs : List ℕ) → onto_runs b i (run_and_rest (suc i) n bs) ≡ run_and_rest i (1 + n) (b ∷ bs)
longer b i n bs =
    let e : 1 + n ≡ suc n = omega arith in
    rw (e, eq-eqb (suc i) (suc i) refl) (ap (λ k. record { text = b ∷ take n bs; start = i } ∷ runs_from k (drop n bs)) (omega arith))

-- a byte before a blank is a run by itself
alone : (b i : ℕ) (runs : List Run) → All (StartsFrom (suc (suc i))) runs → onto_runs b i runs ≡ record { text = b ∷ []; start = i } ∷ runs
alone b i [] all = refl
alone b i (run ∷ runs) all = let later = All-head (StartsFrom (suc (suc i))) run runs all in let no : (run.start == suc i) ≡ false = grind (arith, nat_tests, later) in rw no refl

run_at : (test : Bool) (i b c : ℕ) (cs : List ℕ) → is_blank b ≡ false → is_blank c ≡ test → (is_blank c ≡ false → runs_from (suc i) (c ∷ cs) ≡ run_and_rest (suc i) (run_in (c ∷ cs)) (c ∷ cs)) → runs_from i (b ∷ c ∷ cs) ≡ run_and_rest i (run_in (b ∷ c ∷ cs)) (b ∷ c ∷ cs)
run_at true i b c cs h blank more =
    let n : run_in (b ∷ c ∷ cs) ≡ 1 = rw (h, blank) refl in
    let after : runs_from (suc i) (c ∷ cs) ≡ runs_from (suc (suc i)) cs = rw blank refl in
    let joined : runs_from i (b ∷ c ∷ cs) ≡ onto_runs b i (runs_from (suc i) (c ∷ cs)) = rw h refl in
    joined ∙ ap (onto_runs b i) after ∙ alone b i (runs_from (suc (suc i)) cs) (runs_start (suc (suc i)) cs)
    ∙ ap (λ runs. record { text = b ∷ []; start = i } ∷ runs) (sym after ∙ same_runs (suc i) (i + 1) (c ∷ cs) (c ∷ cs) (omega arith) refl) ∙ ap (λ k. run_and_rest i k (b ∷ c ∷ cs)) (sym n)
run_at false i b c cs h solid more =
    let n : run_in (b ∷ c ∷ cs) ≡ 1 + run_in (c ∷ cs) = rw h refl in
    let joined : runs_from i (b ∷ c ∷ cs) ≡ onto_runs b i (runs_from (suc i) (c ∷ cs)) = rw h refl in
    joined ∙ (ap (onto_runs b i) (more solid) ∙ (longer b i (run_in (c ∷ cs)) (c ∷ cs) ∙ ap (λ k. run_and_rest i k (b ∷ c ∷ cs)) (sym n)))

-- a byte that is no blank begins the first run
runs_first : (i b : ℕ) (bs : List ℕ) → is_blank b ≡ false → runs_from i (b ∷ bs) ≡ run_and_rest i (run_in (b ∷ bs)) (b ∷ bs)
runs_first i b [] h = rw h refl
runs_first i b (c ∷ cs) h = run_at (is_blank c) i b c cs h refl (runs_first (suc i) c cs)

not_not : (b : Bool) → not b ≡ true → b ≡ false
not_not true h = absurd (cc)
not_not false h = refl

runs_next_in : (i : ℕ) (xs : List ℕ) → blanks_in xs < length xs → runs_from i xs ≡ run_and_rest (i + blanks_in xs) (run_in (drop (blanks_in xs) xs)) (drop (blanks_in xs) xs)
runs_next_in i xs h =
    let n = blanks_in xs in
    let cut : drop n xs ≡ get_or xs n 0 ∷ drop (suc n) xs = drop-cons xs n 0 h in
    let solid : is_blank (get_or xs n 0) ≡ false = not_not (is_blank (get_or xs n 0)) (passes_at_first (λ b. not (is_blank b)) xs 0 h) in
    let P : List ℕ → Type 0 = λ ys. runs_from (i + n) ys ≡ run_and_rest (i + n) (run_in ys) ys in
    runs_past i xs ∙ subst P (sym cut) (runs_first (i + n) (get_or xs n 0) (drop (suc n) xs) solid)

-- the first run after a place of a line, and the later ones
pub runs_next : (line : List ℕ) (at n r : ℕ) → n ≡ blanks_in (drop at line) → at + n < length line → r ≡ run_in (drop (at + n) line)
    → runs_from at (drop at line) ≡ record { text = take r (drop (at + n) line); start = at + n } ∷ runs_from (at + n + r) (drop (at + n + r) line)
runs_next line at n r blanks some run =
    let there : drop n (drop at line) ≡ drop (at + n) line = drop-drop n at line in
    let after : drop r (drop (at + n) line) ≡ drop (at + n + r) line = drop-drop r (at + n) line in
    let few : blanks_in (drop at line) < length (drop at line) = rw (← blanks, length-drop at line) (omega arith) in
    let P : ℕ → List ℕ → Type 0 = λ k ys. runs_from at (drop at line) ≡ run_and_rest (at + k) (run_in ys) ys in
    let step : P n (drop (at + n) line) = subst (P n) there (let Q : ℕ → Type 0 = λ k. P k (drop k (drop at line)) in subst Q (sym blanks) (runs_next_in at (drop at line) few)) in
    step ∙ (ap (λ k. run_and_rest (at + n) k (drop (at + n) line)) (sym run) ∙ ap (λ ys. record { text = take r (drop (at + n) line); start = at + n } ∷ runs_from (at + n + r) ys) after)

-- after a place with nothing but blanks
pub runs_none : (line : List ℕ) (at n : ℕ) → n ≡ blanks_in (drop at line) → length line ≤ at + n → runs_from at (drop at line) ≡ []
runs_none line at n blanks none =
    let gone : drop (blanks_in (drop at line)) (drop at line) ≡ [] = drop_of_length-le (drop at line) (rw (← blanks, length-drop at line) (omega arith)) in
    runs_past at (drop at line) ∙ ap (runs_from (at + blanks_in (drop at line))) gone
