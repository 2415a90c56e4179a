-- Which verb, files and options arguments name.
use Rattle.std.proofs.Common.{◌≡◌, ◌≤◌, ◌<◌, ◌+◌, ◌∙◌, ◌++◌, ◌∷◌, [], ℕ, List, append_assoc, drop, length, map, min, refl, suc, sym, take, ap, subst, arith, zero}
use Rattle.std.proofs.lemmas.List.{length-append, length-map, map-append, take-append-drop}
use Rattle.std.proofs.Math.Nat.{min-eq_left, min-eq_right, min-le_right}
use Rattle.std.proofs.Math.Seq.{drop-append_seam, take-append_seam}
use Rattle.std.specs.{Prelude.{◌==◌, if◌then◌else◌}, String.{string_bytes}}
use Rattle.dimacs_records.specs.declared.kinds.TextKind.{TextKind}
use Rattle.dimacs_records.specs.declared.kinds.TextKind.TheVariants.{Max, Min, Graph, Queries, Solution, Cut, Potentials, Labels, Distances}
use Rattle.dimacs_jobs.specs.{declared.jobs.Job.{Job}, declared.jobs.Verb.{Verb}}
use Rattle.dimacs_jobs.specs.declared.jobs.Verb.TheVariants.{Convert, Show, Judge, Certify, Spread, Solve}
use Rattle.dimacs_jobs.specs.Jobs.{AreOptions, Asks, HaveOnePlan, TakesFiles, Texts, kind_argument, least_count, texts_of, verb_words, without_limit}
use Rattle.dimacs_jobs.specs.declared.jobs.JudgeKind.TheVariants as judges
use Rattle.dimacs_jobs.specs.declared.jobs.SolveJob.TheVariants as solves
use Rattle.dimacs_jobs.specs.declared.jobs.SpreadKind.TheVariants as spreads

-- ---- a verb is known by its words: the sums of their letters differ
abbrev letters : List ℕ → ℕ
letters [] = 0
letters (x ∷ xs) = x + letters xs

abbrev kind_by : ℕ → TextKind
kind_by n =
    if n == 326 then Max else if n == 324 then Min else if n == 217 then Graph else if n == 566 then Queries else if n == 893 then Solution
    else if n == 332 then Cut else if n == 339 then Potentials else if n == 436 then Labels else Distances

abbrev kind_of : List (List ℕ) → TextKind
kind_of [] = Max
kind_of (word ∷ rest) = kind_by (letters word)

abbrev verb_by : ℕ → TextKind → Verb
verb_by n kind =
    if n == 769 then Convert kind else if n == 449 then Show kind
    else if n == 898 then Judge judges.Max else if n == 896 then Judge judges.Min
    else if n == 1614 then Judge judges.Infeasible else if n == 1116 then Judge judges.Paths
    else if n == 1129 then Certify judges.Max else if n == 1127 then Certify judges.Min
    else if n == 1845 then Certify judges.Infeasible else if n == 1347 then Certify judges.Paths
    else if n == 1010 then Spread spreads.Max else if n == 1008 then Spread spreads.Min
    else if n == 924 then Solve (solves.Max 0) else if n == 922 then Solve (solves.Min 0) else Solve solves.Paths

abbrev verb_of : List (List ℕ) → Verb
verb_of [] = Show Max
verb_of (word ∷ rest) = verb_by (letters word) (kind_of rest)

kind_known : (kind : TextKind) → kind_by (letters (kind_argument kind)) ≡ kind
kind_known Max = refl
kind_known Min = refl
kind_known Graph = refl
kind_known Queries = refl
kind_known Solution = refl
kind_known Cut = refl
kind_known Potentials = refl
kind_known Labels = refl
kind_known Distances = refl

verb_known : (verb : Verb) (rest : List (List ℕ)) → verb_of (verb_words verb ++ rest) ≡ without_limit verb
verb_known (Convert kind) rest = ap Convert (kind_known kind)
verb_known (Show kind) rest = ap Show (kind_known kind)
verb_known (Judge judges.Max) rest = refl
verb_known (Judge judges.Min) rest = refl
verb_known (Judge judges.Infeasible) rest = refl
verb_known (Judge judges.Paths) rest = refl
verb_known (Certify judges.Max) rest = refl
verb_known (Certify judges.Min) rest = refl
verb_known (Certify judges.Infeasible) rest = refl
verb_known (Certify judges.Paths) rest = refl
verb_known (Spread spreads.Max) rest = refl
verb_known (Spread spreads.Min) rest = refl
verb_known (Solve (solves.Max limit)) rest = refl
verb_known (Solve (solves.Min limit)) rest = refl
verb_known (Solve solves.Paths) rest = refl

same_verb : (v w : Verb) (xs ys : List (List ℕ)) → verb_words v ++ xs ≡ verb_words w ++ ys → without_limit w ≡ without_limit v
same_verb v w xs ys same = sym (verb_known w ys) ∙ ap verb_of (sym same) ∙ verb_known v xs

-- ---- what verbs that differ at most in their limits have in common
words_without : (v : Verb) → verb_words (without_limit v) ≡ verb_words v
words_without (Solve (solves.Max limit)) = refl
words_without (Solve (solves.Min limit)) = refl
words_without (Solve solves.Paths) = refl
words_without (Convert kind) = refl
words_without (Show kind) = refl
words_without (Judge kind) = refl
words_without (Certify kind) = refl
words_without (Spread kind) = refl

texts_without : (v : Verb) → texts_of (without_limit v) ≡ texts_of v
texts_without (Solve (solves.Max limit)) = refl
texts_without (Solve (solves.Min limit)) = refl
texts_without (Solve solves.Paths) = refl
texts_without (Convert kind) = refl
texts_without (Show kind) = refl
texts_without (Judge kind) = refl
texts_without (Certify kind) = refl
texts_without (Spread kind) = refl

pub same_words : (v w : Verb) → without_limit v ≡ without_limit w → verb_words v ≡ verb_words w
same_words v w same = sym (words_without v) ∙ ap verb_words same ∙ words_without w

pub same_texts : (v w : Verb) → without_limit v ≡ without_limit w → texts_of v ≡ texts_of w
same_texts v w same = sym (texts_without v) ∙ ap texts_of same ∙ texts_without w

-- ---- the files and the options after a verb
cancel : (xs ys zs : List (List ℕ)) → xs ++ ys ≡ xs ++ zs → ys ≡ zs
cancel [] ys zs same = same
cancel (x ∷ xs) ys zs same = cancel xs ys zs cc

none_after : (n all : ℕ) → n ≤ all → min (n + 0) all ≡ n
none_after n all most = let same : n + 0 ≡ n = omega arith in rw same (min-eq_left most)

-- where options may follow, a verb takes one number of files only
files_first : (v : Verb) (n : ℕ) (options : List (List ℕ)) → TakesFiles v n → AreOptions v options → min (n + length options) (length (texts_of v).kinds) ≡ n
files_first (Solve (solves.Max limit)) n options takes are = let three : n ≡ 3 = omega (arith, takes.0, takes.1) in rw three (min-eq_right (omega arith))
files_first (Solve (solves.Min limit)) n options takes are = let three : n ≡ 3 = omega (arith, takes.0, takes.1) in rw three (min-eq_right (omega arith))
files_first (Solve solves.Paths) n options takes are = rw are (none_after n _ takes.1)
files_first (Convert kind) n options takes are = rw are (none_after n _ takes.1)
files_first (Show kind) n options takes are = rw are (none_after n _ takes.1)
files_first (Judge kind) n options takes are = rw are (none_after n _ takes.1)
files_first (Certify kind) n options takes are = rw are (none_after n _ takes.1)
files_first (Spread kind) n options takes are = rw are (none_after n _ takes.1)

pub one_plan : (words : List (List ℕ)) (job other : Job) → Asks words job → Asks words other → HaveOnePlan job other
one_plan words job other (given, same, takes, are) (more, again, takes_too, are_too) =
    let v = job.verb in
    let w = other.verb in
    let files = map string_bytes job.files.now in
    let others = map string_bytes other.files.now in
    let whole : verb_words v ++ (files ++ given) ≡ verb_words w ++ (others ++ more) = sym (append_assoc (verb_words v) files given) ∙ sym same ∙ again ∙ append_assoc (verb_words w) others more in
    let alike : without_limit w ≡ without_limit v = same_verb v w (files ++ given) (others ++ more) whole in
    let after : files ++ given ≡ others ++ more = cancel (verb_words v) (files ++ given) (others ++ more) (whole ∙ ap (λ (words : List (List ℕ)). words ++ (others ++ more)) (same_words w v alike)) in
    let count : length files ≡ length others = sym (files_first v (length files) given (rw (length-map job.files.now string_bytes) takes) are)
    ∙ ap (λ (k : ℕ). min k (length (texts_of v).kinds)) (sym (length-append files given) ∙ ap length after ∙ length-append others more)
    ∙ ap (λ (t : Texts). min (length others + length more) (length t.kinds)) (sym (same_texts w v alike))
    ∙ files_first w (length others) more (rw (length-map other.files.now string_bytes) takes_too) are_too in
    (alike, sym (take-append_seam others more) ∙ rw (← after, ← count) (take-append_seam files given))

module _ {A : Type 0} (f : A → List ℕ) (v : Verb) (arguments : List (List ℕ)) (rest : List A) (n : ℕ) (begins : arguments ≡ verb_words v ++ map f rest) (most : n ≡ min (length rest) (length (texts_of v).kinds)) where
  -- the files of a job that is asked for come first in the rest
  pub files_are : (wanted : Job) → (asks : Asks arguments wanted) → (without_limit wanted.verb ≡ without_limit v) × (map f rest ≡ map string_bytes wanted.files.now ++ asks.0) × (n ≡ length wanted.files.now) × TakesFiles v n
  files_are wanted (options, same, takes, are) =
      let w = wanted.verb in
      let files = map string_bytes wanted.files.now in
      let whole : verb_words v ++ map f rest ≡ verb_words w ++ (files ++ options) = sym begins ∙ same ∙ append_assoc (verb_words w) files options in
      let alike : without_limit w ≡ without_limit v = same_verb v w (map f rest) (files ++ options) whole in
      let after : map f rest ≡ files ++ options = cancel (verb_words v) (map f rest) (files ++ options) (whole ∙ ap (λ (words : List (List ℕ)). words ++ (files ++ options)) (same_words w v alike)) in
      let long : length rest ≡ length wanted.files.now + length options = sym (length-map rest f) ∙ ap length after ∙ length-append files options ∙ ap (λ (k : ℕ). k + length options) (length-map wanted.files.now string_bytes) in
      let count : n ≡ length wanted.files.now = most ∙ ap (λ (k : ℕ). min k (length (texts_of v).kinds)) long ∙ ap (λ (t : Texts). min (length wanted.files.now + length options) (length t.kinds)) (sym (same_texts w v alike)) ∙ files_first w (length wanted.files.now) options takes are in
      (alike, after, count, rw count (subst (λ (t : Texts). (least_count t.writes t.read (length t.kinds) ≤ length wanted.files.now) × (length wanted.files.now ≤ length t.kinds)) (same_texts w v alike) takes))

  -- there are too few files
  pub too_few : (least : ℕ) → least ≡ least_count (texts_of v).writes (texts_of v).read (length (texts_of v).kinds) → n < least → (wanted : Job) → ¬ Asks arguments wanted
  too_few least is few wanted asks = let takes = (files_are wanted asks).3 in absurd (omega (arith, is, few, takes.0))

  -- the arguments after the files give no options
  pub no_options : (options : List A) → options ≡ drop n rest → ((w : Verb) → without_limit w ≡ without_limit v → ¬ AreOptions w (map f options)) → (wanted : Job) → ¬ Asks arguments wanted
  no_options options is none wanted (given, same, takes, are) =
      let (alike, after, count, few) = files_are wanted (given, same, takes, are) in
      let files = map string_bytes wanted.files.now in
      let here : map f options ≡ given = ap (map f) is ∙ map-drop n rest ∙ rw (after, count ∙ sym (length-map wanted.files.now string_bytes)) (drop-append_seam files given) in
      none wanted.verb alike (subst (AreOptions wanted.verb) (sym here) are)
    where
      map-drop : (k : ℕ) (xs : List A) → map f (drop k xs) ≡ drop k (map f xs)
      map-drop zero xs = refl
      map-drop (suc k) [] = refl
      map-drop (suc k) (x ∷ xs) = map-drop k xs

  -- the files and the options are those of a job
  pub job_asked : (w : Verb) (files options : List A) → without_limit w ≡ without_limit v → files ≡ take n rest → options ≡ drop n rest → length files ≡ n
      → least_count (texts_of v).writes (texts_of v).read (length (texts_of v).kinds) ≤ length files → AreOptions w (map f options)
      → (given : List (List ℕ)) × (arguments ≡ verb_words w ++ map f files ++ given) × TakesFiles w (length files) × AreOptions w given
  job_asked w files options alike first others long least are =
      let whole : map f rest ≡ map f files ++ map f options = sym (ap (map f) (take-append-drop n rest)) ∙ ap (map f) (rw (first, others) refl) ∙ map-append f files options in
      let most : length files ≤ length (texts_of v).kinds = rw (long, most) (min-le_right (length rest) (length (texts_of v).kinds)) in (
        map f options,
        begins ∙ rw (whole, same_words v w (sym alike)) (sym (append_assoc (verb_words w) (map f files) (map f options))),
        subst (λ (t : Texts). (least_count t.writes t.read (length t.kinds) ≤ length files) × (length files ≤ length t.kinds)) (same_texts v w (sym alike)) (least, most),
        are,
      )
