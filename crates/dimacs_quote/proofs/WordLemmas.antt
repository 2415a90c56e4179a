-- Words of a shell, byte by byte.
use Rattle.std.proofs.Common.{ℕ, ◌≡◌, ◌≢◌, ◌+◌, ◌*◌, ◌/◌, ◌%◌, ◌<◌, List, [], ◌∷◌, ◌++◌, subst, arith}
use Rattle.std.proofs.lemmas.List.{append_assoc, append-nil}
use Rattle.std.proofs.lemmas.List.Elements.{All-cons, All-head, All-nil, All-tail}
use Rattle.std.specs.List.{All}
use Rattle.dimacs_quote.specs.ShellWords.{IsAlphanumeric, IsPlain, Prints, Reads}

pub plain_reads : (bytes : List ℕ) → All IsPlain bytes → Reads bytes bytes
plain_reads [] all = Reads.end
plain_reads (b ∷ bytes) all = Reads.plain b bytes bytes (All-head IsPlain b bytes all) (plain_reads bytes (All-tail IsPlain b bytes all))

-- a single quote is open, and these bytes were read
abbrev pub Open : List ℕ → List ℕ → Type 0
Open before bytes = (inside word more : List ℕ) → All (λ b. b ≢ 39) inside → Reads word more → Reads (before ++ (inside ++ 39 ∷ word)) (bytes ++ (inside ++ more))

pub open_begin : Open (39 ∷ []) []
open_begin inside word more none rest = Reads.quoted inside word more none rest

pub open_more : (before bytes : List ℕ) (b : ℕ) → b ≢ 39 → Open before bytes → Open (before ++ b ∷ []) (bytes ++ b ∷ [])
open_more before bytes b apart was inside word more none rest =
    rw (append_assoc before (b ∷ []) (inside ++ 39 ∷ word), append_assoc bytes (b ∷ []) (inside ++ more))
    (was (b ∷ inside) word more (All-cons (λ x. x ≢ 39) b inside apart none) rest)

pub open_quote : (before bytes : List ℕ) → Open before bytes → Open (before ++ 39 ∷ 92 ∷ 39 ∷ 39 ∷ []) (bytes ++ 39 ∷ [])
open_quote before bytes was inside word more none rest =
    rw (append_assoc before (39 ∷ 92 ∷ 39 ∷ 39 ∷ []) (inside ++ 39 ∷ word), append_assoc bytes (39 ∷ []) (inside ++ more))
    (was [] (92 ∷ 39 ∷ 39 ∷ (inside ++ 39 ∷ word)) (39 ∷ (inside ++ more)) (All-nil (λ x. x ≢ 39))
    (Reads.escaped 39 (39 ∷ (inside ++ 39 ∷ word)) (inside ++ more) (omega arith) (Reads.quoted inside word more none rest)))

pub open_end : (before bytes : List ℕ) → Open before bytes → Reads (before ++ 39 ∷ []) bytes
open_end before bytes was = subst (Reads (before ++ 39 ∷ [])) (append-nil bytes) (was [] [] [] (All-nil (λ x. x ≢ 39)) Reads.end)

-- what comes after this format is printed after these bytes
abbrev pub Begins : List ℕ → List ℕ → Type 0
Begins format bytes = (more after : List ℕ) → Prints more after → Prints (format ++ more) (bytes ++ after)

pub begins_itself : (format bytes : List ℕ) (b : ℕ) → IsAlphanumeric b → Begins format bytes → Begins (format ++ b ∷ []) (bytes ++ b ∷ [])
begins_itself format bytes b is begins more after rest =
    rw (append_assoc format (b ∷ []) more, append_assoc bytes (b ∷ []) after) (begins (b ∷ more) (b ∷ after) (Prints.itself b more after is rest))

pub begins_octal : (format bytes : List ℕ) (b : ℕ) → b < 256 → Begins format bytes
    → Begins (format ++ 92 ∷ (48 + b / 64) ∷ (48 + b / 8 % 8) ∷ (48 + b % 8) ∷ []) (bytes ++ b ∷ [])
begins_octal format bytes b small begins more after rest =
    let same : b / 64 * 64 + b / 8 % 8 * 8 + b % 8 ≡ b = omega arith in
    rw (append_assoc format (92 ∷ (48 + b / 64) ∷ (48 + b / 8 % 8) ∷ (48 + b % 8) ∷ []) more, append_assoc bytes (b ∷ []) after)
    (begins (92 ∷ (48 + b / 64) ∷ (48 + b / 8 % 8) ∷ (48 + b % 8) ∷ more) (b ∷ after)
    (subst (λ z. Prints (92 ∷ (48 + b / 64) ∷ (48 + b / 8 % 8) ∷ (48 + b % 8) ∷ more) (z ∷ after)) same (Prints.octal (b / 64) (b / 8 % 8) (b % 8) more after (omega arith) (omega arith) (omega arith) rest)))

pub begins_end : (format bytes : List ℕ) → Begins format bytes → Prints format bytes
begins_end format bytes begins = rw (← append-nil format, ← append-nil bytes) (begins [] [] Prints.end)
