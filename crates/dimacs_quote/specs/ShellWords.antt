-- What a POSIX shell makes of a word.
use Rattle.std.specs.Prelude.{ℕ, ◌≡◌, ◌≢◌, ◌==◌, ◌⊎◌, ◌≤◌, ◌<◌, ◌+◌, ◌*◌, if◌then◌else◌, List, [], ◌∷◌, ◌++◌, codes}
use Rattle.std.specs.List.{All}

-- a digit or a letter
abbrev pub IsAlphanumeric : ℕ → Type 0
IsAlphanumeric b = ((48 ≤ b) × (b ≤ 57)) ⊎ ((65 ≤ b) × (b ≤ 90)) ⊎ ((97 ≤ b) × (b ≤ 122))

-- one of these, or of + - . / _
abbrev pub IsPlain : ℕ → Type 0
IsPlain b = IsAlphanumeric b ⊎ (b ≡ 43) ⊎ ((45 ≤ b) × (b ≤ 47)) ⊎ (b ≡ 95)

-- what printf writes of a format: a digit or a letter as it is, and after `\` the byte with three octal digits
pub data Prints : List ℕ → List ℕ → Type 0 where
  end : Prints [] []
  itself : (b : ℕ) (format bytes : List ℕ) → IsAlphanumeric b → Prints format bytes → Prints (b ∷ format) (b ∷ bytes)
  octal : (a b c : ℕ) (format bytes : List ℕ) → a < 4 → b < 8 → c < 8 → Prints format bytes
      → Prints (92 ∷ (48 + a) ∷ (48 + b) ∷ (48 + c) ∷ format) ((a * 64 + b * 8 + c) ∷ bytes)

abbrev pub EndsInLineFeed : List ℕ → Type 0
EndsInLineFeed bytes = (front : List ℕ) × (bytes ≡ front ++ 10 ∷ [])

-- a shell keeps what printf writes, unless that ends in a line feed
abbrev pub IsKept : List ℕ → Type 0
IsKept written = (front : List ℕ) → written ≢ front ++ 10 ∷ []

-- what a shell makes of a word: of plain bytes, of one after `\`, of those in single quotes, and of what printf writes
pub data Reads : List ℕ → List ℕ → Type 0 where
  end : Reads [] []
  plain : (b : ℕ) (word bytes : List ℕ) → IsPlain b → Reads word bytes → Reads (b ∷ word) (b ∷ bytes)
  escaped : (b : ℕ) (word bytes : List ℕ) → b ≢ 10 → Reads word bytes → Reads (92 ∷ b ∷ word) (b ∷ bytes)
  quoted : (inside word bytes : List ℕ) → All (λ b. b ≢ 39) inside → Reads word bytes → Reads (39 ∷ (inside ++ 39 ∷ word)) (inside ++ bytes)
  printed : (format written : List ℕ) → Prints format written → IsKept written → Reads (codes "\"$(printf '" ++ (format ++ codes "')\"")) written

-- a file's name, after `./` if it would be taken for an option
abbrev pub path_of : List ℕ → List ℕ
path_of [] = []
path_of (b ∷ name) = if b == 45 then 46 ∷ 47 ∷ b ∷ name else b ∷ name
