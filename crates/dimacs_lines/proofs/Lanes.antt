-- A word as a list of lanes, the first one lowest.
use Rattle.std.proofs.Common.{◌≡◌, ℕ, zero, suc, ◌+◌, ◌*◌, ◌/◌, ◌%◌, ◌^◌, ◌<◌, ◌≤◌, List, [], ◌∷◌, ◌++◌, length, map, take, drop, replicate, bit_xor, All, refl, ap, ap₂, ◌∙◌, arith, w64, lit<, add_comm, mul-suc, pow-suc, pow-add, shr-shr}
use Rattle.std.proofs.Math.Nat.{zero-div, zero-mod, div-div-eq-div-mul}
use Rattle.std.proofs.lemmas.List.Elements.{All-nil, All-cons, All-head, All-tail}
use Rattle.std.proofs.lemmas.Nat.{xor_block, shr_high, mod_low, mod-pow-add, from_le_bytes-to_le_bytes_8}
use Rattle.std.specs.Int.{to_le_bytes, bytes_low_first, byte_at}

-- the word with these lanes of k bits
abbrev pub word_of : ℕ → List ℕ → ℕ
word_of k [] = 0
word_of k (b ∷ bs) = word_of k bs * 2 ^ k + b

-- each lane is a byte
abbrev pub AllBytes : List ℕ → Type 0
AllBytes bs = All (λ b. b < 256) bs

-- a shift to the left puts zeros first
pub word_of-zeros : (j : ℕ) (bs : List ℕ) → word_of 8 (replicate j 0 ++ bs) ≡ word_of 8 bs * 2 ^ (8 * j)
word_of-zeros zero bs = omega arith
word_of-zeros (suc j) bs = rw (mul-suc 8 j, pow-add 2 (8 * j) 8) (omega (arith, word_of-zeros j bs))

-- a shift to the right drops the first lanes
pub word_of-drop : (j : ℕ) (bs : List ℕ) → AllBytes bs → word_of 8 bs / 2 ^ (8 * j) ≡ word_of 8 (drop j bs)
word_of-drop zero bs h = omega arith
word_of-drop (suc j) [] h = zero-div (2 ^ (8 * suc j))
word_of-drop (suc j) (b ∷ bs) h =
    let small = All-head (λ b. b < 256) b bs h in
    let rest = word_of-drop j bs (All-tail (λ b. b < 256) b bs h) in
    rw (mul-suc 8 j, add_comm (8 * j) 8, ← shr-shr (word_of 8 (b ∷ bs)) 8 (8 * j), shr_high (word_of 8 bs) 8 b small) rest

-- a remainder keeps the first lanes
pub word_of-take : (j : ℕ) (bs : List ℕ) → AllBytes bs → word_of 8 bs % 2 ^ (8 * j) ≡ word_of 8 (take j bs)
word_of-take zero bs h = omega arith
word_of-take (suc j) [] h = zero-mod (2 ^ (8 * suc j))
word_of-take (suc j) (b ∷ bs) h =
    let small = All-head (λ b. b < 256) b bs h in
    let rest = word_of-take j bs (All-tail (λ b. b < 256) b bs h) in
    rw (mul-suc 8 j, mod-pow-add, shr_high (word_of 8 bs) 8 b small, mod_low (word_of 8 bs) 8 b small) (ap (λ n. n * 256 + b) rest)

-- `^` with 48 in each lane does this to each lane
pub word_of-map : (bs : List ℕ) → AllBytes bs → bit_xor (word_of 8 bs) (word_of 8 (replicate (length bs) 48)) ≡ word_of 8 (map (λ b. bit_xor b 48) bs)
word_of-map [] h = refl
word_of-map (b ∷ bs) h =
    let small = All-head (λ b. b < 256) b bs h in
    let rest = word_of-map bs (All-tail (λ b. b < 256) b bs h) in
    xor_block 8 (word_of 8 bs) (word_of 8 (replicate (length bs) 48)) b 48 small (lit< tt) ∙ ap (λ m. m * 256 + bit_xor b 48) rest

-- byte i of a word, and what stands above it
byte_at-step : (i n high b : ℕ) → b < 256 → n / 256 ^ i ≡ high * 256 + b → (byte_at i n ≡ b) × (n / 256 ^ suc i ≡ high)
byte_at-step zero n high b small is = (omega arith, omega arith)
byte_at-step (suc i) n high b small is = (omega arith, rw (pow-suc 256 (suc i), ← div-div-eq-div-mul n (256 ^ suc i) 256) (omega arith))

-- the k bytes of a word from byte i on are its lanes, then zeros
bytes_low_first-word_of : (i k m n : ℕ) (bs : List ℕ) → k ≤ m → AllBytes bs → n / 256 ^ i ≡ word_of 8 bs
    → bytes_low_first i k n ≡ take k (bs ++ replicate m 0)
bytes_low_first-word_of i zero m n bs le h is = refl
bytes_low_first-word_of i (suc k) zero n bs le h is = absurd (omega arith)
bytes_low_first-word_of i (suc k) (suc m) n [] le h is =
    let step = byte_at-step i n 0 0 (omega arith) is in
    ap₂ (λ x xs. x ∷ xs) step.0 (bytes_low_first-word_of (suc i) k m n [] (omega arith) h step.1)
bytes_low_first-word_of i (suc k) (suc m) n (b ∷ bs) le h is =
    let step = byte_at-step i n (word_of 8 bs) b (All-head (λ b. b < 256) b bs h) is in
    let rest = bytes_low_first-word_of (suc i) k (suc m) n bs (omega arith) (All-tail (λ b. b < 256) b bs h) step.1 in
    ap₂ (λ x xs. x ∷ xs) step.0 rest

-- the bytes of a word are its lanes, then zeros
pub to_le_bytes-word_of : (n : ℕ) (bs : List ℕ) → AllBytes bs → n ≡ word_of 8 bs → to_le_bytes w64 n ≡ take 8 (bs ++ replicate 8 0)
to_le_bytes-word_of n bs h is = bytes_low_first-word_of 0 8 8 n bs (omega arith) h (omega arith)

-- a word is made of its bytes
pub word_of-to_le_bytes : (n : ℕ) → n < 2 ^ 64 → word_of 8 (to_le_bytes w64 n) ≡ n
word_of-to_le_bytes n fits = omega (arith, from_le_bytes-to_le_bytes_8 n fits)

-- byte i of a word is a byte
byte_at-lt : (i n : ℕ) → byte_at i n < 256
byte_at-lt zero n = omega arith
byte_at-lt (suc i) n = omega arith

-- the k bytes of a word from byte i on are bytes
AllBytes-bytes_low_first : (i k n : ℕ) → AllBytes (bytes_low_first i k n)
AllBytes-bytes_low_first i zero n = All-nil (λ b. b < 256)
AllBytes-bytes_low_first i (suc k) n =
    All-cons (λ b. b < 256) (byte_at i n) (bytes_low_first (suc i) k n) (byte_at-lt i n) (AllBytes-bytes_low_first (suc i) k n)

-- the bytes of a word are bytes
pub AllBytes-to_le_bytes : (n : ℕ) → AllBytes (to_le_bytes w64 n)
AllBytes-to_le_bytes n = AllBytes-bytes_low_first 0 8 n
