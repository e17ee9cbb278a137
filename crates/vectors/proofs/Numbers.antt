-- Little-endian numbers and checksums, one byte at a time.
use mathlib.Core.Path.{◌≡◌, refl, sym, ap, ◌∙◌}
use mathlib.Core.List.{List, [], ◌∷◌, ◌++◌}
use Prim.Native.Nat.{ℕ, zero, suc, ◌+◌, ◌*◌, ◌%◌, ◌^◌, ◌≤◌, ◌<◌}
use native.Mathlib.Nat.{pow-succ', pow-le-pow_right}
use native.Mathlib.Numerals.{add-one}
use native.Mathlib.Omega.{arith}
use lib.ListN.{length, get_or, drop, replicate, length-append}
use lib.Seq.{drop-cons, drop-length, get_or-drop}
use Rattle.std.proofs.lemmas.List.{drop-replicate, length-drop}
use Rattle.std.specs.Int.{from_le_bytes, w64}
use Rattle.vectors.specs.Frame.{little, adler}

-- one byte more in front
pub little_next : (i : ℕ) (bytes : List ℕ) → i < length bytes → little (drop i bytes) ≡ get_or bytes i 0 + 256 * little (drop (i + 1) bytes)
unfolding little
little_next i bytes h = rw (add-one, drop-cons bytes i 0 h)

-- no byte left
little_end : (n : ℕ) (bytes : List ℕ) → length bytes ≡ n → little (drop n bytes) ≡ 0
unfolding little
little_end n bytes h = ap (λ (k : ℕ). little (drop k bytes)) (sym h) ∙ ap little (drop-length bytes)

-- zeros after the last byte change nothing
little_padded : (bytes zeros : List ℕ) → little zeros ≡ 0 → little (bytes ++ zeros) ≡ little bytes
unfolding little
little_padded [] zeros h = h
little_padded (b ∷ bs) zeros h = ap (λ (n : ℕ). b + 256 * n) (little_padded bs zeros h)

little_zeros : (n : ℕ) → little (replicate n 0) ≡ 0
unfolding little
little_zeros zero = refl
little_zeros (suc n) = omega (arith, little_zeros n)

-- what std reads from 8 bytes
little_8 : (b : List ℕ) → length b ≡ 8 → from_le_bytes w64 b ≡ little b
little_8 b n =
    omega (arith, little_next 0 b (omega arith), little_next 1 b (omega arith), little_next 2 b (omega arith), little_next 3 b (omega arith), little_next 4 b (omega arith), little_next 5 b (omega arith), little_next 6 b (omega arith), little_next 7 b (omega arith), little_end 8 b n)

-- what it reads from at most 8 bytes, written over the front of 8 zeros
pub read_padded : (bytes : List ℕ) → length bytes ≤ 8 → from_le_bytes w64 (bytes ++ drop (length bytes) (replicate 8 0)) ≡ little bytes
read_padded bytes few =
    let zeros = drop-replicate (length bytes) 8 0 in
    little_8 _ (simp (length-append, length-drop) (omega arith)) ∙ little_padded bytes _ (ap little zeros ∙ little_zeros _)

-- n bytes spell a number below 256 ^ n
pub little_below : (bytes : List ℕ) → ((i : ℕ) → get_or bytes i 0 < 256) → little bytes < 256 ^ length bytes
unfolding little
little_below [] s = omega arith
little_below (b ∷ bs) s =
    let e : 256 ^ suc (length bs) ≡ 256 * 256 ^ length bs = pow-succ' 256 (length bs) in
    omega (arith, e, little_below bs (λ i. s (suc i)), s 0)

-- what 8 bytes spell fits 64 bits
pub little_fits : (i : ℕ) (bytes : List ℕ) → length bytes ≤ 8 → ((i : ℕ) → get_or bytes i 0 < 256) → little (drop i bytes) < 2 ^ 64
little_fits i bytes h s =
    let b : little (drop i bytes) < 256 ^ length (drop i bytes) = little_below (drop i bytes) (λ j. rw (get_or-drop i bytes j 0) (s (i + j))) in
    let l : length (drop i bytes) ≤ 8 = rw (length-drop i bytes) (omega arith) in
    let p : 256 ^ length (drop i bytes) ≤ 256 ^ 8 = pow-le-pow_right (omega arith) l in
    omega arith

-- one byte more summed
pub adler_next : (low high i : ℕ) (bytes : List ℕ) → i < length bytes → adler low high (drop i bytes) ≡ adler ((low + get_or bytes i 0) % 65521) ((high + (low + get_or bytes i 0) % 65521) % 65521) (drop (i + 1) bytes)
unfolding adler
adler_next low high i bytes h = rw (add-one, drop-cons bytes i 0 h)

-- no byte left to sum
pub adler_end : (low high i : ℕ) (bytes : List ℕ) → i ≡ length bytes → adler low high (drop i bytes) ≡ high * 65536 + low
unfolding adler
adler_end low high i bytes h = ap (λ (k : ℕ). adler low high (drop k bytes)) h ∙ ap (adler low high) (drop-length bytes)
