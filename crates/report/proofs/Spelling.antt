-- Numbers in decimal.
use mathlib.Core.Path.{◌≡◌, refl, sym, ap, ◌∙◌}
use mathlib.Core.List.{List, [], ◌∷◌, ◌++◌}
use Prim.Native.Nat.{ℕ, zero, suc, ◌+◌, ◌*◌, ◌/◌, ◌%◌, ◌^◌, ◌≤◌, ◌<◌}
use native.Mathlib.Omega.{arith}
use native.Mathlib.Nat.{pow-succ'}
use Rattle.std.proofs.lemmas.Grind.{common_steps}
use Rattle.std.proofs.lemmas.Bool.Decides.{nat_tests}
use lib.ListN.{length}
use borrow.Author.Tests.{lt-ltb, le-ltb}
use Rattle.std.specs.Fmt.{decimal as library_decimal}
use Rattle.std.proofs.lemmas.Fmt.{decimal_by_steps}
use Rattle.table.specs.declared.Refusal.{Refusal}
use Rattle.table.specs.Answers.{number, returned, refusal_text}
use Rattle.report.specs.Text.{spelled, decimal, refused_words}

-- a number below 10 is its digit
pub small : (k n : ℕ) → n < 10 → spelled (suc k) n ≡ (48 + n) ∷ []
unfolding spelled
small k n h = rw (lt-ltb n 10 h)

-- any other is its tenth part's digits and then its last digit
pub large : (k n : ℕ) → 10 ≤ n → spelled (suc k) n ≡ spelled k (n / 10) ++ ((48 + n % 10) ∷ [])
unfolding spelled
large k n h = rw (le-ltb n 10 h)

-- the tenth part needs one place less
tenth : (k n : ℕ) → n < 10 ^ suc k → n / 10 < 10 ^ k
tenth k n h = let e : 10 ^ suc k ≡ 10 * 10 ^ k = pow-succ' 10 k in omega arith

-- one place more changes nothing where the places hold the number
pub enough : (k n : ℕ) → n < 10 ^ suc k → spelled (suc k) n ≡ spelled (suc (suc k)) n
unfolding spelled
enough zero n h = let f : n < 10 = omega arith in small 0 n f ∙ sym (small 1 n f)
enough (suc k) n h = grind (arith, nat_tests, enough k (n / 10) (tenth (suc k) n h))

-- a number takes at most one byte more than its tenth part
longer : (k n : ℕ) → length (spelled (suc k) n) ≤ suc (length (spelled k (n / 10)))
unfolding spelled
longer k n = grind (arith, nat_tests, common_steps)

-- a number of at most j + 1 digits takes at most j + 1 bytes
pub few : (k j n : ℕ) → n < 10 ^ suc j → length (spelled k n) ≤ suc j
unfolding spelled
few zero j n h = omega arith
few (suc k) zero n h = let f : n < 10 = omega arith in rw (small k n f) (omega arith)
few (suc k) (suc j) n h = omega (arith, longer k n, few k j (n / 10) (tenth (suc j) n h))

-- what a number of 64 bits is made of
pub decimal_small : (n : ℕ) → n < 10 → decimal n ≡ (48 + n % 10) ∷ []
unfolding decimal
decimal_small n h = let last : n % 10 ≡ n = omega arith in rw last (small 19 n h)

pub decimal_large : (n : ℕ) → 10 ≤ n → n < 2 ^ 64 → decimal n ≡ decimal (n / 10) ++ ((48 + n % 10) ∷ [])
unfolding decimal
decimal_large n h f = large 19 n h ∙ ap (λ (x : List ℕ). x ++ ((48 + n % 10) ∷ [])) (enough 18 (n / 10) (omega arith))

-- a number below 10 ^ (j + 1) takes at most j + 1 bytes
pub decimal_few : (j n : ℕ) → n < 10 ^ suc j → length (decimal n) ≤ suc j
unfolding decimal
decimal_few j n h = few 20 j n h

-- k places take at most k bytes, so no number takes more than 20
pub places : (k n : ℕ) → length (spelled k n) ≤ k
unfolding spelled
places zero n = omega arith
places (suc k) n = omega (arith, longer k n, places k (n / 10))

pub decimal_20 : (n : ℕ) → length (decimal n) ≤ 20
unfolding decimal
decimal_20 n = places 20 n

-- the library spells a number of 64 bits the same
pub decimal_same : (n : ℕ) → n < 2 ^ 64 → decimal n ≡ library_decimal n
decimal_same n h =
    decimal_by_steps (λ m ds. m < 2 ^ 64 → decimal m ≡ ds)
    (λ m s b. let e : m % 10 ≡ m = omega arith in decimal_small m s ∙ ap (λ (d : ℕ). (48 + d) ∷ []) e)
    (λ m ds l e b. decimal_large m l b ∙ ap (λ (x : List ℕ). x ++ ((48 + m % 10) ∷ [])) (e (omega arith))) n h h

-- so a refusal printed by itself is the listing's line of it
pub refused_same : (why : Refusal) → number why < 2 ^ 64 → returned why < 2 ^ 64 → refused_words why ≡ refusal_text why
refused_same why n r = rw (decimal_same (number why) n, decimal_same (returned why) r) refl
