-- The tests of 01 over bytes, in the words of the library: padding, the kinds in front, and a head that never descends.
use mathlib.Core.Path.{◌≡◌, refl, sym, ap, ◌∙◌}
use mathlib.Core.List.{List, [], ◌∷◌}
use mathlib.Core.Bool.{Bool, true, false, ◌&&◌, and-false, cond}
use Prim.Native.Nat.{ℕ, zero, suc, ◌+◌, ◌≤◌, ◌<◌}
use native.Mathlib.Omega.{arith}
use native.Mathlib.Numerals.{add-one}
use lib.Dec.{leb, eqb}
use lib.ListN.{length, get_or}
use borrow.Author.Tests.{le-leb, lt-leb, true-leb, false-leb}
use Rattle.std.specs.List.{list_all, prefix_len, IsAllAdjacentAnswer}
use Rattle.goals.specs.Codes.{is_kind}
use Rattle.goals.specs.Readings.{padded, climbs, front}

pub padded_all : (s : List ℕ) → list_all (λ b. eqb b 255) s ≡ padded s
unfolding padded
padded_all [] = refl
padded_all (b ∷ s) = ap (λ t. eqb b 255 && t) (padded_all s)

pub front_prefix : (n : ℕ) (s : List ℕ) → prefix_len (is_kind n) s ≡ front n s
unfolding front
front_prefix n [] = refl
front_prefix n (b ∷ s) = let e = front_prefix n s in ap (λ (k : ℕ). cond (is_kind n b) k 0) (omega arith)

-- the two answers of the test
pub rises : (s : List ℕ) → ((k : ℕ) → suc k < length s → get_or s k 0 ≤ get_or s (suc k) 0) → climbs s ≡ true
unfolding climbs
rises [] h = refl
rises (a ∷ []) h = refl
rises (a ∷ b ∷ s) h = rw (le-leb a b (h 0 (omega arith)), rises (b ∷ s) (λ k l. h (suc k) (omega arith)))

pub falls : (s : List ℕ) (k : ℕ) → suc k < length s → get_or s (suc k) 0 < get_or s k 0 → climbs s ≡ false
unfolding climbs
falls [] k h d = absurd (omega arith)
falls (a ∷ []) k h d = absurd (omega arith)
falls (a ∷ b ∷ s) zero h d = rw (lt-leb a b d)
falls (a ∷ b ∷ s) (suc k) h d = ap (λ t. leb a b && t) (falls (b ∷ s) k (omega arith) d) ∙ and-false (leb a b)

-- what `is_sorted_by` answers of the comparison
pub climbs_answer : (s : List ℕ) (r : Bool) → IsAllAdjacentAnswer (λ x y b. b ≡ leb x y) s r → r ≡ climbs s
climbs_answer s true h = sym (rises s (λ k l. rw add-one at (true-leb (get_or s k 0) (get_or s (k + 1) 0) (h k 0 (rw add-one l)))))
climbs_answer s false h = sym (falls s h.0 (rw add-one at h.1) (rw add-one at (false-leb (get_or s h.0 0) (get_or s (h.0 + 1) 0) (h.2 0))))
