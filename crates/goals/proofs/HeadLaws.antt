-- What the reading of a head comes to, by the tests that the code makes.
use mathlib.Core.Path.{◌≡◌, refl}
use mathlib.Core.List.{List, [], ◌∷◌}
use mathlib.Core.Bool.{Bool, true, false, ◌&&◌, cond}
use Prim.Native.Nat.{ℕ, zero, suc, ◌<◌}
use native.Mathlib.Omega.{arith}
use lib.Dec.{ltb}
use lib.ListN.{length, get_or, take, drop}
use borrow.Author.Tests.{ltb-true}
use Rattle.tokens.specs.Tables.{every}
use Rattle.tokens.proofs.Tests.{and_l, and_r}
use Rattle.goals.specs.Codes.{is_kind}
use Rattle.goals.specs.Readings.{read, refused, ◌>>=◌, padded, climbs, front, head}
use Rattle.goals.specs.Sets.{set_of}
use Rattle.goals.specs.Views.{opened_head}
use Rattle.goals.proofs.PrintLaws.{front_kinds}

every_at : (p : ℕ → Bool) (l : List ℕ) → every p l ≡ true → (i : ℕ) → i < length l → p (get_or l i 0) ≡ true
unfolding every
every_at p [] e i h = absurd (omega arith)
every_at p (x ∷ l) e zero h = and_l (p x) _ e
every_at p (x ∷ l) e (suc i) h = every_at p l (and_r (p x) _ e) i (omega arith)

-- the bytes in front are kinds
pub front_below : (n : ℕ) (s : List ℕ) (i : ℕ) → i < length (take (front n s) s) → get_or (take (front n s) s) i 0 < 32
unfolding is_kind
front_below n s i h =
    let b : ℕ = get_or (take (front n s) s) i 0 in
    ltb-true b 32 (and_l (ltb b 32) (ltb b n) (every_at (is_kind n) (take (front n s) s) (front_kinds n s) i h))

-- what the tests decide
pub head_on : (n : ℕ) (s : List ℕ)
    → opened_head n s ≡ cond (ltb 0 (front n s) && (climbs (take (front n s) s) && padded (drop (front n s) s))) (read (set_of (take (front n s) s))) (refused 4)
unfolding opened_head head
head_on n s = by (ltb 0 (front n s) && (climbs (take (front n s) s) && padded (drop (front n s) s)))
  where
    by : (t : Bool) → (cond t (read (take (front n s) s)) (refused 4) >>= λ h. read (set_of h)) ≡ cond t (read (set_of (take (front n s) s))) (refused 4)
    by true = refl
    by false = refl
