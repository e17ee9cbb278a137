-- `within` says that no part of a goal opens into more than m, and `runs_within` that neither a goal nor a leading run does.
use mathlib.Core.Path.{◌≡◌, refl, subst}
use mathlib.Core.Bool.{true, ◌&&◌}
use mathlib.Core.List.{List, [], ◌∷◌}
use Prim.Native.Nat.{ℕ, zero, suc, ◌+◌, ◌*◌, ◌≤◌, ◌<◌}
use native.Mathlib.Nat.{mul_assoc, mul-one, one-mul}
use native.Mathlib.Omega.{arith}
use lib.Dec.{leb}
use lib.ListN.{take, length}
use lib.Seq.{take-length}
use borrow.Author.Tests.{le-leb, leb-true}
use Rattle.tokens.specs.Tables.{every}
use Rattle.tokens.proofs.Tests.{both, and_l, and_r}
use Rattle.logic.specs.Goals.{Goal, kind, ⊤, ◌⅋◌, ◌&◌}
use Rattle.logic.specs.Branches.{ways}
use Rattle.goals.specs.Limits.{within, runs_within}

-- a compound goal is within the limit exactly if both its sides are, whatever becomes of them, and it is itself
pub within_⅋ : (m : ℕ) (G H : Goal) → within m (G ⅋ H) ≡ (within m G && (within m H && leb (ways G * ways H) m))
unfolding within ways
within_⅋ m G H = refl

pub within_& : (m : ℕ) (G H : Goal) → within m (G & H) ≡ (within m G && (within m H && leb (ways G + ways H) m))
unfolding within ways
within_& m G H = refl

pub within_few : (m : ℕ) (G : Goal) → within m G ≡ true → ways G ≤ m
unfolding within
within_few m (kind k) e = leb-true (ways (kind k)) m e
within_few m ⊤ e = leb-true (ways ⊤) m e
within_few m (G ⅋ H) e = leb-true (ways (G ⅋ H)) m (and_r (within m H) _ (and_r (within m G) _ e))
within_few m (G & H) e = leb-true (ways (G & H)) m (and_r (within m H) _ (and_r (within m G) _ e))

-- a goal is a part of itself, and so are the parts of its sides
pub data Part : Goal → Goal → Type 0 where
  whole : {G : Goal} → Part G G
  ⅋_left : {P G H : Goal} → Part P G → Part P (G ⅋ H)
  ⅋_right : {P G H : Goal} → Part P H → Part P (G ⅋ H)
  &_left : {P G H : Goal} → Part P G → Part P (G & H)
  &_right : {P G H : Goal} → Part P H → Part P (G & H)

pub parts_few : {P G : Goal} (m : ℕ) → Part P G → within m G ≡ true → ways P ≤ m
unfolding within
parts_few {P} m whole e = within_few m P e
parts_few m (⅋_left {G = G} q) e = parts_few m q (and_l (within m G) _ e)
parts_few m (⅋_right {G = G} {H = H} q) e = parts_few m q (and_l (within m H) _ (and_r (within m G) _ e))
parts_few m (&_left {G = G} q) e = parts_few m q (and_l (within m G) _ e)
parts_few m (&_right {G = G} {H = H} q) e = parts_few m q (and_l (within m H) _ (and_r (within m G) _ e))

pub few_parts : (m : ℕ) (G : Goal) → ((P : Goal) → Part P G → ways P ≤ m) → within m G ≡ true
unfolding within
few_parts m (kind k) f = le-leb _ _ (f (kind k) whole)
few_parts m ⊤ f = le-leb _ _ (f ⊤ whole)
few_parts m (G ⅋ H) f =
    both (within m G) _ (few_parts m G (λ P q. f P (⅋_left q))) (both (within m H) _ (few_parts m H (λ P q. f P (⅋_right q))) (le-leb _ _ (f (G ⅋ H) whole)))
few_parts m (G & H) f =
    both (within m G) _ (few_parts m G (λ P q. f P (&_left q))) (both (within m H) _ (few_parts m H (λ P q. f P (&_right q))) (le-leb _ _ (f (G & H) whole)))

-- the number of branches of a run of goals
unfoldable pub ways_all : List Goal → ℕ
ways_all [] = 1
ways_all (G ∷ Δ) = ways G * ways_all Δ

-- what an order's test says: each goal by itself is within m, and so is each leading run
pub record Few (m w : ℕ) (Δ : List Goal) : Type 0 where
  pub each : every (within m) Δ ≡ true
  pub runs : (k : ℕ) → k < length Δ → w * ways_all (take (suc k) Δ) ≤ m

pub runs_few : (m w : ℕ) (Δ : List Goal) → runs_within m w Δ ≡ true → Few m w Δ
unfolding runs_within every ways_all
runs_few m w [] e = record { each = refl; runs = λ k h. absurd (omega arith) }
runs_few m w (G ∷ Δ) e =
    let later = and_r (within m G) _ e in
    let f = runs_few m (w * ways G) Δ (and_r (leb (w * ways G) m) _ later) in
    record { each = both (within m G) _ (and_l (within m G) _ e) f.each; runs = go f (leb-true _ _ (and_l (leb (w * ways G) m) _ later)) }
  where
    go : Few m (w * ways G) Δ → w * ways G ≤ m → (k : ℕ) → k < suc (length Δ) → w * (ways G * ways_all (take k Δ)) ≤ m
    go f h zero i = rw mul-one h
    go f h (suc k) i = rw (← mul_assoc w (ways G) (ways_all (take (suc k) Δ))) (f.runs k (omega arith))

-- so the whole run has at most so many
pub runs_few_all : (m : ℕ) (Δ : List Goal) → 1 ≤ m → runs_within m 1 Δ ≡ true → ways_all Δ ≤ m
unfolding ways_all
runs_few_all m [] h e = h
runs_few_all m (G ∷ Δ) h e = subst (λ (l : List Goal). ways_all l ≤ m) (take-length (G ∷ Δ)) (rw one-mul at ((runs_few m 1 (G ∷ Δ) e).runs (length Δ) (omega arith)))

pub few_runs : (m w : ℕ) (Δ : List Goal) → Few m w Δ → runs_within m w Δ ≡ true
unfolding runs_within every ways_all
few_runs m w [] f = refl
few_runs m w (G ∷ Δ) f =
    both (within m G) _ (and_l (within m G) _ f.each)
    (both (leb (w * ways G) m) _ (le-leb _ _ (rw mul-one at (f.runs 0 (omega arith))))
    (few_runs m (w * ways G) Δ (record { each = and_r (within m G) _ f.each; runs = λ k h. rw (mul_assoc w (ways G) (ways_all (take (suc k) Δ))) (f.runs (suc k) (omega arith)) })))
