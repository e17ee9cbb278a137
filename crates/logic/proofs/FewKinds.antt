-- Facts of finitely many kinds: S_P makes only such, so that a row of n counts can hold them (01: "kinds from n on are 0").
use mathlib.Core.Path.{◌≡◌, refl, sym, ap, subst, ◌∙◌}
use mathlib.Core.Bool.{Bool, true, false}
use mathlib.Core.List.Memᴰ
use mathlib.Core.List.{List, [], ◌∷◌}
use mathlib.Core.Logic.{⊎_elim}
use Prim.Native.Nat.{ℕ, zero, suc, ◌+◌, ◌≤◌, ◌<◌}
use native.Mathlib.Omega.{arith}
use lib.Dec.{eqb, eqb→eq, T}
use Rattle.logic.specs.Facts.{Fact, occ, one_if}
use Rattle.logic.specs.Goals.{Goal, Clause, ◌∈◌}
use Rattle.logic.specs.Satisfaction.{Interp, ◌⊩◌⟦◌⟧, sat_top, sat_fact, sat_par, sat_with}
use Rattle.logic.specs.Operator.{S, s_clause, S↑}

-- X has no kind from n on
abbrev pub Below : ℕ → Fact → Type 0
Below n X = (k : ℕ) → n ≤ k → X k ≡ 0

-- no head of P has a kind from n on
abbrev pub HeadsBelow : ℕ → List Clause → Type 0
HeadsBelow n P = (c : Clause) → c ∈ P → Below n (occ c.head)

-- ---- S_P brings no new kinds but those of the heads

pub sat_below : {I : Interp} (n : ℕ) → ((B : Fact) → I B → Below n B) → {Θ : List Goal} {X : Fact} → I ⊩ Θ ⟦ X ⟧ → Below n X
sat_below n f (sat_top e) k h = refl
sat_below n f (sat_fact A {B = B} e b) k h = omega (arith, f B b k h)
sat_below n f (sat_par e s) k h = sat_below n f s k h
sat_below n f (sat_with e s t) k h = omega (arith, sat_below n f s k h, sat_below n f t k h)

pub S_below : {P : List Clause} {I : Interp} (n : ℕ) → HeadsBelow n P → ((B : Fact) → I B → Below n B) → (X : Fact) → S P I X → Below n X
S_below n g f X (s_clause {c = c} m s) k h = omega (arith, g c m k h, sat_below n f s k h)

pub power_below : {P : List Clause} (n : ℕ) → HeadsBelow n P → (k : ℕ) (X : Fact) → S↑ P k X → Below n X
unfolding S↑
power_below n g zero X s = absurd s
power_below n g (suc k) X s = S_below n g (power_below n g k) X s

-- ---- every program has such an n

occ_below : (A : List ℕ) → (n : ℕ) × Below n (occ A)
unfolding occ
occ_below [] = (0, λ k h. refl)
occ_below (a ∷ A) = let r = occ_below A in (suc a + r.0, λ k h. go k (eqb a k) refl (omega (arith, h)) (r.1 k (omega (arith, h))))
  where
    go : (k : ℕ) (t : Bool) → eqb a k ≡ t → a < k → occ A k ≡ 0 → one_if (eqb a k) + occ A k ≡ 0
    go k true e l z = absurd (omega (arith, l, eqb→eq a k (subst T (sym e) tt)))
    go k false e l z = omega (arith, ap one_if e, z)

pub heads_below : (P : List Clause) → (n : ℕ) × HeadsBelow n P
heads_below [] = (0, λ c m. absurd (Memᴰ.not-nil m))
heads_below (d ∷ P) =
    let r = occ_below d.head in
    let s = heads_below P in (
      r.0 + s.0,
      λ c m k h.
          ⊎_elim (λ e. ap (λ (x : Clause). occ x.head k) e ∙ r.1 k (omega (arith, h))) (λ o. s.1 c o k (omega (arith, h)))
          (Memᴰ.cases_cons m),
    )
