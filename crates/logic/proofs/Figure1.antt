-- The rules of Figure 1: what each asks and gives, so that another rule in its place is refused here; the bound as an index; exchange.
use mathlib.Core.Path.{◌≡◌, refl, ap, ◌∙◌}
use mathlib.Core.Bool.{Bool, true, false}
use mathlib.Core.List.{List, [], ◌∷◌, ◌++◌}
use mathlib.Core.List.Memᴰ
use mathlib.Core.List.Permᴰ
use mathlib.Core.Logic.{◌↔◌}
use Prim.Native.Nat.{ℕ, zero, suc, ◌+◌, ◌≤◌, min, suc-le-suc}
use native.Mathlib.Omega.{arith}
use lib.Dec.{T}
use Rattle.logic.specs.Goals.{Goal, kind, ⊤, ◌⅋◌, ◌&◌, Clause, ◌∼◌, ◌∈◌, atoms}
use Rattle.logic.specs.Proofs.{◌⊢◌, top_r, par_r, with_r, bc, depth, Within}
use Rattle.logic.proofs.Multisets.{∼_refl, ◌⨾◌}

-- ---- counting over the goals of a context

unfoldable pub total : (Goal → ℕ) → List Goal → ℕ
total f [] = 0
total f (G ∷ Δ) = f G + total f Δ

pub total_∼ : (f : Goal → ℕ) {Θ Ξ : List Goal} → Θ ∼ Ξ → total f Θ ≡ total f Ξ
unfolding total
total_∼ f Permᴰ.nil = refl
total_∼ f (Permᴰ.cons e d) = omega (arith, ap f e, total_∼ f d)
total_∼ f (Permᴰ.swap e₁ e₂) = omega (arith, ap f e₁, ap f e₂)
total_∼ f (Permᴰ.trans d₁ d₂) = total_∼ f d₁ ∙ total_∼ f d₂

pub total_atoms : (f : Goal → ℕ) → ((k : ℕ) → f (kind k) ≡ 0) → (A : List ℕ) → total f (atoms A) ≡ 0
unfolding total
total_atoms f z [] = refl
total_atoms f z (a ∷ A) = omega (arith, z a, total_atoms f z A)

-- ---- ⊤ᵣ: "success independently of the current context" (001, section 3)

pub top_beside : {P : List Clause} (Δ : List Goal) → P ⊢ ⊤ ∷ Δ
top_beside Δ = top_r {Δ = Δ} ∼_refl

-- ---- &ᵣ: both sides

-- how many ⊤ there are at least after a side of each & is taken
unfoldable pub tops : Goal → ℕ
tops (kind k) = 0
tops ⊤ = 1
tops (G ⅋ H) = tops G + tops H
tops (G & H) = min (tops G) (tops H)

-- without clauses a context has a proof only if there is a ⊤ whichever sides of its & are taken
pub top_on_each_side : {Θ : List Goal} → [] ⊢ Θ → 1 ≤ total tops Θ
unfolding total tops
top_on_each_side (top_r e) = omega (arith, total_∼ tops e)
top_on_each_side (par_r e p) = omega (arith, total_∼ tops e, top_on_each_side p)
top_on_each_side (with_r e p q) = omega (arith, total_∼ tops e, top_on_each_side p, top_on_each_side q)
top_on_each_side (bc A m e p) = absurd (Memᴰ.not-nil m)

-- ---- bc: "can be executed only if the right-hand side of the current LO sequent consists of atomic formulas" (001, section 3)

-- 1 for a formula that is not atomic
unfoldable pub compound : Goal → ℕ
compound (kind k) = 0
compound ⊤ = 1
compound (G ⅋ H) = 1
compound (G & H) = 1

-- whether the last step of a proof, at its root, is bc
unfoldable pub by_bc : {P : List Clause} {Θ : List Goal} → P ⊢ Θ → Bool
by_bc (top_r e) = false
by_bc (par_r e p) = false
by_bc (with_r e p q) = false
by_bc (bc A m e p) = true

-- where it is, no formula of the context is compound
pub bc_atomic : {P : List Clause} {Θ : List Goal} (p : P ⊢ Θ) → T (by_bc p) → total compound Θ ≡ 0
unfolding by_bc total compound
bc_atomic (top_r e) h = absurd h
bc_atomic (par_r e p) h = absurd h
bc_atomic (with_r e p q) h = absurd h
bc_atomic (bc A m e p) h = total_∼ compound e ∙ simp (total_atoms compound (λ k. refl))

-- ---- the bound as an index

-- Figure 1 with the bound k as an index: the form that proofs recurse on, equivalent to `Within`.
pub data Der (P : List Clause) : ℕ → List Goal → Type 0 where
  top_d : {k : ℕ} {Θ Δ : List Goal} → Θ ∼ ⊤ ∷ Δ → Der P k Θ
  par_d : {k : ℕ} {Θ Δ : List Goal} {G₁ G₂ : Goal} → Θ ∼ G₁ ⅋ G₂ ∷ Δ → Der P k (G₁ ∷ G₂ ∷ Δ) → Der P k Θ
  with_d : {k : ℕ} {Θ Δ : List Goal} {G₁ G₂ : Goal} → Θ ∼ G₁ & G₂ ∷ Δ → Der P k (G₁ ∷ Δ) → Der P k (G₂ ∷ Δ) → Der P k Θ
  bc_d : {k : ℕ} {Θ : List Goal} {c : Clause} (A : List ℕ)
      → c ∈ P → Θ ∼ atoms (c.head ++ A) → Der P k (c.body ∷ atoms A) → Der P (suc k) Θ

module _ {P : List Clause} where
  within_der : {Θ : List Goal} (p : P ⊢ Θ) (k : ℕ) → depth p ≤ k → Der P k Θ
  unfolding depth
  within_der (top_r e) k h = top_d e
  within_der (par_r e p) k h = par_d e (within_der p k h)
  within_der (with_r e p q) k h = with_d e (within_der p k (omega arith)) (within_der q k (omega arith))
  within_der (bc A m e p) zero h = absurd (omega arith)
  within_der (bc A m e p) (suc k) h = bc_d A m e (within_der p k (omega arith))

  der_within : {k : ℕ} {Θ : List Goal} → Der P k Θ → Within P k Θ
  unfolding depth
  der_within (top_d e) = (top_r e, omega arith)
  der_within (par_d e p) = let r = der_within p in (par_r e r.0, r.1)
  der_within (with_d e p q) = let r = der_within p in let s = der_within q in (with_r e r.0 s.0, omega arith)
  der_within (bc_d A m e p) = let r = der_within p in (bc A m e r.0, suc-le-suc r.1)

  pub within_iff : (k : ℕ) (Θ : List Goal) → Within P k Θ ↔ Der P k Θ
  within_iff k Θ = (λ w. within_der w.0 k w.1, der_within)

  -- the order of the goals is of no account
  pub exchange : {k : ℕ} {Θ Ξ : List Goal} → Ξ ∼ Θ → Der P k Θ → Der P k Ξ
  exchange d (top_d e) = top_d (d ⨾ e)
  exchange d (par_d e p) = par_d (d ⨾ e) p
  exchange d (with_d e p q) = with_d (d ⨾ e) p q
  exchange d (bc_d A m e p) = bc_d A m (d ⨾ e) p
