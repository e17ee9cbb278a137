-- Figure 1 of 001, the proof system for LO. `P ⊢ Θ` renders P ⇒ Θ.
use Rattle.std.specs.Prelude.{List, ◌∷◌, ◌++◌, ℕ, suc, ◌≤◌, max}
use Rattle.logic.specs.Goals.{Goal, ⊤, ◌⅋◌, ◌&◌, Clause, ◌∼◌, ◌∈◌, atoms}

-- 001:66-68: ⊤ᵣ, ⅋ᵣ, &ᵣ and bc, each with its conclusion up to `∼`; bc only where the whole context is atomic
infix 3 ◌⊢◌
pub data ◌⊢◌ (P : List Clause) : List Goal → Type 0 where
  top_r : {Θ Δ : List Goal} → Θ ∼ ⊤ ∷ Δ → P ⊢ Θ
  par_r : {Θ Δ : List Goal} {G₁ G₂ : Goal} → Θ ∼ G₁ ⅋ G₂ ∷ Δ → P ⊢ G₁ ∷ G₂ ∷ Δ → P ⊢ Θ
  with_r : {Θ Δ : List Goal} {G₁ G₂ : Goal} → Θ ∼ G₁ & G₂ ∷ Δ → P ⊢ G₁ ∷ Δ → P ⊢ G₂ ∷ Δ → P ⊢ Θ
  bc : {Θ : List Goal} {c : Clause} (A : List ℕ) → c ∈ P → Θ ∼ atoms (c.head ++ A) → P ⊢ c.body ∷ atoms A → P ⊢ Θ

-- 02, E13: the most backchaining steps on any path of a proof
unfoldable pub depth : {P : List Clause} {Θ : List Goal} → P ⊢ Θ → ℕ
depth (top_r e) = 0
depth (par_r e p) = depth p
depth (with_r e p q) = max (depth p) (depth q)
depth (bc A m e p) = suc (depth p)

-- 02, E13: "a proof in which no path uses more than k backchaining steps"
abbrev pub Within : List Clause → ℕ → List Goal → Type 0
Within P k Θ = (p : P ⊢ Θ) × (depth p ≤ k)
