-- Definition 5.4 of 001. `I ⊩ Θ ⟦ A ⟧` renders I ⊩ Θ[𝒜]: A is a least fact to be added to Θ so that I satisfies it.
use Rattle.std.specs.Prelude.{List, ◌∷◌, ℕ}
use Rattle.logic.specs.Facts.{Fact, ϵ, ◌∖◌, ◌•◌, occ}
use Rattle.logic.specs.Goals.{Goal, ⊤, ◌⅋◌, ◌&◌, ◌∼◌, atoms}

-- 001:171, an interpretation: a set of facts, finite or not
abbrev pub Interp : Type 1
Interp = Fact → Type 0

-- 001:194-197, in this order; the first line has any context Δ beside ⊤, as Figure 1 has it, where 5.4 writes a fact 𝒜 (see proofs/Letter)
infix 3 ◌⊩◌⟦◌⟧
pub data ◌⊩◌⟦◌⟧ (I : Interp) : List Goal → Fact → Type 0 where
  sat_top : {Θ Δ : List Goal} → Θ ∼ ⊤ ∷ Δ → I ⊩ Θ ⟦ ϵ ⟧
  sat_fact : {Θ : List Goal} (A : List ℕ) {B : Fact} → Θ ∼ atoms A → I B → I ⊩ Θ ⟦ B ∖ occ A ⟧
  sat_par : {Θ Δ : List Goal} {G₁ G₂ : Goal} {A : Fact} → Θ ∼ G₁ ⅋ G₂ ∷ Δ → I ⊩ G₁ ∷ G₂ ∷ Δ ⟦ A ⟧ → I ⊩ Θ ⟦ A ⟧
  sat_with : {Θ Δ : List Goal} {G₁ G₂ : Goal} {A₁ A₂ : Fact}
      → Θ ∼ G₁ & G₂ ∷ Δ → I ⊩ G₁ ∷ Δ ⟦ A₁ ⟧ → I ⊩ G₂ ∷ Δ ⟦ A₂ ⟧ → I ⊩ Θ ⟦ A₁ • A₂ ⟧
