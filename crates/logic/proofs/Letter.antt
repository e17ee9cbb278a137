-- The finding on Definition 5.4: to the letter its first line asks that all goals beside ⊤ are atomic, and then ⊤ ⅋ ⊤ is never satisfied,
-- though Figure 1 proves it and 01 opens it into no branches. So `Satisfaction` reads that line with any context beside ⊤.
use mathlib.Core.Path.{refl}
use mathlib.Core.List.{List, [], ◌∷◌}
use Prim.Native.Nat.{ℕ, ◌≤◌}
use native.Mathlib.Omega.{arith}
use Rattle.logic.specs.Facts.{Fact, ϵ, ◌∖◌, ◌•◌, occ}
use Rattle.logic.specs.Goals.{Goal, ⊤, ◌⅋◌, ◌&◌, Clause, ◌∼◌, atoms}
use Rattle.logic.specs.Proofs.{◌⊢◌, par_r}
use Rattle.logic.specs.Satisfaction.{Interp, ◌⊩◌⟦◌⟧, sat_par}
use Rattle.logic.proofs.Multisets.{∼_refl}
use Rattle.logic.proofs.Figure1.{total, total_∼, total_atoms, tops, top_beside}
use Rattle.logic.proofs.Satisfied.{sat_top_beside}

-- Definition 5.4 to the letter: 𝒜 beside ⊤ is a fact
pub data ToTheLetter (I : Interp) : List Goal → Fact → Type 0 where
  l_top : {Θ : List Goal} (A : List ℕ) → Θ ∼ ⊤ ∷ atoms A → ToTheLetter I Θ ϵ
  l_fact : {Θ : List Goal} (A : List ℕ) {B : Fact} → Θ ∼ atoms A → I B → ToTheLetter I Θ (B ∖ occ A)
  l_par : {Θ Δ : List Goal} {G₁ G₂ : Goal} {A : Fact} → Θ ∼ G₁ ⅋ G₂ ∷ Δ → ToTheLetter I (G₁ ∷ G₂ ∷ Δ) A → ToTheLetter I Θ A
  l_with : {Θ Δ : List Goal} {G₁ G₂ : Goal} {A₁ A₂ : Fact}
      → Θ ∼ G₁ & G₂ ∷ Δ → ToTheLetter I (G₁ ∷ Δ) A₁ → ToTheLetter I (G₂ ∷ Δ) A₂ → ToTheLetter I Θ (A₁ • A₂)

-- to the letter, what is satisfied has at most one ⊤ after some side of each & is taken
never_two : {I : Interp} {Θ : List Goal} {X : Fact} → ToTheLetter I Θ X → total tops Θ ≤ 1
unfolding total tops
never_two (l_top A e) = omega (arith, total_∼ tops e, total_atoms tops (λ k. refl) A)
never_two (l_fact A e b) = omega (arith, total_∼ tops e, total_atoms tops (λ k. refl) A)
never_two (l_par e s) = omega (arith, total_∼ tops e, never_two s)
never_two (l_with e s t) = omega (arith, total_∼ tops e, never_two s, never_two t)

-- one half: to the letter ⊤ ⅋ ⊤ is satisfied in no interpretation
pub letter_refuses : {I : Interp} {X : Fact} → ToTheLetter I (⊤ ⅋ ⊤ ∷ []) X → ⊥
unfolding total tops
letter_refuses s = omega (arith, never_two s)

-- the other half: Figure 1 proves it from any program, and 5.4 as it is read here satisfies it in any interpretation
pub figure_1_proves : {P : List Clause} → P ⊢ ⊤ ⅋ ⊤ ∷ []
figure_1_proves = par_r ∼_refl (top_beside (⊤ ∷ []))

pub read_so_satisfied : (I : Interp) → I ⊩ ⊤ ⅋ ⊤ ∷ [] ⟦ ϵ ⟧
read_so_satisfied I = sat_par ∼_refl (sat_top_beside I (⊤ ∷ []))
