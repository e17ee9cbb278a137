-- The branches of a context as lists of kinds: up to order they depend on its multiset alone, and the rules of Figure 1 keep them.
use mathlib.Core.Path.{◌≡◌, refl, sym, ap, subst, ◌∙◌}
use mathlib.Core.List.{List, [], ◌∷◌, ◌++◌, append_assoc, append-nil}
use mathlib.Core.List.Permᴰ
use mathlib.Core.List.Memᴰ
use mathlib.Core.Logic.{◌⊎◌, inl, inr}
use Prim.Native.Nat.{ℕ}
use Rattle.logic.specs.Goals.{Goal, ⊤, ◌⅋◌, ◌&◌, ◌∼◌, ◌∈◌, atoms}
use Rattle.logic.specs.Branches.{sums, opened, opened_all, branches, branches_c}
use Rattle.logic.proofs.Multisets.{∼_refl, ∼_eq, ◌⨾◌, ∼_front}
use Rattle.logic.proofs.BranchLaws.{sums_mem, sums_cases, one_sums}

same_branches : {G H : Goal} {b : List ℕ} → G ≡ H → b ∈ branches G → b ∈ branches H
same_branches {b = b} e m = subst (λ (F : Goal). b ∈ branches F) e m

-- a branch of Θ, but for the order of its kinds
abbrev pub BranchUpTo : List Goal → List ℕ → Type 0
BranchUpTo Θ b = (c : List ℕ) × (c ∈ branches_c Θ) × (b ∼ c)

pub branch_∼ : {Θ Ξ : List Goal} → Θ ∼ Ξ → (b : List ℕ) → b ∈ branches_c Θ → BranchUpTo Ξ b
unfolding opened_all
branch_∼ Permᴰ.nil b m = (b, m, ∼_refl)
branch_∼ (Permᴰ.cons {a = G} {l₁ = Θ} e d) b m =
    let r = sums_cases ◌++◌ (branches G) (branches_c Θ) m in
    let s = branch_∼ d r.1 r.3 in
    (r.0 ++ s.0, sums_mem ◌++◌ (same_branches e r.2) s.1, ∼_eq r.4 ⨾ Permᴰ.append_left r.0 s.2)
branch_∼ (Permᴰ.swap {a = G} {b = H} {l = Θ} e₁ e₂) b m =
    let r = sums_cases ◌++◌ (branches G) (sums ◌++◌ (branches H) (branches_c Θ)) m in
    let s = sums_cases ◌++◌ (branches H) (branches_c Θ) r.3 in (
      s.0 ++ (r.0 ++ s.1),
      sums_mem ◌++◌ (same_branches e₂ s.2) (sums_mem ◌++◌ (same_branches e₁ r.2) s.3),
      ∼_eq r.4 ⨾ Permᴰ.append_left r.0 (∼_eq s.4) ⨾ ∼_front r.0 s.0 s.1,
    )
branch_∼ (Permᴰ.trans d₁ d₂) b m =
    let r = branch_∼ d₁ b m in
    let s = branch_∼ d₂ r.0 r.1 in
    (s.0, s.1, r.2 ⨾ s.2)

-- ---- an atomic context is its only branch

pub branches_atoms : (A : List ℕ) → branches_c (atoms A) ≡ A ∷ []
unfolding opened_all opened sums
branches_atoms [] = refl
branches_atoms (a ∷ A) = rw (branches_atoms A)

pub branch_atoms : (A : List ℕ) {b : List ℕ} → b ∈ branches_c (atoms A) → b ≡ A
branch_atoms A {b} m = Memᴰ.eq_of_singleton (subst (λ (l : List (List ℕ)). b ∈ l) (branches_atoms A) m)

pub atoms_branch : (A : List ℕ) → A ∈ branches_c (atoms A)
atoms_branch A = subst (λ (l : List (List ℕ)). A ∈ l) (sym (branches_atoms A)) (Memᴰ.head refl)

-- ---- the branches of a rule's conclusion are those of its premises

pub branch_top : (Δ : List Goal) {b : List ℕ} → b ∈ branches_c (⊤ ∷ Δ) → ⊥
unfolding opened_all opened sums
branch_top Δ m = Memᴰ.not-nil m

pub branch_par : (G H : Goal) (Δ : List Goal) {b : List ℕ} → b ∈ branches_c (G ⅋ H ∷ Δ) → b ∈ branches_c (G ∷ H ∷ Δ)
unfolding opened_all opened
branch_par G H Δ m =
    let r = sums_cases ◌++◌ (sums ◌++◌ (branches G) (branches H)) (branches_c Δ) m in
    let s = sums_cases ◌++◌ (branches G) (branches H) r.2 in
    Memᴰ.cast (r.4 ∙ ap (λ (l : List ℕ). l ++ r.1) s.4 ∙ append_assoc s.0 s.1 r.1)
    (sums_mem ◌++◌ s.2 (sums_mem ◌++◌ s.3 r.3))

pub branch_with : (G H : Goal) (Δ : List Goal) {b : List ℕ} → b ∈ branches_c (G & H ∷ Δ) → (b ∈ branches_c (G ∷ Δ)) ⊎ (b ∈ branches_c (H ∷ Δ))
unfolding opened_all opened
branch_with G H Δ {b} m =
    let r = sums_cases ◌++◌ (branches G ++ branches H) (branches_c Δ) m in
    go r.0 r.1 r.3 r.4 (Memᴰ.append_cases (branches G) r.2)
  where
    go : (x y : List ℕ) → y ∈ branches_c Δ → b ≡ x ++ y → (x ∈ branches G) ⊎ (x ∈ branches H)
        → (b ∈ branches_c (G ∷ Δ)) ⊎ (b ∈ branches_c (H ∷ Δ))
    go x y n e (inl l) = inl (Memᴰ.cast e (sums_mem ◌++◌ l n))
    go x y n e (inr l) = inr (Memᴰ.cast e (sums_mem ◌++◌ l n))

-- ---- a goal alone, and beside an atomic context

pub branches_alone : (G : Goal) → branches_c (G ∷ []) ≡ branches G
unfolding opened_all
branches_alone G = one_sums ◌++◌ [] append-nil (branches G)

pub branch_beside : (G : Goal) (A : List ℕ) {b : List ℕ} → b ∈ branches G → b ++ A ∈ branches_c (G ∷ atoms A)
unfolding opened_all
branch_beside G A m = sums_mem ◌++◌ m (atoms_branch A)
