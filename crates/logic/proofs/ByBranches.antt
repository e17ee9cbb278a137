-- Proofs with a bound on each path: a context has one exactly if each of its branches has, and weakening.
use mathlib.Core.Path.{refl, sym}
use mathlib.Core.List.Permᴰ
use mathlib.Core.List.{List, [], ◌∷◌, ◌++◌}
use mathlib.Core.Logic.{⊎_elim, ◌↔◌}
use Prim.Native.Nat.{ℕ, suc}
use Rattle.logic.specs.Goals.{Goal, ⊤, ◌⅋◌, ◌&◌, Clause, ◌∼◌, ◌∈◌, atoms}
use Rattle.logic.specs.Branches.{branches_c}
use Rattle.logic.proofs.Multisets.{∼_refl, ∼_sym, ∼_eq, ◌⨾◌, ∼_front, atoms_append, atoms_∼}
use Rattle.logic.proofs.Figure1.{Der, top_d, par_d, with_d, bc_d, exchange}
use Rattle.logic.proofs.Contexts.{branch_∼, branch_atoms, branch_top, branch_par, branch_with}
use Rattle.logic.proofs.Opening.{Opens, by_branches_c, from_branches}

module _ {P : List Clause} where
  pub der_opens : (k : ℕ) → Opens (Der P k)
  der_opens k = record { swap = exchange; done = λ Δ. top_d ∼_refl; together = par_d ∼_refl; both = with_d ∼_refl }

  -- ---- from the context to its branches

  -- W k holds of each branch of what is proved within k steps, if it is about multisets and bc brings it from the branches of its premise.
  pub branchwise : (W : ℕ → List ℕ → Type 0)
      → ((k : ℕ) (a b : List ℕ) → a ∼ b → W k b → W k a)
      → ((k : ℕ) (c : Clause) (A : List ℕ) → c ∈ P → ((b : List ℕ) → b ∈ branches_c (c.body ∷ atoms A) → W k b) → W (suc k) (c.head ++ A))
      → {k : ℕ} {Θ : List Goal} → Der P k Θ → (b : List ℕ) → b ∈ branches_c Θ → W k b
  branchwise W w f (top_d {Δ = Δ} e) b m = absurd (branch_top Δ (branch_∼ e b m).1)
  branchwise W w f {k = k} (par_d {Δ = Δ} {G₁ = G₁} {G₂ = G₂} e p) b m =
      let r = branch_∼ e b m in
      w k b r.0 r.2 (branchwise W w f p r.0 (branch_par G₁ G₂ Δ r.1))
  branchwise W w f {k = k} (with_d {Δ = Δ} {G₁ = G₁} {G₂ = G₂} e p q) b m =
      let r = branch_∼ e b m in
      w k b r.0 r.2 (⊎_elim (branchwise W w f p r.0) (branchwise W w f q r.0) (branch_with G₁ G₂ Δ r.1))
  branchwise W w f (bc_d {k = k} {c = c} A m e p) b n =
      let r = branch_∼ e b n in
      w (suc k) b (c.head ++ A) (r.2 ⨾ ∼_eq (branch_atoms (c.head ++ A) r.1)) (f k c A m (branchwise W w f p))

  -- a proof of a context gives one of each of its branches
  each_branch : {k : ℕ} {Θ : List Goal} → Der P k Θ → (b : List ℕ) → b ∈ branches_c Θ → Der P k (atoms b)
  each_branch p =
      branchwise (λ k b. Der P k (atoms b)) (λ k a b d q. exchange (atoms_∼ d) q)
      (λ k c A m f. bc_d A m ∼_refl (from_branches (Der P k) (der_opens k) (c.body ∷ atoms A) f)) p

  pub der_branches : (k : ℕ) (Θ : List Goal) → Der P k Θ ↔ ((b : List ℕ) → b ∈ branches_c Θ → Der P k (atoms b))
  der_branches k Θ = (each_branch, from_branches (Der P k) (der_opens k) Θ)

  -- ---- weakening

  weaken_atoms : {k : ℕ} {Θ : List Goal} (b : List ℕ) → Der P k Θ → Der P k (atoms b ++ Θ)
  weaken_atoms b (top_d {Δ = Δ} e) = top_d (Permᴰ.append_left (atoms b) e ⨾ Permᴰ.middle ⊤ (atoms b) Δ)
  weaken_atoms b (par_d {Δ = Δ} {G₁ = G₁} {G₂ = G₂} e p) =
      par_d (Permᴰ.append_left (atoms b) e ⨾ Permᴰ.middle (G₁ ⅋ G₂) (atoms b) Δ)
      (exchange (∼_front (G₁ ∷ G₂ ∷ []) (atoms b) Δ) (weaken_atoms b p))
  weaken_atoms b (with_d {Δ = Δ} {G₁ = G₁} {G₂ = G₂} e p q) =
      with_d (Permᴰ.append_left (atoms b) e ⨾ Permᴰ.middle (G₁ & G₂) (atoms b) Δ)
      (exchange (∼_front (G₁ ∷ []) (atoms b) Δ) (weaken_atoms b p))
      (exchange (∼_front (G₂ ∷ []) (atoms b) Δ) (weaken_atoms b q))
  weaken_atoms b (bc_d {c = c} A m e p) =
      bc_d (b ++ A) m
      (Permᴰ.append_left (atoms b) e ⨾ ∼_eq (sym (atoms_append b (c.head ++ A))) ⨾ atoms_∼ (∼_front b c.head A))
      (exchange (Permᴰ.cons refl (∼_eq (atoms_append b A)) ⨾ ∼_sym (Permᴰ.middle c.body (atoms b) (atoms A))) (weaken_atoms b p))

  pub weaken : {k : ℕ} {Θ : List Goal} (Ξ : List Goal) → Der P k Θ → Der P k (Ξ ++ Θ)
  weaken {k} {Θ = Θ} Ξ p = by_branches_c (Der P k) (der_opens k) Ξ Θ (λ b m. weaken_atoms b p)
