-- From the branches of a context to the context: what ⊤ᵣ, ⅋ᵣ and &ᵣ carry.
use mathlib.Core.Path.{refl, sym, ap, ◌∙◌}
use mathlib.Core.List.{List, [], ◌∷◌, ◌++◌, append_assoc, append-nil}
use mathlib.Core.List.Memᴰ
use mathlib.Core.List.Permᴰ
use Prim.Native.Nat.{ℕ}
use Rattle.logic.specs.Goals.{Goal, kind, ⊤, ◌⅋◌, ◌&◌, ◌∼◌, ◌∈◌, atoms}
use Rattle.logic.specs.Branches.{opened, opened_all, branches, branches_c}
use Rattle.logic.proofs.Multisets.{∼_eq, ◌⨾◌, ∼_front, atoms_append}
use Rattle.logic.proofs.BranchLaws.{sums_mem}

-- what a statement Q needs so that it holds of a context whose branches it holds of: it is about multisets, and ⊤ᵣ, ⅋ᵣ and &ᵣ keep it
pub record Opens (Q : List Goal → Type 0) : Type 0 where
  pub swap : {Θ Ξ : List Goal} → Ξ ∼ Θ → Q Θ → Q Ξ
  pub done : (Δ : List Goal) → Q (⊤ ∷ Δ)
  pub together : {Δ : List Goal} {G₁ G₂ : Goal} → Q (G₁ ∷ G₂ ∷ Δ) → Q (G₁ ⅋ G₂ ∷ Δ)
  pub both : {Δ : List Goal} {G₁ G₂ : Goal} → Q (G₁ ∷ Δ) → Q (G₂ ∷ Δ) → Q (G₁ & G₂ ∷ Δ)

-- two branches side by side in front of Δ
pub atoms_front : (a b : List ℕ) (Δ : List Goal) → atoms b ++ (atoms a ++ Δ) ∼ atoms (a ++ b) ++ Δ
atoms_front a b Δ =
    ∼_front (atoms b) (atoms a) Δ
    ⨾ ∼_eq (sym (append_assoc (atoms a) (atoms b) Δ) ∙ ap (λ (l : List Goal). l ++ Δ) (sym (atoms_append a b)))

module _ (Q : List Goal → Type 0) (o : Opens Q) where
  by_branches : (G : Goal) (Δ : List Goal) → ((b : List ℕ) → b ∈ branches G → Q (atoms b ++ Δ)) → Q (G ∷ Δ)
  unfolding opened
  by_branches (kind a) Δ f = f (a ∷ []) (Memᴰ.head refl)
  by_branches ⊤ Δ f = o.done Δ
  by_branches (G ⅋ H) Δ f =
      o.together (by_branches G (H ∷ Δ) (λ a m. o.swap (Permᴰ.middle H (atoms a) Δ)
      (by_branches H (atoms a ++ Δ) (λ b n. o.swap (atoms_front a b Δ) (f (a ++ b) (sums_mem ◌++◌ m n))))))
  by_branches (G & H) Δ f =
      o.both (by_branches G Δ (λ b m. f b (Memᴰ.append_left (branches H) m)))
      (by_branches H Δ (λ b m. f b (Memᴰ.append_right (branches G) m)))

  pub by_branches_c : (Γ Δ : List Goal) → ((b : List ℕ) → b ∈ branches_c Γ → Q (atoms b ++ Δ)) → Q (Γ ++ Δ)
  unfolding opened_all
  by_branches_c [] Δ f = f [] (Memᴰ.head refl)
  by_branches_c (G ∷ Γ) Δ f =
      by_branches G (Γ ++ Δ) (λ a m. o.swap (∼_front (atoms a) Γ Δ)
      (by_branches_c Γ (atoms a ++ Δ) (λ b n. o.swap (atoms_front a b Δ) (f (a ++ b) (sums_mem ◌++◌ m n)))))

  pub from_branches : (Θ : List Goal) → ((b : List ℕ) → b ∈ branches_c Θ → Q (atoms b)) → Q Θ
  from_branches Θ f = o.swap (∼_eq (sym (append-nil Θ))) (by_branches_c Θ [] (λ b m. o.swap (∼_eq (append-nil (atoms b))) (f b m)))
