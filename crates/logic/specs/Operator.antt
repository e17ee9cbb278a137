-- Definition 5.6 of 001, and the powers of its operator from the empty interpretation.
use Rattle.std.specs.Prelude.{List, [], ◌∷◌, ℕ, zero, suc}
use Rattle.logic.specs.Facts.{Fact, ◌⊕◌, occ}
use Rattle.logic.specs.Goals.{Clause, ◌∈◌}
use Rattle.logic.specs.Satisfaction.{Interp, ◌⊩◌⟦◌⟧}

-- 001:212: S_P(I) = { Ĥ + 𝒜 | H ∘- G ∈ P, I ⊩ G[𝒜] }
pub data S (P : List Clause) (I : Interp) : Fact → Type 0 where
  s_clause : {c : Clause} {A : Fact} → c ∈ P → I ⊩ c.body ∷ [] ⟦ A ⟧ → S P I (occ c.head ⊕ A)

-- 001:173: the bottom element
abbrev pub ∅ : Interp
∅ X = ⊥

-- 001:47: T↑0 = ∅, T↑k+1 = T(T↑k)
unfoldable pub S↑ : List Clause → ℕ → Interp
S↑ P zero = ∅
S↑ P (suc k) = S P (S↑ P k)
