-- Facts (001, section 2): multisets of propositional symbols, which are here numbered and called kinds.
-- "001:45" names a line of the source's text; "01:26" one of document 01.
use Rattle.std.specs.Prelude.{Bool, true, false, List, [], ◌∷◌, ℕ, ◌+◌, ◌-◌, ◌≤◌, max, eqb}

-- 001:45: a fact is uniquely determined by its map Occ, the number of occurrences of each aᵢ
abbrev pub Fact : Type 0
Fact = ℕ → ℕ

-- 001:45: 𝒜 ≼ ℬ if and only if Occ_𝒜(aᵢ) ≤ Occ_ℬ(aᵢ) for each i
infix 4 ◌≼◌
abbrev pub ◌≼◌ : Fact → Fact → Type 0
A ≼ B = (k : ℕ) → A k ≤ B k

-- 001:47: Occ_ϵ(aᵢ) = 0
abbrev pub ϵ : Fact
ϵ k = 0

-- 001:47, 𝒜 + ℬ: Occ_𝒜(aᵢ) + Occ_ℬ(aᵢ)
infixl 65 ◌⊕◌ ◌∖◌ ◌•◌
abbrev pub ◌⊕◌ : Fact → Fact → Fact
◌⊕◌ A B k = A k + B k

-- 001:47, 𝒜 ∖ ℬ: max(0, Occ_𝒜(aᵢ) − Occ_ℬ(aᵢ)); the minus of ℕ stops at 0
abbrev pub ◌∖◌ : Fact → Fact → Fact
◌∖◌ A B k = A k - B k

-- 001:47, 𝒜 • ℬ, the least upper bound: max(Occ_𝒜(aᵢ), Occ_ℬ(aᵢ))
abbrev pub ◌•◌ : Fact → Fact → Fact
◌•◌ A B k = max (A k) (B k)

-- 001:47, Ĥ: the multiset that a list of kinds spells
abbrev pub one_if : Bool → ℕ
one_if true = 1
one_if false = 0

unfoldable pub occ : List ℕ → Fact
occ [] k = 0
occ (a ∷ A) k = one_if (eqb a k) + occ A k
