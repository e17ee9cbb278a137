-- Goals, clauses and contexts (001, sections 2 and 3).
use mathlib.Core.List.{List, ◌++◌, map, Permᴰ, Memᴰ}
use Rattle.std.specs.Prelude.{ℕ}

-- 001:53: G ::= G ⅋ G | G & G | A | ⊤
infixr 80 ◌⅋◌ ◌&◌
pub data Goal : Type 0 where
  kind : ℕ → Goal
  ⊤ : Goal
  ◌⅋◌ : Goal → Goal → Goal
  ◌&◌ : Goal → Goal → Goal

-- 001:53: D ::= A₁ ⅋ .. ⅋ Aₙ ∘- G | D & D; the head as the list of its kinds, a program as a list of clauses
pub record Clause : Type 0 where
  pub head : List ℕ
  pub body : Goal

-- 001:47: a context is a multiset of goals; here a list, and `∼` says that two lists are the same multiset
infix 4 ◌∼◌
abbrev pub ◌∼◌ : {A : Type 0} → List A → List A → Type 0
l ∼ r = Permᴰ l r

infix 4 ◌∈◌
abbrev pub ◌∈◌ : {A : Type 0} → A → List A → Type 0
a ∈ l = Memᴰ a l

-- 001:47, Δ ≼ Δ' for contexts: Δ' is Δ with some Ξ beside it
infix 4 ◌⊆◌
abbrev pub ◌⊆◌ : List Goal → List Goal → Type 0
Δ ⊆ Δ' = (Ξ : List Goal) × (Δ' ∼ Ξ ++ Δ)

-- 001:47: a context in which every formula is atomic
abbrev pub atoms : List ℕ → List Goal
atoms A = map kind A
