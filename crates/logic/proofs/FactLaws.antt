-- Laws of facts: each operation of 001's section 2 by what it is for, so that another operation in its place is refused here.
use mathlib.Core.Path.{◌≡◌, fun_ext}
use mathlib.Core.Logic.{◌↔◌}
use native.Mathlib.Omega.{arith}
use native.Mathlib.Nat.{le_antisymm}
use Rattle.logic.specs.Facts.{Fact, ◌≼◌, ϵ, ◌⊕◌, ◌∖◌, ◌•◌}

-- ≼ is an order

pub ≼_refl : (A : Fact) → A ≼ A
≼_refl A k = omega arith

pub ≼_trans : {A B C : Fact} → A ≼ B → B ≼ C → A ≼ C
≼_trans h i k = omega (arith, h k, i k)

pub ≼_antisym : {A B : Fact} → A ≼ B → B ≼ A → A ≡ B
≼_antisym h i = fun_ext (λ k. le_antisymm (h k) (i k))

-- ∖ gives the least fact that makes up for what is missing: 𝒜 ∖ ℬ ≼ 𝒞 exactly if 𝒜 ≼ ℬ + 𝒞
pub ∖_least : (A B C : Fact) → (A ∖ B ≼ C) ↔ (A ≼ B ⊕ C)
∖_least A B C = (λ h k. omega (arith, h k), λ h k. omega (arith, h k))

-- • is the least upper bound of two facts with respect to ≼ (001, section 2)
pub •_least : (A B C : Fact) → (A • B ≼ C) ↔ ((A ≼ C) × (B ≼ C))
•_least A B C = (λ h. (λ k. omega (arith, h k), λ k. omega (arith, h k)), λ h k. omega (arith, h.0 k, h.1 k))

-- ϵ ≼ 𝒜 for any 𝒜 (001, section 2)
pub ϵ_least : (A : Fact) → ϵ ≼ A
ϵ_least A k = omega arith

-- what was taken away can be put back where it was included
pub ∖_⊕ : {A B : Fact} → B ≼ A → B ⊕ (A ∖ B) ≡ A
∖_⊕ h = fun_ext (λ k. omega (arith, h k))

-- + and • as operations

pub ⊕_assoc : (A B C : Fact) → (A ⊕ B) ⊕ C ≡ A ⊕ (B ⊕ C)
⊕_assoc A B C = fun_ext (λ k. omega arith)

pub ⊕_comm : (A B : Fact) → A ⊕ B ≡ B ⊕ A
⊕_comm A B = fun_ext (λ k. omega arith)

pub •_assoc : (A B C : Fact) → (A • B) • C ≡ A • (B • C)
•_assoc A B C = fun_ext (λ k. omega arith)

pub •_front : (A B C : Fact) → A • (B • C) ≡ B • (A • C)
•_front A B C = fun_ext (λ k. omega arith)

pub •_ϵ : (A : Fact) → A • ϵ ≡ A
•_ϵ A = fun_ext (λ k. omega arith)

pub ϵ_• : (A : Fact) → ϵ • A ≡ A
ϵ_• A = fun_ext (λ k. omega arith)
