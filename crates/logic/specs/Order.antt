-- The order of interpretations (001, Definition 5.1), minimal facts (01, "Tokens, sets, rows"), and interpretations given by a list.
use Rattle.std.specs.Prelude.{◌≡◌, List, ◌⊎◌}
use Rattle.logic.specs.Facts.{Fact, ◌≼◌}
use Rattle.logic.specs.Goals.{◌∈◌}
use Rattle.logic.specs.Satisfaction.{Interp}

-- X ∈ ⟦I⟧ (001, section 5), 01:11 "covered": some fact of I is included in X
abbrev pub Covers : Interp → Fact → Type 0
Covers I X = (B : Fact) × I B × (B ≼ X)

-- 001:172: for all ℬ ∈ I there exists 𝒜 ∈ J such that 𝒜 ≼ ℬ
infix 4 ◌⊑◌
abbrev pub ◌⊑◌ : Interp → Interp → Type 0
I ⊑ J = (B : Fact) → I B → Covers J B

-- 001:171: ⟦I⟧ = ⟦J⟧
infix 4 ◌≃◌
abbrev pub ◌≃◌ : Interp → Interp → Type 0
I ≃ J = (I ⊑ J) × (J ⊑ I)

-- 001:174: I ∪ J, which stands for the least upper bound of I and J
infixl 60 ◌∪◌
abbrev pub ◌∪◌ : Interp → Interp → Interp
◌∪◌ I J X = I X ⊎ J X

-- 01:11: "Minimal means that no other set of the collection is included in it"
abbrev pub Minimal : Interp → Interp
Minimal I X = I X × ((Y : Fact) → I Y → Y ≼ X → Y ≡ X)

-- the finite interpretation that f makes of a list: of rows, or of lists of kinds
abbrev pub Listed : {A : Type 0} → (A → Fact) → List A → Interp
Listed {A} f L X = (a : A) × (a ∈ L) × (X ≡ f a)
