-- Laws of covering, ⊑, ≃ and ∪, and of the facts that a list gives.
use mathlib.Core.Path.{refl, subst}
use mathlib.Core.List.{List}
use mathlib.Core.Logic.{◌⊎◌, inl, inr, ⊎_elim, ◌↔◌}
use Rattle.logic.specs.Facts.{Fact, ◌≼◌}
use Rattle.logic.specs.Goals.{◌∈◌}
use Rattle.logic.specs.Satisfaction.{Interp}
use Rattle.logic.specs.Order.{Covers, ◌⊑◌, ◌≃◌, ◌∪◌, Listed}
use Rattle.logic.proofs.FactLaws.{≼_refl, ≼_trans}

-- ---- ⊑

pub ⊑_refl : (I : Interp) → I ⊑ I
⊑_refl I B b = (B, b, ≼_refl B)

-- what I covers, a larger fact and a larger J cover
pub covers_mono : {I J : Interp} → I ⊑ J → {X Y : Fact} → X ≼ Y → Covers I X → Covers J Y
covers_mono f h c = let d = f c.0 c.1 in (d.0, d.1, ≼_trans d.2 (≼_trans c.2 h))

pub covers_up : {I J : Interp} → I ⊑ J → {X : Fact} → Covers I X → Covers J X
covers_up f {X} c = covers_mono f (≼_refl X) c

pub covers_more : {I : Interp} {X Y : Fact} → X ≼ Y → Covers I X → Covers I Y
covers_more h c = (c.0, c.1, ≼_trans c.2 h)

pub ⊑_trans : {I J K : Interp} → I ⊑ J → J ⊑ K → I ⊑ K
⊑_trans f g B b = covers_up g (f B b)

-- ---- ≃

pub ≃_sym : {I J : Interp} → I ≃ J → J ≃ I
≃_sym e = (e.1, e.0)

-- I ≃ J if and only if ⟦I⟧ = ⟦J⟧ (001, Definition 5.1)
pub ≃_iff : (I J : Interp) → (I ≃ J) ↔ ((X : Fact) → Covers I X ↔ Covers J X)
≃_iff I J = (
  λ e X. (covers_up e.0, covers_up e.1),
  λ f. (λ B b. (f B).0 (B, b, ≼_refl B), λ B b. (f B).1 (B, b, ≼_refl B)),
)

-- ---- ∪ is the least upper bound of ⊑ (001, Definition 5.1)

pub ∪_right : (I J : Interp) → J ⊑ I ∪ J
∪_right I J B b = (B, inr b, ≼_refl B)

pub ∪_least : {I J K : Interp} → I ⊑ K → J ⊑ K → I ∪ J ⊑ K
∪_least f g B (inl b) = f B b
∪_least f g B (inr b) = g B b

pub ∪_covers : (I J : Interp) (X : Fact) → Covers (I ∪ J) X ↔ (Covers I X ⊎ Covers J X)
∪_covers I J X = (
  λ c. ⊎_elim (λ i. inl (c.0, i, c.2)) (λ j. inr (c.0, j, c.2)) c.1,
  λ s. ⊎_elim (λ c. (c.0, inl c.1, c.2)) (λ c. (c.0, inr c.1, c.2)) s,
)

-- ---- the facts that a list gives

pub listed_covers : {A : Type 0} (f : A → Fact) (L : List A) (X : Fact) → Covers (Listed f L) X ↔ ((a : A) × (a ∈ L) × (f a ≼ X))
listed_covers {A} f L X = (
  λ c. (c.1.0, c.1.1, subst (λ (F : Fact). F ≼ X) c.1.2 c.2),
  λ t. (f t.0, (t.0, t.1, refl), t.2),
)
