-- Minimal facts: they depend on ⟦I⟧ alone, every fact of S_P↑k lies above one, and S_P needs no others.
use mathlib.Core.Path.{◌≡◌, refl, sym, ap, subst}
use mathlib.Core.Bool.{Bool, true, false}
use mathlib.Core.List.{List, [], ◌∷◌}
use mathlib.Core.Logic.{◌⊎◌, inl, inr, ⊎_elim, ◌↔◌}
use Prim.Native.Nat.{ℕ, zero, suc, ◌+◌, ◌-◌, ◌≤◌, ◌<◌}
use native.Mathlib.Omega.{arith}
use native.Mathlib.Nat.{eq-or-lt_of_le, le_of_suc-le-suc}
use lib.Dec.{eqb, eqb→eq, eqb_refl, T}
use Rattle.logic.specs.Facts.{Fact, ◌≼◌, ◌∖◌, occ, one_if}
use Rattle.logic.specs.Goals.{Clause}
use Rattle.logic.specs.Satisfaction.{Interp}
use Rattle.logic.specs.Operator.{S, S↑}
use Rattle.logic.specs.Order.{Covers, ◌⊑◌, ◌≃◌, Minimal}
use Rattle.logic.proofs.FactLaws.{≼_refl, ≼_trans, ≼_antisym}
use Rattle.logic.proofs.Multisets.{one_if_true}
use Rattle.logic.proofs.Satisfied.{S_mono}
use Rattle.logic.proofs.FewKinds.{Below, power_below, heads_below}
use Rattle.logic.proofs.Decided.{reached, reached_iff}

-- ---- what the minimal facts are

-- a minimal fact of I is a fact of any J ≃ I, and minimal there
minimal_to : {I J : Interp} → I ≃ J → (X : Fact) → Minimal I X → Minimal J X
minimal_to {I} {J} e X m = (inside, λ Y j h. same Y j h)
  where
    -- what J has below X is X
    same : (Y : Fact) → J Y → Y ≼ X → Y ≡ X
    same Y j h =
        let c = e.1 Y j in
        ≼_antisym h (subst (λ (Z : Fact). Z ≼ Y) (m.1 c.0 c.1 (≼_trans c.2 h)) c.2)

    inside : J X
    inside = let c = e.0 X m.0 in subst J (same c.0 c.1 c.2) c.1

-- the minimal facts of an interpretation are those of any ≃-equal one
pub minimal_same : {I J : Interp} → I ≃ J → (X : Fact) → Minimal I X ↔ Minimal J X
minimal_same e X = (minimal_to e X, minimal_to (e.1, e.0) X)

pub minimal_mono : {I J : Interp} → I ≃ J → Minimal I ⊑ Minimal J
minimal_mono e X m = (X, minimal_to e X m, ≼_refl X)

-- facts none of which includes another are all minimal: such a T ≃ U has exactly the minimal facts of U
pub apart_minimal : {T U : Interp} → ((X Y : Fact) → T X → T Y → X ≼ Y → X ≡ Y) → T ≃ U → (X : Fact) → T X ↔ Minimal U X
apart_minimal apart e X = (λ t. minimal_to e X (t, λ Y s h. apart Y X s t h), λ m. (minimal_to (e.1, e.0) X m).0)

pub minimal_⊑ : (I : Interp) → Minimal I ⊑ I
minimal_⊑ I B m = (B, m.0, ≼_refl B)

-- ---- finding a minimal fact: lower each count in turn as long as the fact stays covered

-- Y has no more of kind j than it must have to be covered by I
abbrev Tight : Interp → Fact → ℕ → Type 0
Tight I Y j = (B : Fact) → I B → B ≼ Y → Y j ≤ B j

tight_down : {I : Interp} {Y Z : Fact} (j : ℕ) → Z ≼ Y → Tight I Y j → Tight I Z j
tight_down j h t B b i = omega (arith, h j, t B b (≼_trans i h))

le_or_lt : (n j : ℕ) → (n ≤ j) ⊎ (j < n)
le_or_lt zero j = inl (omega arith)
le_or_lt (suc n) zero = inr (omega arith)
le_or_lt (suc n) (suc j) = ⊎_elim (λ h. inl (omega (arith, h))) (λ h. inr (omega (arith, h))) (le_or_lt n j)

-- a fact that lacks one j beside Y is included in Y less one j
less_one : (Y B : Fact) (j : ℕ) → B ≼ Y → B j < Y j → B ≼ Y ∖ occ (j ∷ [])
unfolding occ
less_one Y B j h l k = go (eqb j k) refl
  where
    go : (t : Bool) → eqb j k ≡ t → B k ≤ Y k - (one_if (eqb j k) + 0)
    go true e = omega (arith, ap one_if e, ap B (eqb→eq j k (subst T (sym e) tt)), ap Y (eqb→eq j k (subst T (sym e) tt)))
    go false e = omega (arith, ap one_if e, h k)

module _ (I : Interp) (test : Fact → Bool) (test_iff : (X : Fact) → T (test X) ↔ Covers I X) where
  -- lower kind j, whose count is at most n
  lower : (j n : ℕ) (Y : Fact) → Y j ≤ n → Covers I Y → (Z : Fact) × (Z ≼ Y) × Covers I Z × Tight I Z j
  unfolding occ
  lower j zero Y l c = (Y, ≼_refl Y, c, λ B b h. omega (arith, l))
  lower j (suc n) Y l c =
      go (test (Y ∖ occ (j ∷ []))) refl (lower j n (Y ∖ occ (j ∷ [])) (omega (arith, l, one_if_true (eqb j j) (eqb_refl j))))
    where
      go : (t : Bool) → test (Y ∖ occ (j ∷ [])) ≡ t
          → (Covers I (Y ∖ occ (j ∷ [])) → (Z : Fact) × (Z ≼ Y ∖ occ (j ∷ [])) × Covers I Z × Tight I Z j)
          → (Z : Fact) × (Z ≼ Y) × Covers I Z × Tight I Z j
      go true e more =
          let r = more ((test_iff (Y ∖ occ (j ∷ []))).0 (subst T (sym e) tt)) in
          (r.0, λ k. omega (arith, r.1 k), r.2, r.3)
      go false e more = (
        Y,
        ≼_refl Y,
        c,
        λ B b h. ⊎_elim (λ q. omega (arith, q))
            (λ q. absurd (subst T e ((test_iff (Y ∖ occ (j ∷ []))).1 (B, b, less_one Y B j h q)))) (eq-or-lt_of_le (h j)),
      )

  -- lower each kind below n
  lower_all : (n : ℕ) (Y : Fact) → Covers I Y → (Z : Fact) × (Z ≼ Y) × Covers I Z × ((j : ℕ) → j < n → Tight I Z j)
  lower_all zero Y c = (Y, ≼_refl Y, c, λ j h. absurd (omega (arith, h)))
  lower_all (suc n) Y c =
      let r = lower_all n Y c in
      let s = lower n (r.0 n) r.0 (omega arith) r.2 in (
        s.0,
        ≼_trans s.1 r.1,
        s.2,
        λ j h.
            ⊎_elim (λ q. subst (Tight I s.0) (sym q) s.3) (λ q. tight_down j s.1 (r.3 j q)) (eq-or-lt_of_le (le_of_suc-le-suc h)),
      )

  -- a fact of I of finitely many kinds lies above a minimal one
  pub minimal_below : (n : ℕ) (X : Fact) → Below n X → I X → Covers (Minimal I) X
  minimal_below n X f x =
      let r = lower_all n X (X, x, ≼_refl X) in
      let tight : (j : ℕ) → Tight I r.0 j = λ j. ⊎_elim (λ h B b i. omega (arith, r.1 j, f j h)) (λ h. r.3 j h) (le_or_lt n j) in
      let c = r.2 in
      (c.0, (c.1, λ Y y h. ≼_antisym h (λ k. omega (arith, c.2 k, tight k Y y (≼_trans h c.2)))), ≼_trans c.2 r.1)

-- ---- what follows

-- every fact of S_P↑k includes a minimal one
pub power_minimal : (P : List Clause) (k : ℕ) → S↑ P k ⊑ Minimal (S↑ P k)
power_minimal P k X s =
    let n = heads_below P in
    minimal_below (S↑ P k) (reached P k) (reached_iff P k) n.0 X (power_below n.0 n.1 k X s) s

-- S_P of the minimal facts is ≃ S_P of all, where each fact lies above a minimal one
pub S_minimal : (P : List Clause) {I : Interp} → I ⊑ Minimal I → S P (Minimal I) ≃ S P I
S_minimal P {I} h = (S_mono (minimal_⊑ I), S_mono h)
