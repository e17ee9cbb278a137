-- Whether S_P↑k covers a fact can be computed: by steps, as 02's E5 takes them.
use mathlib.Core.Path.{◌≡◌, refl, sym, ap, subst}
use mathlib.Core.Bool.{Bool, true, false, ◌&&◌, ◌||◌}
use mathlib.Core.List.{List, [], ◌∷◌}
use mathlib.Core.List.Memᴰ
use mathlib.Core.Logic.{◌⊎◌, inl, inr, ⊎_elim, ◌↔◌}
use Prim.Native.Nat.{ℕ, zero, suc, ◌≤◌}
use native.Mathlib.Omega.{arith}
use lib.Dec.{leb, leb→le, le→leb, eqb, eqb→eq, T}
use Rattle.logic.specs.Facts.{Fact, ◌≼◌, ◌⊕◌, ◌∖◌, occ, one_if}
use Rattle.logic.specs.Goals.{Clause, ◌∈◌}
use Rattle.logic.specs.Satisfaction.{Interp}
use Rattle.logic.specs.Operator.{S↑}
use Rattle.logic.specs.Order.{Covers}
use Rattle.logic.specs.Branches.{branches}
use Rattle.logic.proofs.Step.{Step, step_iff}

-- ---- tests over a list

unfoldable pub each : {A : Type 0} → (A → Bool) → List A → Bool
each p [] = true
each p (a ∷ l) = p a && each p l

unfoldable pub some : {A : Type 0} → (A → Bool) → List A → Bool
some p [] = false
some p (a ∷ l) = p a || some p l

and_iff : (a b : Bool) → T (a && b) ↔ (T a × T b)
and_iff true b = (λ h. (tt, h), λ h. h.1)
and_iff false b = (λ h. absurd h, λ h. h.0)

or_iff : (a b : Bool) → T (a || b) ↔ (T a ⊎ T b)
or_iff true b = (λ h. inl tt, λ h. tt)
or_iff false b = (λ h. inr h, λ h. ⊎_elim (λ x. absurd x) (λ y. y) h)

pub each_iff : {A : Type 0} (p : A → Bool) (l : List A) → T (each p l) ↔ ((a : A) → a ∈ l → T (p a))
unfolding each
each_iff p [] = (λ h a m. absurd (Memᴰ.not-nil m), λ f. tt)
each_iff p (x ∷ l) = (
  λ h a m.
      let b = (and_iff (p x) (each p l)).0 h in
      ⊎_elim (λ e. subst (λ y. T (p y)) (sym e) b.0) ((each_iff p l).0 b.1 a) (Memᴰ.cases_cons m),
  λ f. (and_iff (p x) (each p l)).1 (f x (Memᴰ.head refl), (each_iff p l).1 (λ a m. f a (Memᴰ.tail m))),
)

pub some_iff : {A : Type 0} (p : A → Bool) (l : List A) → T (some p l) ↔ ((a : A) × (a ∈ l) × T (p a))
unfolding some
some_iff p [] = (λ h. absurd h, λ r. absurd (Memᴰ.not-nil r.1))
some_iff p (x ∷ l) = (
  λ h.
      ⊎_elim (λ y. (x, Memᴰ.head refl, y)) (λ y. let r = (some_iff p l).0 y in (r.0, Memᴰ.tail r.1, r.2))
      ((or_iff (p x) (some p l)).0 h),
  λ r.
      (or_iff (p x) (some p l)).1
      (⊎_elim (λ e. inl (subst (λ y. T (p y)) e r.2)) (λ m. inr ((some_iff p l).1 (r.0, m, r.2))) (Memᴰ.cases_cons r.1)),
)

-- ---- whether the kinds of a list are included in a fact

occ_or_none : (H : List ℕ) (k : ℕ) → (k ∈ H) ⊎ (occ H k ≡ 0)
unfolding occ
occ_or_none [] k = inr refl
occ_or_none (a ∷ H) k = go (eqb a k) refl (occ_or_none H k)
  where
    go : (t : Bool) → eqb a k ≡ t → (k ∈ H) ⊎ (occ H k ≡ 0) → (k ∈ a ∷ H) ⊎ (occ (a ∷ H) k ≡ 0)
    go true e r = inl (Memᴰ.head (sym (eqb→eq a k (subst T (sym e) tt))))
    go false e (inl m) = inl (Memᴰ.tail m)
    go false e (inr z) = inr (omega (arith, ap one_if e))

-- inclusion has to be looked at only at the kinds of the list
pub by_kinds : (H : List ℕ) (X : Fact) → ((k : ℕ) → k ∈ H → occ H k ≤ X k) → occ H ≼ X
by_kinds H X f k = ⊎_elim (f k) (λ z. omega (arith, z)) (occ_or_none H k)

unfoldable pub holds : List ℕ → Fact → Bool
holds H X = each (λ k. leb (occ H k) (X k)) H

pub holds_iff : (H : List ℕ) (X : Fact) → T (holds H X) ↔ (occ H ≼ X)
unfolding holds
holds_iff H X = (
  λ h. by_kinds H X (λ k m. leb→le (occ H k) (X k) ((each_iff (λ i. leb (occ H i) (X i)) H).0 h k m)),
  λ h. (each_iff (λ i. leb (occ H i) (X i)) H).1 (λ k m. le→leb (occ H k) (X k) (h k)),
)

-- ---- whether a fact is covered after k rounds

-- the clause's head is included in X, and each branch of its body, added to what is left, passes the test r
unfoldable pub steps : (Fact → Bool) → Fact → Clause → Bool
steps r X c = holds c.head X && each (λ b. r (occ b ⊕ (X ∖ occ c.head))) (branches c.body)

unfoldable pub reached : List Clause → ℕ → Fact → Bool
reached P zero X = false
reached P (suc k) X = some (steps (reached P k) X) P

module _ (r : Fact → Bool) (I : Interp) (r_iff : (X : Fact) → T (r X) ↔ Covers I X) (X : Fact) where
  steps_iff : (c : Clause)
      → T (steps r X c) ↔ ((occ c.head ≼ X) × ((b : List ℕ) → b ∈ branches c.body → Covers I (occ b ⊕ (X ∖ occ c.head))))
  unfolding steps
  steps_iff c =
      let left : List ℕ → Fact = λ b. occ b ⊕ (X ∖ occ c.head) in
      let tests : Bool = each (λ b. r (left b)) (branches c.body) in (
        λ h.
            let t = (and_iff (holds c.head X) tests).0 h in
            ((holds_iff c.head X).0 t.0, λ b m. (r_iff (left b)).0 ((each_iff (λ b. r (left b)) (branches c.body)).0 t.1 b m)),
        λ s. (and_iff (holds c.head X) tests).1 (
          (holds_iff c.head X).1 s.0,
          (each_iff (λ b. r (left b)) (branches c.body)).1 (λ b m. (r_iff (left b)).1 (s.1 b m)),
        ),
      )

  some_steps : (P : List Clause) → T (some (steps r X) P) ↔ Step P I X
  some_steps P = (
    λ h. let s = (some_iff (steps r X) P).0 h in let t = (steps_iff s.0).0 s.2 in (s.0, s.1, t.0, t.1),
    λ s. (some_iff (steps r X) P).1 (s.0, s.1, (steps_iff s.0).1 (s.2, s.3)),
  )

pub reached_iff : (P : List Clause) (k : ℕ) (X : Fact) → T (reached P k X) ↔ Covers (S↑ P k) X
unfolding reached S↑
reached_iff P zero X = (λ h. absurd h, λ c. absurd c.1)
reached_iff P (suc k) X =
    let s = some_steps (reached P k) (S↑ P k) (reached_iff P k) X P in
    (λ h. (step_iff P (S↑ P k) X).1 (s.0 h), λ v. s.1 ((step_iff P (S↑ P k) X).0 v))
