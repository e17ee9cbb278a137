-- Definition 5.4 through branches: what satisfies a context, Lemma 5.5, and S_P as a monotonic and continuous operator.
use mathlib.Core.Path.{ap, subst}
use mathlib.Core.List.{List, ◌∷◌}
use mathlib.Core.Logic.{⊎_elim, ◌↔◌}
use Prim.Native.Nat.{ℕ, zero, suc, ◌≤◌, max}
use native.Mathlib.Omega.{arith}
use native.Mathlib.Nat.{le_antisymm, eq-or-lt_of_le}
use Rattle.logic.specs.Facts.{Fact, ◌≼◌, ϵ, ◌⊕◌, ◌∖◌, ◌•◌, occ}
use Rattle.logic.specs.Goals.{Goal, ⊤, Clause, ◌∼◌, ◌∈◌}
use Rattle.logic.specs.Satisfaction.{Interp, ◌⊩◌⟦◌⟧, sat_top, sat_fact, sat_par, sat_with}
use Rattle.logic.specs.Operator.{S, s_clause}
use Rattle.logic.specs.Order.{Covers, ◌⊑◌}
use Rattle.logic.specs.Branches.{branches_c}
use Rattle.logic.proofs.FactLaws.{≼_refl, ≼_trans}
use Rattle.logic.proofs.Multisets.{∼_refl, ◌⨾◌, occ_∼}
use Rattle.logic.proofs.OrderLaws.{covers_more, ⊑_refl, ⊑_trans}
use Rattle.logic.proofs.Contexts.{branch_∼, branch_atoms, branch_top, branch_par, branch_with}
use Rattle.logic.proofs.Opening.{Opens, from_branches}

-- ---- what each line of 5.4 gives: another line in its place is refused here

-- ⊤ beside any context asks for nothing
pub sat_top_beside : (I : Interp) (Δ : List Goal) → I ⊩ ⊤ ∷ Δ ⟦ ϵ ⟧
sat_top_beside I Δ = sat_top ∼_refl

-- what satisfies a context makes each of its branches, added to it, covered (Lemma 5.5, 1)
pub sat_covers : {I : Interp} {Θ : List Goal} {X : Fact} → I ⊩ Θ ⟦ X ⟧ → (b : List ℕ) → b ∈ branches_c Θ → Covers I (occ b ⊕ X)
sat_covers (sat_top {Δ = Δ} e) b m = absurd (branch_top Δ (branch_∼ e b m).1)
sat_covers (sat_fact A {B = B} e i) b m =
    let r = branch_∼ e b m in
    (B, i, λ k. omega (arith, occ_∼ r.2 k, ap (λ (l : List ℕ). occ l k) (branch_atoms A r.1)))
sat_covers (sat_par {Δ = Δ} {G₁ = G} {G₂ = H} e s) b m =
    let r = branch_∼ e b m in
    covers_more (λ k. omega (arith, occ_∼ r.2 k)) (sat_covers s r.0 (branch_par G H Δ r.1))
sat_covers (sat_with {Δ = Δ} {G₁ = G} {G₂ = H} e s t) b m =
    let r = branch_∼ e b m in
    ⊎_elim (λ n. covers_more (λ k. omega (arith, occ_∼ r.2 k)) (sat_covers s r.0 n))
    (λ n. covers_more (λ k. omega (arith, occ_∼ r.2 k)) (sat_covers t r.0 n)) (branch_with G H Δ r.1)

-- ---- satisfied below a given fact

-- I ⊩ Θ[X] for some X ≼ A
abbrev pub SatBelow : Interp → Fact → List Goal → Type 0
SatBelow I A Θ = (X : Fact) × (I ⊩ Θ ⟦ X ⟧) × (X ≼ A)

pub sat_swap : {I : Interp} {Θ Ξ : List Goal} {X : Fact} → Ξ ∼ Θ → I ⊩ Θ ⟦ X ⟧ → I ⊩ Ξ ⟦ X ⟧
sat_swap d (sat_top e) = sat_top (d ⨾ e)
sat_swap d (sat_fact A e b) = sat_fact A (d ⨾ e) b
sat_swap d (sat_par e s) = sat_par (d ⨾ e) s
sat_swap d (sat_with e s t) = sat_with (d ⨾ e) s t

sat_opens : (I : Interp) (A : Fact) → Opens (SatBelow I A)
sat_opens I A = record {
  swap = λ d s. (s.0, sat_swap d s.1, s.2);
  done = λ Δ. (ϵ, sat_top ∼_refl, λ k. omega arith);
  together = λ s. (s.0, sat_par ∼_refl s.1, s.2);
  both = λ s t. (s.0 • t.0, sat_with ∼_refl s.1 t.1, λ k. omega (arith, s.2 k, t.2 k));
}

-- a context whose every branch, added to A, is covered is satisfied below A (Lemma 5.5, 2)
pub sat_complete : (I : Interp) (A : Fact) (Θ : List Goal) → ((b : List ℕ) → b ∈ branches_c Θ → Covers I (occ b ⊕ A)) → SatBelow I A Θ
sat_complete I A Θ f =
    from_branches (SatBelow I A) (sat_opens I A) Θ
    (λ b m. let c = f b m in (c.0 ∖ occ b, sat_fact b ∼_refl c.1, λ k. omega (arith, c.2 k)))

-- Lemma 5.5, 1 and 2, with Δ added to 𝒜' satisfied in ⟦I⟧ read as: each branch of Δ, added to 𝒜', is in ⟦I⟧
pub sat_below_iff : (I : Interp) (A : Fact) (Θ : List Goal) → SatBelow I A Θ ↔ ((b : List ℕ) → b ∈ branches_c Θ → Covers I (occ b ⊕ A))
sat_below_iff I A Θ = (λ s b m. covers_more (λ k. omega (arith, s.2 k)) (sat_covers s.1 b m), sat_complete I A Θ)

-- Lemma 5.5, 3: if I ⊩ Δ[𝒜] and I ⊑ J, then there exists 𝒜' such that J ⊩ Δ[𝒜'] and 𝒜' ≼ 𝒜
pub sat_mono : {I J : Interp} → I ⊑ J → {Θ : List Goal} {A : Fact} → I ⊩ Θ ⟦ A ⟧ → SatBelow J A Θ
sat_mono f (sat_top e) = (ϵ, sat_top e, λ k. omega arith)
sat_mono f (sat_fact A {B = B} e b) = let c = f B b in (c.0 ∖ occ A, sat_fact A e c.1, λ k. omega (arith, c.2 k))
sat_mono f (sat_par e s) = let t = sat_mono f s in (t.0, sat_par e t.1, t.2)
sat_mono f (sat_with e s t) =
    let u = sat_mono f s in
    let v = sat_mono f t in
    (u.0 • v.0, sat_with e u.1 v.1, λ k. omega (arith, u.2 k, v.2 k))

-- Proposition 5.7: S_P is monotonic
pub S_mono : {P : List Clause} {I J : Interp} → I ⊑ J → S P I ⊑ S P J
S_mono f X (s_clause {c = c} m s) = let t = sat_mono f s in (occ c.head ⊕ t.0, s_clause m t.1, λ k. omega (arith, t.2 k))

-- ---- chains

-- the union of I₀, I₁, ..
abbrev pub Union : (ℕ → Interp) → Interp
Union I X = (i : ℕ) × I i X

pub chain_up : (I : ℕ → Interp) → ((i : ℕ) → I i ⊑ I (suc i)) → (i k : ℕ) → i ≤ k → I i ⊑ I k
chain_up I f i zero h = subst (λ (n : ℕ). I i ⊑ I n) (le_antisymm h (omega arith)) (⊑_refl (I i))
chain_up I f i (suc k) h =
    ⊎_elim (λ e. subst (λ (n : ℕ). I i ⊑ I n) e (⊑_refl (I i))) (λ l. ⊑_trans (chain_up I f i k (omega arith)) (f k)) (eq-or-lt_of_le h)

sat_lift : {I J : Interp} → I ⊑ J → {A : Fact} {Θ : List Goal} → SatBelow I A Θ → SatBelow J A Θ
sat_lift f s = let t = sat_mono f s.1 in (t.0, t.1, ≼_trans t.2 s.2)

-- Lemma 5.5, 4: what the union of a chain satisfies, one of its members does
pub sat_chain : (I : ℕ → Interp) → ((i : ℕ) → I i ⊑ I (suc i))
    → {Θ : List Goal} {A : Fact} → Union I ⊩ Θ ⟦ A ⟧ → (k : ℕ) × SatBelow (I k) A Θ
sat_chain I f (sat_top e) = (0, (ϵ, sat_top e, λ k. omega arith))
sat_chain I f (sat_fact A {B = B} e b) = (b.0, (B ∖ occ A, sat_fact A e b.1, ≼_refl (B ∖ occ A)))
sat_chain I f (sat_par e s) = let r = sat_chain I f s in (r.0, (r.1.0, sat_par e r.1.1, r.1.2))
sat_chain I f (sat_with e s t) =
    let r = sat_chain I f s in
    let q = sat_chain I f t in
    let u = sat_lift (chain_up I f r.0 (max r.0 q.0) (omega arith)) r.1 in
    let v = sat_lift (chain_up I f q.0 (max r.0 q.0) (omega arith)) q.1 in
    (max r.0 q.0, (u.0 • v.0, sat_with e u.1 v.1, λ k. omega (arith, u.2 k, v.2 k)))

-- Proposition 5.7: S_P is continuous
pub S_chain : {P : List Clause} (I : ℕ → Interp) → ((i : ℕ) → I i ⊑ I (suc i)) → S P (Union I) ⊑ Union (λ i. S P (I i))
S_chain I f X (s_clause {c = c} m s) =
    let r = sat_chain I f s in
    (occ c.head ⊕ r.1.0, (r.0, s_clause m r.1.1), λ k. omega (arith, r.1.2 k))
