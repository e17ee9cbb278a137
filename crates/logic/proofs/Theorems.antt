-- What a reader looks for: what 001, 01 and 02 say about proofs, S_P and rounds, over the definitions of specs/.
use mathlib.Core.Path.{◌≡◌, refl}
use mathlib.Core.List.Memᴰ
use mathlib.Core.List.{List, [], ◌∷◌}
use mathlib.Core.Logic.{◌↔◌}
use Prim.Native.Nat.{ℕ, zero, suc}
use native.Mathlib.Omega.{arith}
use lib.Dec.{eqb, eqb_refl}
use Rattle.logic.specs.Facts.{Fact, ◌≼◌, ϵ, ◌⊕◌, ◌∖◌, occ}
use Rattle.logic.specs.Goals.{Goal, Clause, ◌∈◌, ◌⊆◌, atoms}
use Rattle.logic.specs.Proofs.{◌⊢◌, depth, Within}
use Rattle.logic.specs.Satisfaction.{Interp, ◌⊩◌⟦◌⟧}
use Rattle.logic.specs.Operator.{S, S↑}
use Rattle.logic.specs.Order.{Covers, ◌⊑◌, ◌≃◌, ◌∪◌, Minimal}
use Rattle.logic.specs.Branches.{opened_all, branches, branches_c}
use Rattle.logic.specs.Rounds.{After, AllCovered}
use Rattle.logic.proofs.Multisets.{one_if_true}
use Rattle.logic.proofs.OrderLaws.{covers_up, ⊑_trans, ≃_sym}
use Rattle.logic.proofs.Figure1.{within_iff, exchange}
use Rattle.logic.proofs.ByBranches.{der_branches, weaken}
use Rattle.logic.proofs.Satisfied.{SatBelow, sat_below_iff, sat_mono, Union, sat_chain, S_mono, S_chain}
use Rattle.logic.proofs.Joins.{Joined, Less, sat_iff}
use Rattle.logic.proofs.Step.{step_iff}
use Rattle.logic.proofs.Powers.{der_power, power_up, power_least, power_stays}
use Rattle.logic.proofs.Keeping.{after_iter, after_closed, nothing_new, power_after}
use Rattle.logic.proofs.MinimalFacts.{minimal_same, minimal_mono, apart_minimal, minimal_⊑, power_minimal, S_minimal}

-- ---- proofs

-- a context is provable with at most k backchaining steps on each path exactly if each of its branches is
pub by_its_branches : (P : List Clause) (k : ℕ) (Θ : List Goal) → Within P k Θ ↔ ((b : List ℕ) → b ∈ branches_c Θ → Within P k (atoms b))
by_its_branches P k Θ = (
  λ w b m. (within_iff k (atoms b)).1 ((der_branches k Θ).0 ((within_iff k Θ).0 w) b m),
  λ f. (within_iff k Θ).1 ((der_branches k Θ).1 (λ b m. (within_iff k (atoms b)).0 (f b m))),
)

-- Proposition 3.1 (weakening), with the bound kept
pub weakening : {P : List Clause} (k : ℕ) {Δ Δ' : List Goal} → Δ ⊆ Δ' → Within P k Δ → Within P k Δ'
weakening k {Δ} {Δ'} i w = (within_iff k Δ').1 (exchange i.1 (weaken i.0 ((within_iff k Δ).0 w)))

-- Proposition 3.1: if Δ ≼ Δ' and P ⇒ Δ, then P ⇒ Δ'
pub prop_3_1 : {P : List Clause} {Δ Δ' : List Goal} → Δ ⊆ Δ' → P ⊢ Δ → P ⊢ Δ'
prop_3_1 i p = (weakening (depth p) i (p, omega arith)).0

-- ---- satisfaction and S_P

-- Lemma 5.5, 1 and 2: I ⊩ Δ[𝒜] for some 𝒜 ≼ 𝒜' exactly if each branch of Δ, added to 𝒜', is in ⟦I⟧
pub lemma_5_5_below : (I : Interp) (A : Fact) (Δ : List Goal) → SatBelow I A Δ ↔ ((b : List ℕ) → b ∈ branches_c Δ → Covers I (occ b ⊕ A))
lemma_5_5_below = sat_below_iff

-- Lemma 5.5, 3: if I ⊩ Δ[𝒜] and I ⊑ J, then J ⊩ Δ[𝒜'] for some 𝒜' ≼ 𝒜
pub lemma_5_5_mono : {I J : Interp} → I ⊑ J → {Δ : List Goal} {A : Fact} → I ⊩ Δ ⟦ A ⟧ → SatBelow J A Δ
lemma_5_5_mono f s = sat_mono f s

-- Lemma 5.5, 4: what the union of a chain satisfies, some member of it does
pub lemma_5_5_chain : (I : ℕ → Interp) → ((i : ℕ) → I i ⊑ I (suc i))
    → {Δ : List Goal} {A : Fact} → Union I ⊩ Δ ⟦ A ⟧ → (k : ℕ) × SatBelow (I k) A Δ
lemma_5_5_chain I f s = sat_chain I f s

-- I ⊩ Δ[𝒜] exactly if 𝒜 is a join, over the branches of Δ, of a fact of I less the branch
pub by_joins : (I : Interp) (Δ : List Goal) (A : Fact) → (I ⊩ Δ ⟦ A ⟧) ↔ Joined (Less I) (branches_c Δ) A
by_joins = sat_iff

-- Proposition 5.7: S_P is monotonic wrt. ⊑ ..
pub prop_5_7_mono : {P : List Clause} {I J : Interp} → I ⊑ J → S P I ⊑ S P J
prop_5_7_mono = S_mono

-- .. and continuous
pub prop_5_7_chain : {P : List Clause} (I : ℕ → Interp) → ((i : ℕ) → I i ⊑ I (suc i)) → S P (Union I) ⊑ Union (λ i. S P (I i))
prop_5_7_chain = S_chain

-- S_P↑k ⊑ S_P↑k+1
pub powers_ascend : (P : List Clause) (k : ℕ) → S↑ P k ⊑ S↑ P (suc k)
powers_ascend = power_up

-- 02, E5: a set includes something of S_P(I) exactly if some clause's head is included in it and each branch of its body,
-- added to the set less the head, is covered by I
pub one_step : (P : List Clause) (I : Interp) (X : Fact)
    → Covers (S P I) X
    ↔ ((c : Clause) × (c ∈ P) × (occ c.head ≼ X) × ((b : List ℕ) → b ∈ branches c.body → Covers I (occ b ⊕ (X ∖ occ c.head))))
one_step = step_iff

-- ---- proofs and the powers of S_P

-- an atomic context has a proof with at most k steps on each path exactly if it includes a fact of S_P↑k(∅)
pub power_iff : (P : List Clause) (k : ℕ) (A : List ℕ) → Within P k (atoms A) ↔ Covers (S↑ P k) (occ A)
power_iff P k A = (λ w. (der_power k A).0 ((within_iff k (atoms A)).0 w), λ c. (within_iff k (atoms A)).1 ((der_power k A).1 c))

-- 02, E13: the same for any context, through its branches
pub order_iff : (P : List Clause) (k : ℕ) (Θ : List Goal) → Within P k Θ ↔ AllCovered (S↑ P k) Θ
order_iff P k Θ = (
  λ w b m. (power_iff P k b).0 ((by_its_branches P k Θ).0 w b m),
  λ f. (by_its_branches P k Θ).1 (λ b m. (power_iff P k b).1 (f b m)),
)

-- Theorem 5.10's first sentence, O(P) = ⟦SymbF(P)⟧, for any context: it is provable exactly if some S_P↑k covers its branches
pub theorem_5_10 : (P : List Clause) (Θ : List Goal) → (P ⊢ Θ) ↔ ((k : ℕ) × AllCovered (S↑ P k) Θ)
theorem_5_10 P Θ = (λ p. (depth p, (order_iff P (depth p) Θ).0 (p, omega arith)), λ t. ((order_iff P t.0 Θ).1 t.1).0)

-- an interpretation that S_P adds nothing to covers the branches of what is provable
pub model_sound : {P : List Clause} (J : Interp) → S P J ⊑ J → {Θ : List Goal} → P ⊢ Θ → AllCovered J Θ
model_sound {P} J h {Θ} p b m = covers_up (power_least P J h (depth p)) ((order_iff P (depth p) Θ).0 (p, omega arith) b m)

-- where S_P↑k+1 ⊑ S_P↑k, a context is provable at any depth exactly if its branches are covered by S_P↑k
pub closed_power : {P : List Clause} (k : ℕ) → S↑ P (suc k) ⊑ S↑ P k → (Θ : List Goal) → (P ⊢ Θ) ↔ AllCovered (S↑ P k) Θ
closed_power {P} k h Θ = (
  λ p b m. covers_up (power_stays P k h (depth p)) ((order_iff P (depth p) Θ).0 (p, omega arith) b m),
  λ f. ((order_iff P k Θ).1 f).0,
)

-- ---- nothing from nothing

-- 02, E2: where no head is empty, no power of S_P covers the empty set
pub never_empty : {P : List Clause} → ((c : Clause) → c ∈ P → c.head ≡ [] → ⊥) → (k : ℕ) → Covers (S↑ P k) ϵ → ⊥
unfolding S↑ occ
never_empty f zero v = v.1
never_empty {P} f (suc k) v = let s = (step_iff P (S↑ P k) ϵ).0 v in f s.0 s.1 (empty s.0.head s.2)
  where
    empty : (H : List ℕ) → occ H ≼ ϵ → H ≡ []
    empty [] h = refl
    empty (a ∷ H) h = absurd (omega (arith, h a, one_if_true (eqb a a) (eqb_refl a)))

-- 01, marked example: then the order of no goals has no proof
pub no_goals_unprovable : {P : List Clause} → ((c : Clause) → c ∈ P → c.head ≡ [] → ⊥) → (P ⊢ []) → ⊥
unfolding opened_all occ
no_goals_unprovable {P} f p = never_empty f (depth p) ((order_iff P (depth p) []).0 (p, omega arith) [] (Memᴰ.head refl))

-- ---- rounds that keep their table

-- k rounds from nothing, each T together with S_P(T) in any representative, give S_P↑k up to ≃
pub after_power : {P : List Clause} {k : ℕ} {T : Interp} → After P k T → T ≃ S↑ P k
after_power = after_iter

-- a round that brings nothing new closes
pub nothing_new_closes : {P : List Clause} {k : ℕ} {T U : Interp} → After P k T → U ≃ T ∪ S P T → U ⊑ T → S↑ P (suc k) ⊑ S↑ P k
nothing_new_closes a e h = after_closed a (nothing_new e h)

-- 02, E13: after k rounds a context's branches are covered exactly if it has a proof with at most k steps on each path
pub after_order : {P : List Clause} {k : ℕ} {T : Interp} → After P k T → (Θ : List Goal) → Within P k Θ ↔ AllCovered T Θ
after_order {P} {k} a Θ =
    let r = after_iter a in (
      λ w b m. covers_up r.1 ((order_iff P k Θ).0 w b m),
      λ f. (order_iff P k Θ).1 (λ b m. covers_up r.0 (f b m)),
    )

-- 01, demand 3: where a round brings nothing new, a context's branches are covered exactly if it has a proof
pub closed_order : {P : List Clause} {k : ℕ} {T : Interp} → After P k T → S P T ⊑ T → (Θ : List Goal) → (P ⊢ Θ) ↔ AllCovered T Θ
closed_order {P} {k} a h Θ =
    let r = after_iter a in
    let c = closed_power k (after_closed a h) Θ in
    (λ p b m. covers_up r.1 (c.0 p b m), λ f. c.1 (λ b m. covers_up r.0 (f b m)))

-- ---- minimal facts

-- the minimal facts of S_P↑k, or of any interpretation, are the minimal facts of any ≃-equal one
pub minimal_facts : {I J : Interp} → I ≃ J → (X : Fact) → Minimal I X ↔ Minimal J X
minimal_facts e X = minimal_same e X

-- 01, demand 2: a table none of whose rows is included in another holds exactly the minimal facts of S_P↑k
pub after_apart : {P : List Clause} {k : ℕ} {T : Interp} → After P k T → ((X Y : Fact) → T X → T Y → X ≼ Y → X ≡ Y)
    → (X : Fact) → T X ↔ Minimal (S↑ P k) X
after_apart a apart X = apart_minimal apart (after_iter a) X

-- every fact after k rounds includes a minimal one, so that the minimal facts stand for all
pub after_stands : {P : List Clause} {k : ℕ} {T : Interp} → After P k T → Minimal T ≃ T
after_stands {P} {k} {T} a = let e = after_iter a in (minimal_⊑ T, ⊑_trans e.0 (⊑_trans (power_minimal P k) (minimal_mono (≃_sym e))))

-- S_P of the minimal facts is ≃ S_P of all, after k rounds and so for S_P↑k itself
pub after_minimal_step : {P : List Clause} {k : ℕ} {T : Interp} → After P k T → S P (Minimal T) ≃ S P T
after_minimal_step {P} a = S_minimal P (after_stands a).1

pub minimal_step : (P : List Clause) (k : ℕ) → S P (Minimal (S↑ P k)) ≃ S P (S↑ P k)
minimal_step P k = after_minimal_step (power_after P k)
