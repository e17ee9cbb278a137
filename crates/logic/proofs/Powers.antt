-- The powers of S_P against the proofs of Figure 1: k rounds reach what has a proof with at most k backchaining steps on each path.
use mathlib.Core.Path.{sym}
use mathlib.Core.List.Permᴰ
use mathlib.Core.List.{List, ◌++◌}
use mathlib.Core.Logic.{◌↔◌}
use Prim.Native.Nat.{ℕ, zero, suc}
use native.Mathlib.Omega.{arith}
use Rattle.logic.specs.Facts.{Fact, ◌≼◌, occ}
use Rattle.logic.specs.Goals.{Goal, Clause, ◌∈◌, atoms}
use Rattle.logic.specs.Satisfaction.{Interp, ◌⊩◌⟦◌⟧, sat_top, sat_fact, sat_par, sat_with}
use Rattle.logic.specs.Operator.{S, s_clause, S↑}
use Rattle.logic.specs.Order.{Covers, ◌⊑◌}
use Rattle.logic.specs.Branches.{branches_c}
use Rattle.logic.proofs.Multisets.{∼_eq, ◌⨾◌, atoms_append, atoms_∼, occ_append, occ_∼, split_off}
use Rattle.logic.proofs.OrderLaws.{covers_more, ⊑_trans}
use Rattle.logic.proofs.Contexts.{atoms_branch, branch_beside}
use Rattle.logic.proofs.Figure1.{Der, top_d, par_d, with_d, bc_d, exchange}
use Rattle.logic.proofs.ByBranches.{branchwise}
use Rattle.logic.proofs.Satisfied.{S_mono}
use Rattle.logic.proofs.Step.{step_iff}

module _ {P : List Clause} where
  -- what is satisfied in provable facts has a proof beside what it asks for
  sat_sound : {I : Interp} {k : ℕ} → ((B : Fact) → I B → (A : List ℕ) → B ≼ occ A → Der P k (atoms A))
      → {Θ : List Goal} {X : Fact} → I ⊩ Θ ⟦ X ⟧ → (A : List ℕ) → X ≼ occ A → Der P k (Θ ++ atoms A)
  sat_sound f (sat_top e) A h = top_d (Permᴰ.append_right (atoms A) e)
  sat_sound f (sat_fact C {B = B} e b) A h =
      exchange (Permᴰ.append_right (atoms A) e ⨾ ∼_eq (sym (atoms_append C A))) (f B b (C ++ A) (λ k. omega (arith, h k, occ_append C A k)))
  sat_sound f (sat_par e s) A h = par_d (Permᴰ.append_right (atoms A) e) (sat_sound f s A h)
  sat_sound f (sat_with e s t) A h =
      with_d (Permᴰ.append_right (atoms A) e) (sat_sound f s A (λ k. omega (arith, h k))) (sat_sound f t A (λ k. omega (arith, h k)))

  -- a fact of S_P↑k has a proof, and so has what includes it
  power_sound : (k : ℕ) (X : Fact) → S↑ P k X → (A : List ℕ) → X ≼ occ A → Der P k (atoms A)
  unfolding S↑
  power_sound zero X s A h = absurd s
  power_sound (suc k) X (s_clause {c = c} m s) A h =
      let r = split_off c.head A (λ i. omega (arith, h i)) in
      bc_d r.0 m (atoms_∼ r.1)
      (sat_sound (power_sound k) s r.0 (λ i. omega (arith, h i, occ_∼ r.1 i, occ_append c.head r.0 i)))

  -- each branch of what has a proof is covered by S_P↑k
  power_complete : {k : ℕ} {Θ : List Goal} → Der P k Θ → (b : List ℕ) → b ∈ branches_c Θ → Covers (S↑ P k) (occ b)
  unfolding S↑
  power_complete p =
      branchwise (λ k b. Covers (S↑ P k) (occ b)) (λ k a b d c. covers_more (λ i. omega (arith, occ_∼ d i)) c)
      (λ k c A m f. (step_iff P (S↑ P k) (occ (c.head ++ A))).1 (
        c,
        m,
        λ i. omega (arith, occ_append c.head A i),
        λ b n. covers_more (λ i. omega (arith, occ_append b A i, occ_append c.head A i)) (f (b ++ A) (branch_beside c.body A n)),
      ))
      p

  pub der_power : (k : ℕ) (A : List ℕ) → Der P k (atoms A) ↔ Covers (S↑ P k) (occ A)
  der_power k A = (λ p. power_complete p A (atoms_branch A), λ c. power_sound k c.0 c.1 A c.2)

-- S_P↑k ⊑ S_P↑k+1
pub power_up : (P : List Clause) (k : ℕ) → S↑ P k ⊑ S↑ P (suc k)
unfolding S↑
power_up P zero = λ B b. absurd b
power_up P (suc k) = S_mono (power_up P k)

-- what is closed under S_P holds every power of it (001: the least fixpoint)
pub power_least : (P : List Clause) (J : Interp) → S P J ⊑ J → (k : ℕ) → S↑ P k ⊑ J
unfolding S↑
power_least P J h zero = λ B b. absurd b
power_least P J h (suc k) = ⊑_trans (S_mono (power_least P J h k)) h

-- where one power is closed, it holds all
pub power_stays : (P : List Clause) (k : ℕ) → S↑ P (suc k) ⊑ S↑ P k → (j : ℕ) → S↑ P j ⊑ S↑ P k
unfolding S↑
power_stays P k h = power_least P (S↑ P k) h
