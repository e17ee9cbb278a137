-- One application of S_P, read from a set.
use mathlib.Core.Path.{sym, subst}
use mathlib.Core.List.{List, [], ◌∷◌}
use mathlib.Core.Logic.{◌↔◌}
use Prim.Native.Nat.{ℕ}
use native.Mathlib.Omega.{arith}
use Rattle.logic.specs.Facts.{Fact, ◌≼◌, ◌⊕◌, ◌∖◌, occ}
use Rattle.logic.specs.Goals.{Goal, Clause, ◌∈◌}
use Rattle.logic.specs.Satisfaction.{Interp}
use Rattle.logic.specs.Operator.{S, s_clause}
use Rattle.logic.specs.Order.{Covers}
use Rattle.logic.specs.Branches.{branches, branches_c}
use Rattle.logic.proofs.OrderLaws.{covers_more}
use Rattle.logic.proofs.Contexts.{branches_alone}
use Rattle.logic.proofs.Satisfied.{sat_covers, sat_complete}

-- a clause whose head is included in X, and each branch of whose body, added to X less the head, is covered by I
abbrev pub Step : List Clause → Interp → Fact → Type 0
Step P I X =
    (c : Clause) × (c ∈ P) × (occ c.head ≼ X) × ((b : List ℕ) → b ∈ branches c.body → Covers I (occ b ⊕ (X ∖ occ c.head)))

-- 02, E5: a set includes something of S_P(I) exactly if some rule can make a step from it
pub step_iff : (P : List Clause) (I : Interp) (X : Fact) → Covers (S P I) X ↔ Step P I X
step_iff P I X = (λ v. down v.1 v.2, up)
  where
    alone : (G : Goal) {b : List ℕ} → b ∈ branches G → b ∈ branches_c (G ∷ [])
    alone G {b} m = subst (λ (l : List (List ℕ)). b ∈ l) (sym (branches_alone G)) m

    down : {Y : Fact} → S P I Y → Y ≼ X → Step P I X
    down (s_clause {c = c} m s) h =
        (c, m, λ k. omega (arith, h k), λ b n. covers_more (λ k. omega (arith, h k)) (sat_covers s b (alone c.body n)))

    up : Step P I X → Covers (S P I) X
    up t =
        let G = t.0.body in
        let each : (b : List ℕ) → b ∈ branches_c (G ∷ []) → Covers I (occ b ⊕ (X ∖ occ t.0.head)) =
        λ b n. t.3 b (subst (λ (l : List (List ℕ)). b ∈ l) (branches_alone G) n) in
        let s = sat_complete I (X ∖ occ t.0.head) (G ∷ []) each in
        (occ t.0.head ⊕ s.0, s_clause t.1 s.1, λ k. omega (arith, s.2 k, t.2 k))
