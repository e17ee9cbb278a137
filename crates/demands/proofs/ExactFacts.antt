-- The candidates of a round, set for set, are the facts of S_P(I): steps 2 and 3 of 01 are Definitions 5.4 and 5.6 of 001.
use Prim.Native.Nat.{ℕ}
use mathlib.Core.Bool.{true}
use mathlib.Core.Path.{◌≡◌, refl, sym, ap, subst, fun_ext, ◌∙◌}
use mathlib.Core.List.{List, [], ◌∷◌, map}
use mathlib.Core.Logic.{◌↔◌}
use lib.ListN.{length}
use Rattle.tokens.specs.Sets.{empty, minus, join, plus}
use Rattle.tokens.specs.Tables.{every, Wide}
use Rattle.tokens.proofs.Tests.{and_l, and_r}
use Rattle.tokens.proofs.SetLaws.{length_empty, length_minus, length_join, length_plus}
use Rattle.tokens.proofs.TableLaws.{wide_mem}
use Rattle.logic.specs.Facts.{Fact, ϵ, ◌⊕◌, ◌∖◌, ◌•◌, occ}
use Rattle.logic.specs.Goals.{Clause, ◌∈◌}
use Rattle.logic.specs.Operator.{S, s_clause}
use Rattle.logic.specs.Order.{Listed}
use Rattle.logic.specs.Branches.{branches}
use Rattle.logic.proofs.FactLaws.{•_assoc, •_ϵ, ϵ_•}
use Rattle.logic.proofs.Multisets.{mem_map, mem_map_cases}
use Rattle.logic.proofs.Contexts.{branches_alone}
use Rattle.logic.proofs.Joins.{Joined, j_none, j_more, joined_cons, joined_nil, Less, sat_iff}
use Rattle.goals.specs.Codes.{is_kind}
use Rattle.goals.specs.Sets.{set_of, opening}
use Rattle.goals.proofs.RowLaws.{length_set_of, set_of_fact, branch_rows_are, branch_kinds}
use Rattle.rounds.specs.Round.{Rule}
use Rattle.rounds.specs.Earns.{Chosen, chosen, choose, OfRules}
use Rattle.rounds.proofs.RoundLaws.{of_rules_wide}
use Rattle.demands.specs.Facts.{fact}
use Rattle.demands.proofs.RowFacts.{empty_fact, plus_fact, minus_fact, join_fact, fact_only}
use Rattle.demands.proofs.Spelling.{Spelt, head_fact, sized}

-- ---- step 2

-- the fact of a row of I less that of a branch
abbrev LessRow : List (List ℕ) → List ℕ → Fact → Type 0
LessRow I a X = (b : List ℕ) × (b ∈ I) × (X ≡ fact b ∖ fact a)

-- a set chosen for branches: the set that it starts from, joined with a row less the branch for each of them
chosen_joins : {I : List (List ℕ)} {h c : List ℕ} {bs : List (List ℕ)} → Chosen I h bs c → (Z : Fact) × Joined (LessRow I) bs Z × (fact c ≡ fact h • Z)
chosen_joins {h = h} chosen = (ϵ, j_none, sym (•_ϵ (fact h)))
chosen_joins (choose {h = h} {a = a} b m k) =
    let r = chosen_joins k in
    let X = fact b ∖ fact a in (
      X • r.0,
      j_more (b, m, refl) r.1,
      r.2 ∙ ap (λ (f : Fact). f • r.0) (join_fact h (minus b a) ∙ ap (λ (f : Fact). fact h • f) (minus_fact b a)) ∙ •_assoc (fact h) X r.0,
    )

module _ (n : ℕ) (I : List (List ℕ)) where
  -- branches as rows and as lists of kinds
  rows_less : (bs : List (List ℕ)) → every (every (is_kind n)) bs ≡ true → (Z : Fact) → Joined (LessRow I) (map set_of bs) Z → Joined (Less (Listed fact I)) bs Z
  unfolding every
  rows_less [] e Z j = subst (Joined (Less (Listed fact I)) []) (sym (joined_nil j)) j_none
  rows_less (b ∷ bs) e Z j =
      let r = joined_cons j in
      let kinds = and_l (every (is_kind n) b) (every (every (is_kind n)) bs) e in
      let B = r.2.0 in
      subst (Joined (Less (Listed fact I)) (b ∷ bs)) (sym r.4)
      (j_more (fact B, (B, r.2.1, refl), r.2.2 ∙ ap (λ (f : Fact). fact B ∖ f) (fun_ext (set_of_fact n b kinds)))
      (rows_less bs (and_r (every (is_kind n) b) (every (every (is_kind n)) bs) e) r.1 r.3))

  -- rows chosen as the joins say
  joins_chosen : Wide 32 I → (bs : List (List ℕ)) → every (every (is_kind n)) bs ≡ true → (h : List ℕ) → length h ≡ 32 → (Z : Fact) → Joined (Less (Listed fact I)) bs Z
      → (c : List ℕ) × Chosen I h (map set_of bs) c × (length c ≡ 32) × (fact c ≡ fact h • Z)
  unfolding every
  joins_chosen w [] e h l Z j = (h, chosen, l, sym (ap (λ (f : Fact). fact h • f) (joined_nil j) ∙ •_ϵ (fact h)))
  joins_chosen w (b ∷ bs) e h l Z j =
      let r = joined_cons j in
      let kinds = and_l (every (is_kind n) b) (every (every (is_kind n)) bs) e in
      let B = r.2.1.0 in
      let m = r.2.1.1 in
      let step = join h (minus B (set_of b)) in
      let wide = length_join 32 h (minus B (set_of b)) l (length_minus 32 B (set_of b) (wide_mem w m) (length_set_of b)) in
      let s = joins_chosen w bs (and_r (every (is_kind n) b) (every (every (is_kind n)) bs) e) step wide r.1 r.3 in
      let X : fact (minus B (set_of b)) ≡ r.0 =
      minus_fact B (set_of b) ∙ ap (λ (f : Fact). fact B ∖ f) (fun_ext (set_of_fact n b kinds)) ∙ ap (λ (f : Fact). f ∖ occ b) (sym r.2.1.2) ∙ sym r.2.2 in (
        s.0,
        choose B m s.1,
        s.2,
        s.3 ∙ ap (λ (f : Fact). f • r.1) (join_fact h (minus B (set_of b)) ∙ ap (λ (f : Fact). fact h • f) X) ∙ •_assoc (fact h) r.0 r.1 ∙ ap (λ (f : Fact). fact h • f) (sym r.4),
      )

-- ---- step 3

module _ (n : ℕ) (P : List Clause) (known : (c : Clause) → c ∈ P → Spelt n c) (I : List (List ℕ)) where
  -- each candidate's fact is in S_P(I)
  pub rules_S : (x : List ℕ) → OfRules (map opening P) I x → S P (Listed fact I) (fact x)
  unfolding opening
  rules_S x o =
      let r = mem_map_cases opening P o.listed in
      let c = r.0 in
      let s : Chosen I empty (map set_of (branches c.body)) o.rest =
      subst (λ (l : List (List ℕ)). Chosen I empty l o.rest) (ap (λ (q : Rule). q.branches) r.2 ∙ branch_rows_are c.body) o.satisfied in
      let j = chosen_joins s in
      let k = rows_less n I (branches c.body) (branch_kinds n c.body (known c r.1).bodies) j.0 j.1 in
      let sat = (sat_iff (Listed fact I) (c.body ∷ []) j.0).1 (subst (λ (l : List (List ℕ)). Joined (Less (Listed fact I)) l j.0) (sym (branches_alone c.body)) k) in
      let rest : fact o.rest ≡ j.0 = j.2 ∙ ap (λ (f : Fact). f • j.0) empty_fact ∙ ϵ_• j.0 in
      let e : fact x ≡ occ c.head ⊕ j.0 =
      ap fact o.candidate ∙ plus_fact o.rule.head o.rest ∙ ap (λ (f : Fact). f ⊕ fact o.rest) (ap (λ (q : Rule). fact q.head) r.2 ∙ head_fact n P known c r.1)
      ∙ ap (λ (f : Fact). occ c.head ⊕ f) rest in
      subst (S P (Listed fact I)) (sym e) (s_clause r.1 sat)

  -- each fact of S_P(I) that a row of 32 counts has is a candidate
  S_rules : Wide 32 I → (x : List ℕ) → length x ≡ 32 → (X : Fact) → S P (Listed fact I) X → fact x ≡ X → OfRules (map opening P) I x
  unfolding opening
  S_rules w x l X (s_clause {c = c} {A = A} m s) e =
      let j = subst (λ (q : List (List ℕ)). Joined (Less (Listed fact I)) q A) (branches_alone c.body) ((sat_iff (Listed fact I) (c.body ∷ []) A).0 s) in
      let k = joins_chosen n I w (branches c.body) (branch_kinds n c.body (known c m).bodies) empty length_empty A j in
      let rest : fact k.0 ≡ A = k.3 ∙ ap (λ (f : Fact). f • A) empty_fact ∙ ϵ_• A in
      let sum : fact (plus (set_of c.head) k.0) ≡ occ c.head ⊕ A =
      plus_fact (set_of c.head) k.0 ∙ ap (λ (f : Fact). f ⊕ fact k.0) (head_fact n P known c m) ∙ ap (λ (f : Fact). occ c.head ⊕ f) rest in
      record {
        rule = opening c;
        listed = mem_map opening m;
        rest = k.0;
        satisfied = subst (λ (q : List (List ℕ)). Chosen I empty q k.0) (sym (branch_rows_are c.body)) k.1;
        candidate = fact_only x (plus (set_of c.head) k.0) (l ∙ sym (length_plus 32 (set_of c.head) k.0 (length_set_of c.head) k.2)) (e ∙ sym sum);
      }

  -- the candidates are the rows of 32 counts whose fact is in S_P(I)
  pub rules_iff : Wide 32 I → (x : List ℕ) → OfRules (map opening P) I x ↔ ((length x ≡ 32) × S P (Listed fact I) (fact x))
  rules_iff w x = (λ o. (of_rules_wide (map opening P) I x (sized P) w o, rules_S x o), λ p. S_rules w x p.0 (fact x) p.1 refl)
