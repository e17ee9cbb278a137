-- Rounds over rules that bytes spell are rounds of S_P over the facts of their rows.
use Prim.Native.Nat.{ℕ, zero, suc, ◌<◌}
use native.Mathlib.Omega.{arith}
use mathlib.Core.Bool.{Bool, true, false, ◌||◌}
use mathlib.Core.Path.{◌≡◌, refl, sym, ap, subst, fun_ext, ◌∙◌}
use mathlib.Core.List.Memᴰ
use mathlib.Core.List.{List, map}
use mathlib.Core.Logic.{inl, inr, ⊎_elim, ◌↔◌}
use lib.ListN.{length}
use Rattle.tokens.specs.Sets.{included, minus, plus}
use Rattle.tokens.specs.Tables.{every, covered, Wide}
use Rattle.tokens.proofs.Tests.{both, and_l, and_r, or_l, or_r, or_cases, never, refuted}
use Rattle.tokens.proofs.SetLaws.{included_refl}
use Rattle.tokens.proofs.TableLaws.{every_mem, mem_every, covers, Orderly}
use Rattle.logic.specs.Facts.{Fact, ◌≼◌, ◌⊕◌, ◌∖◌, occ}
use Rattle.logic.specs.Goals.{Goal, Clause, ◌∈◌}
use Rattle.logic.specs.Proofs.{◌⊢◌, Within}
use Rattle.logic.specs.Operator.{S, S↑}
use Rattle.logic.specs.Order.{Covers, ◌⊑◌, ◌≃◌, ◌∪◌, Minimal, Listed}
use Rattle.logic.specs.Branches.{branches, branches_c}
use Rattle.logic.specs.Rounds.{After, start, round as round_after, AllCovered}
use Rattle.logic.proofs.FactLaws.{≼_refl}
use Rattle.logic.proofs.Multisets.{mem_map, mem_map_cases}
use Rattle.logic.proofs.OrderLaws.{⊑_refl, ⊑_trans, covers_more, ∪_covers}
use Rattle.logic.proofs.FewKinds.{S_below}
use Rattle.logic.proofs.Step.{step_iff}
use Rattle.logic.proofs.Satisfied.{S_mono}
use Rattle.logic.proofs.Keeping.{after_iter, after_closed, nothing_new}
use Rattle.logic.proofs.MinimalFacts.{apart_minimal}
use Rattle.logic.proofs.Theorems.{after_apart, after_order, closed_order}
use Rattle.goals.specs.Codes.{is_kind}
use Rattle.goals.specs.Printing.{below}
use Rattle.goals.specs.Sets.{set_of, branch_rows, order_rows, opening}
use Rattle.goals.proofs.RowLaws.{set_of_fact, branch_kinds, context_kinds}
use Rattle.goals.proofs.CallerLaws.{branch_every, order_every}
use Rattle.rounds.specs.Round.{going, Limits, Growth, round, rounds, answer}
use Rattle.rounds.specs.Earns.{any, earns}
use Rattle.rounds.specs.Ends.{Closed}
use Rattle.rounds.proofs.RunLaws.{going_is}
use Rattle.rounds.proofs.CoverLaws.{round_covers}
use Rattle.rounds.proofs.EarnsLaws.{mem_any, any_mem}
use Rattle.rounds.proofs.RoundLaws.{round_orderly, round_wide, round_earned}
use Rattle.rounds.proofs.RoundsLaws.{rounds_back, rounds_wide, rounds_orderly}
use Rattle.demands.specs.Facts.{fact}
use Rattle.demands.proofs.RowFacts.{included_fact, plus_fact, minus_fact, row_of, row_of_fact, covered_fact, listed_below, listed_row, listed_apart}
use Rattle.demands.proofs.Spelling.{Spelt, head_fact, heads_32, sized}

-- ---- one rule

-- y less a head with a branch beside it, as facts
beside_fact : (y h a : List ℕ) → fact (plus (minus y h) a) ≡ fact a ⊕ (fact y ∖ fact h)
beside_fact y h a = fun_ext (λ k. ap (λ (f : Fact). f k) (plus_fact (minus y h) a) ∙ omega (arith, ap (λ (f : Fact). f k) (minus_fact y h)))

module _ (n : ℕ) (P : List Clause) (known : (c : Clause) → c ∈ P → Spelt n c) where
  -- what a rule earns over a table, said of facts: the head is included, and with each branch beside the rest the table covers it
  abbrev Steps : List (List ℕ) → List ℕ → Clause → Type 0
  Steps I y c = (occ c.head ≼ fact y) × ((b : List ℕ) → b ∈ branches c.body → Covers (Listed fact I) (occ b ⊕ (fact y ∖ occ c.head)))

  module _ (I : List (List ℕ)) (y : List ℕ) (c : Clause) (m : c ∈ P) where
    branch_fact : (b : List ℕ) → b ∈ branches c.body → fact (plus (minus y (set_of c.head)) (set_of b)) ≡ occ b ⊕ (fact y ∖ occ c.head)
    branch_fact b i =
        let kinds : every (is_kind n) b ≡ true = every_mem (every (is_kind n)) (branch_kinds n c.body (known c m).bodies) i in
        beside_fact y (set_of c.head) (set_of b)
        ∙ ap (λ (f : Fact). f ⊕ (fact y ∖ fact (set_of c.head))) (fun_ext (set_of_fact n b kinds))
        ∙ ap (λ (f : Fact). occ b ⊕ (fact y ∖ f)) (head_fact n P known c m)

    pub earns_steps : (earns (covered I) y (opening c) ≡ true) ↔ Steps I y c
    unfolding earns opening
    earns_steps =
        let h = set_of c.head in
        let test : List ℕ → Bool = λ a. covered I (plus (minus y h) a) in
        let all = branch_every test c.body in (
          λ e. (
            subst (λ (f : Fact). f ≼ fact y) (head_fact n P known c m) ((included_fact h y).0 (and_l (included h y) (every test (branch_rows c.body)) e)),
            λ b i. subst (Covers (Listed fact I)) (branch_fact b i) ((covered_fact I (plus (minus y h) (set_of b))).0 (every_mem (λ a. test (set_of a)) (sym all ∙ and_r (included h y) (every test (branch_rows c.body)) e) i)),
          ),
          λ s. both (included h y) (every test (branch_rows c.body))
              ((included_fact h y).1 (subst (λ (f : Fact). f ≼ fact y) (sym (head_fact n P known c m)) s.0))
              (all ∙ mem_every (λ a. test (set_of a)) (branches c.body) (λ b i. (covered_fact I (plus (minus y h) (set_of b))).1 (subst (Covers (Listed fact I)) (sym (branch_fact b i)) (s.1 b i)))),
        )

  -- 02, E5, for rows: some rule earns y exactly if y includes a fact of S_P(I)
  pub earned_facts : (I : List (List ℕ)) (y : List ℕ) → (any (earns (covered I) y) (map opening P) ≡ true) ↔ Covers (S P (Listed fact I)) (fact y)
  earned_facts I y = (
    λ e. let w = any_mem (earns (covered I) y) (map opening P) e in
        let r = mem_map_cases opening P w.1 in
        let s = (earns_steps I y r.0 r.1).0 (ap (earns (covered I) y) (sym r.2) ∙ w.2) in
        (step_iff P (Listed fact I) (fact y)).1 (r.0, r.1, s.0, s.1),
    λ v. let s = (step_iff P (Listed fact I) (fact y)).0 v in
        mem_any (earns (covered I) y) (mem_map opening s.1) ((earns_steps I y s.0 s.1).1 (s.2, s.3)),
  )

  -- a fact of S_P of rows of 32 counts is itself a row of 32 counts
  S_row : (I : List (List ℕ)) → Wide 32 I → (X : Fact) → S P (Listed fact I) X → fact (row_of 32 X) ≡ X
  S_row I w X s = row_of_fact 32 X (S_below 32 (heads_32 n P known) (listed_below 32 I w) X s)

  -- ---- one round

  module _ (limits : Limits) (spent : Bool) (I : List (List ℕ)) (u : Growth) (e : round limits spent (map opening P) I ≡ going u) (w : Wide 32 I) where
    covers_now : (y : List ℕ) → covered u.rows y ≡ (covered I y || any (earns (covered I) y) (map opening P))
    covers_now y = round_covers limits spent (map opening P) I u e y

    -- a round gives I together with S_P(I), up to facts that include others
    pub round_facts : Listed fact u.rows ≃ Listed fact I ∪ S P (Listed fact I)
    round_facts = (
      λ B b.
          let r = b.0 in
          subst (Covers (Listed fact I ∪ S P (Listed fact I))) (sym b.2)
          ((∪_covers (Listed fact I) (S P (Listed fact I)) (fact r)).1
          (⊎_elim (λ c. inl ((covered_fact I r).0 c)) (λ c. inr ((earned_facts I r).0 c))
          (or_cases (covered I r) (any (earns (covered I) r) (map opening P)) (sym (covers_now r) ∙ covers b.1 r (included_refl r))))),
      λ B b. ⊎_elim (λ i. from_rows B i) (λ s. from_rules B s) b,
    )
      where
        from_rows : (B : Fact) → Listed fact I B → Covers (Listed fact u.rows) B
        from_rows B i =
            subst (Covers (Listed fact u.rows)) (sym i.2)
            ((covered_fact u.rows i.0).0 (covers_now i.0 ∙ or_l (covered I i.0) (any (earns (covered I) i.0) (map opening P)) (covers i.1 i.0 (included_refl i.0))))

        from_rules : (B : Fact) → S P (Listed fact I) B → Covers (Listed fact u.rows) B
        from_rules B s =
            let y = row_of 32 B in
            let p = S_row I w B s in
            subst (Covers (Listed fact u.rows)) p
            ((covered_fact u.rows y).0 (covers_now y ∙ or_r (covered I y) (any (earns (covered I) y) (map opening P))
            ((earned_facts I y).1 (subst (Covers (S P (Listed fact I))) (sym p) (B, s, ≼_refl B)))))

    -- its rows are the minimal facts of I together with S_P(I)
    pub round_minimal : Orderly I → (x : List ℕ) → (x ∈ u.rows) ↔ ((length x ≡ 32) × Minimal (Listed fact I ∪ S P (Listed fact I)) (fact x))
    round_minimal o x =
        let row = listed_row 32 u.rows (round_wide limits spent (map opening P) I u e (sized P) w) x in
        let least = apart_minimal (listed_apart u.rows (round_orderly limits spent (map opening P) I u e o)) round_facts (fact x) in
        (λ m. ((row.0 m).0, least.0 (row.0 m).1), λ p. row.1 (p.0, least.1 p.1))

    -- it grew exactly if S_P(I) has a fact that I does not cover
    pub round_grew : (u.grew ≡ true) ↔ ((X : Fact) × S P (Listed fact I) X × (Covers (Listed fact I) X → ⊥))
    round_grew =
        let told = round_earned limits spent (map opening P) I u e in (
          λ g. let y = told.0 g in
              let v = (earned_facts I y.0).0 y.1 in
              (v.0, v.1, λ c. never (covered I y.0) ((covered_fact I y.0).1 (covers_more v.2 c)) y.2),
          λ x. let y = row_of 32 x.0 in
              let p = S_row I w x.0 x.1 in
              told.1 (
                y,
                (earned_facts I y).1 (subst (Covers (S P (Listed fact I))) (sym p) (x.0, x.1, ≼_refl x.0)),
                refuted (covered I y) (λ c. x.2 (subst (Covers (Listed fact I)) p ((covered_fact I y).0 c))),
              ),
        )

  -- ---- rounds from no rows

  module _ (limits : Limits) where
    -- k unrefused rounds are k rounds of S_P from the empty interpretation
    pub rounds_after : (k : ℕ) (t : List (List ℕ)) → rounds limits (map opening P) k ≡ going t → After P k (Listed fact t)
    unfolding rounds
    rounds_after zero t e = start {T = Listed fact t} (λ B b. absurd (Memᴰ.not-nil (subst (λ (l : List (List ℕ)). b.0 ∈ l) (sym (going_is e)) b.1)))
    rounds_after (suc k) t e =
        let b = rounds_back limits (map opening P) k t e in
        subst (λ (l : List (List ℕ)). After P (suc k) (Listed fact l)) b.2.2
        (round_after (rounds_after k b.0 b.1) (round_facts limits false b.0 b.2.0 b.2.1 (rounds_wide limits (map opening P) (sized P) k b.0 b.1)))

    -- the rows after k rounds are the minimal facts of S_P↑k
    pub rounds_minimal : (k : ℕ) (t : List (List ℕ)) → rounds limits (map opening P) k ≡ going t → (x : List ℕ) → (x ∈ t) ↔ ((length x ≡ 32) × Minimal (S↑ P k) (fact x))
    rounds_minimal k t e x =
        let row = listed_row 32 t (rounds_wide limits (map opening P) (sized P) k t e) x in
        let least = after_apart (rounds_after k t e) (listed_apart t (rounds_orderly limits (map opening P) k t e)) (fact x) in
        (λ m. ((row.0 m).0, least.0 (row.0 m).1), λ p. row.1 (p.0, least.1 p.1))

-- ---- what a table answers

-- "each of its branches is covered by the table", for rows and for facts
pub answer_facts : (n : ℕ) (t : List (List ℕ)) (Θ : List Goal) → every (below n) Θ ≡ true → (answer t (order_rows Θ) ≡ true) ↔ AllCovered (Listed fact t) Θ
unfolding answer
answer_facts n t Θ h =
    let all = order_every (covered t) Θ in
    let same : (b : List ℕ) → b ∈ branches_c Θ → fact (set_of b) ≡ occ b = λ b i. fun_ext (set_of_fact n b (every_mem (every (is_kind n)) (context_kinds n Θ h) i)) in (
      λ e b i. subst (Covers (Listed fact t)) (same b i) ((covered_fact t (set_of b)).0 (every_mem (λ a. covered t (set_of a)) (sym all ∙ e) i)),
      λ f. all ∙ mem_every (λ a. covered t (set_of a)) (branches_c Θ) (λ b i. (covered_fact t (set_of b)).1 (subst (Covers (Listed fact t)) (sym (same b i)) (f b i))),
    )

module _ (n : ℕ) (P : List Clause) (known : (c : Clause) → c ∈ P → Spelt n c) (limits : Limits) where
  -- after k rounds: proofs with at most k backchaining steps on each path
  pub rounds_answer : (m k : ℕ) (t : List (List ℕ)) → rounds limits (map opening P) k ≡ going t → (Θ : List Goal) → every (below m) Θ ≡ true → Within P k Θ ↔ (answer t (order_rows Θ) ≡ true)
  rounds_answer m k t e Θ h =
      let a = after_order (rounds_after n P known limits k t e) Θ in
      let b = answer_facts m t Θ h in
      (λ p. b.1 (a.0 p), λ q. a.1 (b.0 q))

  -- a closed table: S_P brings nothing new to it
  pub closed_rests : (permitted : ℕ) (t : List (List ℕ)) (g : ℕ) → Closed limits (map opening P) permitted t g → S P (Listed fact t) ⊑ Listed fact t
  closed_rests permitted t g c =
      let w = rounds_wide limits (map opening P) (sized P) g t c.reached.finished in
      nothing_new (round_facts n P known limits false t (record { grew = false; rows = t }) c.ends w) (⊑_refl (Listed fact t))

  -- a closed table: proofs of any depth
  pub closed_answer : (m permitted : ℕ) (t : List (List ℕ)) (g : ℕ) → Closed limits (map opening P) permitted t g → (Θ : List Goal) → every (below m) Θ ≡ true → (answer t (order_rows Θ) ≡ true) ↔ (P ⊢ Θ)
  closed_answer m permitted t g c Θ h =
      let a = closed_order (rounds_after n P known limits g t c.reached.finished) (closed_rests permitted t g c) Θ in
      let b = answer_facts m t Θ h in
      (λ q. a.1 (b.0 q), λ p. b.1 (a.0 p))

  -- so S_P↑g is the first power to which S_P adds nothing
  pub closed_first : (permitted : ℕ) (t : List (List ℕ)) (g : ℕ) → Closed limits (map opening P) permitted t g
      → (S↑ P (suc g) ⊑ S↑ P g) × ((j : ℕ) → j < g → S↑ P (suc j) ⊑ S↑ P j → ⊥)
  unfolding S↑
  closed_first permitted t g c = (
    after_closed (rounds_after n P known limits g t c.reached.finished) (closed_rests permitted t g c),
    λ j h stays.
        let q = c.reached.grew j h in
        let I = Listed fact q.table in
        let same = after_iter (rounds_after n P known limits j q.table q.given) in
        let w = rounds_wide limits (map opening P) (sized P) j q.table q.given in
        let x = (round_grew n P known limits false q.table (record { grew = true; rows = q.larger }) q.grows w).0 refl in
        x.2 (⊑_trans (⊑_trans (S_mono same.0) stays) same.1 x.0 x.1),
  )
