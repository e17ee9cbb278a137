-- Examples 3.2 and 5.12 of 001; letters a to f are kinds 0 to 5.
use mathlib.Core.Path.{◌≡◌, refl, sym, ap, subst, ◌∙◌}
use mathlib.Core.Bool.{Bool, true, false, not, ◌||◌}
use mathlib.Core.List.{List, [], ◌∷◌}
use mathlib.Core.List.Memᴰ
use mathlib.Core.List.Permᴰ
use mathlib.Core.Logic.{◌⊎◌, inl, inr, ⊎_elim, ◌↔◌}
use Prim.Native.Nat.{ℕ, zero, suc, ◌+◌, ◌≤◌}
use native.Mathlib.Omega.{arith}
use lib.Dec.{leb, leb→le, T}
use Rattle.logic.specs.Facts.{Fact, ◌≼◌, ◌⊕◌, occ}
use Rattle.logic.specs.Goals.{Goal, kind, ⊤, ◌⅋◌, ◌&◌, Clause, ◌∈◌}
use Rattle.logic.specs.Proofs.{◌⊢◌, top_r, par_r, with_r, bc, depth}
use Rattle.logic.specs.Satisfaction.{Interp, ◌⊩◌⟦◌⟧}
use Rattle.logic.specs.Operator.{S, s_clause, S↑}
use Rattle.logic.specs.Order.{Covers, ◌⊑◌, ◌≃◌, Minimal, Listed}
use Rattle.logic.specs.Branches.{sums, opened, opened_all}
use Rattle.logic.specs.Rounds.{AllCovered}
use Rattle.logic.proofs.FactLaws.{≼_refl, ≼_antisym}
use Rattle.logic.proofs.Multisets.{∼_refl}
use Rattle.logic.proofs.OrderLaws.{covers_up, ⊑_trans, listed_covers}
use Rattle.logic.proofs.Satisfied.{sat_covers}
use Rattle.logic.proofs.Decided.{each, some, by_kinds, holds, holds_iff, steps, reached, each_iff, reached_iff}
use Rattle.logic.proofs.Powers.{power_least}
use Rattle.logic.proofs.MinimalFacts.{apart_minimal}
use Rattle.logic.proofs.Theorems.{model_sound, closed_power}

abbrev a : Goal
a = kind 0

abbrev b : Goal
b = kind 1

abbrev c : Goal
c = kind 2

abbrev d : Goal
d = kind 3

abbrev e : Goal
e = kind 4

abbrev f : Goal
f = kind 5

infix 5 ◌∘-◌
abbrev ◌∘-◌ : List ℕ → Goal → Clause
H ∘- G = record { head = H; body = G }

-- ---- Example 3.2

abbrev pub Q : List Clause
Q = ((0 ∷ []) ∘- (b & c) ⅋ e) ∷ ((1 ∷ []) ∘- ⊤) ∷ ((2 ∷ []) ∘- d ⅋ b) ∷ []

-- "By clause 2., b, e is provable"
b_e : Q ⊢ b ∷ e ∷ []
b_e = bc (4 ∷ []) (Memᴰ.tail (Memᴰ.head refl)) ∼_refl (top_r ∼_refl)

-- "d, b, e, which is in turn provable by clause 2."
d_b_e : Q ⊢ d ∷ b ∷ e ∷ []
d_b_e = bc (3 ∷ 4 ∷ []) (Memᴰ.tail (Memᴰ.head refl)) (Permᴰ.swap refl refl) (top_r ∼_refl)

-- "by clause 3. to prove c, e we can prove d, b, e"
c_e : Q ⊢ c ∷ e ∷ []
c_e = bc (4 ∷ []) (Memᴰ.tail (Memᴰ.tail (Memᴰ.head refl))) ∼_refl (par_r ∼_refl d_b_e)

-- "Using clause 1., to prove a we have to prove (b & c) ⅋ e, and then .. b, e and c, e"
pub a_provable : Q ⊢ a ∷ []
a_provable = bc [] (Memᴰ.head refl) ∼_refl (par_r ∼_refl (with_r ∼_refl b_e c_e))

-- the most backchaining steps on a path: 01's 3 growing rounds
pub a_in_three : depth a_provable ≡ 3
unfolding depth a_provable b_e c_e d_b_e
a_in_three = refl

-- a fact with an a, a b or a c
abbrev WithABC : Interp
WithABC X = 1 ≤ X 0 + X 1 + X 2

-- each head of Q has one, so S_P adds nothing else
Q_closed : S Q WithABC ⊑ WithABC
unfolding occ each
Q_closed X (s_clause {c = k} {A = A} m s) =
    let h : 1 ≤ occ k.head 0 + occ k.head 1 + occ k.head 2 =
    leb→le 1 (occ k.head 0 + occ k.head 1 + occ k.head 2)
    ((each_iff (λ (k : Clause). leb 1 (occ k.head 0 + occ k.head 1 + occ k.head 2)) Q).0 tt k m) in
    (occ k.head ⊕ A, omega (arith, h), ≼_refl (occ k.head ⊕ A))

-- d, e has no proof at any depth
pub d_e_unprovable : (Q ⊢ d ∷ e ∷ []) → ⊥
unfolding occ sums opened opened_all
d_e_unprovable p =
    let v = model_sound WithABC Q_closed p (3 ∷ 4 ∷ []) (Memᴰ.head refl) in
    omega (arith, v.1, v.2 0, v.2 1, v.2 2)

-- ---- Example 5.12

abbrev second : Clause
second = (1 ∷ []) ∘- (d ⅋ e) & f

abbrev pub P : List Clause
P = ((0 ∷ []) ∘- b ⅋ c) ∷ second ∷ ((2 ∷ 3 ∷ []) ∘- ⊤) ∷ ((2 ∷ 4 ∷ []) ∘- c ⅋ b) ∷ ((2 ∷ 5 ∷ []) ∘- ⊤) ∷ []

-- {c, d}, {c, f}, {b, c}, {a}, {c, e}
abbrev pub five : List (List ℕ)
five = (2 ∷ 3 ∷ []) ∷ (2 ∷ 5 ∷ []) ∷ (1 ∷ 2 ∷ []) ∷ (0 ∷ []) ∷ (2 ∷ 4 ∷ []) ∷ []

-- each of the five is covered after three rounds
five_reached : Listed occ five ⊑ S↑ P 3
unfolding occ each some holds steps reached sums opened
five_reached X l =
    let v = (reached_iff P 3 (occ l.0)).0 ((each_iff (λ (x : List ℕ). reached P 3 (occ x)) five).0 tt l.0 l.1) in
    (v.0, v.1, λ k. omega (arith, v.2 k, ap (λ (F : Fact). F k) l.2))

-- where each of the five stands in the list

c_d : (2 ∷ 3 ∷ []) ∈ five
c_d = Memᴰ.head refl

c_f : (2 ∷ 5 ∷ []) ∈ five
c_f = Memᴰ.tail (Memᴰ.head refl)

b_c : (1 ∷ 2 ∷ []) ∈ five
b_c = Memᴰ.tail (Memᴰ.tail (Memᴰ.head refl))

just_a : (0 ∷ []) ∈ five
just_a = Memᴰ.tail (Memᴰ.tail (Memᴰ.tail (Memᴰ.head refl)))

c_e_row : (2 ∷ 4 ∷ []) ∈ five
c_e_row = Memᴰ.tail (Memᴰ.tail (Memᴰ.tail (Memᴰ.tail (Memᴰ.head refl))))

-- every clause but the second has one of the five for its head
heads : (k : Clause) → k ∈ P → (k.head ∈ five) ⊎ (k ≡ second)
heads k m = ⊎_elim (headed just_a) (λ n. ⊎_elim inr (λ n. ⊎_elim (headed c_d) (λ n. ⊎_elim (headed c_e_row)
    (λ n. ⊎_elim (headed c_f) (λ n. absurd (Memᴰ.not-nil n)) (Memᴰ.cases_cons n))
    (Memᴰ.cases_cons n)) (Memᴰ.cases_cons n)) (Memᴰ.cases_cons n)) (Memᴰ.cases_cons m)
  where
    headed : {q : Clause} → q.head ∈ five → k ≡ q → (k.head ∈ five) ⊎ (k ≡ second)
    headed i q = inl (subst (λ (x : Clause). x.head ∈ five) (sym q) i)

-- X includes {a}, or {b, c}, if its counts say so
has_a : (X : Fact) → 1 ≤ X 0 → occ (0 ∷ []) ≼ X
unfolding occ
has_a X h = by_kinds (0 ∷ []) X (λ k m. subst (λ (i : ℕ). occ (0 ∷ []) i ≤ X i) (sym (Memᴰ.eq_of_singleton m)) h)

has_b_c : (X : Fact) → 1 ≤ X 1 → 1 ≤ X 2 → occ (1 ∷ 2 ∷ []) ≼ X
unfolding occ
has_b_c X h i =
    by_kinds (1 ∷ 2 ∷ []) X (λ k m. ⊎_elim (λ q. subst (λ (j : ℕ). occ (1 ∷ 2 ∷ []) j ≤ X j) (sym q) h)
    (λ n. subst (λ (j : ℕ). occ (1 ∷ 2 ∷ []) j ≤ X j) (sym (Memᴰ.eq_of_singleton n)) i) (Memᴰ.cases_cons m))

-- what the second clause makes of the five includes a, or b and c
by_second : (A : Fact) → Listed occ five ⊩ second.body ∷ [] ⟦ A ⟧ → Covers (Listed occ five) (occ second.head ⊕ A)
unfolding occ each holds sums opened opened_all
by_second A s =
    let v = (listed_covers occ five (occ (5 ∷ []) ⊕ A)).0 (sat_covers s (5 ∷ []) (Memᴰ.tail (Memᴰ.head refl))) in
    let h : 1 ≤ occ v.0 0 + occ v.0 2 =
    leb→le 1 (occ v.0 0 + occ v.0 2) ((each_iff (λ (x : List ℕ). leb 1 (occ x 0 + occ x 2)) five).0 tt v.0 v.1) in
    go (A 0) refl (omega (arith, h, v.2 0, v.2 2))
  where
    go : (n : ℕ) → A 0 ≡ n → 1 ≤ A 0 + A 2 → Covers (Listed occ five) (occ (1 ∷ []) ⊕ A)
    go zero q h =
        (listed_covers occ five (occ (1 ∷ []) ⊕ A)).1 (1 ∷ 2 ∷ [], b_c, has_b_c (occ (1 ∷ []) ⊕ A) (omega arith) (omega (arith, q, h)))
    go (suc n) q h = (listed_covers occ five (occ (1 ∷ []) ⊕ A)).1 (0 ∷ [], just_a, has_a (occ (1 ∷ []) ⊕ A) (omega (arith, q)))

-- S_P of the five adds nothing to them
five_closed : S P (Listed occ five) ⊑ Listed occ five
five_closed X (s_clause {c = k} {A = A} m s) =
    ⊎_elim (λ i. (listed_covers occ five (occ k.head ⊕ A)).1 (k.head, i, λ j. omega arith))
    (λ q. subst (λ (x : Clause). Covers (Listed occ five) (occ x.head ⊕ A)) (sym q)
    (by_second A (subst (λ (x : Clause). Listed occ five ⊩ x.body ∷ [] ⟦ A ⟧) q s)))
    (heads k m)

-- "S_P↑3 = {{c, d}, {c, f}, {b, c}, {a}, {c, e}}"
pub third_power : S↑ P 3 ≃ Listed occ five
third_power = (power_least P (Listed occ five) five_closed 3, five_reached)

-- "S_P↑4 = S_P↑3 = SymbF(P)"
pub third_power_closed : S↑ P 4 ⊑ S↑ P 3
third_power_closed = ⊑_trans (power_least P (Listed occ five) five_closed 4) five_reached

-- but not S_P↑2, which lacks {a}
pub second_power_open : (S↑ P 3 ⊑ S↑ P 2) → ⊥
unfolding occ each some holds steps reached sums opened
second_power_open h =
    let v : Covers (S↑ P 3) (occ (0 ∷ [])) = five_reached (occ (0 ∷ [])) (0 ∷ [], just_a, refl) in
    (reached_iff P 2 (occ (0 ∷ []))).1 (covers_up h v)

-- "O(P) = F(P) = ⟦{{c, d}, {c, f}, {b, c}, {a}, {c, e}}⟧"
pub provable_in_P : (Θ : List Goal) → (P ⊢ Θ) ↔ AllCovered (Listed occ five) Θ
provable_in_P Θ =
    let r = closed_power 3 third_power_closed Θ in
    (λ p x m. covers_up third_power.0 (r.0 p x m), λ g. r.1 (λ x m. covers_up third_power.1 (g x m)))

-- x is not included in y, or y is in x too
clash : List ℕ → List ℕ → Bool
clash x y = not (holds x (occ y)) || holds y (occ x)

-- none of the five includes another
five_apart : (X Y : Fact) → Listed occ five X → Listed occ five Y → X ≼ Y → X ≡ Y
unfolding occ each holds clash
five_apart X Y l r h =
    let t = (each_iff (clash l.0) five).0 ((each_iff (λ (x : List ℕ). each (clash x) five) five).0 tt l.0 l.1) r.0 r.1 in
    let below : occ l.0 ≼ occ r.0 = λ k. omega (arith, h k, ap (λ (F : Fact). F k) l.2, ap (λ (F : Fact). F k) r.2) in
    let above =
    (holds_iff r.0 (occ l.0)).0
    (then (holds l.0 (occ r.0)) (holds r.0 (occ l.0)) t ((holds_iff l.0 (occ r.0)).1 below)) in
    l.2 ∙ ≼_antisym below above ∙ sym r.2
  where
    then : (p q : Bool) → T (not p || q) → T p → T q
    then true q g p = g
    then false q g p = absurd p

-- so the five are the minimal facts of S_P↑3
pub five_minimal : (X : Fact) → Listed occ five X ↔ Minimal (S↑ P 3) X
five_minimal = apart_minimal five_apart (third_power.1, third_power.0)
