-- Branches (01:26), over any type of sets that has a set for each kind, a sum and an empty set.
use Rattle.std.specs.Prelude.{List, [], ◌∷◌, ◌++◌, map, ℕ, ◌+◌, ◌*◌}
use Rattle.logic.specs.Goals.{Goal, kind, ⊤, ◌⅋◌, ◌&◌}

-- 01:26: "the sum of each left with each right branch, left outermost"
unfoldable pub sums : {A : Type 0} → (A → A → A) → List A → List A → List A
sums plus [] R = []
sums plus (a ∷ L) R = map (plus a) R ++ sums plus L R

-- 01:26: "A kind gives one branch holding it once. ⊤ gives none. & gives the left list and then the right. ⅋ gives the sum[s]"
unfoldable pub opened : {A : Type 0} → (ℕ → A) → (A → A → A) → Goal → List A
opened one plus (kind k) = one k ∷ []
opened one plus ⊤ = []
opened one plus (G ⅋ H) = sums plus (opened one plus G) (opened one plus H)
opened one plus (G & H) = opened one plus G ++ opened one plus H

-- 01:22: "the comma of Figure 1, which acts as ⅋"; 01:26: "The order with no goals has one branch, the empty set"
unfoldable pub opened_all : {A : Type 0} → (ℕ → A) → (A → A → A) → A → List Goal → List A
opened_all one plus none [] = none ∷ []
opened_all one plus none (G ∷ Δ) = sums plus (opened one plus G) (opened_all one plus none Δ)

-- the branches of a goal and of a context as lists of kinds
abbrev pub branches : Goal → List (List ℕ)
branches G = opened (λ k. k ∷ []) ◌++◌ G

abbrev pub branches_c : List Goal → List (List ℕ)
branches_c Θ = opened_all (λ k. k ∷ []) ◌++◌ [] Θ

-- 01:26: "the number of branches is 1 for a kind, 0 for ⊤, a sum for &, a product for ⅋"
unfoldable pub ways : Goal → ℕ
ways (kind k) = 1
ways ⊤ = 0
ways (G ⅋ H) = ways G * ways H
ways (G & H) = ways G + ways H
