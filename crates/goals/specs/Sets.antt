-- Branches and heads as sets of 32 counts (01, "Branches" and "A row is 32 bytes").
use Rattle.std.specs.Prelude.{ℕ, List, [], ◌∷◌, set}
use Rattle.tokens.specs.Sets.{empty, plus}
use Rattle.logic.specs.Goals.{Goal, Clause}
use Rattle.logic.specs.Branches.{opened, opened_all}
use Rattle.rounds.specs.Round.{Rule}
use Rattle.goals.specs.Readings.{Reading, read, ◌>>=◌, rule, order}

-- a set "holding it once"
unfoldable pub one : ℕ → List ℕ
one k = set empty k 1

-- the set of a list of kinds, as of a head
unfoldable pub set_of : List ℕ → List ℕ
set_of [] = empty
set_of (k ∷ ks) = plus (one k) (set_of ks)

-- "Each goal opens into an ordered list of branches, each a token set."
unfoldable pub branch_rows : Goal → List (List ℕ)
branch_rows G = opened one plus G

-- "Its goals are joined by the comma of Figure 1, which acts as ⅋."
unfoldable pub order_rows : List Goal → List (List ℕ)
order_rows Δ = opened_all one plus empty Δ

-- a clause as rounds see it: its head as a set, and its body's branches
unfoldable pub opening : Clause → Rule
opening C = record { head = set_of C.head; branches = branch_rows C.body }

-- a rule record, opened, or its refusal
unfoldable pub opened_rule : ℕ → List ℕ → Reading Rule
opened_rule n s = rule n s >>= λ C. read (opening C)

-- an order, opened, or its refusal
unfoldable pub opened_order : ℕ → List ℕ → Reading (List (List ℕ))
opened_order n s = order n s >>= λ Δ. read (order_rows Δ)
