-- 01's marked examples at the level of heads and branches: one list, one statement, computed. Kinds a to f are 0 to 5.
use Prim.Native.Nat.{ℕ, zero, suc, ◌-◌, ◌*◌}
use mathlib.Core.Bool.{Bool, true, false}
use mathlib.Core.List.{List, [], ◌∷◌, ◌++◌}
use mathlib.Core.Path.{◌≡◌, refl}
use lib.ListN.{replicate}
use Rattle.tokens.specs.Sets.{empty, included, zip, minus, join, plus, over, before}
use Rattle.tokens.specs.Tables.{every, covered, without, place, insert, placed, put}
use Rattle.rounds.specs.Round.{after, each, Rule, Limits, fitting, hold, meet, weave, holding, grown, offer, step, round, Ending, closed, refused, next, closing, close, answer}
use Rattle.rounds.specs.Earns.{headed}
use Rattle.rounds.proofs.ClosingLaws.{answer_empty}

-- ---- rows

-- so many of kind k
unfoldable pub many : ℕ → ℕ → List ℕ
many n k = replicate k 0 ++ (n ∷ replicate (31 - k) 0)

unfoldable pub one : ℕ → List ℕ
unfolding many
one k = many 1 k

unfoldable pub two : ℕ → ℕ → List ℕ
unfolding one plus
two j k = plus (one j) (one k)

-- ---- rules

unfoldable pub rule : List ℕ → List (List ℕ) → Rule
rule h b = record { head = h; branches = b }

-- a ∘- (b&c)⅋e; b ∘- ⊤; c ∘- d⅋b
unfoldable pub Q : List Rule
unfolding rule one two
Q = rule (one 0) (two 1 4 ∷ (two 2 4 ∷ [])) ∷ (rule (one 1) [] ∷ (rule (one 2) (two 3 1 ∷ []) ∷ []))

-- a ∘- b⅋c; b ∘- (d⅋e)&f; c⅋d ∘- ⊤; c⅋e ∘- c⅋b; c⅋f ∘- ⊤
unfoldable pub P : List Rule
unfolding rule one two
P = rule (one 0) (two 1 2 ∷ []) ∷ (rule (one 1) (two 3 4 ∷ (one 5 ∷ [])) ∷ (rule (two 2 3) [] ∷ (rule (two 2 4) (two 2 1 ∷ []) ∷ (rule (two 2 5) [] ∷ []))))

-- 0 ∘- ⊤; sixteen of kind 1 ∘- 0; k of kind 2 ∘- 1
unfoldable pub Ladder : ℕ → List Rule
unfolding rule one many
Ladder k = rule (one 0) [] ∷ (rule (many 16 1) (one 0 ∷ []) ∷ (rule (many k 2) (one 1 ∷ []) ∷ []))

-- a⅋b ∘- ⊤; c⅋d ∘- ⊤; a⅋b ∘- a & c: in the second round step 2's list holds three sets, and no candidate is new
unfoldable pub Broad : List Rule
unfolding rule one two
Broad = rule (two 0 1) [] ∷ (rule (two 2 3) [] ∷ (rule (two 0 1) (one 0 ∷ (one 2 ∷ [])) ∷ []))

-- b ∘- c & b; b⅋b ∘- ⊤; a ∘- ⊤: in the second round step 2's list holds three sets before a removal, never after it
unfoldable pub Room : List Rule
unfolding rule one two
Room = rule (one 1) (one 2 ∷ (one 1 ∷ [])) ∷ (rule (two 1 1) [] ∷ (rule (one 0) [] ∷ []))

-- a⅋d ∘- b; d ∘- d & c; c⅋d ∘- ⊤; b ∘- ⊤: at capacity 3, taking the rows before the held sets, or the branch c before d, would pass the capacity
unfoldable pub Turns : List Rule
unfolding rule one two
Turns = rule (two 0 3) (one 1 ∷ []) ∷ (rule (one 3) (one 3 ∷ (one 2 ∷ [])) ∷ (rule (two 2 3) [] ∷ (rule (one 1) [] ∷ [])))

-- ---- tables

unfoldable pub Q_rows : List (List ℕ)
unfolding one
Q_rows = one 2 ∷ (one 1 ∷ (one 0 ∷ []))

unfoldable pub P_rows : List (List ℕ)
unfolding two one
P_rows = two 2 5 ∷ (two 2 4 ∷ (two 2 3 ∷ (two 1 2 ∷ (one 0 ∷ []))))

-- 16 - j of kind 1 with 15 j of kind 2, from j down to 0; then kind 0
unfoldable pub ladder : ℕ → List (List ℕ)
unfolding many one plus
ladder zero = many 16 1 ∷ (one 0 ∷ [])
ladder (suc j) = plus (many (16 - suc j) 1) (many (15 * suc j) 2) ∷ ladder j

unfoldable pub Broad_rows : List (List ℕ)
unfolding two
Broad_rows = two 2 3 ∷ (two 0 1 ∷ [])

unfoldable pub Room_rows : List (List ℕ)
unfolding two one
Room_rows = two 1 1 ∷ (one 0 ∷ [])

unfoldable pub Turns_rows : List (List ℕ)
unfolding two one
Turns_rows = two 2 3 ∷ (one 1 ∷ (two 0 3 ∷ []))

-- ---- the list

-- rules, capacity and permitted rounds with what closing answers; a table and an order's branches with the answer; branches with the answer on any closed table
pub data Example : Type 0 where
  closes : List Rule → ℕ → ℕ → Ending → Example
  asks : List (List ℕ) → List (List ℕ) → Bool → Example
  asks_any : List (List ℕ) → Bool → Example

abbrev pub Holds : Example → Type 0
Holds (closes rules capacity permitted a) = close (record { most = 255; capacity = capacity }) rules permitted ≡ a
Holds (asks t branches a) = answer t branches ≡ a
Holds (asks_any branches a) = (limits : Limits) (rules : List Rule) (permitted : ℕ) (t : List (List ℕ)) (g : ℕ) → every headed rules ≡ true → close limits rules permitted ≡ closed t g → answer t branches ≡ a

abbrev pub AllHold : List Example → Type 0
AllHold [] = Unit {0}
AllHold (e ∷ es) = Holds e × AllHold es

abbrev pub examples : List Example
examples =
    closes [] 256 100 (closed [] 0) ∷
    (closes Q 256 100 (closed Q_rows 3) ∷
    (asks Q_rows (two 0 4 ∷ []) true ∷
    (asks Q_rows (two 3 4 ∷ []) false ∷
    (closes P 256 100 (closed P_rows 3) ∷
    (closes P 5 100 (closed P_rows 3) ∷
    (closes P 4 100 (refused 8 1) ∷
    (closes P 1 100 (refused 8 0) ∷
    (closes P 256 2 (refused 9 2) ∷
    (closes P 256 3 (closed P_rows 3) ∷
    (asks [] [] true ∷
    (closes (Ladder 15) 256 100 (closed (ladder 16) 18) ∷
    (closes (Ladder 16) 256 100 (refused 7 17) ∷
    (closes (Ladder 16) 256 17 (refused 9 17) ∷
    (closes Broad 2 100 (refused 8 1) ∷
    (closes Broad 3 100 (closed Broad_rows 1) ∷
    (closes Room 2 100 (closed Room_rows 1) ∷
    (closes Turns 3 100 (closed Turns_rows 2) ∷
    (asks_any (empty ∷ []) false ∷ []))))))))))))))))))

pub examples_hold : AllHold examples
unfolding close answer rule Q P Q_rows P_rows two one many Ladder Broad ladder Broad_rows Room Room_rows Turns Turns_rows every included zip minus join plus over covered put before without place insert placed closing next round step offer grown holding empty weave meet hold fitting each after
examples_hold = (refl, (refl, (refl, (refl, (refl, (refl, (refl, (refl, (refl, (refl, (refl, (refl, (refl, (refl, (refl, (refl, (refl, (refl, ((λ limits rules permitted t g h e. answer_empty limits rules permitted t g h e), tt)))))))))))))))))))
