-- Computed examples: 01's marked ones on lists of four and five branches, 001's Examples 3.2 (Q) and 5.12 (P) as 01 has them, and a row
-- or more for each point that is easily misread. Letters a to f are kinds 0 to 5; there are 6 kinds where nothing else is said.
use mathlib.Core.Path.{◌≡◌, refl}
use mathlib.Core.List.{List, [], ◌∷◌, ◌++◌, map}
use Prim.Native.Nat.{ℕ, zero, suc, ◌-◌}
use lib.ListN.{length, replicate}
use Rattle.tokens.specs.Sets.{empty, zip, plus}
use Rattle.tokens.specs.Rows.{rows}
use Rattle.logic.specs.Branches.{sums, opened, opened_all, ways}
use Rattle.goals.specs.Codes.{is_kind, code, code_at}
use Rattle.goals.specs.Parsing.{parse, parse_at}
use Rattle.goals.specs.Limits.{within, runs_within}
use Rattle.goals.specs.Readings.{Reading, read, refused, ◌>>=◌, padded, climbs, front, head, body, rule, records, program, goals, order}
use Rattle.rounds.specs.Round.{Rule}
use Rattle.goals.specs.Sets.{one, set_of, branch_rows, order_rows, opening, opened_rule, opened_order}
use Rattle.goals.specs.Answers.{Told, passes, stops, told}

-- ---- how the examples are written

-- 255 up to so many bytes
unfoldable pub pad : ℕ → List ℕ → List ℕ
pad k s = s ++ replicate (k - length s) 255

-- a rule record of a head and a body
unfoldable pub rec : List ℕ → List ℕ → List ℕ
rec h b = pad 16 h ++ pad 48 b

-- a set by its first counts
unfoldable pub counts : List ℕ → List ℕ
counts l = l ++ replicate (32 - length l) 0

-- a head and branches by their first counts
unfoldable pub opens : List ℕ → List (List ℕ) → Reading Rule
opens h bs = read (record { head = counts h; branches = map counts bs })

unfoldable pub opens_order : List (List ℕ) → Reading (List (List ℕ))
opens_order bs = read (map counts bs)

-- so many numbers from k on
unfoldable pub from : ℕ → ℕ → List ℕ
from k zero = []
from k (suc n) = k ∷ from (suc k) n

-- goals with 4, 5 and 17 branches
unfoldable pub four : List ℕ
four = 66 ∷ 66 ∷ 0 ∷ 1 ∷ 66 ∷ 2 ∷ 3 ∷ []

unfoldable pub five : List ℕ
five = 66 ∷ 0 ∷ four

unfoldable pub seventeen : List ℕ
seventeen = replicate 16 66 ++ replicate 17 0

-- ---- what an example says

pub data Example : Type 0 where
  -- a record of 64 bytes opens so, or is refused
  a_rule : List ℕ → Reading Rule → Example
  -- a record opens into so many branches
  many : List ℕ → ℕ → Example
  -- a rule set passes, or is stopped
  a_set : List ℕ → Told → Example
  -- an order opens so, or is refused
  an_order : List ℕ → Reading (List (List ℕ)) → Example
  -- each byte alone, and each after ⅋ and a, is no order, with 32 kinds
  no_codes : List ℕ → Example

abbrev pub Holds : Example → Type 0
Holds (a_rule s a) = opened_rule 6 s ≡ a
Holds (many s k) = (opened_rule 6 s >>= λ o. read (length o.branches)) ≡ read k
Holds (a_set s t) = told (program 6 s) ≡ t
Holds (an_order s a) = opened_order 6 s ≡ a
Holds (no_codes l) = map (λ b. opened_order 32 (b ∷ [])) l ++ map (λ b. opened_order 32 (65 ∷ 0 ∷ b ∷ [])) l ≡ map (λ b. refused 10) (l ++ l)

abbrev pub All : List Example → Type 0
All [] = Unit
All (e ∷ es) = Holds e × All es

unfoldable pub examples : List Example
examples =
    -- * "A body whose ⅋ joins two lists of four branches: 16, admitted. Lists of five and four: 6."
    many (rec (0 ∷ []) (65 ∷ (four ++ four))) 16
    ∷ a_rule (rec (0 ∷ []) (65 ∷ (five ++ four))) (refused 6)
    -- Q: a ∘- (b&c)⅋e; b ∘- ⊤; c ∘- d⅋b
    ∷ a_rule (rec (0 ∷ []) (65 ∷ 66 ∷ 1 ∷ 2 ∷ 4 ∷ [])) (opens (1 ∷ []) ((0 ∷ 1 ∷ 0 ∷ 0 ∷ 1 ∷ []) ∷ (0 ∷ 0 ∷ 1 ∷ 0 ∷ 1 ∷ []) ∷ []))
    ∷ a_rule (rec (1 ∷ []) (64 ∷ [])) (opens (0 ∷ 1 ∷ []) [])
    ∷ a_rule (rec (2 ∷ []) (65 ∷ 3 ∷ 1 ∷ [])) (opens (0 ∷ 0 ∷ 1 ∷ []) ((0 ∷ 1 ∷ 0 ∷ 1 ∷ []) ∷ []))
    ∷ a_set (rec (0 ∷ []) (65 ∷ 66 ∷ 1 ∷ 2 ∷ 4 ∷ []) ++ (rec (1 ∷ []) (64 ∷ []) ++ rec (2 ∷ []) (65 ∷ 3 ∷ 1 ∷ []))) passes
    -- P: a ∘- b⅋c; b ∘- (d⅋e)&f; c⅋d ∘- ⊤; c⅋e ∘- c⅋b; c⅋f ∘- ⊤
    ∷ a_rule (rec (0 ∷ []) (65 ∷ 1 ∷ 2 ∷ [])) (opens (1 ∷ []) ((0 ∷ 1 ∷ 1 ∷ []) ∷ []))
    ∷ a_rule (rec (1 ∷ []) (66 ∷ 65 ∷ 3 ∷ 4 ∷ 5 ∷ [])) (opens (0 ∷ 1 ∷ []) ((0 ∷ 0 ∷ 0 ∷ 1 ∷ 1 ∷ []) ∷ (0 ∷ 0 ∷ 0 ∷ 0 ∷ 0 ∷ 1 ∷ []) ∷ []))
    ∷ a_rule (rec (2 ∷ 3 ∷ []) (64 ∷ [])) (opens (0 ∷ 0 ∷ 1 ∷ 1 ∷ []) [])
    ∷ a_rule (rec (2 ∷ 4 ∷ []) (65 ∷ 2 ∷ 1 ∷ [])) (opens (0 ∷ 0 ∷ 1 ∷ 0 ∷ 1 ∷ []) ((0 ∷ 1 ∷ 1 ∷ []) ∷ []))
    ∷ a_rule (rec (2 ∷ 5 ∷ []) (64 ∷ [])) (opens (0 ∷ 0 ∷ 1 ∷ 0 ∷ 0 ∷ 1 ∷ []) [])
    -- ⊤ beside ⊤ has no branches; left outermost; repeats count
    ∷ a_rule (rec (0 ∷ []) (65 ∷ 64 ∷ 64 ∷ [])) (opens (1 ∷ []) [])
    ∷ a_rule (rec (0 ∷ 0 ∷ 3 ∷ []) (65 ∷ 66 ∷ 0 ∷ 1 ∷ 66 ∷ 0 ∷ 1 ∷ [])) (opens (2 ∷ 0 ∷ 0 ∷ 1 ∷ []) ((2 ∷ []) ∷ (1 ∷ 1 ∷ []) ∷ (1 ∷ 1 ∷ []) ∷ (0 ∷ 2 ∷ []) ∷ []))
    -- over 16 in a part sticks, though ⊤ makes it vanish
    ∷ a_rule (rec (0 ∷ []) (65 ∷ (seventeen ++ (64 ∷ [])))) (refused 6)
    ∷ a_rule (rec (0 ∷ []) (65 ∷ 64 ∷ seventeen)) (refused 6)
    -- a stray byte after 17 branches is 5, at the end of the record too
    ∷ a_rule (rec (0 ∷ []) (seventeen ++ (255 ∷ 0 ∷ []))) (refused 5)
    ∷ a_rule (rec (0 ∷ []) (pad 47 seventeen ++ (0 ∷ []))) (refused 5)
    -- 4 before 5 before 6, record by record
    ∷ a_rule (rec (1 ∷ 0 ∷ []) (255 ∷ [])) (refused 4)
    ∷ a_set (rec (0 ∷ []) seventeen ++ rec [] (64 ∷ [])) (stops 6 0)
    ∷ a_set (rec (0 ∷ []) (64 ∷ []) ++ (rec (0 ∷ []) (65 ∷ 0 ∷ []) ++ rec [] (64 ∷ []))) (stops 5 1)
    ∷ a_set [] passes
    -- a head has 1 to 16 kinds below n that never descend, and then 255
    ∷ a_rule (rec (6 ∷ []) (64 ∷ [])) (refused 4)
    ∷ a_rule (rec [] (64 ∷ [])) (refused 4)
    ∷ a_rule (rec (1 ∷ 0 ∷ []) (64 ∷ [])) (refused 4)
    ∷ a_rule (rec (0 ∷ 255 ∷ 1 ∷ []) (64 ∷ [])) (refused 4)
    ∷ a_rule (rec (0 ∷ 64 ∷ []) (64 ∷ [])) (refused 4)
    ∷ a_rule (rec (replicate 16 5) (64 ∷ [])) (opens (0 ∷ 0 ∷ 0 ∷ 0 ∷ 0 ∷ 16 ∷ []) [])
    -- 47 codes are a goal, 48 never
    ∷ a_rule (rec (0 ∷ []) (replicate 23 65 ++ replicate 24 0)) (opens (1 ∷ []) ((24 ∷ []) ∷ []))
    ∷ a_rule (rec (0 ∷ []) (replicate 23 65 ++ replicate 25 0)) (refused 5)
    ∷ a_rule (rec (0 ∷ []) (replicate 24 65 ++ replicate 24 0)) (refused 5)
    -- faults of a body: a kind that is not below n, a padding of 254, 255 inside the goal, no goal
    ∷ a_rule (rec (0 ∷ []) (6 ∷ [])) (refused 5)
    ∷ a_rule (rec (0 ∷ []) (0 ∷ 254 ∷ [])) (refused 5)
    ∷ a_rule (rec (0 ∷ []) (65 ∷ 0 ∷ 255 ∷ 1 ∷ [])) (refused 5)
    ∷ a_rule (rec (0 ∷ []) []) (refused 5)
    -- * the order of no goals has one branch, the empty set; * the orders a, e and ⊤, a
    ∷ an_order [] (opens_order ([] ∷ []))
    ∷ an_order (0 ∷ 4 ∷ []) (opens_order ((1 ∷ 0 ∷ 0 ∷ 0 ∷ 1 ∷ []) ∷ []))
    ∷ an_order (64 ∷ 0 ∷ []) (opens_order [])
    -- leading runs: ⊤, (4), (5) is admitted; (4), (5), ⊤ and ⊤, (17) are not
    ∷ an_order (64 ∷ (four ++ five)) (opens_order [])
    ∷ an_order (four ++ (five ++ (64 ∷ []))) (refused 6)
    ∷ an_order (64 ∷ seventeen) (refused 6)
    -- 10: over 64 bytes, a kind not below n, an unfinished goal; and before 6
    ∷ an_order (replicate 64 0) (opens_order ((64 ∷ []) ∷ []))
    ∷ an_order (replicate 65 0) (refused 10)
    ∷ an_order (0 ∷ 6 ∷ []) (refused 10)
    ∷ an_order (0 ∷ 65 ∷ 0 ∷ []) (refused 10)
    ∷ an_order (seventeen ++ (65 ∷ 0 ∷ [])) (refused 10)
    -- bytes 32 to 63 and 67 to 255 are no codes
    ∷ no_codes (from 32 32)
    ∷ no_codes (from 67 189)
    ∷ []

pub all_hold : All examples
unfolding examples pad rec counts opens opens_order from four five seventeen zip plus rows sums opened opened_all ways is_kind code code_at parse parse_at within runs_within padded climbs front head body rule records program goals order empty one set_of branch_rows order_rows opening opened_rule opened_order
all_hold = (refl, (refl, (refl, (refl, (refl, (refl, (refl, (refl, (refl, (refl, (refl, (refl, (refl, (refl, (refl, (refl, (refl, (refl, (refl, (refl, (refl, (refl, (refl, (refl, (refl, (refl, (refl, (refl, (refl, (refl, (refl, (refl, (refl, (refl, (refl, (refl, (refl, (refl, (refl, (refl, (refl, (refl, (refl, (refl, (refl, (refl, (refl, tt)))))))))))))))))))))))))))))))))))))))))))))))
