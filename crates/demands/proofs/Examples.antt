-- 01's marked examples on bytes and settings as a caller gives them: one list, one statement, computed. Letters a to f are kinds 0 to 5; there are 6 kinds,
-- and the areas are as long as needed.
use Prim.Native.Nat.{ℕ, zero, suc, ◌-◌, ◌*◌}
use mathlib.Core.Bool.{Bool, true, false}
use mathlib.Core.List.{List, [], ◌∷◌, ◌++◌, map}
use mathlib.Core.Path.{◌≡◌, refl, sym, ap, subst, ◌∙◌}
use native.Mathlib.Omega.{arith}
use lib.ListN.{length, replicate}
use Rattle.tokens.proofs.Tests.{refuted}
use Rattle.tokens.specs.Sets.{empty, included, zip, minus, join, plus, over, before}
use Rattle.tokens.specs.Tables.{every, covered, without, place, insert, placed, put, pairwise, ascends, separate, apart, blank_from, well_formed}
use Rattle.tokens.specs.Rows.{rows, lay, area}
use Rattle.logic.specs.Goals.{Goal, kind, ⊤, ◌⅋◌, ◌&◌, Clause, ◌∈◌}
use Rattle.logic.specs.Proofs.{◌⊢◌}
use Rattle.logic.specs.Branches.{sums, opened, opened_all, ways}
use Rattle.goals.specs.Codes.{is_kind, code, code_at}
use Rattle.goals.specs.Parsing.{parse, parse_at}
use Rattle.goals.specs.Limits.{within, runs_within}
use Rattle.goals.specs.Readings.{read, ◌>>=◌, clauses, padded, climbs, front, head, body, rule, records, program, goals, order}
use Rattle.goals.specs.Sets.{one, set_of, branch_rows, order_rows, opening, opened_rule, opened_order}
use Rattle.logic.proofs.Theorems.{no_goals_unprovable}
use Rattle.goals.proofs.Readings.{same_read}
use Rattle.goals.proofs.Examples.{pad, rec, counts, four, five}
use Rattle.rounds.specs.Round.{Growth, after, each, fitting, hold, meet, weave, holding, grown, offer, step, round, next, closing, close, answer}
use Rattle.table.specs.Calls.{Outcome, given, refused, check, between, kinds_fit, capacity_fits, rounds_fit, table_needs, work_needs, areas_fit, rules_fit, rows_fit, with_rules, saved, Closure, ended, closing_of, rounded, rounding_of, asked, asking_of, laid, spoilt, table_after, work_after}
use Rattle.demands.specs.Statements.{front_rows}
use Rattle.demands.proofs.Spelling.{spelt}
use Rattle.demands.proofs.Demands.{demand_3}

-- ---- rules

-- a ∘- (b&c)⅋e; b ∘- ⊤; c ∘- d⅋b
unfoldable pub Q : List ℕ
Q = rec (0 ∷ []) (65 ∷ 66 ∷ 1 ∷ 2 ∷ 4 ∷ []) ++ (rec (1 ∷ []) (64 ∷ []) ++ rec (2 ∷ []) (65 ∷ 3 ∷ 1 ∷ []))

-- a ∘- b⅋c; b ∘- (d⅋e)&f; c⅋d ∘- ⊤; c⅋e ∘- c⅋b; c⅋f ∘- ⊤
unfoldable pub P : List ℕ
P =
    rec (0 ∷ []) (65 ∷ 1 ∷ 2 ∷ []) ++ (rec (1 ∷ []) (66 ∷ 65 ∷ 3 ∷ 4 ∷ 5 ∷ []) ++ (rec (2 ∷ 3 ∷ []) (64 ∷ []) ++
    (rec (2 ∷ 4 ∷ []) (65 ∷ 2 ∷ 1 ∷ []) ++ rec (2 ∷ 5 ∷ []) (64 ∷ []))))

-- 0 ∘- ⊤; sixteen of kind 1 ∘- 0; k of kind 2 ∘- 1
unfoldable pub Ladder : ℕ → List ℕ
Ladder k = rec (0 ∷ []) (64 ∷ []) ++ (rec (replicate 16 1) (0 ∷ []) ++ rec (replicate k 2) (1 ∷ []))

-- a⅋b ∘- ⊤; c⅋d ∘- ⊤; a⅋b ∘- a & c
unfoldable pub Broad : List ℕ
Broad = rec (0 ∷ 1 ∷ []) (64 ∷ []) ++ (rec (2 ∷ 3 ∷ []) (64 ∷ []) ++ rec (0 ∷ 1 ∷ []) (66 ∷ 0 ∷ 2 ∷ []))

-- the same as 001 has them
unfoldable pub Q_clauses : List Clause
Q_clauses =
    record { head = 0 ∷ []; body = (kind 1 & kind 2) ⅋ kind 4 }
    ∷ record { head = 1 ∷ []; body = ⊤ }
    ∷ record { head = 2 ∷ []; body = kind 3 ⅋ kind 1 }
    ∷ []

unfoldable pub P_clauses : List Clause
P_clauses =
    record { head = 0 ∷ []; body = kind 1 ⅋ kind 2 }
    ∷ record { head = 1 ∷ []; body = (kind 3 ⅋ kind 4) & kind 5 }
    ∷ record { head = 2 ∷ 3 ∷ []; body = ⊤ }
    ∷ record { head = 2 ∷ 4 ∷ []; body = kind 2 ⅋ kind 1 }
    ∷ record { head = 2 ∷ 5 ∷ []; body = ⊤ }
    ∷ []

-- ---- rows by their first counts

-- {c}, {b}, {a}
unfoldable pub Q_rows : List (List ℕ)
Q_rows = map counts ((0 ∷ 0 ∷ 1 ∷ []) ∷ (0 ∷ 1 ∷ []) ∷ (1 ∷ []) ∷ [])

-- c, f; c, e; c, d; b, c; a
unfoldable pub P_rows : List (List ℕ)
P_rows = map counts ((0 ∷ 0 ∷ 1 ∷ 0 ∷ 0 ∷ 1 ∷ []) ∷ (0 ∷ 0 ∷ 1 ∷ 0 ∷ 1 ∷ []) ∷ (0 ∷ 0 ∷ 1 ∷ 1 ∷ []) ∷ (0 ∷ 1 ∷ 1 ∷ []) ∷ (1 ∷ []) ∷ [])

-- 16 - j of kind 1 with 15 j of kind 2, from j down to 0; then kind 0
unfoldable pub ladder_rows : ℕ → List (List ℕ)
ladder_rows zero = counts (0 ∷ 16 ∷ []) ∷ counts (1 ∷ []) ∷ []
ladder_rows (suc j) = counts (0 ∷ (16 - suc j) ∷ (15 * suc j) ∷ []) ∷ ladder_rows j

unfoldable pub Broad_rows : List (List ℕ)
Broad_rows = map counts ((0 ∷ 0 ∷ 1 ∷ 1 ∷ []) ∷ (1 ∷ 1 ∷ []) ∷ [])

-- rows end to end, as they are saved
unfoldable pub bytes : List (List ℕ) → List ℕ
bytes [] = []
bytes (r ∷ t) = r ++ bytes t

-- ---- what an example says

pub data Example : Type 0 where
  -- rule bytes and the clauses that they spell
  spells : List ℕ → List Clause → Example
  -- rules, capacity and permitted rounds with what closing answers
  closes : List ℕ → ℕ → ℕ → Outcome Closure → Example
  -- rules with what closing answers to the listing program: 32 kinds, capacity 256, 10,000 permitted rounds
  lists : List ℕ → Outcome Closure → Example
  -- rules, capacity and permitted rounds with what the table area and the work area hold afterwards, where each held sevens and was a byte longer than needed
  leaves : List ℕ → ℕ → ℕ → List ℕ → List ℕ → Example
  -- rules, saved rows and a capacity with what one round answers
  rounds : List ℕ → List (List ℕ) → ℕ → Outcome Growth → Example
  -- saved rows and an order with the answer
  asks : List (List ℕ) → List ℕ → Outcome Bool → Example
  -- an order with the answer on the rows that closing left, whatever it closed
  asks_any : List ℕ → Bool → Example
  -- a rule record with the number of its body's branches
  opens : List ℕ → ℕ → Example

unfoldable pub closed : List (List ℕ) → ℕ → Outcome Closure
closed t g = given (record { table = t; grown = g })

unfoldable pub grows : Bool → List (List ℕ) → Outcome Growth
grows b t = given (record { grew = b; rows = t })

-- so many sevens
unfoldable pub sevens : ℕ → List ℕ
sevens k = replicate k 7

abbrev pub Holds : Example → Type 0
Holds (spells rules C) = program 6 rules ≡ clauses C
Holds (closes rules capacity permitted a) = closing_of rules 6 capacity permitted (capacity * 32) (3 * capacity * 32) ≡ a
Holds (lists rules a) = closing_of rules 32 256 10000 8192 24576 ≡ a
Holds (leaves rules capacity permitted table work) =
    (table_after (λ a. a.table) capacity (closing_of rules 6 capacity permitted (suc (capacity * 32)) (suc (3 * capacity * 32))) (sevens (suc (capacity * 32))) ≡ table)
    × (work_after capacity (closing_of rules 6 capacity permitted (suc (capacity * 32)) (suc (3 * capacity * 32))) (sevens (suc (3 * capacity * 32))) ≡ work)
Holds (rounds rules t capacity a) = rounding_of rules (bytes t) 6 capacity (capacity * 32) (3 * capacity * 32) ≡ a
Holds (asks t order a) = asking_of (bytes t) 6 order ≡ a
Holds (asks_any order b) =
    (rules : List ℕ) (n capacity permitted : ℕ) (table work : List ℕ) (c : Closure) → closing_of rules n capacity permitted (length table) (length work) ≡ given c
    → asking_of (front_rows c (table_after (λ a. a.table) capacity (closing_of rules n capacity permitted (length table) (length work)) table)) n order ≡ given b
Holds (opens record_bytes k) = (opened_rule 6 record_bytes >>= λ o. read (length o.branches)) ≡ read k

abbrev pub AllHold : List Example → Type 0
AllHold [] = Unit {0}
AllHold (e ∷ es) = Holds e × AllHold es

-- in 01's order; * marks 01's own marks
abbrev pub examples : List Example
examples =
    -- Q and P as 001 has them
    spells Q Q_clauses
    ∷ spells P P_clauses
    -- * "No rules: closed, 0 rows, 0 rounds."
    ∷ closes [] 256 100 (closed [] 0)
    -- * "Q: closed, rows {c}, {b}, {a}, 3 rounds." * "The order a, e: yes." * "The order d, e: no."
    ∷ closes Q 256 100 (closed Q_rows 3)
    ∷ asks Q_rows (0 ∷ 4 ∷ []) (given true)
    ∷ asks Q_rows (3 ∷ 4 ∷ []) (given false)
    -- * "P, capacity 5: closed, 5 rows, 3 rounds." * "Capacity 4: refusal 8, returning 1." * "Capacity 1: 8, returning 0."
    ∷ closes P 5 100 (closed P_rows 3)
    ∷ closes P 4 100 (refused 8 1)
    ∷ closes P 1 100 (refused 8 0)
    -- * "P, 2 permitted rounds: 9, returning 2." "With 3: closed."
    ∷ closes P 256 2 (refused 9 2)
    ∷ closes P 256 3 (closed P_rows 3)
    -- * "The order of no goals: no, on any closed table." * "The order ⊤, a: yes on no rows."
    ∷ asks_any [] false
    ∷ asks [] (64 ∷ 0 ∷ []) (given true)
    -- * "A body whose ⅋ joins two lists of four branches: 16, admitted. Lists of five and four: 6."
    ∷ opens (rec (0 ∷ []) (65 ∷ (four ++ four))) 16
    ∷ closes (rec (0 ∷ []) (65 ∷ (four ++ four))) 256 100 (closed [] 0)
    ∷ closes (rec (0 ∷ []) (65 ∷ (five ++ four))) 256 100 (refused 6 0)
    -- "0 ∘- ⊤; sixteen of kind 1 ∘- 0; fifteen of kind 2 ∘- 1: closed, 18 rows, 18 rounds. With sixteen of kind 2: refusal 7, returning 17"
    ∷ closes (Ladder 15) 256 100 (closed (ladder_rows 16) 18)
    ∷ closes (Ladder 16) 256 100 (refused 7 17)
    -- 9 before 7; and step 2's capacity, where the table never holds more than two rows
    ∷ closes (Ladder 16) 256 17 (refused 9 17)
    ∷ closes Broad 2 100 (refused 8 1)
    ∷ closes Broad 3 100 (closed Broad_rows 1)
    -- "For P it prints in full"
    ∷ lists P (closed P_rows 3)
    -- what the areas hold: after closing, after 8, and after 6
    ∷ leaves P 5 100 (bytes P_rows ++ sevens 1) (replicate 480 0 ++ sevens 1)
    ∷ leaves P 4 100 (replicate 128 0 ++ sevens 1) (replicate 384 0 ++ sevens 1)
    ∷ leaves (rec (0 ∷ []) (65 ∷ (five ++ four))) 1 100 (sevens 33) (sevens 97)
    -- one round: Q's first gives {b}, its second {c} beside it; the closed table stays
    ∷ rounds Q [] 256 (grows true (map counts ((0 ∷ 1 ∷ []) ∷ [])))
    ∷ rounds Q (map counts ((0 ∷ 1 ∷ []) ∷ [])) 256 (grows true (map counts ((0 ∷ 0 ∷ 1 ∷ []) ∷ (0 ∷ 1 ∷ []) ∷ [])))
    ∷ rounds Q Q_rows 256 (grows false Q_rows)
    -- saved rows that do not ascend are refused by 11
    ∷ asks (map counts ((1 ∷ []) ∷ (0 ∷ 1 ∷ []) ∷ [])) [] (refused 11 0)
    ∷ []

-- the empty order is the order of no goals
no_goals : (n : ℕ) → order n [] ≡ read []
unfolding order goals runs_within
no_goals n = refl

empty_head : (n : ℕ) (rules : List ℕ) (P : List Clause) → program n rules ≡ clauses P → (k : Clause) → k ∈ P → k.head ≡ [] → ⊥
empty_head n rules P e k m h = let s = (spelt n rules P e k m).some in let z : length k.head ≡ 0 = ap length h in omega arith

-- "The order of no goals: no, on any closed table": it has no proof, since no head is empty
no_goals_no : (rules : List ℕ) (n capacity permitted : ℕ) (table work : List ℕ) (c : Closure) → closing_of rules n capacity permitted (length table) (length work) ≡ given c
    → asking_of (front_rows c (table_after (λ a. a.table) capacity (closing_of rules n capacity permitted (length table) (length work)) table)) n [] ≡ given false
no_goals_no rules n capacity permitted table work c e =
    let d = demand_3 rules n capacity permitted table work c e in
    let a = d.answers [] [] (no_goals n) in
    let w = d.decides [] a.0 a.1 in
    let q : w.0 ≡ [] = same_read w.0 [] (sym w.1 ∙ no_goals n) in
    let no : (a.0 ≡ true) → ⊥ = λ y. no_goals_unprovable (λ k m h. empty_head n rules d.P d.spelled k m h) (subst (λ (Θ : List Goal). d.P ⊢ Θ) q (w.2.0 y)) in
    a.1 ∙ ap given (refuted a.0 no)

pub examples_hold : AllHold examples
unfolding Q P Q_clauses P_clauses Ladder Broad Q_rows P_rows ladder_rows Broad_rows bytes closed grows sevens pad rec counts four five empty included zip minus join plus over before every covered without place insert placed put pairwise ascends separate apart blank_from well_formed rows lay area sums opened opened_all ways is_kind code code_at parse parse_at within runs_within padded climbs front head body rule records program goals order one set_of branch_rows order_rows opening opened_rule opened_order after each fitting hold meet weave holding grown offer step round next closing close answer check between kinds_fit capacity_fits rounds_fit table_needs work_needs areas_fit rules_fit rows_fit with_rules saved ended closing_of rounded rounding_of asked asking_of laid spoilt table_after work_after
examples_hold = (refl, (refl, (refl, (refl, (refl, (refl, (refl, (refl, (refl, (refl, (refl, (no_goals_no, (refl, (refl, (refl, (refl, (refl, (refl, (refl, (refl, (refl, (refl, ((refl, refl), ((refl, refl), ((refl, refl), (refl, (refl, (refl, (refl, tt)))))))))))))))))))))))))))))
