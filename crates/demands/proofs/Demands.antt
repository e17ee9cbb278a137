-- The demands of 01, stated from bytes to 001's definitions. Proofs here only put together what the files before this one show.
use Prim.Native.Nat.{ℕ, suc, ◌+◌, ◌≤◌, ◌<◌}
use native.Mathlib.Omega.{arith}
use mathlib.Core.Bool.{true, false}
use mathlib.Core.Path.{◌≡◌, sym, ap, subst, ◌∙◌}
use mathlib.Core.List.{List, map}
use mathlib.Core.Logic.{⊎_elim, ◌↔◌}
use lib.Dec.{leb}
use lib.ListN.{length}
use Rattle.tokens.specs.Tables.{every, well_formed}
use Rattle.tokens.proofs.Tests.{and_l}
use Rattle.logic.specs.Goals.{Goal, Clause}
use Rattle.logic.specs.Proofs.{◌⊢◌, Within}
use Rattle.logic.specs.Operator.{S↑}
use Rattle.logic.specs.Order.{◌⊑◌, Listed}
use Rattle.logic.specs.Rounds.{After}
use Rattle.goals.specs.Printing.{below}
use Rattle.goals.specs.Readings.{read, ◌>>=◌, clauses, program, order as order_of}
use Rattle.goals.specs.Sets.{opening, order_rows, opened_order}
use Rattle.goals.proofs.PrintLaws.{order_printed}
use Rattle.rounds.specs.Round.{limits, going, stopped, Limits, Growth, rounds, answer}
use Rattle.rounds.proofs.StopLaws.{round_numbers}
use Rattle.rounds.proofs.ClosingLaws.{closed_stays}
use Rattle.rounds.proofs.TidyLaws.{rounds_tidy}
use Rattle.table.specs.Calls.{given, refused, saved, Closure, closing_of, rounding_of, asked, table_after}
use Rattle.demands.specs.Facts.{fact}
use Rattle.table.proofs.OutcomeLaws.{given_is}
use Rattle.demands.specs.Statements.{Closes, Stops, Why, MinimalRows, RoundEnds, OneRound, front_rows, Decides}
use Rattle.demands.proofs.Spelling.{spelt, sized, heads_blank}
use Rattle.demands.proofs.RoundFacts.{rounds_after, rounds_minimal, rounds_answer, closed_answer, closed_first}
use Rattle.demands.proofs.WhyLaws.{stops_why, round_says}
use Rattle.demands.proofs.CallLaws.{closing_closed, closing_stopped, rounding_given, rounding_stopped}
use Rattle.demands.proofs.DecideLaws.{left_rows, left_decides}

-- ---- demand 2

-- after k unrefused rounds of the clauses that rule bytes spell, the table stands for k rounds of "I together with S_P of I" from nothing
pub demand_2_after : (n : ℕ) (bytes : List ℕ) (P : List Clause) → program n bytes ≡ clauses P
    → (limits : Limits) (k : ℕ) (t : List (List ℕ)) → rounds limits (map opening P) k ≡ going t → After P k (Listed fact t)
demand_2_after n bytes P e limits k t d = rounds_after n P (spelt n bytes P e) limits k t d

-- "x is a row after k rounds ⟺ x is a row of 32 counts whose fact is minimal in S_P↑k(∅)"
pub demand_2 : (n : ℕ) (bytes : List ℕ) (P : List Clause) → program n bytes ≡ clauses P
    → (limits : Limits) (k : ℕ) (t : List (List ℕ)) → rounds limits (map opening P) k ≡ going t → MinimalRows n P k t
demand_2 n bytes P e limits k t d = record {
  formed = (rounds_tidy limits n (map opening P) (sized P) (heads_blank n P (spelt n bytes P e)) k t d).formed;
  rows = rounds_minimal n P (spelt n bytes P e) limits k t d;
}

-- "closed with g ⟺ rounds 1 to g each added a row, round g + 1 adds none, no round up to there was refused; the rows that it leaves are those of round g"
pub demand_2_closed : (rules : List ℕ) (n capacity permitted table work : ℕ) (t : List (List ℕ)) (g : ℕ)
    → (closing_of rules n capacity permitted table work ≡ given (record { table = t; grown = g })) ↔ Closes rules n capacity permitted table work t g
demand_2_closed = closing_closed

-- the rows of a closed table are the minimal facts of S_P↑g(∅), and of every later power
pub demand_2_rows : (rules : List ℕ) (n capacity permitted table work : ℕ) (t : List (List ℕ)) (g : ℕ)
    → (c : Closes rules n capacity permitted table work t g) → (k : ℕ) → MinimalRows n c.P (g + k) t
demand_2_rows rules n capacity permitted table work t g c k =
    demand_2 n rules c.P c.admitted.spelled (limits capacity) (g + k) t (closed_stays (limits capacity) (map opening c.P) permitted t g c.closed k)

-- the number of growing rounds is the first g at which S_P↑g+1(∅) brings nothing new: ⟦S_P↑g+1⟧ = ⟦S_P↑g⟧, and no earlier power is so
pub demand_2_count : (rules : List ℕ) (n capacity permitted table work : ℕ) (t : List (List ℕ)) (g : ℕ) (c : Closes rules n capacity permitted table work t g)
    → (S↑ c.P (suc g) ⊑ S↑ c.P g) × ((j : ℕ) → j < g → S↑ c.P (suc j) ⊑ S↑ c.P j → ⊥)
demand_2_count rules n capacity permitted table work t g c = closed_first n c.P (spelt n rules c.P c.admitted.spelled) (limits capacity) permitted t g c.closed

-- "7, 8 and 9 where the order of work meets them, with the growing rounds finished"
pub demand_2_stopped : (rules : List ℕ) (n capacity permitted table work number g : ℕ) → 7 ≤ number
    → (closing_of rules n capacity permitted table work ≡ refused number g) ↔ Stops rules n capacity permitted table work number g
demand_2_stopped = closing_stopped

-- which they are and why: 8; 7 while permitted rounds are left, for a fact of S_P with a count over 255; 9 where they are spent, for any fact that is new
pub demand_2_why : (rules : List ℕ) (n capacity permitted table work number g : ℕ) (c : Stops rules n capacity permitted table work number g)
    → Why c.P c.stopped.table permitted g number
demand_2_why rules n capacity permitted table work number g c = stops_why n c.P (spelt n rules c.P c.admitted.spelled) capacity permitted number g c.stopped

-- "`round` alone: the minimal facts of I together with S_P(I), and "grew" ⟺ S_P(I) has a fact that I does not cover"
pub demand_2_round : (rules bytes : List ℕ) (n capacity table work : ℕ) (u : Growth) → rounding_of rules bytes n capacity table work ≡ given u → OneRound rules bytes n u
demand_2_round rules bytes n capacity table work u e =
    let r = (rounding_given rules bytes n capacity table work u).0 e in
    let a = r.admitted in
    round_says n rules r.P a.spelled bytes (limits capacity) u r.ends (and_l (well_formed n (saved bytes)) (leb (length (saved bytes)) capacity) a.formed)

-- when a round is given, and when it is refused by 7 or 8, which return 0
pub demand_2_round_given : (rules bytes : List ℕ) (n capacity table work : ℕ) (u : Growth)
    → (rounding_of rules bytes n capacity table work ≡ given u) ↔ RoundEnds rules bytes n capacity table work (going u)
demand_2_round_given = rounding_given

pub demand_2_round_stopped : (rules bytes : List ℕ) (n capacity table work number k : ℕ) → 7 ≤ number → number ≤ 10
    → (rounding_of rules bytes n capacity table work ≡ refused number k) ↔ (RoundEnds rules bytes n capacity table work (stopped number) × (k ≡ 0))
demand_2_round_stopped = rounding_stopped

-- "is never refused by 9"
pub round_never_9 : (rules bytes : List ℕ) (n capacity table work k : ℕ) → rounding_of rules bytes n capacity table work ≡ refused 9 k → ⊥
round_never_9 rules bytes n capacity table work k e =
    let r = (rounding_stopped rules bytes n capacity table work 9 k (omega arith) (omega arith)).0 e in
    ⊎_elim (λ p. let w : ⊥ = omega arith in w) (λ p. let w : ⊥ = omega arith in w) (round_numbers (limits capacity) false (map opening r.0.P) (saved bytes) 9 r.0.ends)

-- ---- the bound

-- "a set is covered after k rounds ⟺ it has a proof with at most k backchaining steps on each path", for any context of kinds below m
pub bound : (n : ℕ) (bytes : List ℕ) (P : List Clause) → program n bytes ≡ clauses P
    → (limits : Limits) (k : ℕ) (t : List (List ℕ)) → rounds limits (map opening P) k ≡ going t
    → (m : ℕ) (Θ : List Goal) → every (below m) Θ ≡ true → Within P k Θ ↔ (answer t (order_rows Θ) ≡ true)
bound n bytes P e limits k t d m Θ h = rounds_answer n P (spelt n bytes P e) limits m k t d Θ h

-- the same for an order's bytes: yes after k rounds ⟺ a proof with at most k backchaining steps on each path
pub bound_order : (n : ℕ) (bytes : List ℕ) (P : List Clause) → program n bytes ≡ clauses P
    → (limits : Limits) (k : ℕ) (t : List (List ℕ)) → rounds limits (map opening P) k ≡ going t
    → (order : List ℕ) (Θ : List Goal) → order_of n order ≡ read Θ → Within P k Θ ↔ (asked (opened_order n order) t ≡ given true)
unfolding asked opened_order
bound_order n bytes P e limits k t d order Θ r =
    let b = bound n bytes P e limits k t d n Θ (order_printed n order Θ r).kinds in
    let a : asked (opened_order n order) t ≡ given (answer t (order_rows Θ)) = ap (λ o. asked (o >>= λ Δ. read (order_rows Δ)) t) r in
    (λ w. a ∙ ap given (b.0 w), λ q. b.1 (given_is (sym a ∙ q)))

-- ---- demand 3

-- where closing ended after g growing rounds, g backchaining steps on each path are enough for whatever has a proof
pub closed_depth : (rules : List ℕ) (n capacity permitted table work : ℕ) (t : List (List ℕ)) (g : ℕ) (c : Closes rules n capacity permitted table work t g)
    → (m : ℕ) (Θ : List Goal) → every (below m) Θ ≡ true → (c.P ⊢ Θ) ↔ Within c.P g Θ
closed_depth rules n capacity permitted table work t g c m Θ h =
    let s = spelt n rules c.P c.admitted.spelled in
    let a = closed_answer n c.P s (limits capacity) m permitted t g c.closed Θ h in
    let b = rounds_answer n c.P s (limits capacity) m g t c.closed.reached.finished Θ h in
    (λ p. b.1 (a.1 p), λ w. w.0)

-- the bytes that a caller saves after closing are the rows of the closed table
pub closed_bytes : (rules : List ℕ) (n capacity permitted : ℕ) (table work : List ℕ) (c : Closure)
    → closing_of rules n capacity permitted (length table) (length work) ≡ given c
    → saved (front_rows c (table_after (λ a. a.table) capacity (closing_of rules n capacity permitted (length table) (length work)) table)) ≡ c.table
unfolding table_after
closed_bytes rules n capacity permitted table work c e =
    ap (λ q. saved (front_rows c (table_after (λ a. a.table) capacity q table))) e
    ∙ left_rows rules n capacity permitted (length table) (length work) c.table c.grown ((closing_closed rules n capacity permitted (length table) (length work) c.table c.grown).0 e) table

-- "If `close` answers closed, then on the rows it left, with the same kinds, `ask` answers yes ⟺ the order's goals have a proof by Figure 1 from those
-- rules, for every order that it does not refuse."
pub demand_3 : (rules : List ℕ) (n capacity permitted : ℕ) (table work : List ℕ) (c : Closure)
    → closing_of rules n capacity permitted (length table) (length work) ≡ given c
    → Decides rules n (front_rows c (table_after (λ a. a.table) capacity (closing_of rules n capacity permitted (length table) (length work)) table))
unfolding table_after
demand_3 rules n capacity permitted table work c e =
    subst (λ q. Decides rules n (front_rows c (table_after (λ a. a.table) capacity q table))) (sym e)
    (left_decides rules n capacity permitted (length table) (length work) c.table c.grown ((closing_closed rules n capacity permitted (length table) (length work) c.table c.grown).0 e) table)
