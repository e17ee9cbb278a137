-- Demand 3 at work: what the calls answer on Q, computed, is a proof and a refutation by Figure 1 (001, Example 3.2).
use Prim.Native.Nat.{ℕ}
use mathlib.Core.Bool.{true, false, true≢false}
use mathlib.Core.List.{List, [], ◌∷◌}
use mathlib.Core.Path.{◌≡◌, refl, sym, subst, ◌∙◌}
use lib.ListN.{length}
use Rattle.tokens.specs.Sets.{empty, included, zip, minus, join, plus, over, before}
use Rattle.tokens.specs.Tables.{every, covered, without, place, insert, placed, put, pairwise, ascends, separate, apart, blank_from, well_formed}
use Rattle.tokens.specs.Rows.{rows, lay, area}
use Rattle.logic.specs.Goals.{Goal, kind, Clause}
use Rattle.logic.specs.Proofs.{◌⊢◌}
use Rattle.logic.specs.Branches.{sums, opened, opened_all, ways}
use Rattle.goals.specs.Codes.{is_kind, code, code_at}
use Rattle.goals.specs.Parsing.{parse, parse_at}
use Rattle.goals.specs.Limits.{within, runs_within}
use Rattle.goals.specs.Readings.{read, clauses, padded, climbs, front, head, body, rule, records, program, goals, order}
use Rattle.goals.specs.Sets.{one, set_of, branch_rows, order_rows, opening, opened_rule, opened_order}
use Rattle.goals.proofs.Readings.{same_read}
use Rattle.goals.proofs.Examples.{pad, rec, counts}
use Rattle.rounds.specs.Round.{after, each, fitting, hold, meet, weave, holding, grown, offer, step, round, next, closing, close, answer}
use Rattle.table.specs.Calls.{Outcome, given, check, between, kinds_fit, capacity_fits, rounds_fit, table_needs, work_needs, areas_fit, rules_fit, rows_fit, with_rules, saved, Closure, ended, closing_of, asked, asking_of, laid, table_after}
use Rattle.demands.specs.Statements.{front_rows, Decides}
use Rattle.demands.proofs.Demands.{demand_3}
use Rattle.demands.proofs.Examples.{Q, Q_clauses, Q_rows, sevens}

-- closing Q at capacity 3 with areas that hold sevens
abbrev outcome : Outcome Closure
outcome = closing_of Q 6 3 100 (length (sevens 96)) (length (sevens 288))

abbrev Q_closed : Closure
Q_closed = record { table = Q_rows; grown = 3 }

-- the bytes that it leaves for asking
abbrev kept : List ℕ
kept = front_rows Q_closed (table_after (λ a. a.table) 3 outcome (sevens 96))

record Computed : Type 0 where
  closes : outcome ≡ given Q_closed
  spelled : program 6 Q ≡ clauses Q_clauses
  yes : asking_of kept 6 (0 ∷ 4 ∷ []) ≡ given true
  no : asking_of kept 6 (3 ∷ 4 ∷ []) ≡ given false
  first : order 6 (0 ∷ 4 ∷ []) ≡ read (kind 0 ∷ kind 4 ∷ [])
  second : order 6 (3 ∷ 4 ∷ []) ≡ read (kind 3 ∷ kind 4 ∷ [])

computed : Computed
unfolding Q Q_clauses Q_rows sevens pad rec counts empty included zip minus join plus over before every covered without place insert placed put pairwise ascends separate apart blank_from well_formed rows lay area sums opened opened_all ways is_kind code code_at parse parse_at within runs_within padded climbs front head body rule records program goals order one set_of branch_rows order_rows opening opened_rule opened_order after each fitting hold meet weave holding grown offer step round next closing close answer check between kinds_fit capacity_fits rounds_fit table_needs work_needs areas_fit rules_fit rows_fit with_rules saved ended closing_of asked asking_of laid table_after
computed = record { closes = refl; spelled = refl; yes = refl; no = refl; first = refl; second = refl }

decided : Decides Q 6 kept
decided = demand_3 Q 6 3 100 (sevens 96) (sevens 288) Q_closed computed.closes

-- the clauses that decide are Q's
same_clauses : (C D : List Clause) → clauses C ≡ clauses D → C ≡ D
same_clauses C D e = cc

Qs : decided.P ≡ Q_clauses
Qs = same_clauses decided.P Q_clauses (sym decided.spelled ∙ computed.spelled)

-- "The order a, e: yes."
pub Q_proves : Q_clauses ⊢ kind 0 ∷ kind 4 ∷ []
Q_proves =
    let w = decided.decides (0 ∷ 4 ∷ []) true computed.yes in
    let Θ = same_read w.0 (kind 0 ∷ kind 4 ∷ []) (sym w.1 ∙ computed.first) in
    subst (λ (C : List Clause). C ⊢ kind 0 ∷ kind 4 ∷ []) Qs (subst (λ (Ξ : List Goal). decided.P ⊢ Ξ) Θ (w.2.0 refl))

-- "The order d, e: no."
pub Q_refutes : (Q_clauses ⊢ kind 3 ∷ kind 4 ∷ []) → ⊥
Q_refutes p =
    let w = decided.decides (3 ∷ 4 ∷ []) false computed.no in
    let Θ = same_read w.0 (kind 3 ∷ kind 4 ∷ []) (sym w.1 ∙ computed.second) in
    true≢false (sym (w.2.1 (subst (λ (Ξ : List Goal). decided.P ⊢ Ξ) (sym Θ) (subst (λ (C : List Clause). C ⊢ kind 3 ∷ kind 4 ∷ []) (sym Qs) p))))
