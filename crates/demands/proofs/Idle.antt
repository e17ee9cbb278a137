-- The idle versions of 01: no call that behaves so meets its contract.
use Prim.Native.Nat.{ℕ}
use native.Mathlib.Omega.{arith}
use mathlib.Core.Bool.{Bool, true, false, true≢false}
use mathlib.Core.List.{List, [], ◌∷◌, ◌++◌, map}
use mathlib.Core.Path.{◌≡◌, refl, sym, ap, ◌∙◌}
use lib.ListN.{length, get_or, replicate}
use Rattle.tokens.specs.Sets.{empty, included, zip, minus, join, plus, over, before}
use Rattle.tokens.specs.Tables.{every, covered, without, place, insert, placed, put, pairwise, ascends, separate, apart, blank_from, well_formed}
use Rattle.tokens.specs.Rows.{rows, lay, area}
use Rattle.logic.specs.Goals.{Clause}
use Rattle.logic.specs.Branches.{sums, opened, opened_all, ways}
use Rattle.goals.specs.Codes.{is_kind, code, code_at}
use Rattle.goals.specs.Parsing.{parse, parse_at}
use Rattle.goals.specs.Limits.{within, runs_within}
use Rattle.goals.specs.Readings.{clauses, padded, climbs, front, head, body, rule, records, program, goals, order}
use Rattle.goals.specs.Sets.{one, set_of, branch_rows, order_rows, opening, opened_rule, opened_order}
use Rattle.goals.proofs.Examples.{pad, rec, counts}
use Rattle.rounds.specs.Round.{limits, going, after, each, fitting, hold, meet, weave, holding, grown, offer, step, round, next, closing, close, answer, rounds}
use Rattle.table.specs.Calls.{given, refused, check, between, kinds_fit, capacity_fits, rounds_fit, table_needs, work_needs, areas_fit, rules_fit, rows_fit, with_rules, saved, Closure, ended, closing_of, asked, asking_of, laid, table_after, work_after}
use Rattle.table.specs.Answers.{Counts, counted}
use Rattle.demands.specs.Idle.{Closer, MeetsClosing, Asker, MeetsAsking}
use Rattle.table.proofs.OutcomeLaws.{given_refused}
use Rattle.demands.proofs.Examples.{Q, Q_clauses, Q_rows, bytes, sevens}

-- ---- what the contract gives on some inputs, computed

-- a ∘- ⊤; b ∘- ⊤, and a ∘- b; b ∘- ⊤: the same rows, after one growing round and after two
unfoldable pub Flat : List ℕ
Flat = rec (0 ∷ []) (64 ∷ []) ++ rec (1 ∷ []) (64 ∷ [])

unfoldable pub Chain : List ℕ
Chain = rec (0 ∷ []) (1 ∷ []) ++ rec (1 ∷ []) (64 ∷ [])

-- with 6 kinds, capacity 3, 100 permitted rounds, and areas that hold sevens
abbrev table : List ℕ
table = sevens 96

abbrev work : List ℕ
work = sevens 288

record Computed : Type 0 where
  Q_closed : closing_of Q 6 3 100 (length table) (length work) ≡ given (record { table = Q_rows; grown = 3 })
  Q_answer : counted (closing_of Q 6 3 100 (length table) (length work)) ≡ given (record { rows = 3; grown = 3 })
  Q_table : table_after (λ c. c.table) 3 (closing_of Q 6 3 100 (length table) (length work)) table ≡ bytes Q_rows
  Q_work : work_after 3 (closing_of Q 6 3 100 (length table) (length work)) work ≡ replicate 288 0
  Q_spelled : program 6 Q ≡ clauses Q_clauses
  Q_first : rounds (limits 3) (map opening Q_clauses) 1 ≡ going (map counts ((0 ∷ 1 ∷ []) ∷ []))
  Q_first_laid : get_or (laid (table_needs 3) (map counts ((0 ∷ 1 ∷ []) ∷ [])) table) 2 0 ≡ 0
  Q_closed_laid : get_or (bytes Q_rows) 2 0 ≡ 1
  Flat_answer : counted (closing_of Flat 6 3 100 (length table) (length work)) ≡ given (record { rows = 2; grown = 1 })
  Chain_answer : counted (closing_of Chain 6 3 100 (length table) (length work)) ≡ given (record { rows = 2; grown = 2 })
  same_length : length Flat ≡ length Chain
  Q_yes : asking_of (bytes Q_rows) 6 (0 ∷ 4 ∷ []) ≡ given true
  Q_no : asking_of (bytes Q_rows) 6 (3 ∷ 4 ∷ []) ≡ given false

computed : Computed
unfolding Q Q_clauses Q_rows Flat Chain bytes sevens counted pad rec counts empty included zip minus join plus over before every covered without place insert placed put pairwise ascends separate apart blank_from well_formed rows lay area sums opened opened_all ways is_kind code code_at parse parse_at within runs_within padded climbs front head body rule records program goals order one set_of branch_rows order_rows opening opened_rule opened_order after each fitting hold meet weave holding grown offer step round next closing close answer rounds check between kinds_fit capacity_fits rounds_fit table_needs work_needs areas_fit rules_fit rows_fit with_rules saved ended closing_of asked asking_of laid table_after work_after
computed = record { Q_closed = refl; Q_answer = refl; Q_table = refl; Q_work = refl; Q_spelled = refl; Q_first = refl; Q_first_laid = refl; Q_closed_laid = refl; Flat_answer = refl; Chain_answer = refl; same_length = refl; Q_yes = refl; Q_no = refl }

-- ---- closing (demand 2)

module _ (f : Closer) (meets : MeetsClosing f) where
  -- "one that refuses everything"
  pub refuses_everything : ((rules : List ℕ) (n capacity permitted : ℕ) (table work : List ℕ) → (number : ℕ) × (k : ℕ) × (f.answer rules n capacity permitted table work ≡ refused number k)) → ⊥
  refuses_everything idle = let w = idle Q 6 3 100 table work in given_refused (sym computed.Q_answer ∙ sym (meets.answers Q 6 3 100 table work) ∙ w.2)

  -- "one that returns an empty closed table": whatever it closes has no rows
  pub returns_no_rows : ((rules : List ℕ) (n capacity permitted : ℕ) (table work : List ℕ) (a : Counts) → f.answer rules n capacity permitted table work ≡ given a → a.rows ≡ 0) → ⊥
  returns_no_rows idle = let z : ◌≡◌ {A = ℕ} 3 0 = idle Q 6 3 100 table work (record { rows = 3; grown = 3 }) (meets.answers Q 6 3 100 table work ∙ computed.Q_answer) in omega arith

  -- "one that leaves the areas untouched": the table area, or the work area
  pub leaves_table : ((rules : List ℕ) (n capacity permitted : ℕ) (table work : List ℕ) → f.table_left rules n capacity permitted table work ≡ table) → ⊥
  unfolding Q_rows bytes counts sevens
  leaves_table idle =
      let z : ◌≡◌ {A = ℕ} 7 0 = ap (λ (l : List ℕ). get_or l 0 0) (sym (idle Q 6 3 100 table work) ∙ meets.tables Q 6 3 100 table work ∙ computed.Q_table) in omega arith

  pub leaves_work : ((rules : List ℕ) (n capacity permitted : ℕ) (table work : List ℕ) → f.work_left rules n capacity permitted table work ≡ work) → ⊥
  unfolding sevens
  leaves_work idle =
      let z : ◌≡◌ {A = ℕ} 7 0 = ap (λ (l : List ℕ). get_or l 0 0) (sym (idle Q 6 3 100 table work) ∙ meets.works Q 6 3 100 table work ∙ computed.Q_work) in omega arith

  -- "one that does a true first round and only repeats it later": whatever it closes, it leaves the first round's rows
  pub repeats_first : ((rules : List ℕ) (n capacity permitted : ℕ) (table work : List ℕ) (a : Counts) (P : List Clause) (t : List (List ℕ))
      → f.answer rules n capacity permitted table work ≡ given a → program n rules ≡ clauses P → rounds (limits capacity) (map opening P) 1 ≡ going t
      → f.table_left rules n capacity permitted table work ≡ laid (table_needs capacity) t table) → ⊥
  repeats_first idle =
      let e = idle Q 6 3 100 table work (record { rows = 3; grown = 3 }) Q_clauses (map counts ((0 ∷ 1 ∷ []) ∷ [])) (meets.answers Q 6 3 100 table work ∙ computed.Q_answer) computed.Q_spelled computed.Q_first in
      let z : ◌≡◌ {A = ℕ} 0 1 = sym computed.Q_first_laid ∙ ap (λ (l : List ℕ). get_or l 2 0) (sym e ∙ meets.tables Q 6 3 100 table work ∙ computed.Q_table) ∙ computed.Q_closed_laid in
      omega arith

  -- "one with an invented round count": from anything but what the rules say, be it their length, the settings, the areas and the rows
  pub invents_rounds : (count : ℕ → ℕ → ℕ → ℕ → List ℕ → List ℕ → ℕ → ℕ)
      → ((rules : List ℕ) (n capacity permitted : ℕ) (table work : List ℕ) (a : Counts) → f.answer rules n capacity permitted table work ≡ given a
      → a.grown ≡ count (length rules) n capacity permitted table work a.rows) → ⊥
  invents_rounds count idle =
      let one_round : 1 ≡ count (length Flat) 6 3 100 table work 2 = idle Flat 6 3 100 table work (record { rows = 2; grown = 1 }) (meets.answers Flat 6 3 100 table work ∙ computed.Flat_answer) in
      let two_rounds : 2 ≡ count (length Chain) 6 3 100 table work 2 = idle Chain 6 3 100 table work (record { rows = 2; grown = 2 }) (meets.answers Chain 6 3 100 table work ∙ computed.Chain_answer) in
      let z : ◌≡◌ {A = ℕ} 1 2 = one_round ∙ ap (λ (l : ℕ). count l 6 3 100 table work 2) computed.same_length ∙ sym two_rounds in
      omega arith

  -- the same by what it counts: a call whose count is never the number of growing rounds, as one that counts the last round too
  pub miscounts : ((rules : List ℕ) (n capacity permitted : ℕ) (table work : List ℕ) (c : Closure) (a : Counts) → closing_of rules n capacity permitted (length table) (length work) ≡ given c
      → f.answer rules n capacity permitted table work ≡ given a → a.grown ≡ c.grown → ⊥) → ⊥
  miscounts idle =
      idle Q 6 3 100 table work (record { table = Q_rows; grown = 3 }) (record { rows = 3; grown = 3 }) computed.Q_closed (meets.answers Q 6 3 100 table work ∙ computed.Q_answer) refl

-- ---- asking (demand 3)

module _ (f : Asker) (meets : MeetsAsking f) where
  -- "one that says yes .. to each order"
  pub says_yes : ((bytes : List ℕ) (n : ℕ) (order : List ℕ) (b : Bool) → f bytes n order ≡ given b → b ≡ true) → ⊥
  says_yes idle = true≢false (sym (idle (bytes Q_rows) 6 (3 ∷ 4 ∷ []) false (meets (bytes Q_rows) 6 (3 ∷ 4 ∷ []) ∙ computed.Q_no)))

  -- "one that says .. no, to each order"
  pub says_no : ((bytes : List ℕ) (n : ℕ) (order : List ℕ) (b : Bool) → f bytes n order ≡ given b → b ≡ false) → ⊥
  says_no idle = true≢false (idle (bytes Q_rows) 6 (0 ∷ 4 ∷ []) true (meets (bytes Q_rows) 6 (0 ∷ 4 ∷ []) ∙ computed.Q_yes))
