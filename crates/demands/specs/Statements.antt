-- What the answers of the public calls mean, in the words of 01 and 001. Each record is the right side of a theorem in proofs/Demands.
use Rattle.std.specs.Prelude.{ℕ, ◌*◌, ◌<◌, Bool, true, false, ◌&&◌, ◌≡◌, List, map, ◌⊎◌, ◌↔◌, leb, length, take}
use Rattle.tokens.specs.Tables.{well_formed}
use Rattle.logic.specs.Facts.{Fact}
use Rattle.logic.specs.Goals.{Goal, Clause, ◌∈◌}
use Rattle.logic.specs.Proofs.{◌⊢◌}
use Rattle.logic.specs.Operator.{S, S↑}
use Rattle.logic.specs.Order.{Covers, ◌∪◌, Minimal, Listed}
use Rattle.goals.specs.Readings.{read, refused as misread, clauses, program, order as order_of}
use Rattle.goals.specs.Sets.{opening}
use Rattle.rounds.specs.Round.{limits, Run, Growth, round}
use Rattle.rounds.specs.Ends.{Closed, Refused}
use Rattle.table.specs.Calls.{given, refused, kinds_fit, capacity_fits, rounds_fit, areas_fit, rules_fit, rows_fit, saved, Closure, asking_of}
use Rattle.demands.specs.Facts.{fact}

-- ---- demand 2: closing

-- "1, 2, 3, then record by record 4, 5, 6" are passed, and the rule bytes spell the clauses P
pub record Admitted (rules : List ℕ) (n capacity permitted table work : ℕ) (P : List Clause) : Type 0 where
  pub settings : (kinds_fit n && (capacity_fits capacity && rounds_fit permitted)) ≡ true
  pub areas : areas_fit capacity table work ≡ true
  pub lengths : rules_fit (length rules) ≡ true
  pub spelled : program n rules ≡ clauses P

-- closed with the rows t after g growing rounds: rounds 1 to g each grew, round g + 1 adds nothing, none is refused, and t is what round g left
pub record Closes (rules : List ℕ) (n capacity permitted table work : ℕ) (t : List (List ℕ)) (g : ℕ) : Type 0 where
  pub P : List Clause
  pub admitted : Admitted rules n capacity permitted table work P
  pub closed : Closed (limits capacity) (map opening P) permitted t g

-- refused where the order of work meets it: rounds 1 to g each grew, and the next one is refused by the number
pub record Stops (rules : List ℕ) (n capacity permitted table work : ℕ) (number g : ℕ) : Type 0 where
  pub P : List Clause
  pub admitted : Admitted rules n capacity permitted table work P
  pub stopped : Refused (limits capacity) (map opening P) permitted number g

-- why, where the table t is what g growing rounds left: more sets than the capacity; or S_P(t) has a fact that t does not cover, and it has a count over 255,
-- or the permitted rounds are spent
pub data Why (P : List Clause) (t : List (List ℕ)) (permitted g : ℕ) : ℕ → Type 0 where
  full : Why P t permitted g 8
  large : g < permitted → (X : Fact) → S P (Listed fact t) X → (Covers (Listed fact t) X → ⊥) → (kind : ℕ) → 255 < X kind → Why P t permitted g 7
  spent : g ≡ permitted → (X : Fact) → S P (Listed fact t) X → (Covers (Listed fact t) X → ⊥) → Why P t permitted g 9

-- the rows t are the minimal facts of S_P↑k(∅), ascending
pub record MinimalRows (n : ℕ) (P : List Clause) (k : ℕ) (t : List (List ℕ)) : Type 0 where
  pub formed : well_formed n t ≡ true
  pub rows : (x : List ℕ) → (x ∈ t) ↔ ((length x ≡ 32) × Minimal (S↑ P k) (fact x))

-- ---- demand 2: one round

-- "1 (kinds and capacity), 2, 3 for rules and then rows, 4 to 6 by record, 11" are passed, and the rule bytes spell the clauses P
pub record RoundAdmitted (rules bytes : List ℕ) (n capacity table work : ℕ) (P : List Clause) : Type 0 where
  pub settings : (kinds_fit n && capacity_fits capacity) ≡ true
  pub areas : areas_fit capacity table work ≡ true
  pub lengths : rules_fit (length rules) ≡ true
  pub row_lengths : rows_fit (length bytes) ≡ true
  pub spelled : program n rules ≡ clauses P
  pub formed : (well_formed n (saved bytes) && leb (length (saved bytes)) capacity) ≡ true

-- past these checks, the round over the saved rows, with no limit on the rounds, ends so: with a table, or refused by a number
pub record RoundEnds (rules bytes : List ℕ) (n capacity table work : ℕ) (r : Run Growth) : Type 0 where
  pub P : List Clause
  pub admitted : RoundAdmitted rules bytes n capacity table work P
  pub ends : round (limits capacity) false (map opening P) (saved bytes) ≡ r

-- one round over the saved rows I: "the minimal sets of I together with S_P of I", ascending; it grew exactly if S_P(I) has a fact that I does not cover
pub record OneRound (rules bytes : List ℕ) (n : ℕ) (u : Growth) : Type 0 where
  pub P : List Clause
  pub spelled : program n rules ≡ clauses P
  pub formed : well_formed n u.rows ≡ true
  pub rows : (x : List ℕ) → (x ∈ u.rows) ↔ ((length x ≡ 32) × Minimal (Listed fact (saved bytes) ∪ S P (Listed fact (saved bytes))) (fact x))
  pub grew : (u.grew ≡ true) ↔ ((X : Fact) × S P (Listed fact (saved bytes)) X × (Covers (Listed fact (saved bytes)) X → ⊥))

-- ---- demand 3

-- the bytes that a caller saves after closing: the rows at the front of the table area
abbrev pub front_rows : Closure → List ℕ → List ℕ
front_rows c area = take (length c.table * 32) area

-- asking these bytes decides the rules: yes exactly if the order's goals have a proof by Figure 1 from the clauses that the rule bytes spell.
-- Every order that reads is answered; the others are refused by 10 or 6, never by 1, 3 or 11.
pub record Decides (rules : List ℕ) (n : ℕ) (bytes : List ℕ) : Type 0 where
  pub P : List Clause
  pub spelled : program n rules ≡ clauses P
  pub decides : (order : List ℕ) (b : Bool) → asking_of bytes n order ≡ given b → (Θ : List Goal) × (order_of n order ≡ read Θ) × ((b ≡ true) ↔ (P ⊢ Θ))
  pub answers : (order : List ℕ) (Θ : List Goal) → order_of n order ≡ read Θ → (b : Bool) × (asking_of bytes n order ≡ given b)
  pub refuses : (order : List ℕ) (number k : ℕ) → asking_of bytes n order ≡ refused number k → (order_of n order ≡ misread number) × ((number ≡ 10) ⊎ (number ≡ 6)) × (k ≡ 0)
