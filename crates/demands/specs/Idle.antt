-- A call of closing and a call of asking as their callers see them, and what the contracts ask of them: for the idle versions of 01.
use Rattle.std.specs.Prelude.{ℕ, Bool, ◌≡◌, List, length}
use Rattle.table.specs.Calls.{Outcome, closing_of, asking_of, table_after, work_after}
use Rattle.table.specs.Answers.{Counts, counted}

-- rules, kinds, capacity, permitted rounds, the table area and the work area, to something
abbrev pub OfCall : Type 0 → Type 0
OfCall A = (rules : List ℕ) (n capacity permitted : ℕ) (table work : List ℕ) → A

-- a call of closing: its answer, and what it leaves in the two areas
pub record Closer : Type 0 where
  pub answer : OfCall (Outcome Counts)
  pub table_left : OfCall (List ℕ)
  pub work_left : OfCall (List ℕ)

-- it meets the contract
pub record MeetsClosing (f : Closer) : Type 0 where
  pub answers : (rules : List ℕ) (n capacity permitted : ℕ) (table work : List ℕ)
      → f.answer rules n capacity permitted table work ≡ counted (closing_of rules n capacity permitted (length table) (length work))
  pub tables : (rules : List ℕ) (n capacity permitted : ℕ) (table work : List ℕ)
      → f.table_left rules n capacity permitted table work ≡ table_after (λ c. c.table) capacity (closing_of rules n capacity permitted (length table) (length work)) table
  pub works : (rules : List ℕ) (n capacity permitted : ℕ) (table work : List ℕ)
      → f.work_left rules n capacity permitted table work ≡ work_after capacity (closing_of rules n capacity permitted (length table) (length work)) work

-- a call of asking, by its answer; and that it meets the contract
abbrev pub Asker : Type 0
Asker = (bytes : List ℕ) (n : ℕ) (order : List ℕ) → Outcome Bool

abbrev pub MeetsAsking : Asker → Type 0
MeetsAsking f = (bytes : List ℕ) (n : ℕ) (order : List ℕ) → f bytes n order ≡ asking_of bytes n order
