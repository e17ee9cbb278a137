-- How an answer leaves the three calls for C: 0 or 01's number of the refusal, and the numbers beside it.
use Rattle.std.specs.Prelude.{ℕ, ◌≡◌, Bool, true, false, List, Result, Ok, Err, MatchResult}
use Rattle.steps.specs.declared.Growth.{Growth as Grown}
use Rattle.table.specs.Calls.{asking_of}
use Rattle.table.specs.Answers.{number, returned, answer_says, ClosePromise, RoundPromise}
use Rattle.table.specs.declared.Refusal.{Refusal}
use Rattle.table.specs.declared.Closing.{Closing}

-- the code that is returned, and the two numbers that are written
pub record ToldTwo (code first second : ℕ) (r f s : ℕ) : Type 0 where
  pub result : r ≡ code
  pub one : f ≡ first
  pub two : s ≡ second

-- two numbers: 0 and both; refused: the number, the returned number, 0
abbrev pub Told : Result (ℕ × ℕ) Refusal → ℕ → ℕ → ℕ → Type 0
Told answer r f s = MatchResult answer (λ n. ToldTwo 0 n.0 n.1 r f s) (λ why. ToldTwo (number why) (returned why) 0 r f s)

-- closed: 0, rows, growing rounds; refused: the number, the returned number, 0
unfoldable pub ToldClosing : Result Closing Refusal → ℕ → ℕ → ℕ → Type 0
ToldClosing (Ok c) = ToldTwo 0 c.rows c.rounds
ToldClosing (Err why) = ToldTwo (number why) (returned why) 0

-- 1 for yes, 0 for no
unfoldable pub flag : Bool → ℕ
flag true = 1
flag false = 0

-- done: 0, rows, whether it grew; refused: the number, the returned number, 0
unfoldable pub ToldRounded : Result Grown Refusal → ℕ → ℕ → ℕ → Type 0
ToldRounded (Ok g) = ToldTwo 0 g.rows (flag g.grew)
ToldRounded (Err why) = ToldTwo (number why) (returned why) 0

-- the code that is returned, and the number that is written
pub record ToldOne (code first : ℕ) (r f : ℕ) : Type 0 where
  pub result : r ≡ code
  pub one : f ≡ first

-- yes: 0, 1; no: 0, 0; refused: the number, the returned number
unfoldable pub ToldAnswer : Result Bool Refusal → ℕ → ℕ → Type 0
ToldAnswer (Ok covered) = ToldOne 0 (flag covered)
ToldAnswer (Err why) = ToldOne (number why) (returned why)

-- what `lw_close` promises: an answer that `table::close` may give, its areas, and the answer's numbers
pub record CloseTold (rules : List ℕ) (n capacity permitted : ℕ) (table work : List ℕ) (r first second : ℕ) (table' work' : List ℕ) : Type 0 where
  pub answer : Result Closing Refusal
  pub promised : ClosePromise rules n capacity permitted table work answer table' work'
  pub told : ToldClosing answer r first second

-- what `lw_round` promises
pub record RoundTold (rules rows : List ℕ) (n capacity : ℕ) (table work : List ℕ) (r first second : ℕ) (table' work' : List ℕ) : Type 0 where
  pub answer : Result Grown Refusal
  pub promised : RoundPromise rules rows n capacity table work answer table' work'
  pub told : ToldRounded answer r first second

-- what `lw_ask` promises
pub record AskTold (rows : List ℕ) (n : ℕ) (order : List ℕ) (r first : ℕ) : Type 0 where
  pub answer : Result Bool Refusal
  pub promised : answer_says answer ≡ asking_of rows n order
  pub told : ToldAnswer answer r first
