-- What the listing program prints.
use Rattle.std.specs.Prelude.{ℕ, ◌≡◌, List, Result, length}
use Rattle.table.specs.Answers.{ClosePromise}
use Rattle.table.specs.declared.Closing.{Closing}
use Rattle.table.specs.declared.Refusal.{Refusal}
use Rattle.report.specs.Buffer.{Written}
use Rattle.report.specs.Text.{listed}

-- "with 32 kinds, capacity 256, 10,000 rounds": an answer that closing may give on areas of the needed lengths, and the
-- text of it and of the table that it left, at the front of the buffer
pub record Lists (rules before after : List ℕ) (r : ℕ) : Type 0 where
  pub answer : Result Closing Refusal
  pub table : List ℕ
  pub work : List ℕ
  pub closed : List ℕ
  pub cleared : List ℕ
  pub promised : ClosePromise rules 32 256 10000 table work answer closed cleared
  pub table_long : length table ≡ 8192
  pub work_long : length work ≡ 24576
  pub written : Written (listed answer closed) 0 before after r
