-- `Page::decimal` writes what its tenth part writes and then the last digit.
use Rattle.std.proofs.Common.{arith}
use Rattle.report.proofs.Spelling.{decimal_small, decimal_large}
use Rattle.report.proofs.Puts.{puts_then, left_start, left_turn, left_front}
use Rattle.report.proofs.page.Page.+decimal.Goals as goal
use Rattle.report.proofs.page.Page.+decimal.Goals.{then-n-ge10, else-n-ge10}

pub decimal-requires : goal.decimal-requires
decimal-requires t c = (omega arith, left_front _ _ (left_start {p = c.args.self.now} (rw (decimal_large c.args.n (omega arith) (omega arith)) at c.requires)))

pub byte-requires : goal.byte-requires
byte-requires t c =
    elim c.if-n-ge10.branch [
      | then-n-ge10 w ↦ rw w.self-is (left_turn (left_start {p = c.args.self.now} (rw (decimal_large c.args.n (omega arith) (omega arith)) at c.requires)) w.decimal.ensures).room
      | else-n-ge10 w ↦ rw w.self-is (rw (decimal_small c.args.n (omega arith)) at c.requires)
    ]

pub returns : goal.returns
returns t c =
    elim c.if-n-ge10.branch [
      | then-n-ge10 w ↦ rw (decimal_large c.args.n (omega arith) (omega arith)) (puts_then w.decimal.ensures (rw w.self-is at c.byte.ensures))
      | else-n-ge10 w ↦ rw (decimal_small c.args.n (omega arith)) (rw w.self-is at c.byte.ensures)
    ]
