-- The invariant: the lines of the rows that the loop has not reached are still to be written.
use Rattle.std.proofs.Common.{◌/◌, ◌≡◌, length}
use Rattle.std.specs.Slice.Iter.{chunks_exact_rest, chunks_exact_size}
use Rattle.report.specs.Text.{lines}
use Rattle.report.proofs.Puts.{Left}
use Rattle.report.proofs.page.Page.lines.Given as goal

abbrev pub invariant-loop-row : goal.invariant-loop-row
invariant-loop-row l =
    let rest = chunks_exact_rest l.row-iterator in
    record {
      size : chunks_exact_size l.row-iterator ≡ 32;
      left : Left (lines (length l.rows / 32) l.rows) (lines (length rest / 32) rest) l.initial.self l.self;
    }
