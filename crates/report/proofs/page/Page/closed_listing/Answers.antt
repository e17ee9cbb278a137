-- `Page::closed_listing` writes what its calls write; the rows are the first of the table.
use Rattle.std.proofs.Common.{[], ◌∷◌}
use Rattle.report.specs.Text.{closed_words}
use Rattle.report.proofs.Puts.{puts_then, left_start, left_turn}
use Rattle.report.proofs.Counting.{lines_front}
use Rattle.report.proofs.page.Page.closed_listing.Goals as goal

pub lines-requires : goal.lines-requires
lines-requires c = rw (lines_front c.args.closing.rows c.args.table.now c.requires.rows_in_bounds) (left_turn {s = 10 ∷ []} (left_turn {s = closed_words c.args.closing} (left_start {p = c.args.self.now} c.requires.room) c.closed.ensures) c.byte.ensures).room

pub returns : goal.returns
returns c =
    let lines = rw (lines_front c.args.closing.rows c.args.table.now c.requires.rows_in_bounds) at c.lines.ensures in
    puts_then c.closed.ensures (puts_then c.byte.ensures lines)
