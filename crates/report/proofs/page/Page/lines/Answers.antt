-- `Page::lines` meets its contract: a turn writes the line of the row that the chunks give.
use Rattle.std.proofs.Common.{◌≡◌, ◌∙◌, ◌/◌, ◌++◌, arith, length, ap, ℕ, List}
use Rattle.std.specs.Slice.Iter.{chunks_exact_rest, chunks_exact_size}
use Rattle.report.specs.declared.page.Page.{Page}
use Rattle.report.specs.Text.{line, lines}
use Rattle.report.proofs.Puts.{Left, left_start, left_front, left_turn, left_stop}
use Rattle.report.proofs.Counting.{lines_row}
use Rattle.report.proofs.page.Page.lines.Goals as goal

-- the next chunk is the next row
next_row : (chunks row rest : List ℕ) {whole : List ℕ} {start p : Page} →
    chunks ≡ row ++ rest → length row ≡ 32 → Left whole (lines (length chunks / 32) chunks) start p → Left whole (line row ++ lines (length rest / 32) rest) start p
next_row chunks row rest is long l = rw (is, lines_row row rest long) at l

pub loop-row-init : goal.loop-row-init
loop-row-init c =
    let same = c.into_iter-row-iterator.ensures.into_iter_gives in
    record {
      size = ap chunks_exact_size same ∙ c.chunks_exact-row-items.ensures.size;
      left = rw (ap chunks_exact_rest same ∙ c.chunks_exact-row-items.ensures.rest) (left_start c.requires);
    }

pub line-requires : goal.line-requires
line-requires c =
    let i = c.loop-row.invariant in
    let s = c.in-Some.ensures.steps in
    left_front _ _ (next_row _ _ _ s.1.0 (s.1.1 ∙ i.size) i.left)

pub loop-row-preserved : goal.loop-row-preserved
loop-row-preserved c =
    let i = c.loop-row.invariant in
    let s = c.in-Some.ensures.steps in
    record { size = s.0 ∙ i.size; left = left_turn (next_row _ _ _ s.1.0 (s.1.1 ∙ i.size) i.left) c.line.ensures }

pub returns : goal.returns
unfolding lines
returns c =
    let i = c.loop-row.invariant in
    let s = c.in-None.ensures.steps in
    let none : length (chunks_exact_rest c.loop-row.row-iterator) / 32 ≡ 0 = omega arith in
    left_stop (rw none at i.left)
