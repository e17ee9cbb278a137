-- `Page::pairs` meets its contract: a turn writes the pair of a count above 0, and of no other.
use Rattle.std.proofs.Common.{◌≡◌, true, false, drop, length, arith, refl, ap, ◌∙◌}
use lib.Seq.{drop-length}
use Rattle.report.specs.Text.{pairs}
use Rattle.report.proofs.Puts.{left_start, left_front, left_turn, left_stop}
use Rattle.report.proofs.Counting.{pairs_none, pairs_next}
use Rattle.report.proofs.page.Page.pairs.Goals as goal
use Rattle.report.proofs.page.Page.pairs.Goals.{then-shown, else-shown}

pub loop-kind-init : goal.loop-kind-init
loop-kind-init c = record { first = true; gap_is = refl; left = left_start c.requires }

pub numbers-requires : goal.numbers-requires
numbers-requires c =
    let i = c.loop-kind.invariant in
    rw i.gap_is (left_front _ _ (rw (pairs_next i.first c.loop-kind.kind c.args.row.now (omega arith) (omega arith)) at i.left))

pub loop-kind-preserved : goal.loop-kind-preserved
loop-kind-preserved c =
    let i = c.loop-kind.invariant in
    elim c.if-shown.branch [
      | then-shown w ↦ record {
        first = false;
        gap_is = rw w.gap-is;
        left = rw w.self-is (left_turn (rw (pairs_next i.first c.loop-kind.kind c.args.row.now (omega arith) (omega arith)) at i.left) (rw i.gap_is at w.numbers.ensures));
      }
      | else-shown w ↦ record {
        first = i.first;
        gap_is = rw w.gap-is i.gap_is;
        left = rw w.self-is (rw (pairs_none i.first c.loop-kind.kind c.args.row.now (omega arith) (omega arith)) at i.left);
      }
    ]

pub returns : goal.returns
unfolding pairs
returns c =
    let e : c.loop-kind.kind ≡ length c.args.row.now = omega arith in
    left_stop (rw (ap (λ k. drop k c.args.row.now) e ∙ drop-length c.args.row.now) at c.loop-kind.invariant.left)
