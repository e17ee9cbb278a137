-- The invariant: the pairs of the kinds from `kind` on are still to be written, and the gap tells whether one is written already.
use Rattle.std.proofs.Common.{Bool, true, ◌≡◌, drop}
use Rattle.report.specs.Text.{gap, pairs}
use Rattle.report.proofs.Puts.{Left}
use Rattle.report.proofs.page.Page.pairs.Given as goal

abbrev pub invariant-loop-kind : goal.invariant-loop-kind
invariant-loop-kind l = record {
  first : Bool;
  gap_is : l.gap ≡ gap first;
  left : Left (pairs true 0 l.row) (pairs first l.kind (drop l.kind l.row)) l.initial.self l.self;
}
