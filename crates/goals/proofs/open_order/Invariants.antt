-- the run before the cursor, and the goals from there on, give the order
use Prim.Native.Nat.{◌-◌}
use lib.ListN.{length}
use Rattle.goals.proofs.OrderLaws.{Run}
use Rattle.goals.proofs.open_order.Given as goal

abbrev pub invariant-loop-c : goal.invariant-loop-c
invariant-loop-c l = Run l.kinds l.order l.c.at l.run

abbrev pub decreases-loop-c : goal.decreases-loop-c
decreases-loop-c l = length l.order - l.c.at
