-- `goals::goal` meets its contract: by the code at the cursor; the measure is what is left of the bytes.
use Rattle.std.proofs.Common.{◌-◌, length}
use Rattle.goals.proofs.+goal.Given as goal

abbrev pub decreases-goal : goal.decreases-goal
decreases-goal l = length l.s.now - l.c.at
