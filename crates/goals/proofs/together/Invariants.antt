-- the sums of the left branches passed so far with all the right ones
use mathlib.Core.Path.{◌≡◌}
use lib.ListN.{take}
use Rattle.logic.specs.Branches.{sums}
use Rattle.goals.specs.Answers.{rows_of}
use Rattle.goals.specs.Views.{capped}
use Rattle.goals.proofs.together.Given as goal

abbrev pub invariant-loop-branch : goal.invariant-loop-branch
invariant-loop-branch l = rows_of l.out ≡ sums capped (take l.branch-index l.branch-items) (rows_of l.fn.right)
