-- the left list and the branches of the right passed so far
use mathlib.Core.Path.{◌≡◌}
use mathlib.Core.List.{◌++◌}
use lib.ListN.{take}
use Rattle.goals.specs.Answers.{rows_of}
use Rattle.goals.proofs.both.Given as goal

abbrev pub invariant-loop-branch : goal.invariant-loop-branch
invariant-loop-branch l = rows_of l.out ≡ rows_of l.initial.out ++ take l.branch-index l.branch-items
