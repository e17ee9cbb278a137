-- the list, and then the sums with the branches passed so far
use mathlib.Core.Path.{◌≡◌}
use mathlib.Core.List.{◌++◌, map}
use lib.ListN.{take}
use Rattle.goals.specs.Answers.{rows_of}
use Rattle.goals.specs.Views.{capped}
use Rattle.goals.proofs.shifted.Given as goal

abbrev pub invariant-loop-branch : goal.invariant-loop-branch
invariant-loop-branch l = rows_of l.out ≡ rows_of l.initial.out ++ map (capped l.set) (take l.branch-index l.branch-items)
