use mathlib.Core.List.{[]}
use native.Mathlib.Omega.{arith}
use Rattle.goals.proofs.ListLaws.{counts}
use Rattle.goals.proofs.branches.Branches.alone.Goals as goal

pub push-requires : goal.push-requires
push-requires c = omega (arith, counts c.none-one.result [] c.none-one.ensures)
