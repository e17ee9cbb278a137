use mathlib.Core.Path.{◌∙◌}
use mathlib.Core.List.{map}
use lib.ListN.{take, length-map}
use lib.Seq.{length-take-le}
use native.Mathlib.Omega.{arith}
use Rattle.goals.specs.Views.{capped}
use Rattle.goals.proofs.ListLaws.{room}
use Rattle.goals.proofs.shifted.Goals as goal

pub push-requires : goal.push-requires
push-requires c =
    let l = c.rows-branch-items.result.now in
    let i = c.loop-branch.branch-index in
    room c.loop-branch.out c.args.out.now c.args.right.now l (map (capped c.args.set) (take i l)) i c.loop-branch.invariant (length-map (take i l) (capped c.args.set) ∙ length-take-le i l (omega arith)) c.rows-branch-items.ensures c.loop-branch-test.true c.requires
