use borrow.Author.Tests.{le-leb, lt-leb}
use mathlib.Core.Path.{refl, sym, ap, ◌∙◌}
use mathlib.Core.List.{List, ◌++◌}
use Prim.Native.Nat.{ℕ}
use lib.ListN.{take}
use lib.Seq.{take_all, length-take-le}
use native.Mathlib.Omega.{arith}
use Rattle.std.specs.Prelude.{Some, None}
use Rattle.goals.specs.declared.Op.TheVariants.{Both}
use Rattle.goals.specs.Answers.{rows_of}
use Rattle.goals.proofs.ListLaws.{room}
use Rattle.goals.proofs.ViewLaws.{both_joined}
use Rattle.goals.proofs.both.Goals as goal

pub push-requires : goal.push-requires
push-requires c =
    let l = c.rows-branch-items.result.now in
    let i = c.loop-branch.branch-index in
    room c.loop-branch.out c.args.left c.args.right.now l (take i l) i c.loop-branch.invariant (length-take-le i l (omega arith)) c.rows-branch-items.ensures c.loop-branch-test.true c.if-not-fits.false

pub returns-then-not-fits : goal.returns-then-not-fits
returns-then-not-fits c =
    both_joined Both (Some c.args.left) (Some c.args.right.now) None c.args.left c.args.right.now refl refl refl (sym (lt-leb _ 16 c.if-not-fits.true)) tt

pub returns : goal.returns
returns c =
    both_joined Both (Some c.args.left) (Some c.args.right.now) (Some c.loop-branch.out) c.args.left c.args.right.now refl refl refl (sym (le-leb _ 16 c.if-not-fits.false))
    (c.loop-branch.invariant ∙ ap (λ (l : List (List ℕ)). rows_of c.args.left ++ l) (take_all _ _ c.loop-branch-test.false ∙ c.rows-branch-items.ensures))
