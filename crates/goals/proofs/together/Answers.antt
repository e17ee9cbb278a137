use borrow.Author.Tests.{le-leb, lt-leb}
use mathlib.Core.Path.{refl, sym, ap, ◌∙◌}
use mathlib.Core.List.{List}
use Prim.Native.Nat.{ℕ}
use lib.Seq.{take_all}
use Rattle.std.specs.Prelude.{Some, None}
use Rattle.logic.specs.Branches.{sums}
use Rattle.goals.specs.declared.Op.TheVariants.{Together}
use Rattle.goals.specs.Answers.{rows_of}
use Rattle.goals.specs.Views.{capped}
use Rattle.goals.proofs.ViewLaws.{together_joined}
use Rattle.goals.proofs.together.Goals as goal

pub returns-then-not-fits : goal.returns-then-not-fits
returns-then-not-fits c =
    together_joined Together (Some c.args.left.now) (Some c.args.right.now) None c.args.left.now c.args.right.now refl refl refl (sym (lt-leb _ 16 c.if-not-fits.true)) tt

pub returns : goal.returns
returns c =
    together_joined Together (Some c.args.left.now) (Some c.args.right.now) (Some c.loop-branch.out) c.args.left.now c.args.right.now refl refl refl (sym (le-leb _ 16 c.if-not-fits.false))
    (c.loop-branch.invariant ∙ ap (λ (l : List (List ℕ)). sums capped l (rows_of c.args.right.now)) (take_all _ _ c.loop-branch-test.false ∙ c.rows-branch-items.ensures))
