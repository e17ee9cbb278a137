use mathlib.Core.Path.{sym, ap, ◌∙◌}
use native.Mathlib.Omega.{arith}
use Rattle.goals.specs.Views.{view_of}
use Rattle.goals.proofs.ViewLaws.{lent_some, kind_low, pair_past, view_past}
use Rattle.goals.proofs.+goal.Goals as goal

pub kind_alone-requires : goal.kind_alone-requires
kind_alone-requires t c = kind_low c.args.kinds c.args.s.now c.args.c.at c.in-Kind.k c.in_ok-code.next (rw c.in-Kind.is at c.in_ok-code.ensures)

pub goal-left-requires : goal.goal-left-requires
goal-left-requires t c =
    let p = pair_past c.args.kinds c.args.s.now c.args.c.at c.in-Pair.op c.in_ok-code.next (rw c.in-Pair.is at c.in_ok-code.ensures) in
    (omega (arith, p.0, p.1), tt)

pub goal-right-requires : goal.goal-right-requires
goal-right-requires t c =
    let p = pair_past c.args.kinds c.args.s.now c.args.c.at c.in-Pair.op c.in_ok-code.next (rw c.in-Pair.is at c.in_ok-code.ensures) in
    let there = lent_some c.as_ref.ensures.value c.in_ok-left-in-Pair.was in
    let q = view_past c.args.kinds c.args.s.now c.in_ok-code.next.at _ c.in_ok-left-in-Pair.left.now.next.at (ap view_of (sym there) ∙ c.goal-left.ensures) in
    (omega (arith, p.0, q.0, q.1), tt)
