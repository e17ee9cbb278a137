use mathlib.Core.Path.{◌≡◌, sym, ap, ◌∙◌}
use native.Mathlib.Omega.{arith}
use Rattle.std.specs.Prelude.{Some, None}
use Rattle.std.proofs.lemmas.Result.{err_from_is_err_and}
use Rattle.tokens.specs.Sets.{empty}
use Rattle.goals.specs.declared.OrderFault.TheVariants.{Order}
use Rattle.goals.specs.Answers.{order_of}
use Rattle.goals.specs.Views.{list_of, view_of}
use Rattle.goals.proofs.ViewLaws.{view_past, order_listed}
use Rattle.goals.proofs.OrderLaws.{run_start, run_done, run_bad}
use Rattle.goals.proofs.open_order.Goals as goal

pub loop-c-init : goal.loop-c-init
unfolding empty
loop-c-init c = run_start c.args.kinds c.args.order.now c.if-order-gt64.false (Some c.alone.result) (ap Some c.alone.ensures)

pub returns-in_err-opened : goal.returns-in_err-opened
returns-in_err-opened c =
    let p = err_from_is_err_and c.from_residual.result c.from_residual.ensures.1 in
    let none : c.goal.result ≡ None = grind arith in
    let fault : c.in_err-opened.field-0.0 ≡ Order = grind arith in
    rw (p.1, p.2, fault) (sym (run_bad c.args.kinds c.args.order.now c.loop-c.c.at c.loop-c.run c.loop-c.invariant c.loop-c-test.true (ap view_of (sym none) ∙ c.goal.ensures)))

pub loop-c-smaller : goal.loop-c-smaller
loop-c-smaller c =
    let there : c.goal.result ≡ Some c.in_ok-opened.opened = grind arith in
    let p = view_past c.args.kinds c.args.order.now c.loop-c.c.at (list_of c.in_ok-opened.opened.list) c.in_ok-opened.opened.next.at (ap view_of (sym there) ∙ c.goal.ensures) in
    omega (arith, p.0, p.1)

pub returns : goal.returns
returns c =
    ap order_of c.ok_or-2.ensures.value ∙ order_listed c.loop-c.run
    ∙ sym (run_done c.args.kinds c.args.order.now c.loop-c.c.at c.loop-c.run c.loop-c.invariant c.loop-c-test.false)
