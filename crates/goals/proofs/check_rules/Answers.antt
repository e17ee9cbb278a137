use mathlib.Core.Path.{◌≡◌, sym, ap, ◌∙◌}
use native.Mathlib.Omega.{arith}
use Rattle.std.specs.Prelude.{Ok}
use Rattle.goals.specs.Answers.{rule_of}
use Rattle.goals.proofs.RuleLaws.{set_goes_on}
use Rattle.goals.proofs.check_rules.Goals as goal

pub loop-record-preserved : goal.loop-record-preserved
loop-record-preserved c =
    let there : c.open_rule.result ≡ Ok c.in_ok-map_err.field-0 = grind arith in
    c.loop-record.invariant ∙ set_goes_on c.args.kinds c.as_chunks.result.0.now c.loop-record.record-counter _ c.loop-record-test.true (ap rule_of (sym there) ∙ c.open_rule.ensures)
