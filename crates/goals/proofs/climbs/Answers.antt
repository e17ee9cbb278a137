use Rattle.std.proofs.Common.{rules, tests}
use Rattle.std.proofs.lemmas.Fn.{always_returns_same}
use lib.Dec.{leb}
use Rattle.goals.proofs.ScanLaws.{climbs_answer}
use Rattle.goals.proofs.climbs.Goals as goal

pub returns : goal.returns
returns c = climbs_answer c.args.s.now c.is_sorted_by.result (c.is_sorted_by.ensures.cases leb (always_returns_same _ _ _ (λ a r f k. search (rules, tests))))
