use mathlib.Core.Path.{◌∙◌}
use borrow.Author.Rules.{rules}
use Rattle.std.proofs.lemmas.Iterator.{YieldsList-from_slice}
use Rattle.std.proofs.lemmas.Iterator.Consumers.{count_from_yields_List}
use Rattle.std.proofs.lemmas.Iterator.Search.{YieldsList-from_take_while}
use Rattle.std.proofs.lemmas.List.Folds.{length-prefix_len}
use Rattle.goals.specs.Codes.{is_kind}
use Rattle.goals.proofs.ScanLaws.{front_prefix}
use Rattle.goals.proofs.front.Goals as goal

pub returns-clause-count : goal.returns-clause-count
returns-clause-count c =
    count_from_yields_List c.take_while.result _ c.count.ensures.ran (YieldsList-from_take_while _ (is_kind c.args.kinds) (YieldsList-from_slice c.args.s.now cc) c.take_while.ensures.closure c.take_while.ensures.done (λ x b q k. search rules))
    ∙ length-prefix_len (is_kind c.args.kinds) c.args.s.now ∙ front_prefix c.args.kinds c.args.s.now
