use mathlib.Core.Path.{◌∙◌}
use borrow.Author.Rules.{rules}
use lib.Dec.{eqb}
use lib.ListN.{drop}
use Rattle.std.proofs.lemmas.Iterator.{YieldsList-from_slice}
use Rattle.std.proofs.lemmas.Iterator.Adapters.{YieldsList-from_skip}
use Rattle.std.proofs.lemmas.Iterator.Search.{all_from_yields_List}
use Rattle.goals.proofs.ScanLaws.{padded_all}
use Rattle.goals.proofs.Cursor.at_padding.Goals as goal

pub returns : goal.returns
returns c =
    all_from_yields_List (λ b. eqb b 255) _ _ _ c.all.ensures.ran (YieldsList-from_skip c.args.self.at (YieldsList-from_slice c.args.s.now cc) cc) (λ x b q k. search rules)
    ∙ padded_all (drop c.args.self.at c.args.s.now)
