-- `Page::text` meets its contract: what is copied stands in the place of what stood there.
use Rattle.std.proofs.Common.{rules, arith, refl}
use Rattle.std.proofs.lemmas.Slice.{overwrites}
use Rattle.std.proofs.lemmas.Grind.{common_steps}
use Rattle.report.specs.Buffer.{write_at}
use Rattle.report.proofs.page.Page.text.Goals as goal

pub returns : goal.returns
unfolding write_at
returns c = record { same_reference = refl; length_kept = search (rules, overwrites); written = record { place = refl; holds = grind (arith, common_steps) } }
