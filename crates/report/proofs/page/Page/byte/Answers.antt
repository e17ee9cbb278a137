-- `Page::byte` meets its contract: one store is the text of one byte.
use Rattle.std.proofs.Common.{rules, arith, refl}
use Rattle.report.proofs.Writing.{write_one}
use Rattle.report.proofs.page.Page.byte.Goals as goal

pub returns : goal.returns
returns c = record { same_reference = refl; length_kept = search rules; written = record { place = refl; holds = write_one _ _ _ (omega arith) } }
