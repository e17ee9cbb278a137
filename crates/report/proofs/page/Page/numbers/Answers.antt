-- `Page::numbers` writes what its four calls write.
use Rattle.report.proofs.Puts.{together}
use Rattle.report.proofs.page.Page.numbers.Goals as goal

pub returns : goal.returns
returns c = search together
