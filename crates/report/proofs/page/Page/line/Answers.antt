-- `Page::line` writes what its two calls write.
use Rattle.report.proofs.Puts.{together}
use Rattle.report.proofs.page.Page.line.Goals as goal

pub returns : goal.returns
returns c = search together
