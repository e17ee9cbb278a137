-- `Page::refused_line` writes what its calls write.
use Rattle.report.proofs.Puts.{together}
use Rattle.report.proofs.page.Page.refused_line.Goals as goal

pub returns : goal.returns
returns c = search together
