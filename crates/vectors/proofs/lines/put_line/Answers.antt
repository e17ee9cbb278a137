-- `vectors::lines::put_line` writes what its calls write.
use Rattle.report.proofs.Puts.{together}
use Rattle.vectors.proofs.lines.put_line.Goals as goal

pub returns : goal.returns
returns c = search together
