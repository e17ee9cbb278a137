-- `vectors::lines::put_growth` writes what its calls write.
use mathlib.Core.Path.{◌≡◌}
use Rattle.report.proofs.Puts.{puts_then}
use Rattle.vectors.specs.Lines.{grew_text}
use Rattle.vectors.proofs.lines.put_growth.Goals as goal
use Rattle.vectors.proofs.lines.put_growth.Goals.{then-growth, else-growth}

pub returns : goal.returns
returns c =
    let last : c.if-growth.text.now ≡ grew_text c.args.growth.grew = elim c.if-growth.branch [
      | then-growth w ↦ rw (w.if-growth.true, w.text-is)
      | else-growth w ↦ rw (w.if-growth.false, w.text-is)
    ] in
    puts_then c.text.ensures (puts_then c.decimal.ensures (rw (← last) c.text-2.ensures))
