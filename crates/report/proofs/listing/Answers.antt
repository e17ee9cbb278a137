-- `report::listing` meets its contract: no listing is longer than the buffer.
use Rattle.std.proofs.Common.{rules, arith, length, ap}
use Rattle.report.proofs.Counting.{closed_few, refused_few}
use Rattle.report.proofs.listing.Goals as goal
use Rattle.report.proofs.listing.Goals.{in-Ok, in-Err}

pub closed_listing-requires-clause-room : goal.closed_listing-requires-clause-room
closed_listing-requires-clause-room c =
    omega (arith, closed_few c.in-Ok.closing c.args.table.now (rw c.in-Ok.is at c.requires.1) (λ i. search rules), ap length c.new-page.ensures.holds)

pub refused_line-requires : goal.refused_line-requires
refused_line-requires c = omega (arith, refused_few c.in-Err.why, ap length c.new-page.ensures.holds)

pub returns-clause-upper_bound : goal.returns-clause-upper_bound
returns-clause-upper_bound c =
    elim c.match-answer.branch [
      | in-Ok w ↦ let few = closed_few w.in-Ok.closing c.args.table.now (rw w.in-Ok.is at c.requires.1) (λ i. search rules) in rw w.page-is (omega arith)
      | in-Err w ↦ rw w.page-is (omega (arith, refused_few w.in-Err.why))
    ]
