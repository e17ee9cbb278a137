-- what is told of the records from here on is what is told of all
use mathlib.Core.Path.{◌≡◌}
use lib.ListN.{drop}
use Rattle.goals.specs.Answers.{told}
use Rattle.goals.specs.Readings.{records, program}
use Rattle.goals.proofs.check_rules.Given as goal

abbrev pub invariant-loop-record : goal.invariant-loop-record
invariant-loop-record l = told (program l.kinds l.rules) ≡ told (records l.kinds l.record-counter (drop l.record-counter l.records))
