-- the set of the kinds passed so far
use mathlib.Core.Path.{◌≡◌}
use lib.ListN.{take}
use Rattle.goals.specs.Sets.{set_of}
use Rattle.goals.proofs.tally.Given as goal

abbrev pub invariant-loop-kind : goal.invariant-loop-kind
invariant-loop-kind l = l.set ≡ set_of (take l.kind-index l.head)
