-- `vectors::frame::checksum` meets its contract. The invariant: the bytes still to come take the two sums to the checksum.
use Prim.Native.Nat.{◌<◌}
use mathlib.Core.Path.{◌≡◌}
use lib.ListN.{drop}
use Rattle.vectors.specs.Frame.{adler}
use Rattle.vectors.proofs.frame.checksum.Given as goal

abbrev pub invariant-loop-byte : goal.invariant-loop-byte
invariant-loop-byte l = (l.low < 65521) × (l.high < 65521) × (adler l.low l.high (drop l.byte-index l.bytes) ≡ adler 1 0 l.bytes)
