-- A row read as a fact of 001.
use Rattle.std.specs.Prelude.{ℕ, List, get_or}
use Rattle.logic.specs.Facts.{Fact}

-- 01: "A row is 32 bytes, byte i being the count of kind i"; what a row does not reach counts 0
abbrev pub fact : List ℕ → Fact
fact r k = get_or r k 0
