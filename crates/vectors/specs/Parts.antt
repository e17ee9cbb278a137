-- What reading a part of a frame finds.
use Rattle.std.specs.Prelude.{ℕ, ◌≤◌, List, length}

-- as many bytes as the buffer has at most
abbrev pub FitsIn : List ℕ → ℕ → Type 0
FitsIn part most = length part ≤ most
