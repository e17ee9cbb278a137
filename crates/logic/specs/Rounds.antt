-- Rounds that keep their table, and what a table answers (01, "A round").
use Rattle.std.specs.Prelude.{List, ℕ, zero, suc}
use Rattle.logic.specs.Facts.{occ}
use Rattle.logic.specs.Goals.{Goal, Clause, ◌∈◌}
use Rattle.logic.specs.Satisfaction.{Interp}
use Rattle.logic.specs.Operator.{S, ∅}
use Rattle.logic.specs.Order.{Covers, ◌⊑◌, ◌≃◌, ◌∪◌}
use Rattle.logic.specs.Branches.{branches_c}

-- 01:38: k rounds from no rows, each "I together with S_P of I", the table being any representative up to ≃
pub data After (P : List Clause) : ℕ → Interp → Type 1 where
  start : {T : Interp} → T ⊑ ∅ → After P zero T
  round : {k : ℕ} {T U : Interp} → After P k T → U ≃ T ∪ S P T → After P (suc k) U

-- 01:40: "each of its branches is covered by the table"
abbrev pub AllCovered : Interp → List Goal → Type 0
AllCovered I Θ = (b : List ℕ) → b ∈ branches_c Θ → Covers I (occ b)
