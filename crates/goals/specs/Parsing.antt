-- A goal written operator first (01, "Rule records").
use Rattle.std.specs.Prelude.{ℕ, zero, suc, ◌+◌, Option, Some, None, List, length}
use Rattle.logic.specs.Goals.{Goal, kind, ⊤, ◌⅋◌, ◌&◌}
use Rattle.goals.specs.declared.Op.{Op}
use Rattle.goals.specs.declared.Op.TheVariants.{Together, Both}
use Rattle.goals.specs.declared.Code.{Code}
use Rattle.goals.specs.declared.Code.TheVariants.{Kind, Done, Pair}
use Rattle.goals.specs.Codes.{code_at}

-- a goal and the place past it; or a fault
pub data Parsed : Type 0 where
  goal : Goal → ℕ → Parsed
  fault : Parsed

-- two goals joined by an operator
abbrev pub node : Op → Goal → Goal → Goal
node Together G H = G ⅋ H
node Both G H = G & H

-- go on with a goal that was read, at the place past it
abbrev pub past : Parsed → (Goal → ℕ → Parsed) → Parsed
past (goal G m) f = f G m
past fault f = fault

-- "A code 65 or 66 is followed by its left and its right goal, which may be compound themselves." `next` is the place
-- past the code, and `inner` reads the goal at a place.
abbrev pub read_on : Option Code → ℕ → (ℕ → Parsed) → Parsed
read_on (Some (Kind k)) next inner = goal (kind k) next
read_on (Some Done) next inner = goal ⊤ next
read_on (Some (Pair op)) next inner = past (inner next) (λ G m. past (inner m) (λ H e. goal (node op G H) e))
read_on None next inner = fault

-- the goal at a place of s, with operators nested less than f deep
unfoldable pub parse : ℕ → ℕ → List ℕ → ℕ → Parsed
parse zero n s at = fault
parse (suc f) n s at = read_on (code_at n s at) (at + 1) (parse f n s)

-- the goal at a place of s: no goal is nested deeper than it is long
unfoldable pub parse_at : ℕ → List ℕ → ℕ → Parsed
parse_at n s at = parse (length s) n s at
