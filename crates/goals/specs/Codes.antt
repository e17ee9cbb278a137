-- The codes of a goal (01, "Rule records").
use Rattle.std.specs.Prelude.{ℕ, Bool, ◌&&◌, cond, Option, Some, None, List, ltb, leb, eqb, length, get_or}
use Rattle.goals.specs.declared.Op.TheVariants.{Together, Both}
use Rattle.goals.specs.declared.Code.{Code}
use Rattle.goals.specs.declared.Code.TheVariants.{Kind, Done, Pair}

-- "0 to 31 a kind (below n)"
unfoldable pub is_kind : ℕ → ℕ → Bool
is_kind n b = ltb b 32 && ltb b n

-- "Codes: 0 to 31 a kind (below n), 64 ⊤, 65 ⅋, 66 &." Every other byte is none.
unfoldable pub code : ℕ → ℕ → Option Code
code n b = cond (is_kind n b) (Some (Kind b)) (cond (eqb b 64) (Some Done) (cond (eqb b 65) (Some (Pair Together)) (cond (eqb b 66) (Some (Pair Both)) None)))

-- the code at a place of the bytes s; past their end there is none
unfoldable pub code_at : ℕ → List ℕ → ℕ → Option Code
code_at n s at = cond (leb (length s) at) None (code n (get_or s at 0))
