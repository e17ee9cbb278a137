-- What the inner functions answer, so that each contract is one equation. No contract of a public call cites this file: it need not be believed.
use Rattle.std.specs.Prelude.{ℕ, ◌+◌, ◌*◌, Bool, cond, Option, Some, None, option_map, option_and_then, Result, List, ◌++◌, leb, length}
use Rattle.tokens.specs.Sets.{plus, cut}
use Rattle.logic.specs.Branches.{sums, opened}
use Rattle.goals.specs.declared.Op.{Op}
use Rattle.goals.specs.declared.Op.TheVariants.{Together, Both}
use Rattle.goals.specs.declared.Code.{Code}
use Rattle.goals.specs.declared.Cursor.{Cursor}
use Rattle.goals.specs.declared.Opened.{Opened}
use Rattle.goals.specs.declared.branches.Branches.{Branches}
use Rattle.goals.specs.declared.RuleFault.{RuleFault}
use Rattle.goals.specs.Codes.{code_at}
use Rattle.goals.specs.Parsing.{Parsed, goal, fault}
use Rattle.goals.specs.Limits.{within}
use Rattle.goals.specs.Readings.{Reading, read, refused, ◌>>=◌, head, body}
use Rattle.goals.specs.Sets.{one, set_of}
use Rattle.goals.specs.Answers.{rows_of, rule_fault_number, reading_of}

-- the code at a place, and the cursor past it
unfoldable pub step_at : ℕ → List ℕ → ℕ → Option (Code × Cursor)
step_at n s at = option_map (λ c. (c, record { at = at + 1 })) (code_at n s at)

-- the sum that the code takes. No count of a branch passes 64, so nothing is cut (`branch_capped`, `order_capped` of proofs/RowLaws)
abbrev pub capped : List ℕ → List ℕ → List ℕ
capped a b = cut 255 (plus a b)

-- the rows of a list, if there is one
abbrev pub list_of : Option Branches → Option (List (List ℕ))
list_of o = option_map rows_of o

-- what is known of a goal, if there is one: its branches, if they are allowed, and the place past it
abbrev pub View : Type 0
View = Option (Option (List (List ℕ)) × ℕ)

-- what an answer of the reader says
abbrev pub view_of : Option Opened → View
view_of o = option_map (λ g. (list_of g.list, g.next.at)) o

-- a list if it is allowed
abbrev pub allowed : Bool → List (List ℕ) → Option (List (List ℕ))
allowed t l = cond t (Some l) None

-- what is to be said of a goal: over 16 in a part sticks
abbrev pub view : Parsed → View
view (goal G m) = Some (allowed (within 16 G) (opened one capped G), m)
view fault = None

-- two lists joined by an operator
abbrev pub joined : Op → List (List ℕ) → List (List ℕ) → Option (List (List ℕ))
joined Together l r = allowed (leb (length l * length r) 16) (sums capped l r)
joined Both l r = allowed (leb (length l + length r) 16) (l ++ r)

-- two lists that may be missing, joined: none where either is
abbrev pub combined : Op → Option (List (List ℕ)) → Option (List (List ℕ)) → Option (List (List ℕ))
combined op l r = option_and_then (λ a. option_and_then (λ b. joined op a b) r) l

-- what an answer for a body says
abbrev pub body_of : Result Branches RuleFault → Reading (List (List ℕ))
body_of r = reading_of rows_of rule_fault_number r

-- a body, opened, or its refusal
unfoldable pub opened_body : ℕ → List ℕ → Reading (List (List ℕ))
opened_body n s = body n s >>= λ G. cond (within 16 G) (read (opened one capped G)) (refused 6)

-- what an answer for a head says
abbrev pub head_of : Result (List ℕ) RuleFault → Reading (List ℕ)
head_of r = reading_of (λ s. s) rule_fault_number r

-- a head as a set, or its refusal
unfoldable pub opened_head : ℕ → List ℕ → Reading (List ℕ)
opened_head n s = head n s >>= λ h. read (set_of h)
