-- What the answers of the goal reader say, and that joining lists is joining goals.
use mathlib.Core.Path.{◌≡◌, refl, sym, ap, subst, ◌∙◌}
use mathlib.Core.List.{List, [], ◌∷◌, ◌++◌}
use mathlib.Core.Bool.{Bool, true, false, ◌&&◌, cond}
use Prim.Native.Nat.{ℕ, ◌+◌, ◌*◌, ◌≤◌, ◌<◌}
use native.Mathlib.Omega.{arith}
use lib.Dec.{ltb, leb}
use lib.ListN.{length}
use borrow.Author.Tests.{ltb-true}
use Rattle.std.specs.Borrow.{Bor}
use Rattle.std.specs.Prelude.{Option, Some, None, option_map}
use Rattle.std.specs.Option.{ok_or, is_some, IfSome, option_copied}
use Rattle.std.proofs.lemmas.Option.{some_pair_parts}
use Rattle.tokens.proofs.Tests.{and_l}
use Rattle.tokens.proofs.RowLaws.{length_rows}
use Rattle.logic.specs.Goals.{Goal}
use Rattle.logic.specs.Branches.{sums, opened, ways}
use Rattle.logic.proofs.BranchLaws.{length_opened}
use Rattle.goals.specs.declared.branches.Branches.{Branches}
use Rattle.goals.specs.declared.Op.{Op}
use Rattle.goals.specs.declared.Op.TheVariants.{Together, Both}
use Rattle.goals.specs.declared.Code.{Code}
use Rattle.goals.specs.declared.Code.TheVariants.{Kind, Done, Pair}
use Rattle.goals.specs.declared.Cursor.{Cursor}
use Rattle.goals.specs.Codes.{is_kind, code_at}
use Rattle.goals.specs.Parsing.{Parsed, goal, fault, node, past, read_on, parse_at}
use Rattle.goals.specs.Limits.{within}
use Rattle.goals.specs.Readings.{Reading, read, refused}
use Rattle.goals.specs.Sets.{one}
use Rattle.goals.specs.declared.RuleFault.TheVariants.{Over}
use Rattle.goals.specs.declared.OrderFault.TheVariants.{Over as OrderOver}
use Rattle.goals.specs.Answers.{rows_of, order_of}
use Rattle.goals.specs.Views.{step_at, capped, list_of, allowed, View, view, joined, combined, body_of}
use Rattle.goals.proofs.ParseLaws.{Says, says, here_lt, Stands, stands_at, parse_at_on, print_pos}

-- what was lent of an option, if it is there
pub lent_some : {T : Type 0} {o : Option T} {r : Option (Bor T)} {x : Bor T} → option_copied r ≡ o → r ≡ Some x → o ≡ Some x.now
lent_some v w = sym v ∙ ap option_copied w

-- ---- two lists joined

-- an answer that is there under a test
if_allowed : (t : Bool) (l : List (List ℕ)) (o : Option Branches) → is_some o ≡ t → IfSome o (λ x. rows_of x ≡ l) → list_of o ≡ allowed t l
if_allowed t l (Some x) e h = rw (← e) (ap Some h)
if_allowed t l None e h = rw (← e)

module _ (op : Op) (left right o : Option Branches) (l r : Branches) (p : left ≡ Some l) (q : right ≡ Some r) where
  pub together_joined : op ≡ Together → is_some o ≡ leb (l.count * r.count) 16 → IfSome o (λ x. rows_of x ≡ sums capped (rows_of l) (rows_of r))
      → list_of o ≡ combined op (list_of left) (list_of right)
  together_joined d e h = if_allowed _ _ o e h ∙ sym (rw (p, q, d, length_rows 32 l.count l.sets, length_rows 32 r.count r.sets))

  pub both_joined : op ≡ Both → is_some o ≡ leb (l.count + r.count) 16 → IfSome o (λ x. rows_of x ≡ rows_of l ++ rows_of r)
      → list_of o ≡ combined op (list_of left) (list_of right)
  both_joined d e h = if_allowed _ _ o e h ∙ sym (rw (p, q, d, length_rows 32 l.count l.sets, length_rows 32 r.count r.sets))

-- a list is joined if both sides are allowed and what comes of them is
under : (op : Op) (a b t : Bool) (l r x : List (List ℕ)) → joined op l r ≡ allowed t x → combined op (allowed a l) (allowed b r) ≡ allowed (a && (b && t)) x
under op true true t l r x e = e
under op true false t l r x e = refl
under op false b t l r x e = refl

-- a run with the branches l, and then a goal
pub run_joined : (ok : Bool) (l : List (List ℕ)) (G : Goal)
    → combined Together (allowed ok l) (allowed (within 16 G) (opened one capped G)) ≡ allowed (ok && (within 16 G && leb (length l * ways G) 16)) (sums capped l (opened one capped G))
run_joined ok l G = under Together ok (within 16 G) (leb (length l * ways G) 16) l (opened one capped G) (sums capped l (opened one capped G)) (rw (length_opened one capped G))

-- joining lists is joining goals
goals_joined : (op : Op) (G H : Goal)
    → combined op (allowed (within 16 G) (opened one capped G)) (allowed (within 16 H) (opened one capped H)) ≡ allowed (within 16 (node op G H)) (opened one capped (node op G H))
unfolding within opened ways
goals_joined Together G H = rw (sym (length_opened one capped G)) (run_joined (within 16 G) (opened one capped G) H)
goals_joined Both G H =
    under Both (within 16 G) (within 16 H) (leb (ways G + ways H) 16) (opened one capped G) (opened one capped H) (opened one capped G ++ opened one capped H) (rw (length_opened one capped G, length_opened one capped H))

-- ---- the goal at a place, by the reader's steps

-- what the right goal makes of the left one's branches
abbrev right_view : Op → Option (List (List ℕ)) → View → View
right_view op l None = None
right_view op l (Some (r, e)) = Some (combined op l r, e)

-- what an operator makes of its left goal, and of the goal at the place past it
abbrev pair_view : Op → View → (ℕ → View) → View
pair_view op None right = None
pair_view op (Some (l, m)) right = right_view op l (right m)

-- what a code makes of the goals that follow it
abbrev pub code_view : Option (Code × Cursor) → (ℕ → View) → View
code_view None inner = None
code_view (Some (Kind k, next)) inner = Some (Some (one k ∷ []), next.at)
code_view (Some (Done, next)) inner = Some (Some [], next.at)
code_view (Some (Pair op, next)) inner = pair_view op (inner next.at) inner

-- a code, and the cursor past its place
abbrev and_past : ℕ → Code → Code × Cursor
and_past at c = (c, record { at = at + 1 })

pair_on : (op : Op) (x : Parsed) (p : ℕ → Parsed) → view (past x (λ G m. past (p m) (λ H e. goal (node op G H) e))) ≡ pair_view op (view x) (λ i. view (p i))
pair_on op fault p = refl
pair_on op (goal G m) p = right (p m)
  where
    right : (y : Parsed) → view (past y (λ H e. goal (node op G H) e)) ≡ right_view op (allowed (within 16 G) (opened one capped G)) (view y)
    right fault = refl
    right (goal H e) = ap (λ l. Some (l, e)) (sym (goals_joined op G H))

pub view_on : (n : ℕ) (s : List ℕ) (at : ℕ) → view (parse_at n s at) ≡ code_view (step_at n s at) (λ i. view (parse_at n s i))
unfolding step_at within opened ways
view_on n s at = ap view (parse_at_on n s at) ∙ by (code_at n s at)
  where
    by : (c : Option Code) → view (read_on c (at + 1) (parse_at n s)) ≡ code_view (option_map (and_past at) c) (λ i. view (parse_at n s i))
    by None = refl
    by (Some (Kind k)) = refl
    by (Some Done) = refl
    by (Some (Pair op)) = pair_on op (parse_at n s (at + 1)) (parse_at n s)

-- what a step that is taken says of the code there and of the next place
step_said : (n : ℕ) (s : List ℕ) (at : ℕ) (c : Code) (next : Cursor) → Some (c, next) ≡ step_at n s at → Says n s at (Some c) × (next.at ≡ at + 1)
unfolding step_at
step_said n s at c next e = by (code_at n s at) (says n s at) e
  where
    by : (x : Option Code) → Says n s at x → Some (c, next) ≡ option_map (and_past at) x → Says n s at (Some c) × (next.at ≡ at + 1)
    by None h q = cc
    by (Some d) h q =
        let p = some_pair_parts c d next (record { at = at + 1 }) q in
        (subst (λ x. Says n s at (Some x)) (sym p.0) h, ap (λ x. x.at) p.1)

-- a kind is below 32
pub kind_low : (n : ℕ) (s : List ℕ) (at k : ℕ) (next : Cursor) → Some (Kind k, next) ≡ step_at n s at → k < 32
unfolding is_kind
kind_low n s at k next e = ltb-true k 32 (and_l (ltb k 32) (ltb k n) (step_said n s at (Kind k) next e).0.1)

-- past an operator the place has moved on by one, and was before the end
pub pair_past : (n : ℕ) (s : List ℕ) (at : ℕ) (op : Op) (next : Cursor) → Some (Pair op, next) ≡ step_at n s at → (next.at ≡ at + 1) × (at < length s)
pair_past n s at op next e = let p = step_said n s at (Pair op) next e in (p.1, here_lt s at _ _ p.0)

-- past a goal the place has moved on, and not past the end
pub view_past : (n : ℕ) (s : List ℕ) (at : ℕ) (l : Option (List (List ℕ))) (m : ℕ) → Some (l, m) ≡ view (parse_at n s at) → (at < m) × (m ≤ length s)
view_past n s at l m e = by (parse_at n s at) (stands_at n s at) e
  where
    by : (x : Parsed) → Stands n s at x → Some (l, m) ≡ view x → (at < m) × (m ≤ length s)
    by (goal G k) h q =
        let d : m ≡ k = (some_pair_parts l (allowed (within 16 G) (opened one capped G)) m k q).1 in
        (omega (arith, h.1.1.0, print_pos G), omega (arith, h.1.1.1))
    by fault h q = cc

-- ---- the answer that a list is turned into

abbrev pub listed : Option (List (List ℕ)) → Reading (List (List ℕ))
listed (Some l) = read l
listed None = refused 6

pub listed_allowed : (t : Bool) (l : List (List ℕ)) → listed (allowed t l) ≡ cond t (read l) (refused 6)
listed_allowed true l = refl
listed_allowed false l = refl

pub body_listed : (o : Option Branches) → body_of (ok_or o Over) ≡ listed (list_of o)
body_listed (Some b) = refl
body_listed None = refl

pub order_listed : (o : Option Branches) → order_of (ok_or o OrderOver) ≡ listed (list_of o)
order_listed (Some b) = refl
order_listed None = refl

-- a reading that is there is not a bad one
pub not_bad_tag : {A : Type 0} (o : Option A) → is_some o ≡ true → (o ≡ None → ⊥)
not_bad_tag o s e = let z : ◌≡◌ {A = Bool} true false = sym s ∙ ap is_some e in cc
