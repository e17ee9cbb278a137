-- Branch lists: how many rows, one row more, and the room that the loops over them need.
use mathlib.Core.Path.{◌≡◌, sym, ap, ap₂, ◌∙◌}
use mathlib.Core.List.{List, [], ◌∷◌, ◌++◌, map, append-nil}
use Prim.Native.Nat.{ℕ, ◌+◌, ◌*◌, ◌≤◌, ◌<◌}
use native.Mathlib.Nat.{suc-mul, mul-le-mul_right, le_trans}
use native.Mathlib.Numerals.{add-one}
use native.Mathlib.Omega.{arith}
use lib.ListN.{length, take, get_or, length-append}
use lib.Seq.{take-suc, length-take-le}
use Rattle.tokens.specs.Rows.{rows, overwrite}
use Rattle.tokens.proofs.RowLaws.{length_rows, rows_overwrite}
use Rattle.logic.specs.Branches.{sums}
use Rattle.logic.proofs.BranchLaws.{sums_append, length_sums}
use Rattle.goals.specs.declared.branches.Branches.{Branches}
use Rattle.goals.specs.Answers.{rows_of}

-- the count of a list whose rows are known
pub counts : (b : Branches) (l : List (List ℕ)) → rows_of b ≡ l → b.count ≡ length l
counts b l e = sym (length_rows 32 b.count b.sets) ∙ ap length e

-- a row stored past the list's end
pub pushed : (n : ℕ) (s r d : List ℕ) → length s ≡ 512 → length r ≡ 32 → n < 16 → d ≡ overwrite 32 n r s → rows 32 (n + 1) d ≡ rows 32 n s ++ (r ∷ [])
pushed n s r d hs hr h e =
    ap₂ (λ (k : ℕ) (b : List ℕ). rows 32 k b) (add-one n) e ∙ rows_overwrite 32 n r s hr (omega arith)

-- a list that i of the rows l were appended to, l being those of another list, has room for one more
pub room : (o b r : Branches) (l : List (List ℕ)) (m : List (List ℕ)) (i : ℕ) → rows_of o ≡ rows_of b ++ m → length m ≡ i → l ≡ rows_of r → i < length l
    → b.count + r.count ≤ 16 → o.count < 16
room o b r l m i e d f h k =
    omega (arith, counts o (rows_of b ++ m) e, length-append (rows_of b) m, length_rows 32 b.count b.sets, ap length f, length_rows 32 r.count r.sets)

-- the sums of i of the rows l with all of r's leave room for one left branch more
pub room_for_sums : (plus : List ℕ → List ℕ → List ℕ) (o b r : Branches) (l : List (List ℕ)) (i : ℕ) → rows_of o ≡ sums plus (take i l) (rows_of r) → l ≡ rows_of b
    → i < length l → b.count * r.count ≤ 16 → o.count + r.count ≤ 16
room_for_sums plus o b r l i e f h k =
    let many : o.count ≡ i * r.count = counts o (sums plus (take i l) (rows_of r)) e ∙ length_sums plus (take i l) (rows_of r) ∙ ap₂ (λ (x y : ℕ). x * y) (length-take-le i l (omega arith)) (length_rows 32 r.count r.sets) in
    let all : length l ≡ b.count = ap length f ∙ length_rows 32 b.count b.sets in
    rw (many, ← suc-mul) (le_trans (mul-le-mul_right r.count (omega arith)) k)

-- the sums of one left branch more
pub sums_more : (plus : List ℕ → List ℕ → List ℕ) (l r : List (List ℕ)) (i : ℕ) → i < length l
    → sums plus (take (i + 1) l) r ≡ sums plus (take i l) r ++ map (plus (get_or l i [])) r
unfolding sums
sums_more plus l r i h =
    ap (λ (q : List (List ℕ)). sums plus q r) (ap (λ (j : ℕ). take j l) (add-one i) ∙ take-suc l i [] h)
    ∙ sums_append plus (take i l) (get_or l i [] ∷ []) r
    ∙ ap (λ (q : List (List ℕ)). sums plus (take i l) r ++ q) (append-nil (map (plus (get_or l i [])) r))
