-- Rule records and orders read from bytes (01, "Rule records" and refusals 4, 5, 6, 10).
use Rattle.std.specs.Prelude.{ℕ, zero, suc, ◌/◌, Bool, true, ◌&&◌, cond, List, [], ◌∷◌, ltb, leb, eqb, length, take, drop}
use Rattle.tokens.specs.Rows.{rows}
use Rattle.logic.specs.Goals.{Goal, Clause}
use Rattle.goals.specs.Codes.{is_kind}
use Rattle.goals.specs.Parsing.{Parsed, goal, fault, parse_at}
use Rattle.goals.specs.Limits.{within, runs_within}

-- what bytes are read as, or 01's number of the refusal that they get
pub data Reading (A : Type 0) : Type 0 where
  read : A → Reading A
  refused : ℕ → Reading A

-- the first refusal decides
infixl 55 ◌>>=◌
abbrev pub ◌>>=◌ : {A B : Type 0} → Reading A → (A → Reading B) → Reading B
read a >>= f = f a
refused k >>= f = refused k

-- "then 255 to the end"
unfoldable pub padded : List ℕ → Bool
padded [] = true
padded (b ∷ s) = eqb b 255 && padded s

-- "never descending"
unfoldable pub climbs : List ℕ → Bool
climbs [] = true
climbs (a ∷ []) = true
climbs (a ∷ b ∷ s) = leb a b && climbs (b ∷ s)

-- how many kinds stand in front, before the first byte that is none
unfoldable pub front : ℕ → List ℕ → ℕ
front n [] = 0
front n (b ∷ s) = let more = suc (front n s) in cond (is_kind n b) more 0

-- "Bytes 0 to 15, the head: 1 to 16 kinds, never descending, then 255 to the end."
unfoldable pub head : ℕ → List ℕ → Reading (List ℕ)
head n s = let k = front n s in cond (ltb 0 k && (climbs (take k s) && padded (drop k s))) (read (take k s)) (refused 4)

-- "then 255 to the end", after a goal
abbrev pub ends : List ℕ → Parsed → Reading Goal
ends s (goal G m) = cond (padded (drop m s)) (read G) (refused 5)
ends s fault = refused 5

-- "Bytes 16 to 63, the body: one goal written operator first, then 255 to the end."
unfoldable pub body : ℕ → List ℕ → Reading Goal
body n s = ends s (parse_at n s 0)

-- "A rule is a record of 64 bytes": refused by 4 for its head, by 5 for its body, and only then by 6
unfoldable pub rule : ℕ → List ℕ → Reading Clause
rule n s =
    head n (take 16 s) >>= λ h.
    body n (drop 16 s) >>= λ G.
    cond (within 16 G) (read (record { head = h; body = G })) (refused 6)

-- a rule set's clauses; or the first refusal, and the number of the record that gets it
pub data Program : Type 0 where
  clauses : List Clause → Program
  refused_at : ℕ → ℕ → Program

-- a clause before those of the records after it
abbrev pub also : Clause → Program → Program
also C (clauses P) = clauses (C ∷ P)
also C (refused_at k i) = refused_at k i

-- what record i is read as, and then the rest
abbrev pub and_then : Reading Clause → ℕ → Program → Program
and_then (read C) i rest = also C rest
and_then (refused k) i rest = refused_at k i

-- "record by record 4, 5, 6", the first of these records being number i
unfoldable pub records : ℕ → ℕ → List (List ℕ) → Program
records n i [] = clauses []
records n i (r ∷ rs) = and_then (rule n r) i (records n (suc i) rs)

-- "0 to 64 rules make a set": records of 64 bytes end to end (a rest of fewer bytes is refusal 3, before any record is read)
unfoldable pub program : ℕ → List ℕ → Program
program n s = records n 0 (rows 64 (length s / 64) s)

-- a goal, and then the goals from the place past it on
abbrev pub first : Parsed → (ℕ → Reading (List Goal)) → Reading (List Goal)
first (goal G m) rest = rest m >>= λ Δ. read (G ∷ Δ)
first fault rest = refused 10

-- "zero or more whole goals end to end, without padding": those from a place of s on, fewer than f
unfoldable pub goals : ℕ → ℕ → List ℕ → ℕ → Reading (List Goal)
goals zero n s at = refused 10
goals (suc f) n s at = let more = first (parse_at n s at) (goals f n s) in cond (leb (length s) at) (read []) more

-- "An order is 0 to 64 bytes": refused by 10, and then by 6. The run of no goals has one branch
unfoldable pub order : ℕ → List ℕ → Reading (List Goal)
order n s =
    cond (leb (length s) 64) (goals (suc (length s)) n s 0) (refused 10) >>= λ Δ.
    cond (runs_within 16 1 Δ) (read Δ) (refused 6)
