-- The pairs and lines of a row, one count and one row at a time.
use mathlib.Core.Path.{◌≡◌, refl}
use mathlib.Core.Bool.{Bool, true, false}
use mathlib.Core.List.{List, [], ◌∷◌, ◌++◌}
use Prim.Native.Nat.{ℕ, zero, suc, ◌+◌, ◌*◌, ◌/◌, ◌≤◌, ◌<◌}
use native.Mathlib.Numerals.{add-one}
use native.Mathlib.Omega.{arith}
use lib.ListN.{length, get_or, take, drop, length-append, length-drop}
use lib.Seq.{drop-cons, take_at, drop_at, take-add, length-take-le, get_or-drop}
use Rattle.report.specs.Text.{two, pair, pairs, line, lines, closed_words, refused_words, closed_text, refused_text}
use Rattle.std.specs.Prelude.{codes}
use Rattle.table.specs.Answers.{number, returned}
use Rattle.table.specs.declared.Closing.{Closing}
use Rattle.table.specs.declared.Refusal.{Refusal}
use Rattle.report.proofs.Spelling.{decimal_few, decimal_20}

-- a count of 0 has no pair
pub pairs_none : (first : Bool) (k : ℕ) (row : List ℕ) → k < length row → get_or row k 0 ≡ 0 → pairs first k (drop k row) ≡ pairs first (k + 1) (drop (k + 1) row)
unfolding pairs
pairs_none first k row h e = rw (add-one, drop-cons row k 0 h, e)

-- any other count has one
pub pairs_some : (first : Bool) (k c : ℕ) (cs : List ℕ) → 0 < c → pairs first k (c ∷ cs) ≡ pair first k c ++ pairs false (suc k) cs
unfolding pairs
pairs_some first k zero cs h = absurd (omega arith)
pairs_some first k (suc c) cs h = refl

pub pairs_next : (first : Bool) (k : ℕ) (row : List ℕ) →
    k < length row → 0 < get_or row k 0 → pairs first k (drop k row) ≡ pair first k (get_or row k 0) ++ pairs false (k + 1) (drop (k + 1) row)
pairs_next first k row h g = rw (drop-cons row k 0 h, add-one) (pairs_some first k (get_or row k 0) (drop (suc k) row) g)

-- the next row's line, and the lines after it
pub lines_row : (row rest : List ℕ) → length row ≡ 32 → lines (length (row ++ rest) / 32) (row ++ rest) ≡ line row ++ lines (length rest / 32) rest
unfolding lines
lines_row row rest e =
    let more : length (row ++ rest) / 32 ≡ suc (length rest / 32) = omega (arith, length-append row rest) in
    rw (more, take_at row rest 32 e, drop_at row rest 32 e)

-- the lines of the first n rows are no other's
lines_take : (n : ℕ) (t : List ℕ) → n * 32 ≤ length t → lines n (take (n * 32) t) ≡ lines n t
unfolding lines
lines_take zero t h = refl
lines_take (suc n) t h =
    let split : suc n * 32 ≡ 32 + n * 32 = omega arith in
    let long : length (take 32 t) ≡ 32 = length-take-le 32 t (omega arith) in
    let first = take_at (take 32 t) (take (n * 32) (drop 32 t)) 32 long in
    let after = drop_at (take 32 t) (take (n * 32) (drop 32 t)) 32 long in
    rw (split, take-add 32 (n * 32) t, first, after, lines_take n (drop 32 t) (omega (arith, length-drop 32 t)))

pub lines_front : (n : ℕ) (t : List ℕ) → n * 32 ≤ length t → lines (length (take (n * 32) t) / 32) (take (n * 32) t) ≡ lines n t
lines_front n t h =
    let long : length (take (n * 32) t) ≡ n * 32 = length-take-le (n * 32) t h in
    let rows : length (take (n * 32) t) / 32 ≡ n = omega arith in
    rw (rows, lines_take n t h)

-- ---- how long the texts can be
-- no count passes 255
abbrev pub Small : List ℕ → Type 0
Small t = (i : ℕ) → get_or t i 0 < 256

pub pair_few : (first : Bool) (k c : ℕ) → k < 100 → c < 256 → length (pair first k c) ≤ 7
pair_few true k c h g = simp length-append (omega (arith, decimal_few 1 k (omega arith), decimal_few 2 c (omega arith)))
pair_few false k c h g = simp length-append (omega (arith, decimal_few 1 k (omega arith), decimal_few 2 c (omega arith)))

pub pairs_few : (n : ℕ) (first : Bool) (k : ℕ) (t : List ℕ) → k + n ≤ 100 → Small t → length (pairs first k (take n t)) ≤ n * 7
unfolding pairs
pairs_few zero first k t h s = omega arith
pairs_few (suc n) first k [] h s = omega arith
pairs_few (suc n) first k (zero ∷ t) h s = omega (arith, pairs_few n first (suc k) t (omega arith) (λ i. s (suc i)))
pairs_few (suc n) first k (suc c ∷ t) h s =
    omega (arith, length-append (pair first k (suc c)) (pairs false (suc k) (take n t)), pair_few first k (suc c) (omega arith) (s 0), pairs_few n false (suc k) t (omega arith) (λ i. s (suc i)))

-- a line of 32 counts has at most 225 bytes
pub lines_few : (n : ℕ) (t : List ℕ) → Small t → length (lines n t) ≤ n * 225
unfolding lines
lines_few zero t s = omega arith
lines_few (suc n) t s =
    let r : length (lines n (drop 32 t)) ≤ n * 225 = lines_few n (drop 32 t) (λ i. rw (get_or-drop 32 t i 0) (s (32 + i))) in
    let p : length (pairs true 0 (take 32 t)) ≤ 224 = pairs_few 32 true 0 t (omega arith) s in
    simp length-append (omega arith)

pub two_few : (word : List ℕ) (a b : ℕ) → length (two word a b) ≤ length word + 41
two_few word a b = simp length-append (omega (arith, decimal_20 a, decimal_20 b))

-- a listing has at most 65,536 bytes
pub closed_few : (c : Closing) (t : List ℕ) → c.rows ≤ 256 → Small t → length (closed_text c t) ≤ 65536
closed_few c t h s = omega (arith, length-append (closed_words c) (10 ∷ lines c.rows t), two_few (codes "closed ") c.rows c.rounds, lines_few c.rows t s)

pub refused_few : (why : Refusal) → length (refused_text why) ≤ 65536
refused_few why = omega (arith, length-append (refused_words why) (10 ∷ []), two_few (codes "refused ") (number why) (returned why))
