-- What the listing program prints, in ASCII codes. Lines end in a line feed, 10; words stand apart by a space, 32.
use Rattle.std.specs.Prelude.{ℕ, zero, suc, ◌+◌, ◌/◌, ◌%◌, Bool, true, false, cond, List, [], ◌∷◌, ◌++◌, Result, Ok, Err, codes, ltb, take, drop}
use Rattle.table.specs.Answers.{number, returned}
use Rattle.table.specs.declared.Refusal.{Refusal}
use Rattle.table.specs.declared.Closing.{Closing}

-- a number below 10 is its digit, any other the digits of its tenth part and then its last; k digits at most
unfoldable pub spelled : ℕ → ℕ → List ℕ
spelled zero n = []
spelled (suc k) n =
    let rest = spelled k (n / 10) in
    cond (ltb n 10) ((48 + n) ∷ []) (rest ++ ((48 + n % 10) ∷ []))

-- a number in decimal; 20 digits hold every number of 64 bits
unfoldable pub decimal : ℕ → List ℕ
decimal n = spelled 20 n

-- a word and two numbers with a mark between them
abbrev pub numbers : List ℕ → ℕ → ℕ → ℕ → List ℕ
numbers word a mark b = word ++ (decimal a ++ (mark ∷ decimal b))

-- a word, which has its space, and two numbers
abbrev pub two : List ℕ → ℕ → ℕ → List ℕ
two word a b = numbers word a 32 b

-- the space in front of every word but a line's first
abbrev pub gap : Bool → List ℕ
gap true = []
gap false = 32 ∷ []

-- "kind:count"
abbrev pub pair : Bool → ℕ → ℕ → List ℕ
pair first kind count = numbers (gap first) kind 58 count

-- "with kind:count for each count above 0, in kind order": the counts of the kinds from k on
unfoldable pub pairs : Bool → ℕ → List ℕ → List ℕ
pairs first k [] = []
pairs first k (zero ∷ cs) = pairs first (suc k) cs
pairs first k (suc c ∷ cs) = pair first k (suc c) ++ pairs false (suc k) cs

-- the line of a row
abbrev pub line : List ℕ → List ℕ
line row = pairs true 0 row ++ (10 ∷ [])

-- "then one line a row, ascending": the first n rows of 32 bytes
unfoldable pub lines : ℕ → List ℕ → List ℕ
lines zero t = []
lines (suc n) t = line (take 32 t) ++ lines n (drop 32 t)

-- "closed", rows, growing rounds
abbrev pub closed_words : Closing → List ℕ
closed_words closing = two (codes "closed ") closing.rows closing.rounds

-- "refused", the number and the returned number
abbrev pub refused_words : Refusal → List ℕ
refused_words why = two (codes "refused ") (number why) (returned why)

-- "Its first line is "closed", rows, growing rounds; then one line a row"
abbrev pub closed_text : Closing → List ℕ → List ℕ
closed_text closing t = closed_words closing ++ (10 ∷ lines closing.rows t)

-- "A refusal prints one line, "refused", the number and the returned number"
abbrev pub refused_text : Refusal → List ℕ
refused_text why = refused_words why ++ (10 ∷ [])

-- what the program prints for an answer and the bytes of the table area
abbrev pub listed : Result Closing Refusal → List ℕ → List ℕ
listed (Ok closing) t = closed_text closing t
listed (Err why) t = refused_text why

-- the rows that an answer speaks of
abbrev pub rows_in : Result Closing Refusal → ℕ
rows_in (Ok closing) = closing.rows
rows_in (Err why) = 0
