-- The lines that cases are answered with, in ASCII codes.
use Rattle.std.specs.Prelude.{ℕ, Bool, true, false, List, [], ◌∷◌, ◌++◌, Ok, Err, codes}
use Rattle.steps.specs.declared.Growth.{Growth as Grown}
use Rattle.report.specs.Text.{decimal, two, closed_words, refused_words}
use Rattle.vectors.specs.Frame.{adler32}
use Rattle.vectors.specs.declared.lines.Answered.{Answered}
use Rattle.vectors.specs.declared.lines.Answered.TheVariants.{Closed, Rounded, Asked}

-- "grew" or "still"
abbrev pub grew_text : Bool → List ℕ
grew_text true = codes " grew"
grew_text false = codes " still"

-- "round ROWS grew" or "round ROWS still"
abbrev pub growth_words : Grown → List ℕ
growth_words growth = codes "round " ++ (decimal growth.rows ++ grew_text growth.grew)

-- "yes" or "no"
abbrev pub covered_text : Bool → List ℕ
covered_text true = codes "yes"
covered_text false = codes "no"

-- "closed ROWS ROUNDS", "round ROWS grew" or the like, "yes" or "no"; each may be "refused NUMBER RETURNED" too
abbrev pub answer_words : Answered → List ℕ
answer_words (Closed (Ok closing)) = closed_words closing
answer_words (Closed (Err why)) = refused_words why
answer_words (Rounded (Ok growth)) = growth_words growth
answer_words (Rounded (Err why)) = refused_words why
answer_words (Asked (Ok covered)) = covered_text covered
answer_words (Asked (Err why)) = refused_words why

-- " T W", the checksums of both areas; an asking has none
abbrev pub sums_of : Answered → List ℕ → List ℕ → List ℕ
sums_of (Closed r) table work = two (codes " ") (adler32 table) (adler32 work)
sums_of (Rounded r) table work = two (codes " ") (adler32 table) (adler32 work)
sums_of (Asked r) table work = []

-- the line of an answer
abbrev pub line_of : Answered → List ℕ → List ℕ → List ℕ
line_of a table work = answer_words a ++ (sums_of a table work ++ (10 ∷ []))
