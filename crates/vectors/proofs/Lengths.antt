-- What an answer's words and checksums take at most: with them no line has more than 256 bytes.
use mathlib.Core.List.{List}
use mathlib.Core.Bool.{Bool, true, false}
use Prim.Native.Nat.{ℕ, ◌≤◌}
use native.Mathlib.Omega.{arith}
use lib.ListN.{length, length-append}
use Rattle.std.specs.Prelude.{Ok, Err, codes}
use Rattle.table.specs.Answers.{number, returned}
use Rattle.table.specs.declared.Refusal.{Refusal}
use Rattle.report.specs.Text.{refused_words}
use Rattle.report.proofs.Spelling.{decimal_20}
use Rattle.report.proofs.Counting.{two_few}
use Rattle.vectors.specs.Frame.{adler32}
use Rattle.vectors.specs.Lines.{grew_text, answer_words, sums_of}
use Rattle.vectors.specs.declared.lines.Answered.{Answered}
use Rattle.vectors.specs.declared.lines.Answered.TheVariants.{Closed, Rounded, Asked}

refused_few : (why : Refusal) → length (refused_words why) ≤ 100
refused_few why = omega (arith, two_few (codes "refused ") (number why) (returned why))

grew_few : (grew : Bool) → length (grew_text grew) ≤ 6
grew_few true = omega arith
grew_few false = omega arith

pub answer_few : (a : Answered) → length (answer_words a) ≤ 100
answer_few (Closed (Ok c)) = omega (arith, two_few (codes "closed ") c.rows c.rounds)
answer_few (Closed (Err why)) = refused_few why
answer_few (Rounded (Ok g)) = simp length-append (omega (arith, decimal_20 g.rows, grew_few g.grew))
answer_few (Rounded (Err why)) = refused_few why
answer_few (Asked (Ok true)) = omega arith
answer_few (Asked (Ok false)) = omega arith
answer_few (Asked (Err why)) = refused_few why

pub sums_few : (a : Answered) (table work : List ℕ) → length (sums_of a table work) ≤ 42
sums_few (Closed r) table work = two_few (codes " ") (adler32 table) (adler32 work)
sums_few (Rounded r) table work = two_few (codes " ") (adler32 table) (adler32 work)
sums_few (Asked r) table work = omega arith
