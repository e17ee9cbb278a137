-- 01's listing of the rule set P, and a refusal, by computation.
use mathlib.Core.Path.{◌≡◌, refl}
use mathlib.Core.List.{List, [], ◌∷◌, ◌++◌}
use Prim.Native.Nat.{ℕ}
use lib.ListN.{replicate}
use Rattle.std.specs.Prelude.{Ok, Err, codes}
use Rattle.table.specs.Answers.{number, returned}
use Rattle.table.specs.declared.Refusal.TheVariants.{Capacity}
use Rattle.report.specs.Text.{spelled, decimal, pairs, lines, listed}

-- a row of counts and zeros after them
row : List ℕ → ℕ → List ℕ
row counts zeros = counts ++ replicate zeros 0

table_of_p : List ℕ
table_of_p = row (0 ∷ 0 ∷ 1 ∷ 0 ∷ 0 ∷ 1 ∷ []) 26 ++ (row (0 ∷ 0 ∷ 1 ∷ 0 ∷ 1 ∷ []) 27 ++ (row (0 ∷ 0 ∷ 1 ∷ 1 ∷ []) 28 ++ (row (0 ∷ 1 ∷ 1 ∷ []) 29 ++ row (1 ∷ []) 31)))

listing_of_p : listed (Ok (record { rows = 5; rounds = 3 })) table_of_p ≡ codes "closed 5 3\n2:1 5:1\n2:1 4:1\n2:1 3:1\n1:1 2:1\n0:1\n"
unfolding lines pairs decimal spelled table_of_p row
listing_of_p = refl

listing_of_refusal : listed (Err (Capacity 1)) [] ≡ codes "refused 8 1\n"
unfolding number returned decimal spelled
listing_of_refusal = refl

-- the largest number of 64 bits
largest : decimal 18446744073709551615 ≡ codes "18446744073709551615"
unfolding decimal spelled
largest = refl
