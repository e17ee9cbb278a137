-- The bytes that closing leaves at the front of the table area, read back as saved rows.
use Prim.Native.Nat.{ℕ, ◌*◌, ◌/◌, ◌%◌, ◌≤◌}
use native.Mathlib.Nat.{mul-div_cancel, div-mul-le_self}
use native.Mathlib.Omega.{arith}
use mathlib.Core.Bool.{true}
use mathlib.Core.Path.{◌≡◌, ap, ◌∙◌}
use mathlib.Core.List.{List}
use lib.Dec.{leb, eqb}
use lib.ListN.{length, take, drop, length-append}
use lib.Seq.{length-take-le}
use borrow.Author.Tests.{le-leb, eq-eqb}
use Rattle.tokens.specs.Tables.{Wide}
use Rattle.tokens.specs.Rows.{rows, area}
use Rattle.tokens.proofs.Tests.{both}
use Rattle.tokens.proofs.RowLaws.{wide_rows, length_area, rows_area, rows_append, rows_take}
use Rattle.table.specs.Calls.{table_needs, rows_fit, saved, laid}

-- saved rows have 32 counts
pub saved_wide : (bytes : List ℕ) → Wide 32 (saved bytes)
unfolding saved
saved_wide bytes = wide_rows 32 (length bytes / 32) bytes (div-mul-le_self (length bytes) 32)

module _ (capacity : ℕ) (t : List (List ℕ)) (was : List ℕ) (w : Wide 32 t) (f : length t ≤ capacity) where
  -- the rows of the table that stand at the front of its area
  abbrev left : List ℕ
  left = take (length t * 32) (laid (table_needs capacity) t was)

  long_area : length (area 32 (table_needs capacity) t) ≡ capacity * 32
  unfolding table_needs
  long_area = length_area 32 (table_needs capacity) t w (omega arith)

  long_laid : length t * 32 ≤ length (laid (table_needs capacity) t was)
  unfolding laid
  long_laid = omega (arith, f, length-append (area 32 (table_needs capacity) t) (drop (table_needs capacity) was), long_area)

  length_left : length left ≡ length t * 32
  length_left = length-take-le (length t * 32) (laid (table_needs capacity) t was) long_laid

  -- they are the table
  pub saved_left : saved left ≡ t
  unfolding saved laid
  saved_left =
      ap (λ (k : ℕ). rows 32 (k / 32) left) length_left
      ∙ ap (λ (k : ℕ). rows 32 k left) (mul-div_cancel (length t) (omega arith))
      ∙ rows_take 32 (length t) (length t * 32) (laid (table_needs capacity) t was) (omega arith) long_laid
      ∙ rows_append 32 (length t) (area 32 (table_needs capacity) t) (drop (table_needs capacity) was) (omega (arith, f, long_area))
      ∙ rows_area 32 (table_needs capacity) t w

  -- never refused by 3
  pub left_fits : capacity ≤ 256 → rows_fit (length left) ≡ true
  unfolding rows_fit
  left_fits h =
      let whole : length t * 32 % 32 ≡ 0 = omega arith in
      both (eqb (length left % 32) 0) (leb (length left) 8192)
      (eq-eqb (length left % 32) 0 (ap (λ (k : ℕ). k % 32) length_left ∙ whole))
      (le-leb (length left) 8192 (omega (arith, f, h, length_left)))
