-- What a turn reads stands right behind what was read before, and both together are what the reader gave.
use Rattle.std.proofs.Common.{◌≡◌, ℕ, ◌+◌, ◌-◌, ◌≤◌, List, ◌++◌, rules, arith, length, take, sym, subst}
use Rattle.std.proofs.lemmas.Grind.{common_steps}
use Rattle.std.specs.Io.KnownBytes.{Consumes}
use Rattle.std.proofs.KnownBytes.{Consumes-trans}
use borrow.Rule.Slice.PartMut.{put_mid}
use lib.Seq.{take-add}
use Rattle.input.proofs.read_full.Goals as goal

-- the first a bytes, and the n that were put behind them
take-put_mid : (a k n : ℕ) (xs ys : List ℕ) → a ≤ length xs → n ≤ length ys → take (a + n) (put_mid a k xs ys) ≡ take a xs ++ take n ys
take-put_mid a k n xs ys within fits = grind (arith, common_steps, take-add)

pub loop-done-preserved : goal.loop-done-preserved
loop-done-preserved g c =
    let at = c.loop-done.done in
    let whole = take-put_mid at (length c.loop-done.buffer - at) c.in_ok-n.n c.loop-done.buffer c.read.new.buf c.loop-done.invariant.in_range c.in_ok-n.ensures.bound.0 in
    record { in_range = search rules; read = subst (Consumes _ _) (sym whole) (Consumes-trans _ _ _ _ _ c.loop-done.invariant.read c.in_ok-n.ensures.bytes.0) }
