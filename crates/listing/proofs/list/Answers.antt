-- `listing::list` meets its contract: the rows lie in the table area, the listing in the buffer.
use borrow.Author.Rules.{rules}
use native.Mathlib.Omega.{arith}
use Prim.Native.Nat.{◌≤◌}
use mathlib.Core.Path.{◌≡◌, refl}
use Rattle.table.specs.Inner.{kept}
use Rattle.table.specs.declared.Closing.{Closing}
use Rattle.table.specs.declared.Refusal.{Refusal}
use Rattle.std.specs.Prelude.{Result, Ok, Err}
use Rattle.table.proofs.FewRows.{close_few}
use Rattle.report.specs.Text.{rows_in}
use Rattle.listing.proofs.list.Goals as goal

same : (a : Result Closing Refusal) → rows_in a ≡ kept a
unfolding kept
same (Ok closing) = refl
same (Err why) = refl

pub listing-requires : goal.listing-requires
listing-requires c =
    let h : rows_in c.close-answer.result ≤ 256 = omega (arith, same c.close-answer.result, close_few _ _ 256 _ _ _ c.close-answer.result _ _ c.close-answer.ensures) in
    (omega (arith, h, c.close-answer.auto.table), h, c.requires)

pub returns-clause-lists : goal.returns-clause-lists
returns-clause-lists c = record {
  answer = c.close-answer.result;
  table = _;
  work = _;
  closed = _;
  cleared = _;
  promised = c.close-answer.ensures;
  table_long = search rules;
  work_long = search rules;
  written = c.listing.ensures.written;
}
