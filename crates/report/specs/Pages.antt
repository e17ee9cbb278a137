-- What is written on a page.
use Rattle.std.specs.Prelude.{ℕ, ◌+◌, ◌≡◌, ◌≤◌, List, length}
use Rattle.report.specs.Buffer.{Written}
use Rattle.report.specs.declared.page.Page.{Page}

-- a text has room on a page
abbrev pub Room : List ℕ → Page → Type 0
Room t p = p.at + length t ≤ length p.out.now

-- a text was written on a page, which still lends the same buffer
pub record Puts (t : List ℕ) (before after : Page) : Type 0 where
  pub same_reference : after.out.ghost_name ≡ before.out.ghost_name
  pub length_kept : length after.out.now ≡ length before.out.now
  pub written : Written t before.at before.out.now after.out.now after.at
