-- What running a case gives: the line of an answer that the named call may give, and the areas as that call leaves them.
use Rattle.std.specs.Prelude.{ℕ, ◌≡◌, List}
use Rattle.table.specs.Calls.{asking_of}
use Rattle.table.specs.Answers.{answer_says, ClosePromise, RoundPromise}
use Rattle.report.specs.Pages.{Puts}
use Rattle.report.specs.declared.page.Page.{Page}
use Rattle.vectors.specs.declared.frame.Call.{Call}
use Rattle.vectors.specs.declared.frame.Call.TheVariants.{Close, Round, Ask}
use Rattle.vectors.specs.declared.frame.Case.{Case}
use Rattle.vectors.specs.declared.lines.Answered.{Answered}
use Rattle.vectors.specs.declared.lines.Answered.TheVariants.{Closed, Rounded, Asked}
use Rattle.vectors.specs.Lines.{line_of}

-- the named call may answer a case so, and leave the areas so; an asking leaves them as they are
unfoldable pub Promised : Call → Case → List ℕ → List ℕ → Answered → List ℕ → List ℕ → Type 0
Promised Close case table work (Closed r) table' work' = ClosePromise case.rules.now case.head.kinds case.head.capacity case.head.rounds table work r table' work'
Promised Round case table work (Rounded r) table' work' = RoundPromise case.rules.now case.rows.now case.head.kinds case.head.capacity table work r table' work'
Promised Ask case table work (Asked r) table' work' = (answer_says r ≡ asking_of case.rows.now case.head.kinds case.order.now) × (table' ≡ table) × (work' ≡ work)
Promised call case table work answered table' work' = ⊥

-- what the call that a case names may answer, and its line, which is written on the page
pub record CaseRun (case : Case) (table work : List ℕ) (page : Page) (table' work' : List ℕ) (page' : Page) : Type 0 where
  pub answered : Answered
  pub promised : Promised case.call case table work answered table' work'
  pub written : Puts (line_of answered table' work') page page'
