-- `vectors::answer` meets its contract: the call's promise, and its answer's line.
use mathlib.Core.Path.{◌≡◌, refl}
use mathlib.Core.List.{List}
use Prim.Native.Nat.{ℕ}
use Rattle.vectors.specs.Cases.{Promised}
use Rattle.vectors.specs.declared.frame.Call.{Call}
use Rattle.vectors.specs.declared.frame.Case.{Case}
use Rattle.vectors.specs.declared.lines.Answered.{Answered}
use Rattle.vectors.proofs.answer.Goals as goal
use Rattle.vectors.proofs.answer.Goals.{in-Close, in-Round, in-Ask}

-- what the call promises that a case names
as_named : {call named : Call} (case : Case) (table work : List ℕ) (answered : Answered) (table' work' : List ℕ) → call ≡ named → Promised named case table work answered table' work' → Promised call case table work answered table' work'
as_named case table work answered table' work' e p = rw e p

pub returns : goal.returns
unfolding Promised
returns c = record {
  answered = c.match-case.answered;
  promised = elim c.match-case.branch [
    | in-Close w ↦ as_named _ _ _ _ _ _ w.in-Close.is (rw (w.answered-is, w.table-is, w.work-is) w.close.ensures)
    | in-Round w ↦ as_named _ _ _ _ _ _ w.in-Round.is (rw (w.answered-is, w.table-is, w.work-is) w.round.ensures)
    | in-Ask w ↦ as_named _ _ _ _ _ _ w.in-Ask.is (rw (w.answered-is, w.table-is, w.work-is) (w.ask.ensures, refl, refl))
  ];
  written = c.put_line.ensures;
}
