use mathlib.Core.Path.{sym, ◌∙◌}
use Rattle.goals.proofs.ViewLaws.{lent_some}
use Rattle.goals.proofs.combine.Goals as goal

pub returns-in-Together : goal.returns-in-Together
returns-in-Together c =
    c.together.ensures ∙ sym (rw (lent_some c.as_ref.ensures.value c.in_ok-left.was, lent_some c.as_ref-2.ensures.value c.in_ok-right.was, c.in-Together.is))

pub returns-in-Both : goal.returns-in-Both
returns-in-Both c =
    c.both.ensures ∙ sym (rw (lent_some c.as_ref.ensures.value c.in_ok-left.was, lent_some c.as_ref-2.ensures.value c.in_ok-right.was, c.in-Both.is))
