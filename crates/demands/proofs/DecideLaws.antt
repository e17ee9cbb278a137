-- Asking the rows that closing left.
use Prim.Native.Nat.{ℕ, ◌*◌, ◌≤◌}
use mathlib.Core.Bool.{Bool, true, ◌&&◌}
use mathlib.Core.Path.{◌≡◌, sym, ap, ◌∙◌}
use mathlib.Core.List.{List, map}
use mathlib.Core.Logic.{◌↔◌}
use lib.Dec.{leb}
use lib.ListN.{length, take}
use borrow.Author.Tests.{leb-true}
use Rattle.tokens.proofs.Tests.{and_l, and_r}
use Rattle.logic.specs.Goals.{Goal}
use Rattle.logic.specs.Proofs.{◌⊢◌}
use Rattle.goals.specs.Readings.{read, ◌>>=◌, order as order_of}
use Rattle.goals.specs.Sets.{opening, order_rows}
use Rattle.goals.proofs.PrintLaws.{order_printed}
use Rattle.rounds.specs.Round.{limits, answer}
use Rattle.rounds.proofs.TidyLaws.{Tidy, rounds_tidy}
use Rattle.table.specs.Calls.{between, kinds_fit, capacity_fits, rounds_fit, saved, asked, asking_of, table_needs, laid}
use Rattle.demands.specs.Statements.{Closes, Decides}
use Rattle.demands.proofs.Spelling.{spelt, sized, heads_blank}
use Rattle.demands.proofs.RoundFacts.{closed_answer}
use Rattle.demands.proofs.CallLaws.{asking_run, asked_given, asked_refused, order_number}
use Rattle.demands.proofs.SavedLaws.{saved_left, left_fits}

module _ (rules : List ℕ) (n capacity permitted tl wl : ℕ) (t : List (List ℕ)) (g : ℕ) (c : Closes rules n capacity permitted tl wl t g) (was : List ℕ) where
  -- what is known of the closed table
  tidy : Tidy (limits capacity) n t
  tidy = rounds_tidy (limits capacity) n (map opening c.P) (sized c.P) (heads_blank n c.P (spelt n rules c.P c.admitted.spelled)) g t c.closed.reached.finished

  fits : length t ≤ capacity
  fits = tidy.fits

  abbrev sizes : Bool
  sizes = capacity_fits capacity && rounds_fit permitted

  few : capacity ≤ 256
  unfolding capacity_fits between
  few = leb-true capacity 256 (and_r (leb 1 capacity) (leb capacity 256) (and_l (capacity_fits capacity) (rounds_fit permitted) (and_r (kinds_fit n) sizes c.admitted.settings)))

  abbrev left : List ℕ
  left = take (length t * 32) (laid (table_needs capacity) t was)

  -- they are the table
  pub left_rows : saved left ≡ t
  left_rows = saved_left capacity t was tidy.wide fits

  -- asking them is reading the order and asking the table itself
  ask_left : (order : List ℕ) → asking_of left n order ≡ asked (order_of n order >>= λ Δ. read (order_rows Δ)) t
  ask_left order =
      asking_run left n order t (and_l (kinds_fit n) sizes c.admitted.settings) (left_fits capacity t was tidy.wide fits few) left_rows tidy.formed

  proves : (Θ : List Goal) (order : List ℕ) → order_of n order ≡ read Θ → (answer t (order_rows Θ) ≡ true) ↔ (c.P ⊢ Θ)
  proves Θ order e = closed_answer n c.P (spelt n rules c.P c.admitted.spelled) (limits capacity) n permitted t g c.closed Θ (order_printed n order Θ e).kinds

  pub left_decides : Decides rules n left
  unfolding asked
  left_decides = record {
    P = c.P;
    spelled = c.admitted.spelled;
    decides = λ order b e.
        let w = asked_given (order_of n order) t b (sym (ask_left order) ∙ e) in
        let p = proves w.0 order w.1 in
        (w.0, w.1, (λ y. p.0 (w.2 ∙ y), λ q. sym w.2 ∙ p.1 q));
    answers = λ order Θ e. (answer t (order_rows Θ), ask_left order ∙ ap (λ o. asked (o >>= λ Δ. read (order_rows Δ)) t) e);
    refuses = λ order number k e.
        let w = asked_refused (order_of n order) t number k (sym (ask_left order) ∙ e) in
        (w.0, order_number n order number w.0, w.1);
  }
