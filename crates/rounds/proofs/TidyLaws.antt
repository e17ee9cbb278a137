-- What every unrefused table is: well formed, of rows of 32 counts, within the capacity and within the largest count.
use Prim.Native.Nat.{ℕ, ◌≤◌}
use native.Mathlib.Omega.{arith}
use mathlib.Core.Bool.{Bool, true, false, not}
use mathlib.Core.Path.{◌≡◌, refl}
use mathlib.Core.List.{List, []}
use lib.ListN.{length}
use Rattle.tokens.specs.Sets.{over}
use Rattle.tokens.specs.Tables.{every, blank_from, well_formed, Wide, none}
use Rattle.tokens.proofs.TableLaws.{orderly_none}
use Rattle.tokens.proofs.FormLaws.{formed, formed_orderly, formed_blank}
use Rattle.rounds.specs.Round.{going, Rule, Limits, Growth, round, closed, close, rounds}
use Rattle.rounds.proofs.RoundLaws.{Sized, round_orderly, round_wide, round_blank, round_within, round_fits}
use Rattle.rounds.proofs.RoundsLaws.{rounds_keeps}
use Rattle.rounds.proofs.ClosingLaws.{close_closed}

-- what the contracts of the calls ask of a table, and promise of it
pub record Tidy (limits : Limits) (n : ℕ) (t : List (List ℕ)) : Type 0 where
  pub formed : well_formed n t ≡ true
  pub wide : Wide 32 t
  pub fits : length t ≤ limits.capacity
  pub within : every (λ r. not (over limits.most r)) t ≡ true

pub tidy_none : (limits : Limits) (n : ℕ) → Tidy limits n []
unfolding every
tidy_none limits n = record { formed = formed n [] orderly_none refl; wide = none; fits = omega arith; within = refl }

module _ (limits : Limits) (n : ℕ) (rules : List Rule) (sized : Sized rules) (blank : every (λ rule. blank_from n rule.head) rules ≡ true) where
  -- one round keeps a table so
  pub round_tidy : (spent : Bool) (I : List (List ℕ)) (u : Growth) → round limits spent rules I ≡ going u → Tidy limits n I → Tidy limits n u.rows
  round_tidy spent I u e d =
      record {
        formed = formed n u.rows (round_orderly limits spent rules I u e (formed_orderly n I d.formed)) (round_blank n limits spent rules I u e blank (formed_blank n I d.formed));
        wide = round_wide limits spent rules I u e sized d.wide;
        fits = round_fits limits spent rules I u e d.fits;
        within = round_within limits spent rules I u e d.within;
      }

  -- so is the table after any number of rounds
  pub rounds_tidy : (k : ℕ) (t : List (List ℕ)) → rounds limits rules k ≡ going t → Tidy limits n t
  rounds_tidy k t e = rounds_keeps limits rules (Tidy limits n) (λ I u d c. round_tidy false I u c d) (tidy_none limits n) k t e

  -- and what closing leaves
  pub close_tidy : (permitted : ℕ) (t : List (List ℕ)) (g : ℕ) → close limits rules permitted ≡ closed t g → Tidy limits n t
  close_tidy permitted t g e = rounds_tidy g t ((close_closed limits rules permitted t g).0 e).reached.finished
