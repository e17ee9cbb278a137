-- Rounds that keep their table are the powers of S_P, up to ≃.
use mathlib.Core.List.{List}
use Prim.Native.Nat.{ℕ, zero, suc}
use Rattle.logic.specs.Goals.{Clause}
use Rattle.logic.specs.Satisfaction.{Interp}
use Rattle.logic.specs.Operator.{S, S↑}
use Rattle.logic.specs.Order.{◌⊑◌, ◌≃◌, ◌∪◌}
use Rattle.logic.specs.Rounds.{After, start, round}
use Rattle.logic.proofs.OrderLaws.{⊑_refl, ⊑_trans, ∪_least, ∪_right}
use Rattle.logic.proofs.Satisfied.{S_mono}
use Rattle.logic.proofs.Powers.{power_up}

-- k rounds give S_P↑k, up to facts that include others
pub after_iter : {P : List Clause} {k : ℕ} {T : Interp} → After P k T → T ≃ S↑ P k
unfolding S↑
after_iter (start h) = (h, λ B b. absurd b)
after_iter {P} (round {k = k} {T = T} a e) =
    let r = after_iter a in (
      ⊑_trans e.0 (∪_least (⊑_trans r.0 (power_up P k)) (S_mono r.0)),
      ⊑_trans (⊑_trans (S_mono r.1) (∪_right T (S P T))) e.1,
    )

-- the powers are such rounds themselves
pub power_after : (P : List Clause) (k : ℕ) → After P k (S↑ P k)
unfolding S↑
power_after P zero = start (λ B b. absurd b)
power_after P (suc k) = round (power_after P k) (∪_right (S↑ P k) (S P (S↑ P k)), ∪_least (power_up P k) (⊑_refl (S P (S↑ P k))))

-- a round that brings nothing new closes
pub after_closed : {P : List Clause} {k : ℕ} {T : Interp} → After P k T → S P T ⊑ T → S↑ P (suc k) ⊑ S↑ P k
unfolding S↑
after_closed a h = let r = after_iter a in ⊑_trans (S_mono r.1) (⊑_trans h r.0)

-- "nothing new" said of the round's outcome U: U ⊑ T
pub nothing_new : {P : List Clause} {T U : Interp} → U ≃ T ∪ S P T → U ⊑ T → S P T ⊑ T
nothing_new {P} {T} e h = ⊑_trans (∪_right T (S P T)) (⊑_trans e.1 h)
