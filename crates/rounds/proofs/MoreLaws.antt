-- Wider limits change nothing of what is not refused: a larger capacity, a larger largest count, more permitted rounds.
use Prim.Native.Nat.{ℕ, zero, suc, ◌≤◌}
use native.Mathlib.Omega.{arith}
use mathlib.Core.Bool.{Bool, true, false}
use mathlib.Core.Path.{◌≡◌, refl, ◌∙◌, ap}
use mathlib.Core.List.{List, [], ◌∷◌}
use lib.ListN.{length}
use borrow.Author.Tests.{le-leb}
use Rattle.tokens.specs.Sets.{empty, minus, join, plus, over}
use Rattle.tokens.specs.Tables.{put}
use Rattle.tokens.proofs.SetLaws.{over_at, at_over}
use Rattle.rounds.specs.Round.{Run, going, after, each, Rule, Limits, fitting, hold, meet, weave, holding, Growth, grown, offer, step, round, closed, close, rounds}
use Rattle.rounds.specs.Ends.{Closed}
use Rattle.rounds.proofs.RunLaws.{going_stopped, after_going, after_on, each_leads}
use Rattle.rounds.proofs.StepLaws.{Held, passed, entered, eighth, held, Joined, stays, enters, offer_joins}
use Rattle.rounds.proofs.RoundsLaws.{rounds_back, rounds_on}
use Rattle.rounds.proofs.ClosingLaws.{close_closed}

pub record Wider (limits limits' : Limits) : Type 0 where
  pub counts : limits.most ≤ limits'.most
  pub room : limits.capacity ≤ limits'.capacity

-- ---- step 2, at a larger capacity

module _ (c c' : ℕ) (room : c ≤ c') where
  hold_leads : (s : List ℕ) (l u : List (List ℕ)) → hold c s l ≡ going u → hold c' s l ≡ going u
  unfolding hold fitting
  hold_leads s l u e = go (hold c s l) (held c s l) e
    where
      go : (r : Run (List (List ℕ))) → Held c s l r → r ≡ going u → hold c' s l ≡ going u
      go r (passed k) d = rw k d
      go r (entered k h) d = rw (k, le-leb (length (put s l)) c' (omega arith)) d
      go r (eighth k h) d = going_stopped d refl

  weave_leads : (I : List (List ℕ)) (a : List ℕ) (held u : List (List ℕ)) → weave c I a held ≡ going u → weave c' I a held ≡ going u
  unfolding weave meet
  weave_leads I a held u e =
      (each_leads (meet c I a) (meet c' I a) (λ l. Unit {0})
      (λ h l v d k. (tt, (each_leads (λ b. hold c (join h (minus b a))) (λ b. hold c' (join h (minus b a))) (λ s. Unit {0}) (λ b s w q j. (tt, hold_leads (join h (minus b a)) s w q)) I l v d tt).1))
      held [] u e tt).1

  holding_leads : (I branches held : List (List ℕ)) → holding c I branches ≡ going held → holding c' I branches ≡ going held
  unfolding holding
  holding_leads I branches held e = (each_leads (weave c I) (weave c' I) (λ l. Unit {0}) (λ a l v d k. (tt, weave_leads I a l v d)) branches (empty ∷ []) held e tt).1

-- ---- a round, with wider limits and with permitted rounds left if it grew

module _ (limits limits' : Limits) (wider : Wider limits limits') (spent spent' : Bool) where
  -- rounds are left if the table grew
  abbrev Left : Growth → Type 0
  Left g = g.grew ≡ true → spent' ≡ false

  offer_leads : (c : List ℕ) (g u : Growth) → offer limits spent c g ≡ going u → Left u → Left g × (offer limits' spent' c g ≡ going u)
  unfolding offer fitting grown after
  offer_leads c g u e k = go u (offer_joins limits spent c g u e) k
    where
      small : over limits.most c ≡ false → over limits'.most c ≡ false
      small p = at_over limits'.most c (λ i. let w = wider.counts in omega (arith, over_at limits.most c p i))

      go : (v : Growth) → Joined limits spent c g v → Left v → Left g × (offer limits' spent' c g ≡ going v)
      go v (stays p) j = (j, rw p)
      go v (enters p q r s) j = (λ h. j refl, let w = wider.room in rw (p, j refl, small r, le-leb (length (put c g.rows)) limits'.capacity (omega arith)))

  step_leads : (I : List (List ℕ)) (rule : Rule) (g u : Growth) → step limits spent I rule g ≡ going u → Left u → Left g × (step limits' spent' I rule g ≡ going u)
  unfolding step
  step_leads I rule g u e k =
      let m = after_going (holding limits.capacity I rule.branches) (λ held. each (λ h. offer limits spent (plus rule.head h)) held g) u e in
      let r = each_leads (λ h. offer limits spent (plus rule.head h)) (λ h. offer limits' spent' (plus rule.head h)) Left (λ h s v d j. offer_leads (plus rule.head h) s v d j) m.0 g u m.2 k in
      (r.0, after_on (holding limits'.capacity I rule.branches) (λ held. each (λ h. offer limits' spent' (plus rule.head h)) held g) m.0 (holding_leads limits.capacity limits'.capacity wider.room I rule.branches m.0 m.1) ∙ r.1)

  -- an unrefused round comes out the same at wider limits
  pub round_leads : (rules : List Rule) (I : List (List ℕ)) (u : Growth) → (u.grew ≡ true → spent' ≡ false) → round limits spent rules I ≡ going u → round limits' spent' rules I ≡ going u
  unfolding round
  round_leads rules I u k e = (each_leads (step limits spent I) (step limits' spent' I) Left (λ rule g v d j. step_leads I rule g v d j) rules (record { grew = false; rows = I }) u e k).1

-- ---- closing

module _ (limits limits' : Limits) (wider : Wider limits limits') (rules : List Rule) where
  pub rounds_leads : (k : ℕ) (t : List (List ℕ)) → rounds limits rules k ≡ going t → rounds limits' rules k ≡ going t
  unfolding rounds
  rounds_leads zero t e = e
  rounds_leads (suc k) t e =
      let b = rounds_back limits rules k t e in
      rounds_on limits' rules k b.0 b.2.0 (rounds_leads k b.0 b.1) (round_leads limits limits' wider false false rules b.0 b.2.0 (λ h. refl) b.2.1) ∙ ap going b.2.2

  -- a table closed at some limits comes out the same at all wider ones
  pub closed_more : (permitted permitted' : ℕ) (t : List (List ℕ)) (g : ℕ) → permitted ≤ permitted' → Closed limits rules permitted t g → Closed limits' rules permitted' t g
  closed_more permitted permitted' t g h c =
      let f = c.few in
      record {
        few = omega arith;
        reached = record {
          finished = rounds_leads g t c.reached.finished;
          grew = λ j i. let w = c.reached.grew j i in record {
            table = w.table;
            larger = w.larger;
            given = rounds_leads j w.table w.given;
            grows = round_leads limits limits' wider false false rules w.table (record { grew = true; rows = w.larger }) (λ z. refl) w.grows;
          };
        };
        ends = round_leads limits limits' wider false false rules t (record { grew = false; rows = t }) (λ z. refl) c.ends;
      }

  pub close_more : (permitted permitted' : ℕ) (t : List (List ℕ)) (g : ℕ) → permitted ≤ permitted' → close limits rules permitted ≡ closed t g → close limits' rules permitted' ≡ closed t g
  close_more permitted permitted' t g h e = (close_closed limits' rules permitted' t g).1 (closed_more permitted permitted' t g h ((close_closed limits rules permitted t g).0 e))
