-- The answers of the calls taken apart: which checks were passed, and what then decided.
use Prim.Native.Nat.{ℕ, zero, suc, ◌≤◌}
use native.Mathlib.Omega.{arith}
use mathlib.Core.Bool.{Bool, true, false, ◌&&◌, cond}
use mathlib.Core.Path.{◌≡◌, refl, sym, ap, ap₂, ◌∙◌}
use mathlib.Core.List.{List, [], ◌∷◌, map}
use mathlib.Core.Logic.{◌⊎◌, inl, inr, ◌↔◌}
use lib.Dec.{leb}
use lib.ListN.{length}
use Rattle.tokens.specs.Tables.{well_formed}
use Rattle.logic.specs.Goals.{Goal, Clause}
use Rattle.goals.specs.Parsing.{Parsed, goal, fault, parse_at}
use Rattle.goals.specs.Limits.{runs_within}
use Rattle.goals.specs.Readings.{Reading, read, refused as misread, ◌>>=◌, Program, clauses, refused_at, program, first, goals, order as order_of}
use Rattle.goals.specs.Sets.{opening, order_rows, opened_order}
use Rattle.rounds.specs.Round.{limits, Run, going, stopped, Rule, Growth, round, Ending, closed, refused as refused_in, close, answer}
use Rattle.rounds.proofs.ClosingLaws.{close_closed, close_refused}
use Rattle.table.specs.Calls.{Outcome, given, refused, check, kinds_fit, capacity_fits, rounds_fit, areas_fit, rules_fit, rows_fit, with_rules, saved, Closure, ended, closing_of, rounded, rounding_of, asked, asking_of}
use Rattle.table.proofs.OutcomeLaws.{given_is, given_refused, refused_is}
use Rattle.table.proofs.CheckLaws.{program_number}
use Rattle.demands.specs.Statements.{Admitted, Closes, Stops, RoundAdmitted, RoundEnds}

-- ---- checks

-- a call that gives something passed each check
pub check_given : {A : Type 0} (t : Bool) (number : ℕ) (rest : Outcome A) (a : A) → check t number rest ≡ given a → (t ≡ true) × (rest ≡ given a)
unfolding check
check_given true number rest a e = (refl, e)
check_given false number rest a e = given_refused (sym e)

-- a call that is refused was refused by the check, or passed it and was refused later
pub check_refused : {A : Type 0} (t : Bool) (number : ℕ) (rest : Outcome A) (k i : ℕ) → check t number rest ≡ refused k i → ((k ≡ number) × (i ≡ 0)) ⊎ ((t ≡ true) × (rest ≡ refused k i))
unfolding check
check_refused true number rest k i e = inr (refl, e)
check_refused false number rest k i e = let p = refused_is e in inl (sym p.0, sym p.1)

pub check_passed : {A : Type 0} (t : Bool) (number : ℕ) (rest : Outcome A) → t ≡ true → check t number rest ≡ rest
unfolding check
check_passed t number rest e = rw e

pub with_given : {A : Type 0} (p : Program) (f : List Rule → Outcome A) (a : A) → with_rules p f ≡ given a → (P : List Clause) × (p ≡ clauses P) × (f (map opening P) ≡ given a)
unfolding with_rules
with_given (clauses P) f a e = (P, refl, e)
with_given (refused_at k i) f a e = given_refused (sym e)

pub with_refused : {A : Type 0} (p : Program) (f : List Rule → Outcome A) (k i : ℕ) → with_rules p f ≡ refused k i → (p ≡ refused_at k i) ⊎ ((P : List Clause) × (p ≡ clauses P) × (f (map opening P) ≡ refused k i))
unfolding with_rules
with_refused (clauses P) f k i e = inr (P, refl, e)
with_refused (refused_at m j) f k i e = let p = refused_is e in inl (ap₂ refused_at p.0 p.1)

pub with_spelled : {A : Type 0} (p : Program) (f : List Rule → Outcome A) (P : List Clause) → p ≡ clauses P → with_rules p f ≡ f (map opening P)
unfolding with_rules
with_spelled p f P e = rw e

-- ---- the numbers of readings

same_number : {A : Type 0} {j k : ℕ} → ◌≡◌ {A = Reading A} (misread j) (misread k) → j ≡ k
same_number e = cc

not_read : {A B : Type 0} {a : A} {k : ℕ} → ◌≡◌ {A = Reading A} (read a) (misread k) → B
not_read e = absurd (let z : ◌≡◌ {A = ℕ} 0 1 = cc in let w : ⊥ = omega arith in w)

denied : {A : Type 0} (t : Bool) (a : A) (j k : ℕ) → cond t (read a) (misread j) ≡ misread k → j ≡ k
denied true a j k e = not_read e
denied false a j k e = same_number e

-- a reading in two steps is refused by one of them
in_steps : {A B : Type 0} (N : ℕ → Type 0) (m : Reading A) (f : A → Reading B) (k : ℕ) → (m ≡ misread k → N k) → ((a : A) → f a ≡ misread k → N k) → (m >>= f) ≡ misread k → N k
in_steps N (read a) f k g h e = h a e
in_steps N (misread j) f k g h e = g (ap misread (same_number e))

-- an order is refused by 10 or by 6
goals_number : (f n : ℕ) (s : List ℕ) (at k : ℕ) → goals f n s at ≡ misread k → k ≡ 10
unfolding goals
goals_number zero n s at k e = sym (same_number e)
goals_number (suc f) n s at k e = go (λ m b. goals_number f n s m k b) (leb (length s) at) e
  where
    one : (p : Parsed) → ((m : ℕ) → goals f n s m ≡ misread k → k ≡ 10) → first p (goals f n s) ≡ misread k → k ≡ 10
    one (goal G m) ih d = in_steps (λ j. j ≡ 10) (goals f n s m) (λ Δ. read (G ∷ Δ)) k (ih m) (λ Δ b. not_read b) d
    one fault ih d = sym (same_number d)

    go : ((m : ℕ) → goals f n s m ≡ misread k → k ≡ 10) → (t : Bool) → cond t (read []) (first (parse_at n s at) (goals f n s)) ≡ misread k → k ≡ 10
    go ih true d = not_read d
    go ih false d = one (parse_at n s at) ih d

pub order_number : (n : ℕ) (s : List ℕ) (k : ℕ) → order_of n s ≡ misread k → (k ≡ 10) ⊎ (k ≡ 6)
unfolding order_of
order_number n s k e =
    in_steps (λ j. (j ≡ 10) ⊎ (j ≡ 6)) (cond (leb (length s) 64) (goals (suc (length s)) n s 0) (misread 10)) _ k
    (λ d. inl (long (leb (length s) 64) d))
    (λ Δ d. inr (sym (denied (runs_within 16 1 Δ) Δ 6 k d))) e
  where
    long : (t : Bool) → cond t (goals (suc (length s)) n s 0) (misread 10) ≡ misread k → k ≡ 10
    long true d = goals_number (suc (length s)) n s 0 k d
    long false d = sym (same_number d)

-- ---- closing

ended_given : (q : Ending) (t : List (List ℕ)) (g : ℕ) → ended q ≡ given (record { table = t; grown = g }) → q ≡ closed t g
unfolding ended
ended_given (closed u h) t g e = let p = given_is e in ap₂ closed (ap (λ (c : Closure). c.table) p) (ap (λ (c : Closure). c.grown) p)
ended_given (refused_in k h) t g e = given_refused (sym e)

ended_refused : (q : Ending) (k g : ℕ) → ended q ≡ refused k g → q ≡ refused_in k g
unfolding ended
ended_refused (closed u h) k g e = given_refused e
ended_refused (refused_in m h) k g e = let p = refused_is e in ap₂ refused_in p.0 p.1

module _ (rules : List ℕ) (n capacity permitted table work : ℕ) where
  abbrev settings_pass : Bool
  settings_pass = kinds_fit n && (capacity_fits capacity && rounds_fit permitted)

  abbrev run : List Rule → Outcome Closure
  run opened = ended (close (limits capacity) opened permitted)

  -- past the checks, closing is the rounds
  pub closing_run : (P : List Clause) → Admitted rules n capacity permitted table work P → closing_of rules n capacity permitted table work ≡ ended (close (limits capacity) (map opening P) permitted)
  unfolding closing_of
  closing_run P a =
      check_passed settings_pass 1 _ a.settings ∙ check_passed (areas_fit capacity table work) 2 _ a.areas ∙ check_passed (rules_fit (length rules)) 3 _ a.lengths
      ∙ with_spelled (program n rules) run P a.spelled

  pub closing_closed : (t : List (List ℕ)) (g : ℕ) → (closing_of rules n capacity permitted table work ≡ given (record { table = t; grown = g })) ↔ Closes rules n capacity permitted table work t g
  unfolding closing_of ended
  closing_closed t g = (there, back)
    where
      there : closing_of rules n capacity permitted table work ≡ given (record { table = t; grown = g }) → Closes rules n capacity permitted table work t g
      there e =
          let a = check_given settings_pass 1 _ _ e in
          let b = check_given (areas_fit capacity table work) 2 _ _ a.1 in
          let c = check_given (rules_fit (length rules)) 3 _ _ b.1 in
          let d = with_given (program n rules) run _ c.1 in
          record {
            P = d.0;
            admitted = record { settings = a.0; areas = b.0; lengths = c.0; spelled = d.1 };
            closed = (close_closed (limits capacity) (map opening d.0) permitted t g).0 (ended_given (close (limits capacity) (map opening d.0) permitted) t g d.2);
          }

      back : Closes rules n capacity permitted table work t g → closing_of rules n capacity permitted table work ≡ given (record { table = t; grown = g })
      back c = closing_run c.P c.admitted ∙ ap ended ((close_closed (limits capacity) (map opening c.P) permitted t g).1 c.closed)

  pub closing_stopped : (number g : ℕ) → 7 ≤ number → (closing_of rules n capacity permitted table work ≡ refused number g) ↔ Stops rules n capacity permitted table work number g
  unfolding closing_of ended
  closing_stopped number g h = (λ e. first_check (check_refused settings_pass 1 _ number g e), back)
    where
      rounds_stop : settings_pass ≡ true → areas_fit capacity table work ≡ true → rules_fit (length rules) ≡ true
          → (program n rules ≡ refused_at number g) ⊎ ((P : List Clause) × (program n rules ≡ clauses P) × (run (map opening P) ≡ refused number g)) → Stops rules n capacity permitted table work number g
      rounds_stop a b c (inl d) = absurd (let z = program_number n rules number g d in let w : ⊥ = omega arith in w)
      rounds_stop a b c (inr d) = record {
        P = d.0;
        admitted = record { settings = a; areas = b; lengths = c; spelled = d.1 };
        stopped = (close_refused (limits capacity) (map opening d.0) permitted number g).0 (ended_refused (close (limits capacity) (map opening d.0) permitted) number g d.2);
      }

      third_check : settings_pass ≡ true → areas_fit capacity table work ≡ true
          → ((number ≡ 3) × (g ≡ 0)) ⊎ ((rules_fit (length rules) ≡ true) × (with_rules (program n rules) run ≡ refused number g)) → Stops rules n capacity permitted table work number g
      third_check a b (inl p) = absurd (let z = p.0 in let w : ⊥ = omega arith in w)
      third_check a b (inr p) = rounds_stop a b p.0 (with_refused (program n rules) run number g p.1)

      second_check : settings_pass ≡ true
          → ((number ≡ 2) × (g ≡ 0)) ⊎ ((areas_fit capacity table work ≡ true) × (check (rules_fit (length rules)) 3 (with_rules (program n rules) run) ≡ refused number g)) → Stops rules n capacity permitted table work number g
      second_check a (inl p) = absurd (let z = p.0 in let w : ⊥ = omega arith in w)
      second_check a (inr p) = third_check a p.0 (check_refused (rules_fit (length rules)) 3 (with_rules (program n rules) run) number g p.1)

      first_check : ((number ≡ 1) × (g ≡ 0)) ⊎ ((settings_pass ≡ true) × (check (areas_fit capacity table work) 2 (check (rules_fit (length rules)) 3 (with_rules (program n rules) run)) ≡ refused number g)) → Stops rules n capacity permitted table work number g
      first_check (inl p) = absurd (let z = p.0 in let w : ⊥ = omega arith in w)
      first_check (inr p) = second_check p.0 (check_refused (areas_fit capacity table work) 2 (check (rules_fit (length rules)) 3 (with_rules (program n rules) run)) number g p.1)

      back : Stops rules n capacity permitted table work number g → closing_of rules n capacity permitted table work ≡ refused number g
      back c = closing_run c.P c.admitted ∙ ap ended ((close_refused (limits capacity) (map opening c.P) permitted number g).1 c.stopped)

-- ---- one round

rounded_given : (q : Run Growth) (u : Growth) → rounded q ≡ given u → q ≡ going u
unfolding rounded
rounded_given (going g) u e = ap going (given_is e)
rounded_given (stopped k) u e = given_refused (sym e)

rounded_refused : (q : Run Growth) (k i : ℕ) → rounded q ≡ refused k i → (q ≡ stopped k) × (i ≡ 0)
unfolding rounded
rounded_refused (going g) k i e = given_refused e
rounded_refused (stopped m) k i e = let p = refused_is e in (ap stopped p.0, sym p.1)

module _ (rules bytes : List ℕ) (n capacity table work : ℕ) where
  abbrev settings_fit : Bool
  settings_fit = kinds_fit n && capacity_fits capacity

  abbrev rows_pass : Bool
  rows_pass = well_formed n (saved bytes) && leb (length (saved bytes)) capacity

  abbrev go_round : List Rule → Outcome Growth
  go_round opened = check rows_pass 11 (rounded (round (limits capacity) false opened (saved bytes)))

  -- past the checks, it is the round
  rounding_run : (P : List Clause) → RoundAdmitted rules bytes n capacity table work P → rounding_of rules bytes n capacity table work ≡ rounded (round (limits capacity) false (map opening P) (saved bytes))
  unfolding rounding_of
  rounding_run P a =
      check_passed settings_fit 1 _ a.settings ∙ check_passed (areas_fit capacity table work) 2 _ a.areas ∙ check_passed (rules_fit (length rules)) 3 _ a.lengths
      ∙ check_passed (rows_fit (length bytes)) 3 _ a.row_lengths ∙ with_spelled (program n rules) go_round P a.spelled ∙ check_passed rows_pass 11 _ a.formed

  pub rounding_given : (u : Growth) → (rounding_of rules bytes n capacity table work ≡ given u) ↔ RoundEnds rules bytes n capacity table work (going u)
  unfolding rounding_of rounded
  rounding_given u = (
    λ e.
        let a = check_given settings_fit 1 _ _ e in
        let b = check_given (areas_fit capacity table work) 2 _ _ a.1 in
        let c = check_given (rules_fit (length rules)) 3 _ _ b.1 in
        let d = check_given (rows_fit (length bytes)) 3 _ _ c.1 in
        let f = with_given (program n rules) go_round _ d.1 in
        let h = check_given rows_pass 11 _ _ f.2 in
        record {
          P = f.0;
          admitted = record { settings = a.0; areas = b.0; lengths = c.0; row_lengths = d.0; spelled = f.1; formed = h.0 };
          ends = rounded_given (round (limits capacity) false (map opening f.0) (saved bytes)) u h.1;
        },
    λ r. rounding_run r.P r.admitted ∙ ap rounded r.ends,
  )

  abbrev from_rules : Outcome Growth
  from_rules = with_rules (program n rules) go_round

  abbrev from_rows : Outcome Growth
  from_rows = check (rows_fit (length bytes)) 3 from_rules

  abbrev from_lengths : Outcome Growth
  from_lengths = check (rules_fit (length rules)) 3 from_rows

  abbrev from_areas : Outcome Growth
  from_areas = check (areas_fit capacity table work) 2 from_lengths

  pub rounding_stopped : (number k : ℕ) → 7 ≤ number → number ≤ 10 → (rounding_of rules bytes n capacity table work ≡ refused number k) ↔ (RoundEnds rules bytes n capacity table work (stopped number) × (k ≡ 0))
  unfolding rounding_of rounded
  rounding_stopped number k h l = (λ e. one (check_refused settings_fit 1 from_areas number k e), back)
    where
      Ended : Type 0
      Ended = RoundEnds rules bytes n capacity table work (stopped number) × (k ≡ 0)

      six : (P : List Clause) → (rows_pass ≡ true → RoundAdmitted rules bytes n capacity table work P)
          → ((number ≡ 11) × (k ≡ 0)) ⊎ ((rows_pass ≡ true) × (rounded (round (limits capacity) false (map opening P) (saved bytes)) ≡ refused number k)) → Ended
      six P a (inl p) = absurd (let z = p.0 in let w : ⊥ = omega arith in w)
      six P a (inr p) =
          let q = rounded_refused (round (limits capacity) false (map opening P) (saved bytes)) number k p.1 in
          (record { P = P; admitted = a p.0; ends = q.0 }, q.1)

      five : settings_fit ≡ true → areas_fit capacity table work ≡ true → rules_fit (length rules) ≡ true → rows_fit (length bytes) ≡ true
          → (program n rules ≡ refused_at number k) ⊎ ((P : List Clause) × (program n rules ≡ clauses P) × (go_round (map opening P) ≡ refused number k)) → Ended
      five a b c d (inl p) = absurd (let z = program_number n rules number k p in let w : ⊥ = omega arith in w)
      five a b c d (inr p) =
          six p.0 (λ f. record { settings = a; areas = b; lengths = c; row_lengths = d; spelled = p.1; formed = f })
          (check_refused rows_pass 11 (rounded (round (limits capacity) false (map opening p.0) (saved bytes))) number k p.2)

      four : settings_fit ≡ true → areas_fit capacity table work ≡ true → rules_fit (length rules) ≡ true
          → ((number ≡ 3) × (k ≡ 0)) ⊎ ((rows_fit (length bytes) ≡ true) × (from_rules ≡ refused number k)) → Ended
      four a b c (inl p) = absurd (let z = p.0 in let w : ⊥ = omega arith in w)
      four a b c (inr p) = five a b c p.0 (with_refused (program n rules) go_round number k p.1)

      three : settings_fit ≡ true → areas_fit capacity table work ≡ true → ((number ≡ 3) × (k ≡ 0)) ⊎ ((rules_fit (length rules) ≡ true) × (from_rows ≡ refused number k)) → Ended
      three a b (inl p) = absurd (let z = p.0 in let w : ⊥ = omega arith in w)
      three a b (inr p) = four a b p.0 (check_refused (rows_fit (length bytes)) 3 from_rules number k p.1)

      two : settings_fit ≡ true → ((number ≡ 2) × (k ≡ 0)) ⊎ ((areas_fit capacity table work ≡ true) × (from_lengths ≡ refused number k)) → Ended
      two a (inl p) = absurd (let z = p.0 in let w : ⊥ = omega arith in w)
      two a (inr p) = three a p.0 (check_refused (rules_fit (length rules)) 3 from_rows number k p.1)

      one : ((number ≡ 1) × (k ≡ 0)) ⊎ ((settings_fit ≡ true) × (from_areas ≡ refused number k)) → Ended
      one (inl p) = absurd (let z = p.0 in let w : ⊥ = omega arith in w)
      one (inr p) = two p.0 (check_refused (areas_fit capacity table work) 2 from_lengths number k p.1)

      back : Ended → rounding_of rules bytes n capacity table work ≡ refused number k
      back r = rounding_run r.0.P r.0.admitted ∙ ap rounded r.0.ends ∙ ap (refused number) (sym r.1)

-- ---- asking

pub asked_given : (o : Reading (List Goal)) (t : List (List ℕ)) (b : Bool) → asked (o >>= λ Δ. read (order_rows Δ)) t ≡ given b → (Θ : List Goal) × (o ≡ read Θ) × (answer t (order_rows Θ) ≡ b)
unfolding asked
asked_given (read Θ) t b e = (Θ, refl, given_is e)
asked_given (misread k) t b e = given_refused (sym e)

pub asked_refused : (o : Reading (List Goal)) (t : List (List ℕ)) (k i : ℕ) → asked (o >>= λ Δ. read (order_rows Δ)) t ≡ refused k i → (o ≡ misread k) × (i ≡ 0)
unfolding asked
asked_refused (read Θ) t k i e = given_refused e
asked_refused (misread j) t k i e = let p = refused_is e in (ap misread p.0, sym p.1)

-- past the checks, asking is reading the order and its branches
pub asking_run : (bytes : List ℕ) (n : ℕ) (order : List ℕ) (t : List (List ℕ)) → kinds_fit n ≡ true → rows_fit (length bytes) ≡ true → saved bytes ≡ t → well_formed n t ≡ true
    → asking_of bytes n order ≡ asked (order_of n order >>= λ Δ. read (order_rows Δ)) t
unfolding asking_of opened_order
asking_run bytes n order t a b s f =
    check_passed (kinds_fit n) 1 _ a ∙ check_passed (rows_fit (length bytes)) 3 _ b ∙ check_passed (well_formed n (saved bytes)) 11 _ (ap (well_formed n) s ∙ f)
    ∙ ap (asked (order_of n order >>= λ Δ. read (order_rows Δ))) s
