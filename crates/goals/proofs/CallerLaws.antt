-- What callers learn: of a rule record that is read and its answer, of a rule set that passes or is refused, of the branches of a body and of an order.
use mathlib.Core.Path.{◌≡◌, refl, sym, ap, ap₂, subst, ◌∙◌}
use mathlib.Core.List.{List, [], ◌∷◌, map}
use mathlib.Core.Bool.{Bool, true, not, cond}
use Prim.Native.Nat.{ℕ, zero, suc, ◌+◌, ◌*◌, ◌/◌, ◌≤◌, ◌<◌}
use native.Mathlib.Omega.{arith}
use lib.ListN.{length, take, drop, get_or, replicate, length-append, length-drop}
use Rattle.tokens.specs.Sets.{plus, over}
use Rattle.tokens.specs.Tables.{every, blank_from}
use Rattle.tokens.specs.Rows.{row, rows}
use Rattle.tokens.proofs.BlankLaws.{at_blank}
use Rattle.tokens.proofs.TableLaws.{every_map}
use Rattle.tokens.proofs.RowLaws.{length_rows, rows_at}
use Rattle.logic.specs.Goals.{Goal, Clause}
use Rattle.logic.specs.Branches.{opened_all, ways, branches, branches_c}
use Rattle.logic.proofs.BranchLaws.{length_sums, length_opened}
use Rattle.std.specs.Prelude.{Result, Ok, Err}
use Rattle.goals.specs.declared.RuleFault.{RuleFault}
use Rattle.goals.specs.declared.OpenedRule.{OpenedRule}
use Rattle.goals.specs.Limits.{within}
use Rattle.goals.specs.Readings.{Reading, read, refused, ◌>>=◌, head, body, rule, Program, clauses, refused_at, and_then, records, program}
use Rattle.goals.specs.Sets.{one, set_of, branch_rows, order_rows, opening, opened_rule}
use Rattle.goals.specs.Answers.{rows_of, rule_fault_number, rule_of, told, passes, stops}
use Rattle.goals.specs.Printing.{print}
use Rattle.goals.proofs.Readings.{not_refused, same_read, granted, steps, known}
use Rattle.goals.proofs.PrintLaws.{Printed, body_printed, printed_body, Headed, head_printed, printed_head, Ordered}
use Rattle.goals.proofs.ParseLaws.{print_odd}
use Rattle.goals.proofs.LimitLaws.{ways_all}
use Rattle.goals.proofs.RowLaws.{set_of_from, branch_rows_are, order_rows_are, branch_low, order_low}
use Rattle.goals.proofs.ListLaws.{counts}

-- ---- a rule record

-- a record that is read: a head and padding, a printed goal and padding, and no part of it over 16
pub record Ruled (n : ℕ) (s : List ℕ) (C : Clause) : Type 0 where
  pub heading : Headed n (take 16 s) C.head
  pub printed : Printed n (drop 16 s) C.body
  pub few : within 16 C.body ≡ true

pub rule_printed : (n : ℕ) (s : List ℕ) (C : Clause) → rule n s ≡ read C → Ruled n s C
unfolding rule
rule_printed n s C e =
    let a = steps (head n (take 16 s)) (λ h. body n (drop 16 s) >>= λ G. cond (within 16 G) (read (record { head = h; body = G })) (refused 6)) C e in
    let b = steps (body n (drop 16 s)) (λ G. cond (within 16 G) (read (record { head = a.value; body = G })) (refused 6)) C a.second in
    let g = granted (within 16 b.value) 6 (record { head = a.value; body = b.value }) C b.second in
    let w : Ruled n s (record { head = a.value; body = b.value }) =
    record { heading = head_printed n (take 16 s) a.value a.first; printed = body_printed n (drop 16 s) b.value b.first; few = g.0 } in
    subst (Ruled n s) g.1 w

pub printed_rule : (n : ℕ) (s : List ℕ) (C : Clause) → Ruled n s C → rule n s ≡ read C
unfolding rule
printed_rule n s C r =
    known (head n (take 16 s)) _ C.head (printed_head n (take 16 s) C.head r.heading)
    ∙ known (body n (drop 16 s)) _ C.body (ap (body n) r.printed.bytes ∙ printed_body n C.body r.printed.padding r.printed.kinds)
    ∙ ap (λ t. cond t (read C) (refused 6)) r.few

-- a body's goal takes at most 47 of its 48 bytes
pub rule_short : (n : ℕ) (s : List ℕ) (C : Clause) → length s ≡ 64 → Ruled n s C → length (print C.body) ≤ 47
rule_short n s C h r =
    let odd = print_odd C.body in
    omega (arith, h, odd.1, length-drop 16 s, ap length r.printed.bytes, length-append (print C.body) (replicate r.printed.padding 255))

-- no count of a rule's branches is above 47
pub rule_low : (n : ℕ) (s : List ℕ) (C : Clause) → length s ≡ 64 → Ruled n s C → every (λ r. not (over 47 r)) (branch_rows C.body) ≡ true
rule_low n s C h r = branch_low 47 C.body (rule_short n s C h r)

-- a head has no count from kind n on
pub head_blank : (n : ℕ) (s : List ℕ) (C : Clause) → Ruled n s C → blank_from n (set_of C.head) ≡ true
head_blank n s C r = at_blank n (set_of C.head) (λ k. set_of_from n C.head r.heading.kinds (n + k) (omega arith))

-- what the answer for such a record holds
pub record Opens (r : Result OpenedRule RuleFault) (C : Clause) : Type 0 where
  pub opened : OpenedRule
  pub passed : r ≡ Ok opened
  pub the_head : opened.head ≡ set_of C.head
  pub the_rows : rows_of opened.list ≡ branch_rows C.body
  pub count : opened.list.count ≡ ways C.body

pub rule_opens : (n : ℕ) (s : List ℕ) (r : Result OpenedRule RuleFault) (C : Clause) → rule_of r ≡ opened_rule n s → rule n s ≡ read C → Opens r C
unfolding opened_rule opening branch_rows
rule_opens n s (Ok o) C e d =
    let q = same_read _ _ (e ∙ known (rule n s) (λ K. read (opening K)) C d) in
    let l : rows_of o.list ≡ branch_rows C.body = ap (λ x. x.branches) q in
    record {
      opened = o;
      passed = refl;
      the_head = ap (λ x. x.head) q;
      the_rows = l;
      count = counts o.list (branch_rows C.body) l ∙ length_opened one _ C.body;
    }
rule_opens n s (Err f) C e d = not_refused (rule_fault_number f) (opening C) (e ∙ known (rule n s) (λ K. read (opening K)) C d)

-- ---- a rule set

-- what is told of a rule set determines whether it spells clauses, and else its refusal
pub told_passes : (p : Program) → told p ≡ passes → (P : List Clause) × (p ≡ clauses P)
told_passes (clauses P) e = (P, refl)
told_passes (refused_at k i) e = absurd (let z : ◌≡◌ {A = ℕ} 0 1 = cc in let w : ⊥ = omega arith in w)

pub told_stops : (p : Program) (k i : ℕ) → told p ≡ stops k i → p ≡ refused_at k i
told_stops (clauses P) k i e = absurd (let z : ◌≡◌ {A = ℕ} 0 1 = cc in let w : ⊥ = omega arith in w)
told_stops (refused_at j m) k i e = cc

-- the clauses are those of the records, in their order
records_read : (n i : ℕ) (rs : List (List ℕ)) (P : List Clause) → records n i rs ≡ clauses P → map (rule n) rs ≡ map read P
unfolding records
records_read n i [] P e = ap (map read) (inner [] P e)
  where
    inner : (Q R : List Clause) → clauses Q ≡ clauses R → Q ≡ R
    inner Q R q = cc
records_read n i (r ∷ rs) P e = go (rule n r) refl (records n (suc i) rs) refl (λ Q q. records_read n (suc i) rs Q q) e
  where
    go : (x : Reading Clause) → rule n r ≡ x → (p : Program) → records n (suc i) rs ≡ p → ((Q : List Clause) → records n (suc i) rs ≡ clauses Q → map (rule n) rs ≡ map read Q)
        → and_then x i p ≡ clauses P → map (rule n) (r ∷ rs) ≡ map read P
    go (read C) d (clauses Q) q h f = ap₂ ◌∷◌ d (h Q q) ∙ ap (map read) (inner (C ∷ Q) P f)
      where
        inner : (Q R : List Clause) → clauses Q ≡ clauses R → Q ≡ R
        inner Q R q = cc
    go (read C) d (refused_at k j) q h f = absurd (let z : ◌≡◌ {A = ℕ} 0 1 = cc in let w : ⊥ = omega arith in w)
    go (refused k) d p q h f = absurd (let z : ◌≡◌ {A = ℕ} 0 1 = cc in let w : ⊥ = omega arith in w)

same_maps : (n : ℕ) (rs : List (List ℕ)) (P : List Clause) → map (rule n) rs ≡ map read P
    → (length rs ≡ length P) × ((i : ℕ) → i < length rs → (d : Clause) → rule n (get_or rs i []) ≡ read (get_or P i d))
same_maps n [] [] e = (refl, λ i h d. absurd (omega arith))
same_maps n [] (C ∷ P) e = absurd (let z : ◌≡◌ {A = ℕ} 0 1 = cc in let w : ⊥ = omega arith in w)
same_maps n (r ∷ rs) [] e = absurd (let z : ◌≡◌ {A = ℕ} 0 1 = cc in let w : ⊥ = omega arith in w)
same_maps n (r ∷ rs) (C ∷ P) e = let t = same_maps n rs P (cc) in let h : rule n r ≡ read C = cc in (ap suc t.0, at h t.1)
  where
    at : rule n r ≡ read C → ((i : ℕ) → i < length rs → (d : Clause) → rule n (get_or rs i []) ≡ read (get_or P i d))
        → (i : ℕ) → i < suc (length rs) → (d : Clause) → rule n (get_or (r ∷ rs) i []) ≡ read (get_or (C ∷ P) i d)
    at h t zero l d = h
    at h t (suc i) l d = t i (omega arith) d

-- a rule set that passes: as many clauses as records, and record i is read as clause i
pub record Spelled (n : ℕ) (s : List ℕ) (P : List Clause) : Type 0 where
  pub many : length P ≡ length s / 64
  pub each : (i : ℕ) → i < length s / 64 → (d : Clause) → rule n (row 64 i s) ≡ read (get_or P i d)

pub program_read : (n : ℕ) (s : List ℕ) (P : List Clause) → program n s ≡ clauses P → Spelled n s P
unfolding program
program_read n s P e =
    let m = same_maps n (rows 64 (length s / 64) s) P (records_read n 0 (rows 64 (length s / 64) s) P e) in
    let l : length (rows 64 (length s / 64) s) ≡ length s / 64 = length_rows 64 (length s / 64) s in
    record {
      many = sym m.0 ∙ l;
      each = λ i h d. ap (rule n) (sym (rows_at 64 (length s / 64) i s h)) ∙ m.1 i (rw l h) d;
    }

-- a rule set that is refused: record i is, and every record before it is read
pub record First (n : ℕ) (rs : List (List ℕ)) (k m : ℕ) : Type 0 where
  pub inside : m < length rs
  pub here : rule n (get_or rs m []) ≡ refused k
  pub before : (j : ℕ) → j < m → (C : Clause) × (rule n (get_or rs j []) ≡ read C)

records_refused : (n i : ℕ) (rs : List (List ℕ)) (k j : ℕ) → records n i rs ≡ refused_at k j → (m : ℕ) × (j ≡ i + m) × First n rs k m
unfolding records
records_refused n i [] k j e = absurd (let z : ◌≡◌ {A = ℕ} 0 1 = cc in let w : ⊥ = omega arith in w)
records_refused n i (r ∷ rs) k j e = go (rule n r) refl (records n (suc i) rs) refl (λ q. records_refused n (suc i) rs k j q) e
  where
    earlier : (C : Clause) → rule n r ≡ read C → (m : ℕ) → First n rs k m → (l : ℕ) → l < suc m → (D : Clause) × (rule n (get_or (r ∷ rs) l []) ≡ read D)
    earlier C d m f zero h = (C, d)
    earlier C d m f (suc l) h = f.before l (omega arith)

    later : (C : Clause) → rule n r ≡ read C → (m : ℕ) × (j ≡ suc i + m) × First n rs k m → (m : ℕ) × (j ≡ i + m) × First n (r ∷ rs) k m
    later C d t =
        let f : First n (r ∷ rs) k (suc t.0) = record { inside = omega (arith, t.2.inside); here = t.2.here; before = earlier C d t.0 t.2 } in
        let q : j ≡ i + suc t.0 = omega (arith, t.1) in
        (suc t.0, q, f)

    go : (x : Reading Clause) → rule n r ≡ x → (p : Program) → records n (suc i) rs ≡ p → (records n (suc i) rs ≡ refused_at k j → (m : ℕ) × (j ≡ suc i + m) × First n rs k m)
        → and_then x i p ≡ refused_at k j → (m : ℕ) × (j ≡ i + m) × First n (r ∷ rs) k m
    go (read C) d (clauses Q) q h f = absurd (let z : ◌≡◌ {A = ℕ} 0 1 = cc in let w : ⊥ = omega arith in w)
    go (read C) d (refused_at l o) q h f = later C d (h (q ∙ f))
    go (refused l) d p q h f =
        let w : First n (r ∷ rs) k 0 = record { inside = omega arith; here = d ∙ ap refused (cc); before = λ l h. absurd (omega arith) } in
        let q : i ≡ j = cc in
        let z : j ≡ i + 0 = omega arith in
        (0, z, w)

pub program_refused : (n : ℕ) (s : List ℕ) (k i : ℕ) → program n s ≡ refused_at k i → First n (rows 64 (length s / 64) s) k i
unfolding program
program_refused n s k i e =
    let t = records_refused n 0 (rows 64 (length s / 64) s) k i e in
    let q : t.0 ≡ i = omega (arith, t.1) in
    subst (First n (rows 64 (length s / 64) s) k) q t.2

-- ---- an order

length_opened_all : {A : Type 0} (one : ℕ → A) (plus : A → A → A) (none : A) (Δ : List Goal) → length (opened_all one plus none Δ) ≡ ways_all Δ
unfolding opened_all ways_all
length_opened_all one plus none [] = refl
length_opened_all one plus none (G ∷ Δ) =
    length_sums plus _ (opened_all one plus none Δ) ∙ ap₂ (λ (x y : ℕ). x * y) (length_opened one plus G) (length_opened_all one plus none Δ)

-- no count of an order's branches is above 64
pub order_low_64 : (n : ℕ) (s : List ℕ) (Δ : List Goal) → Ordered n s Δ → every (λ r. not (over 64 r)) (order_rows Δ) ≡ true
order_low_64 n s Δ o = order_low 64 Δ (omega (arith, o.short, ap length o.bytes))

-- ---- a test of all rows is a test of all branches of `logic`

pub branch_every : (p : List ℕ → Bool) (G : Goal) → every p (branch_rows G) ≡ every (λ b. p (set_of b)) (branches G)
branch_every p G = ap (every p) (branch_rows_are G) ∙ every_map p set_of (branches G)

pub order_every : (p : List ℕ → Bool) (Δ : List Goal) → every p (order_rows Δ) ≡ every (λ b. p (set_of b)) (branches_c Δ)
order_every p Δ = ap (every p) (order_rows_are Δ) ∙ every_map p set_of (branches_c Δ)
