-- What the reading of a body, a rule record and a rule set comes to, by the answers that the code gets.
use mathlib.Core.Path.{◌≡◌, refl, sym, ap, ◌∙◌}
use mathlib.Core.List.{List, []}
use mathlib.Core.Bool.{Bool, true, false, cond}
use Prim.Native.Nat.{ℕ, ◌+◌, ◌-◌, ◌/◌, ◌≤◌, ◌<◌}
use native.Mathlib.Nat.{le_refl}
use native.Mathlib.Numerals.{add-one}
use native.Mathlib.Omega.{arith}
use lib.ListN.{length, get_or, take, drop, replicate, length-append, length-drop, drop_of_length-le}
use lib.Seq.{drop-cons, take_all}
use Rattle.std.specs.Prelude.{Some, None}
use Rattle.std.specs.Simd.{first_chunks}
use Rattle.tokens.proofs.RowLaws.{chunks_rows}
use Rattle.logic.specs.Goals.{Goal, Clause}
use Rattle.logic.specs.Branches.{opened}
use Rattle.goals.specs.Parsing.{Parsed, goal, fault, parse_at}
use Rattle.goals.specs.Limits.{within}
use Rattle.goals.specs.Readings.{Reading, read, refused, ◌>>=◌, padded, head, ends, body, rule, Program, clauses, refused_at, also, and_then, records, program}
use Rattle.rounds.specs.Round.{Rule}
use Rattle.goals.specs.Sets.{one, set_of, branch_rows, opening, opened_rule}
use Rattle.goals.specs.Answers.{passes, stops, told}
use Rattle.goals.specs.Views.{capped, View, view, allowed, opened_head, opened_body}
use Rattle.goals.specs.Printing.{print}
use Rattle.goals.proofs.Readings.{was_read, was_refused}
use Rattle.goals.proofs.PrintLaws.{body_printed}
use Rattle.goals.proofs.RowLaws.{branch_capped}
use Rattle.goals.proofs.ViewLaws.{listed, listed_allowed}

-- ---- a body

-- what a body's goal makes of it, if 255 stands after the goal
abbrev pub body_view : List ℕ → View → Reading (List (List ℕ))
body_view s None = refused 5
body_view s (Some (l, m)) = cond (padded (drop m s)) (listed l) (refused 5)

pub body_on : (n : ℕ) (s : List ℕ) → opened_body n s ≡ body_view s (view (parse_at n s 0))
unfolding opened_body body
body_on n s = by (parse_at n s 0)
  where
    by : (x : Parsed) → (ends s x >>= λ G. cond (within 16 G) (read (opened one capped G)) (refused 6)) ≡ body_view s (view x)
    by fault = refl
    by (goal G m) = after (padded (drop m s))
      where
        after : (t : Bool) → (cond t (read G) (refused 5) >>= λ H. cond (within 16 H) (read (opened one capped H)) (refused 6))
            ≡ cond t (listed (allowed (within 16 G) (opened one capped G))) (refused 5)
        after true = sym (listed_allowed (within 16 G) (opened one capped G))
        after false = refl

-- ---- a rule record

-- a head as a set and branches, as a rule
abbrev pub opens_as : List ℕ → List (List ℕ) → Reading Rule
opens_as x l = read (record { head = x; branches = l })

abbrev clause : List ℕ → Goal → Clause
clause h G = record { head = h; body = G }

-- "Bytes 16 to 63": the part of the record that starts in its middle
pub body_part : (s : List ℕ) → take (length s - 16) (drop 16 s) ≡ drop 16 s
body_part s = take_all (length s - 16) (drop 16 s) (rw length-drop (le_refl _))

module _ (n : ℕ) (s : List ℕ) (h : length s ≡ 64) where
  -- no sum of a body's 48 bytes is cut
  uncut : (G : Goal) → body n (drop 16 s) ≡ read G → opened one capped G ≡ branch_rows G
  uncut G e =
      let p = body_printed n (drop 16 s) G e in
      branch_capped G (omega (arith, h, length-drop 16 s, ap length p.bytes, length-append (print G) (replicate p.padding 255)))

  -- the head, and then the body
  pub in_order : opened_rule n s ≡ (opened_head n (take 16 s) >>= λ x. opened_body n (take (length s - 16) (drop 16 s)) >>= opens_as x)
  unfolding opened_head opened_body opened_rule rule opening
  in_order =
      sym (by (head n (take 16 s)) (body n (drop 16 s)) uncut)
      ∙ ap (λ (b : List ℕ). opened_head n (take 16 s) >>= λ x. opened_body n b >>= opens_as x) (sym (body_part s))
    where
      limit : (x : List ℕ) (G : Goal) (t : Bool) → opened one capped G ≡ branch_rows G
          → (cond t (read (opened one capped G)) (refused 6) >>= opens_as (set_of x))
          ≡ (cond t (read (clause x G)) (refused 6) >>= λ C. opens_as (set_of C.head) (branch_rows C.body))
      limit x G true e = ap (opens_as (set_of x)) e
      limit x G false e = refl

      by : (x : Reading (List ℕ)) (y : Reading Goal) → ((G : Goal) → y ≡ read G → opened one capped G ≡ branch_rows G)
          → ((x >>= λ k. read (set_of k)) >>= λ k. (y >>= λ G. cond (within 16 G) (read (opened one capped G)) (refused 6)) >>= opens_as k)
          ≡ ((x >>= λ k. y >>= λ G. cond (within 16 G) (read (clause k G)) (refused 6)) >>= λ C. opens_as (set_of C.head) (branch_rows C.body))
      by (refused k) y e = refl
      by (read x) (refused k) e = refl
      by (read x) (read G) e = limit x G (within 16 G) (e G refl)

-- ---- a rule set

told_also : (C : Clause) (p : Program) → told (also C p) ≡ told p
told_also C (clauses P) = refl
told_also C (refused_at k i) = refl

module _ (n : ℕ) (rs : List (List ℕ)) (i : ℕ) where
  next_record : i < length rs → records n i (drop i rs) ≡ and_then (rule n (get_or rs i [])) i (records n (i + 1) (drop (i + 1) rs))
  unfolding records
  next_record h =
      ap (records n i) (drop-cons rs i [] h)
      ∙ ap (λ (j : ℕ). and_then (rule n (get_or rs i [])) i (records n j (drop j rs))) (sym (add-one i))

  -- a record that is refused stops the reading
  pub set_stops : (k : ℕ) → i < length rs → refused k ≡ opened_rule n (get_or rs i []) → stops k i ≡ told (records n i (drop i rs))
  unfolding opened_rule
  set_stops k h e =
      sym (ap told (next_record h ∙ ap (λ x. and_then x i (records n (i + 1) (drop (i + 1) rs))) (was_refused (rule n (get_or rs i [])) opening k e)))

  -- and past one that is read it goes on
  pub set_goes_on : (R : Rule) → i < length rs → read R ≡ opened_rule n (get_or rs i []) → told (records n i (drop i rs)) ≡ told (records n (i + 1) (drop (i + 1) rs))
  unfolding opened_rule
  set_goes_on R h e =
      let C = was_read (rule n (get_or rs i [])) opening R e in
      ap told (next_record h ∙ ap (λ x. and_then x i (records n (i + 1) (drop (i + 1) rs))) C.1) ∙ told_also C.0 (records n (i + 1) (drop (i + 1) rs))

  pub set_ends : length rs ≤ i → told (records n i (drop i rs)) ≡ passes
  unfolding records
  set_ends h = rw (drop_of_length-le rs h)

pub set_starts : (n : ℕ) (s : List ℕ) (rs : List (List ℕ)) → rs ≡ first_chunks 64 (length s / 64) s → told (program n s) ≡ told (records n 0 rs)
unfolding program
set_starts n s rs e = ap (λ (l : List (List ℕ)). told (records n 0 l)) (sym (chunks_rows 64 (length s / 64) s) ∙ sym e)
