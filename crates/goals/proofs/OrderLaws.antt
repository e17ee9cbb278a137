-- What the reading of an order comes to, and what the loop over its goals keeps.
use mathlib.Core.Path.{◌≡◌, refl, sym, ap, ap₂, ◌∙◌}
use mathlib.Core.List.{List, [], ◌∷◌}
use mathlib.Core.Bool.{Bool, true, false, ◌&&◌, cond, and-true}
use Prim.Native.Nat.{ℕ, suc, pred, ◌+◌, ◌*◌, ◌≤◌, ◌<◌}
use native.Mathlib.Omega.{arith}
use lib.Dec.{leb}
use lib.ListN.{length}
use borrow.Author.Tests.{le-leb, lt-leb}
use Rattle.std.specs.Prelude.{Option, Some, None}
use Rattle.std.proofs.lemmas.Option.{some_pair_parts}
use Rattle.tokens.specs.Sets.{empty}
use Rattle.logic.specs.Goals.{Goal}
use Rattle.logic.specs.Branches.{sums, opened, ways}
use Rattle.logic.proofs.BranchLaws.{length_sums, length_opened, opened_from}
use Rattle.goals.specs.declared.branches.Branches.{Branches}
use Rattle.goals.specs.declared.Op.TheVariants.{Together}
use Rattle.goals.specs.Parsing.{Parsed, goal, fault, parse_at}
use Rattle.goals.specs.Limits.{within, runs_within}
use Rattle.goals.specs.Readings.{Reading, read, refused, ◌>>=◌, first, goals, order}
use Rattle.goals.specs.Sets.{one, order_rows, opened_order}
use Rattle.goals.specs.Views.{capped, list_of, allowed, view, combined}
use Rattle.goals.proofs.PrintLaws.{goals_end, goals_on, goals_printed}
use Rattle.goals.proofs.RowLaws.{from_left, order_capped}
use Rattle.goals.proofs.ViewLaws.{run_joined, view_past, listed, listed_allowed}

-- what is to be said of a run with the branches l, if it is allowed, and of the goals after it
abbrev with_run : Bool → List (List ℕ) → Reading (List Goal) → Reading (List (List ℕ))
with_run ok l x = x >>= λ Δ. cond (ok && runs_within 16 (length l) Δ) (read (opened_from one capped l Δ)) (refused 6)

-- one goal more in the run
with_more : (ok : Bool) (l : List (List ℕ)) (G : Goal) (x : Reading (List Goal))
    → with_run ok l (x >>= λ Δ. read (G ∷ Δ)) ≡ with_run (ok && (within 16 G && leb (length l * ways G) 16)) (sums capped l (opened one capped G)) x
unfolding runs_within opened_from
with_more ok l G (refused k) = refl
with_more ok l G (read Δ) =
    ap (λ t. cond t (read (opened_from one capped (sums capped l (opened one capped G)) Δ)) (refused 6))
    (regroup ok (within 16 G) (leb (length l * ways G) 16) (runs_within 16 (length l * ways G) Δ)
    ∙ ap (λ (w : ℕ). (ok && (within 16 G && leb (length l * ways G) 16)) && runs_within 16 w Δ) (sym (length_sums capped l (opened one capped G) ∙ ap (λ (w : ℕ). length l * w) (length_opened one capped G))))
  where
    regroup : (a b c d : Bool) → (a && (b && (c && d))) ≡ ((a && (b && c)) && d)
    regroup true true c d = refl
    regroup true false c d = refl
    regroup false b c d = refl

-- the run before `at` opens into rows, and it and the goals from there on give the order
pub record Run (n : ℕ) (s : List ℕ) (at : ℕ) (run : Option Branches) : Type 0 where
  pub inside : at ≤ length s
  pub ok : Bool
  pub rows : List (List ℕ)
  pub said : list_of run ≡ allowed ok rows
  pub fuel : ℕ
  pub enough : length s < at + fuel
  pub rest : opened_order n s ≡ with_run ok rows (goals fuel n s at)

module _ (n : ℕ) (s : List ℕ) where
  pub order_long : 64 < length s → opened_order n s ≡ refused 10
  unfolding opened_order order
  order_long h = rw (lt-leb _ _ h)

  module _ (h : length s ≤ 64) where
    -- no sum of an order's 64 bytes is cut, and the run of no goals has one branch
    from_start : (x : Reading (List Goal)) → goals (suc (length s)) n s 0 ≡ x
        → ((x >>= λ Δ. cond (runs_within 16 1 Δ) (read Δ) (refused 6)) >>= λ Δ. read (order_rows Δ)) ≡ with_run true (empty ∷ []) x
    from_start (refused k) e = refl
    from_start (read Δ) e =
        let p = goals_printed (suc (length s)) n s 0 Δ e in
        limit (runs_within 16 1 Δ) (sym (order_capped Δ (omega (arith, ap length p.bytes))) ∙ sym (from_left Δ))
      where
        limit : (t : Bool) {l : List (List ℕ)} → order_rows Δ ≡ l → (cond t (read Δ) (refused 6) >>= λ Δ. read (order_rows Δ)) ≡ cond t (read l) (refused 6)
        limit true q = ap read q
        limit false q = refl

    pub run_start : (run : Option Branches) → list_of run ≡ Some (empty ∷ []) → Run n s 0 run
    unfolding opened_order order
    run_start run e =
        record {
          inside = omega arith;
          ok = true;
          rows = empty ∷ [];
          said = e;
          fuel = suc (length s);
          enough = omega arith;
          rest = rw (le-leb _ _ h) (from_start (goals (suc (length s)) n s 0) refl);
        }

module _ (n : ℕ) (s : List ℕ) (at : ℕ) (run : Option Branches) (r : Run n s at run) where
  pub run_done : length s ≤ at → opened_order n s ≡ listed (list_of run)
  unfolding runs_within opened_from
  run_done h =
      r.rest ∙ ap (with_run r.ok r.rows) (goals_end r.fuel n s at r.enough h r.inside) ∙ ap (λ t. cond t (read r.rows) (refused 6)) (and-true r.ok)
      ∙ sym (ap listed r.said ∙ listed_allowed r.ok r.rows)

  module _ (lt : at < length s) where
    on : (x : Parsed) → parse_at n s at ≡ x → opened_order n s ≡ with_run r.ok r.rows (first x (goals (pred r.fuel) n s))
    on x e =
        r.rest ∙ ap (with_run r.ok r.rows) (goals_on r.fuel n s at r.enough lt) ∙ ap (λ y. with_run r.ok r.rows (first y (goals (pred r.fuel) n s))) e

    pub run_bad : None ≡ view (parse_at n s at) → opened_order n s ≡ refused 10
    run_bad e = by (parse_at n s at) refl e
      where
        by : (x : Parsed) → parse_at n s at ≡ x → None ≡ view x → opened_order n s ≡ refused 10
        by fault d q = on fault d
        by (goal G m) d q = cc

    pub run_on : (l : Option (List (List ℕ))) (m : ℕ) → Some (l, m) ≡ view (parse_at n s at)
        → (run' : Option Branches) → list_of run' ≡ combined Together (list_of run) l → Run n s m run'
    run_on l m e run' j = by (parse_at n s at) refl e
      where
        by : (x : Parsed) → parse_at n s at ≡ x → Some (l, m) ≡ view x → Run n s m run'
        by fault d q = cc
        by (goal G k) d q =
            let q = some_pair_parts l (allowed (within 16 G) (opened one capped G)) m k q in
            let p = view_past n s at l m e in
            record {
              inside = p.1;
              ok = r.ok && (within 16 G && leb (length r.rows * ways G) 16);
              rows = sums capped r.rows (opened one capped G);
              said = j ∙ ap₂ (combined Together) r.said q.0 ∙ run_joined r.ok r.rows G;
              fuel = pred r.fuel;
              enough = omega (arith, p.0, r.enough);
              rest = rw q.1 (on (goal G k) d ∙ with_more r.ok r.rows G (goals (pred r.fuel) n s k));
            }
