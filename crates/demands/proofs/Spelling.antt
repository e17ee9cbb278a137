-- What is known of clauses that rule bytes spell, and of the rules into which they open.
use Prim.Native.Nat.{ℕ, suc, ◌+◌, ◌≤◌, ◌<◌}
use native.Mathlib.Omega.{arith}
use mathlib.Core.Bool.{true}
use mathlib.Core.Path.{◌≡◌, sym, ap, subst, fun_ext, ◌∙◌}
use mathlib.Core.List.Memᴰ
use mathlib.Core.List.{List, map}
use lib.ListN.{length, get_or}
use Rattle.tokens.specs.Tables.{every, blank_from, Wide}
use Rattle.tokens.specs.Rows.{row}
use Rattle.tokens.proofs.TableLaws.{mem_every}
use Rattle.logic.specs.Facts.{occ}
use Rattle.logic.specs.Goals.{Clause, ◌∈◌}
use Rattle.logic.proofs.Multisets.{mem_map_cases}
use Rattle.logic.proofs.FewKinds.{Below, HeadsBelow}
use Rattle.tokens.proofs.BlankLaws.{at_blank}
use Rattle.goals.specs.Codes.{is_kind}
use Rattle.goals.specs.Readings.{read, clauses, program}
use Rattle.goals.specs.Sets.{set_of, opening}
use Rattle.goals.specs.Printing.{below}
use Rattle.goals.proofs.RowLaws.{length_set_of, set_of_fact, set_of_from, branch_wide}
use Rattle.goals.proofs.CallerLaws.{rule_printed, program_read}
use Rattle.rounds.specs.Round.{Rule}
use Rattle.rounds.proofs.RoundLaws.{Sized}
use Rattle.demands.specs.Facts.{fact}
use Rattle.demands.proofs.RowFacts.{fact_below}

-- "the head: 1 to 16 kinds", each below n, and a body of kinds below n
pub record Spelt (n : ℕ) (c : Clause) : Type 0 where
  pub some : 1 ≤ length c.head
  pub heads : every (is_kind n) c.head ≡ true
  pub bodies : below n c.body ≡ true

-- where an element of a list stands
place : {A : Type 0} {a : A} {l : List A} → a ∈ l → (i : ℕ) × (i < length l) × (get_or l i a ≡ a)
place (Memᴰ.head e) = (0, omega arith, sym e)
place (Memᴰ.tail m) = let r = place m in (suc r.0, omega (arith, r.1), r.2)

-- each clause that rule bytes spell is so
pub spelt : (n : ℕ) (bytes : List ℕ) (P : List Clause) → program n bytes ≡ clauses P → (c : Clause) → c ∈ P → Spelt n c
spelt n bytes P e c m =
    let s = program_read n bytes P e in
    let i = place m in
    let r = rule_printed n (row 64 i.0 bytes) c (s.each i.0 (omega (arith, i.1, s.many)) c ∙ ap read i.2) in
    record { some = r.heading.some; heads = r.heading.kinds; bodies = r.printed.kinds }

module _ (n : ℕ) (P : List Clause) (known : (c : Clause) → c ∈ P → Spelt n c) where
  -- the set of a head has the head's fact
  pub head_fact : (c : Clause) → c ∈ P → fact (set_of c.head) ≡ occ c.head
  head_fact c m = fun_ext (set_of_fact n c.head (known c m).heads)

  -- 32 kinds are enough for the heads
  pub heads_32 : HeadsBelow 32 P
  heads_32 c m = subst (Below 32) (head_fact c m) (fact_below 32 (set_of c.head) (length_set_of c.head))

  -- "kinds from n on are 0" in the sets of the heads
  pub heads_blank : every (λ rule. blank_from n rule.head) (map opening P) ≡ true
  unfolding opening
  heads_blank = mem_every (λ rule. blank_from n rule.head) (map opening P) (λ rule m.
      let r = mem_map_cases opening P m in
      ap (λ (q : Rule). blank_from n q.head) r.2 ∙ at_blank n (set_of r.0.head) (λ k. set_of_from n r.0.head (known r.0 r.1).heads (n + k) (omega arith)))

-- heads and branches are rows of 32 counts
pub sized : (P : List Clause) → Sized (map opening P)
unfolding opening
sized P = record {
  heads = λ rule m. let r = mem_map_cases opening P m in ap (λ (q : Rule). length q.head) r.2 ∙ length_set_of r.0.head;
  bodies = λ rule m. let r = mem_map_cases opening P m in subst (λ (q : Rule). Wide 32 q.branches) (sym r.2) (branch_wide r.0.body);
}
