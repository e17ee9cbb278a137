-- One round in 001's words, and why closing stops.
use Prim.Native.Nat.{ℕ, suc, ◌<◌}
use native.Mathlib.Omega.{arith}
use mathlib.Core.Bool.{true, false}
use mathlib.Core.Path.{◌≡◌, refl}
use mathlib.Core.List.{List, [], ◌∷◌, map}
use mathlib.Core.Logic.{⊎_elim}
use lib.Dec.{ltb, eqb}
use lib.ListN.{get_or}
use borrow.Author.Tests.{ltb-true, eqb-true, eqb-false}
use Rattle.tokens.specs.Sets.{over}
use Rattle.tokens.specs.Tables.{covered, well_formed}
use Rattle.tokens.proofs.Tests.{or_cases, never}
use Rattle.tokens.proofs.FormLaws.{formed, formed_orderly, formed_blank}
use Rattle.logic.specs.Goals.{Clause, ◌∈◌}
use Rattle.logic.specs.Order.{Covers, Listed}
use Rattle.goals.specs.Readings.{clauses, program}
use Rattle.goals.specs.Sets.{opening}
use Rattle.rounds.specs.Round.{limits, going, Limits, Growth, round}
use Rattle.rounds.specs.Ends.{Refused}
use Rattle.rounds.proofs.RoundLaws.{round_orderly, round_blank}
use Rattle.rounds.proofs.StopLaws.{Reason, too_many, too_large, too_late, round_reasons}
use Rattle.table.specs.Calls.{saved}
use Rattle.demands.specs.Facts.{fact}
use Rattle.demands.specs.Statements.{Why, full, large, spent, OneRound}
use Rattle.demands.proofs.RowFacts.{covered_fact}
use Rattle.demands.proofs.Spelling.{Spelt, spelt, heads_blank}
use Rattle.demands.proofs.ExactFacts.{rules_S}
use Rattle.demands.proofs.RoundFacts.{round_minimal, round_grew}
use Rattle.demands.proofs.SavedLaws.{saved_wide}

-- ---- one round over saved rows

pub round_says : (n : ℕ) (rules : List ℕ) (P : List Clause) → program n rules ≡ clauses P → (bytes : List ℕ) (limits : Limits) (u : Growth)
    → round limits false (map opening P) (saved bytes) ≡ going u → well_formed n (saved bytes) ≡ true → OneRound rules bytes n u
round_says n rules P e bytes limits u d f =
    let s = spelt n rules P e in
    let o = formed_orderly n (saved bytes) f in
    record {
      P = P;
      spelled = e;
      formed = formed n u.rows (round_orderly limits false (map opening P) (saved bytes) u d o) (round_blank n limits false (map opening P) (saved bytes) u d (heads_blank n P s) (formed_blank n (saved bytes) f));
      rows = round_minimal n P s limits false (saved bytes) u d (saved_wide bytes) o;
      grew = round_grew n P s limits false (saved bytes) u d (saved_wide bytes);
    }

-- ---- why closing stops

-- a count exceeds m
over_some : (m : ℕ) (a : List ℕ) → over m a ≡ true → (k : ℕ) × (m < get_or a k 0)
unfolding over
over_some m [] e = never false e refl
over_some m (x ∷ a) e = ⊎_elim (λ p. (0, ltb-true m x p)) (λ p. let r = over_some m a p in (suc r.0, r.1)) (or_cases (ltb m x) (over m a) e)

pub stops_why : (n : ℕ) (P : List Clause) → ((c : Clause) → c ∈ P → Spelt n c) → (capacity permitted number g : ℕ) (r : Refused (limits capacity) (map opening P) permitted number g)
    → Why P r.table permitted g number
stops_why n P known capacity permitted number g r = go number (round_reasons (limits capacity) (eqb g permitted) (map opening P) r.table number r.stops)
  where
    -- the table does not cover it
    new : (c : List ℕ) → covered r.table c ≡ false → Covers (Listed fact r.table) (fact c) → ⊥
    new c k v = never (covered r.table c) ((covered_fact r.table c).1 v) k

    go : (m : ℕ) → Reason (limits capacity) (eqb g permitted) (map opening P) r.table m → Why P r.table permitted g m
    go m too_many = full
    go m (too_large c o k p q) =
        let w = over_some 255 c q in
        let h = r.few in
        let d = eqb-false g permitted p in
        large (omega arith) (fact c) (rules_S n P known r.table c o) (new c k) w.0 w.1
    go m (too_late c o k p) = spent (eqb-true g permitted p) (fact c) (rules_S n P known r.table c o) (new c k)
