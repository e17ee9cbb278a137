-- The fact of a row: what sets and tables say is what 001 says of their facts.
use Prim.Native.Nat.{ℕ, zero, suc}
use native.Mathlib.Omega.{arith}
use mathlib.Core.Bool.{true}
use mathlib.Core.Path.{◌≡◌, refl, sym, ap, subst, fun_ext, ◌∙◌}
use mathlib.Core.List.{List, [], ◌∷◌}
use mathlib.Core.Logic.{◌↔◌}
use lib.ListN.{length, get_or, get_or-eq_default}
use Rattle.tokens.specs.Sets.{empty, included, minus, join, plus}
use Rattle.tokens.specs.Tables.{covered, Wide}
use Rattle.tokens.proofs.SetLaws.{empty_at, included_at, at_included, minus_at, join_at, plus_at, same_at}
use Rattle.tokens.proofs.TableLaws.{covering, covers, wide_mem, Orderly}
use Rattle.tokens.proofs.UniqueLaws.{apart_mem}
use Rattle.logic.specs.Facts.{Fact, ◌≼◌, ϵ, ◌⊕◌, ◌∖◌, ◌•◌}
use Rattle.logic.specs.Goals.{◌∈◌}
use Rattle.logic.specs.Order.{Covers, Listed}
use Rattle.logic.proofs.OrderLaws.{listed_covers}
use Rattle.logic.proofs.FewKinds.{Below}
use Rattle.demands.specs.Facts.{fact}

-- ---- sets

-- "Set A is included in B when no count of A exceeds B's" is 001's ≼
pub included_fact : (a b : List ℕ) → (included a b ≡ true) ↔ (fact a ≼ fact b)
included_fact a b = (included_at a b, at_included a b)

pub empty_fact : fact empty ≡ ϵ
empty_fact = fun_ext empty_at

-- the sum, the minus and the join of 01 are 001's +, ∖ and •
pub plus_fact : (a b : List ℕ) → fact (plus a b) ≡ fact a ⊕ fact b
plus_fact a b = fun_ext (plus_at a b)

pub minus_fact : (a b : List ℕ) → fact (minus a b) ≡ fact a ∖ fact b
minus_fact a b = fun_ext (minus_at a b)

pub join_fact : (a b : List ℕ) → fact (join a b) ≡ fact a • fact b
join_fact a b = fun_ext (join_at a b)

-- ---- rows of 32 counts and facts below 32 kinds are the same

-- two rows of one width with the same fact are one
pub fact_only : (a b : List ℕ) → length a ≡ length b → fact a ≡ fact b → a ≡ b
fact_only a b h e = same_at a b h (λ k. ap (λ (f : Fact). f k) e)

pub fact_below : (w : ℕ) (r : List ℕ) → length r ≡ w → Below w (fact r)
fact_below w r h k i = get_or-eq_default r 0 (omega (arith, h, i))

-- the row of w counts that a fact has below kind w
pub row_of : ℕ → Fact → List ℕ
row_of zero X = []
row_of (suc w) X = X 0 ∷ row_of w (λ k. X (suc k))

row_of_at : (w : ℕ) (X : Fact) → Below w X → (k : ℕ) → get_or (row_of w X) k 0 ≡ X k
unfolding row_of
row_of_at zero X h k = sym (h k (omega arith))
row_of_at (suc w) X h zero = refl
row_of_at (suc w) X h (suc k) = row_of_at w (λ j. X (suc j)) (λ j i. h (suc j) (omega (arith, i))) k

-- a fact below w kinds is the fact of a row of w counts
pub row_of_fact : (w : ℕ) (X : Fact) → Below w X → fact (row_of w X) ≡ X
row_of_fact w X h = fun_ext (row_of_at w X h)

-- ---- tables

-- "A set is covered by a table when some row is included in it": its fact is in ⟦T⟧, T being the facts of the rows
pub covered_fact : (t : List (List ℕ)) (y : List ℕ) → (covered t y ≡ true) ↔ Covers (Listed fact t) (fact y)
covered_fact t y = (
  λ e. let w = covering t y e in (listed_covers fact t (fact y)).1 (w.0, w.1, included_at w.0 y w.2),
  λ c. let w = (listed_covers fact t (fact y)).0 c in covers w.1 y (at_included w.0 y w.2),
)

pub listed_below : (w : ℕ) (t : List (List ℕ)) → Wide w t → (B : Fact) → Listed fact t B → Below w B
listed_below w t h B b = subst (Below w) (sym b.2) (fact_below w b.0 (wide_mem h b.1))

-- a row is in the table exactly if it is as wide and its fact is one of the table's
pub listed_row : (w : ℕ) (t : List (List ℕ)) → Wide w t → (x : List ℕ) → (x ∈ t) ↔ ((length x ≡ w) × Listed fact t (fact x))
listed_row w t h x = (
  λ m. (wide_mem h m, (x, m, refl)),
  λ p. let r = p.1 in subst (λ (y : List ℕ). y ∈ t) (sym (fact_only x r.0 (p.0 ∙ sym (wide_mem h r.1)) r.2)) r.1,
)

-- "no row is included in another": of the facts of such a table none is included in another
pub listed_apart : (t : List (List ℕ)) → Orderly t → (X Y : Fact) → Listed fact t X → Listed fact t Y → X ≼ Y → X ≡ Y
listed_apart t o X Y a b h =
    let le : fact a.0 ≼ fact b.0 = subst (λ (Z : Fact). Z ≼ fact b.0) a.2 (subst (λ (Z : Fact). X ≼ Z) b.2 h) in
    a.2 ∙ ap fact (apart_mem t o.antichain a.0 b.0 a.1 b.1 (at_included a.0 b.0 le)) ∙ sym b.2
