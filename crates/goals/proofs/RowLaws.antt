-- The rows are the branches of `logic` as sets of 32 counts; their form; and no sum of branches is cut.
use mathlib.Core.Path.{◌≡◌, refl, sym, ap, ap₂, ◌∙◌}
use mathlib.Core.Bool.{Bool, true, false, not, ◌&&◌}
use mathlib.Core.List.{List, [], ◌∷◌, ◌++◌, map, append-nil, append_assoc}
use Prim.Native.Nat.{ℕ, zero, suc, ◌+◌, ◌≤◌, ◌<◌}
use native.Mathlib.Nat.{le_trans}
use native.Mathlib.Numerals.{add-one}
use native.Mathlib.Omega.{arith}
use lib.Dec.{ltb, leb, eqb}
use lib.ListN.{length, get_or, set, take, replicate, length-append, length-set}
use lib.Seq.{take-suc, length-take-le, get_or-set_same, get_or-set_other}
use borrow.Author.Tests.{le-leb, leb-true, ltb-true, eqb-true, eqb-false}
use Rattle.tokens.specs.Sets.{empty, plus, cut, over}
use Rattle.tokens.specs.Tables.{every, blank_from, Wide, none, more}
use Rattle.tokens.proofs.Tests.{both, and_l, and_r}
use Rattle.tokens.proofs.SetLaws.{same_at, plus_at, zeros_at, empty_at, length_empty, length_plus, plus_assoc, cut_at, length_cut, at_over, cut_same}
use Rattle.tokens.proofs.TableLaws.{every_imp, every_map}
use Rattle.tokens.proofs.BlankLaws.{at_blank}
use Rattle.tokens.proofs.FormLaws.{every_append}
use Rattle.logic.specs.Facts.{occ, one_if}
use Rattle.logic.specs.Goals.{Goal, kind, ⊤, ◌⅋◌, ◌&◌}
use Rattle.logic.specs.Branches.{sums, opened, opened_all, branches, branches_c}
use Rattle.logic.proofs.BranchLaws.{sums_map, opened_map, opened_all_map, opened_from, opened_from_none}
use Rattle.goals.specs.Codes.{is_kind}
use Rattle.goals.specs.Sets.{one, set_of, branch_rows, order_rows}
use Rattle.goals.specs.Views.{capped}
use Rattle.goals.specs.Printing.{print, prints, below}

-- ---- one kind, and the set of a list of kinds

pub length_one : (k : ℕ) → length (one k) ≡ 32
unfolding one
length_one k = length-set empty k 1 ∙ length_empty

pub one_at : (k j : ℕ) → k < 32 → get_or (one k) j 0 ≡ one_if (eqb k j)
unfolding one
one_at k j h = go (eqb k j) refl
  where
    go : (t : Bool) → eqb k j ≡ t → get_or (set empty k 1) j 0 ≡ one_if t
    go true e = ap (λ (i : ℕ). get_or (set empty k 1) i 0) (sym (eqb-true k j e)) ∙ get_or-set_same empty k 1 0 (rw length_empty h)
    go false e = get_or-set_other empty k j 1 0 (λ q. eqb-false k j e (sym q)) ∙ empty_at j

one_low : (k j : ℕ) → get_or (one k) j 0 ≤ 1
unfolding one empty
one_low k j = low (replicate 32 0) k j (λ i. omega (arith, zeros_at 32 i))
  where
    low : (l : List ℕ) (k j : ℕ) → ((i : ℕ) → get_or l i 0 ≤ 1) → get_or (set l k 1) j 0 ≤ 1
    low [] k j h = omega arith
    low (x ∷ l) zero zero h = omega arith
    low (x ∷ l) zero (suc j) h = h (suc j)
    low (x ∷ l) (suc k) zero h = h zero
    low (x ∷ l) (suc k) (suc j) h = low l k j (λ i. h (suc i))

pub length_set_of : (b : List ℕ) → length (set_of b) ≡ 32
unfolding set_of
length_set_of [] = length_empty
length_set_of (k ∷ b) = length_plus 32 (one k) (set_of b) (length_one k) (length_set_of b)

pub set_of_append : (a b : List ℕ) → set_of (a ++ b) ≡ plus (set_of a) (set_of b)
unfolding set_of
set_of_append [] b = sym (plus_empty (set_of b) (length_set_of b))
  where
    plus_empty : (r : List ℕ) → length r ≡ 32 → plus empty r ≡ r
    plus_empty r h =
        same_at (plus empty r) r (length_plus 32 empty r length_empty h ∙ sym h) (λ k. omega (arith, plus_at empty r k, empty_at k))
set_of_append (k ∷ a) b = ap (plus (one k)) (set_of_append a b) ∙ sym (plus_assoc (one k) (set_of a) (set_of b))

pub set_of_one : (k : ℕ) → set_of (k ∷ []) ≡ one k
unfolding set_of
set_of_one k =
    same_at (plus (one k) empty) (one k) (length_plus 32 (one k) empty (length_one k) length_empty ∙ sym (length_one k))
    (λ j. omega (arith, plus_at (one k) empty j, empty_at j))

-- one more of kind k
added : (r : List ℕ) (k : ℕ) → length r ≡ 32 → k < 32 → set r k (get_or r k 0 + 1) ≡ plus r (one k)
added r k h l =
    same_at (set r k (get_or r k 0 + 1)) (plus r (one k)) (length-set r k (get_or r k 0 + 1) ∙ h ∙ sym (length_plus 32 r (one k) h (length_one k)))
    (λ j. go j (eqb k j) refl ∙ sym (plus_at r (one k) j))
  where
    go : (j : ℕ) (t : Bool) → eqb k j ≡ t → get_or (set r k (get_or r k 0 + 1)) j 0 ≡ get_or r j 0 + get_or (one k) j 0
    go j true e =
        let q : k ≡ j = eqb-true k j e in
        ap (λ (i : ℕ). get_or (set r k (get_or r k 0 + 1)) i 0) (sym q) ∙ get_or-set_same r k (get_or r k 0 + 1) 0 (rw h l)
        ∙ ap₂ ◌+◌ (ap (λ (i : ℕ). get_or r i 0) q) (sym (one_at k j l ∙ ap one_if e))
    go j false e = get_or-set_other r k j (get_or r k 0 + 1) 0 (λ q. eqb-false k j e (sym q)) ∙ omega (arith, one_at k j l ∙ ap one_if e)

-- the set of one kind more of a list
pub set_of_more : (s : List ℕ) (i : ℕ) → i < length s → get_or s i 0 < 32
    → set (set_of (take i s)) (get_or s i 0) (get_or (set_of (take i s)) (get_or s i 0) 0 + 1) ≡ set_of (take (i + 1) s)
set_of_more s i h l =
    let k : ℕ = get_or s i 0 in
    let e : take (i + 1) s ≡ take i s ++ (k ∷ []) = ap (λ (j : ℕ). take j s) (add-one i) ∙ take-suc s i 0 h in
    added (set_of (take i s)) k (length_set_of (take i s)) l
    ∙ sym (set_of_append (take i s) (k ∷ []) ∙ ap (plus (set_of (take i s))) (set_of_one k)) ∙ ap set_of (sym e)

-- the fact of a set is the fact of its list of kinds
pub set_of_fact : (n : ℕ) (b : List ℕ) → every (is_kind n) b ≡ true → (k : ℕ) → get_or (set_of b) k 0 ≡ occ b k
unfolding set_of occ every is_kind
set_of_fact n [] e k = empty_at k
set_of_fact n (j ∷ b) e k =
    plus_at (one j) (set_of b) k
    ∙ ap₂ ◌+◌ (one_at j k (ltb-true j 32 (and_l (ltb j 32) (ltb j n) (and_l (ltb j 32 && ltb j n) _ e)))) (set_of_fact n b (and_r (ltb j 32 && ltb j n) _ e) k)

-- no count exceeds the number of kinds in the list
pub set_of_low : (b : List ℕ) (k : ℕ) → get_or (set_of b) k 0 ≤ length b
unfolding set_of
set_of_low [] k = omega (arith, empty_at k)
set_of_low (j ∷ b) k = omega (arith, plus_at (one j) (set_of b) k, one_low j k, set_of_low b k)

pub set_of_front_low : (s : List ℕ) (i k : ℕ) → i ≤ length s → get_or (set_of (take i s)) k 0 ≤ i
set_of_front_low s i k h = omega (arith, set_of_low (take i s) k, length-take-le i s h)

one_away : (k j : ℕ) → k < j → get_or (one k) j 0 ≡ 0
unfolding one
one_away k j h = get_or-set_other empty k j 1 0 (λ q. omega (arith, q)) ∙ empty_at j

-- no kind from n on
pub set_of_from : (n : ℕ) (b : List ℕ) → every (is_kind n) b ≡ true → (k : ℕ) → n ≤ k → get_or (set_of b) k 0 ≡ 0
unfolding set_of every is_kind
set_of_from n [] e k h = empty_at k
set_of_from n (j ∷ b) e k h =
    let t = and_l (ltb j 32 && ltb j n) _ e in
    let away : get_or (one j) k 0 ≡ 0 = one_away j k (omega (arith, ltb-true j n (and_r (ltb j 32) (ltb j n) t))) in
    omega (arith, plus_at (one j) (set_of b) k, away, set_of_from n b (and_r (ltb j 32 && ltb j n) _ e) k h)

-- ---- the branches of `logic`, as rows

pub branch_rows_are : (G : Goal) → branch_rows G ≡ map set_of (branches G)
unfolding branch_rows
branch_rows_are G = sym (opened_map set_of ◌++◌ plus set_of_append (λ k. k ∷ []) one set_of_one G)

pub order_rows_are : (Δ : List Goal) → order_rows Δ ≡ map set_of (branches_c Δ)
unfolding order_rows set_of
order_rows_are Δ = sym (opened_all_map set_of ◌++◌ plus set_of_append (λ k. k ∷ []) one set_of_one [] empty refl Δ)

-- ---- what holds of every branch

every_both : {A : Type 0} (p : A → Bool) (l m : List A) → every p l ≡ true → every p m ≡ true → every p (l ++ m) ≡ true
every_both p l m e d = every_append p l m ∙ both (every p l) (every p m) e d

module _ (p q r : List ℕ → Bool) (h : (a b : List ℕ) → p a ≡ true → q b ≡ true → r (a ++ b) ≡ true) where
  every_shift : (a : List ℕ) → p a ≡ true → (R : List (List ℕ)) → every q R ≡ true → every r (map (◌++◌ a) R) ≡ true
  unfolding every
  every_shift a e [] d = refl
  every_shift a e (b ∷ R) d = both (r (a ++ b)) _ (h a b e (and_l (q b) _ d)) (every_shift a e R (and_r (q b) _ d))

  every_sums : (L R : List (List ℕ)) → every p L ≡ true → every q R ≡ true → every r (sums ◌++◌ L R) ≡ true
  unfolding every sums
  every_sums [] R e d = refl
  every_sums (a ∷ L) R e d = every_both r (map (◌++◌ a) R) (sums ◌++◌ L R) (every_shift a (and_l (p a) _ e) R d) (every_sums L R (and_r (p a) _ e) d)

kinds_append : (n : ℕ) (a b : List ℕ) → every (is_kind n) a ≡ true → every (is_kind n) b ≡ true → every (is_kind n) (a ++ b) ≡ true
kinds_append n a b e d = every_both (is_kind n) a b e d

-- every kind of a branch is a kind of its goal
pub branch_kinds : (n : ℕ) (G : Goal) → below n G ≡ true → every (every (is_kind n)) (branches G) ≡ true
unfolding opened below every
branch_kinds n (kind k) e = rw e
branch_kinds n ⊤ e = refl
branch_kinds n (G ⅋ H) e =
    every_sums (every (is_kind n)) (every (is_kind n)) (every (is_kind n)) (kinds_append n) (branches G) (branches H)
    (branch_kinds n G (and_l (below n G) _ e)) (branch_kinds n H (and_r (below n G) _ e))
branch_kinds n (G & H) e =
    every_both (every (is_kind n)) (branches G) (branches H) (branch_kinds n G (and_l (below n G) _ e)) (branch_kinds n H (and_r (below n G) _ e))

pub context_kinds : (n : ℕ) (Δ : List Goal) → every (below n) Δ ≡ true → every (every (is_kind n)) (branches_c Δ) ≡ true
unfolding opened_all every
context_kinds n [] e = refl
context_kinds n (G ∷ Δ) e =
    every_sums (every (is_kind n)) (every (is_kind n)) (every (is_kind n)) (kinds_append n) (branches G) (branches_c Δ)
    (branch_kinds n G (and_l (below n G) _ e)) (context_kinds n Δ (and_r (below n G) _ e))

abbrev pub no_longer : ℕ → List ℕ → Bool
no_longer m b = leb (length b) m

longer : (x y z : ℕ) → x + y ≤ z → (a b : List ℕ) → no_longer x a ≡ true → no_longer y b ≡ true → no_longer z (a ++ b) ≡ true
longer x y z h a b e d = le-leb (length (a ++ b)) z (omega (arith, length-append a b, leb-true (length a) x e, leb-true (length b) y d))

-- a longer bound
room : (x z : ℕ) → x ≤ z → (b : List ℕ) → no_longer x b ≡ true → no_longer z b ≡ true
room x z h b e = le-leb (length b) z (le_trans (leb-true (length b) x e) h)

-- no branch holds more than the goal's bytes
pub branch_short : (G : Goal) → every (no_longer (length (print G))) (branches G) ≡ true
unfolding opened print every
branch_short (kind k) = refl
branch_short ⊤ = refl
branch_short (G ⅋ H) =
    every_sums _ _ _
    (longer (length (print G)) (length (print H)) (suc (length (print G ++ print H))) (omega (arith, length-append (print G) (print H))))
    (branches G) (branches H) (branch_short G) (branch_short H)
branch_short (G & H) =
    every_both _ (branches G) (branches H)
    (every_imp _ _ (room (length (print G)) (suc (length (print G ++ print H))) (omega (arith, length-append (print G) (print H)))) (branches G) (branch_short G))
    (every_imp _ _ (room (length (print H)) (suc (length (print G ++ print H))) (omega (arith, length-append (print G) (print H)))) (branches H) (branch_short H))

pub context_short : (Δ : List Goal) → every (no_longer (length (prints Δ))) (branches_c Δ) ≡ true
unfolding opened_all prints every
context_short [] = refl
context_short (G ∷ Δ) =
    every_sums _ _ _
    (longer (length (print G)) (length (prints Δ)) (length (print G ++ prints Δ)) (omega (arith, length-append (print G) (prints Δ))))
    (branches G) (branches_c Δ) (branch_short G) (context_short Δ)

-- ---- the form of rows

pub wide_sets : (L : List (List ℕ)) → Wide 32 (map set_of L)
wide_sets [] = none
wide_sets (b ∷ L) = more (length_set_of b) (wide_sets L)

pub blank_sets : (n : ℕ) (L : List (List ℕ)) → every (every (is_kind n)) L ≡ true → every (blank_from n) (map set_of L) ≡ true
blank_sets n L e = every_map (blank_from n) set_of L ∙ every_imp _ _ (λ b h. at_blank n (set_of b) (λ k. set_of_from n b h (n + k) (omega arith))) L e

pub low_sets : (m : ℕ) (L : List (List ℕ)) → every (no_longer m) L ≡ true → every (λ r. not (over m r)) (map set_of L) ≡ true
low_sets m L e =
    every_map (λ r. not (over m r)) set_of L
    ∙ every_imp (no_longer m) (λ b. not (over m (set_of b))) (λ b h. ap not (at_over m (set_of b) (λ k. le_trans (set_of_low b k) (leb-true _ _ h)))) L e

-- "A row is 32 bytes"
pub branch_wide : (G : Goal) → Wide 32 (branch_rows G)
branch_wide G = rw (branch_rows_are G) (wide_sets (branches G))

pub order_wide : (Δ : List Goal) → Wide 32 (order_rows Δ)
order_wide Δ = rw (order_rows_are Δ) (wide_sets (branches_c Δ))

-- "kinds from n on are 0"
pub branch_blank : (n : ℕ) (G : Goal) → below n G ≡ true → every (blank_from n) (branch_rows G) ≡ true
branch_blank n G e = rw (branch_rows_are G) (blank_sets n (branches G) (branch_kinds n G e))

pub order_blank : (n : ℕ) (Δ : List Goal) → every (below n) Δ ≡ true → every (blank_from n) (order_rows Δ) ≡ true
order_blank n Δ e = rw (order_rows_are Δ) (blank_sets n (branches_c Δ) (context_kinds n Δ e))

-- no count above the number of bytes
pub branch_low : (m : ℕ) (G : Goal) → length (print G) ≤ m → every (λ r. not (over m r)) (branch_rows G) ≡ true
branch_low m G h =
    rw (branch_rows_are G)
    (low_sets m (branches G) (every_imp _ _ (room (length (print G)) m h) (branches G) (branch_short G)))

pub order_low : (m : ℕ) (Δ : List Goal) → length (prints Δ) ≤ m → every (λ r. not (over m r)) (order_rows Δ) ≡ true
order_low m Δ h =
    rw (order_rows_are Δ)
    (low_sets m (branches_c Δ) (every_imp _ _ (room (length (prints Δ)) m h) (branches_c Δ) (context_short Δ)))

-- ---- sums that may be cut

capped_set : List ℕ → List ℕ
capped_set b = cut 255 (set_of b)

capped_append : (a b : List ℕ) → capped_set (a ++ b) ≡ capped (capped_set a) (capped_set b)
unfolding capped_set
capped_append a b =
    ap (cut 255) (set_of_append a b)
    ∙ same_at (cut 255 (plus (set_of a) (set_of b))) (cut 255 (plus (cut 255 (set_of a)) (cut 255 (set_of b)))) lengths
    (λ k. omega (
      arith,
      cut_at 255 (plus (set_of a) (set_of b)) k,
      plus_at (set_of a) (set_of b) k,
      cut_at 255 (plus (cut 255 (set_of a)) (cut 255 (set_of b))) k,
      plus_at (cut 255 (set_of a)) (cut 255 (set_of b)) k,
      cut_at 255 (set_of a) k,
      cut_at 255 (set_of b) k,
    ))
  where
    lengths : length (cut 255 (plus (set_of a) (set_of b))) ≡ length (cut 255 (plus (cut 255 (set_of a)) (cut 255 (set_of b))))
    lengths =
        length_cut 255 (plus (set_of a) (set_of b)) ∙ length_plus 32 (set_of a) (set_of b) (length_set_of a) (length_set_of b)
        ∙ sym (length_cut 255 (plus (cut 255 (set_of a)) (cut 255 (set_of b))) ∙ length_plus 32 (cut 255 (set_of a)) (cut 255 (set_of b)) (length_cut 255 (set_of a) ∙ length_set_of a) (length_cut 255 (set_of b) ∙ length_set_of b))

capped_short : (b : List ℕ) → no_longer 255 b ≡ true → capped_set b ≡ set_of b
unfolding capped_set
capped_short b h = cut_same 255 (set_of b) (at_over 255 (set_of b) (λ k. le_trans (set_of_low b k) (leb-true _ _ h)))

capped_one : (k : ℕ) → capped_set (k ∷ []) ≡ one k
capped_one k = capped_short (k ∷ []) refl ∙ set_of_one k

capped_none : capped_set [] ≡ empty
unfolding set_of
capped_none = capped_short [] refl

map_short : (L : List (List ℕ)) → every (no_longer 255) L ≡ true → map capped_set L ≡ map set_of L
unfolding every
map_short [] e = refl
map_short (b ∷ L) e = ap₂ ◌∷◌ (capped_short b (and_l (no_longer 255 b) _ e)) (map_short L (and_r (no_longer 255 b) _ e))

-- no sum of a goal of at most 255 bytes is cut
pub branch_capped : (G : Goal) → length (print G) ≤ 255 → opened one capped G ≡ branch_rows G
branch_capped G h =
    sym (opened_map capped_set ◌++◌ capped capped_append (λ k. k ∷ []) one capped_one G)
    ∙ map_short (branches G) (every_imp _ _ (room (length (print G)) 255 h) (branches G) (branch_short G))
    ∙ sym (branch_rows_are G)

opened_all_capped : (Δ : List Goal) → map capped_set (branches_c Δ) ≡ opened_all one capped empty Δ
opened_all_capped Δ = opened_all_map capped_set ◌++◌ capped capped_append (λ k. k ∷ []) one capped_one [] empty capped_none Δ

pub order_capped : (Δ : List Goal) → length (prints Δ) ≤ 255 → opened_all one capped empty Δ ≡ order_rows Δ
order_capped Δ h =
    sym (opened_all_capped Δ)
    ∙ map_short (branches_c Δ) (every_imp _ _ (room (length (prints Δ)) 255 h) (branches_c Δ) (context_short Δ))
    ∙ sym (order_rows_are Δ)

-- an order read from the left
from_map : (L : List (List ℕ)) (Δ : List Goal) → map capped_set (opened_from (λ k. k ∷ []) ◌++◌ L Δ) ≡ opened_from one capped (map capped_set L) Δ
unfolding opened_from
from_map L [] = refl
from_map L (G ∷ Δ) =
    from_map (sums ◌++◌ L (branches G)) Δ
    ∙ ap (λ (M : List (List ℕ)). opened_from one capped M Δ)
    (sums_map capped_set ◌++◌ capped capped_append L (branches G)
    ∙ ap (sums capped (map capped_set L)) (opened_map capped_set ◌++◌ capped capped_append (λ k. k ∷ []) one capped_one G))

pub from_left : (Δ : List Goal) → opened_from one capped (empty ∷ []) Δ ≡ opened_all one capped empty Δ
from_left Δ =
    ap (λ (r : List ℕ). opened_from one capped (r ∷ []) Δ) (sym capped_none)
    ∙ sym (from_map ([] ∷ []) Δ)
    ∙ ap (map capped_set) (opened_from_none (λ k. k ∷ []) ◌++◌ [] append_assoc append-nil (λ a. refl) Δ)
    ∙ opened_all_capped Δ
