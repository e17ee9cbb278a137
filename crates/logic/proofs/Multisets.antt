-- Lists up to order, and the occurrences of each kind in a list of kinds.
use mathlib.Core.Path.{◌≡◌, refl, sym, ap, subst, ◌∙◌, fun_ext}
use mathlib.Core.Bool.{Bool, true, false}
use mathlib.Core.List.{List, [], ◌∷◌, ◌++◌, map, append_assoc, map-append}
use mathlib.Core.List.Permᴰ
use mathlib.Core.List.Memᴰ
use mathlib.Core.Logic.{◌⊎◌, inl, inr}
use Prim.Native.Nat.{ℕ, ◌+◌, ◌<◌}
use native.Mathlib.Omega.{arith}
use lib.Dec.{eqb, eqb→eq, eqb_refl, T}
use Rattle.logic.specs.Facts.{◌≼◌, ◌⊕◌, occ, one_if}
use Rattle.logic.specs.Goals.{kind, ◌∼◌, ◌∈◌, atoms}

-- ---- the same multiset

module _ {A : Type 0} where
  pub ∼_refl : {l : List A} → l ∼ l
  ∼_refl {l} = Permᴰ.refl l

  pub ∼_sym : {l r : List A} → l ∼ r → r ∼ l
  ∼_sym d = Permᴰ.symm d

  pub ∼_eq : {l r : List A} → l ≡ r → l ∼ r
  ∼_eq {l} e = subst (λ (x : List A). l ∼ x) e ∼_refl

  infixr 30 ◌⨾◌
  pub ◌⨾◌ : {l m r : List A} → l ∼ m → m ∼ r → l ∼ r
  d ⨾ e = Permᴰ.trans d e

  -- the first two parts change places
  pub ∼_front : (a b c : List A) → a ++ (b ++ c) ∼ b ++ (a ++ c)
  ∼_front a b c = ∼_eq (sym (append_assoc a b c)) ⨾ Permᴰ.append_right c (Permᴰ.append_comm a b) ⨾ ∼_eq (append_assoc b a c)

-- ---- atomic contexts

pub atoms_append : (a b : List ℕ) → atoms (a ++ b) ≡ atoms a ++ atoms b
atoms_append a b = map-append kind a b

pub atoms_∼ : {a b : List ℕ} → a ∼ b → atoms a ∼ atoms b
atoms_∼ d = Permᴰ.map kind d

-- ---- members of a mapped list

pub mem_map : {A B : Type 0} (f : A → B) {a : A} {l : List A} → a ∈ l → f a ∈ map f l
mem_map f (Memᴰ.head e) = Memᴰ.head (ap f e)
mem_map f (Memᴰ.tail m) = Memᴰ.tail (mem_map f m)

pub mem_map_cases : {A B : Type 0} (f : A → B) {b : B} (l : List A) → b ∈ map f l → (a : A) × (a ∈ l) × (b ≡ f a)
mem_map_cases f [] m = absurd (Memᴰ.not-nil m)
mem_map_cases {A} {B} f {b} (x ∷ l) m = go (λ (n : b ∈ map f l). mem_map_cases f l n) (Memᴰ.cases_cons m)
  where
    go : (b ∈ map f l → (a : A) × (a ∈ l) × (b ≡ f a)) → (b ≡ f x) ⊎ (b ∈ map f l) → (a : A) × (a ∈ x ∷ l) × (b ≡ f a)
    go below (inl e) = (x, Memᴰ.head refl, e)
    go below (inr n) = let r = below n in (r.0, Memᴰ.tail r.1, r.2)

-- ---- occurrences

pub occ_append : (A B : List ℕ) (k : ℕ) → occ (A ++ B) k ≡ occ A k + occ B k
unfolding occ
occ_append [] B k = omega arith
occ_append (a ∷ A) B k = omega (arith, occ_append A B k)

pub occ_⊕ : (A B : List ℕ) → occ (A ++ B) ≡ occ A ⊕ occ B
occ_⊕ A B = fun_ext (λ k. occ_append A B k)

-- the same multiset has the same occurrences
pub occ_∼ : {A B : List ℕ} → A ∼ B → (k : ℕ) → occ A k ≡ occ B k
unfolding occ
occ_∼ Permᴰ.nil k = refl
occ_∼ (Permᴰ.cons e d) k = omega (arith, occ_∼ d k, ap (λ (x : ℕ). one_if (eqb x k)) e)
occ_∼ (Permᴰ.swap e₁ e₂) k =
    omega (arith, ap (λ (x : ℕ). one_if (eqb x k)) e₁, ap (λ (x : ℕ). one_if (eqb x k)) e₂)
occ_∼ (Permᴰ.trans d₁ d₂) k = occ_∼ d₁ k ∙ occ_∼ d₂ k

pub one_if_true : (t : Bool) → T t → one_if t ≡ 1
one_if_true true h = refl
one_if_true false h = absurd h

-- a kind that occurs can be taken to the front
pub to_front : (A : List ℕ) (x : ℕ) → 0 < occ A x → (B : List ℕ) × (A ∼ x ∷ B)
unfolding occ
to_front [] x h = absurd (omega arith)
to_front (a ∷ A) x h = go (eqb a x) refl (to_front A x)
  where
    go : (t : Bool) → eqb a x ≡ t → (0 < occ A x → (B : List ℕ) × (A ∼ x ∷ B)) → (B : List ℕ) × (a ∷ A ∼ x ∷ B)
    go true e below = (A, Permᴰ.cons (eqb→eq a x (subst T (sym e) tt)) ∼_refl)
    go false e below =
        let r = below (omega (arith, ap one_if e)) in
        (a ∷ r.0, Permᴰ.cons refl r.1 ⨾ Permᴰ.swap refl refl)

-- a multiset that is included can be taken to the front
pub split_off : (H A : List ℕ) → occ H ≼ occ A → (B : List ℕ) × (A ∼ H ++ B)
unfolding occ
split_off [] A h = (A, ∼_refl)
split_off (x ∷ H) A h =
    let r = to_front A x (omega (arith, h x, one_if_true (eqb x x) (eqb_refl x))) in
    let s = split_off H r.0 (λ k. omega (arith, h k, occ_∼ r.1 k)) in
    (s.0, r.1 ⨾ Permᴰ.cons refl s.1)
