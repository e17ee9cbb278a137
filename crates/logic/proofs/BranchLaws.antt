-- Laws of branches over any type of sets: how many, read through a map, read from the left, in another order, and what their members are.
use mathlib.Core.Path.{◌≡◌, refl, sym, ap, ap₂, ◌∙◌}
use mathlib.Core.List.{List, [], ◌∷◌, ◌++◌, map, append_assoc, append-nil, map-append}
use mathlib.Core.List.Permᴰ
use mathlib.Core.List.Memᴰ
use mathlib.Core.Logic.{◌⊎◌, inl, inr}
use Prim.Native.Nat.{ℕ, ◌*◌}
use native.Mathlib.Omega.{arith}
use native.Mathlib.Nat.{suc-mul, zero-mul}
use lib.ListN.{length, length-append, length-map}
use Rattle.logic.specs.Goals.{Goal, kind, ⊤, ◌⅋◌, ◌&◌, ◌∼◌, ◌∈◌}
use Rattle.logic.specs.Branches.{sums, opened, opened_all, branches, branches_c, ways}
use Rattle.logic.proofs.Multisets.{∼_refl, ∼_sym, ∼_eq, ◌⨾◌, ∼_front, mem_map, mem_map_cases}

-- ---- 01's words, computed

-- "left outermost"
pub left_outermost : branches ((kind 0 & kind 1) ⅋ (kind 2 & kind 3)) ≡ (0 ∷ 2 ∷ []) ∷ (0 ∷ 3 ∷ []) ∷ (1 ∷ 2 ∷ []) ∷ (1 ∷ 3 ∷ []) ∷ []
unfolding opened sums
left_outermost = refl

-- "The order with no goals has one branch, the empty set"
pub no_goals : branches_c [] ≡ [] ∷ []
unfolding opened_all
no_goals = refl

-- ---- how many

pub length_sums : {A : Type 0} (plus : A → A → A) (L R : List A) → length (sums plus L R) ≡ length L * length R
unfolding sums
length_sums plus [] R = sym (zero-mul (length R))
length_sums plus (a ∷ L) R =
    omega (
      arith,
      length-append (map (plus a) R) (sums plus L R),
      length-map R (plus a),
      length_sums plus L R,
      suc-mul (length L) (length R),
    )

-- 01: "the number of branches is 1 for a kind, 0 for ⊤, a sum for &, a product for ⅋"
pub length_opened : {A : Type 0} (one : ℕ → A) (plus : A → A → A) (G : Goal) → length (opened one plus G) ≡ ways G
unfolding opened ways
length_opened one plus (kind k) = refl
length_opened one plus ⊤ = refl
length_opened one plus (G ⅋ H) =
    length_sums plus (opened one plus G) (opened one plus H) ∙ ap₂ ◌*◌ (length_opened one plus G) (length_opened one plus H)
length_opened one plus (G & H) =
    omega (arith, length-append (opened one plus G) (opened one plus H), length_opened one plus G, length_opened one plus H)

-- ---- through a map that keeps sums

module _ {A B : Type 0} (f : A → B) (plus : A → A → A) (plus' : B → B → B) (f_plus : (a b : A) → f (plus a b) ≡ plus' (f a) (f b)) where
  shift_map : (a : A) (R : List A) → map f (map (plus a) R) ≡ map (plus' (f a)) (map f R)
  shift_map a [] = refl
  shift_map a (b ∷ R) = ap₂ ◌∷◌ (f_plus a b) (shift_map a R)

  pub sums_map : (L R : List A) → map f (sums plus L R) ≡ sums plus' (map f L) (map f R)
  unfolding sums
  sums_map [] R = refl
  sums_map (a ∷ L) R = map-append f (map (plus a) R) (sums plus L R) ∙ ap₂ ◌++◌ (shift_map a R) (sums_map L R)

  module _ (one : ℕ → A) (one' : ℕ → B) (f_one : (k : ℕ) → f (one k) ≡ one' k) where
    -- the branches in one kind of sets are those in another, set by set
    pub opened_map : (G : Goal) → map f (opened one plus G) ≡ opened one' plus' G
    unfolding opened
    opened_map (kind k) = ap (λ (b : B). b ∷ []) (f_one k)
    opened_map ⊤ = refl
    opened_map (G ⅋ H) = sums_map (opened one plus G) (opened one plus H) ∙ ap₂ (sums plus') (opened_map G) (opened_map H)
    opened_map (G & H) = map-append f (opened one plus G) (opened one plus H) ∙ ap₂ ◌++◌ (opened_map G) (opened_map H)

    pub opened_all_map : (none : A) (none' : B) → f none ≡ none'
        → (Θ : List Goal) → map f (opened_all one plus none Θ) ≡ opened_all one' plus' none' Θ
    unfolding opened_all
    opened_all_map none none' f_none [] = ap (λ (b : B). b ∷ []) f_none
    opened_all_map none none' f_none (G ∷ Θ) =
        sums_map (opened one plus G) (opened_all one plus none Θ) ∙ ap₂ (sums plus') (opened_map G) (opened_all_map none none' f_none Θ)

-- ---- sums of lists as an operation

module _ {A : Type 0} (plus : A → A → A) where
  pub sums_append : (L M N : List A) → sums plus (L ++ M) N ≡ sums plus L N ++ sums plus M N
  unfolding sums
  sums_append [] M N = refl
  sums_append (a ∷ L) M N =
      ap (λ (l : List A). map (plus a) N ++ l) (sums_append L M N) ∙ sym (append_assoc (map (plus a) N) (sums plus L N) (sums plus M N))

  pub sums_none : (L : List A) → sums plus L [] ≡ []
  unfolding sums
  sums_none [] = refl
  sums_none (a ∷ L) = sums_none L

  pub sums_right : (L : List A) {M N : List A} → M ∼ N → sums plus L M ∼ sums plus L N
  unfolding sums
  sums_right [] d = ∼_refl
  sums_right (a ∷ L) {M} {N} d =
      Permᴰ.append_right (sums plus L M) (Permᴰ.map (plus a) d) ⨾ Permᴰ.append_left (map (plus a) N) (sums_right L d)

  pub sums_one : (none : A) → ((a : A) → plus none a ≡ a) → (R : List A) → sums plus (none ∷ []) R ≡ R
  unfolding sums
  sums_one none unit R = append-nil (map (plus none) R) ∙ same R
    where
      same : (l : List A) → map (plus none) l ≡ l
      same [] = refl
      same (a ∷ l) = ap₂ ◌∷◌ (unit a) (same l)

  pub one_sums : (none : A) → ((a : A) → plus a none ≡ a) → (L : List A) → sums plus L (none ∷ []) ≡ L
  unfolding sums
  one_sums none unit [] = refl
  one_sums none unit (a ∷ L) = ap₂ ◌∷◌ (unit a) (one_sums none unit L)

  -- members

  pub sums_mem : {a b : A} {L R : List A} → a ∈ L → b ∈ R → plus a b ∈ sums plus L R
  unfolding sums
  sums_mem {a} {b} {R = R} (Memᴰ.head {x = x} {xs = L} e) m =
      Memᴰ.append_left (sums plus L R) (Memᴰ.cast (ap (λ (y : A). plus y b) e) (mem_map (plus x) m))
  sums_mem {R = R} (Memᴰ.tail {x = x} n) m = Memᴰ.append_right (map (plus x) R) (sums_mem n m)

  pub sums_cases : {x : A} (L R : List A) → x ∈ sums plus L R → (a : A) × (b : A) × (a ∈ L) × (b ∈ R) × (x ≡ plus a b)
  unfolding sums
  sums_cases [] R m = absurd (Memᴰ.not-nil m)
  sums_cases {x} (y ∷ L) R m = go (λ (n : x ∈ sums plus L R). sums_cases L R n) (Memᴰ.append_cases (map (plus y) R) m)
    where
      go : (x ∈ sums plus L R → (a : A) × (b : A) × (a ∈ L) × (b ∈ R) × (x ≡ plus a b)) → (x ∈ map (plus y) R) ⊎ (x ∈ sums plus L R)
          → (a : A) × (b : A) × (a ∈ y ∷ L) × (b ∈ R) × (x ≡ plus a b)
      go below (inl n) = let r = mem_map_cases (plus y) R n in (y, r.0, Memᴰ.head refl, r.1, r.2)
      go below (inr n) = let r = below n in (r.0, r.1, Memᴰ.tail r.2, r.3, r.4)

-- ---- the branches of a context whose first goal is ⊤ or &

module _ {A : Type 0} (one : ℕ → A) (plus : A → A → A) (none : A) where
  pub opened_all_top : (Δ : List Goal) → opened_all one plus none (⊤ ∷ Δ) ≡ []
  unfolding opened_all opened sums
  opened_all_top Δ = refl

  pub opened_all_with : (G H : Goal) (Δ : List Goal)
      → opened_all one plus none (G & H ∷ Δ) ≡ opened_all one plus none (G ∷ Δ) ++ opened_all one plus none (H ∷ Δ)
  unfolding opened_all opened
  opened_all_with G H Δ = sums_append plus (opened one plus G) (opened one plus H) (opened_all one plus none Δ)

-- ---- where the sum is associative

module _ {A : Type 0} (plus : A → A → A) (assoc : (a b c : A) → plus (plus a b) c ≡ plus a (plus b c)) where
  shift_sums : (a : A) (M N : List A) → sums plus (map (plus a) M) N ≡ map (plus a) (sums plus M N)
  unfolding sums
  shift_sums a [] N = refl
  shift_sums a (b ∷ M) N =
      ap₂ ◌++◌ (twice N) (shift_sums a M N) ∙ sym (map-append (plus a) (map (plus b) N) (sums plus M N))
    where
      twice : (l : List A) → map (plus (plus a b)) l ≡ map (plus a) (map (plus b) l)
      twice [] = refl
      twice (c ∷ l) = ap₂ ◌∷◌ (assoc a b c) (twice l)

  pub sums_assoc : (L M N : List A) → sums plus (sums plus L M) N ≡ sums plus L (sums plus M N)
  unfolding sums
  sums_assoc [] M N = refl
  sums_assoc (a ∷ L) M N = sums_append plus (map (plus a) M) (sums plus L M) N ∙ ap₂ ◌++◌ (shift_sums a M N) (sums_assoc L M N)

  -- ⅋ and the comma between goals open alike
  pub opened_all_par : (one : ℕ → A) (none : A) (G H : Goal) (Δ : List Goal)
      → opened_all one plus none (G ⅋ H ∷ Δ) ≡ opened_all one plus none (G ∷ H ∷ Δ)
  unfolding opened_all opened
  opened_all_par one none G H Δ = sums_assoc (opened one plus G) (opened one plus H) (opened_all one plus none Δ)

-- an order read goal by goal from the left, each goal's branches summed to those of the leading run before it
unfoldable pub opened_from : {A : Type 0} → (ℕ → A) → (A → A → A) → List A → List Goal → List A
opened_from one plus run [] = run
opened_from one plus run (G ∷ Δ) = opened_from one plus (sums plus run (opened one plus G)) Δ

module _ {A : Type 0} (one : ℕ → A) (plus : A → A → A) (none : A) (assoc : (a b c : A) → plus (plus a b) c ≡ plus a (plus b c))
    (unit : (a : A) → plus a none ≡ a) where
  pub opened_from_sums : (run : List A) (Δ : List Goal) → opened_from one plus run Δ ≡ sums plus run (opened_all one plus none Δ)
  unfolding opened_from opened_all
  opened_from_sums run [] = sym (one_sums plus none unit run)
  opened_from_sums run (G ∷ Δ) =
      opened_from_sums (sums plus run (opened one plus G)) Δ ∙ sums_assoc plus assoc run (opened one plus G) (opened_all one plus none Δ)

  -- read from the left from the order of no goals, an order opens into the same list
  pub opened_from_none : ((a : A) → plus none a ≡ a) → (Δ : List Goal) → opened_from one plus (none ∷ []) Δ ≡ opened_all one plus none Δ
  opened_from_none unit' Δ = opened_from_sums (none ∷ []) Δ ∙ sums_one plus none unit' (opened_all one plus none Δ)

-- ---- where it is commutative too: the order of the goals is of no account

module _ {A : Type 0} (plus : A → A → A) (assoc : (a b c : A) → plus (plus a b) c ≡ plus a (plus b c))
    (comm : (a b : A) → plus a b ≡ plus b a) where
  sums_cons : (M : List A) (a : A) (L : List A) → sums plus M (a ∷ L) ∼ map (plus a) M ++ sums plus M L
  unfolding sums
  sums_cons [] a L = ∼_refl
  sums_cons (b ∷ M) a L =
      Permᴰ.cons (comm b a)
      (Permᴰ.append_left (map (plus b) L) (sums_cons M a L) ⨾ ∼_front (map (plus b) L) (map (plus a) M) (sums plus M L))

  pub sums_comm : (L M : List A) → sums plus L M ∼ sums plus M L
  unfolding sums
  sums_comm [] M = ∼_eq (sym (sums_none plus M))
  sums_comm (a ∷ L) M = Permᴰ.append_left (map (plus a) M) (sums_comm L M) ⨾ ∼_sym (sums_cons M a L)

  pub sums_left : {L M : List A} (N : List A) → L ∼ M → sums plus L N ∼ sums plus M N
  sums_left {L} {M} N d = sums_comm L N ⨾ sums_right plus N d ⨾ sums_comm N M

  sums_front : (L M N : List A) → sums plus L (sums plus M N) ∼ sums plus M (sums plus L N)
  sums_front L M N = ∼_eq (sym (sums_assoc plus assoc L M N)) ⨾ sums_left N (sums_comm L M) ⨾ ∼_eq (sums_assoc plus assoc M L N)

  pub opened_all_∼ : (one : ℕ → A) (none : A) {Θ Ξ : List Goal} → Θ ∼ Ξ → opened_all one plus none Θ ∼ opened_all one plus none Ξ
  unfolding opened_all
  opened_all_∼ one none Permᴰ.nil = ∼_refl
  opened_all_∼ one none (Permᴰ.cons {a = G} {l₂ = Ξ} e d) =
      sums_right plus (opened one plus G) (opened_all_∼ one none d)
      ⨾ ∼_eq (ap (λ (F : Goal). sums plus (opened one plus F) (opened_all one plus none Ξ)) e)
  opened_all_∼ one none (Permᴰ.swap {a = G} {b = H} {l = Θ} e₁ e₂) =
      sums_front (opened one plus G) (opened one plus H) (opened_all one plus none Θ)
      ⨾ ∼_eq (ap₂ (λ (F K : Goal). sums plus (opened one plus F) (sums plus (opened one plus K) (opened_all one plus none Θ))) e₂ e₁)
  opened_all_∼ one none (Permᴰ.trans d₁ d₂) = opened_all_∼ one none d₁ ⨾ opened_all_∼ one none d₂
