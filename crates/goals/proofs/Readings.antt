-- Readings taken apart.
use mathlib.Core.Path.{◌≡◌, refl, sym, ap}
use mathlib.Core.Bool.{Bool, true, false, cond}
use Prim.Native.Nat.{ℕ}
use native.Mathlib.Omega.{arith}
use Rattle.goals.specs.Readings.{Reading, read, refused, ◌>>=◌}

pub not_refused : {A B : Type 0} (k : ℕ) (a : A) → ◌≡◌ {A = Reading A} (refused k) (read a) → B
not_refused k a e = absurd (let z : ◌≡◌ {A = ℕ} 0 1 = cc in let w : ⊥ = omega arith in w)

pub same_read : {A : Type 0} (a b : A) → ◌≡◌ {A = Reading A} (read a) (read b) → a ≡ b
same_read a b e = cc

-- what is read under a test has passed it
pub granted : {A : Type 0} (t : Bool) (k : ℕ) (a b : A) → cond t (read a) (refused k) ≡ read b → (t ≡ true) × (a ≡ b)
granted true k a b e = (refl, same_read a b e)
granted false k a b e = not_refused k b e

-- what is read in two steps is read in each
pub record Both {A B : Type 0} (m : Reading A) (f : A → Reading B) (b : B) : Type 0 where
  pub value : A
  pub first : m ≡ read value
  pub second : f value ≡ read b

pub steps : {A B : Type 0} (m : Reading A) (f : A → Reading B) (b : B) → (m >>= f) ≡ read b → Both m f b
steps (read a) f b e = record { value = a; first = refl; second = e }
steps (refused k) f b e = not_refused k b e

pub known : {A B : Type 0} (m : Reading A) (f : A → Reading B) (a : A) → m ≡ read a → (m >>= f) ≡ f a
known m f a e = ap (λ x. x >>= f) e

-- what is read and then turned into something else was read, and what is refused after that was refused before
pub was_read : {A B : Type 0} (m : Reading A) (f : A → B) (b : B) → read b ≡ (m >>= λ a. read (f a)) → (a : A) × (m ≡ read a)
was_read (read a) f b e = (a, refl)
was_read (refused k) f b e = not_refused k b (sym e)

pub was_refused : {A B : Type 0} (m : Reading A) (f : A → B) (k : ℕ) → refused k ≡ (m >>= λ a. read (f a)) → m ≡ refused k
was_refused (read a) f k e = not_refused k (f a) e
was_refused (refused j) f k e = let q : j ≡ k = cc in ap refused q
