-- Laws of truth values, beside those of `mathlib.Core.Bool`.
use mathlib.Core.Bool.{Bool, true, false, ◌&&◌, ◌||◌, true≢false}
use mathlib.Core.Path.{◌≡◌, refl, sym, ◌∙◌}
use mathlib.Core.Logic.{◌⊎◌, inl, inr}

-- two tests that show each other are one
pub same : (a b : Bool) → (a ≡ true → b ≡ true) → (b ≡ true → a ≡ true) → a ≡ b
same true b f g = sym (f refl)
same false true f g = g refl
same false false f g = refl

pub which : (a : Bool) → (a ≡ true) ⊎ (a ≡ false)
which true = inl refl
which false = inr refl

pub never : {A : Type 0} (a : Bool) → a ≡ true → a ≡ false → A
never a p q = absurd (true≢false (sym p ∙ q))

-- what is not true is false
pub refuted : (a : Bool) → (a ≡ true → ⊥) → a ≡ false
refuted true f = absurd (f refl)
refuted false f = refl

pub both : (a b : Bool) → a ≡ true → b ≡ true → (a && b) ≡ true
both a b p q = rw (p, q)

pub and_l : (a b : Bool) → (a && b) ≡ true → a ≡ true
and_l true b e = refl
and_l false b e = e

pub and_r : (a b : Bool) → (a && b) ≡ true → b ≡ true
and_r true b e = e
and_r false b e = never false e refl

pub or_l : (a b : Bool) → a ≡ true → (a || b) ≡ true
or_l a b p = rw p

pub or_r : (a b : Bool) → b ≡ true → (a || b) ≡ true
or_r true b p = refl
or_r false b p = p

pub or_cases : (a b : Bool) → (a || b) ≡ true → (a ≡ true) ⊎ (b ≡ true)
or_cases true b e = inl refl
or_cases false b e = inr e

pub neither_l : (a b : Bool) → (a || b) ≡ false → a ≡ false
neither_l true b e = e
neither_l false b e = refl

pub neither_r : (a b : Bool) → (a || b) ≡ false → b ≡ false
neither_r true b e = never true refl e
neither_r false b e = e

pub and_exchange : (a b c d : Bool) → ((a && b) && (c && d)) ≡ ((a && c) && (b && d))
and_exchange true b true d = refl
and_exchange true true false d = refl
and_exchange true false false d = refl
and_exchange false b c d = refl

pub or_exchange : (a b c : Bool) → (a || (b || c)) ≡ (b || (a || c))
or_exchange true true c = refl
or_exchange true false c = refl
or_exchange false b c = refl
