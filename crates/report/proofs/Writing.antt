-- Texts written one after another into a buffer.
use mathlib.Core.Path.{◌≡◌, sym, ap, ◌∙◌}
use mathlib.Core.List.{List, [], ◌∷◌, ◌++◌, append_assoc}
use Prim.Native.Nat.{ℕ, ◌+◌, ◌≤◌, ◌<◌}
use native.Mathlib.Nat.{add-zero}
use native.Mathlib.Numerals.{add-one}
use native.Mathlib.Omega.{arith}
use lib.ListN.{length, take, drop, set, length-append, length-drop}
use Rattle.std.proofs.lemmas.Grind.{common_steps}
use lib.Seq.{set_split, drop_at, drop-drop, length-take-le}
use Rattle.report.specs.Buffer.{write_at, Written}

-- one byte is one store
pub write_one : (at b : ℕ) (d : List ℕ) → at < length d → set d at b ≡ write_at at (b ∷ []) d
unfolding write_at
write_one at b d h = set_split d at b h ∙ ap (λ (k : ℕ). take at d ++ (b ∷ drop k d)) (sym (add-one at))

-- the buffer keeps its length
pub length_write : (at : ℕ) (t d : List ℕ) → at + length t ≤ length d → length (write_at at t d) ≡ length d
unfolding write_at
length_write at t d h =
    let e : length (take at d) ≡ at = length-take-le at d (omega arith) in
    simp (length-append, length-drop) (omega arith)

-- a text and then another after it are the two texts as one
pub write_write : (at : ℕ) (s t d : List ℕ) → at + length s ≤ length d → write_at (at + length s) t (write_at at s d) ≡ write_at at (s ++ t) d
unfolding write_at
write_write at s t d h =
    let long : length (take at d ++ s) ≡ at + length s = grind (arith, common_steps) in
    let whole : write_at at s d ≡ (take at d ++ s) ++ drop (at + length s) d = simp append_assoc in
    let front : take (at + length s) (write_at at s d) ≡ take at d ++ s = grind (arith, common_steps) in
    let back : drop (at + length s) (write_at at s d) ≡ drop (at + length s) d = rw whole (drop_at _ _ _ long) in
    let rest : drop (at + length s + length t) (write_at at s d) ≡ drop (at + length s + length t) d = rw (← drop-drop (length t) (at + length s) (write_at at s d), back) (drop-drop (length t) (at + length s) d) in
    let both : at + length (s ++ t) ≡ at + length s + length t = omega (arith, length-append s t) in
    rw (front, rest, both) (simp append_assoc)

-- one written after the other
pub after : {s t d e f : List ℕ} {at m r : ℕ} → at + length s ≤ length d → Written s at d e m → Written t m e f r → Written (s ++ t) at d f r
after {s} {t} {d} {e} {f} {at} {m} {r} h u v = record {
  place = omega (arith, u.place, v.place, length-append s t);
  holds = rw (v.holds, u.place, u.holds) (write_write at s t d h);
}

-- nothing written
pub nothing : (at : ℕ) (d : List ℕ) → Written [] at d d at
unfolding write_at
nothing at d = record { place = sym (add-zero at); holds = grind (arith, common_steps) }
