-- Texts written one after another on a page.
use mathlib.Core.Path.{refl, ◌∙◌}
use mathlib.Core.List.{List, [], ◌∷◌, ◌++◌}
use Prim.Native.Nat.{ℕ}
use native.Mathlib.Omega.{arith}
use lib.ListN.{length-append}
use Rattle.report.specs.Pages.{Room, Puts}
use Rattle.report.specs.declared.page.Page.{Page}
use Rattle.report.proofs.Writing.{after, nothing}

-- one text and then another are the two as one
pub puts_then : {s t : List ℕ} {p q r : Page} → Puts s p q → Puts t q r → Puts (s ++ t) p r
puts_then {s} {t} {p} {q} {r} u v = record {
  same_reference = v.same_reference ∙ u.same_reference;
  length_kept = v.length_kept ∙ u.length_kept;
  written = after (omega (arith, q.within)) u.written v.written;
}

-- one byte and then a text
pub puts_byte : {b : ℕ} {t : List ℕ} {p q r : Page} → Puts (b ∷ []) p q → Puts t q r → Puts (b ∷ t) p r
puts_byte u v = puts_then u v

-- the empty text changes nothing
pub puts_none : (p : Page) → Puts [] p p
puts_none p = record { same_reference = refl; length_kept = refl; written = nothing p.at p.out.now }

-- what a text is put together by
pub ruleset together = (puts_then, puts_byte)

-- of the text `whole`, which is being written on the page `start`, the part `left` is still to come on the page `now`
pub record Left (whole left : List ℕ) (start now : Page) : Type 0 where
  pub room : Room left now
  pub rest : {end : Page} → Puts left now end → Puts whole start end

pub left_start : {t : List ℕ} {p : Page} → Room t p → Left t t p p
left_start h = record { room = h; rest = λ u. u }

-- a part of what is left is written
pub left_turn : {s t whole : List ℕ} {start p q : Page} → Left whole (s ++ t) start p → Puts s p q → Left whole t start q
left_turn {s} {t} l u = record {
  room = omega (arith, length-append s t, l.room, u.written.place, u.length_kept);
  rest = λ v. l.rest (puts_then u v);
}

-- nothing is left
pub left_stop : {whole : List ℕ} {start p : Page} → Left whole [] start p → Puts whole start p
left_stop {whole} {start} {p} l = l.rest (puts_none p)

-- there is room for the front of what is left
pub left_front : (s t : List ℕ) {whole : List ℕ} {start p : Page} → Left whole (s ++ t) start p → Room s p
left_front s t l = omega (arith, length-append s t, l.room)
