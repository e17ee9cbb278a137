-- A body is read exactly when it is a printed goal and padding; a head exactly when it is its kinds and padding; an order
-- exactly when it is its goals' prints end to end.
use mathlib.Core.Path.{◌≡◌, refl, sym, ap, ap₂, subst, ◌∙◌}
use mathlib.Core.List.{List, [], ◌∷◌, ◌++◌}
use mathlib.Core.Bool.{Bool, true, false, ◌&&◌, cond}
use Prim.Native.Nat.{ℕ, zero, suc, pred, ◌+◌, ◌-◌, ◌≤◌, ◌<◌}
use native.Mathlib.Nat.{zero-add}
use native.Mathlib.Omega.{arith}
use lib.Dec.{ltb, leb, eqb}
use lib.ListN.{length, take, drop, replicate, length-append, length-drop, take-append-drop, drop_of_length-le}
use lib.Seq.{drop-drop, drop-append_seam, take-append_seam, length-take-le}
use borrow.Author.Tests.{eqb-true, ltb-true, lt-ltb, leb-true, le-leb, lt-leb}
use Rattle.tokens.specs.Tables.{every}
use Rattle.tokens.proofs.Tests.{both, and_l, and_r}
use Rattle.logic.specs.Goals.{Goal}
use Rattle.goals.specs.Codes.{is_kind}
use Rattle.goals.specs.Parsing.{Parsed, goal, fault, parse_at}
use Rattle.goals.specs.Limits.{runs_within}
use Rattle.goals.specs.Readings.{Reading, read, refused, ◌>>=◌, padded, climbs, front, head, ends, body, first, goals, order}
use Rattle.goals.specs.Printing.{print, prints, below}
use Rattle.goals.proofs.Readings.{not_refused, same_read, granted, steps, known}
use Rattle.goals.proofs.ParseLaws.{Stands, stands_at, print_pos, prints_at}

-- ---- padding

pub pads : (s : List ℕ) → padded s ≡ true → s ≡ replicate (length s) 255
unfolding padded
pads [] e = refl
pads (b ∷ s) e = ap₂ (λ (x : ℕ) (y : List ℕ). x ∷ y) (eqb-true b 255 (and_l (eqb b 255) (padded s) e)) (pads s (and_r (eqb b 255) (padded s) e))

pub padded_row : (k : ℕ) → padded (replicate k 255) ≡ true
unfolding padded
padded_row zero = refl
padded_row (suc k) = padded_row k

-- ---- bodies

pub record Printed (n : ℕ) (s : List ℕ) (G : Goal) : Type 0 where
  pub kinds : below n G ≡ true
  pub padding : ℕ
  pub bytes : s ≡ print G ++ replicate padding 255

-- a body that is read is a printed goal, and then 255
pub body_printed : (n : ℕ) (s : List ℕ) (G : Goal) → body n s ≡ read G → Printed n s G
unfolding body
body_printed n s G e = go (parse_at n s 0) (stands_at n s 0) e
  where
    go : (x : Parsed) → Stands n s 0 x → ends s x ≡ read G → Printed n s G
    go (goal H m) st q =
        let g = granted (padded (drop m s)) 5 H G q in
        record {
          kinds = subst (λ K. below n K ≡ true) g.1 st.1.0;
          padding = length (drop m s);
          bytes = st.0 ∙ ap₂ (λ (K : Goal) (r : List ℕ). print K ++ r) g.1 (pads (drop m s) g.0);
        }
    go fault st q = not_refused 5 G q

-- and a printed goal, and then 255, is read
pub printed_body : (n : ℕ) (G : Goal) (k : ℕ) → below n G ≡ true → body n (print G ++ replicate k 255) ≡ read G
unfolding body
printed_body n G k b =
    let s : List ℕ = print G ++ replicate k 255 in
    ap (ends s) (prints_at G n s 0 (replicate k 255) b refl ∙ ap (goal G) (zero-add (length (print G))))
    ∙ ap (λ t. cond t (read G) (refused 5)) (ap padded (drop-append_seam (print G) (replicate k 255)) ∙ padded_row k)

-- ---- heads

pub front_le : (n : ℕ) (s : List ℕ) → front n s ≤ length s
unfolding front
front_le n [] = omega arith
front_le n (b ∷ s) = go (is_kind n b) (front_le n s)
  where
    go : (t : Bool) → front n s ≤ length s → cond t (suc (front n s)) 0 ≤ suc (length s)
    go true h = omega arith
    go false h = omega arith

pub front_kinds : (n : ℕ) (s : List ℕ) → every (is_kind n) (take (front n s) s) ≡ true
unfolding front every
front_kinds n [] = refl
front_kinds n (b ∷ s) = go (is_kind n b) refl (front_kinds n s)
  where
    go : (t : Bool) → is_kind n b ≡ t → every (is_kind n) (take (front n s) s) ≡ true → every (is_kind n) (take (cond t (suc (front n s)) 0) (b ∷ s)) ≡ true
    go true e h = both (is_kind n b) _ e h
    go false e h = refl

front_append : (n : ℕ) (h r : List ℕ) → every (is_kind n) h ≡ true → front n r ≡ 0 → front n (h ++ r) ≡ length h
unfolding front every
front_append n [] r e z = z
front_append n (b ∷ h) r e z =
    ap (λ t. cond t (suc (front n (h ++ r))) 0) (and_l (is_kind n b) (every (is_kind n) h) e)
    ∙ ap suc (front_append n h r (and_r (is_kind n b) (every (is_kind n) h) e) z)

front_padding : (n k : ℕ) → front n (replicate k 255) ≡ 0
unfolding front is_kind
front_padding n zero = refl
front_padding n (suc k) = refl

pub record Headed (n : ℕ) (s h : List ℕ) : Type 0 where
  pub some : 1 ≤ length h
  pub kinds : every (is_kind n) h ≡ true
  pub climbing : climbs h ≡ true
  pub padding : ℕ
  pub bytes : s ≡ h ++ replicate padding 255

-- a head that is read is at least one kind, none below the one before it, and then 255
pub head_printed : (n : ℕ) (s h : List ℕ) → head n s ≡ read h → Headed n s h
unfolding head
head_printed n s h e =
    let k = front n s in
    let g = granted (ltb 0 k && (climbs (take k s) && padded (drop k s))) 4 (take k s) h e in
    let later = and_r (ltb 0 k) (climbs (take k s) && padded (drop k s)) g.0 in
    record {
      some = subst (λ (l : List ℕ). 1 ≤ length l) g.1 (rw (length-take-le k s (front_le n s)) (ltb-true 0 k (and_l (ltb 0 k) (climbs (take k s) && padded (drop k s)) g.0)));
      kinds = subst (λ (l : List ℕ). every (is_kind n) l ≡ true) g.1 (front_kinds n s);
      climbing = subst (λ (l : List ℕ). climbs l ≡ true) g.1 (and_l (climbs (take k s)) (padded (drop k s)) later);
      padding = length (drop k s);
      bytes = sym (take-append-drop k s) ∙ ap₂ ◌++◌ g.1 (pads (drop k s) (and_r (climbs (take k s)) (padded (drop k s)) later));
    }

-- and such bytes are read as the head
pub printed_head : (n : ℕ) (s h : List ℕ) → Headed n s h → head n s ≡ read h
unfolding head
printed_head n s h p =
    let r : List ℕ = replicate p.padding 255 in
    let e : front n s ≡ length h = ap (front n) p.bytes ∙ front_append n h r p.kinds (front_padding n p.padding) in
    let t : take (front n s) s ≡ h = ap₂ (λ (k : ℕ) (l : List ℕ). take k l) e p.bytes ∙ take-append_seam h r in
    let d : drop (front n s) s ≡ r = ap₂ (λ (k : ℕ) (l : List ℕ). drop k l) e p.bytes ∙ drop-append_seam h r in
    let ok : (ltb 0 (front n s) && (climbs (take (front n s) s) && padded (drop (front n s) s))) ≡ true =
    both _ _ (lt-ltb 0 (front n s) (omega (arith, p.some))) (both _ _ (ap climbs t ∙ p.climbing) (ap padded d ∙ padded_row p.padding)) in
    ap (λ b. cond b (read (take (front n s) s)) (refused 4)) ok ∙ ap read t

-- ---- orders

-- goals that are read stand there, printed end to end
pub record Listed (n : ℕ) (s : List ℕ) (at : ℕ) (Δ : List Goal) : Type 0 where
  pub kinds : every (below n) Δ ≡ true
  pub bytes : drop at s ≡ prints Δ

pub goals_printed : (f n : ℕ) (s : List ℕ) (at : ℕ) (Δ : List Goal) → goals f n s at ≡ read Δ → Listed n s at Δ
unfolding goals every prints
goals_printed zero n s at Δ e = not_refused 10 Δ e
goals_printed (suc f) n s at Δ e = go (leb (length s) at) refl (parse_at n s at) (stands_at n s at) (λ m Γ. goals_printed f n s m Γ) e
  where
    go : (t : Bool) → leb (length s) at ≡ t → (x : Parsed) → Stands n s at x → ((m : ℕ) (Γ : List Goal) → goals f n s m ≡ read Γ → Listed n s m Γ)
        → cond t (read []) (first x (goals f n s)) ≡ read Δ → Listed n s at Δ
    go true d x st r q =
        let w : Listed n s at [] = record { kinds = refl; bytes = drop_of_length-le s (leb-true (length s) at d) } in
        subst (Listed n s at) (same_read [] Δ q) w
    go false d (goal G m) st r q =
        let b = steps (goals f n s m) (λ Γ. read (G ∷ Γ)) Δ q in
        let l = r m b.value b.first in
        let w : Listed n s at (G ∷ b.value) = record { kinds = both (below n G) _ st.1.0 l.kinds; bytes = st.0 ∙ ap (λ (z : List ℕ). print G ++ z) l.bytes } in
        subst (Listed n s at) (same_read (G ∷ b.value) Δ b.second) w
    go false d fault st r q = not_refused 10 Δ q

pub goals_end : (f n : ℕ) (s : List ℕ) (at : ℕ) → length s < at + f → length s ≤ at → at ≤ length s → goals f n s at ≡ read []
unfolding goals
goals_end zero n s at h k i = absurd (omega arith)
goals_end (suc f) n s at h k i = rw (le-leb _ _ k)

pub goals_on : (f n : ℕ) (s : List ℕ) (at : ℕ) → length s < at + f → at < length s → goals f n s at ≡ first (parse_at n s at) (goals (pred f) n s)
unfolding goals
goals_on zero n s at h k = absurd (omega arith)
goals_on (suc f) n s at h k = rw (lt-leb _ _ k)

-- fuel does not matter
pub goals_fuel : (f k n : ℕ) (s : List ℕ) (at : ℕ) → at ≤ length s → length s < at + f → length s < at + k → goals f n s at ≡ goals k n s at
unfolding goals
goals_fuel zero k n s at i h j = absurd (omega arith)
goals_fuel (suc f) zero n s at i h j = absurd (omega arith)
goals_fuel (suc f) (suc k) n s at i h j =
    go (leb (length s) at) (parse_at n s at) (stands_at n s at) (λ m a b. goals_fuel f k n s m b (omega arith) (omega arith))
  where
    go : (t : Bool) (x : Parsed) → Stands n s at x → ((m : ℕ) → at < m → m ≤ length s → goals f n s m ≡ goals k n s m)
        → cond t (read []) (first x (goals f n s)) ≡ cond t (read []) (first x (goals k n s))
    go true x st r = refl
    go false (goal G m) st r = ap (λ x. x >>= λ Δ. read (G ∷ Δ)) (r m (omega (arith, st.1.1.0, print_pos G)) st.1.1.1)
    go false fault st r = refl

pub printed_goals : (Δ : List Goal) (f n : ℕ) (s : List ℕ) (at : ℕ) → every (below n) Δ ≡ true → drop at s ≡ prints Δ → at ≤ length s → length s < at + f
    → goals f n s at ≡ read Δ
unfolding prints every
printed_goals [] f n s at b e i h = goals_end f n s at h (omega (arith, length-drop at s, ap length e)) i
printed_goals (G ∷ Δ) f n s at b e i h =
    let len : length s - at ≡ length (print G) + length (prints Δ) = sym (length-drop at s) ∙ ap length e ∙ length-append (print G) (prints Δ) in
    let pos : 1 ≤ length (print G) = print_pos G in
    let e₂ : drop (at + length (print G)) s ≡ prints Δ = sym (drop-drop (length (print G)) at s) ∙ ap (drop (length (print G))) e ∙ drop-append_seam (print G) (prints Δ) in
    goals_on f n s at h (omega arith)
    ∙ ap (λ x. first x (goals (pred f) n s)) (prints_at G n s at (prints Δ) (and_l (below n G) (every (below n) Δ) b) e)
    ∙ ap (λ x. x >>= λ Γ. read (G ∷ Γ)) (printed_goals Δ (pred f) n s (at + length (print G)) (and_r (below n G) (every (below n) Δ) b) e₂ (omega arith) (omega arith))

pub record Ordered (n : ℕ) (s : List ℕ) (Δ : List Goal) : Type 0 where
  pub short : length s ≤ 64
  pub kinds : every (below n) Δ ≡ true
  pub few : runs_within 16 1 Δ ≡ true
  pub bytes : s ≡ prints Δ

pub order_printed : (n : ℕ) (s : List ℕ) (Δ : List Goal) → order n s ≡ read Δ → Ordered n s Δ
unfolding order
order_printed n s Δ e =
    let b = steps (cond (leb (length s) 64) (goals (suc (length s)) n s 0) (refused 10)) (λ Γ. cond (runs_within 16 1 Γ) (read Γ) (refused 6)) Δ e in
    let g = granted (runs_within 16 1 b.value) 6 b.value Δ b.second in
    let c = short (leb (length s) 64) refl (goals (suc (length s)) n s 0) b.value b.first in
    let l = goals_printed (suc (length s)) n s 0 b.value c.1 in
    let w : Ordered n s b.value = record { short = c.0; kinds = l.kinds; few = g.0; bytes = l.bytes } in
    subst (Ordered n s) g.1 w
  where
    short : (t : Bool) → leb (length s) 64 ≡ t → (x : Reading (List Goal)) (Γ : List Goal) → cond t x (refused 10) ≡ read Γ → (length s ≤ 64) × (x ≡ read Γ)
    short true d x Γ q = (leb-true (length s) 64 d, q)
    short false d x Γ q = not_refused 10 Γ q

pub printed_order : (n : ℕ) (s : List ℕ) (Δ : List Goal) → Ordered n s Δ → order n s ≡ read Δ
unfolding order
printed_order n s Δ o =
    known (cond (leb (length s) 64) (goals (suc (length s)) n s 0) (refused 10)) (λ Γ. cond (runs_within 16 1 Γ) (read Γ) (refused 6)) Δ
    (ap (λ t. cond t (goals (suc (length s)) n s 0) (refused 10)) (le-leb _ _ o.short)
    ∙ printed_goals Δ (suc (length s)) n s 0 o.kinds o.bytes (omega arith) (omega arith))
    ∙ ap (λ t. cond t (read Δ) (refused 6)) o.few
