-- Reading and printing goals are inverse, and fuel does not matter.
use mathlib.Core.Path.{◌≡◌, refl, sym, ap, ap₂, ◌∙◌}
use mathlib.Core.List.{List, ◌∷◌, ◌++◌, append_assoc}
use mathlib.Core.Bool.{Bool, true, false, cond}
use Prim.Native.Nat.{ℕ, zero, suc, pred, ◌+◌, ◌≤◌, ◌<◌}
use native.Mathlib.Nat.{add-zero}
use native.Mathlib.Numerals.{add-one}
use native.Mathlib.Omega.{arith}
use lib.Dec.{leb, eqb}
use lib.ListN.{length, get_or, drop, length-append, length-drop}
use lib.Seq.{drop-cons, drop-drop, drop-append_seam, get_or-drop}
use borrow.Author.Tests.{leb-false, le-leb, lt-leb, eqb-true}
use Rattle.tokens.proofs.Tests.{both, and_l, and_r}
use Rattle.logic.specs.Goals.{Goal, kind, ⊤, ◌⅋◌, ◌&◌}
use Rattle.goals.specs.declared.Op.{Op}
use Rattle.goals.specs.declared.Op.TheVariants.{Together, Both}
use Rattle.std.specs.Prelude.{Option, Some, None}
use Rattle.goals.specs.declared.Code.{Code}
use Rattle.goals.specs.declared.Code.TheVariants.{Kind, Done, Pair}
use Rattle.goals.specs.Codes.{is_kind, code, code_at}
use Rattle.goals.specs.Parsing.{Parsed, goal, fault, node, past, read_on, parse, parse_at}
use Rattle.goals.specs.Printing.{print, below}

-- ---- a code and its byte

abbrev op_code : Op → ℕ
op_code Together = 65
op_code Both = 66

-- what stands at a place where a code is read
abbrev pub Says : ℕ → List ℕ → ℕ → Option Code → Type 0
Says n s at (Some (Kind k)) = (drop at s ≡ k ∷ drop (at + 1) s) × (is_kind n k ≡ true)
Says n s at (Some Done) = drop at s ≡ 64 ∷ drop (at + 1) s
Says n s at (Some (Pair op)) = drop at s ≡ op_code op ∷ drop (at + 1) s
Says n s at None = Unit

says_cond : (b : Bool) (x y : Option Code) (n : ℕ) (s : List ℕ) (at : ℕ) → (b ≡ true → Says n s at x) → (b ≡ false → Says n s at y)
    → Says n s at (cond b x y)
says_cond true x y n s at p q = p refl
says_cond false x y n s at p q = q refl

next_is : (s : List ℕ) (at b : ℕ) → at < length s → get_or s at 0 ≡ b → drop at s ≡ b ∷ drop (at + 1) s
next_is s at b h e = drop-cons s at 0 h ∙ ap₂ (λ (x : ℕ) (y : List ℕ). x ∷ y) e (ap (λ (i : ℕ). drop i s) (sym (add-one at)))

pub says : (n : ℕ) (s : List ℕ) (at : ℕ) → Says n s at (code_at n s at)
unfolding code_at code
says n s at =
    let b = get_or s at 0 in
    says_cond (leb (length s) at) None _ n s at (λ _. tt)
    (λ f. let lt : at < length s = leb-false (length s) at f in
    says_cond (is_kind n b) (Some (Kind b)) _ n s at (λ t. (next_is s at b lt refl, t))
    (λ _. says_cond (eqb b 64) (Some Done) _ n s at (λ t. next_is s at 64 lt (eqb-true b 64 t))
    (λ _. says_cond (eqb b 65) (Some (Pair Together)) _ n s at (λ t. next_is s at 65 lt (eqb-true b 65 t))
    (λ _. says_cond (eqb b 66) (Some (Pair Both)) None n s at (λ t. next_is s at 66 lt (eqb-true b 66 t)) (λ _. tt)))))

pub here_lt : (s : List ℕ) (at b : ℕ) (r : List ℕ) → drop at s ≡ b ∷ r → at < length s
here_lt s at b r e = omega (arith, ap length e, length-drop at s)

here_is : (s : List ℕ) (at b : ℕ) (r : List ℕ) → drop at s ≡ b ∷ r → get_or s at 0 ≡ b
here_is s at b r e = ap (λ (i : ℕ). get_or s i 0) (sym (add-zero at)) ∙ sym (get_or-drop at s 0 0) ∙ ap (λ (l : List ℕ). get_or l 0 0) e

rest_is : (s : List ℕ) (at b : ℕ) (r : List ℕ) → drop at s ≡ b ∷ r → drop (at + 1) s ≡ r
rest_is s at b r e = sym (drop-drop 1 at s) ∙ ap (drop 1) e

-- the code of a byte that stands at a place
code_is : (n : ℕ) (s : List ℕ) (at b : ℕ) (r : List ℕ) → drop at s ≡ b ∷ r → code_at n s at ≡ code n b
unfolding code_at
code_is n s at b r e = rw (here_is s at b r e) (simp (lt-leb _ _ (here_lt s at b r e)))

kind_code : (n k : ℕ) → is_kind n k ≡ true → code n k ≡ Some (Kind k)
unfolding code
kind_code n k e = rw e

done_code : (n : ℕ) → code n 64 ≡ Some Done
unfolding code is_kind
done_code n = refl

pair_code : (n : ℕ) (op : Op) → code n (op_code op) ≡ Some (Pair op)
unfolding code is_kind
pair_code n Together = refl
pair_code n Both = refl

-- past the end no code is read
end_code : (n : ℕ) (s : List ℕ) (at : ℕ) → length s ≤ at → code_at n s at ≡ None
unfolding code_at
end_code n s at h = simp (le-leb _ _ h)

-- ---- what is read stands there, printed

-- the bytes of a goal that is read: its print, and the place past it
abbrev pub Stands : ℕ → List ℕ → ℕ → Parsed → Type 0
Stands n s at (goal G m) = (drop at s ≡ print G ++ drop m s) × ((below n G ≡ true) × ((m ≡ at + length (print G)) × (m ≤ length s)))
Stands n s at fault = Unit

print_node : (op : Op) (G H : Goal) → print (node op G H) ≡ op_code op ∷ (print G ++ print H)
unfolding print
print_node Together G H = refl
print_node Both G H = refl

below_node : (n : ℕ) (op : Op) (G H : Goal) → below n G ≡ true → below n H ≡ true → below n (node op G H) ≡ true
unfolding below
below_node n Together G H p q = both (below n G) (below n H) p q
below_node n Both G H p q = both (below n G) (below n H) p q

length_node : (op : Op) (G H : Goal) → length (print (node op G H)) ≡ suc (length (print G) + length (print H))
length_node op G H = ap length (print_node op G H) ∙ ap suc (length-append (print G) (print H))

right_stands : (n : ℕ) (s : List ℕ) (at m : ℕ) (op : Op) (G : Goal) (y : Parsed) → drop at s ≡ op_code op ∷ drop (at + 1) s
    → Stands n s (at + 1) (goal G m) → Stands n s m y → Stands n s at (past y (λ H e. goal (node op G H) e))
right_stands n s at m op G (goal H e) p q r = (
  p ∙ ap (λ (x : List ℕ). op_code op ∷ x) (q.0 ∙ ap (λ (x : List ℕ). print G ++ x) r.0 ∙ sym (append_assoc (print G) (print H) (drop e s)))
      ∙ ap (λ (x : List ℕ). x ++ drop e s) (sym (print_node op G H)),
  (below_node n op G H q.1.0 r.1.0, (omega (arith, length_node op G H, q.1.1.0, r.1.1.0), r.1.1.1)),
)
right_stands n s at m op G fault p q r = tt

left_stands : (n : ℕ) (s : List ℕ) (at : ℕ) (op : Op) (x : Parsed) (inner : ℕ → Parsed) → drop at s ≡ op_code op ∷ drop (at + 1) s
    → Stands n s (at + 1) x → ((i : ℕ) → Stands n s i (inner i)) → Stands n s at (past x (λ G m. past (inner m) (λ H e. goal (node op G H) e)))
left_stands n s at op (goal G m) inner p q r = right_stands n s at m op G (inner m) p q (r m)
left_stands n s at op fault inner p q r = tt

on_stands : (n : ℕ) (s : List ℕ) (at : ℕ) (c : Option Code) (inner : ℕ → Parsed) → Says n s at c → ((i : ℕ) → Stands n s i (inner i))
    → Stands n s at (read_on c (at + 1) inner)
unfolding print below
on_stands n s at (Some (Kind k)) inner p r = (p.0, (p.1, (refl, omega (arith, here_lt s at k _ p.0))))
on_stands n s at (Some Done) inner p r = (p, (refl, (refl, omega (arith, here_lt s at 64 _ p))))
on_stands n s at (Some (Pair op)) inner p r = left_stands n s at op (inner (at + 1)) inner p (r (at + 1)) r
on_stands n s at None inner p r = tt

stands : (f n : ℕ) (s : List ℕ) (at : ℕ) → Stands n s at (parse f n s at)
unfolding parse
stands zero n s at = tt
stands (suc f) n s at = on_stands n s at (code_at n s at) (parse f n s) (says n s at) (stands f n s)

pub stands_at : (n : ℕ) (s : List ℕ) (at : ℕ) → Stands n s at (parse_at n s at)
unfolding parse_at
stands_at n s at = stands (length s) n s at

-- a goal takes a byte at least
pub print_pos : (G : Goal) → 1 ≤ length (print G)
unfolding print
print_pos (kind k) = omega arith
print_pos ⊤ = omega arith
print_pos (G ⅋ H) = omega arith
print_pos (G & H) = omega arith

-- and an odd number of bytes
pub print_odd : (G : Goal) → (k : ℕ) × (length (print G) ≡ suc (k + k))
unfolding print
print_odd (kind k) = (0, refl)
print_odd ⊤ = (0, refl)
print_odd (G ⅋ H) =
    let g = print_odd G in
    let h = print_odd H in
    let e : suc (length (print G ++ print H)) ≡ suc (suc (g.0 + h.0) + suc (g.0 + h.0)) = omega (arith, length-append (print G) (print H), g.1, h.1) in
    (suc (g.0 + h.0), e)
print_odd (G & H) =
    let g = print_odd G in
    let h = print_odd H in
    let e : suc (length (print G ++ print H)) ≡ suc (suc (g.0 + h.0) + suc (g.0 + h.0)) = omega (arith, length-append (print G) (print H), g.1, h.1) in
    (suc (g.0 + h.0), e)

-- ---- fuel does not matter

-- with enough fuel a reading is what its code says
parse_on : (f n : ℕ) (s : List ℕ) (at : ℕ) → length s ≤ at + f → parse f n s at ≡ read_on (code_at n s at) (at + 1) (parse (pred f) n s)
unfolding parse
parse_on zero n s at h = rw (end_code n s at (omega arith))
parse_on (suc f) n s at h = refl

-- two readings that agree past a place agree there
right_same : (n : ℕ) (s : List ℕ) (at : ℕ) (op : Op) (x : Parsed) (p q : ℕ → Parsed) → Stands n s (at + 1) x → ((i : ℕ) → at < i → p i ≡ q i)
    → past x (λ G m. past (p m) (λ H e. goal (node op G H) e)) ≡ past x (λ G m. past (q m) (λ H e. goal (node op G H) e))
right_same n s at op (goal G m) p q st eq = ap (λ y. past y (λ H e. goal (node op G H) e)) (eq m (omega (arith, st.1.1.0)))
right_same n s at op fault p q st eq = refl

on_same : (n : ℕ) (s : List ℕ) (at : ℕ) (c : Option Code) (p q : ℕ → Parsed) → ((i : ℕ) → Stands n s i (p i)) → ((i : ℕ) → at < i → p i ≡ q i)
    → read_on c (at + 1) p ≡ read_on c (at + 1) q
on_same n s at (Some (Kind k)) p q st eq = refl
on_same n s at (Some Done) p q st eq = refl
on_same n s at (Some (Pair op)) p q st eq =
    right_same n s at op (p (at + 1)) p q (st (at + 1)) eq
    ∙ ap (λ x. past x (λ G m. past (q m) (λ H e. goal (node op G H) e))) (eq (at + 1) (omega arith))
on_same n s at None p q st eq = refl

-- any two amounts of fuel that reach the end give one reading
pub fuel : (f k n : ℕ) (s : List ℕ) (at : ℕ) → length s ≤ at + f → length s ≤ at + k → parse f n s at ≡ parse k n s at
unfolding parse
fuel zero k n s at h j = sym (parse_on k n s at j ∙ ap (λ x. read_on x (at + 1) (parse (pred k) n s)) (end_code n s at (omega arith)))
fuel (suc f) k n s at h j =
    on_same n s at (code_at n s at) (parse f n s) (parse (pred k) n s) (stands f n s) (λ i lt. fuel f (pred k) n s i (omega arith) (omega arith))
    ∙ sym (parse_on k n s at j)

-- the goal at a place is what its code says, with the goals that follow it: no fuel
pub parse_at_on : (n : ℕ) (s : List ℕ) (at : ℕ) → parse_at n s at ≡ read_on (code_at n s at) (at + 1) (parse_at n s)
unfolding parse_at
parse_at_on n s at =
    parse_on (length s) n s at (omega arith)
    ∙ on_same n s at (code_at n s at) (parse (pred (length s)) n s) (parse (length s) n s) (stands (pred (length s)) n s)
    (λ i lt. fuel (pred (length s)) (length s) n s i (omega arith) (omega arith))

-- ---- what is printed is read

node_parse : (op : Op) (f n : ℕ) (s : List ℕ) (at : ℕ) (G H : Goal) (r : List ℕ)
    → drop at s ≡ op_code op ∷ ((print G ++ print H) ++ r)
    → (drop (at + 1) s ≡ print G ++ (print H ++ r) → parse f n s (at + 1) ≡ goal G (at + 1 + length (print G)))
    → (drop (at + 1 + length (print G)) s ≡ print H ++ r
    → parse f n s (at + 1 + length (print G)) ≡ goal H (at + 1 + length (print G) + length (print H)))
    → parse (suc f) n s at ≡ goal (node op G H) (at + suc (length (print G ++ print H)))
unfolding parse
node_parse op f n s at G H r e p q =
    let e₁ : drop (at + 1) s ≡ print G ++ (print H ++ r) = rest_is s at (op_code op) ((print G ++ print H) ++ r) e ∙ append_assoc (print G) (print H) r in
    let e₂ : drop (at + 1 + length (print G)) s ≡ print H ++ r = sym (drop-drop (length (print G)) (at + 1) s) ∙ ap (drop (length (print G))) e₁ ∙ drop-append_seam (print G) (print H ++ r) in
    ap (λ x. read_on x (at + 1) (parse f n s)) (code_is n s at (op_code op) ((print G ++ print H) ++ r) e ∙ pair_code n op)
    ∙ ap (λ x. past x (λ G m. past (parse f n s m) (λ H e. goal (node op G H) e))) (p e₁)
    ∙ ap (λ x. past x (λ H e. goal (node op G H) e)) (q e₂)
    ∙ ap (goal (node op G H)) (omega (arith, length-append (print G) (print H)))

pub reads_print : (G : Goal) (f n : ℕ) (s : List ℕ) (at : ℕ) (r : List ℕ) → below n G ≡ true → length (print G) ≤ f → drop at s ≡ print G ++ r
    → parse f n s at ≡ goal G (at + length (print G))
unfolding print parse below
reads_print (kind k) zero n s at r b h e = absurd (omega arith)
reads_print (kind k) (suc f) n s at r b h e = ap (λ x. read_on x (at + 1) (parse f n s)) (code_is n s at k r e ∙ kind_code n k b)
reads_print ⊤ zero n s at r b h e = absurd (omega arith)
reads_print ⊤ (suc f) n s at r b h e = ap (λ x. read_on x (at + 1) (parse f n s)) (code_is n s at 64 r e ∙ done_code n)
reads_print (G ⅋ H) zero n s at r b h e = absurd (omega arith)
reads_print (G ⅋ H) (suc f) n s at r b h e =
    node_parse Together f n s at G H r e
    (reads_print G f n s (at + 1) (print H ++ r) (and_l (below n G) (below n H) b) (omega (arith, length-append (print G) (print H))))
    (reads_print H f n s (at + 1 + length (print G)) r (and_r (below n G) (below n H) b) (omega (arith, length-append (print G) (print H))))
reads_print (G & H) zero n s at r b h e = absurd (omega arith)
reads_print (G & H) (suc f) n s at r b h e =
    node_parse Both f n s at G H r e
    (reads_print G f n s (at + 1) (print H ++ r) (and_l (below n G) (below n H) b) (omega (arith, length-append (print G) (print H))))
    (reads_print H f n s (at + 1 + length (print G)) r (and_r (below n G) (below n H) b) (omega (arith, length-append (print G) (print H))))

-- a goal printed at a place of s is read there
pub prints_at : (G : Goal) (n : ℕ) (s : List ℕ) (at : ℕ) (r : List ℕ) → below n G ≡ true → drop at s ≡ print G ++ r
    → parse_at n s at ≡ goal G (at + length (print G))
unfolding parse_at
prints_at G n s at r b e = reads_print G (length s) n s at r b (omega (arith, length-append (print G) r, ap length e, length-drop at s)) e
