-- Satisfaction through branches, exactly: I ⊩ Θ[𝒜] holds of the joins, over the branches of Θ, of a fact of I less the branch.
use mathlib.Core.Path.{◌≡◌, refl, sym, ap, subst, ◌∙◌, fun_ext}
use mathlib.Core.List.{List, [], ◌∷◌, ◌++◌, map, append-nil}
use mathlib.Core.List.Permᴰ
use mathlib.Core.Logic.{◌↔◌}
use Prim.Native.Nat.{ℕ}
use Rattle.logic.specs.Facts.{Fact, ϵ, ◌⊕◌, ◌∖◌, ◌•◌, occ}
use Rattle.logic.specs.Goals.{Goal, kind, ⊤, ◌⅋◌, ◌&◌, ◌∼◌, atoms}
use Rattle.logic.specs.Satisfaction.{Interp, ◌⊩◌⟦◌⟧, sat_top, sat_fact, sat_par, sat_with}
use Rattle.logic.specs.Branches.{sums, opened, opened_all, branches, branches_c}
use Rattle.logic.proofs.FactLaws.{⊕_assoc, ⊕_comm, •_assoc, •_front, •_ϵ, ϵ_•}
use Rattle.logic.proofs.Multisets.{∼_refl, ∼_sym, ∼_eq, ◌⨾◌, ∼_front, occ_⊕}
use Rattle.logic.proofs.BranchLaws.{opened_all_map, opened_all_∼, opened_all_top, opened_all_par, opened_all_with}
use Rattle.logic.proofs.Contexts.{branches_atoms}
use Rattle.logic.proofs.Opening.{atoms_front}
use Rattle.logic.proofs.Satisfied.{sat_swap}

-- ---- the branches of a context as facts

abbrev pub facts_of_branches : List Goal → List Fact
facts_of_branches Θ = opened_all (λ k. occ (k ∷ [])) ◌⊕◌ ϵ Θ

occ_nil : occ [] ≡ ϵ
unfolding occ
occ_nil = fun_ext (λ k. refl)

pub branch_facts : (Θ : List Goal) → map occ (branches_c Θ) ≡ facts_of_branches Θ
branch_facts Θ = opened_all_map occ ◌++◌ ◌⊕◌ occ_⊕ (λ k. k ∷ []) (λ k. occ (k ∷ [])) (λ k. refl) [] ϵ occ_nil Θ

facts_atoms : (A : List ℕ) → facts_of_branches (atoms A) ≡ occ A ∷ []
facts_atoms A = sym (branch_facts (atoms A)) ∙ ap (map occ) (branches_atoms A)

facts_∼ : {Θ Ξ : List Goal} → Θ ∼ Ξ → facts_of_branches Ξ ∼ facts_of_branches Θ
facts_∼ d = ∼_sym (opened_all_∼ ◌⊕◌ ⊕_assoc ⊕_comm (λ k. occ (k ∷ [])) ϵ d)

-- ---- joins

-- the join, over a list, of a fact that R gives for each of its elements
pub data Joined {B : Type 0} (R : B → Fact → Type 0) : List B → Fact → Type 0 where
  j_none : Joined R [] ϵ
  j_more : {b : B} {L : List B} {X Y : Fact} → R b X → Joined R L Y → Joined R (b ∷ L) (X • Y)

module _ {B : Type 0} {R : B → Fact → Type 0} where
  j_eq : {L : List B} {X Y : Fact} → X ≡ Y → Joined R L X → Joined R L Y
  j_eq {L} e j = subst (Joined R L) e j

  pub joined_cons : {b : B} {L : List B} {Z : Fact} → Joined R (b ∷ L) Z → (X : Fact) × (Y : Fact) × R b X × Joined R L Y × (Z ≡ X • Y)
  joined_cons (j_more {X = X} {Y = Y} r j) = (X, Y, r, j, refl)

  pub joined_nil : {Z : Fact} → Joined R [] Z → Z ≡ ϵ
  joined_nil j_none = refl

  joined_append : {L M : List B} {X Y : Fact} → Joined R L X → Joined R M Y → Joined R (L ++ M) (X • Y)
  joined_append {Y = Y} j_none k = j_eq (sym (ϵ_• Y)) k
  joined_append {Y = Y} (j_more {X = X₁} {Y = X₂} r j) k = j_eq (sym (•_assoc X₁ X₂ Y)) (j_more r (joined_append j k))

  joined_split : (L : List B) {M : List B} {Z : Fact} → Joined R (L ++ M) Z
      → (X : Fact) × (Y : Fact) × Joined R L X × Joined R M Y × (Z ≡ X • Y)
  joined_split [] {Z = Z} j = (ϵ, Z, j_none, j, sym (ϵ_• Z))
  joined_split (b ∷ L) j =
      let r = joined_cons j in
      let s = joined_split L r.3 in
      (r.0 • s.0, s.1, j_more r.2 s.2, s.3, r.4 ∙ ap (λ (F : Fact). r.0 • F) s.4 ∙ sym (•_assoc r.0 s.0 s.1))

  joined_∼ : {L M : List B} → L ∼ M → {X : Fact} → Joined R L X → Joined R M X
  joined_∼ Permᴰ.nil j = j
  joined_∼ (Permᴰ.cons e d) j =
      let r = joined_cons j in
      j_eq (sym r.4) (j_more (subst (λ (c : B). R c r.0) e r.2) (joined_∼ d r.3))
  joined_∼ (Permᴰ.swap e₁ e₂) j =
      let r = joined_cons j in
      let s = joined_cons r.3 in
      j_eq (•_front s.0 r.0 s.1 ∙ ap (λ (F : Fact). r.0 • F) (sym s.4) ∙ sym r.4)
      (j_more (subst (λ (c : B). R c s.0) e₂ s.2) (j_more (subst (λ (c : B). R c r.0) e₁ r.2) s.3))
  joined_∼ (Permᴰ.trans d₁ d₂) j = joined_∼ d₂ (joined_∼ d₁ j)

  -- what holds of the join of a single element
  joined_one : {b : B} {Z : Fact} → Joined R (b ∷ []) Z → R b Z
  joined_one {b} j =
      let r = joined_cons j in
      subst (R b) (sym (r.4 ∙ ap (λ (F : Fact). r.0 • F) (joined_nil r.3) ∙ •_ϵ r.0)) r.2

joined_weaken : {B : Type 0} {R Q : B → Fact → Type 0} → ((b : B) (X : Fact) → R b X → Q b X)
    → {L : List B} {X : Fact} → Joined R L X → Joined Q L X
joined_weaken g j_none = j_none
joined_weaken g (j_more {b = b} {X = X} r j) = j_more (g b X r) (joined_weaken g j)

joined_unmap : {B C : Type 0} (Q : C → Fact → Type 0) (f : B → C) (L : List B) {X : Fact} → Joined Q (map f L) X → Joined (λ b. Q (f b)) L X
joined_unmap Q f [] j = subst (Joined _ []) (sym (joined_nil j)) j_none
joined_unmap Q f (b ∷ L) j =
    let r = joined_cons j in
    subst (Joined (λ x. Q (f x)) (b ∷ L)) (sym r.4) (j_more r.2 (joined_unmap Q f L r.3))

-- a join over sums is a join, over the left, of joins over the right
joined_sums : (R : List ℕ → Fact → Type 0) (L M : List (List ℕ)) {Z : Fact} → Joined R (sums ◌++◌ L M) Z
    → Joined (λ a. Joined (λ b. R (a ++ b)) M) L Z
unfolding sums
joined_sums R [] M j = subst (Joined _ []) (sym (joined_nil j)) j_none
joined_sums R (a ∷ L) M j =
    let r = joined_split (map (λ (b : List ℕ). a ++ b) M) j in
    subst (Joined (λ x. Joined (λ b. R (x ++ b)) M) (a ∷ L)) (sym r.4)
    (j_more (joined_unmap R (λ (b : List ℕ). a ++ b) M r.2) (joined_sums R L M r.3))

-- ---- satisfaction

-- a fact of I less the branch b
abbrev pub Less : Interp → List ℕ → Fact → Type 0
Less I b X = (B : Fact) × I B × (X ≡ B ∖ occ b)

-- satisfied with the branch b in front of Δ
abbrev Beside : Interp → List Goal → List ℕ → Fact → Type 0
Beside I Δ b X = I ⊩ atoms b ++ Δ ⟦ X ⟧

abbrev LessF : Interp → Fact → Fact → Type 0
LessF I A X = (B : Fact) × I B × (X ≡ B ∖ A)

module _ {I : Interp} where
  facts_joined : {Θ : List Goal} {X : Fact} → I ⊩ Θ ⟦ X ⟧ → Joined (LessF I) (facts_of_branches Θ) X
  facts_joined (sat_top {Δ = Δ} e) = joined_∼ (∼_eq (sym (opened_all_top (λ k. occ (k ∷ [])) ◌⊕◌ ϵ Δ)) ⨾ facts_∼ e) j_none
  facts_joined (sat_fact A {B = B} e b) =
      joined_∼ (∼_eq (sym (facts_atoms A)) ⨾ facts_∼ e) (j_eq (•_ϵ (B ∖ occ A)) (j_more (B, b, refl) j_none))
  facts_joined (sat_par {Δ = Δ} {G₁ = G} {G₂ = H} e s) =
      joined_∼ (∼_eq (sym (opened_all_par ◌⊕◌ ⊕_assoc (λ k. occ (k ∷ [])) ϵ G H Δ)) ⨾ facts_∼ e) (facts_joined s)
  facts_joined (sat_with {Δ = Δ} {G₁ = G} {G₂ = H} e s t) =
      joined_∼ (∼_eq (sym (opened_all_with (λ k. occ (k ∷ [])) ◌⊕◌ ϵ G H Δ)) ⨾ facts_∼ e) (joined_append (facts_joined s) (facts_joined t))

  sat_joined : (Θ : List Goal) {X : Fact} → I ⊩ Θ ⟦ X ⟧ → Joined (Less I) (branches_c Θ) X
  sat_joined Θ {X} s =
      joined_unmap (LessF I) occ (branches_c Θ) (subst (λ (l : List Fact). Joined (LessF I) l X) (sym (branch_facts Θ)) (facts_joined s))

  sat_eq : {Θ : List Goal} {X Y : Fact} → X ≡ Y → I ⊩ Θ ⟦ Y ⟧ → I ⊩ Θ ⟦ X ⟧
  sat_eq {Θ} e s = subst (λ (F : Fact). I ⊩ Θ ⟦ F ⟧) (sym e) s

  beside_front : (Δ : List Goal) (a : List ℕ) {M : List (List ℕ)} {X : Fact}
      → Joined (λ b. Beside I Δ (a ++ b)) M X → Joined (Beside I (atoms a ++ Δ)) M X
  beside_front Δ a j = joined_weaken (λ b Y s. sat_swap (atoms_front a b Δ) s) j

  joined_goal : (G : Goal) (Δ : List Goal) {Z : Fact} → Joined (Beside I Δ) (branches G) Z → I ⊩ G ∷ Δ ⟦ Z ⟧
  unfolding opened
  joined_goal (kind a) Δ j = joined_one j
  joined_goal ⊤ Δ j = sat_eq (joined_nil j) (sat_top ∼_refl)
  joined_goal (G ⅋ H) Δ j =
      sat_par ∼_refl (joined_goal G (H ∷ Δ) (joined_weaken
      (λ a X k. sat_swap (Permᴰ.middle H (atoms a) Δ) (joined_goal H (atoms a ++ Δ) (beside_front Δ a k)))
      (joined_sums (Beside I Δ) (branches G) (branches H) j)))
  joined_goal (G & H) Δ j =
      let r = joined_split (branches G) j in
      sat_eq r.4 (sat_with ∼_refl (joined_goal G Δ r.2) (joined_goal H Δ r.3))

  joined_context : (Γ Δ : List Goal) {Z : Fact} → Joined (Beside I Δ) (branches_c Γ) Z → I ⊩ Γ ++ Δ ⟦ Z ⟧
  unfolding opened_all
  joined_context [] Δ j = joined_one j
  joined_context (G ∷ Γ) Δ j =
      joined_goal G (Γ ++ Δ) (joined_weaken
      (λ a X k. sat_swap (∼_front (atoms a) Γ Δ) (joined_context Γ (atoms a ++ Δ) (beside_front Δ a k)))
      (joined_sums (Beside I Δ) (branches G) (branches_c Γ) j))

  joined_sat : (Θ : List Goal) {Z : Fact} → Joined (Less I) (branches_c Θ) Z → I ⊩ Θ ⟦ Z ⟧
  joined_sat Θ j =
      sat_swap (∼_eq (sym (append-nil Θ)))
      (joined_context Θ [] (joined_weaken (λ b X l. sat_eq l.2 (sat_fact b (∼_eq (append-nil (atoms b))) l.1)) j))

-- 5.4 in one line: satisfaction is the join, over the branches, of a fact of I less the branch (01, "A round", step 2)
pub sat_iff : (I : Interp) (Θ : List Goal) (X : Fact) → (I ⊩ Θ ⟦ X ⟧) ↔ Joined (Less I) (branches_c Θ) X
sat_iff I Θ X = (sat_joined Θ, joined_sat Θ)
