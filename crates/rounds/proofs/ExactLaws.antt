-- "One round alone gives the minimal sets of I together with S_P of I": its rows are those, and its table is the only one in order that covers what they cover.
use Prim.Native.Nat.{ℕ}
use mathlib.Core.Bool.{Bool, true, ◌||◌}
use mathlib.Core.Path.{◌≡◌, sym, ◌∙◌, ap, fun_ext}
use mathlib.Core.List.Memᴰ
use mathlib.Core.List.{List, Memᴰ}
use mathlib.Core.Logic.{inl, inr, ⊎_elim, ◌↔◌}
use lib.ListN.{length}
use Rattle.tokens.specs.Sets.{included}
use Rattle.tokens.specs.Tables.{covered, Wide}
use Rattle.tokens.proofs.Tests.{or_l, or_r}
use Rattle.tokens.proofs.SetLaws.{included_refl, included_trans, included_antisym}
use Rattle.tokens.proofs.TableLaws.{covering, covers, wide_mem, Orderly}
use Rattle.tokens.proofs.UniqueLaws.{apart_mem, orderly_unique}
use Rattle.rounds.specs.Round.{going, Rule, Limits, Growth, round}
use Rattle.rounds.specs.Earns.{any, earns, Collection, MinimalIn}
use Rattle.rounds.proofs.CoverLaws.{round_covers}
use Rattle.rounds.proofs.EarnsLaws.{earned_includes}
use Rattle.rounds.proofs.RoundLaws.{Sized, of_rules_wide, round_rows, round_orderly, round_wide}

-- where the rows of a table in order are of a collection of sets of one width that it covers, they are the collection's minimal sets
pub rows_minimal : (w : ℕ) (t : List (List ℕ)) (C : List ℕ → Type 0) → Orderly t → ((x : List ℕ) → C x → length x ≡ w) → ((x : List ℕ) → C x → covered t x ≡ true) → ((r : List ℕ) → Memᴰ r t → C r) → (x : List ℕ) → Memᴰ x t ↔ MinimalIn C x
rows_minimal w t C o wide cover rows x = (there, back)
  where
    there : Memᴰ x t → MinimalIn C x
    there m = record {
      one_of = rows x m;
      least = λ s c i.
          let v = covering t s (cover s c) in
          let p = apart_mem t o.antichain v.0 x v.1 m (included_trans v.0 s x v.2 i) in
          included_antisym s x (wide s c ∙ sym (wide x (rows x m))) i (ap (λ a. included a s) (sym p) ∙ v.2);
    }

    back : MinimalIn C x → Memᴰ x t
    back m = let v = covering t x (cover x m.one_of) in Memᴰ.cast (sym (m.least v.0 (rows v.0 v.1) v.2)) v.1

pub collection_wide : (rules : List Rule) (I : List (List ℕ)) → Sized rules → Wide 32 I → (x : List ℕ) → Collection rules I x → length x ≡ 32
unfolding Collection
collection_wide rules I z w x (inl m) = wide_mem w m
collection_wide rules I z w x (inr o) = of_rules_wide rules I x z w o

module _ (limits : Limits) (spent : Bool) (rules : List Rule) (I : List (List ℕ)) (u : Growth) (e : round limits spent rules I ≡ going u) where
  pub round_collection : (r : List ℕ) → Memᴰ r u.rows → Collection rules I r
  unfolding Collection
  round_collection r m = ⊎_elim (λ i. inl i) (λ o. inr o.0) (round_rows limits spent rules I u e r m)

  pub collection_covered : (x : List ℕ) → Collection rules I x → covered u.rows x ≡ true
  unfolding Collection
  collection_covered x (inl m) = round_covers limits spent rules I u e x ∙ or_l (covered I x) (any (earns (covered I) x) rules) (covers m x (included_refl x))
  collection_covered x (inr o) = round_covers limits spent rules I u e x ∙ or_r (covered I x) (any (earns (covered I) x) rules) ((earned_includes rules I x).1 (x, o, included_refl x))

  -- the rows of the new table are exactly the minimal sets of I together with S_P of I
  pub round_minimal : Sized rules → Wide 32 I → Orderly I → (x : List ℕ) → Memᴰ x u.rows ↔ MinimalIn (Collection rules I) x
  round_minimal z w o = rows_minimal 32 u.rows (Collection rules I) (round_orderly limits spent rules I u e o) (collection_wide rules I z w) collection_covered round_collection

  -- a table in order that covers what I covers and what the rules earn over I is the round's
  pub round_only : Sized rules → Wide 32 I → Orderly I → (t : List (List ℕ)) → Wide 32 t → Orderly t → ((y : List ℕ) → covered t y ≡ (covered I y || any (earns (covered I) y) rules)) → t ≡ u.rows
  round_only z w o t wt ot h =
      orderly_unique 32 t u.rows ot (round_orderly limits spent rules I u e o) wt (round_wide limits spent rules I u e z w) (λ y. h y ∙ sym (round_covers limits spent rules I u e y))

-- two unrefused rounds over tables that cover the same sets give the same table
pub round_unique : (rules : List Rule) → Sized rules → (limits limits' : Limits) (spent spent' : Bool) (I I' : List (List ℕ)) (u u' : Growth) →
    round limits spent rules I ≡ going u → round limits' spent' rules I' ≡ going u' → Wide 32 I → Wide 32 I' → Orderly I → Orderly I' → ((y : List ℕ) → covered I y ≡ covered I' y) → u.rows ≡ u'.rows
round_unique rules z limits limits' spent spent' I I' u u' e e' w w' o o' h =
    round_only limits' spent' rules I' u' e' z w' o' u.rows (round_wide limits spent rules I u e z w) (round_orderly limits spent rules I u e o)
    (λ y. round_covers limits spent rules I u e y ∙ ap (λ c. c y || any (earns c y) rules) (fun_ext h))
