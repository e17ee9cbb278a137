-- Goals written as bytes: what the laws hold reading against.
use Rattle.std.specs.Prelude.{ℕ, Bool, true, ◌&&◌, List, [], ◌∷◌, ◌++◌}
use Rattle.logic.specs.Goals.{Goal, kind, ⊤, ◌⅋◌, ◌&◌}
use Rattle.goals.specs.Codes.{is_kind}

-- a goal, operator first
unfoldable pub print : Goal → List ℕ
print (kind k) = k ∷ []
print ⊤ = 64 ∷ []
print (G ⅋ H) = 65 ∷ (print G ++ print H)
print (G & H) = 66 ∷ (print G ++ print H)

-- goals end to end
unfoldable pub prints : List Goal → List ℕ
prints [] = []
prints (G ∷ Δ) = print G ++ prints Δ

-- every kind of the goal is below n (and below 32)
unfoldable pub below : ℕ → Goal → Bool
below n (kind k) = is_kind n k
below n ⊤ = true
below n (G ⅋ H) = below n G && below n H
below n (G & H) = below n G && below n H
