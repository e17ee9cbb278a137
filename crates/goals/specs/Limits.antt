-- How many branches there may be (01, "Branches"): "No goal, no part of a goal and no leading run of an order's goals may open
-- into more than 16." The limit m is a parameter.
use Rattle.std.specs.Prelude.{ℕ, ◌*◌, Bool, true, ◌&&◌, List, [], ◌∷◌, leb}
use Rattle.logic.specs.Goals.{Goal, kind, ⊤, ◌⅋◌, ◌&◌}
use Rattle.logic.specs.Branches.{ways}

-- neither the goal nor a part of it opens into more than m
unfoldable pub within : ℕ → Goal → Bool
within m (kind k) = leb (ways (kind k)) m
within m ⊤ = leb (ways ⊤) m
within m (G ⅋ H) = within m G && (within m H && leb (ways (G ⅋ H)) m)
within m (G & H) = within m G && (within m H && leb (ways (G & H)) m)

-- after a leading run with w branches: no goal that follows, and no run that ends with one of them, opens into more than m
unfoldable pub runs_within : ℕ → ℕ → List Goal → Bool
runs_within m w [] = true
runs_within m w (G ∷ Δ) = within m G && (leb (w * ways G) m && runs_within m (w * ways G) Δ)
