-- A text written into a lent buffer.
use Rattle.std.specs.Prelude.{ℕ, ◌+◌, ◌≡◌, List, ◌++◌, length, take, drop}

-- the bytes d with the text t in the place of those from `at` on
unfoldable pub write_at : ℕ → List ℕ → List ℕ → List ℕ
write_at at t d = take at d ++ (t ++ drop (at + length t) d)

-- the text t was written from `at` on, r is the place after it, and every other byte is as it was
pub record Written (t : List ℕ) (at : ℕ) (before after : List ℕ) (r : ℕ) : Type 0 where
  pub place : r ≡ at + length t
  pub holds : after ≡ write_at at t before
