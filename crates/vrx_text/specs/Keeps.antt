-- What a call that writes after a text leaves of it, also if memory runs out on the way.
use Rattle.std.specs.Prelude.{◌≡◌, ℕ, List, ◌++◌}

-- a text is this one, with more after it or nothing
pub record Keeps (front text : List ℕ) : Type 0 where
  pub more : List ℕ
  pub is : text ≡ front ++ more
