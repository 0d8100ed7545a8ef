-- What a read does to the bytes that a source has left.
use Rattle.std.specs.Prelude.{◌≡◌, ℕ, ◌≤◌, List, [], length, take, drop, Some, IfSome}
use Rattle.std.specs.declared.option.Option.{Option}

-- of these bytes the first n are at the front of the buffer, and the others are left
pub record TakesPrefix (bytes : List ℕ) (left : Option (List ℕ)) (n : ℕ) (buf : List ℕ) : Type 0 where
  pub enough : n ≤ length bytes
  pub rest : left ≡ Some (drop n bytes)
  pub given : take n buf ≡ take n bytes

-- a read gave the first n of the bytes that were left, if the source tells them
abbrev pub Gives : Option (List ℕ) → Option (List ℕ) → ℕ → List ℕ → Type 0
Gives before after n buf = IfSome before (λ bytes. TakesPrefix bytes after n buf)

-- no byte is left, if the source tells them
abbrev pub IsSpent : Option (List ℕ) → Type 0
IsSpent left = IfSome left (λ bytes. bytes ≡ [])
