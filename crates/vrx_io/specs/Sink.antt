-- What writes do to the bytes that a sink has taken.
use Rattle.std.specs.Prelude.{◌≡◌, ℕ, ◌<◌, List, ◌++◌, length, take}
use Rattle.std.specs.Option.{option_map}
use Rattle.std.specs.declared.option.Option.{Option}

-- the bytes taken after more of them, if the sink tells them
abbrev pub with_more : Option (List ℕ) → List ℕ → Option (List ℕ)
with_more taken more = option_map (λ bytes. bytes ++ more) taken

-- a part of the text was taken, from its front, and not all of it
pub record TakesShortPrefix (before after : Option (List ℕ)) (text : List ℕ) : Type 0 where
  pub count : ℕ
  pub short : count < length text
  pub part : after ≡ with_more before (take count text)
