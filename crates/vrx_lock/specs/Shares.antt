-- Shares of a receiver: so many parts of a power of two.
use Rattle.std.specs.Prelude.{◌≡◌, ◌+◌, ◌*◌, ◌-◌, ◌^◌, ℕ, max}
use Rattle.vrx_lock.specs.declared.known.Share.{Share}

-- all of it
abbrev pub IsWhole : Share → Type 0
IsWhole share = share.parts ≡ 2 ^ share.depth

-- half of a share
abbrev pub halved : Share → Share
halved share = record { parts = share.parts; depth = share.depth + 1 }

-- how many parts a share has, if they are made smaller
abbrev pub parts_at : ℕ → Share → ℕ
parts_at depth share = share.parts * 2 ^ (depth - share.depth)

-- two shares together
abbrev pub added : Share → Share → Share
added a b = let depth : ℕ = max a.depth b.depth in record { parts = parts_at depth a + parts_at depth b; depth = depth }
