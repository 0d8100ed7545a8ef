-- An octet's bits.
use Rattle.std.specs.Prelude.{ℕ, ◌/◌, ◌%◌, ◌==◌, Bool}

-- the bit of an octet that has this value: 128 for the highest, 1 for the lowest
abbrev pub bit : ℕ → ℕ → Bool
bit value octet = (octet / value) % 2 == 1
