-- Indexes of 8 bits, which go on from 255 to 0: TL0PICIDX of RFC 7741 4.2.
use Rattle.std.specs.Prelude.{ℕ, ◌+◌, ◌%◌}

-- the index after i: one more, modulo 256
abbrev pub index_after : ℕ → ℕ
index_after i = (i + 1) % 256

-- the index before i: one less, modulo 256
abbrev pub index_before : ℕ → ℕ
index_before i = (i + 255) % 256
