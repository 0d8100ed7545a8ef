use Rattle.std.proofs.Common.{◌≡◌, ℕ, ◌<◌, ◌≤◌, bit_xor, slice_index}
use Rattle.vrx_fec.proofs.parity.xor_into.Given as goal

-- the first octets have the XOR, and the others are as they were
abbrev pub invariant-loop-k : goal.invariant-loop-k
invariant-loop-k l =
    record {
      done : (j : ℕ) → j < l.k → slice_index l.target j ≡
          bit_xor (slice_index l.initial.target j) (slice_index l.other j);
      left : (j : ℕ) → l.k ≤ j → slice_index l.target j ≡ slice_index l.initial.target j;
    }
