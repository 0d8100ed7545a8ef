use Rattle.std.proofs.Common.{◌≡◌, ◌+◌, ◌==◌, drop}
use Rattle.std.specs.List.{position_or_len}
use Rattle.vrx_capture.proofs.words.index_of.Given as goal

-- the first place is after the octets seen
abbrev pub invariant-loop-i : goal.invariant-loop-i
invariant-loop-i l =
    l.i + position_or_len (λ o. o == l.octet) (drop l.i l.text) ≡ position_or_len (λ o. o == l.octet) l.text
