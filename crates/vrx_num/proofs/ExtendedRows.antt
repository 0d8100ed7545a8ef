-- Rows of the definition, which compute.
use Rattle.std.proofs.Common.{◌≡◌, None, Some, refl}
use Rattle.vrx_num.specs.Extended.{extended_number}

-- one back, over the wrap
one_back : extended_number (Some 65536) 65535 ≡ Some 65535
one_back = refl

-- four ahead, over the wrap
four_ahead : extended_number (Some 131070) 2 ≡ Some 131074
four_ahead = refl

-- in the cycle 0 there is no cycle before: the number 65,535 is too far ahead, and nothing is nearer
first_cycle : extended_number (Some 100) 65535 ≡ None
first_cycle = refl

-- just half of the space away
half_away : extended_number (Some 65536) 32768 ≡ None
half_away = refl
