-- Rows of the definition, which compute.
use Rattle.std.proofs.Common.{◌≡◌, None, Some, refl}
use Rattle.vrx_num.specs.Index.{index_after, index_before}
use Rattle.vrx_num.specs.Pictures.{extended_picture}

-- the first picture
first : extended_picture None 5 ≡ 32773
first = refl

-- the newest picture again
same : extended_picture (Some 32773) 5 ≡ 32773
same = refl

-- one ahead, over the wrap from 32,767 to 0
one_ahead : extended_picture (Some 65535) 0 ≡ 65536
one_ahead = refl

-- one back, over the wrap
one_back : extended_picture (Some 65536) 32767 ≡ 65535
one_back = refl

-- the last one that is newer
last_ahead : extended_picture (Some 65536) 16383 ≡ 81919
last_ahead = refl

-- just half of the space away: the older one
half_away : extended_picture (Some 65536) 16384 ≡ 49152
half_away = refl

-- half of the space back from the least picture that can be the newest
least : extended_picture (Some 16384) 0 ≡ 0
least = refl

-- indexes go on from 255 to 0, and back
after_last : index_after 255 ≡ 0
after_last = refl

before_first : index_before 0 ≡ 255
before_first = refl
