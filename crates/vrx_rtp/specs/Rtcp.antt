-- Which datagrams are RTCP, if RTP and RTCP share a port (RFC 5761 4).
use Rattle.std.specs.Prelude.{ℕ, ◌≤◌, Bool, ◌&&◌, nat_le, List, length, slice_index}

-- the second octet, which has RTCP's packet type in its eight bits, is one of 192 to 223: so read as RTP, the marker
-- bit would be 1 and the payload type one of 64 to 95, which RTP leaves free there
pub record IsRtcp (octets : List ℕ) : Type 0 where
  pub has_type : 2 ≤ length octets
  pub at_least : 192 ≤ slice_index octets 1
  pub at_most : slice_index octets 1 ≤ 223

-- the same, as a test
abbrev pub is_rtcp : List ℕ → Bool
is_rtcp octets = nat_le 2 (length octets) && nat_le 192 (slice_index octets 1) && nat_le (slice_index octets 1) 223
