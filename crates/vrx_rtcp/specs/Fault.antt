-- Why no packet is read at the front of some octets: the first of these that holds.
use Rattle.std.specs.Prelude.{ℕ, ◌+◌, ◌*◌, ◌%◌, ◌==◌, nat_lt, Bool, not, ◌&&◌, ◌||◌, if◌then◌else◌, List, length, Option, None, Some}
use Rattle.vrx_rtcp.specs.declared.fault.RtcpFaultKind.{RtcpFaultKind}
use Rattle.vrx_rtcp.specs.declared.fault.RtcpFaultKind.TheVariants.{Short, Version, PastEnd, Padding, Body}
use Rattle.vrx_rtcp.specs.declared.types.TheConstants.{SR, RR, BYE, RTPFB, PSFB}
use Rattle.vrx_rtcp.specs.Field.{version, is_padded, count, kind, size, last, unpadded_size}

-- fewer octets remain than a header has (RFC 3550 6.4.1)
abbrev pub is_short : List ℕ → Bool
is_short octets = nat_lt (length octets) 4

-- the version isn't 2
abbrev pub is_of_other_version : List ℕ → Bool
is_of_other_version octets = not (version octets == 2)

-- the packet runs past the end
abbrev pub runs_past_end : List ℕ → Bool
runs_past_end octets = nat_lt (length octets) (size octets)

-- the number of padding octets is 0, or no whole words, or reaches into the header
abbrev pub is_bad_padding : ℕ → ℕ → Bool
is_bad_padding padding size = (padding == 0) || not (padding % 4 == 0) || nat_lt size (padding + 4)

abbrev pub is_badly_padded : List ℕ → Bool
is_badly_padded octets = is_padded octets && is_bad_padding (last octets) (size octets)

-- how many octets a packet of this kind and count has at least, padding aside: of a sender report (RFC 3550
-- 6.4.1), a receiver report (6.4.2), a goodbye (6.6) and a feedback message (RFC 4585 6.1), and of all others
abbrev pub least : ℕ → ℕ → ℕ
least kind count =
    if kind == SR then 28 + 24 * count
    else if kind == RR then 8 + 24 * count
    else if kind == BYE then 4 + 4 * count
    else if (kind == RTPFB) || (kind == PSFB) then 12
    else 4

-- the body is shorter than that
abbrev pub lacks_body : List ℕ → Bool
lacks_body octets = nat_lt (unpadded_size octets) (least (kind octets) (count octets))

-- the first of the five that holds, if one does
unfoldable pub first_fault : List ℕ → Option RtcpFaultKind
first_fault octets =
    if is_short octets then Some Short
    else if is_of_other_version octets then Some Version
    else if runs_past_end octets then Some PastEnd
    else if is_badly_padded octets then Some Padding
    else if lacks_body octets then Some Body
    else None
