-- What is wrong with octets that are no packet: a condition on the octets for each fault (RFC 3550 5.1, 5.3.1).
use Rattle.std.specs.Prelude.{ℕ, ◌+◌, ◌-◌, ◌*◌, ◌/◌, ◌%◌, Bool, ◌&&◌, ◌||◌, not, nat_lt, ◌==◌, if◌then◌else◌, List, length, slice_index, Option, None, Some}
use Rattle.vrx_rtp.specs.declared.fault.RtpFault.{RtpFault}
use Rattle.vrx_rtp.specs.declared.fault.RtpFaultKind.{RtpFaultKind}
use Rattle.vrx_rtp.specs.declared.fault.RtpFaultKind.TheVariants.{Short, Version, CsrcPastEnd, ExtensionPastEnd, PaddingPastEnd}

-- the version: the first octet's two high bits
abbrev pub version : List ℕ → ℕ
version octets = slice_index octets 0 / 64

-- bit P of the first octet
abbrev pub has_padding : List ℕ → Bool
has_padding octets = slice_index octets 0 / 32 % 2 == 1

-- bit X of the first octet
abbrev pub has_extension : List ℕ → Bool
has_extension octets = slice_index octets 0 / 16 % 2 == 1

-- where the contributing sources end, CC of four octets each: CC is the first octet's four low bits
abbrev pub sources_end : List ℕ → ℕ
sources_end octets = 12 + 4 * (slice_index octets 0 % 16)

-- how many words the extension counts, in the third and the fourth of its octets
abbrev pub word_count : List ℕ → ℕ
word_count octets = slice_index octets (sources_end octets + 2) * 256 + slice_index octets (sources_end octets + 3)

-- where the header ends: with X = 1 after the extension's four octets and its words
abbrev pub header_end : List ℕ → ℕ
header_end octets =
    if has_extension octets then sources_end octets + (4 + 4 * word_count octets) else sources_end octets

-- the octet that counts the padding octets with P = 1
abbrev pub last_octet : List ℕ → ℕ
last_octet octets = slice_index octets (length octets - 1)

-- the last octet counts none, or more than follow the header
abbrev pub has_bad_padding : List ℕ → Bool
has_bad_padding octets = last_octet octets == 0 || nat_lt (length octets) (header_end octets + last_octet octets)

-- a fault of this kind at this offset
abbrev pub fault : RtpFaultKind → ℕ → RtpFault
fault what offset = record { kind = what; at = offset }

-- The first fault that applies: fewer octets than a header has; another version than 2; the sources run past the end;
-- the extension's four octets or its words do, and the header ends after them; with P = 1 the padding is bad.
abbrev pub first_fault : List ℕ → Option RtpFault
first_fault octets =
    if nat_lt (length octets) 12 then Some (fault Short (length octets))
    else if not (version octets == 2) then Some (fault Version 0)
    else if nat_lt (length octets) (sources_end octets) then Some (fault CsrcPastEnd 12)
    else if nat_lt (length octets) (header_end octets) then Some (fault ExtensionPastEnd (sources_end octets))
    else if has_padding octets && has_bad_padding octets then Some (fault PaddingPastEnd (length octets - 1))
    else None
