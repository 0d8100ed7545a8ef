-- The packet that octets are, or their first fault: what is read, part by part from the front.
use Rattle.std.specs.Prelude.{ℕ, ◌+◌, ◌-◌, ◌*◌, ◌/◌, ◌%◌, Bool, ◌||◌, nat_lt, nat_le, ◌==◌, if◌then◌else◌, List, [], ◌∷◌, length, slice_index, take, drop, Option, None, Some, Result, Ok, Err}
use Rattle.std.specs.Int.{w16, w32, from_be_bytes}
use Rattle.std.specs.Result.{result_ok}
use Rattle.vrx_rtp.specs.declared.fault.RtpFault.{RtpFault}
use Rattle.vrx_rtp.specs.declared.fault.RtpFaultKind.TheVariants.{Short, Version, CsrcPastEnd, ExtensionPastEnd, PaddingPastEnd}
use Rattle.vrx_rtp.specs.declared.reading.Header.{Header}
use Rattle.vrx_rtp.specs.Packet.{HeaderExtension, Packet}
use Rattle.vrx_rtp.specs.Faults.{fault}
use Rattle.vrx_num.specs.ResultChain.{◌>>=◌}

-- the twelve octets that each header has, and what is after them
abbrev pub header_at : List ℕ → Result (Header × List ℕ) RtpFault
header_at (first ∷ second ∷ seq1 ∷ seq0 ∷ ts3 ∷ ts2 ∷ ts1 ∷ ts0 ∷ ssrc3 ∷ ssrc2 ∷ ssrc1 ∷ ssrc0 ∷ rest) =
    let header : Header = record {
      padded = first / 32 % 2 == 1;
      extended = first / 16 % 2 == 1;
      sources = first % 16;
      marker = nat_le 128 second;
      pt = second % 128;
      seq = from_be_bytes w16 (seq1 ∷ seq0 ∷ []);
      ts = from_be_bytes w32 (ts3 ∷ ts2 ∷ ts1 ∷ ts0 ∷ []);
      ssrc = from_be_bytes w32 (ssrc3 ∷ ssrc2 ∷ ssrc1 ∷ ssrc0 ∷ []);
    } in
    if first / 64 == 2 then Ok (header, rest) else Err (fault Version 0)
header_at octets = Err (fault Short (length octets))

-- so many contributing sources, and what is after them
abbrev pub sources_at : ℕ → List ℕ → Result (List ℕ × List ℕ) RtpFault
sources_at count octets =
    if nat_lt (length octets) (4 * count) then Err (fault CsrcPastEnd 12)
    else Ok (take (4 * count) octets, drop (4 * count) octets)

-- a header extension, and what is after it, if it doesn't run past the end
abbrev pub words_at : List ℕ → Option (HeaderExtension × List ℕ)
words_at (profile1 ∷ profile0 ∷ count1 ∷ count0 ∷ octets) =
    let count : ℕ = 4 * from_be_bytes w16 (count1 ∷ count0 ∷ []) in
    let extension : HeaderExtension =
    record { profile = from_be_bytes w16 (profile1 ∷ profile0 ∷ []); words = take count octets } in
    if nat_lt (length octets) count then None else Some (extension, drop count octets)
words_at octets = None

-- what was found at this offset, or the fault that the header extension there runs past the end
abbrev pub found_at : ℕ → Option (HeaderExtension × List ℕ) → Result (Option HeaderExtension × List ℕ) RtpFault
found_at offset None = Err (fault ExtensionPastEnd offset)
found_at offset (Some x) = Ok (Some x.0, x.1)

-- the header extension if there is one, and what is after it; it stands at this offset
abbrev pub extension_at : Bool → ℕ → List ℕ → Result (Option HeaderExtension × List ℕ) RtpFault
extension_at extended offset octets = if extended then found_at offset (words_at octets) else Ok (None, octets)

-- the payload, and how many padding octets follow it; the last octet stands at this offset
abbrev pub payload_at : Bool → ℕ → List ℕ → Result (List ℕ × ℕ) RtpFault
payload_at padded offset octets =
    let count : ℕ = slice_index octets (length octets - 1) in
    if padded then
    (if count == 0 || nat_lt (length octets) count then Err (fault PaddingPastEnd offset)
    else Ok (take (length octets - count) octets, count))
    else Ok (octets, 0)

-- the packet that the octets are, or their first fault
abbrev pub reading : List ℕ → Result Packet RtpFault
reading octets = do
  front ← header_at octets
  sources ← sources_at front.0.sources front.1
  found ← extension_at front.0.extended (12 + length sources.0) sources.1
  ended ← payload_at front.0.padded (length octets - 1) found.1
  Ok (record {
    marker = front.0.marker;
    pt = front.0.pt;
    seq = front.0.seq;
    ts = front.0.ts;
    ssrc = front.0.ssrc;
    csrc = sources.0;
    extension = found.0;
    payload = ended.0;
    padding = ended.1;
  })

-- the packet that the octets are, if they are one
abbrev pub read : List ℕ → Option Packet
read octets = result_ok (reading octets)
