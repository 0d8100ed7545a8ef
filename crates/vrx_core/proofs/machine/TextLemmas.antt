-- What is kept of a datagram: the text of its packet, without padding.
use Rattle.std.proofs.Common.{◌≡◌, ◌↔◌, ℕ, ◌+◌, ◌-◌, ◌/◌, ◌<◌, ◌≤◌, Bool, true, false, if◌then◌else◌, List, [], ◌∷◌, ◌++◌, length, Some, Result, Ok, Err, refl, sym, ◌∙◌, ap, subst, arith}
use Rattle.std.specs.Prelude.{is_some}
use Rattle.std.specs.Int.{w16, w32, to_be_bytes}
use Rattle.std.specs.Result.{result_ok}
use Rattle.std.proofs.lemmas.List.{length-append, nil_from_length, take_at}
use Rattle.std.proofs.lemmas.List.Elements.{All-nil, All-cons, All-tail, All-append, All-take}
use Rattle.std.proofs.lemmas.Option.{none-some, same_Some}
use Rattle.vrx_rtp.specs.Packet.{Packet, Fits, IsPacket, first_octet, marker_and_type, fixed_header, extension_octets, padding_octets, octets_with}
use Rattle.vrx_num.specs.Octets.{AreOctets}
use Rattle.vrx_rtp.specs.Reading.{reading}
use Rattle.vrx_rtp.specs.declared.fault.RtpFault.{RtpFault}
use Rattle.vrx_core.specs.machine.Text.{without_padding, packet_text, TextsHold}

-- the law of RTP packets: octets, each below 256, read as the packet that they are
abbrev pub ReadsPacket : Type 0
ReadsPacket = (octets : List ℕ) (p : Packet) → AreOctets octets → (reading octets ≡ Ok p) ↔ IsPacket octets p

-- the reading of octets that read as a packet
pub reading-ok : (r : Result Packet RtpFault) (packet : Packet) → result_ok r ≡ Some packet → r ≡ Ok packet
reading-ok (Ok p) packet h = ap Ok (same_Some p packet h)
reading-ok (Err fault) packet h = absurd (none-some packet h)

-- without its padding a packet still fits
pub fits-without : (p : Packet) → Fits p → Fits (without_padding p)
fits-without p fits = record {
  pt = fits.pt;
  seq = fits.seq;
  ts = fits.ts;
  ssrc = fits.ssrc;
  csrc = fits.csrc;
  extension = fits.extension;
  padding = omega arith;
}

-- so its text is a packet
pub text-packet : (p : Packet) → Fits p → IsPacket (packet_text p) (without_padding p)
text-packet p fits = record { filler = []; filled = refl; spelled = refl; fits = fits-without p fits }

-- octets without padding are their packet's text
pub plain-text : (octets : List ℕ) (p : Packet) → IsPacket octets p → p.padding ≡ 0 → octets ≡ packet_text p
plain-text octets p is none =
    is.spelled
    ∙ ap (λ filler. octets_with filler p)
    (nil_from_length is.filler (let filled : length is.filler ≡ p.padding - 1 = is.filled in omega arith))
    ∙ ap (λ n. octets_with [] (record p { padding = n })) none

-- what follows the header makes octets longer
longer : (header header' csrc extension payload padding : List ℕ) → length header ≡ length header' →
    length (header ++ csrc ++ extension ++ payload ++ []) ≤ length
    (header' ++ csrc ++ extension ++ payload ++ padding)
longer header header' csrc extension payload padding same =
    let a : length (header ++ csrc) ≡ length header + length csrc = length-append header csrc in
    let b : length (header ++ csrc ++ extension) ≡ length (header ++ csrc) + length extension =
    length-append (header ++ csrc) extension in
    let c : length (header ++ csrc ++ extension ++ payload) ≡ length (header ++ csrc ++ extension) + length payload =
    length-append (header ++ csrc ++ extension) payload in
    let d : length (header ++ csrc ++ extension ++ payload ++ []) ≡ length
    (header ++ csrc ++ extension ++ payload) + 0 = length-append (header ++ csrc ++ extension ++ payload) [] in
    let a' : length (header' ++ csrc) ≡ length header' + length csrc = length-append header' csrc in
    let b' : length (header' ++ csrc ++ extension) ≡ length (header' ++ csrc) + length extension =
    length-append (header' ++ csrc) extension in
    let c' : length (header' ++ csrc ++ extension ++ payload) ≡ length
    (header' ++ csrc ++ extension) + length payload = length-append (header' ++ csrc ++ extension) payload in
    let d' : length (header' ++ csrc ++ extension ++ payload ++ padding) ≡ length
    (header' ++ csrc ++ extension ++ payload) + length padding =
    length-append (header' ++ csrc ++ extension ++ payload) padding in
    omega arith

-- the text isn't longer than the octets
pub text-upto : (octets : List ℕ) (p : Packet) → IsPacket octets p → length (packet_text p) ≤ length octets
text-upto octets p is =
    let more : length (packet_text p) ≤ length (octets_with is.filler p) =
    longer (fixed_header (without_padding p)) (fixed_header p) p.csrc (extension_octets p.extension) p.payload
    (padding_octets is.filler p.padding) refl in
    let same : length octets ≡ length (octets_with is.filler p) = ap length is.spelled in
    omega arith

-- the first of two lists of octets
pub first-octets : (xs ys : List ℕ) → AreOctets (xs ++ ys) → AreOctets xs
first-octets xs ys all =
    subst AreOctets (take_at xs ys (length xs) refl) (All-take (λ octet. octet < 256) (length xs) (xs ++ ys) all)

-- the first octet of a packet without padding
first-below : (extended : Bool) (sources : ℕ) → sources ≤ 60 →
    128 + 0 + (if extended then 16 else 0) + sources / 4 < 256
first-below true sources few = omega arith
first-below false sources few = omega arith

-- a text's octets are below 256
pub text-octets : (octets : List ℕ) (p : Packet) → IsPacket octets p → AreOctets octets → AreOctets (packet_text p)
text-octets octets p is below =
    let whole : AreOctets (octets_with is.filler p) = subst AreOctets is.spelled below in
    let body : AreOctets (fixed_header p ++ p.csrc ++ extension_octets p.extension ++ p.payload) =
    first-octets (fixed_header p ++ p.csrc ++ extension_octets p.extension ++ p.payload)
    (padding_octets is.filler p.padding) whole in
    let rest : List ℕ = marker_and_type p.marker p.pt ∷ to_be_bytes w16 p.seq ++ to_be_bytes w32 p.ts
    ++ to_be_bytes w32 p.ssrc ++ p.csrc ++ extension_octets p.extension ++ p.payload in
    let first : ℕ = first_octet (without_padding p) in
    All-append (λ octet. octet < 256) (first ∷ rest) []
    (All-cons (λ octet. octet < 256) first rest (first-below (is_some p.extension) (length p.csrc) is.fits.csrc.fit)
    (All-tail (λ octet. octet < 256) (first_octet p) rest body))
    (All-nil (λ octet. octet < 256))

-- what a text is
pub texts_are : ReadsPacket → TextsHold
texts_are law octets p below reads =
    let is : IsPacket octets p = (law octets p below).0 (reading-ok (reading octets) p reads) in
    let small : AreOctets (packet_text p) = text-octets octets p is below in
    record {
      reads = ap result_ok ((law (packet_text p) (without_padding p) small).1 (text-packet p is.fits));
      same = λ none. sym (plain-text octets p is none);
      below = small;
    }
