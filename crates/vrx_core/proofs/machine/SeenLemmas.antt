-- What octets bring fits them: the packet of a retransmission or in RED has no more octets than the datagram, and each
-- of its fields has room in its header.
use Rattle.std.proofs.Common.{get_or, ◌≡◌, ℕ, zero, suc, ◌+◌, ◌<◌, ◌≤◌, ◌/◌, ◌==◌, ◌||◌, Bool, true, false, cond, if◌then◌else◌, List, [], ◌∷◌, ◌++◌, length, Option, None, Some, Result, Ok, Err, refl, sym, ◌∙◌, ap, subst, arith}
use Rattle.std.specs.Prelude.{IfOk, IfSome, is_some}
use Rattle.std.specs.Int.{w16, w32, to_be_bytes}
use Rattle.std.specs.List.{find}
use Rattle.std.specs.Option.{option_map}
use Rattle.std.specs.Result.{result_map_both, result_ok}
use Rattle.std.proofs.lemmas.List.{append-nil, length-append, drop_at}
use Rattle.std.proofs.lemmas.List.Elements.{All-nil, All-cons, All-append, All-drop, All-from_get_or}
use Rattle.std.proofs.lemmas.Option.{none-some, same_Some}
use Rattle.vrx_num.specs.declared.limits.TheConstants.{MOST_OCTETS}
use Rattle.vrx_num.specs.Octets.{AreOctets}
use Rattle.vrx_num.specs.ResultChain.{◌>>=◌}
use Rattle.vrx_rtp.specs.Packet.{Packet, Fits, FitsExtension, IsPacket, AreWords, fixed_header, extension_octets, first_octet, marker_and_type, padding_octets}
use Rattle.vrx_rtp.specs.View.{view}
use Rattle.vrx_codec.specs.Meaning.{Meaning}
use Rattle.vrx_wrap.specs.Laws.{HasOneBlock, HasOneOriginal}
use Rattle.vrx_wrap.specs.Red.{Block, block_of}
use Rattle.vrx_wrap.specs.Rtx.{IsOriginal, original_type, original_of as rtx_original}
use Rattle.vrx_wrap.specs.declared.red.RedFault.{RedFault}
use Rattle.vrx_wrap.specs.declared.red.RedFault.TheVariants as reds
use Rattle.vrx_core.specs.machine.Original.{Carried, Plain, Parity, apt_of, as_media, from_block, is_fec_type, is_red_type, media_packet, original_from, out_of_red, red_pair, rtx_reason}
use Rattle.vrx_core.specs.machine.Text.{without_padding, packet_text}
use Rattle.vrx_core.specs.inside.Seen.{HasTypes, IsSeen, Says, packet_brought, packet_in}
use Rattle.vrx_core.specs.declared.original.PacketSeen.{PacketSeen}
use Rattle.vrx_core.specs.declared.reply.Reason.{Reason}
use Rattle.vrx_core.specs.declared.reply.Reason.TheVariants.{OtherSsrc, OtherType, BadRed}
use Rattle.vrx_core.specs.declared.settings.Red.{Red}
use Rattle.vrx_core.specs.declared.settings.Rtx.{Rtx}
use Rattle.vrx_core.specs.declared.settings.Settings.{Settings}
use Rattle.vrx_core.proofs.machine.TextLemmas.{first-octets, plain-text}

-- a packet's fields fit its header, its octets are below 256, and without padding it has at most so many
pub record IsWell (bound : ℕ) (p : Packet) : Type 0 where
  pub fits : Fits p
  pub sources : AreOctets p.csrc
  pub words : AreOctets (extension_octets p.extension)
  pub payload : AreOctets p.payload
  pub size : 12 + length p.csrc + length (extension_octets p.extension) + length p.payload ≤ bound

-- the second of two lists of octets
second-octets : (xs ys : List ℕ) → AreOctets (xs ++ ys) → AreOctets ys
second-octets xs ys all =
    subst AreOctets (drop_at xs ys (length xs) refl) (All-drop (λ octet. octet < 256) (length xs) (xs ++ ys) all)

-- the octets of a packet, list by list
module _ (header csrc words payload padding : List ℕ) where
  abbrev whole : List ℕ
  whole = header ++ csrc ++ words ++ payload ++ padding

  whole-length : length whole ≡ length header + length csrc + length words + length payload + length padding
  whole-length =
      let a : length (header ++ csrc) ≡ length header + length csrc = length-append header csrc in
      let b : length (header ++ csrc ++ words) ≡ length (header ++ csrc) + length words =
      length-append (header ++ csrc) words in
      let c : length (header ++ csrc ++ words ++ payload) ≡ length (header ++ csrc ++ words) + length payload =
      length-append (header ++ csrc ++ words) payload in
      let d : length whole ≡ length (header ++ csrc ++ words ++ payload) + length padding =
      length-append (header ++ csrc ++ words ++ payload) padding in
      omega arith

  module _ (below : AreOctets whole) where
    front_payload : AreOctets (header ++ csrc ++ words ++ payload)
    front_payload = first-octets (header ++ csrc ++ words ++ payload) padding below

    payload-octets : AreOctets payload
    payload-octets = second-octets (header ++ csrc ++ words) payload front_payload

    words-octets : AreOctets words
    words-octets =
        second-octets (header ++ csrc) words (first-octets (header ++ csrc ++ words) payload front_payload)

    csrc-octets : AreOctets csrc
    csrc-octets = second-octets header csrc
        (first-octets (header ++ csrc) words (first-octets (header ++ csrc ++ words) payload front_payload))

-- the packet that octets are
pub packet-well : (octets : List ℕ) (p : Packet) → IsPacket octets p → AreOctets octets → IsWell (length octets) p
packet-well octets p is below =
    let header : List ℕ = fixed_header p in
    let words : List ℕ = extension_octets p.extension in
    let padding : List ℕ = padding_octets is.filler p.padding in
    let octet : AreOctets (header ++ p.csrc ++ words ++ p.payload ++ padding) = subst AreOctets is.spelled below in
    let long : length (header ++ p.csrc ++ words ++ p.payload ++ padding)
    ≡ length header + length p.csrc + length words + length p.payload + length padding =
    whole-length header p.csrc words p.payload padding in
    let same : length octets ≡ length (header ++ p.csrc ++ words ++ p.payload ++ padding) = ap length is.spelled in
    let twelve : length header ≡ 12 = refl in
    record {
      fits = is.fits;
      sources = csrc-octets header p.csrc words p.payload padding octet;
      words = words-octets header p.csrc words p.payload padding octet;
      payload = payload-octets header p.csrc words p.payload padding octet;
      size = omega arith;
    }

-- the octets of the fixed header
two-octets : (n : ℕ) → AreOctets (to_be_bytes w16 n)
two-octets n = All-from_get_or (λ octet. octet < 256) (to_be_bytes w16 n) 0 at where
  at : (i : ℕ) → i < length (to_be_bytes w16 n) → get_or (to_be_bytes w16 n) i 0 < 256
  at zero within = omega arith
  at (suc zero) within = omega arith
  at (suc (suc i)) within = omega arith

four-octets : (n : ℕ) → AreOctets (to_be_bytes w32 n)
four-octets n = All-from_get_or (λ octet. octet < 256) (to_be_bytes w32 n) 0 at where
  at : (i : ℕ) → i < length (to_be_bytes w32 n) → get_or (to_be_bytes w32 n) i 0 < 256
  at zero within = omega arith
  at (suc zero) within = omega arith
  at (suc (suc zero)) within = omega arith
  at (suc (suc (suc zero))) within = omega arith
  at (suc (suc (suc (suc i)))) within = omega arith

first-below : (extended : Bool) (sources : ℕ) → sources ≤ 60 →
    128 + 0 + (if extended then 16 else 0) + sources / 4 < 256
first-below true sources few = omega arith
first-below false sources few = omega arith

second-below : (marker : Bool) (pt : ℕ) → pt < 128 → marker_and_type marker pt < 256
second-below true pt small = omega arith
second-below false pt small = omega arith

header-octets : (p : Packet) → Fits p → AreOctets (fixed_header (without_padding p))
header-octets p fits =
    let first : ℕ = first_octet (without_padding p) in
    let second : ℕ = marker_and_type p.marker p.pt in
    All-append (λ octet. octet < 256)
    (first ∷ second ∷ to_be_bytes w16 p.seq ++ to_be_bytes w32 p.ts) (to_be_bytes w32 p.ssrc)
    (All-append (λ octet. octet < 256) (first ∷ second ∷ to_be_bytes w16 p.seq) (to_be_bytes w32 p.ts)
    (All-cons (λ octet. octet < 256) first (second ∷ to_be_bytes w16 p.seq)
    (first-below (is_some p.extension) (length p.csrc) fits.csrc.fit)
    (All-cons (λ octet. octet < 256) second (to_be_bytes w16 p.seq) (second-below p.marker p.pt fits.pt)
    (two-octets p.seq))) (four-octets p.ts)) (four-octets p.ssrc)

-- its text
pub well-octets : (bound : ℕ) (p : Packet) → IsWell bound p → AreOctets (packet_text p)
well-octets bound p well =
    let header : List ℕ = fixed_header (without_padding p) in
    let words : List ℕ = extension_octets p.extension in
    All-append (λ octet. octet < 256) (header ++ p.csrc ++ words ++ p.payload) []
    (All-append (λ octet. octet < 256) (header ++ p.csrc ++ words) p.payload
    (All-append (λ octet. octet < 256) (header ++ p.csrc) words
    (All-append (λ octet. octet < 256) header p.csrc (header-octets p well.fits) well.sources) well.words)
    well.payload) (All-nil (λ octet. octet < 256))

pub well-length : (bound : ℕ) (p : Packet) → IsWell bound p → length (packet_text p) ≤ bound
well-length bound p well =
    let header : List ℕ = fixed_header (without_padding p) in
    let words : List ℕ = extension_octets p.extension in
    let long : length (packet_text p)
    ≡ length header + length p.csrc + length words + length p.payload + 0 =
    whole-length header p.csrc words p.payload [] in
    let twelve : length header ≡ 12 = refl in
    let size : 12 + length p.csrc + length words + length p.payload ≤ bound = well.size in
    omega arith

-- the same packet under another type, number and source, with a payload that is the end of its own
shorter-well : (bound : ℕ) (p q : Packet) (front : List ℕ) → IsWell bound p → q.pt < 128 → q.seq < 65536 →
    q.ts ≡ p.ts → q.ssrc < 4294967296 → q.csrc ≡ p.csrc → q.extension ≡ p.extension → q.padding < 256
    → p.payload ≡ front ++ q.payload → IsWell bound q
shorter-well bound p q front well pt seq ts ssrc csrc extension padding payload =
    let long : length (front ++ q.payload) ≡ length front + length q.payload = length-append front q.payload in
    let same : length p.payload ≡ length (front ++ q.payload) = ap length payload in
    let sources : length q.csrc ≡ length p.csrc = ap length csrc in
    let words : length (extension_octets q.extension) ≡ length (extension_octets p.extension) =
    ap (λ e. length (extension_octets e)) extension in
    let size : 12 + length p.csrc + length (extension_octets p.extension) + length p.payload ≤ bound = well.size in
    record {
      fits = record {
        pt = pt;
        seq = seq;
        ts = subst (λ t. t < 4294967296) (sym ts) well.fits.ts;
        ssrc = ssrc;
        csrc = subst (λ c. AreWords 60 c) (sym csrc) well.fits.csrc;
        extension = subst (λ e. IfSome e FitsExtension) (sym extension) well.fits.extension;
        padding = padding;
      };
      sources = subst AreOctets (sym csrc) well.sources;
      words = subst (λ e. AreOctets (extension_octets e)) (sym extension) well.words;
      payload = second-octets front q.payload (subst AreOctets payload well.payload);
      size = omega arith;
    }

-- ---- the packet of the media source

-- a result's value, with its fault named otherwise
mapped : {E F : Type 0} (f : E → F) (r : Result Packet E) (x : Packet) → result_map_both (λ y. y) f r ≡ Ok x → r ≡ Ok x
mapped f (Ok y) x h = ap Ok (same_Some y x (ap result_ok h))
mapped f (Err e) x h = absurd cc

-- the type that is found among pairs whose second types are small is small
found-small : (pt t : ℕ) (pair : ℕ × ℕ) (pairs : List (ℕ × ℕ)) (b : Bool) → pair.1 < 128
    → (option_map (λ x. x.1) (find (λ x. x.0 == pt) pairs) ≡ Some t → t < 128)
    → option_map (λ x. x.1) (cond b (Some pair) (find (λ x. x.0 == pt) pairs)) ≡ Some t → t < 128
found-small pt t pair pairs true small later h = subst (λ n. n < 128) (same_Some pair.1 t h) small
found-small pt t pair pairs false small later h = later h

red-small : (pt t : ℕ) (red_rtx_type : Option ℕ) (red : Option Red) → IfSome red (λ r. r.red_type < 128)
    → option_map (λ x. x.1) (find (λ x. x.0 == pt) (red_pair red_rtx_type red)) ≡ Some t → t < 128
red-small pt t None red small h = absurd (none-some t h)
red-small pt t (Some type) None small h = absurd (none-some t h)
red-small pt t (Some type) (Some red) small h =
    found-small pt t (type, red.red_type) [] (type == pt) small (λ none. absurd (none-some t none)) h

type-small : (settings : Settings) (rtx : Rtx) (pt t : ℕ) → HasTypes settings →
    original_type (apt_of settings rtx) pt ≡ Some t → t < 128
type-small settings rtx pt t types h =
    found-small pt t (rtx.media_rtx_type, settings.media_type) (red_pair rtx.red_rtx_type settings.red)
    (rtx.media_rtx_type == pt) types.media (red-small pt t rtx.red_rtx_type settings.red types.red) h

module _ (one : HasOneOriginal) (settings : Settings) (types : HasTypes settings)
    (source : settings.media_ssrc < 4294967296) (bound : ℕ) (packet : Packet) (well : IsWell bound packet)
    (sent : Packet) where
  -- the original of a retransmission
  original-well : (rtx : Rtx) → rtx_original (apt_of settings rtx) packet ≡ Ok sent → IsWell bound sent
  original-well rtx h =
      let is : IsOriginal (apt_of settings rtx) packet sent =
      (one (apt_of settings rtx) packet sent well.payload).0 h in
      shorter-well bound packet sent (to_be_bytes w16 sent.seq) well
      (type-small settings rtx packet.pt sent.pt types is.type_of) is.number is.ts
      (subst (λ n. n < 4294967296) (sym is.source) source) is.csrc is.extension
      (subst (λ n. n < 256) (sym is.padding) (omega arith)) is.payload

  by_rtx : (rtx : Rtx) (b : Bool) →
      (if b then result_map_both (λ o. o) rtx_reason (rtx_original (apt_of settings rtx) packet) else Err OtherSsrc)
      ≡ Ok sent → IsWell bound sent
  by_rtx rtx true h =
      original-well rtx (mapped rtx_reason (rtx_original (apt_of settings rtx) packet) sent h)
  by_rtx rtx false h = absurd cc

  again-well : (rtx : Option Rtx) → original_from settings packet rtx ≡ Ok sent → IsWell bound sent
  again-well None h = absurd cc
  again-well (Some rtx) h = by_rtx rtx (packet.ssrc == rtx.ssrc) h

  by_type : (b : Bool) → (if b then Ok packet else Err OtherType) ≡ Ok sent → IsWell bound sent
  by_type true h = subst (IsWell bound) (same_Some packet sent (ap result_ok h)) well
  by_type false h = absurd cc

  by_source : (b : Bool) →
      (if b then (if (packet.pt == settings.media_type) || is_red_type settings packet.pt then Ok packet
      else Err OtherType) else original_from settings packet settings.rtx)
      ≡ Ok sent → IsWell bound sent
  by_source true h = by_type ((packet.pt == settings.media_type) || is_red_type settings packet.pt) h
  by_source false h = again-well settings.rtx h

  sent-well : media_packet settings packet ≡ Ok sent → IsWell bound sent
  sent-well h = by_source (packet.ssrc == settings.media_ssrc) h

-- ---- out of RED

-- what a result has, by a function of it
taken-by : {X E : Type 0} (f : X → Packet) (x : X) (p : Packet) →
    ◌≡◌ {A = Result Packet E} (result_map_both f (λ e. e) (Ok x)) (Ok p) → f x ≡ p
taken-by f x p h = same_Some (f x) p (ap result_ok h)

module _ (one : HasOneBlock) (settings : Settings) (types : HasTypes settings) (bound : ℕ) (sent : Packet)
    (well : IsWell bound sent) where
  -- the media packet of a payload that is the end of the RED payload
  media-well : (front rest : List ℕ) → sent.payload ≡ front ++ rest → IsWell bound (as_media settings sent rest)
  media-well front rest spelled =
      shorter-well bound sent (as_media settings sent rest) front well types.media well.fits.seq refl well.fits.ssrc
      refl refl well.fits.padding spelled

  -- and the FEC packet
  parity-well : (front rest : List ℕ) → sent.payload ≡ front ++ rest → IsWell bound (record sent { payload = rest })
  parity-well front rest spelled =
      shorter-well bound sent (record sent { payload = rest }) front well well.fits.pt well.fits.seq refl
      well.fits.ssrc refl refl well.fits.padding spelled

  -- what is carried, if anything is
  abbrev AllWell : Result Carried Reason → Type 0
  AllWell r = IfOk r (λ carried. IsWell bound (packet_in carried))

  by_block : (block : Block) → sent.payload ≡ block.pt ∷ block.rest → (media fec : Bool) →
      AllWell (if media then Ok (Plain (as_media settings sent block.rest))
      else if fec then Ok (Parity (record sent { payload = block.rest })) else Err BadRed)
  by_block block spelled true fec = media-well (block.pt ∷ []) block.rest spelled
  by_block block spelled false true = parity-well (block.pt ∷ []) block.rest spelled
  by_block block spelled false false = tt

  block-well : (r : Result Block RedFault) → block_of sent.payload ≡ r → AllWell (from_block settings sent r)
  block-well (Err reds.Empty) is = media-well sent.payload [] (sym (append-nil sent.payload))
  block-well (Err reds.MoreBlocks) is = tt
  block-well (Ok block) is =
      by_block block ((one sent.payload block).0 is).spelled (block.pt == settings.media_type)
      (is_fec_type settings block.pt)

  by_red : (b : Bool) →
      AllWell (if b then from_block settings sent (block_of sent.payload) else Ok (Plain sent))
  by_red true = block-well (block_of sent.payload) refl
  by_red false = well

  carried-well : AllWell (out_of_red settings sent)
  carried-well = by_red (is_red_type settings sent.pt)

  -- the packet of what is carried
  out-well : (plain : Packet) → result_map_both packet_in (λ reason. reason) (out_of_red settings sent) ≡ Ok plain →
      IsWell bound plain
  out-well plain = by (out_of_red settings sent) carried-well where
    by : (r : Result Carried Reason) → AllWell r → result_map_both packet_in (λ reason. reason) r ≡ Ok plain →
        IsWell bound plain
    by (Ok carried) all h = subst (IsWell bound) (taken-by packet_in carried plain h) all
    by (Err reason) all h = absurd cc

-- the packet that octets bring
pub brought-well : HasOneOriginal → HasOneBlock → (settings : Settings) → HasTypes settings →
    settings.media_ssrc < 4294967296 → (bound : ℕ) (packet plain : Packet) → IsWell bound packet →
    packet_brought settings packet ≡ Ok plain → IsWell bound plain
brought-well original block settings types source bound packet plain well =
    by (media_packet settings packet) refl where
      by : (r : Result Packet Reason) → media_packet settings packet ≡ r →
          (r >>= λ sent. result_map_both packet_in (λ reason. reason) (out_of_red settings sent)) ≡ Ok plain →
          IsWell bound plain
      by (Ok sent) is h = out-well block settings types bound sent
          (sent-well original settings types source bound packet well sent is) plain h
      by (Err reason) is h = absurd cc

-- what was seen of the packet that octets are
module _ (original : HasOneOriginal) (block : HasOneBlock) (settings : Settings) (types : HasTypes settings)
    (source : settings.media_ssrc < 4294967296) (codec : Meaning) (octets : List ℕ)
    (size : length octets ≤ MOST_OCTETS) (below : AreOctets octets) (packet : Packet) (is : IsPacket octets packet) where
  seen-one : (seen : PacketSeen) → packet_brought settings packet ≡ Ok (view seen.packet) →
      (seen.bare ≡ true → (view seen.packet ≡ packet) × (packet.padding ≡ 0)) →
      Says codec seen.packet.payload.now seen.brought → IsSeen codec octets seen
  seen-one seen brought bare says =
      let well : IsWell (length octets) (view seen.packet) =
      brought-well original block settings types source (length octets) packet (view seen.packet)
      (packet-well octets packet is below) brought in
      let short : length (packet_text (view seen.packet)) ≤ length octets =
      well-length (length octets) (view seen.packet) well in
      record {
        fits = well.fits;
        below = well-octets (length octets) (view seen.packet) well;
        size = omega arith;
        bare = λ h. ap packet_text (bare h).0 ∙ sym (plain-text octets packet is (bare h).1);
        says = says;
      }

  pub seen-is : (r : Result PacketSeen Reason) →
      IfOk r (λ seen. packet_brought settings packet ≡ Ok (view seen.packet)) →
      IfOk r (λ seen. seen.bare ≡ true → (view seen.packet ≡ packet) × (packet.padding ≡ 0)) →
      IfOk r (λ seen. Says codec seen.packet.payload.now seen.brought) → IfOk r (λ seen. IsSeen codec octets seen)
  seen-is (Ok seen) brought bare says = seen-one seen brought bare says
  seen-is (Err reason) brought bare says = tt
