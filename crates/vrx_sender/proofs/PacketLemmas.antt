-- The packets of a frame: how long they are, and one after the other.
use Rattle.std.proofs.Common.{◌≡◌, ℕ, suc, ◌+◌, ◌-◌, ◌<◌, ◌≤◌, Bool, All, List, [], ◌∷◌, ◌++◌, length, take, drop, get_or, false, None, refl, ap, sym, ◌∙◌, append_assoc, subst, arith}
use Rattle.std.specs.Prelude.{◌==◌, max}
use Rattle.std.proofs.lemmas.List.{drop_more, length-append}
use Rattle.std.proofs.lemmas.List.Elements.{All-push}
use Rattle.vrx_rtp.specs.Packet.{Packet, octets_of, fixed_header}
use Rattle.vrx_sender.specs.Frames.{part_count, timestamp}
use Rattle.vrx_fec.specs.Payload as fec
use Rattle.vrx_core.specs.honest.Sender.{SentPacket, Media}
use Rattle.vrx_sender.specs.Made.{IsShort, all_as_sent, as_sent}
use Rattle.vrx_sender.specs.Packets.{longest, media, media_from, packet, packets, parity, parts, payload, sent_media, sent_packets, texts_from, wire}

-- a packet has twelve octets before its payload
pub length-plain : (marker : Bool) (pt seq ts ssrc : ℕ) (payload : List ℕ) →
    length (octets_of (record {
      marker = marker;
      pt = pt;
      seq = seq;
      ts = ts;
      ssrc = ssrc;
      csrc = [];
      extension = None;
      payload = payload;
      padding = 0;
    })) ≡ 12 + length payload
length-plain marker pt seq ts ssrc payload =
    let p : Packet = record { marker = marker; pt = pt; seq = seq; ts = ts; ssrc = ssrc; csrc = []; extension = None; payload = payload; padding = 0 } in
    length-append (fixed_header p ++ [] ++ [] ++ payload) []
    ∙ ap (λ (n : ℕ). n + 0) (length-append (fixed_header p ++ [] ++ []) payload)
    ∙ (omega arith)

pub length-packet : (i f type : ℕ) (marker : Bool) (payload : List ℕ) →
    length (octets_of (packet i f type marker payload)) ≡ 12 + length payload
length-packet i f type marker payload = length-plain marker type (wire i) (timestamp f) 1 payload

-- a part's packet is short
pub short-part : (i f type k : ℕ) (marker : Bool) (body : List ℕ) → length body ≤ 1000 →
    IsShort (packet i f type marker (payload f k body))
short-part i f type k marker body few =
    let size : length (octets_of (packet i f type marker (payload f k body))) ≡ 12 + (6 + length body) =
    length-packet i f type marker (payload f k body) ∙ omega arith in
    (omega (arith, size), omega (arith, size))

pub short-on : (ps pushed : List Packet) (p : Packet) → pushed ≡ ps ++ p ∷ [] → IsShort p → All IsShort ps → All IsShort pushed
short-on ps pushed p put short all = subst (λ (qs : List Packet). All IsShort qs) (sym put) (All-push IsShort ps p all short)

-- one part more was made a packet
pub media-on : (f count k i j m : ℕ) (xs : List Packet) (rest body others : List ℕ) (p : Packet) (pushed whole : List Packet) (left : ℕ) →
    pushed ≡ xs ++ p ∷ [] → left ≡ suc m → body ≡ take 1000 rest → others ≡ drop 1000 rest →
    p ≡ packet (i + k) f 96 (k + 1 == count) (payload f k body) → j ≡ i + (k + 1) →
    xs ++ media_from f count k (i + k) (parts left rest) ≡ whole →
    pushed ++ media_from f count (k + 1) j (parts m others) ≡ whole
media-on f count k i j m xs rest body others p pushed whole left put more body_is others_are is next before =
    ap (λ (ys : List Packet). ys ++ media_from f count (k + 1) j (parts m others)) put
    ∙ append_assoc xs (p ∷ []) (media_from f count (k + 1) j (parts m others))
    ∙ ap (λ (q : Packet). xs ++ q ∷ media_from f count (k + 1) j (parts m others)) is
    ∙ ap (λ (b : List ℕ). xs ++ packet (i + k) f 96 (k + 1 == count) (payload f k b) ∷ media_from f count (k + 1) j (parts m others)) body_is
    ∙ ap (λ (o : List ℕ). xs ++ packet (i + k) f 96 (k + 1 == count) (payload f k (take 1000 rest)) ∷ media_from f count (k + 1) j (parts m o)) others_are
    ∙ ap (λ (n : ℕ). xs ++ packet (i + k) f 96 (k + 1 == count) (payload f k (take 1000 rest)) ∷ media_from f count (k + 1) n (parts m (drop 1000 rest))) (next ∙ omega arith)
    ∙ ap (λ (n : ℕ). xs ++ media_from f count k (i + k) (parts n rest)) (sym more)
    ∙ before

-- ---- the longest text

pub longest-on : (long k next : ℕ) (p : Packet) (ps : List Packet) (whole : ℕ) →
    next ≡ max long (length (octets_of p) - 12) →
    max long (longest (texts_from k (p ∷ ps))) ≡ whole → max next (longest (texts_from (k + 1) ps)) ≡ whole
longest-on long k next p ps whole is before =
    rw is ((omega arith) ∙ before)

pub longest-offset : (j k : ℕ) (ps : List Packet) → longest (texts_from j ps) ≡ longest (texts_from k ps)
longest-offset j k [] = refl
longest-offset j k (p ∷ ps) = ap (λ (n : ℕ). max (length (octets_of p) - 12) n) (longest-offset (j + 1) (k + 1) ps)

pub longest-short : (k : ℕ) (ps : List Packet) → All IsShort ps → longest (texts_from k ps) ≤ 1006
longest-short k [] all = omega arith
longest-short k (p ∷ ps) all =
    let here : IsShort p = all 0 p (omega arith) in
    let rest : longest (texts_from (k + 1) ps) ≤ 1006 = longest-short (k + 1) ps (λ i d lt. all (suc i) d (omega arith)) in
    omega (arith, here.1, rest)

pub length-texts : (k : ℕ) (ps : List Packet) → length (texts_from k ps) ≡ length ps
length-texts k [] = refl
length-texts k (p ∷ ps) = omega (arith, length-texts (k + 1) ps)

-- ---- the packets of a frame

pub packets-are : (f i w n : ℕ) (bytes parity_octets : List ℕ) (ms slice all : List Packet) (p : Packet) →
    ms ≡ media f i bytes → all ≡ ms ++ p ∷ [] → p ≡ packet (i + n) f 101 false parity_octets → n ≡ length ms →
    parity_octets ≡ fec.octets_of (parity w (texts_from 0 slice)) → w ≡ wire i → slice ≡ ms → all ≡ packets f i bytes
unfolding packets
packets-are f i w n bytes parity_octets ms slice all p media-is all-is p-is n-is octets-are w-is slice-is =
    let its : List Packet = media f i bytes in
    all-is ∙ ap (λ (xs : List Packet). xs ++ p ∷ []) media-is
    ∙ ap (λ (q : Packet). its ++ q ∷ []) (p-is
    ∙ ap (λ (m : ℕ). packet (i + m) f 101 false parity_octets) (n-is ∙ ap length media-is)
    ∙ ap (λ (o : List ℕ). packet (i + length its) f 101 false o) (octets-are
    ∙ ap (λ (v : ℕ). fec.octets_of (parity v (texts_from 0 slice))) w-is
    ∙ ap (λ (ps : List Packet). fec.octets_of (parity (wire i) (texts_from 0 ps))) (slice-is ∙ media-is)))

-- one text back
pub texts-back : (ps : List Packet) (k : ℕ) (p : Packet) (text : List ℕ) → 0 < k → k ≤ length ps →
    p ≡ get_or ps (k - 1) p → text ≡ octets_of p →
    (k - 1, text) ∷ texts_from k (drop k ps) ≡ texts_from (k - 1) (drop (k - 1) ps)
texts-back ps k p text some most p-is text-is =
    let one : k - 1 + 1 ≡ k = omega arith in
    sym (ap (texts_from (k - 1)) (drop_more ps (k - 1) p (omega arith))
    ∙ ap (λ (q : Packet). (k - 1, octets_of q) ∷ texts_from (k - 1 + 1) (drop (k - 1 + 1) ps)) (sym p-is)
    ∙ ap (λ (t : List ℕ). (k - 1, t) ∷ texts_from (k - 1 + 1) (drop (k - 1 + 1) ps)) (sym text-is)
    ∙ ap (λ (m : ℕ). (k - 1, text) ∷ texts_from m (drop m ps)) one)

-- ---- as they are sent

media-sent : (f count k i : ℕ) (bodies : List (List ℕ)) (others : List Packet) →
    all_as_sent f k (media_from f count k i bodies ++ others)
    ≡ sent_media f k (media_from f count k i bodies) ++ all_as_sent f (k + length bodies) others
media-sent f count k i [] others = ap (λ (n : ℕ). all_as_sent f n others) (omega arith)
media-sent f count k i (body ∷ bodies) others =
    ap (λ (xs : List SentPacket). Media f k (octets_of (packet i f 96 (k + 1 == count) (payload f k body))) ∷ xs)
    (media-sent f count (k + 1) (i + 1) bodies others
    ∙ ap (λ (n : ℕ). sent_media f (k + 1) (media_from f count (k + 1) (i + 1) bodies) ++ all_as_sent f n others) (omega arith))

pub packets-sent : (f i : ℕ) (bytes : List ℕ) → all_as_sent f 0 (packets f i bytes) ≡ sent_packets f i bytes
unfolding packets
packets-sent f i bytes = media-sent f (part_count (length bytes)) 0 i (parts (part_count (length bytes)) bytes) _

-- one packet more was sent
pub sent-on : (f k : ℕ) (ps : List Packet) (p : Packet) (xs whole : List SentPacket) (pushed : List SentPacket) (x : SentPacket) →
    k < length ps → p ≡ get_or ps k p → x ≡ as_sent f k p → pushed ≡ xs ++ x ∷ [] →
    xs ++ all_as_sent f k (drop k ps) ≡ whole → pushed ++ all_as_sent f (k + 1) (drop (k + 1) ps) ≡ whole
sent-on f k ps p xs whole pushed x within p-is x-is put before =
    ap (λ (ys : List SentPacket). ys ++ all_as_sent f (k + 1) (drop (k + 1) ps)) put
    ∙ append_assoc xs (x ∷ []) (all_as_sent f (k + 1) (drop (k + 1) ps))
    ∙ ap (λ (y : SentPacket). xs ++ y ∷ all_as_sent f (k + 1) (drop (k + 1) ps)) x-is
    ∙ ap (λ (q : Packet). xs ++ as_sent f k q ∷ all_as_sent f (k + 1) (drop (k + 1) ps)) p-is
    ∙ ap (λ (qs : List Packet). xs ++ all_as_sent f k qs) (sym (drop_more ps k p within)) ∙ before
