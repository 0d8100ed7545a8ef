-- How many packets and frames a drill has, by the sizes that are drawn.
use Rattle.std.proofs.Common.{◌≡◌, ℕ, zero, suc, ◌+◌, ◌*◌, ◌/◌, ◌%◌, ◌<◌, ◌≤◌, Bool, true, false, if◌then◌else◌, All, List, [], ◌∷◌, ◌++◌, length, refl, subst, arith}
use Rattle.std.specs.Prelude.{◌==◌, IsSomeAnd, slice_get, Option, Some, None}
use Rattle.std.proofs.lemmas.Bool.{ne_eqb}
use Rattle.std.proofs.lemmas.List.{length-append}
use Rattle.std.proofs.lemmas.List.Elements.{All-nil, All-cons, All-append}
use Rattle.std.proofs.lemmas.Option.{slice_get_within, get_or_from_slice_get}
use Rattle.rand_pcg.specs.Lcg.{Lcg}
use Rattle.vrx_rtp.specs.Packet.{Packet}
use Rattle.vrx_core.specs.honest.Sender.{SentPacket, Media, Fec, Empty, IsOf}
use Rattle.vrx_sender.specs.Draws.{Drawn, drawn, drawn_from, draws, generator, word}
use Rattle.vrx_sender.specs.Frames.{is_key, octets, packet_count, size_by}
use Rattle.vrx_sender.specs.Packets.{media, packets_from, sent_media, sent_packets}
use Rattle.vrx_sender.proofs.honest.PlaceLemmas.{sent-count}

-- so many octets frame f has at most
abbrev pub most_octets : ℕ → ℕ
most_octets f = if is_key f then 11999 else 3199

-- frames have no more octets than that, from frame f on
abbrev pub AreSized : ℕ → List Drawn → Type 0
AreSized f [] = Unit {0}
AreSized f (d ∷ ds) = (d.size ≤ most_octets f) × AreSized (f + 1) ds

-- ---- what is drawn is so

size-most : (f u : ℕ) → size_by f u ≤ most_octets f
size-most f u = by (is_key f)
  where
    by : (key : Bool) → (if key then 8000 + u % 4000 else 200 + u % 3000) ≤ (if key then 11999 else 3199)
    by true = omega arith
    by false = omega arith

drawn-sized : (f n : ℕ) (g : Lcg) → AreSized f (drawn_from f n g)
unfolding drawn_from
drawn-sized f zero g = tt
drawn-sized f (suc n) g = (size-most f (word g), drawn-sized (f + 1) n (drawn f g).1)

pub draws-sized : (seed frames : ℕ) → AreSized 0 (draws seed frames)
draws-sized seed frames = drawn-sized 0 frames (generator seed)

-- ---- how many packets are sent

-- a frame has at most five packets, and a keyframe eight more
frame-count : (f size : ℕ) → size ≤ most_octets f →
    packet_count size + 8 * ((f + 299) / 300) ≤ 5 + 8 * ((f + 300) / 300)
frame-count f size most = by (f % 300) refl
  where
    by : (rest : ℕ) → f % 300 ≡ rest → packet_count size + 8 * ((f + 299) / 300) ≤ 5 + 8 * ((f + 300) / 300)
    by zero is =
        let small : size ≤ 11999 = subst (λ (r : ℕ). size ≤ (if r == 0 then 11999 else 3199)) is most in
        omega arith
    by (suc rest) is =
        let other : is_key f ≡ false = ne_eqb (f % 300) 0 (λ e. omega arith) in
        let small : size ≤ 3199 = subst (λ (b : Bool). size ≤ (if b then 11999 else 3199)) other most in
        omega arith

few-packets-from : (f i : ℕ) (ds : List Drawn) → AreSized f ds →
    length (packets_from f i ds) + 8 * ((f + 299) / 300) ≤ 5 * length ds + 8 * ((f + length ds + 299) / 300)
few-packets-from f i [] sized = omega arith
few-packets-from f i (d ∷ ds) sized =
    let its : List SentPacket = sent_packets f i (octets f d.size) in
    let others : List SentPacket = packets_from (f + 1) (i + packet_count d.size) ds in
    let whole : length (its ++ others) ≡ length its + length others = length-append its others in
    let here : length its ≡ packet_count d.size = sent-count f i d.size in
    let count : packet_count d.size + 8 * ((f + 299) / 300) ≤ 5 + 8 * ((f + 300) / 300) = frame-count f d.size sized.0 in
    let rest : length others + 8 * ((f + 1 + 299) / 300) ≤ 5 * length ds + 8 * ((f + 1 + length ds + 299) / 300) =
    few-packets-from (f + 1) (i + packet_count d.size) ds sized.1 in
    omega (arith, whole, here, count, rest)

-- 6,000 frames have fewer packets than half of the space of sequence numbers
pub few-packets : (ds : List Drawn) → length ds ≤ 6000 → AreSized 0 ds → length (packets_from 0 0 ds) < 32768
few-packets ds few sized = omega (arith, few-packets-from 0 0 ds sized)

-- ---- of which frames they are

-- a packet is no part of frame n or of one after it
abbrev pub IsBefore : ℕ → SentPacket → Type 0
IsBefore n (Media f k text) = f < n
IsBefore n (Fec payload) = Unit {0}
IsBefore n Empty = Unit {0}

media-before : (n f k : ℕ) (ps : List Packet) → f < n → All (IsBefore n) (sent_media f k ps)
media-before n f k [] lt = All-nil (IsBefore n)
media-before n f k (p ∷ ps) lt = All-cons (IsBefore n) _ (sent_media f (k + 1) ps) lt (media-before n f (k + 1) ps lt)

pub packets-before : (n f i : ℕ) (ds : List Drawn) → f + length ds ≤ n → All (IsBefore n) (packets_from f i ds)
packets-before n f i [] most = All-nil (IsBefore n)
packets-before n f i (d ∷ ds) most =
    All-append (IsBefore n) (sent_packets f i (octets f d.size)) _
    (All-append (IsBefore n) (sent_media f 0 (media f i (octets f d.size))) _
    (media-before n f 0 (media f i (octets f d.size)) (omega arith))
    (All-cons (IsBefore n) _ [] tt (All-nil (IsBefore n))))
    (packets-before n (f + 1) (i + packet_count d.size) ds (omega arith))

-- the frame of a packet is one of them
pub frame-before : (n f i : ℕ) (all : List SentPacket) → All (IsBefore n) all →
    IsSomeAnd (slice_get all i) (IsOf f) → f < n
frame-before n f i all before of = by (slice_get all i) refl of
  where
    is-before : (s : SentPacket) → slice_get all i ≡ Some s → IsBefore n s
    is-before s is = subst (IsBefore n) (get_or_from_slice_get all i s s is) (before i s (slice_get_within all i s is))

    by : (o : Option SentPacket) → slice_get all i ≡ o → IsSomeAnd o (IsOf f) → f < n
    by None is none = absurd none
    by (Some (Media g k text)) is same = let lt : g < n = is-before (Media g k text) is in omega arith
    by (Some (Fec payload)) is none = absurd none
    by (Some Empty) is none = absurd none
