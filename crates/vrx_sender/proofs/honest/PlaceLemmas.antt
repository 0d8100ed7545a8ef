-- Where the packets of a frame stand among all packets.
use Rattle.std.proofs.Common.{◌≡◌, ℕ, zero, suc, ◌+◌, ◌-◌, ◌<◌, ◌≤◌, List, [], ◌∷◌, ◌++◌, length, drop, Some, slice_get, refl, ap, ◌∙◌, inl, inr, arith}
use Rattle.std.specs.Option.{option_map}
use Rattle.std.proofs.lemmas.Bool.{cases_lt}
use Rattle.std.proofs.lemmas.List.{length-append}
use Rattle.vrx_rtp.specs.Packet.{Packet}
use Rattle.vrx_sender.specs.Draws.{Drawn}
use Rattle.vrx_sender.specs.Frames.{octet, octets, packet_count, part_count, sent_frame}
use Rattle.vrx_sender.specs.Packets.{frames_from, media, media_from, packets_from, parts, sent_media, sent_packets}
use Rattle.vrx_sender.proofs.NumbersLemmas.{length-mapped}

-- each frame has octets, and not too many
abbrev pub Sized : List Drawn → Type 0
Sized [] = Unit {0}
Sized (d ∷ ds) = ((0 < d.size) × (d.size < 12000)) × Sized ds

-- how many packets the first frames have
abbrev pub start : List Drawn → ℕ → ℕ
start ds zero = 0
start [] (suc f) = 0
start (d ∷ ds) (suc f) = packet_count d.size + start ds f

-- ---- lists

get-left : {A : Type 0} (xs ys : List A) (i : ℕ) → i < length xs → slice_get (xs ++ ys) i ≡ slice_get xs i
get-left [] ys i lt = absurd (omega arith)
get-left (x ∷ xs) ys zero lt = refl
get-left (x ∷ xs) ys (suc i) lt = get-left xs ys i (omega arith)

get-right : {A : Type 0} (xs ys : List A) (n i : ℕ) → length xs ≡ n → slice_get (xs ++ ys) (n + i) ≡ slice_get ys i
get-right [] ys n i is = ap (slice_get ys) (let t : n + i ≡ i = omega (arith, is) in t)
get-right (x ∷ xs) ys zero i is = absurd (omega (arith, is))
get-right (x ∷ xs) ys (suc n) i is = ap (slice_get (x ∷ xs ++ ys)) (let t : suc n + i ≡ suc (n + i) = omega arith in t) ∙ get-right xs ys n i (omega (arith, is))

-- ---- how many packets there are

pub length-parts : (n : ℕ) (bytes : List ℕ) → length (parts n bytes) ≡ n
length-parts zero bytes = refl
length-parts (suc n) bytes = omega (arith, length-parts n (drop 1000 bytes))

pub length-media : (f count k i : ℕ) (bodies : List (List ℕ)) → length (media_from f count k i bodies) ≡ length bodies
length-media f count k i [] = refl
length-media f count k i (body ∷ bodies) = omega (arith, length-media f count (k + 1) (i + 1) bodies)

pub length-sent : (f k : ℕ) (ps : List Packet) → length (sent_media f k ps) ≡ length ps
length-sent f k [] = refl
length-sent f k (p ∷ ps) = omega (arith, length-sent f (k + 1) ps)

pub length-octets : (f size : ℕ) → length (octets f size) ≡ size
length-octets f size = length-mapped (octet f) 0 size

pub media-count : (f i size : ℕ) → length (media f i (octets f size)) ≡ part_count size
media-count f i size =
    length-media f _ 0 i (parts (part_count (length (octets f size))) (octets f size))
    ∙ length-parts (part_count (length (octets f size))) (octets f size) ∙ ap part_count (length-octets f size)

pub sent-count : (f i size : ℕ) → length (sent_packets f i (octets f size)) ≡ packet_count size
sent-count f i size =
    let ps : List Packet = media f i (octets f size) in
    length-append (sent_media f 0 ps) _ ∙ ap (λ (n : ℕ). n + 1) (length-sent f 0 ps ∙ media-count f i size)

-- ---- where they stand

pub frame-at : (first : ℕ) (ds : List Drawn) (f : ℕ) →
    slice_get (frames_from first ds) f ≡ option_map (λ (d : Drawn). sent_frame (first + f) d.size) (slice_get ds f)
frame-at first [] f = refl
frame-at first (d ∷ ds) zero = ap (λ (n : ℕ). Some (sent_frame n d.size)) (let t : first ≡ first + 0 = omega arith in t)
frame-at first (d ∷ ds) (suc f) =
    frame-at (first + 1) ds f
    ∙ ap (λ (n : ℕ). option_map (λ (e : Drawn). sent_frame n e.size) (slice_get ds f)) (let t : first + 1 + f ≡ first + suc f = omega arith in t)

pub length-frames : (first : ℕ) (ds : List Drawn) → length (frames_from first ds) ≡ length ds
length-frames first [] = refl
length-frames first (d ∷ ds) = omega (arith, length-frames (first + 1) ds)

-- packet j of frame f
pub packet-at : (first i : ℕ) (ds : List Drawn) (f j : ℕ) (d : Drawn) → slice_get ds f ≡ Some d →
    j < packet_count d.size →
    slice_get (packets_from first i ds) (start ds f + j)
    ≡ slice_get (sent_packets (first + f) (i + start ds f) (octets (first + f) d.size)) j
packet-at first i [] f j d is within = absurd cc
packet-at first i (e ∷ ds) zero j d is within =
    let same : e ≡ d = cc in
    let here : j < length (sent_packets first i (octets first e.size)) =
    omega (arith, within, ap (λ (x : Drawn). packet_count x.size) same, sent-count first i e.size) in
    ap (slice_get (packets_from first i (e ∷ ds))) (let t : 0 + j ≡ j = omega arith in t)
    ∙ get-left (sent_packets first i (octets first e.size)) (packets_from (first + 1) (i + packet_count e.size) ds) j here
    ∙ ap (λ (x : Drawn). slice_get (sent_packets first i (octets first x.size)) j) same
    ∙ ap (λ (n : ℕ). slice_get (sent_packets n i (octets n d.size)) j) (let t : first ≡ first + 0 = omega arith in t)
    ∙ ap (λ (n : ℕ). slice_get (sent_packets (first + 0) n (octets (first + 0) d.size)) j) (let t : i ≡ i + 0 = omega arith in t)
packet-at first i (e ∷ ds) (suc f) j d is within =
    ap (slice_get (packets_from first i (e ∷ ds)))
    (let t : packet_count e.size + start ds f + j ≡ packet_count e.size + (start ds f + j) = omega arith in t)
    ∙ get-right (sent_packets first i (octets first e.size)) (packets_from (first + 1) (i + packet_count e.size) ds)
    (packet_count e.size) (start ds f + j) (sent-count first i e.size)
    ∙ packet-at (first + 1) (i + packet_count e.size) ds f j d is within
    ∙ ap (λ (n : ℕ). slice_get (sent_packets n (i + packet_count e.size + start ds f) (octets n d.size)) j)
    (let t : first + 1 + f ≡ first + suc f = omega arith in t)
    ∙ ap (λ (n : ℕ). slice_get (sent_packets (first + suc f) n (octets (first + suc f) d.size)) j)
    (let t : i + packet_count e.size + start ds f ≡ i + (packet_count e.size + start ds f) = omega arith in t)

-- each packet is packet j of some frame f
pub record Located (ds : List Drawn) (i : ℕ) : Type 0 where
  pub f : ℕ
  pub d : Drawn
  pub drawn_is : slice_get ds f ≡ Some d
  pub j : ℕ
  pub within : j < packet_count d.size
  pub at : i ≡ start ds f + j

pub locate : (first from : ℕ) (ds : List Drawn) (i : ℕ) → i < length (packets_from first from ds) → Located ds i
locate first from [] i lt = absurd (omega arith)
locate first from (d ∷ ds) i lt =
    elim (cases_lt i (packet_count d.size)) [
      | inl here ↦ record { f = 0; d = d; drawn_is = refl; j = i; within = here; at = omega arith }
      | inr later ↦
          let size = length-append (sent_packets first from (octets first d.size)) (packets_from (first + 1) (from + packet_count d.size) ds) in
          let its : Located ds (i - packet_count d.size) = locate (first + 1) (from + packet_count d.size) ds (i - packet_count d.size)
          (omega (arith, lt, size, later, sent-count first from d.size)) in
          record {
            f = suc its.f;
            d = its.d;
            drawn_is = its.drawn_is;
            j = its.j;
            within = its.within;
            at = omega (arith, its.at, later);
          }
    ]

-- frames stand one after the other
pub start-later : (ds : List Drawn) (f g : ℕ) (d : Drawn) → slice_get ds f ≡ Some d → f < g →
    start ds f + packet_count d.size ≤ start ds g
start-later [] f g d is lt = absurd cc
start-later (e ∷ ds) f zero d is lt = absurd (omega (arith, lt))
start-later (e ∷ ds) zero (suc g) d is lt = let same : e ≡ d = cc in
    omega (arith, ap (λ (x : Drawn). packet_count x.size) same)
start-later (e ∷ ds) (suc f) (suc g) d is lt = omega (arith, start-later ds f g d is (omega (arith, lt)))
