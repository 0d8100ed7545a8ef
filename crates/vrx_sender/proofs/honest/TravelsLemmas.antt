-- A frame travels in its packets: they are its parts, and join to its bytes.
use Rattle.std.proofs.Common.{◌≡◌, ◌↔◌, ℕ, zero, suc, ◌+◌, ◌*◌, ◌%◌, ◌<◌, ◌≤◌, Bool, true, false, ◌&&◌, Contains, List, [], ◌∷◌, ◌++◌, length, map, take, drop, Some, Ok, slice_get, slice_index_or, refl, ap, sym, ◌∙◌, subst, arith}
use Rattle.std.specs.Prelude.{◌==◌, if◌then◌else◌, flat_map, slice_index}
use Rattle.std.specs.Option.{option_map}
use Rattle.std.proofs.lemmas.Bool.{eq-eqb, eqb-true, false≢true, ne_eqb}
use Rattle.std.proofs.lemmas.List.{length-drop, length-take, take-append-drop}
use Rattle.std.proofs.lemmas.List.Elements.{All-drop, All-take}
use Rattle.vrx_num.specs.Octets.{AreOctets}
use Rattle.vrx_rtp.specs.Laws.{ReadsPackets, SpellsItself}
use Rattle.vrx_rtp.specs.Packet.{octets_of}
use Rattle.vrx_codec.specs.Part.{Part}
use Rattle.vrx_vp8.specs.Descriptor.{vp8}
use Rattle.vrx_vp8.specs.Writing.{written_part}
use Rattle.vrx_window.specs.Sound.{on_wire}
use Rattle.vrx_core.specs.honest.Sender.{SentFrame, Sender, Media, wire_of}
use Rattle.vrx_core.specs.honest.HonestSender.{AreParts, CarriedPart, IsMedia, IsPart, SaysRightly, Travels}
use Rattle.vrx_sender.specs.Frames.{is_key, octet, octets, part_count, place, sent_frame}
use Rattle.vrx_sender.specs.Packets.{media, media_from, packet, parts, payload, sent_media, settings}
use Rattle.vrx_sender.proofs.NumbersLemmas.{at-numbers, length-mapped}
use Rattle.vrx_sender.proofs.PacketLemmas.{length-packet}
use Rattle.vrx_sender.proofs.honest.PartLemmas.{few-tids, octets-packet, octets-payload, reads-packet, reads-part}
use Rattle.vrx_sender.proofs.honest.PlaceLemmas.{length-octets, length-parts}

-- what part k of frame f carries, which is packet i; and the parts from it on
abbrev pub carried : (f count k i : ℕ) → List ℕ → CarriedPart
carried f count k i body = record {
  text = octets_of (packet i f 96 (k + 1 == count) (payload f k body));
  packet = packet i f 96 (k + 1 == count) (payload f k body);
  part = written_part (k == 0) (Some (on_wire (place f))) body;
}

abbrev pub carried_from : (f count k i : ℕ) → List (List ℕ) → List CarriedPart
carried_from f count k i [] = []
carried_from f count k i (body ∷ bodies) = carried f count k i body ∷ carried_from f count (k + 1) (i + 1) bodies

pub length-carried : (f count k i : ℕ) (bodies : List (List ℕ)) → length (carried_from f count k i bodies) ≡ length bodies
length-carried f count k i [] = refl
length-carried f count k i (body ∷ bodies) = omega (arith, length-carried f count (k + 1) (i + 1) bodies)

-- a part's octets: some, and at most 1,000
pub record IsBody (body : List ℕ) : Type 0 where
  pub some : 0 < length body
  pub few : length body ≤ 1000
  pub are : AreOctets body

abbrev pub AreBodies : List (List ℕ) → Type 0
AreBodies [] = Unit {0}
AreBodies (body ∷ bodies) = IsBody body × AreBodies bodies

-- the octets of a frame are such
pub octets-are : (f size : ℕ) → AreOctets (octets f size)
octets-are f size i d lt =
    rw (at-numbers (octet f) 0 size i d (omega (arith, lt, length-mapped (octet f) 0 size))) (small (0 + i))
  where
    by : (first key : Bool) (j : ℕ) → (if first then (if key then 0 else 1) else (31 * f + 7 * j) % 256) < 256
    by true true j = omega arith
    by true false j = omega arith
    by false key j = omega arith

    small : (j : ℕ) → octet f j < 256
    small j = by (j == 0) (is_key f) j

-- and so are the parts that they are cut into
pub bodies-are : (n : ℕ) (bytes : List ℕ) → 1000 * n < length bytes + 1000 → length bytes ≤ 1000 * n → AreOctets bytes →
    AreBodies (parts n bytes)
bodies-are zero bytes more fits are = tt
bodies-are (suc zero) bytes more fits are = (
  record {
    some = omega (arith, length-take 1000 bytes, more);
    few = omega (arith, length-take 1000 bytes);
    are = All-take (λ (x : ℕ). x < 256) 1000 bytes are;
  },
  tt,
)
bodies-are (suc (suc n)) bytes more fits are = (
  record {
    some = omega (arith, length-take 1000 bytes, more);
    few = omega (arith, length-take 1000 bytes);
    are = All-take (λ (x : ℕ). x < 256) 1000 bytes are;
  },
  bodies-are (suc n) (drop 1000 bytes) (omega (arith, more, length-drop 1000 bytes))
      (omega (arith, fits, length-drop 1000 bytes)) (All-drop (λ (x : ℕ). x < 256) 1000 bytes are),
)

-- they join to them
pub parts-join : (n : ℕ) (bytes : List ℕ) → length bytes ≤ 1000 * n → flat_map (λ (body : List ℕ). body) (parts n bytes) ≡ bytes
parts-join zero [] fits = refl
parts-join zero (b ∷ bytes) fits = absurd (omega (arith, fits))
parts-join (suc n) bytes fits =
    ap (λ (xs : List ℕ). take 1000 bytes ++ xs) (parts-join n (drop 1000 bytes) (omega (arith, fits, length-drop 1000 bytes)))
    ∙ take-append-drop 1000 bytes

join-carried : (f count k i : ℕ) (bodies : List (List ℕ)) →
    flat_map (λ (part : Part). part.body) (map (λ (c : CarriedPart). c.part) (carried_from f count k i bodies))
    ≡ flat_map (λ (body : List ℕ). body) bodies
join-carried f count k i [] = refl
join-carried f count k i (body ∷ bodies) = ap (λ (xs : List ℕ). body ++ xs) (join-carried f count (k + 1) (i + 1) bodies)

-- ---- one part

marker-is : (k count : ℕ) → ((k + 1 == count) ≡ true) ↔ (k + 1 ≡ count)
marker-is k count = (λ is. eqb-true (k + 1) count is, λ is. eq-eqb (k + 1) count is)

says-rightly : (f k : ℕ) (body : List ℕ) → SaysRightly k (written_part (k == 0) (Some (on_wire (place f))) body).start
says-rightly f zero body = refl
says-rightly f (suc k) body = rw (ne_eqb (suc k) 0 (λ is. omega (arith, is))) (λ is. omega (arith, is))

reads-body : (f k : ℕ) (body : List ℕ) → 0 < length body →
    vp8.read (payload f k body) ≡ Ok (written_part (k == 0) (Some (on_wire (place f))) body)
reads-body f k [] some = absurd (omega (arith, some))
reads-body f k (b ∷ body) some = reads-part (k == 0) (on_wire (place f)) b body (omega arith) (few-tids f)

module _ (spells : SpellsItself) (reads : ReadsPackets) (sender : Sender) (wires : sender.first_wire ≡ 65000)
    (f : ℕ) (frame : SentFrame) (ts : frame.ts ≡ (3000 * f) % 4294967296) (layers : frame.layers ≡ Some (place f)) where
  media-is : (count k i : ℕ) (body : List ℕ) → IsBody body →
      IsMedia settings vp8 (wire_of sender i) (carried f count k i body)
  media-is count k i body is =
      let octets : AreOctets (payload f k body) = octets-payload f k body is.are in
      record {
        size = omega (arith, length-packet i f 96 (k + 1 == count) (payload f k body), is.few);
        below = octets-packet i f 96 (k + 1 == count) (payload f k body) (omega arith) octets;
        reads = reads-packet spells reads i f 96 (k + 1 == count) (payload f k body) (omega arith) octets;
        no_padding = refl;
        number = ap (λ (n : ℕ). (n + i) % 65536) (sym wires);
        type = refl;
        source = refl;
        payload = λ none. absurd cc;
        part_reads = reads-body f k body is.some;
      }

  part-is : (count k i : ℕ) (body : List ℕ) → IsBody body →
      slice_get sender.packets i ≡ Some (Media f k (octets_of (packet i f 96 (k + 1 == count) (payload f k body)))) →
      IsPart settings vp8 sender f frame count k i (carried f count k i body)
  part-is count k i body is sent = record {
    sent = sent;
    media = media-is count k i body is;
    timestamp = sym ts;
    marker = marker-is k count;
    start = says-rightly f k body;
    layers = ap (option_map on_wire) (sym layers);
  }

  -- packets that are sent as these parts are the frame's parts
  pub parts-are : (count k i : ℕ) (bodies : List (List ℕ)) → AreBodies bodies →
      ((j : ℕ) → j < length bodies →
      slice_get sender.packets (i + j) ≡ slice_get (sent_media f k (media_from f count k i bodies)) j) →
      AreParts settings vp8 sender f frame count k i (carried_from f count k i bodies)
  parts-are count k i [] are sent = tt
  parts-are count k i (body ∷ bodies) are sent = (
    part-is count k i body are.0 (ap (slice_get sender.packets) (let t : i ≡ i + 0 = omega arith in t) ∙ sent 0 (omega arith)),
    parts-are count (k + 1) (i + 1) bodies are.1
        (λ j lt. ap (slice_get sender.packets) (let t : i + 1 + j ≡ i + suc j = omega arith in t) ∙ sent (suc j) (omega (arith, lt))),
  )

-- ---- whether it is a keyframe

first-octet : (f size : ℕ) → 0 < size → slice_index (take 1000 (octets f size)) 0 ≡ (if is_key f then 0 else 1)
first-octet f zero some = absurd (omega (arith, some))
first-octet f (suc size) some = refl

key-of : (b : Bool) (n : ℕ) → n ≡ (if b then 0 else 1) → (n % 2 == 0) ≡ b
key-of true n is = rw is refl
key-of false n is = rw is refl

none-later : (f count k i : ℕ) (bodies : List (List ℕ)) (j : ℕ) (d : CarriedPart) →
    j < length (carried_from f count (suc k) i bodies) →
    (slice_index_or (carried_from f count (suc k) i bodies) j d).part.key ≡ false
none-later f count k i [] j d lt = absurd (omega (arith, lt))
none-later f count k i (body ∷ bodies) zero d lt =
    ap (λ (b : Bool). b && (slice_index body 0 % 2 == 0)) (ne_eqb (suc k) 0 (λ is. omega (arith, is)))
none-later f count k i (body ∷ bodies) (suc j) d lt =
    subst (λ (n : ℕ). (slice_index_or (carried_from f count n (i + 1) bodies) j d).part.key ≡ false)
    (let t : suc (k + 1) ≡ suc k + 1 = omega arith in t)
    (none-later f count (k + 1) (i + 1) bodies j d
    (subst (λ (n : ℕ). j < length (carried_from f count n (i + 1) bodies)) (let t : suc k + 1 ≡ suc (k + 1) = omega arith in t)
    (omega (arith, lt))))

pub key-is : (f size n i count : ℕ) → 0 < size → 0 < n →
    (is_key f ≡ true) ↔ ((c : CarriedPart) × Contains (carried_from f count 0 i (parts n (octets f size))) c × (c.part.key ≡ true))
key-is f size zero i count some more = absurd (omega (arith, more))
key-is f size (suc n) i count some more = (
  λ key. (carried f count 0 i (take 1000 (octets f size)), (0, omega arith, refl), first-is ∙ key),
  λ c. by c.0 c.1.0 c.1.1 c.1.2 c.2,
)
  where
    first-is : (slice_index (take 1000 (octets f size)) 0 % 2 == 0) ≡ is_key f
    first-is = key-of (is_key f) (slice_index (take 1000 (octets f size)) 0) (first-octet f size some)

    by : (c : CarriedPart) (k : ℕ) → k < length (carried_from f count 0 i (parts (suc n) (octets f size))) →
        slice_index_or (carried_from f count 0 i (parts (suc n) (octets f size))) k c ≡ c → c.part.key ≡ true → is_key f ≡ true
    by c zero lt at key = sym first-is ∙ ap (λ (d : CarriedPart). d.part.key) at ∙ key
    by c (suc k) lt at key = absurd (false≢true (sym (none-later f count 0 (i + 1) (parts n (drop 1000 (octets f size))) k c (omega (arith, lt)))
        ∙ ap (λ (d : CarriedPart). d.part.key) at ∙ key))

-- ---- the frame

-- what the packets of frame f carry, whose first is packet i
abbrev pub carries : (f i size : ℕ) → List CarriedPart
carries f i size = let count : ℕ = part_count (length (octets f size)) in
    carried_from f count 0 i (parts count (octets f size))

pub length-carries : (f i size : ℕ) → length (carries f i size) ≡ part_count size
length-carries f i size = let count : ℕ = part_count (length (octets f size)) in
    length-carried f count 0 i (parts count (octets f size)) ∙ length-parts count (octets f size) ∙ ap part_count (length-octets f size)

pub travels-is : SpellsItself → ReadsPackets → (sender : Sender) → sender.first_wire ≡ 65000 → (f i size : ℕ) → 0 < size → size < 12000 →
    ((j : ℕ) → j < part_count size → slice_get sender.packets (i + j) ≡ slice_get (sent_media f 0 (media f i (octets f size))) j) →
    Travels settings vp8 sender f (sent_frame f size) i (carries f i size)
travels-is spells reads sender wires f i size some few sent =
    let count : ℕ = part_count (length (octets f size)) in
    let same : length (octets f size) ≡ size = length-octets f size in
    let len : length (carries f i size) ≡ count =
    length-carried f count 0 i (parts count (octets f size)) ∙ length-parts count (octets f size) in
    record {
      some = omega (arith, len, same, some);
      each = subst (λ (n : ℕ). AreParts settings vp8 sender f (sent_frame f size) n 0 i (carries f i size)) (sym len)
          (parts-are spells reads sender wires f (sent_frame f size) refl refl count 0 i (parts count (octets f size))
          (bodies-are count (octets f size) (omega (arith, same, some)) (omega (arith, same)) (octets-are f size))
          (λ j lt. sent j (omega (arith, lt, same, length-parts count (octets f size)))));
      joins = ap Ok (join-carried f count 0 i (parts count (octets f size))
          ∙ parts-join count (octets f size) (omega (arith, same)));
      key = key-is f size count i count some (omega (arith, same, some));
    }
