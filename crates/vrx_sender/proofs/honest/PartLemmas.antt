-- What a part's packet says: it reads as the packet that it is, and its payload as the part.
use Rattle.std.proofs.Common.{◌≡◌, ℕ, zero, suc, ◌+◌, ◌*◌, ◌/◌, ◌%◌, ◌<◌, Bool, true, false, List, [], ◌∷◌, ◌++◌, Some, None, Ok, refl, ap, ◌∙◌, arith}
use Rattle.std.specs.Prelude.{◌==◌, if◌then◌else◌}
use Rattle.std.specs.Int.{w16, w32, to_be_bytes}
use Rattle.std.proofs.lemmas.Bool.{eq-eqb, ne_eqb}
use Rattle.std.proofs.lemmas.List.Elements.{All-append, All-nil}
use Rattle.vrx_num.specs.Octets.{AreOctets}
use Rattle.vrx_rtp.specs.Laws.{ReadsPackets, SpellsItself}
use Rattle.vrx_rtp.specs.Packet.{Fits, Packet, octets_of, marker_and_type}
use Rattle.vrx_rtp.specs.Reading.{read}
use Rattle.std.specs.Result.{result_ok}
use Rattle.vrx_codec.specs.Octet.{bit}
use Rattle.vrx_codec.specs.declared.part.Layers.{Layers}
use Rattle.vrx_vp8.specs.Descriptor.{read_part}
use Rattle.vrx_vp8.specs.Writing.{written_part, written_payload}
use Rattle.vrx_window.specs.Sound.{on_wire}
use Rattle.vrx_sender.specs.Frames.{place, tid, timestamp}
use Rattle.vrx_sender.specs.Packets.{packet, payload, wire}

-- ---- octets

octets-cons : (x : ℕ) (xs : List ℕ) → x < 256 → AreOctets xs → AreOctets (x ∷ xs)
octets-cons x xs small are zero d lt = small
octets-cons x xs small are (suc i) d lt = are i d (omega arith)

pub octets-two : (n : ℕ) → AreOctets (to_be_bytes w16 n)
octets-two n = octets-cons (n / 256 % 256) (n % 256 ∷ []) (omega arith)
    (octets-cons (n % 256) [] (omega arith) (All-nil (λ (x : ℕ). x < 256)))

octets-four : (n : ℕ) → AreOctets (to_be_bytes w32 n)
octets-four n = octets-cons (n / 16777216 % 256) (n / 65536 % 256 ∷ n / 256 % 256 ∷ n % 256 ∷ []) (omega arith)
    (octets-cons (n / 65536 % 256) (n / 256 % 256 ∷ n % 256 ∷ []) (omega arith)
    (octets-cons (n / 256 % 256) (n % 256 ∷ []) (omega arith)
    (octets-cons (n % 256) [] (omega arith) (All-nil (λ (x : ℕ). x < 256)))))

pub octets-both : (xs ys : List ℕ) → AreOctets xs → AreOctets ys → AreOctets (xs ++ ys)
octets-both xs ys = All-append (λ (x : ℕ). x < 256) xs ys

pub octets-first : (x : ℕ) (xs : List ℕ) → x < 256 → AreOctets xs → AreOctets (x ∷ xs)
octets-first x xs small are = octets-cons x xs small are

second : (marker : Bool) (type : ℕ) → type < 128 → marker_and_type marker type < 256
second true type fits = omega arith
second false type fits = omega arith

-- a packet that has a header of twelve octets, and a payload
abbrev pub plain : Bool → (pt seq ts ssrc : ℕ) → List ℕ → Packet
plain marker pt seq ts ssrc payload = record {
  marker = marker;
  pt = pt;
  seq = seq;
  ts = ts;
  ssrc = ssrc;
  csrc = [];
  extension = None;
  payload = payload;
  padding = 0;
}

-- the octets of a packet whose payload is octets
pub octets-plain : (marker : Bool) (pt seq ts ssrc : ℕ) (payload : List ℕ) → pt < 128 → AreOctets payload →
    AreOctets (octets_of (plain marker pt seq ts ssrc payload))
octets-plain marker pt seq ts ssrc payload fits are =
    let none : AreOctets [] = All-nil (λ (x : ℕ). x < 256) in
    let fields : List ℕ = to_be_bytes w16 seq ++ to_be_bytes w32 ts ++ to_be_bytes w32 ssrc in
    let head : List ℕ = 128 ∷ marker_and_type marker pt ∷ fields in
    let head-are : AreOctets head = octets-cons 128 (marker_and_type marker pt ∷ fields) (omega arith)
    (octets-cons (marker_and_type marker pt) fields (second marker pt fits)
    (octets-both (to_be_bytes w16 seq ++ to_be_bytes w32 ts) (to_be_bytes w32 ssrc)
    (octets-both (to_be_bytes w16 seq) (to_be_bytes w32 ts) (octets-two seq) (octets-four ts))
    (octets-four ssrc))) in
    octets-both (head ++ [] ++ [] ++ payload) [] (octets-both (head ++ [] ++ []) payload (octets-both (head ++ []) []
    (octets-both head [] head-are none) none) are) none

pub octets-packet : (i f type : ℕ) (marker : Bool) (payload : List ℕ) → type < 128 → AreOctets payload →
    AreOctets (octets_of (packet i f type marker payload))
octets-packet i f type marker payload = octets-plain marker type (wire i) (timestamp f) 1 payload

-- ---- reading

fits-plain : (marker : Bool) (pt seq ts ssrc : ℕ) (payload : List ℕ) → pt < 128 → seq < 65536 → ts < 4294967296 →
    ssrc < 4294967296 → Fits (plain marker pt seq ts ssrc payload)
fits-plain marker pt seq ts ssrc payload pt-fits seq-fits ts-fits ssrc-fits = record {
  pt = pt-fits;
  seq = seq-fits;
  ts = ts-fits;
  ssrc = ssrc-fits;
  csrc = record { whole = refl; fit = omega arith };
  extension = tt;
  padding = omega arith;
}

-- a packet's octets read as it
pub reads-plain : SpellsItself → ReadsPackets → (marker : Bool) (pt seq ts ssrc : ℕ) (payload : List ℕ) → pt < 128 →
    seq < 65536 → ts < 4294967296 → ssrc < 4294967296 → AreOctets payload →
    read (octets_of (plain marker pt seq ts ssrc payload)) ≡ Some (plain marker pt seq ts ssrc payload)
reads-plain spells reads marker pt seq ts ssrc payload pt-fits seq-fits ts-fits ssrc-fits are =
    let p : Packet = plain marker pt seq ts ssrc payload in
    ap result_ok ((reads (octets_of p) p (octets-plain marker pt seq ts ssrc payload pt-fits are)).1
    (spells p (fits-plain marker pt seq ts ssrc payload pt-fits seq-fits ts-fits ssrc-fits)))

pub reads-packet : SpellsItself → ReadsPackets → (i f type : ℕ) (marker : Bool) (payload : List ℕ) → type < 128 →
    AreOctets payload → read (octets_of (packet i f type marker payload)) ≡ Some (packet i f type marker payload)
reads-packet spells reads i f type marker payload fits are =
    reads-plain spells reads marker type (wire i) (timestamp f) 1 payload fits (omega arith) (omega arith) (omega arith) are

-- ---- the payload

layer-octet : (tid : ℕ) (sync : Bool) → tid < 4 →
    ((tid * 64 + (if sync then 32 else 0)) / 64 ≡ tid) × (bit 32 (tid * 64 + (if sync then 32 else 0)) ≡ sync)
    × (tid * 64 + (if sync then 32 else 0) < 256)
layer-octet tid true few = (omega arith, eq-eqb ((tid * 64 + 32) / 32 % 2) 1 (omega arith), omega arith)
layer-octet tid false few = (omega arith, ne_eqb ((tid * 64 + 0) / 32 % 2) 1 (omega arith), omega arith)

first-octets : (start : Bool) (p q t o b : ℕ) (body : List ℕ) (long : Bool) → bit 128 p ≡ long → long ≡ true →
    read_part ((128 + (if start then 16 else 0)) ∷ (128 + 64 + 32) ∷ p ∷ q ∷ t ∷ o ∷ b ∷ body)
    ≡ Ok (record {
      start = (written_part start None (b ∷ body)).start;
      key = (written_part start None (b ∷ body)).key;
      layers = Some (record { picture = p % 128 * 256 + q; tl0 = t; tid = o / 64; sync = bit 32 o });
      body = b ∷ body;
    })
first-octets true p q t o b body long is all = rw is (rw all refl)
first-octets false p q t o b body long is all = rw is (rw all refl)

pub reads-part : (start : Bool) (layers : Layers) (b : ℕ) (body : List ℕ) → layers.picture < 32768 → layers.tid < 4 →
    read_part (written_payload start (Some layers) (b ∷ body)) ≡ Ok (written_part start (Some layers) (b ∷ body))
reads-part start layers b body picture tid =
    let o = layer-octet layers.tid layers.sync tid in
    let whole : (128 + layers.picture / 256) % 128 * 256 + layers.picture % 256 ≡ layers.picture = omega (arith, picture) in
    first-octets start (128 + layers.picture / 256) (layers.picture % 256) layers.tl0 _ b body true
    (eq-eqb ((128 + layers.picture / 256) / 128 % 2) 1 (omega (arith, picture))) refl
    ∙ ap (λ (n : ℕ). Ok (record {
      start = (written_part start None (b ∷ body)).start;
      key = (written_part start None (b ∷ body)).key;
      layers = Some (record {
        picture = n;
        tl0 = layers.tl0;
        tid = (layers.tid * 64 + (if layers.sync then 32 else 0)) / 64;
        sync = bit 32 (layers.tid * 64 + (if layers.sync then 32 else 0));
      });
      body = b ∷ body;
    })) whole
    ∙ ap (λ (n : ℕ). Ok (record {
      start = (written_part start None (b ∷ body)).start;
      key = (written_part start None (b ∷ body)).key;
      layers = Some (record {
        picture = layers.picture;
        tl0 = layers.tl0;
        tid = n;
        sync = bit 32 (layers.tid * 64 + (if layers.sync then 32 else 0));
      });
      body = b ∷ body;
    })) o.0
    ∙ ap (λ (y : Bool). Ok (record {
      start = (written_part start None (b ∷ body)).start;
      key = (written_part start None (b ∷ body)).key;
      layers = Some (record {
        picture = layers.picture;
        tl0 = layers.tl0;
        tid = layers.tid;
        sync = y;
      });
      body = b ∷ body;
    })) o.1

pub few-tids : (f : ℕ) → tid f < 4
few-tids f = by (f % 4 == 0) (f % 4 == 2)
  where
    by : (zeroth second : Bool) → (if zeroth then 0 else if second then 1 else 2) < 4
    by true second = omega arith
    by false true = omega arith
    by false false = omega arith

-- the payload of a part is octets, if the part is
pub octets-payload : (f k : ℕ) (body : List ℕ) → AreOctets body → AreOctets (payload f k body)
octets-payload f k body are = by (k == 0)
  where
    all : List ℕ
    all = 224 ∷ (128 + (32000 + f) % 32768 / 256) ∷ ((32000 + f) % 32768 % 256) ∷ ((250 + f / 4) % 256)
        ∷ (tid f * 64 + (if (place f).sync then 32 else 0)) ∷ body

    after : AreOctets (224 ∷ (128 + (32000 + f) % 32768 / 256) ∷ ((32000 + f) % 32768 % 256) ∷ ((250 + f / 4) % 256)
        ∷ (tid f * 64 + (if (place f).sync then 32 else 0)) ∷ body)
    after =
        octets-cons 224 ((128 + (32000 + f) % 32768 / 256) ∷ ((32000 + f) % 32768 % 256) ∷ ((250 + f / 4) % 256)
        ∷ (tid f * 64 + (if (place f).sync then 32 else 0)) ∷ body) (omega arith)
        (octets-cons (128 + (32000 + f) % 32768 / 256) (((32000 + f) % 32768 % 256) ∷ ((250 + f / 4) % 256)
        ∷ (tid f * 64 + (if (place f).sync then 32 else 0)) ∷ body) (omega arith)
        (octets-cons ((32000 + f) % 32768 % 256) (((250 + f / 4) % 256)
        ∷ (tid f * 64 + (if (place f).sync then 32 else 0)) ∷ body) (omega arith)
        (octets-cons ((250 + f / 4) % 256) ((tid f * 64 + (if (place f).sync then 32 else 0)) ∷ body) (omega arith)
        (octets-cons (tid f * 64 + (if (place f).sync then 32 else 0)) body
        (layer-octet (tid f) (place f).sync (few-tids f)).2 are))))

    by : (start : Bool) → AreOctets (written_payload start (Some (on_wire (place f))) body)
    by true = octets-cons 144 all (omega arith) after
    by false = octets-cons 128 all (omega arith) after
