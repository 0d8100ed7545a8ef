-- THE FRAMES of a drill, in three temporal layers (RFC 7741 4.2). Frame f counts from 0.
use Rattle.std.specs.Prelude.{ℕ, ◌+◌, ◌-◌, ◌*◌, ◌/◌, ◌%◌, ◌^◌, Bool, ◌||◌, ◌==◌, if◌then◌else◌, List, [], ◌∷◌, map, Some}
use Rattle.vrx_codec.specs.declared.run.Place.{Place}
use Rattle.vrx_fec.specs.Mask.{numbers_from}
use Rattle.vrx_core.specs.honest.Sender.{SentFrame}

-- every 300th frame is a keyframe, the first one too
abbrev pub is_key : ℕ → Bool
is_key f = f % 300 == 0

-- four frames have the TID 0, 2, 1, 2
abbrev pub tid : ℕ → ℕ
tid f = if f % 4 == 0 then 0 else if f % 4 == 2 then 1 else 2

-- Y: the second and the third of them rest on the first only
abbrev pub rests_on_base : ℕ → Bool
rests_on_base f = (f % 4 == 1) || (f % 4 == 2)

-- its place: pictures rise by one, and all four frames have the index of the first
abbrev pub place : ℕ → Place
place f = record {
  picture = 32000 + f;
  tl0 = (250 + f / 4) % 256;
  tid = tid f;
  sync = rests_on_base f;
}

-- its timestamp
abbrev pub timestamp : ℕ → ℕ
timestamp f = 3000 * f % 2 ^ 32

-- how many octets it has, by the word that it draws
abbrev pub size_by : ℕ → ℕ → ℕ
size_by f u = if is_key f then 8000 + u % 4000 else 200 + u % 3000

-- octet j of it: the first octet's lowest bit says whether it is a keyframe (RFC 7741 4.3)
abbrev pub octet : ℕ → ℕ → ℕ
octet f j = if j == 0 then (if is_key f then 0 else 1) else (31 * f + 7 * j) % 256

-- its octets, if it has so many
abbrev pub octets : ℕ → ℕ → List ℕ
octets f size = map (octet f) (numbers_from 0 size)

-- The frames that its decoder needs: those of TID 0 the one before of TID 0; the second and the third of four the
-- first; the fourth all three before it. A keyframe needs none.
abbrev pub references : ℕ → List ℕ
references f =
    if is_key f then []
    else if f % 4 == 0 then (f - 4) ∷ []
    else if f % 4 == 3 then (f - 3) ∷ (f - 2) ∷ (f - 1) ∷ []
    else (f - f % 4) ∷ []

-- the frame as it is sent, of so many octets
abbrev pub sent_frame : ℕ → ℕ → SentFrame
sent_frame f size = record {
  bytes = octets f size;
  key = is_key f;
  ts = timestamp f;
  layers = Some (place f);
  references = references f;
}

-- how many parts a frame of so many octets is cut into, and how many packets it has with the FEC packet
abbrev pub part_count : ℕ → ℕ
part_count size = (size + 999) / 1000

abbrev pub packet_count : ℕ → ℕ
packet_count size = part_count size + 1
