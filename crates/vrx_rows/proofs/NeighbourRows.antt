-- An honest sender whose payloads never say where a frame begins, and who sends an empty packet between two frames,
-- worked by hand: the premises of the laws can be met if the packet before decides.
use Rattle.std.proofs.Common.{◌≢◌, ◌≤◌, ◌<◌, ◌≡◌, ◌∙◌, ◌⊎◌, ap, inl, inr, Contains, All, ℕ, zero, suc, ◌+◌, true, false, List, [], ◌∷◌, length, Some, None, IfSome, IsSomeAnd, Ok, slice_get, refl, arith}
use Rattle.std.specs.Prelude.{nat_lt, nat_le, ◌==◌}
use Rattle.std.specs.List.{AllByRecursion, list_all, list_any, flat_map}
use Rattle.std.proofs.lemmas.Bool.{and_parts, leb-true, ltb-true}
use Rattle.std.proofs.lemmas.List.Elements.{All-nil, All-from_recursion}
use Rattle.vrx_num.specs.Octets.{AreOctets}
use Rattle.vrx_num.specs.declared.limits.TheConstants.{MOST_OCTETS}
use Rattle.vrx_rtp.specs.Packet.{Packet}
use Rattle.vrx_rtp.specs.Reading.{read}
use Rattle.vrx_wrap.specs.Red.{red_of}
use Rattle.vrx_codec.specs.Meaning.{Meaning}
use Rattle.vrx_codec.specs.declared.part.Start.TheVariants.{ByNeighbour}
use Rattle.vrx_core.specs.machine.SettingsFault.{fault_of}
use Rattle.vrx_repair.specs.Plan.{repairs_in}
use Rattle.vrx_core.specs.machine.Machine.{Reply, ToDatagram, ToPull, replies, reply, snapshots}
use Rattle.vrx_core.specs.honest.Sender.{SentFrame, Media, Fec, Empty, Sender, IsNoPart}
use Rattle.vrx_core.specs.machine.Text.{without_padding}
use Rattle.vrx_core.specs.honest.WireForm.{Plain, Carries, IsFormOf, IsWireForm}
use Rattle.vrx_core.specs.honest.Layers.{HaveNoLayers}
use Rattle.vrx_core.specs.honest.Chain.{InChain}
use Rattle.vrx_core.specs.honest.HonestSender.{CarriedPart, IsPart, IsTrueFec, Travels, HonestSender}
use Rattle.vrx_core.specs.honest.HonestNetwork.{Origin, FromSender, Elsewhere, HonestNetwork, packets_taken}
use Rattle.vrx_core.specs.declared.settings.Settings.{Settings}
use Rattle.vrx_core.specs.declared.event.Event.{Event}
use Rattle.vrx_core.specs.declared.event.Event.TheVariants.{Datagram, Pull}
use Rattle.vrx_core.specs.declared.reply.What.{What}
use Rattle.vrx_core.specs.declared.reply.What.TheVariants as what
use Rattle.vrx_core.specs.declared.reply.Pulled.TheVariants.{Frame}
use Rattle.vrx_rows.proofs.MemberLemmas.{Contains-either, Contains-empty}

-- a codec whose payloads leave open where a frame begins: a payload is the part's body, one with an octet 5 says a
-- keyframe, and parts join to their bodies
abbrev pub codec : Meaning
codec = record {
  read = λ payload. Ok (record {
    start = ByNeighbour;
    key = list_any (λ octet. octet == 5) payload;
    layers = None;
    body = payload;
  });
  join = λ parts. Ok (flat_map (λ part. part.body) parts);
}

-- media may come in RED, and media and RED may come again
abbrev pub settings : Settings
settings = record {
  media_ssrc = 10;
  media_type = 96;
  red = Some (record { red_type = 97; fec_type = None });
  rtx = Some (record { ssrc = 12; media_rtx_type = 98; red_rtx_type = Some 99 });
  from_ssrc = 11;
  interval = 100;
}

-- they have no fault
pub no_fault : fault_of settings ≡ None
no_fault = refl

-- a keyframe of one packet, a keyframe of two packets, an empty packet with one octet of padding, and a frame of one
-- packet that refers to the frame before it
abbrev pub first_text : List ℕ
first_text = 128 ∷ 224 ∷ 0 ∷ 1 ∷ 0 ∷ 0 ∷ 0 ∷ 0 ∷ 0 ∷ 0 ∷ 0 ∷ 10 ∷ 5 ∷ 170 ∷ []

abbrev pub second_text : List ℕ
second_text = 128 ∷ 96 ∷ 0 ∷ 2 ∷ 0 ∷ 0 ∷ 0 ∷ 9 ∷ 0 ∷ 0 ∷ 0 ∷ 10 ∷ 5 ∷ 187 ∷ []

abbrev pub third_text : List ℕ
third_text = 128 ∷ 224 ∷ 0 ∷ 3 ∷ 0 ∷ 0 ∷ 0 ∷ 9 ∷ 0 ∷ 0 ∷ 0 ∷ 10 ∷ 204 ∷ []

abbrev empty_octets : List ℕ
empty_octets = 160 ∷ 96 ∷ 0 ∷ 4 ∷ 0 ∷ 0 ∷ 0 ∷ 9 ∷ 0 ∷ 0 ∷ 0 ∷ 10 ∷ 1 ∷ []

abbrev pub fourth_text : List ℕ
fourth_text = 128 ∷ 224 ∷ 0 ∷ 5 ∷ 0 ∷ 0 ∷ 0 ∷ 18 ∷ 0 ∷ 0 ∷ 0 ∷ 10 ∷ 221 ∷ []

abbrev first_frame : SentFrame
first_frame = record { bytes = 5 ∷ 170 ∷ []; key = true; ts = 0; layers = None; references = [] }

abbrev second_frame : SentFrame
second_frame = record { bytes = 5 ∷ 187 ∷ 204 ∷ []; key = true; ts = 9; layers = None; references = [] }

abbrev third_frame : SentFrame
third_frame = record { bytes = 221 ∷ []; key = false; ts = 18; layers = None; references = 1 ∷ [] }

abbrev pub sender : Sender
sender = record {
  first_wire = 1;
  frames = first_frame ∷ second_frame ∷ third_frame ∷ [];
  packets = Media 0 0 first_text ∷ Media 1 0 second_text ∷ Media 1 1 third_text ∷ Empty ∷ Media 2 0 fourth_text ∷ [];
}

-- what the packets carry
abbrev pub first_part : CarriedPart
first_part = record {
  text = first_text;
  packet = record {
    marker = true;
    pt = 96;
    seq = 1;
    ts = 0;
    ssrc = 10;
    csrc = [];
    extension = None;
    payload = 5 ∷ 170 ∷ [];
    padding = 0;
  };
  part = record { start = ByNeighbour; key = true; layers = None; body = 5 ∷ 170 ∷ [] };
}

abbrev pub second_part : CarriedPart
second_part = record {
  text = second_text;
  packet = record {
    marker = false;
    pt = 96;
    seq = 2;
    ts = 9;
    ssrc = 10;
    csrc = [];
    extension = None;
    payload = 5 ∷ 187 ∷ [];
    padding = 0;
  };
  part = record { start = ByNeighbour; key = true; layers = None; body = 5 ∷ 187 ∷ [] };
}

abbrev pub third_part : CarriedPart
third_part = record {
  text = third_text;
  packet = record {
    marker = true;
    pt = 96;
    seq = 3;
    ts = 9;
    ssrc = 10;
    csrc = [];
    extension = None;
    payload = 204 ∷ [];
    padding = 0;
  };
  part = record { start = ByNeighbour; key = false; layers = None; body = 204 ∷ [] };
}

abbrev pub fourth_part : CarriedPart
fourth_part = record {
  text = fourth_text;
  packet = record {
    marker = true;
    pt = 96;
    seq = 5;
    ts = 18;
    ssrc = 10;
    csrc = [];
    extension = None;
    payload = 221 ∷ [];
    padding = 0;
  };
  part = record { start = ByNeighbour; key = false; layers = None; body = 221 ∷ [] };
}

-- octets, as a test
pub are_octets : (octets : List ℕ) → list_all (λ octet. nat_lt octet 256) octets ≡ true → AreOctets octets
are_octets octets h = All-from_recursion (λ octet. octet < 256) octets (each octets h) where
  each : (os : List ℕ) → list_all (λ octet. nat_lt octet 256) os ≡ true → AllByRecursion (λ octet. octet < 256) os
  each [] h = tt
  each (o ∷ os) h = let both =
      and_parts (nat_lt o 256) (list_all (λ octet. nat_lt octet 256) os) h in (ltb-true o 256 both.0, each os both.1)

-- octets that read as a packet carry it
pub carry : (octets : List ℕ) (packet : Packet) → nat_le (length octets) MOST_OCTETS ≡ true →
    list_all (λ octet. nat_lt octet 256) octets ≡ true → read octets ≡ Some packet →
    Carries octets (without_padding packet)
carry octets packet short small reads = record {
  size = leb-true (length octets) MOST_OCTETS short;
  below = are_octets octets small;
  packet = packet;
  reads = reads;
  unpadded = refl;
}

-- so they are a packet that travels as it is
pub plain_form : (octets : List ℕ) (packet : Packet) → Carries octets packet →
    IsFormOf settings red_of packet octets
plain_form octets packet carries = record { how = Plain; wire = packet; travels = refl; carries = carries }

-- each packet is a part of its frame
first_is : IsPart settings codec sender 0 first_frame 1 0 0 first_part
first_is = record {
  sent = refl;
  media = record {
    size = omega arith;
    below = are_octets first_text refl;
    reads = refl;
    no_padding = refl;
    number = refl;
    type = refl;
    source = refl;
    payload = λ e. cc;
    part_reads = refl;
  };
  timestamp = refl;
  marker = (λ e. refl, λ e. refl);
  start = tt;
  layers = refl;
}

second_is : IsPart settings codec sender 1 second_frame 2 0 1 second_part
second_is = record {
  sent = refl;
  media = record {
    size = omega arith;
    below = are_octets second_text refl;
    reads = refl;
    no_padding = refl;
    number = refl;
    type = refl;
    source = refl;
    payload = λ e. cc;
    part_reads = refl;
  };
  timestamp = refl;
  marker = (λ e. cc, λ e. absurd (omega arith));
  start = tt;
  layers = refl;
}

third_is : IsPart settings codec sender 1 second_frame 2 1 2 third_part
third_is = record {
  sent = refl;
  media = record {
    size = omega arith;
    below = are_octets third_text refl;
    reads = refl;
    no_padding = refl;
    number = refl;
    type = refl;
    source = refl;
    payload = λ e. cc;
    part_reads = refl;
  };
  timestamp = refl;
  marker = (λ e. refl, λ e. refl);
  start = tt;
  layers = refl;
}

fourth_is : IsPart settings codec sender 2 third_frame 1 0 4 fourth_part
fourth_is = record {
  sent = refl;
  media = record {
    size = omega arith;
    below = are_octets fourth_text refl;
    reads = refl;
    no_padding = refl;
    number = refl;
    type = refl;
    source = refl;
    payload = λ e. cc;
    part_reads = refl;
  };
  timestamp = refl;
  marker = (λ e. refl, λ e. refl);
  start = tt;
  layers = refl;
}

-- each frame travels
first_travels : Travels settings codec sender 0 first_frame 0 (first_part ∷ [])
unfolding first_is
first_travels = record {
  some = omega arith;
  each = (first_is, tt);
  joins = refl;
  key = (λ e. (first_part, (0, omega arith, refl), refl), λ e. refl);
}

second_travels : Travels settings codec sender 1 second_frame 1 (second_part ∷ third_part ∷ [])
unfolding second_is third_is
second_travels = record {
  some = omega arith;
  each = (second_is, (third_is, tt));
  joins = refl;
  key = (λ e. (second_part, (0, omega arith, refl), refl), λ e. refl);
}

-- no part of the last says a keyframe
no_key : (c : CarriedPart) → Contains (fourth_part ∷ []) c → c.part.key ≡ true → third_frame.key ≡ true
no_key c there key = elim (Contains-either fourth_part [] c there) [
  | inl same ↦ ap (λ (x : CarriedPart). x.part.key) same ∙ key
  | inr later ↦ absurd (Contains-empty c later)
]

third_travels : Travels settings codec sender 2 third_frame 4 (fourth_part ∷ [])
unfolding fourth_is
third_travels = record {
  some = omega arith;
  each = (fourth_is, tt);
  joins = refl;
  key = (λ e. absurd (cc), λ p. no_key p.0 p.1 p.2);
}

-- the places and the parts of the frames
abbrev place : ℕ → ℕ
place zero = 0
place (suc zero) = 1
place (suc (suc f)) = 4

abbrev parts : ℕ → List CarriedPart
parts zero = first_part ∷ []
parts (suc zero) = second_part ∷ third_part ∷ []
parts (suc (suc f)) = fourth_part ∷ []

-- the sender is honest
pub sender-honest : HonestSender settings codec sender
unfolding first_travels second_travels third_travels
sender-honest = record {
  begins = omega arith;
  place = place;
  parts = parts;
  travels = travels;
  in_order = order;
  no_other = others;
  parity = no_parity;
  from_key = refl;
  references = chains;
  layers = inr no_layers;
  apart = different;
} where
  travels : (f : ℕ) → IfSome (slice_get sender.frames f)
      (λ frame. Travels settings codec sender f frame (place f) (parts f))
  travels zero = first_travels
  travels (suc zero) = second_travels
  travels (suc (suc zero)) = third_travels
  travels (suc (suc (suc f))) = tt

  order : (f g : ℕ) → f < g → g < length sender.frames → place f + length (parts f) ≤ place g
  order f zero less within = absurd (omega arith)
  order zero (suc zero) less within = omega arith
  order zero (suc (suc g)) less within = omega arith
  order (suc f) (suc zero) less within = absurd (omega arith)
  order (suc zero) (suc (suc g)) less within = omega arith
  order (suc (suc f)) (suc (suc g)) less within = absurd (omega arith)

  others : (i : ℕ) → i < length sender.packets →
      IsSomeAnd (slice_get sender.packets i) IsNoPart
      ⊎ ((f : ℕ) × (f < length sender.frames) × (place f ≤ i) × (i < place f + length (parts f)))
  others zero within = inr (0, omega arith, omega arith, omega arith)
  others (suc zero) within = inr (1, omega arith, omega arith, omega arith)
  others (suc (suc zero)) within = inr (1, omega arith, omega arith, omega arith)
  others (suc (suc (suc zero))) within = inl tt
  others (suc (suc (suc (suc i)))) within = inr (2, omega arith, omega arith, omega arith)

  no_parity : (i : ℕ) (payload : List ℕ) → slice_get sender.packets i ≡ Some (Fec payload) →
      IsTrueFec sender i payload
  no_parity zero payload is = absurd (cc)
  no_parity (suc zero) payload is = absurd (cc)
  no_parity (suc (suc zero)) payload is = absurd (cc)
  no_parity (suc (suc (suc zero))) payload is = absurd (cc)
  no_parity (suc (suc (suc (suc zero)))) payload is = absurd (cc)
  no_parity (suc (suc (suc (suc (suc i))))) payload is = absurd (cc)

  chains : (f : ℕ) → IfSome (slice_get sender.frames f) (λ frame. All (λ g. InChain sender f g) frame.references)
  chains zero = All-nil (λ g. InChain sender 0 g)
  chains (suc zero) = All-nil (λ g. InChain sender 1 g)
  chains (suc (suc zero)) = All-from_recursion (λ g. InChain sender 2 g) (1 ∷ []) (([], (refl, refl)), tt)
  chains (suc (suc (suc f))) = tt

  no_layers : HaveNoLayers sender.frames
  no_layers zero = refl
  no_layers (suc zero) = refl
  no_layers (suc (suc zero)) = refl
  no_layers (suc (suc (suc f))) = tt

  different : (f : ℕ) → IfSome (slice_get sender.frames f)
      (λ frame. IfSome (slice_get sender.frames (f + 1)) (λ after. frame.ts ≢ after.ts))
  different zero = λ e. omega arith
  different (suc zero) = λ e. omega arith
  different (suc (suc zero)) = tt
  different (suc (suc (suc f))) = tt

-- the packets travel as they are
pub first_plain : IsWireForm settings 1 (Media 0 0 first_text) first_text
first_plain = (
  first_part.packet,
  refl,
  plain_form first_text first_part.packet (carry first_text first_part.packet refl refl refl),
)

second_plain : IsWireForm settings 2 (Media 1 0 second_text) second_text
second_plain = (
  second_part.packet,
  refl,
  plain_form second_text second_part.packet (carry second_text second_part.packet refl refl refl),
)

pub third_plain : IsWireForm settings 3 (Media 1 1 third_text) third_text
third_plain = (
  third_part.packet,
  refl,
  plain_form third_text third_part.packet (carry third_text third_part.packet refl refl refl),
)

fourth_plain : IsWireForm settings 5 (Media 2 0 fourth_text) fourth_text
fourth_plain = (
  fourth_part.packet,
  refl,
  plain_form fourth_text fourth_part.packet (carry fourth_text fourth_part.packet refl refl refl),
)

-- the empty packet, without its padding
abbrev pub empty_packet : Packet
empty_packet = record {
  marker = false;
  pt = 96;
  seq = 4;
  ts = 9;
  ssrc = 10;
  csrc = [];
  extension = None;
  payload = [];
  padding = 0;
}

empty_plain : IsWireForm settings 4 Empty empty_octets
empty_plain = (
  empty_packet,
  record { number_is = refl; type = refl; source = refl; payload = refl },
  inl (plain_form empty_octets empty_packet
      (carry empty_octets (record empty_packet { padding = 1 }) refl refl refl)),
)

-- the packets of the first two frames, the empty packet, a pull, the last packet, and a pull
abbrev events : List Event
events = Datagram 0 first_text ∷ Datagram 1 second_text ∷ Datagram 2 third_text ∷ Datagram 3 empty_octets ∷ Pull 4
    ∷ Datagram 5 fourth_text ∷ Pull 6 ∷ []

abbrev origins : List Origin
origins = FromSender 0 ∷ FromSender 1 ∷ FromSender 2 ∷ FromSender 3 ∷ Elsewhere ∷ FromSender 4 ∷ Elsewhere ∷ []

-- the network is honest
pub network-honest : HonestNetwork settings codec sender [] [] events origins
unfolding repairs_in snapshots packets_taken
network-honest = (
  (first_plain, tt),
  tt,
  (
    (second_plain, (omega arith, omega arith)),
    tt,
    (
      (third_plain, (omega arith, omega arith)),
      tt,
      (
        (empty_plain, (omega arith, omega arith)),
        tt,
        (tt, tt, ((fourth_plain, (omega arith, omega arith)), tt, (tt, tt, tt))),
      ),
    ),
  ),
)

-- the reply to a datagram
abbrev answered : What → Reply
answered what = ToDatagram (record { what = what; repaired = []; feedback = record { nack = None; pli = None } })

-- the first frame isn't given, since nothing tells that it begins with its packet; the second begins after the end of
-- the first; and the third follows it over the empty packet
pub frames_pulled : replies settings codec [] events
    ≡ answered (what.Media 65537) ∷ answered (what.Media 65538) ∷ answered (what.Media 65539) ∷ answered
    (what.Empty 65540)
    ∷ ToPull (Frame (record { first = 65538; last = 65539; ts = 9; key = true; bytes = 5 ∷ 187 ∷ 204 ∷ [] }))
    ∷ answered (what.Media 65541) ∷ ToPull
    (Frame (record { first = 65541; last = 65541; ts = 18; key = false; bytes = 221 ∷ [] })) ∷ []
unfolding repairs_in replies reply snapshots
frames_pulled = refl
