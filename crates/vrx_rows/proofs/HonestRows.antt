-- An honest sender and an honest network, worked by hand: the premises of the law can be met.
use Rattle.std.proofs.Common.{◌≢◌, ◌≤◌, ◌<◌, ◌≡◌, ◌∙◌, ap, inl, inr, Contains, All, slice_index_or, ℕ, zero, suc, ◌+◌, true, false, List, [], ◌∷◌, length, None, Some, ◌⊎◌, IfSome, IsSomeAnd, slice_get, refl, arith}
use Rattle.std.specs.Prelude.{nat_lt, nat_le}
use Rattle.std.specs.List.{AllByRecursion, list_all}
use Rattle.std.proofs.lemmas.Bool.{and_parts, leb-true, ltb-true}
use Rattle.std.proofs.lemmas.List.Elements.{All-nil, All-from_recursion}
use Rattle.vrx_num.specs.Octets.{AreOctets}
use Rattle.vrx_num.specs.declared.limits.TheConstants.{MOST_OCTETS}
use Rattle.vrx_rtp.specs.Packet.{Packet}
use Rattle.vrx_rtp.specs.Reading.{read}
use Rattle.vrx_repair.specs.Plan.{repairs_in}
use Rattle.vrx_core.specs.machine.Text.{without_padding}
use Rattle.vrx_core.specs.honest.WireForm.{Plain, Carries, IsWireForm}
use Rattle.vrx_vp8.specs.Descriptor.{vp8}
use Rattle.vrx_core.specs.machine.Machine.{Reply, ToDatagram, ToTick, ToPull, replies, reply, snapshots}
use Rattle.vrx_core.specs.honest.Sender.{SentFrame, Media, Fec, Empty, Sender, IsNoPart}
use Rattle.vrx_codec.specs.declared.part.Start.TheVariants.{Yes, No}
use Rattle.vrx_core.specs.honest.Layers.{HaveNoLayers}
use Rattle.vrx_core.specs.honest.Chain.{InChain}
use Rattle.vrx_core.specs.honest.HonestSender.{CarriedPart, IsPart, IsTrueFec, Travels, HonestSender}
use Rattle.vrx_core.specs.honest.HonestNetwork.{Origin, FromSender, Elsewhere, HonestNetwork, packets_taken}
use Rattle.vrx_rtcp.specs.declared.feedback.Feedback.{Feedback}
use Rattle.vrx_core.specs.declared.settings.Settings.{Settings}
use Rattle.vrx_core.specs.declared.event.Event.{Event}
use Rattle.vrx_core.specs.declared.event.Event.TheVariants.{Datagram, Tick, Pull}
use Rattle.vrx_core.specs.declared.reply.What.{What}
use Rattle.vrx_core.specs.declared.reply.What.TheVariants as what
use Rattle.vrx_core.specs.declared.reply.What.TheVariants.{Dropped}
use Rattle.vrx_core.specs.declared.reply.Reason.TheVariants.{NotRtp, Repeat}
use Rattle.vrx_core.specs.declared.reply.Pulled.TheVariants.{NotReady, Frame}

abbrev pub settings : Settings
settings = record { media_ssrc = 10; media_type = 96; red = None; rtx = None; from_ssrc = 11; interval = 100 }

-- no feedback is to be sent
abbrev pub no_feedback : Feedback
no_feedback = record { nack = None; pli = None }

-- a PLI alone (RFC 4585 6.3.1)
abbrev pub asks_for_key : Feedback
asks_for_key = record { nack = None; pli = Some (129 ∷ 206 ∷ 0 ∷ 2 ∷ 0 ∷ 0 ∷ 0 ∷ 11 ∷ 0 ∷ 0 ∷ 0 ∷ 10 ∷ []) }

-- a NACK of the number 65,537 alone, whose lowest 16 bits are 1 (RFC 4585 6.2.1)
abbrev pub asks_for_empty : Feedback
asks_for_empty = record {
  nack = Some (record { items = 129 ∷ 205 ∷ 0 ∷ 3 ∷ 0 ∷ 0 ∷ 0 ∷ 11 ∷ 0 ∷ 0 ∷ 0 ∷ 10 ∷ 0 ∷ 1 ∷ 0 ∷ 0 ∷ [] });
  pli =
      None;
}

-- a reply to a datagram that repairs nothing and sends no feedback
abbrev pub answered : What → Reply
answered what = ToDatagram (record { what = what; repaired = []; feedback = no_feedback })

-- a keyframe of two packets, of the sequence numbers 65535 and 0; a packet without a payload; and a frame of one packet
-- that refers to the keyframe
abbrev pub first_text : List ℕ
first_text = 128 ∷ 96 ∷ 255 ∷ 255 ∷ 0 ∷ 0 ∷ 0 ∷ 0 ∷ 0 ∷ 0 ∷ 0 ∷ 10 ∷ 16 ∷ 0 ∷ 170 ∷ []

abbrev pub second_text : List ℕ
second_text = 128 ∷ 224 ∷ 0 ∷ 0 ∷ 0 ∷ 0 ∷ 0 ∷ 0 ∷ 0 ∷ 0 ∷ 0 ∷ 10 ∷ 0 ∷ 187 ∷ []

abbrev pub third_text : List ℕ
third_text = 128 ∷ 224 ∷ 0 ∷ 2 ∷ 0 ∷ 0 ∷ 0 ∷ 9 ∷ 0 ∷ 0 ∷ 0 ∷ 10 ∷ 16 ∷ 1 ∷ 204 ∷ []

abbrev first_frame : SentFrame
first_frame = record { bytes = 0 ∷ 170 ∷ 187 ∷ []; key = true; ts = 0; layers = None; references = [] }

abbrev second_frame : SentFrame
second_frame = record { bytes = 1 ∷ 204 ∷ []; key = false; ts = 9; layers = None; references = 0 ∷ [] }

abbrev pub sender : Sender
sender = record {
  first_wire = 65535;
  frames = first_frame ∷ second_frame ∷ [];
  packets =
      Media 0 0 first_text ∷ Media 0 1 second_text ∷ Empty ∷ Media 1 0 third_text ∷ [];
}

-- what the packets carry
abbrev first_part : CarriedPart
first_part = record {
  text = first_text;
  packet = record {
    marker = false;
    pt = 96;
    seq = 65535;
    ts = 0;
    ssrc = 10;
    csrc = [];
    extension = None;
    payload =
        16 ∷ 0 ∷ 170 ∷ [];
    padding = 0;
  };
  part = record { start = Yes; key = true; layers = None; body = 0 ∷ 170 ∷ [] };
}

abbrev second_part : CarriedPart
second_part = record {
  text = second_text;
  packet = record {
    marker = true;
    pt = 96;
    seq = 0;
    ts = 0;
    ssrc = 10;
    csrc = [];
    extension = None;
    payload =
        0 ∷ 187 ∷ [];
    padding = 0;
  };
  part = record { start = No; key = false; layers = None; body = 187 ∷ [] };
}

abbrev third_part : CarriedPart
third_part = record {
  text = third_text;
  packet = record {
    marker = true;
    pt = 96;
    seq = 2;
    ts = 9;
    ssrc = 10;
    csrc = [];
    extension = None;
    payload =
        16 ∷ 1 ∷ 204 ∷ [];
    padding = 0;
  };
  part = record { start = Yes; key = false; layers = None; body = 1 ∷ 204 ∷ [] };
}

-- octets, as a test
pub are_octets : (octets : List ℕ) → list_all (λ octet. nat_lt octet 256) octets ≡ true → AreOctets octets
are_octets octets h = All-from_recursion (λ octet. octet < 256) octets (each octets h) where
  each : (os : List ℕ) → list_all (λ octet. nat_lt octet 256) os ≡ true → AllByRecursion (λ octet. octet < 256) os
  each [] h = tt
  each (o ∷ os) h = let both =
      and_parts (nat_lt o 256) (list_all (λ octet. nat_lt octet 256) os) h in (ltb-true o 256 both.0, each os both.1)

-- each packet is a part of its frame
first_is : IsPart settings vp8 sender 0 first_frame 2 0 0 first_part
first_is = record {
  sent = refl;
  media = record {
    size = omega arith;
    below = are_octets first_text refl;
    reads = refl;
    no_padding = refl;
    number = refl;
    type =
        refl;
    source = refl;
    payload = λ e. cc;
    part_reads = refl;
  };
  timestamp = refl;
  marker = (λ e. cc, λ e. absurd (omega arith));
  start = refl;
  layers = refl;
}

second_is : IsPart settings vp8 sender 0 first_frame 2 1 1 second_part
second_is = record {
  sent = refl;
  media = record {
    size = omega arith;
    below = are_octets second_text refl;
    reads = refl;
    no_padding = refl;
    number = refl;
    type =
        refl;
    source = refl;
    payload = λ e. cc;
    part_reads = refl;
  };
  timestamp = refl;
  marker = (λ e. refl, λ e. refl);
  start = λ same. omega arith;
  layers = refl;
}

third_is : IsPart settings vp8 sender 1 second_frame 1 0 3 third_part
third_is = record {
  sent = refl;
  media = record {
    size = omega arith;
    below = are_octets third_text refl;
    reads = refl;
    no_padding = refl;
    number = refl;
    type =
        refl;
    source = refl;
    payload = λ e. cc;
    part_reads = refl;
  };
  timestamp = refl;
  marker = (λ e. refl, λ e. refl);
  start = refl;
  layers = refl;
}

-- each frame travels
first_travels : Travels settings vp8 sender 0 first_frame 0 (first_part ∷ second_part ∷ [])
unfolding first_is second_is
first_travels = record {
  some = omega arith;
  each = (first_is, (second_is, tt));
  joins = refl;
  key = (λ e. (first_part, (0, omega arith, refl), refl), λ e. refl);
}

-- what is in a list of one is that one
pub only_one : {X : Type 0} (x y : X) → Contains (x ∷ []) y → x ≡ y
only_one x y c = at_place c.0 c.1 c.2 where
  at_place : (k : ℕ) → k < length (x ∷ []) → slice_index_or (x ∷ []) k y ≡ y → x ≡ y
  at_place zero within is = is
  at_place (suc k) within is = absurd (omega arith)

-- no part of it says a keyframe
no_key : (c : CarriedPart) → Contains (third_part ∷ []) c → c.part.key ≡ true → second_frame.key ≡ true
no_key c there key = ap (λ (x : CarriedPart). x.part.key) (only_one third_part c there) ∙ key

second_travels : Travels settings vp8 sender 1 second_frame 3 (third_part ∷ [])
unfolding third_is
second_travels = record {
  some = omega arith;
  each = (third_is, tt);
  joins = refl;
  key = (λ e. absurd (cc), λ p. no_key p.0 p.1 p.2);
}

-- the places and the parts of the frames
abbrev place : ℕ → ℕ
place zero = 0
place (suc f) = 3

abbrev parts : ℕ → List CarriedPart
parts zero = first_part ∷ second_part ∷ []
parts (suc f) = third_part ∷ []

-- the sender is honest
pub sender-honest : HonestSender settings vp8 sender
unfolding first_travels second_travels
sender-honest = record {
  begins = omega arith;
  place = place;
  parts = parts;
  travels = elim [ zero ↦ first_travels | suc f ↦ travels f ];
  in_order = order;
  no_other = others;
  parity = no_parity;
  from_key = refl;
  references = elim [ zero ↦ none | suc f ↦ chains f ];
  layers = inr no_layers;
  apart = elim [ zero ↦ λ e. omega arith | suc f ↦ last f ];
} where
  travels : (f : ℕ) → IfSome (slice_get sender.frames (suc f))
      (λ frame. Travels settings vp8 sender (suc f) frame (place (suc f)) (parts (suc f)))
  travels zero = second_travels
  travels (suc f) = tt

  order : (f g : ℕ) → f < g → g < length sender.frames → place f + length (parts f) ≤ place g
  order f zero less within = absurd (omega arith)
  order zero (suc g) less within = omega arith
  order (suc f) (suc g) less within = absurd (omega arith)

  others : (i : ℕ) → i < length sender.packets →
      IsSomeAnd (slice_get sender.packets i) IsNoPart
      ⊎ ((f : ℕ) × (f < length sender.frames) × (place f ≤ i) × (i < place f + length (parts f)))
  others zero within = inr (0, omega arith, omega arith, omega arith)
  others (suc zero) within = inr (0, omega arith, omega arith, omega arith)
  others (suc (suc zero)) within = inl tt
  others (suc (suc (suc i))) within = inr (1, omega arith, omega arith, omega arith)

  no_parity : (i : ℕ) (payload : List ℕ) → slice_get sender.packets i ≡ Some (Fec payload) →
      IsTrueFec sender i payload
  no_parity zero payload is = absurd (cc)
  no_parity (suc zero) payload is = absurd (cc)
  no_parity (suc (suc zero)) payload is = absurd (cc)
  no_parity (suc (suc (suc zero))) payload is = absurd (cc)
  no_parity (suc (suc (suc (suc i)))) payload is = absurd (cc)

  none : All (λ g. InChain sender 0 g) []
  none = All-nil (λ g. InChain sender 0 g)

  chains : (f : ℕ) → IfSome (slice_get sender.frames (suc f))
      (λ frame. All (λ g. InChain sender (suc f) g) frame.references)
  chains zero = All-from_recursion (λ g. InChain sender 1 g) (0 ∷ []) (([], (refl, refl)), tt)
  chains (suc f) = tt

  no_layers : HaveNoLayers sender.frames
  no_layers zero = refl
  no_layers (suc zero) = refl
  no_layers (suc (suc f)) = tt

  last : (f : ℕ) → IfSome (slice_get sender.frames (suc f))
      (λ frame. IfSome (slice_get sender.frames (suc f + 1)) (λ after. frame.ts ≢ after.ts))
  last zero = tt
  last (suc f) = tt

-- octets that read as a packet carry it
pub carry : (octets : List ℕ) (packet : Packet) → nat_le (length octets) MOST_OCTETS ≡ true →
    list_all (λ octet. nat_lt octet 256) octets ≡ true → read octets ≡ Some packet →
    Carries octets (without_padding packet)
carry octets packet short small reads = record {
  size = leb-true (length octets) MOST_OCTETS short;
  below = are_octets octets small;
  packet = packet;
  reads = reads;
  unpadded = refl;
}

-- octets that carry a media packet are it, with padding or without
pub media_form : (number frame part : ℕ) (carried : CarriedPart) (octets : List ℕ) →
    read carried.text ≡ Some carried.packet → Carries octets carried.packet →
    IsWireForm settings number (Media frame part carried.text) octets
media_form number frame part carried octets reads carries = (
  carried.packet,
  reads,
  record { how = Plain; wire = carried.packet; travels = refl; carries = carries },
)

pub first_plain : IsWireForm settings 65535 (Media 0 0 first_text) first_text
first_plain = media_form 65535 0 0 first_part first_text refl (carry first_text first_part.packet refl refl refl)

pub second_plain : IsWireForm settings 0 (Media 0 1 second_text) second_text
second_plain = media_form 0 0 1 second_part second_text refl (carry second_text second_part.packet refl refl refl)

pub third_plain : IsWireForm settings 2 (Media 1 0 third_text) third_text
third_plain = media_form 2 1 0 third_part third_text refl (carry third_text third_part.packet refl refl refl)

-- the third packet with padding of three octets
abbrev third_padded : List ℕ
third_padded = 160 ∷ 224 ∷ 0 ∷ 2 ∷ 0 ∷ 0 ∷ 0 ∷ 9 ∷ 0 ∷ 0 ∷ 0 ∷ 10 ∷ 16 ∷ 1 ∷ 204 ∷ 7 ∷ 7 ∷ 3 ∷ []

third_with_padding : IsWireForm settings 2 (Media 1 0 third_text) third_padded
third_with_padding = media_form 2 1 0 third_part third_padded refl
    (carry third_padded (record third_part.packet { padding = 3 }) refl refl refl)

-- the empty packet, and its octets with padding of four octets
abbrev empty_packet : Packet
empty_packet = record {
  marker = false;
  pt = 96;
  seq = 1;
  ts = 5;
  ssrc = 10;
  csrc = [];
  extension = None;
  payload = [];
  padding = 0;
}

abbrev pub empty_padded : List ℕ
empty_padded = 160 ∷ 96 ∷ 0 ∷ 1 ∷ 0 ∷ 0 ∷ 0 ∷ 5 ∷ 0 ∷ 0 ∷ 0 ∷ 10 ∷ 0 ∷ 0 ∷ 0 ∷ 4 ∷ []

empty_with_padding : IsWireForm settings 1 Empty empty_padded
empty_with_padding = (
  empty_packet,
  record { number_is = refl; type = refl; source = refl; payload = refl },
  inl (record {
    how = Plain;
    wire = empty_packet;
    travels = refl;
    carries = carry empty_padded (record empty_packet { padding = 4 }) refl refl refl;
  }),
)

-- the last packet of the first frame, octets that are no packet, a pull, a tick, the first packet, a repeat, a pull, the
-- last frame's packet with padding, the same without, a pull, the empty packet, and a pull
abbrev events : List Event
events =
    Datagram 0 second_text ∷ Datagram 1 (7 ∷ []) ∷ Pull 2 ∷ Tick 2 ∷ Datagram 3 first_text ∷ Datagram 3 second_text
    ∷ Pull 4
    ∷ Datagram 5 third_padded ∷ Datagram 6 third_text ∷ Pull 7 ∷ Datagram 8 empty_padded ∷ Pull 9 ∷ []

abbrev origins : List Origin
origins =
    FromSender 1 ∷ Elsewhere ∷ Elsewhere ∷ Elsewhere ∷ FromSender 0 ∷ FromSender 1 ∷ Elsewhere
    ∷ FromSender 3 ∷ FromSender 3 ∷ Elsewhere ∷ FromSender 2 ∷ Elsewhere ∷ []

-- the network is honest
pub network-honest : HonestNetwork settings vp8 sender [] [] events origins
unfolding snapshots packets_taken repairs_in
network-honest = (
  (second_plain, tt),
  tt,
  (
    refl,
    tt,
    (
      tt,
      tt,
      (
        tt,
        tt,
        (
          (first_plain, (omega arith, omega arith)),
          tt,
          (
            (second_plain, (omega arith, omega arith)),
            tt,
            (
              tt,
              tt,
              (
                (third_with_padding, (omega arith, omega arith)),
                tt,
                (
                  (third_plain, (omega arith, omega arith)),
                  tt,
                  (tt, tt, ((empty_with_padding, (omega arith, omega arith)), tt, (tt, tt, tt))),
                ),
              ),
            ),
          ),
        ),
      ),
    ),
  ),
)

-- The tick asks for a keyframe, since a packet was taken and no keyframe completed. The padded datagram is taken, and
-- asks for the empty packet before it; the same without padding is a repeat. The last frame waits until the empty packet
-- came, which is passed over; and the frame has no padding octet
pub padded_taken : replies settings vp8 [] events
    ≡ answered (what.Media 65536) ∷ answered (Dropped NotRtp) ∷ ToPull NotReady ∷ ToTick asks_for_key ∷ answered
    (what.Media 65535) ∷ answered (Dropped Repeat)
    ∷ ToPull (Frame (record { first = 65535; last = 65536; ts = 0; key = true; bytes = 0 ∷ 170 ∷ 187 ∷ [] }))
    ∷ ToDatagram (record { what = what.Media 65538; repaired = []; feedback = asks_for_empty }) ∷ answered
    (Dropped Repeat) ∷ ToPull NotReady
    ∷ answered (what.Empty 65537) ∷ ToPull
    (Frame (record { first = 65538; last = 65538; ts = 9; key = false; bytes = 1 ∷ 204 ∷ [] })) ∷ []
unfolding replies reply snapshots repairs_in
padded_taken = refl
