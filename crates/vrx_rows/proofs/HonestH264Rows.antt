-- An honest sender of H.264 and an honest network, worked by hand: the premises of the law can be met by the codec
-- whose packets mostly leave it to the packet before whether a frame begins. It sends a keyframe as one aggregate, a
-- frame as two fragments, an empty packet, and a frame as one unit.
use Rattle.std.proofs.Common.{◌≢◌, ◌≤◌, ◌<◌, ◌≡◌, ◌∙◌, ◌⊎◌, sym, ap, inl, inr, Contains, All, ℕ, zero, suc, ◌+◌, true, false, List, [], ◌∷◌, length, None, Some, IfSome, IsSomeAnd, slice_get, refl, arith}
use Rattle.std.specs.List.{AllByRecursion}
use Rattle.std.proofs.lemmas.List.Elements.{All-nil, All-contains, All-from_recursion}
use Rattle.vrx_rtp.specs.Packet.{Packet}
use Rattle.vrx_codec.specs.declared.part.Start.TheVariants.{Yes, ByNeighbour}
use Rattle.vrx_h264.specs.Aggregate.{units_of}
use Rattle.vrx_h264.specs.AccessUnit.{h264}
use Rattle.vrx_repair.specs.Plan.{repairs_in}
use Rattle.vrx_rtcp.specs.declared.feedback.Feedback.{Feedback}
use Rattle.vrx_core.specs.machine.SettingsFault.{fault_of}
use Rattle.vrx_core.specs.machine.Machine.{Reply, ToDatagram, ToPull, replies, reply, snapshots}
use Rattle.vrx_core.specs.honest.Sender.{SentFrame, Media, Fec, Empty, Sender, IsNoPart}
use Rattle.vrx_core.specs.honest.WireForm.{Plain, IsWireForm}
use Rattle.vrx_core.specs.honest.Layers.{HaveNoLayers}
use Rattle.vrx_core.specs.honest.Chain.{InChain}
use Rattle.vrx_core.specs.honest.HonestCall.{frames_of}
use Rattle.vrx_core.specs.honest.HonestSender.{CarriedPart, IsPart, IsTrueFec, Travels, HonestSender}
use Rattle.vrx_core.specs.honest.HonestNetwork.{Origin, FromSender, Elsewhere, HonestNetwork, packets_taken}
use Rattle.vrx_core.specs.declared.event.Event.{Event}
use Rattle.vrx_core.specs.declared.event.Event.TheVariants.{Datagram, Pull}
use Rattle.vrx_core.specs.declared.reply.What.{What}
use Rattle.vrx_core.specs.declared.reply.What.TheVariants as what
use Rattle.vrx_core.specs.declared.reply.What.TheVariants.{Dropped}
use Rattle.vrx_core.specs.declared.reply.Reason.TheVariants.{Repeat}
use Rattle.vrx_core.specs.declared.reply.Pulled.TheVariants.{NotReady, Frame}
use Rattle.vrx_rows.proofs.MemberLemmas.{not_empty}
use Rattle.vrx_rows.proofs.HonestRows.{settings, answered, are_octets, carry, media_form}

-- the settings of the rows of VP8 have no fault
pub no_fault : fault_of settings ≡ None
no_fault = refl

-- a STAP-A of a sequence parameter set, a picture parameter set and an IDR slice (RFC 6184 5.7.1); two FU-A of
-- another slice, the first with S and the second with E (RFC 6184 5.8); and such a slice as it is (RFC 6184 5.6)
abbrev aggregate : List ℕ
aggregate = 0x78 ∷ 0 ∷ 2 ∷ 0x67 ∷ 0x42 ∷ 0 ∷ 2 ∷ 0x68 ∷ 0xce ∷ 0 ∷ 2 ∷ 0x65 ∷ 0xb1 ∷ []

abbrev front_cut : List ℕ
front_cut = 0x7c ∷ 0x81 ∷ 0xb2 ∷ []

abbrev back_cut : List ℕ
back_cut = 0x7c ∷ 0x41 ∷ 0xb3 ∷ []

abbrev slice : List ℕ
slice = 0x61 ∷ 0xb4 ∷ []

-- the packets of these payloads, and an empty one before the last, which has one octet of padding
abbrev first_text : List ℕ
first_text = 128 ∷ 224 ∷ 0 ∷ 7 ∷ 0 ∷ 0 ∷ 0 ∷ 0 ∷ 0 ∷ 0 ∷ 0 ∷ 10 ∷ aggregate

abbrev second_text : List ℕ
second_text = 128 ∷ 96 ∷ 0 ∷ 8 ∷ 0 ∷ 0 ∷ 0 ∷ 9 ∷ 0 ∷ 0 ∷ 0 ∷ 10 ∷ front_cut

abbrev third_text : List ℕ
third_text = 128 ∷ 224 ∷ 0 ∷ 9 ∷ 0 ∷ 0 ∷ 0 ∷ 9 ∷ 0 ∷ 0 ∷ 0 ∷ 10 ∷ back_cut

abbrev empty_octets : List ℕ
empty_octets = 160 ∷ 96 ∷ 0 ∷ 10 ∷ 0 ∷ 0 ∷ 0 ∷ 9 ∷ 0 ∷ 0 ∷ 0 ∷ 10 ∷ 1 ∷ []

abbrev fourth_text : List ℕ
fourth_text = 128 ∷ 224 ∷ 0 ∷ 11 ∷ 0 ∷ 0 ∷ 0 ∷ 18 ∷ 0 ∷ 0 ∷ 0 ∷ 10 ∷ slice

-- the frames: the units, each after a start code (H.264 B.1.1)
abbrev first_bytes : List ℕ
first_bytes = 0 ∷ 0 ∷ 0 ∷ 1 ∷ 0x67 ∷ 0x42 ∷ 0 ∷ 0 ∷ 0 ∷ 1 ∷ 0x68 ∷ 0xce ∷ 0 ∷ 0 ∷ 0 ∷ 1 ∷ 0x65 ∷ 0xb1 ∷ []

abbrev second_bytes : List ℕ
second_bytes = 0 ∷ 0 ∷ 0 ∷ 1 ∷ 0x61 ∷ 0xb2 ∷ 0xb3 ∷ []

abbrev third_bytes : List ℕ
third_bytes = 0 ∷ 0 ∷ 0 ∷ 1 ∷ 0x61 ∷ 0xb4 ∷ []

abbrev first_frame : SentFrame
first_frame = record { bytes = first_bytes; key = true; ts = 0; layers = None; references = [] }

abbrev second_frame : SentFrame
second_frame = record { bytes = second_bytes; key = false; ts = 9; layers = None; references = 0 ∷ [] }

abbrev third_frame : SentFrame
third_frame = record { bytes = third_bytes; key = false; ts = 18; layers = None; references = 1 ∷ [] }

abbrev pub sender : Sender
sender = record {
  first_wire = 7;
  frames = first_frame ∷ second_frame ∷ third_frame ∷ [];
  packets = Media 0 0 first_text ∷ Media 1 0 second_text ∷ Media 1 1 third_text ∷ Empty ∷ Media 2 0 fourth_text ∷ [];
}

-- what the packets carry: only the aggregate says that a frame begins with it
abbrev first_part : CarriedPart
first_part = record {
  text = first_text;
  packet = record {
    marker = true;
    pt = 96;
    seq = 7;
    ts = 0;
    ssrc = 10;
    csrc = [];
    extension = None;
    payload = aggregate;
    padding = 0;
  };
  part = record { start = Yes; key = true; layers = None; body = aggregate };
}

abbrev second_part : CarriedPart
second_part = record {
  text = second_text;
  packet = record {
    marker = false;
    pt = 96;
    seq = 8;
    ts = 9;
    ssrc = 10;
    csrc = [];
    extension = None;
    payload = front_cut;
    padding = 0;
  };
  part = record { start = ByNeighbour; key = false; layers = None; body = front_cut };
}

abbrev third_part : CarriedPart
third_part = record {
  text = third_text;
  packet = record {
    marker = true;
    pt = 96;
    seq = 9;
    ts = 9;
    ssrc = 10;
    csrc = [];
    extension = None;
    payload = back_cut;
    padding = 0;
  };
  part = record { start = ByNeighbour; key = false; layers = None; body = back_cut };
}

abbrev fourth_part : CarriedPart
fourth_part = record {
  text = fourth_text;
  packet = record {
    marker = true;
    pt = 96;
    seq = 11;
    ts = 18;
    ssrc = 10;
    csrc = [];
    extension = None;
    payload = slice;
    padding = 0;
  };
  part = record { start = ByNeighbour; key = false; layers = None; body = slice };
}

-- each packet is a part of its frame
first_is : IsPart settings h264 sender 0 first_frame 1 0 0 first_part
unfolding units_of
first_is = record {
  sent = refl;
  media = record {
    size = omega arith;
    below = are_octets first_text refl;
    reads = refl;
    no_padding = refl;
    number = refl;
    type = refl;
    source = refl;
    payload = λ e. cc;
    part_reads = refl;
  };
  timestamp = refl;
  marker = (λ e. refl, λ e. refl);
  start = refl;
  layers = refl;
}

second_is : IsPart settings h264 sender 1 second_frame 2 0 1 second_part
second_is = record {
  sent = refl;
  media = record {
    size = omega arith;
    below = are_octets second_text refl;
    reads = refl;
    no_padding = refl;
    number = refl;
    type = refl;
    source = refl;
    payload = λ e. cc;
    part_reads = refl;
  };
  timestamp = refl;
  marker = (λ e. cc, λ e. absurd (omega arith));
  start = tt;
  layers = refl;
}

third_is : IsPart settings h264 sender 1 second_frame 2 1 2 third_part
third_is = record {
  sent = refl;
  media = record {
    size = omega arith;
    below = are_octets third_text refl;
    reads = refl;
    no_padding = refl;
    number = refl;
    type = refl;
    source = refl;
    payload = λ e. cc;
    part_reads = refl;
  };
  timestamp = refl;
  marker = (λ e. refl, λ e. refl);
  start = tt;
  layers = refl;
}

fourth_is : IsPart settings h264 sender 2 third_frame 1 0 4 fourth_part
fourth_is = record {
  sent = refl;
  media = record {
    size = omega arith;
    below = are_octets fourth_text refl;
    reads = refl;
    no_padding = refl;
    number = refl;
    type = refl;
    source = refl;
    payload = λ e. cc;
    part_reads = refl;
  };
  timestamp = refl;
  marker = (λ e. refl, λ e. refl);
  start = tt;
  layers = refl;
}

-- a part says no keyframe; and of parts of which none says one, each says none
abbrev SaysNoKey : CarriedPart → Type 0
SaysNoKey carried = carried.part.key ≡ false

no_key : (parts : List CarriedPart) (c : CarriedPart) → AllByRecursion SaysNoKey parts → Contains parts c →
    c.part.key ≡ true → false ≡ true
no_key parts c none there key = sym (All-contains SaysNoKey parts c (All-from_recursion SaysNoKey parts none) there)
    ∙ key

-- each frame travels
first_travels : Travels settings h264 sender 0 first_frame 0 (first_part ∷ [])
unfolding first_is units_of
first_travels = record {
  some = omega arith;
  each = (first_is, tt);
  joins = refl;
  key = (λ e. (first_part, (0, omega arith, refl), refl), λ e. refl);
}

second_travels : Travels settings h264 sender 1 second_frame 1 (second_part ∷ third_part ∷ [])
unfolding second_is third_is
second_travels = record {
  some = omega arith;
  each = (second_is, (third_is, tt));
  joins = refl;
  key = (λ e. absurd (cc), λ p. no_key (second_part ∷ third_part ∷ []) p.0 (refl, (refl, tt)) p.1 p.2);
}

third_travels : Travels settings h264 sender 2 third_frame 4 (fourth_part ∷ [])
unfolding fourth_is
third_travels = record {
  some = omega arith;
  each = (fourth_is, tt);
  joins = refl;
  key = (λ e. absurd (cc), λ p. no_key (fourth_part ∷ []) p.0 (refl, tt) p.1 p.2);
}

-- the places and the parts of the frames
abbrev place : ℕ → ℕ
place zero = 0
place (suc zero) = 1
place (suc (suc f)) = 4

abbrev parts : ℕ → List CarriedPart
parts zero = first_part ∷ []
parts (suc zero) = second_part ∷ third_part ∷ []
parts (suc (suc f)) = fourth_part ∷ []

-- the sender is honest
pub sender-honest : HonestSender settings h264 sender
unfolding first_travels second_travels third_travels
sender-honest = record {
  begins = omega arith;
  place = place;
  parts = parts;
  travels = travels;
  in_order = order;
  no_other = others;
  parity = no_parity;
  from_key = refl;
  references = chains;
  layers = inr no_layers;
  apart = different;
} where
  travels : (f : ℕ) → IfSome (slice_get sender.frames f)
      (λ frame. Travels settings h264 sender f frame (place f) (parts f))
  travels zero = first_travels
  travels (suc zero) = second_travels
  travels (suc (suc zero)) = third_travels
  travels (suc (suc (suc f))) = tt

  order : (f g : ℕ) → f < g → g < length sender.frames → place f + length (parts f) ≤ place g
  order f zero less within = absurd (omega arith)
  order zero (suc zero) less within = omega arith
  order zero (suc (suc g)) less within = omega arith
  order (suc f) (suc zero) less within = absurd (omega arith)
  order (suc zero) (suc (suc g)) less within = omega arith
  order (suc (suc f)) (suc (suc g)) less within = absurd (omega arith)

  others : (i : ℕ) → i < length sender.packets →
      IsSomeAnd (slice_get sender.packets i) IsNoPart
      ⊎ ((f : ℕ) × (f < length sender.frames) × (place f ≤ i) × (i < place f + length (parts f)))
  others zero within = inr (0, omega arith, omega arith, omega arith)
  others (suc zero) within = inr (1, omega arith, omega arith, omega arith)
  others (suc (suc zero)) within = inr (1, omega arith, omega arith, omega arith)
  others (suc (suc (suc zero))) within = inl tt
  others (suc (suc (suc (suc i)))) within = inr (2, omega arith, omega arith, omega arith)

  no_parity : (i : ℕ) (payload : List ℕ) → slice_get sender.packets i ≡ Some (Fec payload) →
      IsTrueFec sender i payload
  no_parity zero payload is = absurd (cc)
  no_parity (suc zero) payload is = absurd (cc)
  no_parity (suc (suc zero)) payload is = absurd (cc)
  no_parity (suc (suc (suc zero))) payload is = absurd (cc)
  no_parity (suc (suc (suc (suc zero)))) payload is = absurd (cc)
  no_parity (suc (suc (suc (suc (suc i))))) payload is = absurd (cc)

  chains : (f : ℕ) → IfSome (slice_get sender.frames f) (λ frame. All (λ g. InChain sender f g) frame.references)
  chains zero = All-nil (λ g. InChain sender 0 g)
  chains (suc zero) = All-from_recursion (λ g. InChain sender 1 g) (0 ∷ []) (([], (refl, refl)), tt)
  chains (suc (suc zero)) = All-from_recursion (λ g. InChain sender 2 g) (1 ∷ []) (([], (refl, refl)), tt)
  chains (suc (suc (suc f))) = tt

  no_layers : HaveNoLayers sender.frames
  no_layers zero = refl
  no_layers (suc zero) = refl
  no_layers (suc (suc zero)) = refl
  no_layers (suc (suc (suc f))) = tt

  different : (f : ℕ) → IfSome (slice_get sender.frames f)
      (λ frame. IfSome (slice_get sender.frames (f + 1)) (λ after. frame.ts ≢ after.ts))
  different zero = λ e. omega arith
  different (suc zero) = λ e. omega arith
  different (suc (suc zero)) = tt
  different (suc (suc (suc f))) = tt

-- the packets travel as they are
first_plain : IsWireForm settings 7 (Media 0 0 first_text) first_text
first_plain = media_form 7 0 0 first_part first_text refl (carry first_text first_part.packet refl refl refl)

second_plain : IsWireForm settings 8 (Media 1 0 second_text) second_text
second_plain = media_form 8 1 0 second_part second_text refl (carry second_text second_part.packet refl refl refl)

third_plain : IsWireForm settings 9 (Media 1 1 third_text) third_text
third_plain = media_form 9 1 1 third_part third_text refl (carry third_text third_part.packet refl refl refl)

fourth_plain : IsWireForm settings 11 (Media 2 0 fourth_text) fourth_text
fourth_plain = media_form 11 2 0 fourth_part fourth_text refl (carry fourth_text fourth_part.packet refl refl refl)

-- the empty packet, without its padding
abbrev empty_packet : Packet
empty_packet = record {
  marker = false;
  pt = 96;
  seq = 10;
  ts = 9;
  ssrc = 10;
  csrc = [];
  extension = None;
  payload = [];
  padding = 0;
}

empty_plain : IsWireForm settings 10 Empty empty_octets
empty_plain = (
  empty_packet,
  record { number_is = refl; type = refl; source = refl; payload = refl },
  inl (record {
    how = Plain;
    wire = empty_packet;
    travels = refl;
    carries = carry empty_octets (record empty_packet { padding = 1 }) refl refl refl;
  }),
)

-- the aggregate; the second fragment, the same again, and the first; two pulls; the last frame's packet, and a pull;
-- the empty packet, and two pulls
abbrev pub events : List Event
events =
    Datagram 0 first_text ∷ Datagram 1 third_text ∷ Datagram 2 third_text ∷ Datagram 3 second_text
    ∷ Pull 4 ∷ Pull 5
    ∷ Datagram 6 fourth_text ∷ Pull 7
    ∷ Datagram 8 empty_octets ∷ Pull 9 ∷ Pull 10 ∷ []

abbrev pub origins : List Origin
origins =
    FromSender 0 ∷ FromSender 2 ∷ FromSender 2 ∷ FromSender 1
    ∷ Elsewhere ∷ Elsewhere
    ∷ FromSender 4 ∷ Elsewhere
    ∷ FromSender 3 ∷ Elsewhere ∷ Elsewhere ∷ []

-- the network is honest
pub network-honest : HonestNetwork settings h264 sender [] [] events origins
unfolding snapshots packets_taken repairs_in units_of
network-honest = (
  (first_plain, tt),
  tt,
  (
    (third_plain, (omega arith, omega arith)),
    tt,
    (
      (third_plain, (omega arith, omega arith)),
      tt,
      (
        (second_plain, (omega arith, omega arith)),
        tt,
        (
          tt,
          tt,
          (
            tt,
            tt,
            (
              (fourth_plain, (omega arith, omega arith)),
              tt,
              (tt, tt, ((empty_plain, (omega arith, omega arith)), tt, (tt, tt, (tt, tt, tt)))),
            ),
          ),
        ),
      ),
    ),
  ),
)

-- a NACK of one number alone, whose lowest 16 bits are below 256 (RFC 4585 6.2.1)
abbrev asks_for : ℕ → Feedback
asks_for low = record {
  nack = Some (record { items = 129 ∷ 205 ∷ 0 ∷ 3 ∷ 0 ∷ 0 ∷ 0 ∷ 11 ∷ 0 ∷ 0 ∷ 0 ∷ 10 ∷ 0 ∷ low ∷ 0 ∷ 0 ∷ [] });
  pli = None;
}

-- a reply to a packet that is taken and asks for this number
abbrev asking : What → ℕ → Reply
asking what low = ToDatagram (record { what = what; repaired = []; feedback = asks_for low })

-- The second fragment asks for the first, and is a repeat when it comes again. The first fragment begins its frame,
-- since the keyframe ends right before it: both frames go out, the keyframe first. The last packet asks for the empty
-- one, and begins its frame only once that came and is passed over.
abbrev answers : List Reply
answers = answered (what.Media 65543)
    ∷ asking (what.Media 65545) 8
    ∷ answered (Dropped Repeat)
    ∷ answered (what.Media 65544)
    ∷ ToPull (Frame (record { first = 65543; last = 65543; ts = 0; key = true; bytes = first_bytes }))
    ∷ ToPull (Frame (record { first = 65544; last = 65545; ts = 9; key = false; bytes = second_bytes }))
    ∷ asking (what.Media 65547) 10
    ∷ ToPull NotReady
    ∷ answered (what.Empty 65546)
    ∷ ToPull (Frame (record { first = 65547; last = 65547; ts = 18; key = false; bytes = third_bytes }))
    ∷ ToPull NotReady
    ∷ []

pub frames_pulled : replies settings h264 [] events ≡ answers
unfolding replies reply snapshots repairs_in units_of
frames_pulled = refl

pub some_pulled : frames_of (replies settings h264 [] events) ≢ []
some_pulled none = not_empty _ _ (ap frames_of (sym frames_pulled) ∙ none)
