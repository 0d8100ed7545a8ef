-- Whole replays and an inspection, worked by hand: the definitions on captures.
use Rattle.std.proofs.Common.{◌≡◌, ◌<◌, All, ℕ, zero, suc, List, [], ◌∷◌, ◌++◌, codes, ap, refl, sym, true, false, Some, None, slice_get, arith, inr}
use Rattle.std.specs.Prelude.{nat_lt}
use Rattle.std.specs.List.{AllByRecursion, list_all}
use Rattle.std.proofs.lemmas.Bool.{and_parts, ltb-true}
use Rattle.std.specs.Fmt.{digits}
use Rattle.std.proofs.lemmas.List.Elements.{All-nil, All-from_recursion}
use Rattle.vrx_vp8.specs.Descriptor.{vp8}
use Rattle.vrx_repair.specs.Plan.{repairs_in}
use Rattle.vrx_core.specs.machine.Machine.{snapshots, reply}
use Rattle.vrx_core.specs.honest.Sender.{SentFrame, Media, Fec, Sender}
use Rattle.vrx_codec.specs.declared.part.Start.TheVariants.{Yes, No}
use Rattle.vrx_core.specs.honest.Layers.{HaveNoLayers}
use Rattle.vrx_core.specs.honest.Chain.{InChain}
use Rattle.vrx_core.specs.honest.HonestSender.{CarriedPart, IsMedia, IsPart, IsTrueFec, Travels, HonestSender}
use Rattle.vrx_core.specs.honest.HonestNetwork.{FromSender, Elsewhere, packets_taken}
use Rattle.vrx_core.specs.honest.WireForm.{Plain, IsWireForm}
use Rattle.vrx_core.specs.declared.settings.Settings.{Settings}
use Rattle.vrx_text.specs.Transcript.{line_feed}
use Rattle.vrx_text.proofs.OnLiterals.{text_on_literals}
use Rattle.vrx_program.specs.HonestLines.{IsHonestCapture}
use Rattle.vrx_text.specs.Inspection.{inspection}
use Rattle.vrx_program.specs.Inspect.{is_head, inspections, inspection_outcome}
use Rattle.vrx_program.specs.Replay.{settings_of, replay_outcome}
use Rattle.vrx_program.specs.declared.status.Status.TheVariants.{Done, BadCapture}

abbrev head : List ℕ
head = codes "vrx 1 codec=vp8 ssrc=0000000a pt=96 from=0000000b" ++ line_feed

-- settings alone
pub settings_alone : replay_outcome head ≡ record { status = Done; text = []; last = [] }
unfolding text_on_literals settings_of
settings_alone = refl

-- a pull before any packet
pub pull_first : replay_outcome (head ++ codes "p 0" ++ line_feed)
    ≡ record { status = Done; text = codes "2 notready" ++ line_feed; last = [] }
unfolding text_on_literals settings_of snapshots reply digits repairs_in
pull_first = refl

-- one keyframe
abbrev keyframe_capture : List ℕ
keyframe_capture = head ++ codes "d 0 80e00001000000000000000a1000aa" ++ line_feed ++ codes "p 1" ++ line_feed

pub one_keyframe : replay_outcome keyframe_capture ≡ record {
  status = Done;
  text = codes "2 media 65537" ++ line_feed ++ codes "3 frame 65537 65537 key 0 00aa" ++ line_feed;
  last = [];
}
unfolding text_on_literals settings_of snapshots reply digits repairs_in
one_keyframe = refl

-- one keyframe in three packets, the last one first: the pull finds 65537 to 65539, and joins what lies behind the
-- descriptors
abbrev parts_capture : List ℕ
parts_capture = head ++ codes "d 0 80e00003000000000000000a00cc" ++ line_feed
    ++ codes "d 0 80600001000000000000000a1000aa" ++ line_feed ++ codes "d 0 80600002000000000000000a00bb"
    ++ line_feed ++ codes "p 1" ++ line_feed

pub parts_joined : replay_outcome parts_capture ≡ record {
  status = Done;
  text = codes "2 media 65539" ++ line_feed ++ codes "3 media 65537" ++ line_feed ++ codes "4 media 65538"
      ++ line_feed ++ codes "5 frame 65537 65539 key 0 00aabbcc" ++ line_feed;
  last = [];
}
unfolding text_on_literals settings_of snapshots reply digits repairs_in
parts_joined = refl

-- equal SSRCs are refused, and an empty capture has no settings
pub same_ssrc : replay_outcome (codes "vrx 1 codec=vp8 ssrc=0000000a pt=96 from=0000000a")
    ≡ record { status = BadCapture; text = []; last = codes "error line 1 settings" ++ line_feed }
unfolding text_on_literals settings_of digits
same_ssrc = refl

pub empty_capture : replay_outcome []
    ≡ record { status = BadCapture; text = []; last = codes "error line 1 settings" ++ line_feed }
unfolding text_on_literals settings_of digits
empty_capture = refl

-- the capture of one keyframe in three packets is honest: the condition of the law can be met
abbrev first_text : List ℕ
first_text = 128 ∷ 96 ∷ 0 ∷ 1 ∷ 0 ∷ 0 ∷ 0 ∷ 0 ∷ 0 ∷ 0 ∷ 0 ∷ 10 ∷ 16 ∷ 0 ∷ 170 ∷ []

abbrev second_text : List ℕ
second_text = 128 ∷ 96 ∷ 0 ∷ 2 ∷ 0 ∷ 0 ∷ 0 ∷ 0 ∷ 0 ∷ 0 ∷ 0 ∷ 10 ∷ 0 ∷ 187 ∷ []

abbrev third_text : List ℕ
third_text = 128 ∷ 224 ∷ 0 ∷ 3 ∷ 0 ∷ 0 ∷ 0 ∷ 0 ∷ 0 ∷ 0 ∷ 0 ∷ 10 ∷ 0 ∷ 204 ∷ []

abbrev keyframe : SentFrame
keyframe = record { bytes = 0 ∷ 170 ∷ 187 ∷ 204 ∷ []; key = true; ts = 0; layers = None; references = [] }

abbrev sender : Sender
sender = record {
  first_wire = 1;
  frames = keyframe ∷ [];
  packets =
      Media 0 0 first_text ∷ Media 0 1 second_text ∷ Media 0 2 third_text ∷ [];
}

abbrev settings : Settings
settings = record { media_ssrc = 10; media_type = 96; red = None; rtx = None; from_ssrc = 11; interval = 100 }

-- what the packets carry
abbrev first_part : CarriedPart
first_part = record {
  text = first_text;
  packet = record {
    marker = false;
    pt = 96;
    seq = 1;
    ts = 0;
    ssrc = 10;
    csrc = [];
    extension = None;
    payload =
        16 ∷ 0 ∷ 170 ∷ [];
    padding = 0;
  };
  part = record { start = Yes; key = true; layers = None; body = 0 ∷ 170 ∷ [] };
}

abbrev second_part : CarriedPart
second_part = record {
  text = second_text;
  packet = record {
    marker = false;
    pt = 96;
    seq = 2;
    ts = 0;
    ssrc = 10;
    csrc = [];
    extension = None;
    payload =
        0 ∷ 187 ∷ [];
    padding = 0;
  };
  part = record { start = No; key = false; layers = None; body = 187 ∷ [] };
}

abbrev third_part : CarriedPart
third_part = record {
  text = third_text;
  packet = record {
    marker = true;
    pt = 96;
    seq = 3;
    ts = 0;
    ssrc = 10;
    csrc = [];
    extension = None;
    payload =
        0 ∷ 204 ∷ [];
    padding = 0;
  };
  part = record { start = No; key = false; layers = None; body = 204 ∷ [] };
}

-- octets, as a test
are_octets : (octets : List ℕ) → list_all (λ octet. nat_lt octet 256) octets ≡ true →
    All (λ octet. octet < 256) octets
are_octets octets h = All-from_recursion (λ octet. octet < 256) octets (each octets h) where
  each : (os : List ℕ) → list_all (λ octet. nat_lt octet 256) os ≡ true → AllByRecursion (λ octet. octet < 256) os
  each [] h = tt
  each (o ∷ os) h = let both =
      and_parts (nat_lt o 256) (list_all (λ octet. nat_lt octet 256) os) h in (ltb-true o 256 both.0, each os both.1)

-- each packet is a part of the frame
first_is : IsPart settings vp8 sender 0 keyframe 3 0 0 first_part
first_is = record {
  sent = refl;
  media = record {
    size = omega arith;
    below = are_octets first_text refl;
    reads = refl;
    no_padding = refl;
    number = refl;
    type =
        refl;
    source = refl;
    payload = λ e. cc;
    part_reads = refl;
  };
  timestamp = refl;
  marker = (λ e. cc, λ e. absurd (omega arith));
  start = refl;
  layers = refl;
}

second_is : IsPart settings vp8 sender 0 keyframe 3 1 1 second_part
second_is = record {
  sent = refl;
  media = record {
    size = omega arith;
    below = are_octets second_text refl;
    reads = refl;
    no_padding = refl;
    number = refl;
    type =
        refl;
    source = refl;
    payload = λ e. cc;
    part_reads = refl;
  };
  timestamp = refl;
  marker = (λ e. cc, λ e. absurd (omega arith));
  start = λ same. omega arith;
  layers = refl;
}

third_is : IsPart settings vp8 sender 0 keyframe 3 2 2 third_part
third_is = record {
  sent = refl;
  media = record {
    size = omega arith;
    below = are_octets third_text refl;
    reads = refl;
    no_padding = refl;
    number = refl;
    type =
        refl;
    source = refl;
    payload = λ e. cc;
    part_reads = refl;
  };
  timestamp = refl;
  marker = (λ e. refl, λ e. refl);
  start = λ same. omega arith;
  layers = refl;
}

-- the frame travels in them
keyframe_travels : Travels settings vp8 sender 0 keyframe 0 (first_part ∷ second_part ∷ third_part ∷ [])
unfolding first_is second_is third_is
keyframe_travels = record {
  some = omega arith;
  each = (first_is, (second_is, (third_is, tt)));
  joins = refl;
  key = (λ e. (first_part, (0, omega arith, refl), refl), λ e. refl);
}

sender-honest : HonestSender settings vp8 sender
unfolding keyframe_travels
sender-honest = record {
  begins = omega arith;
  place = λ f. 0;
  parts = λ f. first_part ∷ second_part ∷ third_part ∷ [];
  travels = elim [ zero ↦ keyframe_travels | suc f ↦ tt ];
  in_order = λ f g less within. absurd (omega arith);
  no_other = λ i within. inr (0, omega arith, omega arith, omega arith);
  parity = no_parity;
  from_key = refl;
  references = elim [ zero ↦ All-nil (λ g. InChain sender 0 g) | suc f ↦ tt ];
  layers = inr no_layers;
  apart = elim [ zero ↦ tt | suc f ↦ tt ];
} where
  no_layers : HaveNoLayers sender.frames
  no_layers zero = refl
  no_layers (suc f) = tt

  no_parity : (i : ℕ) (payload : List ℕ) → slice_get sender.packets i ≡ Some (Fec payload) →
      IsTrueFec sender i payload
  no_parity zero payload is = absurd (cc)
  no_parity (suc zero) payload is = absurd (cc)
  no_parity (suc (suc zero)) payload is = absurd (cc)
  no_parity (suc (suc (suc i))) payload is = absurd (cc)

-- a packet as it was sent is one of its forms
plain_form : (number part : ℕ) (carried : CarriedPart) → IsMedia settings vp8 number carried →
    IsWireForm settings number (Media 0 part carried.text) carried.text
plain_form number part carried m = (
  carried.packet,
  m.reads,
  record {
    how = Plain;
    wire = carried.packet;
    travels = refl;
    carries = record {
      size = m.size;
      below = m.below;
      packet = carried.packet;
      reads = m.reads;
      unpadded = ap (λ n. record carried.packet { padding = n }) (sym m.no_padding);
    };
  },
)

pub parts-honest : IsHonestCapture parts_capture sender (FromSender 2 ∷ FromSender 0 ∷ FromSender 1 ∷ Elsewhere ∷ [])
unfolding text_on_literals settings_of snapshots packets_taken repairs_in
parts-honest = (
  sender-honest,
  (
    (plain_form 3 2 third_part third_is.media, tt),
    tt,
    (
      (plain_form 1 0 first_part first_is.media, (omega arith, omega arith)),
      tt,
      ((plain_form 2 1 second_part second_is.media, (omega arith, omega arith)), tt, (tt, tt, tt)),
    ),
  ),
)

-- an inspection: a datagram, a tick, a pull and a bad line under settings that a replay doesn't take
abbrev inspected_capture : List ℕ
inspected_capture = codes "vrx 1 codec=h264 ssrc=0000000a pt=96 from=0000000b" ++ line_feed
    ++ codes "d 0 8060000100000000000000" ++ line_feed ++ codes "t 1" ++ line_feed ++ codes "p 1 " ++ line_feed

pub short_packet_inspected : inspection_outcome inspected_capture ≡ record {
  status = BadCapture;
  text = codes "2 bad rtp Short 11" ++ line_feed;
  last = codes "error line 4 end" ++ line_feed;
}
unfolding text_on_literals is_head inspections inspection digits
short_packet_inspected = refl
