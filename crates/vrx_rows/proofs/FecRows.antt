-- An honest call in which a packet is lost and repaired, worked by hand: a keyframe of two packets, a FEC packet over
-- both, and a frame that refers to the keyframe. The second packet is lost. The FEC packet rebuilds it, so that nothing
-- is asked for, and both frames are given. When the packet comes after all it is a repeat.
use Rattle.std.proofs.Common.{◌≢◌, ◌≤◌, ◌<◌, ◌≡◌, ◌∙◌, ◌⊎◌, ap, inl, inr, Contains, All, ℕ, zero, suc, ◌+◌, true, false, if◌then◌else◌, List, [], ◌∷◌, length, Some, None, IfSome, IsSomeAnd, Ok, slice_get, refl, subst, arith}
use Rattle.std.specs.Prelude.{◌==◌}
use Rattle.std.specs.List.{list_any, flat_map}
use Rattle.std.proofs.lemmas.List.Elements.{All-cons, All-nil, All-from_recursion}
use Rattle.std.proofs.lemmas.List.Sorted.{IsPermutation-refl}
use Rattle.vrx_rtp.specs.Packet.{Packet}
use Rattle.vrx_wrap.specs.Red.{red_of}
use Rattle.vrx_codec.specs.Meaning.{Meaning}
use Rattle.vrx_codec.specs.declared.part.Start.TheVariants.{Yes, No}
use Rattle.vrx_fec.specs.Parity.{Texts, body_of, octet_at, recovery, spans_of, xor_of_fields, xor_of_octets}
use Rattle.vrx_fec.specs.Payload.{FitsLevel, IsPayload, Level, Payload}
use Rattle.vrx_repair.specs.Plan.{repairs_in}
use Rattle.vrx_core.specs.machine.SettingsFault.{fault_of}
use Rattle.vrx_core.specs.machine.Machine.{Reply, ToDatagram, ToPull, replies, reply, snapshots}
use Rattle.vrx_core.specs.honest.Sender.{SentFrame, Media, Fec, Sender, IsNoPart}
use Rattle.vrx_core.specs.honest.WireForm.{Plain, InRed, IsWireForm}
use Rattle.vrx_core.specs.honest.Layers.{HaveNoLayers}
use Rattle.vrx_core.specs.honest.Chain.{InChain}
use Rattle.vrx_core.specs.honest.HonestSender.{CarriedPart, HasText, IsPart, IsTrueFec, Travels, HonestSender}
use Rattle.vrx_core.specs.honest.HonestNetwork.{Origin, FromSender, Elsewhere, HonestNetwork, packets_taken}
use Rattle.vrx_core.specs.declared.settings.Settings.{Settings}
use Rattle.vrx_core.specs.declared.event.Event.{Event}
use Rattle.vrx_core.specs.declared.event.Event.TheVariants.{Datagram, Pull}
use Rattle.vrx_core.specs.declared.reply.What.{What}
use Rattle.vrx_core.specs.declared.reply.What.TheVariants as what
use Rattle.vrx_core.specs.declared.reply.Reason.TheVariants.{Repeat}
use Rattle.vrx_core.specs.declared.reply.Pulled.TheVariants.{Frame}
use Rattle.vrx_rows.proofs.MemberLemmas.{Contains-either, Contains-empty}
use Rattle.vrx_rows.proofs.NeighbourRows.{are_octets, carry}

-- a codec whose payloads say with an octet 7 that a frame begins, and with an octet 5 a keyframe; a payload is the
-- part's body, and parts join to their bodies
abbrev codec : Meaning
codec = record {
  read = λ payload. Ok (record {
    start = if list_any (λ octet. octet == 7) payload then Yes else No;
    key = list_any (λ octet. octet == 5) payload;
    layers = None;
    body = payload;
  });
  join = λ parts. Ok (flat_map (λ part. part.body) parts);
}

-- media and FEC may come in RED
abbrev settings : Settings
settings = record {
  media_ssrc = 10;
  media_type = 96;
  red = Some (record { red_type = 97; fec_type = Some 100 });
  rtx = None;
  from_ssrc = 11;
  interval = 100;
}

-- they have no fault
pub no_fault : fault_of settings ≡ None
no_fault = refl

-- the two packets of the keyframe
abbrev first_text : List ℕ
first_text = 128 ∷ 96 ∷ 0 ∷ 1 ∷ 0 ∷ 0 ∷ 0 ∷ 0 ∷ 0 ∷ 0 ∷ 0 ∷ 10 ∷ 7 ∷ 5 ∷ 170 ∷ []

abbrev second_text : List ℕ
second_text = 128 ∷ 224 ∷ 0 ∷ 2 ∷ 0 ∷ 0 ∷ 0 ∷ 0 ∷ 0 ∷ 0 ∷ 0 ∷ 10 ∷ 187 ∷ []

-- the FEC packet's payload, its header and its level: over both
abbrev fec_payload : List ℕ
fec_payload = 0 ∷ 128 ∷ 0 ∷ 1 ∷ 0 ∷ 0 ∷ 0 ∷ 0 ∷ 0 ∷ 2 ∷ 0 ∷ 3 ∷ 192 ∷ 0 ∷ 188 ∷ 5 ∷ 170 ∷ []

abbrev fec_head : List ℕ
fec_head = 0 ∷ 128 ∷ 0 ∷ 1 ∷ 0 ∷ 0 ∷ 0 ∷ 0 ∷ 0 ∷ 2 ∷ []

abbrev fec_level : Level
fec_level = record { mask = 49152; octets = 188 ∷ 5 ∷ 170 ∷ [] }

abbrev fec_says : Payload
fec_says = record { head = fec_head; long = false; base = 1; levels = fec_level ∷ [] }

abbrev fec_texts : Texts
fec_texts = (0, first_text) ∷ (1, second_text) ∷ []

-- the FEC packet in RED: type 97, the block of type 100, and any timestamp
abbrev fec_octets : List ℕ
fec_octets = 128 ∷ 97 ∷ 0 ∷ 3 ∷ 0 ∷ 0 ∷ 0 ∷ 5 ∷ 0 ∷ 0 ∷ 0 ∷ 10 ∷ 100 ∷ fec_payload

-- the packet of the last frame
abbrev third_text : List ℕ
third_text = 128 ∷ 224 ∷ 0 ∷ 4 ∷ 0 ∷ 0 ∷ 0 ∷ 9 ∷ 0 ∷ 0 ∷ 0 ∷ 10 ∷ 7 ∷ 204 ∷ []

abbrev first_frame : SentFrame
first_frame = record { bytes = 7 ∷ 5 ∷ 170 ∷ 187 ∷ []; key = true; ts = 0; layers = None; references = [] }

abbrev second_frame : SentFrame
second_frame = record { bytes = 7 ∷ 204 ∷ []; key = false; ts = 9; layers = None; references = 0 ∷ [] }

abbrev sender : Sender
sender = record {
  first_wire = 1;
  frames = first_frame ∷ second_frame ∷ [];
  packets = Media 0 0 first_text ∷ Media 0 1 second_text ∷ Fec fec_payload ∷ Media 1 0 third_text ∷ [];
}

-- a packet of the source
abbrev packet_with : (seq pt ts : ℕ) → List ℕ → Packet
packet_with seq pt ts payload = record {
  marker = false;
  pt = pt;
  seq = seq;
  ts = ts;
  ssrc = 10;
  csrc = [];
  extension = None;
  payload = payload;
  padding = 0;
}

-- what the packets carry
abbrev first_part : CarriedPart
first_part = record {
  text = first_text;
  packet = packet_with 1 96 0 (7 ∷ 5 ∷ 170 ∷ []);
  part = record { start = Yes; key = true; layers = None; body = 7 ∷ 5 ∷ 170 ∷ [] };
}

abbrev second_part : CarriedPart
second_part = record {
  text = second_text;
  packet = record (packet_with 2 96 0 (187 ∷ [])) { marker = true };
  part = record { start = No; key = false; layers = None; body = 187 ∷ [] };
}

abbrev third_part : CarriedPart
third_part = record {
  text = third_text;
  packet = record (packet_with 4 96 9 (7 ∷ 204 ∷ [])) { marker = true };
  part = record { start = Yes; key = false; layers = None; body = 7 ∷ 204 ∷ [] };
}

-- each media packet is a part of its frame
first_is : IsPart settings codec sender 0 first_frame 2 0 0 first_part
first_is = record {
  sent = refl;
  media = record {
    size = omega arith;
    below = are_octets first_text refl;
    reads = refl;
    no_padding = refl;
    number = refl;
    type = refl;
    source = refl;
    payload = λ e. cc;
    part_reads = refl;
  };
  timestamp = refl;
  marker = (λ e. cc, λ e. absurd (omega arith));
  start = refl;
  layers = refl;
}

second_is : IsPart settings codec sender 0 first_frame 2 1 1 second_part
second_is = record {
  sent = refl;
  media = record {
    size = omega arith;
    below = are_octets second_text refl;
    reads = refl;
    no_padding = refl;
    number = refl;
    type = refl;
    source = refl;
    payload = λ e. cc;
    part_reads = refl;
  };
  timestamp = refl;
  marker = (λ e. refl, λ e. refl);
  start = λ e. omega arith;
  layers = refl;
}

third_is : IsPart settings codec sender 1 second_frame 1 0 3 third_part
third_is = record {
  sent = refl;
  media = record {
    size = omega arith;
    below = are_octets third_text refl;
    reads = refl;
    no_padding = refl;
    number = refl;
    type = refl;
    source = refl;
    payload = λ e. cc;
    part_reads = refl;
  };
  timestamp = refl;
  marker = (λ e. refl, λ e. refl);
  start = refl;
  layers = refl;
}

-- each frame travels
first_travels : Travels settings codec sender 0 first_frame 0 (first_part ∷ second_part ∷ [])
unfolding first_is second_is
first_travels = record {
  some = omega arith;
  each = (first_is, (second_is, tt));
  joins = refl;
  key = (λ e. (first_part, (0, omega arith, refl), refl), λ e. refl);
}

-- no part of the last says a keyframe
no_key : (c : CarriedPart) → Contains (third_part ∷ []) c → c.part.key ≡ true → second_frame.key ≡ true
no_key c there key = elim (Contains-either third_part [] c there) [
  | inl same ↦ ap (λ (x : CarriedPart). x.part.key) same ∙ key
  | inr later ↦ absurd (Contains-empty c later)
]

second_travels : Travels settings codec sender 1 second_frame 3 (third_part ∷ [])
unfolding third_is
second_travels = record {
  some = omega arith;
  each = (third_is, tt);
  joins = refl;
  key = (λ e. absurd (cc), λ p. no_key p.0 p.1 p.2);
}

-- the parity of both texts, field by field and octet by octet
fec_fields : (k : ℕ) → k < 8 → octet_at k (recovery fec_head) ≡ xor_of_fields k fec_texts
fec_fields zero lt = refl
fec_fields (suc zero) lt = refl
fec_fields (suc (suc zero)) lt = refl
fec_fields (suc (suc (suc zero))) lt = refl
fec_fields (suc (suc (suc (suc zero)))) lt = refl
fec_fields (suc (suc (suc (suc (suc zero))))) lt = refl
fec_fields (suc (suc (suc (suc (suc (suc zero)))))) lt = refl
fec_fields (suc (suc (suc (suc (suc (suc (suc zero))))))) lt = refl
fec_fields (suc (suc (suc (suc (suc (suc (suc (suc k)))))))) lt = absurd (omega arith)

fec_body : (k : ℕ) → k < 3 →
    octet_at k (body_of fec_says.levels) ≡ xor_of_octets false (spans_of fec_says.levels) k fec_texts
fec_body zero lt = refl
fec_body (suc zero) lt = refl
fec_body (suc (suc zero)) lt = refl
fec_body (suc (suc (suc k))) lt = absurd (omega arith)

-- the octets are that payload
fec_spells : IsPayload fec_payload 3 fec_says
fec_spells = record {
  spelled = refl;
  head = refl;
  long = refl;
  base = refl;
  few = omega arith;
  fits =
      All-cons (FitsLevel false) fec_level [] (record { mask = omega arith; size = omega arith })
      (All-nil (FitsLevel false));
  nested = refl;
  protects = refl;
  before = refl;
}

-- the FEC packet is true
pub fec_true : IsTrueFec sender 2 fec_payload
unfolding fec_spells
fec_true = record {
  says = fec_says;
  back = 2;
  texts = fec_texts;
  below = are_octets fec_payload refl;
  spells = fec_spells;
  near = omega arith;
  base_is = refl;
  true_is = record {
    protects = IsPermutation-refl (0 ∷ 1 ∷ []);
    parity = record { fields = fec_fields; body = fec_body };
  };
  protects =
      All-cons Protected (0, first_text) ((1, second_text) ∷ []) (0, refl, refl)
      (All-cons Protected (1, second_text) [] (1, refl, refl) (All-nil Protected));
} where
  Protected : ℕ × List ℕ → Type 0
  Protected t = (j : ℕ) × (j + 2 ≡ 2 + t.0) × IsSomeAnd (slice_get sender.packets j) (HasText t.1)

-- the places and the parts of the frames
abbrev place : ℕ → ℕ
place zero = 0
place (suc f) = 3

abbrev parts : ℕ → List CarriedPart
parts zero = first_part ∷ second_part ∷ []
parts (suc f) = third_part ∷ []

-- the sender is honest
pub sender-honest : HonestSender settings codec sender
unfolding first_travels second_travels
sender-honest = record {
  begins = omega arith;
  place = place;
  parts = parts;
  travels = travels;
  in_order = order;
  no_other = others;
  parity = parity;
  from_key = refl;
  references = chains;
  layers = inr no_layers;
  apart = different;
} where
  travels : (f : ℕ) → IfSome (slice_get sender.frames f)
      (λ frame. Travels settings codec sender f frame (place f) (parts f))
  travels zero = first_travels
  travels (suc zero) = second_travels
  travels (suc (suc f)) = tt

  order : (f g : ℕ) → f < g → g < length sender.frames → place f + length (parts f) ≤ place g
  order f zero less within = absurd (omega arith)
  order zero (suc g) less within = omega arith
  order (suc f) (suc g) less within = absurd (omega arith)

  others : (i : ℕ) → i < length sender.packets →
      IsSomeAnd (slice_get sender.packets i) IsNoPart
      ⊎ ((f : ℕ) × (f < length sender.frames) × (place f ≤ i) × (i < place f + length (parts f)))
  others zero within = inr (0, omega arith, omega arith, omega arith)
  others (suc zero) within = inr (0, omega arith, omega arith, omega arith)
  others (suc (suc zero)) within = inl tt
  others (suc (suc (suc i))) within = inr (1, omega arith, omega arith, omega arith)

  payload_in : List ℕ → Type 0
  payload_in payload = IsTrueFec sender 2 payload

  parity : (i : ℕ) (payload : List ℕ) → slice_get sender.packets i ≡ Some (Fec payload) → IsTrueFec sender i payload
  parity zero payload is = absurd (cc)
  parity (suc zero) payload is = absurd (cc)
  parity (suc (suc zero)) payload is = let same : fec_payload ≡ payload = cc in subst payload_in same fec_true
  parity (suc (suc (suc zero))) payload is = absurd (cc)
  parity (suc (suc (suc (suc i)))) payload is = absurd (cc)

  chains : (f : ℕ) → IfSome (slice_get sender.frames f) (λ frame. All (λ g. InChain sender f g) frame.references)
  chains zero = All-nil (λ g. InChain sender 0 g)
  chains (suc zero) = All-from_recursion (λ g. InChain sender 1 g) (0 ∷ []) (([], (refl, refl)), tt)
  chains (suc (suc f)) = tt

  no_layers : HaveNoLayers sender.frames
  no_layers zero = refl
  no_layers (suc zero) = refl
  no_layers (suc (suc f)) = tt

  different : (f : ℕ) → IfSome (slice_get sender.frames f)
      (λ frame. IfSome (slice_get sender.frames (f + 1)) (λ after. frame.ts ≢ after.ts))
  different zero = λ e. omega arith
  different (suc zero) = tt
  different (suc (suc f)) = tt

-- the media packets as they are, and the FEC packet in RED
first_plain : IsWireForm settings 1 (Media 0 0 first_text) first_text
first_plain = (
  first_part.packet,
  refl,
  record {
    how = Plain;
    wire = first_part.packet;
    travels = refl;
    carries = carry first_text first_part.packet refl refl refl;
  },
)

second_plain : IsWireForm settings 2 (Media 0 1 second_text) second_text
second_plain = (
  second_part.packet,
  refl,
  record {
    how = Plain;
    wire = second_part.packet;
    travels = refl;
    carries = carry second_text second_part.packet refl refl refl;
  },
)

third_plain : IsWireForm settings 4 (Media 1 0 third_text) third_text
third_plain = (
  third_part.packet,
  refl,
  record {
    how = Plain;
    wire = third_part.packet;
    travels = refl;
    carries = carry third_text third_part.packet refl refl refl;
  },
)

fec_in_red : IsWireForm settings 3 (Fec fec_payload) fec_octets
fec_in_red =
    let packet : Packet = packet_with 3 100 5 fec_payload in (
      packet,
      record { number_is = refl; type = refl; source = refl; payload_is = refl },
      record {
        how = InRed;
        wire = red_of 97 packet;
        travels = refl;
        carries = carry fec_octets (red_of 97 packet) refl refl refl;
      },
      tt,
    )

-- packet 0, the FEC packet, a pull, packet 3, a pull, and packet 1
abbrev events : List Event
events = Datagram 0 first_text ∷ Datagram 1 fec_octets ∷ Pull 2 ∷ Datagram 3 third_text ∷ Pull 4
    ∷ Datagram 5 second_text ∷ []

abbrev origins : List Origin
origins = FromSender 0 ∷ FromSender 2 ∷ Elsewhere ∷ FromSender 3 ∷ Elsewhere ∷ FromSender 1 ∷ []

-- the network is honest
pub network-honest : HonestNetwork settings codec sender [] [] events origins
unfolding repairs_in snapshots packets_taken
network-honest = (
  (first_plain, tt),
  tt,
  (
    (fec_in_red, (omega arith, omega arith)),
    tt,
    (
      tt,
      tt,
      (
        (third_plain, (omega arith, omega arith)),
        tt,
        (tt, tt, ((second_plain, (omega arith, omega arith)), tt, tt)),
      ),
    ),
  ),
)

-- the reply to a datagram
abbrev answered : What → List ℕ → Reply
answered what repaired =
    ToDatagram (record { what = what; repaired = repaired; feedback = record { nack = None; pli = None } })

-- packet 1 is repaired as the FEC packet comes, and both frames are given
pub frames_pulled : replies settings codec [] events
    ≡ answered (what.Media 65537) [] ∷ answered (what.Fec 65539) (65538 ∷ [])
    ∷ ToPull (Frame (record { first = 65537; last = 65538; ts = 0; key = true; bytes = 7 ∷ 5 ∷ 170 ∷ 187 ∷ [] }))
    ∷ answered (what.Media 65540) []
    ∷ ToPull (Frame (record { first = 65540; last = 65540; ts = 9; key = false; bytes = 7 ∷ 204 ∷ [] }))
    ∷ answered (what.Dropped Repeat) [] ∷ []
unfolding repairs_in replies reply snapshots
frames_pulled = refl
