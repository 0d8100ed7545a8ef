-- A sender whose frames have temporal layers, worked by hand: the premises of the laws can be met with layers. It sends
-- four frames in the layers 0, 2, 1, 2, each in one packet. The last frame refers to all three before it. Its packet
-- comes second, and the frame waits until each picture between was seen and pulled.
use Rattle.std.proofs.Common.{◌≢◌, ◌≤◌, ◌<◌, ◌≡◌, ◌∙◌, ◌⊎◌, ap, inl, inr, Contains, All, ℕ, zero, suc, ◌+◌, true, false, if◌then◌else◌, List, [], ◌∷◌, map, length, Bool, Some, None, IfSome, IsSomeAnd, Result, Ok, Err, slice_get, refl, arith}
use Rattle.std.specs.Prelude.{◌*◌, ◌==◌}
use Rattle.std.specs.List.{flat_map}
use Rattle.std.proofs.lemmas.List.Elements.{All-nil, All-from_recursion}
use Rattle.vrx_num.specs.declared.limits.TheConstants.{HALF_PICTURES}
use Rattle.vrx_num.specs.Index.{index_after}
use Rattle.vrx_rtp.specs.Packet.{Packet}
use Rattle.vrx_codec.specs.Part.{Part}
use Rattle.vrx_codec.specs.Meaning.{Meaning}
use Rattle.vrx_codec.specs.declared.fault.PartFault.{PartFault}
use Rattle.vrx_codec.specs.declared.part.Start.TheVariants.{Yes}
use Rattle.vrx_codec.specs.declared.run.Place.{Place}
use Rattle.vrx_refs.specs.References.{Judgement, Needs, Unknown}
use Rattle.vrx_repair.specs.Plan.{repairs_in}
use Rattle.vrx_rtcp.specs.declared.feedback.Feedback.{Feedback}
use Rattle.vrx_core.specs.machine.SettingsFault.{fault_of}
use Rattle.vrx_core.specs.machine.Deliverable.{judged}
use Rattle.vrx_core.specs.machine.Told.{Told}
use Rattle.vrx_core.specs.machine.Machine.{Reply, ToDatagram, ToPull, Snapshot, latest, replies, reply, snapshots}
use Rattle.vrx_core.specs.honest.Sender.{SentFrame, Media, Fec, Sender, IsNoPart, IsOf}
use Rattle.vrx_core.specs.honest.WireForm.{Plain, IsWireForm}
use Rattle.vrx_core.specs.honest.Layers.{HasTid, HaveLast, IsKey, IsLastOf, IsLastSinceKey, IsStop, KeepsLayers, layers_at}
use Rattle.vrx_core.specs.honest.Chain.{InChain}
use Rattle.vrx_core.specs.honest.Number.{IsOfFrame, IsRepaired, SomeHasCome}
use Rattle.vrx_core.specs.honest.Ready.{StopIsSeen}
use Rattle.vrx_core.specs.honest.HonestSender.{CarriedPart, IsPart, IsTrueFec, Travels, HonestSender}
use Rattle.vrx_core.specs.honest.HonestNetwork.{Origin, FromSender, Elsewhere, AreNearTold, HonestNetwork, IsDelivery, IsNewestTold, packets_taken}
use Rattle.vrx_core.specs.declared.settings.Settings.{Settings}
use Rattle.vrx_core.specs.declared.event.Event.{Event}
use Rattle.vrx_core.specs.declared.event.Event.TheVariants.{Datagram, Pull}
use Rattle.vrx_core.specs.declared.reply.What.{What}
use Rattle.vrx_core.specs.declared.reply.What.TheVariants as what
use Rattle.vrx_core.specs.declared.reply.Pulled.TheVariants.{Frame, NotReady}
use Rattle.vrx_rows.proofs.MemberLemmas.{Contains-either, Contains-empty}
use Rattle.vrx_rows.proofs.NeighbourRows.{are_octets, carry}

-- a payload: 5 for a keyframe, the two octets of the picture, the index, the TID, 1 if Y is 1, and the part's body. It
-- begins its frame
abbrev read_part : List ℕ → Result Part PartFault
read_part (kind ∷ high ∷ low ∷ tl0 ∷ tid ∷ y ∷ body) = Ok (record {
  start = Yes;
  key = kind == 5;
  layers = Some (record { picture = 256 * high + low; tl0 = tl0; tid = tid; sync = y == 1 });
  body = body;
})
read_part payload = Err (record { code = 1; at = 0 })

-- a codec with such payloads, whose parts join to their bodies
abbrev codec : Meaning
codec = record { read = read_part; join = λ parts. Ok (flat_map (λ part. part.body) parts) }

-- media comes as it is
abbrev settings : Settings
settings = record { media_ssrc = 10; media_type = 96; red = None; rtx = None; from_ssrc = 11; interval = 100 }

-- they have no fault
pub no_fault : fault_of settings ≡ None
no_fault = refl

-- a keyframe of TID 0; a frame of TID 2 and one of TID 1, which refer to their base only; and a frame of TID 2 that
-- doesn't. The second picture is the first that has more than 15 bits
abbrev first_text : List ℕ
first_text = 128 ∷ 224 ∷ 0 ∷ 1 ∷ 0 ∷ 0 ∷ 0 ∷ 0 ∷ 0 ∷ 0 ∷ 0 ∷ 10 ∷ 5 ∷ 127 ∷ 255 ∷ 5 ∷ 0 ∷ 0 ∷ 170 ∷ []

abbrev second_text : List ℕ
second_text = 128 ∷ 224 ∷ 0 ∷ 2 ∷ 0 ∷ 0 ∷ 0 ∷ 9 ∷ 0 ∷ 0 ∷ 0 ∷ 10 ∷ 0 ∷ 0 ∷ 0 ∷ 5 ∷ 2 ∷ 1 ∷ 187 ∷ []

abbrev third_text : List ℕ
third_text = 128 ∷ 224 ∷ 0 ∷ 3 ∷ 0 ∷ 0 ∷ 0 ∷ 18 ∷ 0 ∷ 0 ∷ 0 ∷ 10 ∷ 0 ∷ 0 ∷ 1 ∷ 5 ∷ 1 ∷ 1 ∷ 204 ∷ []

abbrev fourth_text : List ℕ
fourth_text = 128 ∷ 224 ∷ 0 ∷ 4 ∷ 0 ∷ 0 ∷ 0 ∷ 27 ∷ 0 ∷ 0 ∷ 0 ∷ 10 ∷ 0 ∷ 0 ∷ 2 ∷ 5 ∷ 2 ∷ 0 ∷ 221 ∷ []

abbrev first_frame : SentFrame
first_frame = record {
  bytes = 170 ∷ [];
  key = true;
  ts = 0;
  layers = Some (record { picture = 32767; tl0 = 5; tid = 0; sync = false });
  references = [];
}

abbrev second_frame : SentFrame
second_frame = record {
  bytes = 187 ∷ [];
  key = false;
  ts = 9;
  layers = Some (record { picture = 32768; tl0 = 5; tid = 2; sync = true });
  references = 0 ∷ [];
}

abbrev third_frame : SentFrame
third_frame = record {
  bytes = 204 ∷ [];
  key = false;
  ts = 18;
  layers = Some (record { picture = 32769; tl0 = 5; tid = 1; sync = true });
  references = 0 ∷ [];
}

abbrev fourth_frame : SentFrame
fourth_frame = record {
  bytes = 221 ∷ [];
  key = false;
  ts = 27;
  layers = Some (record { picture = 32770; tl0 = 5; tid = 2; sync = false });
  references = 0 ∷ 2 ∷ 1 ∷ [];
}

abbrev sender : Sender
sender = record {
  first_wire = 1;
  frames = first_frame ∷ second_frame ∷ third_frame ∷ fourth_frame ∷ [];
  packets = Media 0 0 first_text ∷ Media 1 0 second_text ∷ Media 2 0 third_text ∷ Media 3 0 fourth_text ∷ [];
}

-- a packet of the source, the last of its frame
abbrev packet_with : (seq ts : ℕ) → List ℕ → Packet
packet_with seq ts payload = record {
  marker = true;
  pt = 96;
  seq = seq;
  ts = ts;
  ssrc = 10;
  csrc = [];
  extension = None;
  payload = payload;
  padding = 0;
}

-- what the packets carry
abbrev first_part : CarriedPart
first_part = record {
  text = first_text;
  packet = packet_with 1 0 (5 ∷ 127 ∷ 255 ∷ 5 ∷ 0 ∷ 0 ∷ 170 ∷ []);
  part = record {
    start = Yes;
    key = true;
    layers = Some (record { picture = 32767; tl0 = 5; tid = 0; sync = false });
    body = 170 ∷ [];
  };
}

abbrev second_part : CarriedPart
second_part = record {
  text = second_text;
  packet = packet_with 2 9 (0 ∷ 0 ∷ 0 ∷ 5 ∷ 2 ∷ 1 ∷ 187 ∷ []);
  part = record {
    start = Yes;
    key = false;
    layers = Some (record { picture = 0; tl0 = 5; tid = 2; sync = true });
    body = 187 ∷ [];
  };
}

abbrev third_part : CarriedPart
third_part = record {
  text = third_text;
  packet = packet_with 3 18 (0 ∷ 0 ∷ 1 ∷ 5 ∷ 1 ∷ 1 ∷ 204 ∷ []);
  part = record {
    start = Yes;
    key = false;
    layers = Some (record { picture = 1; tl0 = 5; tid = 1; sync = true });
    body = 204 ∷ [];
  };
}

abbrev fourth_part : CarriedPart
fourth_part = record {
  text = fourth_text;
  packet = packet_with 4 27 (0 ∷ 0 ∷ 2 ∷ 5 ∷ 2 ∷ 0 ∷ 221 ∷ []);
  part = record {
    start = Yes;
    key = false;
    layers = Some (record { picture = 2; tl0 = 5; tid = 2; sync = false });
    body = 221 ∷ [];
  };
}

-- each packet is the one part of its frame
first_is : IsPart settings codec sender 0 first_frame 1 0 0 first_part
first_is = record {
  sent = refl;
  media = record {
    size = omega arith;
    below = are_octets first_text refl;
    reads = refl;
    no_padding = refl;
    number = refl;
    type = refl;
    source = refl;
    payload = λ e. cc;
    part_reads = refl;
  };
  timestamp = refl;
  marker = (λ e. refl, λ e. refl);
  start = refl;
  layers = refl;
}

second_is : IsPart settings codec sender 1 second_frame 1 0 1 second_part
second_is = record {
  sent = refl;
  media = record {
    size = omega arith;
    below = are_octets second_text refl;
    reads = refl;
    no_padding = refl;
    number = refl;
    type = refl;
    source = refl;
    payload = λ e. cc;
    part_reads = refl;
  };
  timestamp = refl;
  marker = (λ e. refl, λ e. refl);
  start = refl;
  layers = refl;
}

third_is : IsPart settings codec sender 2 third_frame 1 0 2 third_part
third_is = record {
  sent = refl;
  media = record {
    size = omega arith;
    below = are_octets third_text refl;
    reads = refl;
    no_padding = refl;
    number = refl;
    type = refl;
    source = refl;
    payload = λ e. cc;
    part_reads = refl;
  };
  timestamp = refl;
  marker = (λ e. refl, λ e. refl);
  start = refl;
  layers = refl;
}

fourth_is : IsPart settings codec sender 3 fourth_frame 1 0 3 fourth_part
fourth_is = record {
  sent = refl;
  media = record {
    size = omega arith;
    below = are_octets fourth_text refl;
    reads = refl;
    no_padding = refl;
    number = refl;
    type = refl;
    source = refl;
    payload = λ e. cc;
    part_reads = refl;
  };
  timestamp = refl;
  marker = (λ e. refl, λ e. refl);
  start = refl;
  layers = refl;
}

-- a part among these that says a keyframe is this one
says_key : (part c : CarriedPart) → Contains (part ∷ []) c → c.part.key ≡ true → part.part.key ≡ true
says_key part c there key = elim (Contains-either part [] c there) [
  | inl same ↦ ap (λ (x : CarriedPart). x.part.key) same ∙ key
  | inr later ↦ absurd (Contains-empty c later)
]

-- each frame travels
first_travels : Travels settings codec sender 0 first_frame 0 (first_part ∷ [])
unfolding first_is
first_travels = record {
  some = omega arith;
  each = (first_is, tt);
  joins = refl;
  key = (λ e. (first_part, (0, omega arith, refl), refl), λ e. refl);
}

second_travels : Travels settings codec sender 1 second_frame 1 (second_part ∷ [])
unfolding second_is
second_travels = record {
  some = omega arith;
  each = (second_is, tt);
  joins = refl;
  key = (λ e. absurd (cc), λ p. says_key second_part p.0 p.1 p.2);
}

third_travels : Travels settings codec sender 2 third_frame 2 (third_part ∷ [])
unfolding third_is
third_travels = record {
  some = omega arith;
  each = (third_is, tt);
  joins = refl;
  key = (λ e. absurd (cc), λ p. says_key third_part p.0 p.1 p.2);
}

fourth_travels : Travels settings codec sender 3 fourth_frame 3 (fourth_part ∷ [])
unfolding fourth_is
fourth_travels = record {
  some = omega arith;
  each = (fourth_is, tt);
  joins = refl;
  key = (λ e. absurd (cc), λ p. says_key fourth_part p.0 p.1 p.2);
}

-- Frame 0 is the last one of TID 0 before each of the others, frame 2 the last of TID 1 before frame 3, and frame 1 the
-- last of TID 2
base_of_second : IsLastOf sender.frames 0 1 0
base_of_second = record { before = omega arith; of_tid = refl; last = λ h after before is. omega arith }

base_of_third : IsLastOf sender.frames 0 2 0
base_of_third = record { before = omega arith; of_tid = refl; last = none } where
  none : (h : ℕ) → 0 < h → h < 2 → HasTid sender.frames h 0 → ⊥
  none zero after before is = omega arith
  none (suc zero) after before is = omega arith
  none (suc (suc h)) after before is = omega arith

base_of_fourth : IsLastSinceKey sender.frames 0 3 0
base_of_fourth =
    record { last_of = record { before = omega arith; of_tid = refl; last = none }; since_key = no_key } where
      none : (h : ℕ) → 0 < h → h < 3 → HasTid sender.frames h 0 → ⊥
      none zero after before is = omega arith
      none (suc zero) after before is = omega arith
      none (suc (suc zero)) after before is = omega arith
      none (suc (suc (suc h))) after before is = omega arith

      no_key : (h : ℕ) → 0 < h → h < 3 → IsKey sender.frames h → ⊥
      no_key zero after before is = omega arith
      no_key (suc zero) after before is = absurd (cc)
      no_key (suc (suc zero)) after before is = absurd (cc)
      no_key (suc (suc (suc h))) after before is = omega arith

last_of_tid_1 : IsLastSinceKey sender.frames 1 3 2
last_of_tid_1 = record {
  last_of = record { before = omega arith; of_tid = refl; last = λ h after before is. omega arith };
  since_key = λ h after before is. omega arith;
}

last_of_tid_2 : IsLastSinceKey sender.frames 2 3 1
last_of_tid_2 =
    record { last_of = record { before = omega arith; of_tid = refl; last = none }; since_key = no_key } where
      none : (h : ℕ) → 1 < h → h < 3 → HasTid sender.frames h 2 → ⊥
      none zero after before is = omega arith
      none (suc zero) after before is = omega arith
      none (suc (suc zero)) after before is = omega arith
      none (suc (suc (suc h))) after before is = omega arith

      no_key : (h : ℕ) → 1 < h → h < 3 → IsKey sender.frames h → ⊥
      no_key zero after before is = omega arith
      no_key (suc zero) after before is = omega arith
      no_key (suc (suc zero)) after before is = absurd (cc)
      no_key (suc (suc (suc h))) after before is = omega arith

-- so the references of each frame lie in its chain
chains : (f : ℕ) → IfSome (slice_get sender.frames f) (λ frame. All (λ g. InChain sender f g) frame.references)
unfolding base_of_second base_of_third base_of_fourth last_of_tid_1 last_of_tid_2
chains zero = All-nil (λ g. InChain sender 0 g)
chains (suc zero) = All-from_recursion (λ g. InChain sender 1 g) (0 ∷ []) (([], (refl, base_of_second)), tt)
chains (suc (suc zero)) = All-from_recursion (λ g. InChain sender 2 g) (0 ∷ []) (([], (refl, base_of_third)), tt)
chains (suc (suc (suc zero))) = All-from_recursion (λ g. InChain sender 3 g) (0 ∷ 2 ∷ 1 ∷ []) (
  ([], (refl, (0, omega arith, base_of_fourth))),
  (
    ([], (refl, (1, omega arith, last_of_tid_1))),
    (([], (refl, (2, omega arith, last_of_tid_2))), tt),
  ),
)
chains (suc (suc (suc (suc f)))) = tt

-- the sender keeps to the rules of layers
pub layers-kept : KeepsLayers sender.frames
layers-kept = record { each = each; pictures = pictures; indexes = indexes; near = near } where
  each : (f : ℕ) → IfSome (slice_get sender.frames f)
      (λ frame. IsSomeAnd frame.layers (λ place. (place.tl0 < 256) × (frame.key ≡ true → place.tid ≡ 0)))
  each zero = (omega arith, λ e. refl)
  each (suc zero) = (omega arith, λ e. absurd (cc))
  each (suc (suc zero)) = (omega arith, λ e. absurd (cc))
  each (suc (suc (suc zero))) = (omega arith, λ e. absurd (cc))
  each (suc (suc (suc (suc f)))) = tt

  pictures : (f : ℕ) → IfSome (layers_at sender.frames f)
      (λ place. IfSome (layers_at sender.frames (f + 1)) (λ after. after.picture ≡ place.picture + 1))
  pictures zero = refl
  pictures (suc zero) = refl
  pictures (suc (suc zero)) = refl
  pictures (suc (suc (suc zero))) = tt
  pictures (suc (suc (suc (suc f)))) = tt

  index_5 : (g : ℕ) → IfSome (layers_at sender.frames g) (λ base. 5 ≡ base.tl0)
  index_5 zero = refl
  index_5 (suc zero) = refl
  index_5 (suc (suc zero)) = refl
  index_5 (suc (suc (suc zero))) = refl
  index_5 (suc (suc (suc (suc g)))) = tt

  indexes : (f g : ℕ) → IsLastOf sender.frames 0 f g → IfSome (layers_at sender.frames f)
      (λ place. IfSome (layers_at sender.frames g)
      (λ base. place.tl0 ≡ (if place.tid == 0 then index_after base.tl0 else base.tl0)))
  indexes zero g last = let before : g < 0 = last.before in absurd (omega arith)
  indexes (suc zero) g last = index_5 g
  indexes (suc (suc zero)) g last = index_5 g
  indexes (suc (suc (suc zero))) g last = index_5 g
  indexes (suc (suc (suc (suc f)))) g last = tt

  near : (f g : ℕ) → HasTid sender.frames f 0 → IsLastOf sender.frames 0 f g → f ≤ g + 127
  near zero g is last = omega arith
  near (suc zero) g is last = omega arith
  near (suc (suc zero)) g is last = omega arith
  near (suc (suc (suc zero))) g is last = omega arith
  near (suc (suc (suc (suc f)))) g is last = absurd is

-- the places and the parts of the frames
abbrev place : ℕ → ℕ
place f = f

abbrev parts : ℕ → List CarriedPart
parts zero = first_part ∷ []
parts (suc zero) = second_part ∷ []
parts (suc (suc zero)) = third_part ∷ []
parts (suc (suc (suc f))) = fourth_part ∷ []

-- the sender is honest
pub sender-honest : HonestSender settings codec sender
unfolding first_travels second_travels third_travels fourth_travels chains layers-kept
sender-honest = record {
  begins = omega arith;
  place = place;
  parts = parts;
  travels = travels;
  in_order = order;
  no_other = others;
  parity = no_parity;
  from_key = refl;
  references = chains;
  layers = inl layers-kept;
  apart = different;
} where
  travels : (f : ℕ) → IfSome (slice_get sender.frames f)
      (λ frame. Travels settings codec sender f frame (place f) (parts f))
  travels zero = first_travels
  travels (suc zero) = second_travels
  travels (suc (suc zero)) = third_travels
  travels (suc (suc (suc zero))) = fourth_travels
  travels (suc (suc (suc (suc f)))) = tt

  order : (f g : ℕ) → f < g → g < length sender.frames → place f + length (parts f) ≤ place g
  order zero g less within = omega arith
  order (suc zero) g less within = omega arith
  order (suc (suc zero)) g less within = omega arith
  order (suc (suc (suc f))) g less within = omega arith

  others : (i : ℕ) → i < length sender.packets →
      IsSomeAnd (slice_get sender.packets i) IsNoPart
      ⊎ ((f : ℕ) × (f < length sender.frames) × (place f ≤ i) × (i < place f + length (parts f)))
  others zero within = inr (0, omega arith, omega arith, omega arith)
  others (suc zero) within = inr (1, omega arith, omega arith, omega arith)
  others (suc (suc zero)) within = inr (2, omega arith, omega arith, omega arith)
  others (suc (suc (suc i))) within = inr (3, omega arith, omega arith, omega arith)

  no_parity : (i : ℕ) (payload : List ℕ) → slice_get sender.packets i ≡ Some (Fec payload) →
      IsTrueFec sender i payload
  no_parity zero payload is = absurd (cc)
  no_parity (suc zero) payload is = absurd (cc)
  no_parity (suc (suc zero)) payload is = absurd (cc)
  no_parity (suc (suc (suc zero))) payload is = absurd (cc)
  no_parity (suc (suc (suc (suc i)))) payload is = absurd (cc)

  different : (f : ℕ) → IfSome (slice_get sender.frames f)
      (λ frame. IfSome (slice_get sender.frames (f + 1)) (λ after. frame.ts ≢ after.ts))
  different zero = λ e. omega arith
  different (suc zero) = λ e. omega arith
  different (suc (suc zero)) = λ e. omega arith
  different (suc (suc (suc zero))) = tt
  different (suc (suc (suc (suc f)))) = tt

-- the packets travel as they are
first_plain : IsWireForm settings 1 (Media 0 0 first_text) first_text
first_plain = (
  first_part.packet,
  refl,
  record {
    how = Plain;
    wire = first_part.packet;
    travels = refl;
    carries = carry first_text first_part.packet refl refl refl;
  },
)

second_plain : IsWireForm settings 2 (Media 1 0 second_text) second_text
second_plain = (
  second_part.packet,
  refl,
  record {
    how = Plain;
    wire = second_part.packet;
    travels = refl;
    carries = carry second_text second_part.packet refl refl refl;
  },
)

third_plain : IsWireForm settings 3 (Media 2 0 third_text) third_text
third_plain = (
  third_part.packet,
  refl,
  record {
    how = Plain;
    wire = third_part.packet;
    travels = refl;
    carries = carry third_text third_part.packet refl refl refl;
  },
)

fourth_plain : IsWireForm settings 4 (Media 3 0 fourth_text) fourth_text
fourth_plain = (
  fourth_part.packet,
  refl,
  record {
    how = Plain;
    wire = fourth_part.packet;
    travels = refl;
    carries = carry fourth_text fourth_part.packet refl refl refl;
  },
)

-- pictures are near after any history: there are four frames only
of_few : (i f : ℕ) → IsSomeAnd (slice_get sender.packets i) (IsOf f) → f < 4
of_few zero f is = omega arith
of_few (suc zero) f is = omega arith
of_few (suc (suc zero)) f is = omega arith
of_few (suc (suc (suc zero))) f is = omega arith
of_few (suc (suc (suc (suc i)))) f is = absurd is

are_near : (js : List ℕ) (told : Told) → AreNearTold sender js told
are_near js [] = tt
are_near js (entry ∷ told) = (near, are_near js told) where
  near : (f g : ℕ) → IsOfFrame sender js entry.0 f → IsNewestTold sender js told g →
      (f < g + HALF_PICTURES) × (g < f + HALF_PICTURES)
  near f g of newest = let low : f < 4 = of_few of.0 f of.2 in
      let other : IsOfFrame sender js newest.entry.0 g = newest.of_frame in
      let low_other : g < 4 = of_few other.0 g other.2 in (omega arith, omega arith)

-- so the network needs to be honest of each event alone
abbrev AreDelivered : List Event → List Origin → List Event → List Origin → Type 0
AreDelivered h origins [] [] = Unit {0}
AreDelivered h origins [] (o ∷ os) = ⊥
AreDelivered h origins (e ∷ es) [] = ⊥
AreDelivered h origins (e ∷ es) (o ∷ os) =
    IsDelivery settings codec sender h origins e o × AreDelivered (e ∷ h) (o ∷ origins) es os

with_pictures : (h : List Event) (origins : List Origin) (es : List Event) (os : List Origin) →
    AreDelivered h origins es os → HonestNetwork settings codec sender h origins es os
with_pictures h origins [] [] are = tt
with_pictures h origins [] (o ∷ os) are = absurd are
with_pictures h origins (e ∷ es) [] are = absurd are
with_pictures h origins (e ∷ es) (o ∷ os) are = (
  are.0,
  are_near (packets_taken settings codec (e ∷ h) (o ∷ origins)) (latest (snapshots settings codec (e ∷ h))).told,
  with_pictures (e ∷ h) (o ∷ origins) es os are.1,
)

-- packet 0, a pull, packet 3, a pull, packet 1, a pull, packet 2, and two pulls
abbrev events : List Event
events = Datagram 0 first_text ∷ Pull 1 ∷ Datagram 2 fourth_text ∷ Pull 3 ∷ Datagram 4 second_text ∷ Pull 5
    ∷ Datagram 6 third_text ∷ Pull 7 ∷ Pull 8 ∷ []

abbrev origins : List Origin
origins = FromSender 0 ∷ Elsewhere ∷ FromSender 3 ∷ Elsewhere ∷ FromSender 1 ∷ Elsewhere ∷ FromSender 2 ∷ Elsewhere
    ∷ Elsewhere ∷ []

each_delivered : AreDelivered [] [] events origins
unfolding repairs_in snapshots packets_taken
each_delivered = (
  (first_plain, tt),
  (
    tt,
    (
      (fourth_plain, (omega arith, omega arith)),
      (
        tt,
        (
          (second_plain, (omega arith, omega arith)),
          (tt, ((third_plain, (omega arith, omega arith)), (tt, (tt, tt)))),
        ),
      ),
    ),
  ),
)

-- the network is honest
pub network-honest : HonestNetwork settings codec sender [] [] events origins
network-honest = with_pictures [] [] events origins each_delivered

-- a NACK of the numbers 2 and 3, from 11 about 10 (RFC 4585 6.2.1)
abbrev nack : List ℕ
nack = 129 ∷ 205 ∷ 0 ∷ 3 ∷ 0 ∷ 0 ∷ 0 ∷ 11 ∷ 0 ∷ 0 ∷ 0 ∷ 10 ∷ 0 ∷ 2 ∷ 0 ∷ 1 ∷ []

abbrev quiet : Feedback
quiet = record { nack = None; pli = None }

abbrev asks : Feedback
asks = record { nack = Some (record { items = nack }); pli = None }

-- the reply to a datagram
abbrev answered : What → Feedback → Reply
answered what feedback = ToDatagram (record { what = what; repaired = []; feedback = feedback })

-- the reply to a pull that gives a frame of one packet
abbrev gives : (number ts octet : ℕ) → Bool → Reply
gives number ts octet key =
    ToPull (Frame (record { first = number; last = number; ts = ts; key = key; bytes = octet ∷ [] }))

-- The last frame isn't given before the pictures between came; then all are, in order
pub frames_pulled : replies settings codec [] events
    ≡ answered (what.Media 65537) quiet ∷ gives 65537 0 170 true
    ∷ answered (what.Media 65540) asks ∷ ToPull NotReady
    ∷ answered (what.Media 65538) quiet ∷ gives 65538 9 187 false
    ∷ answered (what.Media 65539) quiet ∷ gives 65539 18 204 false ∷ gives 65540 27 221 false ∷ []
unfolding repairs_in replies reply snapshots
frames_pulled = refl

-- what came before packet 2, and that with packet 2
abbrev before_third : List Event
before_third = Pull 5 ∷ Datagram 4 second_text ∷ Pull 3 ∷ Datagram 2 fourth_text ∷ Pull 1 ∷ Datagram 0 first_text ∷ []

abbrev after_third : List Event
after_third = Datagram 6 third_text ∷ before_third

abbrev origins_before : List Origin
origins_before = Elsewhere ∷ FromSender 1 ∷ Elsewhere ∷ FromSender 3 ∷ Elsewhere ∷ FromSender 0 ∷ []

abbrev origins_after : List Origin
origins_after = FromSender 2 ∷ origins_before

-- what packets told of the places of their frames; the count of pictures begins at 32,768 more than that of the sender
abbrev place_with : (picture tid : ℕ) → Bool → Place
place_with picture tid sync = record { picture = picture; tl0 = 5; tid = tid; sync = sync }

pub told_is : (latest (snapshots settings codec after_third)).told
    ≡ (65539, place_with 65537 1 true) ∷ (65538, place_with 65536 2 true) ∷ (65540, place_with 65538 2 false)
    ∷ (65537, place_with 65535 0 false) ∷ []
unfolding repairs_in snapshots
told_is = refl

-- these are numbers of the sender's frames, so that it is asked of each whether its picture is near
pub told_of : let js : List ℕ = packets_taken settings codec after_third origins_after in
    IsOfFrame sender js 65539 2 × IsOfFrame sender js 65538 1 × IsOfFrame sender js 65540 3
    × IsOfFrame sender js 65537 0
unfolding repairs_in snapshots packets_taken
told_of = ((2, refl, refl), (1, refl, refl), (3, refl, refl), (0, refl, refl))

-- how far the runs that stand are from being decoded, after a history
abbrev all_judged : List Event → List Judgement
all_judged h = let s : Snapshot = latest (snapshots settings codec h) in
    map (judged s.told s.pulled s.front) s.standing

-- it isn't known to what the last frame refers, as long as a picture between wasn't seen
pub unknown : all_judged before_third ≡ Unknown ∷ []
unfolding repairs_in snapshots
unknown = refl

-- then it waits for the frame of that picture, which waits for none
pub waits : all_judged after_third ≡ Needs [] ∷ Needs (65537 ∷ []) ∷ []
unfolding repairs_in snapshots
waits = refl

-- the stop of the last frame is the keyframe
have_last : HaveLast sender.frames 2 3
unfolding base_of_fourth last_of_tid_1 last_of_tid_2
have_last zero up_to = (0, base_of_fourth)
have_last (suc zero) up_to = (2, last_of_tid_1)
have_last (suc (suc zero)) up_to = (1, last_of_tid_2)
have_last (suc (suc (suc t))) up_to = absurd (omega arith)

stop_of_fourth : IsStop sender.frames 2 3 0
stop_of_fourth = inl (have_last, (0, omega arith, base_of_fourth), λ g last. omega arith)

-- no other is
only_stop : (at : ℕ) → IsStop sender.frames 2 3 at → at ≡ 0
only_stop at (inl stop) = let least : at ≤ 0 = stop.2 0 (0, omega arith, base_of_fourth) in omega arith
only_stop at (inr stop) = absurd (stop.0 have_last)

-- a packet of frame 2 hasn't come before packet 2
not_come : SomeHasCome settings codec sender before_third origins_before 2 → ⊥
unfolding repairs_in snapshots packets_taken
not_come (zero, has, of) = omega arith
not_come (suc zero, has, of) = omega arith
not_come (suc (suc zero), inl taken, of) = elim (Contains-either 1 (3 ∷ 0 ∷ []) 2 taken) [
  | inl same ↦ omega arith
  | inr later ↦ elim (Contains-either 3 (0 ∷ []) 2 later) [
    | inl same ↦ omega arith
    | inr last ↦ elim (Contains-either 0 [] 2 last) [
      | inl same ↦ omega arith
      | inr none ↦ Contains-empty 2 none
    ]
  ]
]
not_come (suc (suc zero), inr (n, is, repaired), of) = none repaired where
  none : IsRepaired (snapshots settings codec before_third) n → ⊥
  none (inl there) = Contains-empty n there
  none (inr (inl there)) = Contains-empty n there
  none (inr (inr (inl there))) = Contains-empty n there
  none (inr (inr (inr (inl there)))) = Contains-empty n there
  none (inr (inr (inr (inr (inl there))))) = Contains-empty n there
  none (inr (inr (inr (inr (inr (inl there)))))) = Contains-empty n there
  none (inr (inr (inr (inr (inr (inr (inl there))))))) = Contains-empty n there
  none (inr (inr (inr (inr (inr (inr (inr past))))))) = past
not_come (suc (suc (suc zero)), has, of) = omega arith
not_come (suc (suc (suc (suc i))), has, of) = of

-- so the stop isn't seen before packet 2 came
pub stop_unseen : StopIsSeen settings codec sender before_third origins_before 2 3 → ⊥
stop_unseen seen = let at_0 : seen.at ≡ 0 = only_stop seen.at seen.is_stop in
    not_come (seen.seen 2 (omega arith) (omega arith))

-- and it is seen then
pub stop_seen : StopIsSeen settings codec sender after_third origins_after 2 3
unfolding repairs_in snapshots packets_taken
stop_seen = record { at = 0; is_stop = stop_of_fourth; near = omega arith; seen = each } where
  each : (g : ℕ) → 0 ≤ g → g < 3 → SomeHasCome settings codec sender after_third origins_after g
  each zero from before = (0, inl (3, omega arith, refl), refl)
  each (suc zero) from before = (1, inl (1, omega arith, refl), refl)
  each (suc (suc zero)) from before = (2, inl (0, omega arith, refl), refl)
  each (suc (suc (suc g))) from before = absurd (omega arith)

-- packets 0 and 2, two pulls, packet 1 late, packet 3, and a pull
abbrev late_events : List Event
late_events = Datagram 0 first_text ∷ Datagram 1 third_text ∷ Pull 2 ∷ Pull 3 ∷ Datagram 4 second_text
    ∷ Datagram 5 fourth_text ∷ Pull 6 ∷ []

abbrev late_origins : List Origin
late_origins = FromSender 0 ∷ FromSender 2 ∷ Elsewhere ∷ Elsewhere ∷ FromSender 1 ∷ FromSender 3 ∷ Elsewhere ∷ []

late_delivered : AreDelivered [] [] late_events late_origins
unfolding repairs_in snapshots packets_taken
late_delivered = (
  (first_plain, tt),
  (
    (third_plain, (omega arith, omega arith)),
    (
      tt,
      (
        tt,
        (
          (second_plain, (omega arith, omega arith)),
          ((fourth_plain, (omega arith, omega arith)), (tt, tt)),
        ),
      ),
    ),
  ),
)

-- the network is honest
pub late-honest : HonestNetwork settings codec sender [] [] late_events late_origins
late-honest = with_pictures [] [] late_events late_origins late_delivered

-- a NACK of the number 2 alone
abbrev nack_one : List ℕ
nack_one = 129 ∷ 205 ∷ 0 ∷ 3 ∷ 0 ∷ 0 ∷ 0 ∷ 11 ∷ 0 ∷ 0 ∷ 0 ∷ 10 ∷ 0 ∷ 2 ∷ 0 ∷ 0 ∷ []

abbrev asks_one : Feedback
asks_one = record { nack = Some (record { items = nack_one }); pli = None }

-- The frame of TID 1 is given without the one of TID 2 before it, since it refers to its base only. So that one is
-- passed over, and the last frame, which refers to it, isn't given
pub late_pulled : replies settings codec [] late_events
    ≡ answered (what.Media 65537) quiet ∷ answered (what.Media 65539) asks_one
    ∷ gives 65537 0 170 true ∷ gives 65539 18 204 false
    ∷ answered (what.Media 65538) quiet ∷ answered (what.Media 65540) quiet ∷ ToPull NotReady ∷ []
unfolding repairs_in replies reply snapshots
late_pulled = refl
