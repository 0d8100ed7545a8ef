-- An honest call of VP8 with loss, repair, packets sent again and layers at once, worked by hand: the premises of the
-- law of honest calls can be met by it. A sender of five frames in three temporal layers sends a FEC packet and an
-- empty one, too; its sequence numbers and its pictures wrap. The network loses one packet, brings others out of
-- order or twice, and some in RED, sent again, or in RED and sent again. The packet that is lost is repaired. Another
-- one comes only after it was asked for ten times and given up, which brings a request for a keyframe; and the last
-- frame, which doesn't refer to it, is given.
use Rattle.std.proofs.Common.{append-nil, ◌≢◌, ◌≤◌, ◌<◌, ◌≡◌, ◌∙◌, ◌⊎◌, ap, inl, inr, Contains, All, ℕ, zero, suc, ◌+◌, Bool, true, false, if◌then◌else◌, List, [], ◌∷◌, length, Some, None, Ok, IfSome, IsSomeAnd, slice_get, refl, subst, sym, arith}
use Rattle.std.specs.Prelude.{drop, nat_le, nat_lt, ◌==◌, IsErr}
use Rattle.std.specs.List.{list_all}
use Rattle.std.specs.Option.{option_map}
use Rattle.std.proofs.lemmas.Bool.{leb-true}
use Rattle.std.proofs.lemmas.List.Elements.{All-cons, All-nil, All-from_recursion}
use Rattle.std.proofs.lemmas.List.Sorted.{IsPermutation-refl}
use Rattle.vrx_num.specs.declared.limits.TheConstants.{HALF_PICTURES, MOST_OCTETS}
use Rattle.vrx_num.specs.Index.{index_after}
use Rattle.vrx_rtp.specs.Packet.{Packet}
use Rattle.vrx_rtp.specs.Reading.{read}
use Rattle.vrx_window.specs.Sound.{on_wire}
use Rattle.vrx_rtcp.specs.declared.feedback.Feedback.{Feedback}
use Rattle.vrx_rtcp.specs.Compound.{are_packets, is_compound}
use Rattle.vrx_rtcp.specs.Fault.{first_fault}
use Rattle.vrx_rtcp.specs.Field.{size}
use Rattle.vrx_wrap.specs.Red.{red_of}
use Rattle.vrx_wrap.specs.Rtx.{rtx_of}
use Rattle.vrx_codec.specs.declared.part.Start.TheVariants.{Yes}
use Rattle.vrx_codec.specs.declared.run.Place.{Place}
use Rattle.vrx_vp8.specs.Descriptor.{read_part, vp8}
use Rattle.vrx_fec.specs.Parity.{Texts, body_of, octet_at, recovery, spans_of, xor_of_fields, xor_of_octets}
use Rattle.vrx_fec.specs.Payload.{FitsLevel, IsPayload, Level, Payload}
use Rattle.vrx_repair.specs.Plan.{repairs_in}
use Rattle.vrx_core.specs.machine.SettingsFault.{fault_of}
use Rattle.vrx_core.specs.machine.Original.{original}
use Rattle.vrx_core.specs.machine.Told.{Told}
use Rattle.vrx_core.specs.machine.Machine.{Reply, ToDatagram, ToTick, ToPull, Snapshot, latest, next, opening, replies, reply, reply_between, snapshots}
use Rattle.vrx_core.specs.honest.Sender.{SentFrame, SentPacket, Media, Fec, Empty, Sender, IsNoPart, IsOf, wire_of}
use Rattle.vrx_core.specs.honest.WireForm.{Plain, Carries, InRed, Again, RedAgain, bare_red, IsWireForm}
use Rattle.vrx_core.specs.honest.Layers.{HasTid, IsKey, IsLastOf, IsLastSinceKey, KeepsLayers, layers_at}
use Rattle.vrx_core.specs.honest.Chain.{InChain}
use Rattle.vrx_core.specs.honest.Number.{IsOfFrame}
use Rattle.vrx_core.specs.honest.HonestCall.{frames_of}
use Rattle.vrx_core.specs.honest.HonestSender.{CarriedPart, HasText, IsPart, IsTrueFec, Travels, HonestSender}
use Rattle.vrx_core.specs.honest.HonestNetwork.{Origin, FromSender, Elsewhere, AreNearTold, HonestNetwork, IsDelivery, IsNear, IsNewestTold, greatest, packets_taken, takes}
use Rattle.vrx_core.specs.declared.settings.Settings.{Settings}
use Rattle.vrx_core.specs.declared.event.Event.{Event}
use Rattle.vrx_core.specs.declared.event.Event.TheVariants.{Datagram, Tick, Pull}
use Rattle.vrx_core.specs.declared.reply.What.{What}
use Rattle.vrx_core.specs.declared.reply.What.TheVariants as what
use Rattle.vrx_core.specs.declared.reply.Reason.TheVariants.{Dead, Repeat}
use Rattle.vrx_core.specs.declared.reply.Pulled.TheVariants.{Frame, NotReady}
use Rattle.vrx_rows.proofs.MemberLemmas.{not_empty}
use Rattle.vrx_rows.proofs.HonestRows.{are_octets, carry, only_one}

-- media and FEC may come in RED, and media and RED may be sent again
abbrev pub settings : Settings
settings = record {
  media_ssrc = 10;
  media_type = 96;
  red = Some (record { red_type = 100; fec_type = Some 101 });
  rtx = Some (record { ssrc = 12; media_rtx_type = 97; red_rtx_type = Some 98 });
  from_ssrc = 11;
  interval = 100;
}

-- they have no fault
pub no_fault : fault_of settings ≡ None
no_fault = refl

-- ---- the sender

-- Five frames, each in one packet: a keyframe of TID 0; one of TID 2 and one of TID 1, which refer to their base
-- only; one of TID 2 that doesn't; and one of TID 0. The sequence numbers are 65534, 65535, 0, 3 and 4, and the
-- second picture is the first that has more than 15 bits
abbrev first_text : List ℕ
first_text = 128 ∷ 224 ∷ 255 ∷ 254 ∷ 0 ∷ 0 ∷ 0 ∷ 0 ∷ 0 ∷ 0 ∷ 0 ∷ 10 ∷ 144 ∷ 224 ∷ 255 ∷ 255 ∷ 5 ∷ 0 ∷ 0 ∷ 170 ∷ []

abbrev second_text : List ℕ
second_text =
    128 ∷ 224 ∷ 255 ∷ 255 ∷ 0 ∷ 0 ∷ 0 ∷ 9 ∷ 0 ∷ 0 ∷ 0 ∷ 10 ∷ 144 ∷ 224 ∷ 128 ∷ 0 ∷ 5 ∷ 160 ∷ 1 ∷ 187 ∷ 7 ∷ []

abbrev third_text : List ℕ
third_text = 128 ∷ 224 ∷ 0 ∷ 0 ∷ 0 ∷ 0 ∷ 0 ∷ 18 ∷ 0 ∷ 0 ∷ 0 ∷ 10 ∷ 144 ∷ 224 ∷ 128 ∷ 1 ∷ 5 ∷ 96 ∷ 1 ∷ 204 ∷ []

abbrev fourth_text : List ℕ
fourth_text = 128 ∷ 224 ∷ 0 ∷ 3 ∷ 0 ∷ 0 ∷ 0 ∷ 27 ∷ 0 ∷ 0 ∷ 0 ∷ 10 ∷ 144 ∷ 224 ∷ 128 ∷ 2 ∷ 5 ∷ 128 ∷ 1 ∷ 221 ∷ []

abbrev fifth_text : List ℕ
fifth_text = 128 ∷ 224 ∷ 0 ∷ 4 ∷ 0 ∷ 0 ∷ 0 ∷ 36 ∷ 0 ∷ 0 ∷ 0 ∷ 10 ∷ 144 ∷ 224 ∷ 128 ∷ 3 ∷ 6 ∷ 0 ∷ 1 ∷ 238 ∷ []

-- The FEC packet over the second and the third, under the number 1: its payload, its header and its level
abbrev fec_payload : List ℕ
fec_payload =
    0 ∷ 0 ∷ 255 ∷ 255 ∷ 0 ∷ 0 ∷ 0 ∷ 27 ∷ 0 ∷ 1 ∷ 0 ∷ 9 ∷ 192 ∷ 0 ∷ 0 ∷ 0 ∷ 0 ∷ 1 ∷ 0 ∷ 192 ∷ 0 ∷ 119 ∷ 7 ∷ []

abbrev fec_head : List ℕ
fec_head = 0 ∷ 0 ∷ 255 ∷ 255 ∷ 0 ∷ 0 ∷ 0 ∷ 27 ∷ 0 ∷ 1 ∷ []

abbrev fec_level : Level
fec_level = record { mask = 49152; octets = 0 ∷ 0 ∷ 0 ∷ 1 ∷ 0 ∷ 192 ∷ 0 ∷ 119 ∷ 7 ∷ [] }

abbrev fec_says : Payload
fec_says = record { head = fec_head; long = false; base = 65535; levels = fec_level ∷ [] }

abbrev fec_texts : Texts
fec_texts = (0, second_text) ∷ (1, third_text) ∷ []

-- the place of a frame
abbrev place_with : (picture tl0 tid : ℕ) → Bool → Place
place_with picture tl0 tid sync = record { picture = picture; tl0 = tl0; tid = tid; sync = sync }

abbrev first_frame : SentFrame
first_frame = record {
  bytes = 0 ∷ 170 ∷ [];
  key = true;
  ts = 0;
  layers = Some (place_with 32767 5 0 false);
  references = [];
}

abbrev second_frame : SentFrame
second_frame = record {
  bytes = 1 ∷ 187 ∷ 7 ∷ [];
  key = false;
  ts = 9;
  layers = Some (place_with 32768 5 2 true);
  references = 0 ∷ [];
}

abbrev third_frame : SentFrame
third_frame = record {
  bytes = 1 ∷ 204 ∷ [];
  key = false;
  ts = 18;
  layers = Some (place_with 32769 5 1 true);
  references = 0 ∷ [];
}

abbrev fourth_frame : SentFrame
fourth_frame = record {
  bytes = 1 ∷ 221 ∷ [];
  key = false;
  ts = 27;
  layers = Some (place_with 32770 5 2 false);
  references = 0 ∷ 2 ∷ 1 ∷ [];
}

abbrev fifth_frame : SentFrame
fifth_frame = record {
  bytes = 1 ∷ 238 ∷ [];
  key = false;
  ts = 36;
  layers = Some (place_with 32771 6 0 false);
  references = 0 ∷ [];
}

abbrev pub sender : Sender
sender = record {
  first_wire = 65534;
  frames = first_frame ∷ second_frame ∷ third_frame ∷ fourth_frame ∷ fifth_frame ∷ [];
  packets =
      Media 0 0 first_text ∷ Media 1 0 second_text ∷ Media 2 0 third_text ∷ Fec fec_payload ∷ Empty
      ∷ Media 3 0 fourth_text ∷ Media 4 0 fifth_text ∷ [];
}

-- a packet of the source, the last of its frame
abbrev packet_with : (seq ts : ℕ) → List ℕ → Packet
packet_with seq ts payload = record {
  marker = true;
  pt = 96;
  seq = seq;
  ts = ts;
  ssrc = 10;
  csrc = [];
  extension = None;
  payload = payload;
  padding = 0;
}

-- what packet i carries with this text: the one part of a frame
abbrev carried_by : ℕ → SentFrame → List ℕ → CarriedPart
carried_by i frame text = record {
  text = text;
  packet = packet_with (wire_of sender i) frame.ts (drop 12 text);
  part = record {
    start = Yes;
    key = frame.key;
    layers = option_map on_wire frame.layers;
    body = frame.bytes;
  };
}

-- The frame travels so, if packet i is it, and has a text that isn't too long, reads as that packet, and has a
-- payload that reads as that part
whole_travels : (f i : ℕ) (frame : SentFrame) (text : List ℕ) →
    slice_get sender.packets i ≡ Some (Media f 0 text) → nat_le (length text) MOST_OCTETS ≡ true →
    list_all (λ octet. nat_lt octet 256) text ≡ true → read text ≡ Some (carried_by i frame text).packet →
    drop 12 text ≢ [] → read_part (drop 12 text) ≡ Ok (carried_by i frame text).part →
    Travels settings vp8 sender f frame i (carried_by i frame text ∷ [])
whole_travels f i frame text sent short small reads some says = record {
  some = omega arith;
  each = (is_part, tt);
  joins = ap (λ (bytes : List ℕ). Ok bytes) (append-nil frame.bytes);
  key = (λ e. (carried_by i frame text, (0, omega arith, refl), e), λ p. key_of p.0 p.1 p.2);
} where
  is_part : IsPart settings vp8 sender f frame 1 0 i (carried_by i frame text)
  is_part = record {
    sent = sent;
    media = record {
      size = leb-true (length text) MOST_OCTETS short;
      below = are_octets text small;
      reads = reads;
      no_padding = refl;
      number = refl;
      type = refl;
      source = refl;
      payload = some;
      part_reads = says;
    };
    timestamp = refl;
    marker = (λ e. refl, λ e. refl);
    start = refl;
    layers = refl;
  }

  key_of : (c : CarriedPart) → Contains (carried_by i frame text ∷ []) c → c.part.key ≡ true → frame.key ≡ true
  key_of c there key = ap (λ (x : CarriedPart). x.part.key) (only_one (carried_by i frame text) c there) ∙ key

-- what the packets carry, and that the frames travel in them
abbrev first_part : CarriedPart
first_part = carried_by 0 first_frame first_text

first_travels : Travels settings vp8 sender 0 first_frame 0 (first_part ∷ [])
first_travels = whole_travels 0 0 first_frame first_text refl refl refl refl (λ e. cc) refl

abbrev second_part : CarriedPart
second_part = carried_by 1 second_frame second_text

second_travels : Travels settings vp8 sender 1 second_frame 1 (second_part ∷ [])
second_travels = whole_travels 1 1 second_frame second_text refl refl refl refl (λ e. cc) refl

abbrev third_part : CarriedPart
third_part = carried_by 2 third_frame third_text

third_travels : Travels settings vp8 sender 2 third_frame 2 (third_part ∷ [])
third_travels = whole_travels 2 2 third_frame third_text refl refl refl refl (λ e. cc) refl

abbrev fourth_part : CarriedPart
fourth_part = carried_by 5 fourth_frame fourth_text

fourth_travels : Travels settings vp8 sender 3 fourth_frame 5 (fourth_part ∷ [])
fourth_travels = whole_travels 3 5 fourth_frame fourth_text refl refl refl refl (λ e. cc) refl

abbrev fifth_part : CarriedPart
fifth_part = carried_by 6 fifth_frame fifth_text

fifth_travels : Travels settings vp8 sender 4 fifth_frame 6 (fifth_part ∷ [])
fifth_travels = whole_travels 4 6 fifth_frame fifth_text refl refl refl refl (λ e. cc) refl

-- the parity of both texts, field by field and octet by octet
fec_fields : (k : ℕ) → k < 8 → octet_at k (recovery fec_head) ≡ xor_of_fields k fec_texts
fec_fields zero lt = refl
fec_fields (suc zero) lt = refl
fec_fields (suc (suc zero)) lt = refl
fec_fields (suc (suc (suc zero))) lt = refl
fec_fields (suc (suc (suc (suc zero)))) lt = refl
fec_fields (suc (suc (suc (suc (suc zero))))) lt = refl
fec_fields (suc (suc (suc (suc (suc (suc zero)))))) lt = refl
fec_fields (suc (suc (suc (suc (suc (suc (suc zero))))))) lt = refl
fec_fields (suc (suc (suc (suc (suc (suc (suc (suc k)))))))) lt = absurd (omega arith)

fec_body : (k : ℕ) → k < 9 →
    octet_at k (body_of fec_says.levels) ≡ xor_of_octets false (spans_of fec_says.levels) k fec_texts
fec_body zero lt = refl
fec_body (suc zero) lt = refl
fec_body (suc (suc zero)) lt = refl
fec_body (suc (suc (suc zero))) lt = refl
fec_body (suc (suc (suc (suc zero)))) lt = refl
fec_body (suc (suc (suc (suc (suc zero))))) lt = refl
fec_body (suc (suc (suc (suc (suc (suc zero)))))) lt = refl
fec_body (suc (suc (suc (suc (suc (suc (suc zero))))))) lt = refl
fec_body (suc (suc (suc (suc (suc (suc (suc (suc zero)))))))) lt = refl
fec_body (suc (suc (suc (suc (suc (suc (suc (suc (suc k))))))))) lt = absurd (omega arith)

-- the octets are that payload
fec_spells : IsPayload fec_payload 1 fec_says
fec_spells = record {
  spelled = refl;
  head = refl;
  long = refl;
  base = refl;
  few = omega arith;
  fits =
      All-cons (FitsLevel false) fec_level [] (record { mask = omega arith; size = omega arith })
      (All-nil (FitsLevel false));
  nested = refl;
  protects = refl;
  before = refl;
}

-- the FEC packet is true
pub fec_true : IsTrueFec sender 3 fec_payload
unfolding fec_spells
fec_true = record {
  says = fec_says;
  back = 2;
  texts = fec_texts;
  below = are_octets fec_payload refl;
  spells = fec_spells;
  near = omega arith;
  base_is = refl;
  true_is = record {
    protects = IsPermutation-refl (0 ∷ 1 ∷ []);
    parity = record { fields = fec_fields; body = fec_body };
  };
  protects =
      All-cons Protected (0, second_text) ((1, third_text) ∷ []) (1, refl, refl)
      (All-cons Protected (1, third_text) [] (2, refl, refl) (All-nil Protected));
} where
  Protected : ℕ × List ℕ → Type 0
  Protected t = (j : ℕ) × (j + 2 ≡ 3 + t.0) × IsSomeAnd (slice_get sender.packets j) (HasText t.1)

-- frame 0 is the last one of TID 0 before each of the others, frame 2 the last of TID 1 before frame 3, and frame 1
-- the last of TID 2
no_other_base : (h : ℕ) → 0 < h → h < 4 → HasTid sender.frames h 0 → ⊥
no_other_base zero after before is = omega arith
no_other_base (suc zero) after before is = omega arith
no_other_base (suc (suc zero)) after before is = omega arith
no_other_base (suc (suc (suc zero))) after before is = omega arith
no_other_base (suc (suc (suc (suc h)))) after before is = omega arith

is_base : (f : ℕ) → 0 < f → f ≤ 4 → IsLastOf sender.frames 0 f 0
is_base f after within = record {
  before = after;
  of_tid = refl;
  last = λ h after before is. no_other_base h after (omega arith) is;
}

no_other_key : (h : ℕ) → 0 < h → h < 3 → IsKey sender.frames h → ⊥
no_other_key zero after before is = omega arith
no_other_key (suc zero) after before is = absurd (cc)
no_other_key (suc (suc zero)) after before is = absurd (cc)
no_other_key (suc (suc (suc h))) after before is = omega arith

last_of_tid_0 : IsLastSinceKey sender.frames 0 3 0
last_of_tid_0 = record { last_of = is_base 3 (omega arith) (omega arith); since_key = no_other_key }

last_of_tid_1 : IsLastSinceKey sender.frames 1 3 2
last_of_tid_1 = record {
  last_of = record { before = omega arith; of_tid = refl; last = λ h after before is. omega arith };
  since_key = λ h after before is. omega arith;
}

last_of_tid_2 : IsLastSinceKey sender.frames 2 3 1
last_of_tid_2 = record {
  last_of = record { before = omega arith; of_tid = refl; last = none };
  since_key = λ h after before is. no_other_key h (omega arith) before is;
} where
  none : (h : ℕ) → 1 < h → h < 3 → HasTid sender.frames h 2 → ⊥
  none zero after before is = omega arith
  none (suc zero) after before is = omega arith
  none (suc (suc zero)) after before is = omega arith
  none (suc (suc (suc h))) after before is = omega arith

-- so the references of each frame lie in its chain
chains : (f : ℕ) → IfSome (slice_get sender.frames f) (λ frame. All (λ g. InChain sender f g) frame.references)
chains zero = All-nil (λ g. InChain sender 0 g)
chains (suc zero) = All-from_recursion (λ g. InChain sender 1 g) (0 ∷ [])
    (([], (refl, is_base 1 (omega arith) (omega arith))), tt)
chains (suc (suc zero)) = All-from_recursion (λ g. InChain sender 2 g) (0 ∷ [])
    (([], (refl, is_base 2 (omega arith) (omega arith))), tt)
chains (suc (suc (suc zero))) = All-from_recursion (λ g. InChain sender 3 g) (0 ∷ 2 ∷ 1 ∷ []) (
  ([], (refl, (0, omega arith, last_of_tid_0))),
  (
    ([], (refl, (1, omega arith, last_of_tid_1))),
    (([], (refl, (2, omega arith, last_of_tid_2))), tt),
  ),
)
chains (suc (suc (suc (suc zero)))) = All-from_recursion (λ g. InChain sender 4 g) (0 ∷ [])
    (([], (refl, is_base 4 (omega arith) (omega arith))), tt)
chains (suc (suc (suc (suc (suc f))))) = tt

-- the sender keeps to the rules of layers
pub layers-kept : KeepsLayers sender.frames
layers-kept = record { each = each; pictures = pictures; indexes = indexes; near = near } where
  each : (f : ℕ) → IfSome (slice_get sender.frames f)
      (λ frame. IsSomeAnd frame.layers (λ place. (place.tl0 < 256) × (frame.key ≡ true → place.tid ≡ 0)))
  each zero = (omega arith, λ e. refl)
  each (suc zero) = (omega arith, λ e. absurd (cc))
  each (suc (suc zero)) = (omega arith, λ e. absurd (cc))
  each (suc (suc (suc zero))) = (omega arith, λ e. absurd (cc))
  each (suc (suc (suc (suc zero)))) = (omega arith, λ e. refl)
  each (suc (suc (suc (suc (suc f))))) = tt

  pictures : (f : ℕ) → IfSome (layers_at sender.frames f)
      (λ place. IfSome (layers_at sender.frames (f + 1)) (λ after. after.picture ≡ place.picture + 1))
  pictures zero = refl
  pictures (suc zero) = refl
  pictures (suc (suc zero)) = refl
  pictures (suc (suc (suc zero))) = refl
  pictures (suc (suc (suc (suc zero)))) = tt
  pictures (suc (suc (suc (suc (suc f))))) = tt

  -- what is before the last frame and has TID 0 is the keyframe
  on_key : (g : ℕ) → g < 4 → HasTid sender.frames g 0 → g ≡ 0
  on_key zero before is = refl
  on_key (suc g) before is = absurd (no_other_base (suc g) (omega arith) before is)

  index_of : (f g : ℕ) → g ≡ 0 → IfSome (layers_at sender.frames f)
      (λ place. place.tl0 ≡ (if place.tid == 0 then 6 else 5)) → IfSome (layers_at sender.frames f)
      (λ place. IfSome (layers_at sender.frames g)
      (λ base. place.tl0 ≡ (if place.tid == 0 then index_after base.tl0 else base.tl0)))
  index_of f g e index = subst (λ (n : ℕ). IfSome (layers_at sender.frames f)
      (λ place. IfSome (layers_at sender.frames n)
      (λ base. place.tl0 ≡ (if place.tid == 0 then index_after base.tl0 else base.tl0)))) (sym e) index

  indexes : (f g : ℕ) → IsLastOf sender.frames 0 f g → IfSome (layers_at sender.frames f)
      (λ place. IfSome (layers_at sender.frames g)
      (λ base. place.tl0 ≡ (if place.tid == 0 then index_after base.tl0 else base.tl0)))
  indexes zero g last = let before : g < 0 = last.before in absurd (omega arith)
  indexes (suc zero) g last =
      let before : g < 1 = last.before in index_of 1 g (on_key g (omega arith) last.of_tid) refl
  indexes (suc (suc zero)) g last =
      let before : g < 2 = last.before in index_of 2 g (on_key g (omega arith) last.of_tid) refl
  indexes (suc (suc (suc zero))) g last =
      let before : g < 3 = last.before in index_of 3 g (on_key g (omega arith) last.of_tid) refl
  indexes (suc (suc (suc (suc zero)))) g last =
      let before : g < 4 = last.before in index_of 4 g (on_key g before last.of_tid) refl
  indexes (suc (suc (suc (suc (suc f))))) g last = tt

  near : (f g : ℕ) → HasTid sender.frames f 0 → IsLastOf sender.frames 0 f g → f ≤ g + 127
  near zero g is last = omega arith
  near (suc zero) g is last = omega arith
  near (suc (suc zero)) g is last = omega arith
  near (suc (suc (suc zero))) g is last = omega arith
  near (suc (suc (suc (suc zero)))) g is last = omega arith
  near (suc (suc (suc (suc (suc f))))) g is last = absurd is

-- the places and the parts of the frames
abbrev place : ℕ → ℕ
place zero = 0
place (suc zero) = 1
place (suc (suc zero)) = 2
place (suc (suc (suc f))) = f + 5

abbrev parts : ℕ → List CarriedPart
parts zero = first_part ∷ []
parts (suc zero) = second_part ∷ []
parts (suc (suc zero)) = third_part ∷ []
parts (suc (suc (suc zero))) = fourth_part ∷ []
parts (suc (suc (suc (suc f)))) = fifth_part ∷ []

one_part : (f : ℕ) → length (parts f) ≡ 1
one_part zero = refl
one_part (suc zero) = refl
one_part (suc (suc zero)) = refl
one_part (suc (suc (suc zero))) = refl
one_part (suc (suc (suc (suc f)))) = refl

places_rise : (f g : ℕ) → f < g → place f < place g
places_rise f zero less = absurd (omega arith)
places_rise zero (suc zero) less = omega arith
places_rise zero (suc (suc zero)) less = omega arith
places_rise zero (suc (suc (suc g))) less = omega arith
places_rise (suc f) (suc zero) less = absurd (omega arith)
places_rise (suc zero) (suc (suc zero)) less = omega arith
places_rise (suc zero) (suc (suc (suc g))) less = omega arith
places_rise (suc (suc f)) (suc (suc zero)) less = absurd (omega arith)
places_rise (suc (suc zero)) (suc (suc (suc g))) less = omega arith
places_rise (suc (suc (suc f))) (suc (suc (suc g))) less = omega arith

-- the sender is honest
pub sender-honest : HonestSender settings vp8 sender
unfolding first_travels second_travels third_travels fourth_travels fifth_travels chains layers-kept
sender-honest = record {
  begins = omega arith;
  place = place;
  parts = parts;
  travels = travels;
  in_order = order;
  no_other = others;
  parity = parity;
  from_key = refl;
  references = chains;
  layers = inl layers-kept;
  apart = different;
} where
  travels : (f : ℕ) → IfSome (slice_get sender.frames f)
      (λ frame. Travels settings vp8 sender f frame (place f) (parts f))
  travels zero = first_travels
  travels (suc zero) = second_travels
  travels (suc (suc zero)) = third_travels
  travels (suc (suc (suc zero))) = fourth_travels
  travels (suc (suc (suc (suc zero)))) = fifth_travels
  travels (suc (suc (suc (suc (suc f))))) = tt

  order : (f g : ℕ) → f < g → g < length sender.frames → place f + length (parts f) ≤ place g
  order f g less within = let one : length (parts f) ≡ 1 = one_part f in
      let rises : place f < place g = places_rise f g less in omega arith

  others : (i : ℕ) → i < length sender.packets →
      IsSomeAnd (slice_get sender.packets i) IsNoPart
      ⊎ ((f : ℕ) × (f < length sender.frames) × (place f ≤ i) × (i < place f + length (parts f)))
  others zero within = inr (0, omega arith, omega arith, omega arith)
  others (suc zero) within = inr (1, omega arith, omega arith, omega arith)
  others (suc (suc zero)) within = inr (2, omega arith, omega arith, omega arith)
  others (suc (suc (suc zero))) within = inl tt
  others (suc (suc (suc (suc zero)))) within = inl tt
  others (suc (suc (suc (suc (suc zero))))) within = inr (3, omega arith, omega arith, omega arith)
  others (suc (suc (suc (suc (suc (suc i)))))) within = inr (4, omega arith, omega arith, omega arith)

  payload_in : List ℕ → Type 0
  payload_in payload = IsTrueFec sender 3 payload

  parity : (i : ℕ) (payload : List ℕ) → slice_get sender.packets i ≡ Some (Fec payload) → IsTrueFec sender i payload
  parity zero payload is = absurd (cc)
  parity (suc zero) payload is = absurd (cc)
  parity (suc (suc zero)) payload is = absurd (cc)
  parity (suc (suc (suc zero))) payload is =
      let same : fec_payload ≡ payload = cc in subst payload_in same fec_true
  parity (suc (suc (suc (suc zero)))) payload is = absurd (cc)
  parity (suc (suc (suc (suc (suc zero))))) payload is = absurd (cc)
  parity (suc (suc (suc (suc (suc (suc zero)))))) payload is = absurd (cc)
  parity (suc (suc (suc (suc (suc (suc (suc i))))))) payload is = absurd (cc)

  different : (f : ℕ) → IfSome (slice_get sender.frames f)
      (λ frame. IfSome (slice_get sender.frames (f + 1)) (λ after. frame.ts ≢ after.ts))
  different zero = λ e. omega arith
  different (suc zero) = λ e. omega arith
  different (suc (suc zero)) = λ e. omega arith
  different (suc (suc (suc zero))) = λ e. omega arith
  different (suc (suc (suc (suc zero)))) = tt
  different (suc (suc (suc (suc (suc f))))) = tt

-- ---- the network

-- the first packet in RED
abbrev first_red : List ℕ
first_red = 128 ∷ 228 ∷ 255 ∷ 254 ∷ 0 ∷ 0 ∷ 0 ∷ 0 ∷ 0 ∷ 0 ∷ 0 ∷ 10 ∷ 96 ∷ 144 ∷ 224 ∷ 255 ∷ 255 ∷ 5 ∷ 0 ∷ 0 ∷ 170 ∷ []

first_in_red : IsWireForm settings 65534 (Media 0 0 first_text) first_red
first_in_red =
    let wire : Packet = red_of 100 first_part.packet in (
      first_part.packet,
      refl,
      record { how = InRed; wire = wire; travels = refl; carries = carry first_red wire refl refl refl },
    )

-- the FEC packet in RED, with any timestamp
abbrev fec_octets : List ℕ
fec_octets = 128 ∷ 100 ∷ 0 ∷ 1 ∷ 0 ∷ 0 ∷ 0 ∷ 5 ∷ 0 ∷ 0 ∷ 0 ∷ 10 ∷ 101 ∷ fec_payload

abbrev fec_packet : Packet
fec_packet = record (packet_with 1 5 fec_payload) { marker = false; pt = 101 }

fec_in_red : IsWireForm settings 1 (Fec fec_payload) fec_octets
fec_in_red =
    let wire : Packet = red_of 100 fec_packet in (
      fec_packet,
      record { number_is = refl; type = refl; source = refl; payload_is = refl },
      record { how = InRed; wire = wire; travels = refl; carries = carry fec_octets wire refl refl refl },
      tt,
    )

-- the third packet sent again, under the number 7 of the source 12; and as it is
abbrev third_rtx : List ℕ
third_rtx = 128 ∷ 225 ∷ 0 ∷ 7 ∷ 0 ∷ 0 ∷ 0 ∷ 18 ∷ 0 ∷ 0 ∷ 0 ∷ 12 ∷ 0 ∷ 0 ∷ 144 ∷ 224 ∷ 128 ∷ 1 ∷ 5 ∷ 96 ∷ 1 ∷ 204 ∷ []

-- octets that carry a media packet are it as it is
plain_form : (number f : ℕ) (text : List ℕ) (packet : Packet) → read text ≡ Some packet → Carries text packet →
    IsWireForm settings number (Media f 0 text) text
plain_form number f text packet reads carries =
    (packet, reads, record { how = Plain; wire = packet; travels = refl; carries = carries })

third_again : IsWireForm settings 0 (Media 2 0 third_text) third_rtx
third_again =
    let wire : Packet = rtx_of 97 12 7 third_part.packet in (
      third_part.packet,
      refl,
      record { how = Again 7; wire = wire; travels = refl; carries = carry third_rtx wire refl refl refl },
    )

third_plain : IsWireForm settings 0 (Media 2 0 third_text) third_text
third_plain = plain_form 0 2 third_text third_part.packet refl
    (carry third_text third_part.packet refl refl refl)

-- the last packet in RED and sent again, with two octets of padding
abbrev fifth_red_rtx : List ℕ
fifth_red_rtx =
    160 ∷ 226 ∷ 0 ∷ 8 ∷ 0 ∷ 0 ∷ 0 ∷ 36 ∷ 0 ∷ 0 ∷ 0 ∷ 12 ∷ 0 ∷ 4 ∷ 96 ∷ 144 ∷ 224 ∷ 128 ∷ 3 ∷ 6 ∷ 0 ∷ 1 ∷ 238 ∷ 0
    ∷ 2 ∷ []

fifth_red_again : IsWireForm settings 4 (Media 4 0 fifth_text) fifth_red_rtx
fifth_red_again =
    let wire : Packet = rtx_of 98 12 8 (red_of 100 fifth_part.packet) in (
      fifth_part.packet,
      refl,
      record {
        how = RedAgain 8;
        wire = wire;
        travels = refl;
        carries = carry fifth_red_rtx (record wire { padding = 2 }) refl refl refl;
      },
    )

-- the empty packet in RED without a block, and sent again
abbrev empty_packet : Packet
empty_packet = record (packet_with 2 5 []) { marker = false }

abbrev empty_red_rtx : List ℕ
empty_red_rtx = 128 ∷ 98 ∷ 0 ∷ 9 ∷ 0 ∷ 0 ∷ 0 ∷ 5 ∷ 0 ∷ 0 ∷ 0 ∷ 12 ∷ 0 ∷ 2 ∷ []

empty_red_again : IsWireForm settings 2 Empty empty_red_rtx
empty_red_again =
    let wire : Packet = rtx_of 98 12 9 (bare_red 100 empty_packet) in (
      empty_packet,
      record { number_is = refl; type = refl; source = refl; payload = refl },
      inr (record {
        how = RedAgain 9;
        wire = wire;
        travels = refl;
        carries = carry empty_red_rtx wire refl refl refl;
      }),
    )

-- and the fourth packet as it is, which comes once it was given up
fourth_plain : IsWireForm settings 3 (Media 3 0 fourth_text) fourth_text
fourth_plain = plain_form 3 3 fourth_text fourth_part.packet refl
    (carry fourth_text fourth_part.packet refl refl refl)

-- RTCP: a receiver report without a block
abbrev report : List ℕ
report = 128 ∷ 201 ∷ 0 ∷ 1 ∷ 0 ∷ 0 ∷ 0 ∷ 9 ∷ []

-- what comes, and the pulls: packets 0 and 3, 2 sent again, so that 1 is repaired, 2 as it is; three pulls; 6, 4, and
-- RTCP; then ten ticks, each an interval after the one before; and 5
abbrev pub events : List Event
events =
    Datagram 0 first_red ∷ Pull 1 ∷ Datagram 2 fec_octets ∷ Datagram 3 third_rtx ∷ Datagram 4 third_text
    ∷ Pull 5 ∷ Pull 6 ∷ Pull 7 ∷ Datagram 8 fifth_red_rtx ∷ Datagram 9 empty_red_rtx ∷ Datagram 10 report
    ∷ Tick 108 ∷ Tick 208 ∷ Tick 308 ∷ Tick 408 ∷ Tick 508 ∷ Tick 608 ∷ Tick 708 ∷ Tick 808 ∷ Tick 908 ∷ Tick 1008
    ∷ Datagram 1009 fourth_text ∷ Pull 1010 ∷ Pull 1011 ∷ []

abbrev pub origins : List Origin
origins =
    FromSender 0 ∷ Elsewhere ∷ FromSender 3 ∷ FromSender 2 ∷ FromSender 2
    ∷ Elsewhere ∷ Elsewhere ∷ Elsewhere ∷ FromSender 6 ∷ FromSender 4 ∷ Elsewhere
    ∷ Elsewhere ∷ Elsewhere ∷ Elsewhere ∷ Elsewhere ∷ Elsewhere ∷ Elsewhere ∷ Elsewhere ∷ Elsewhere ∷ Elsewhere
    ∷ Elsewhere
    ∷ FromSender 5 ∷ Elsewhere ∷ Elsewhere ∷ []

-- There are seven packets only, and five frames. So what is taken is near at any time, and so are pictures
few_packets : (i : ℕ) (P : SentPacket → Type 0) → IsSomeAnd (slice_get sender.packets i) P → i < 7
few_packets zero P is = omega arith
few_packets (suc zero) P is = omega arith
few_packets (suc (suc zero)) P is = omega arith
few_packets (suc (suc (suc zero))) P is = omega arith
few_packets (suc (suc (suc (suc zero)))) P is = omega arith
few_packets (suc (suc (suc (suc (suc zero))))) P is = omega arith
few_packets (suc (suc (suc (suc (suc (suc zero)))))) P is = omega arith
few_packets (suc (suc (suc (suc (suc (suc (suc i))))))) P is = absurd is

few_frames : (i f : ℕ) → IsSomeAnd (slice_get sender.packets i) (IsOf f) → f < 5
few_frames zero f is = omega arith
few_frames (suc zero) f is = omega arith
few_frames (suc (suc zero)) f is = omega arith
few_frames (suc (suc (suc zero))) f is = absurd is
few_frames (suc (suc (suc (suc zero)))) f is = absurd is
few_frames (suc (suc (suc (suc (suc zero))))) f is = omega arith
few_frames (suc (suc (suc (suc (suc (suc zero)))))) f is = omega arith
few_frames (suc (suc (suc (suc (suc (suc (suc i))))))) f is = absurd is

pictures_near : (js : List ℕ) (told : Told) → AreNearTold sender js told
pictures_near js [] = tt
pictures_near js (entry ∷ told) = (near, pictures_near js told) where
  near : (f g : ℕ) → IsOfFrame sender js entry.0 f → IsNewestTold sender js told g →
      (f < g + HALF_PICTURES) × (g < f + HALF_PICTURES)
  near f g of newest = let low : f < 5 = few_frames of.0 f of.2 in
      let other : IsOfFrame sender js newest.entry.0 g = newest.of_frame in
      let low_other : g < 5 = few_frames other.0 g other.2 in (omega arith, omega arith)

-- no origin names another packet
abbrev AreFew : List Origin → Type 0
AreFew [] = Unit {0}
AreFew (Elsewhere ∷ os) = AreFew os
AreFew (FromSender i ∷ os) = (i < 7) × AreFew os

greatest_of : (took : Bool) (i : ℕ) (js : List ℕ) → i < 7 → greatest js < 7 →
    greatest (if took then i ∷ js else js) < 7
greatest_of true i js low lows = omega arith
greatest_of false i js low lows = lows

taken_low : (h : List Event) (from : List Origin) → AreFew from →
    greatest (packets_taken settings vp8 h from) < 7
unfolding packets_taken
taken_low [] from few = omega arith
taken_low (e ∷ h) [] few = omega arith
taken_low (e ∷ h) (Elsewhere ∷ from) few = taken_low h from few
taken_low (Tick moment ∷ h) (FromSender i ∷ from) few = taken_low h from few.1
taken_low (Pull moment ∷ h) (FromSender i ∷ from) few = taken_low h from few.1
taken_low (Datagram moment octets ∷ h) (FromSender i ∷ from) few =
    greatest_of (takes settings vp8 h octets) i (packets_taken settings vp8 h from) few.0
    (taken_low h from few.1)

taken_near : (i : ℕ) (js : List ℕ) → i < 7 → greatest js < 7 → IsNear i js
taken_near i [] low lows = tt
taken_near i (j ∷ js) low lows = (omega arith, omega arith)

-- so the network needs to bring each packet in a form only
abbrev IsBrought : Event → Origin → Type 0
IsBrought (Tick moment) Elsewhere = Unit {0}
IsBrought (Tick moment) (FromSender i) = ⊥
IsBrought (Pull moment) Elsewhere = Unit {0}
IsBrought (Pull moment) (FromSender i) = ⊥
IsBrought (Datagram moment octets) Elsewhere = IsErr (original settings vp8 octets)
IsBrought (Datagram moment octets) (FromSender i) =
    IsSomeAnd (slice_get sender.packets i) (λ packet. IsWireForm settings (wire_of sender i) packet octets)

abbrev AreBrought : List Event → List Origin → Type 0
AreBrought [] [] = Unit {0}
AreBrought [] (o ∷ os) = ⊥
AreBrought (e ∷ es) [] = ⊥
AreBrought (e ∷ es) (o ∷ os) = IsBrought e o × AreBrought es os

delivery : (h : List Event) (from : List Origin) (e : Event) (o : Origin) → AreFew from → IsBrought e o →
    IsDelivery settings vp8 sender h from e o
delivery h from (Tick moment) Elsewhere few is = tt
delivery h from (Tick moment) (FromSender i) few is = absurd is
delivery h from (Pull moment) Elsewhere few is = tt
delivery h from (Pull moment) (FromSender i) few is = absurd is
delivery h from (Datagram moment octets) Elsewhere few is = is
delivery h from (Datagram moment octets) (FromSender i) few is = (
  is,
  taken_near i (packets_taken settings vp8 h from)
      (few_packets i (λ packet. IsWireForm settings (wire_of sender i) packet octets) is)
      (taken_low h from few),
)

still_few : (e : Event) (o : Origin) (from : List Origin) → IsBrought e o → AreFew from → AreFew (o ∷ from)
still_few e Elsewhere from is few = few
still_few (Tick moment) (FromSender i) from is few = absurd is
still_few (Pull moment) (FromSender i) from is few = absurd is
still_few (Datagram moment octets) (FromSender i) from is few =
    (few_packets i (λ packet. IsWireForm settings (wire_of sender i) packet octets) is, few)

all_delivered : (h : List Event) (from : List Origin) (es : List Event) (os : List Origin) → AreFew from →
    AreBrought es os → HonestNetwork settings vp8 sender h from es os
all_delivered h from [] [] few are = tt
all_delivered h from [] (o ∷ os) few are = absurd are
all_delivered h from (e ∷ es) [] few are = absurd are
all_delivered h from (e ∷ es) (o ∷ os) few are = (
  delivery h from e o few are.0,
  pictures_near (packets_taken settings vp8 (e ∷ h) (o ∷ from)) (latest (snapshots settings vp8 (e ∷ h))).told,
  all_delivered (e ∷ h) (o ∷ from) es os (still_few e o from are.0 few) are.1,
)

each_brought : AreBrought events origins
each_brought = (
  first_in_red,
  (
    tt,
    (
      fec_in_red,
      (
        third_again,
        (
          third_plain,
          (
            tt,
            (
              tt,
              (
                tt,
                (
                  fifth_red_again,
                  (
                    empty_red_again,
                    (
                      refl,
                      (
                        tt,
                        (tt, (tt, (tt, (tt, (tt, (tt, (tt, (tt, (tt, (fourth_plain, (tt, (tt, tt)))))))))))),
                      ),
                    ),
                  ),
                ),
              ),
            ),
          ),
        ),
      ),
    ),
  ),
)

-- the network is honest
pub network-honest : HonestNetwork settings vp8 sender [] [] events origins
network-honest = all_delivered [] [] events origins tt each_brought

-- ---- what the receiver answers

-- replies, with what was left after each event carried along
abbrev replies_from : List Snapshot → List Event → List Reply
replies_from past [] = []
replies_from past (e ∷ es) = let s : Snapshot = next settings vp8 past e in
    reply_between settings vp8 past s e ∷ replies_from (s ∷ past) es

carried_along : (h : List Event) (es : List Event) →
    replies settings vp8 h es ≡ replies_from (snapshots settings vp8 h) es
unfolding replies reply snapshots
carried_along h [] = refl
carried_along h (e ∷ es) = ap (λ (rs : List Reply). reply settings vp8 h e ∷ rs) (carried_along (e ∷ h) es)

-- a NACK from 11 about 10 of the numbers 65535 and 0; of 2 and 3; and of 3 alone (RFC 4585 6.2.1)
abbrev nack_with : List ℕ → Feedback
nack_with item = record {
  nack = Some (record { items = 129 ∷ 205 ∷ 0 ∷ 3 ∷ 0 ∷ 0 ∷ 0 ∷ 11 ∷ 0 ∷ 0 ∷ 0 ∷ 10 ∷ item });
  pli = None;
}

abbrev asks_over_the_wrap : Feedback
asks_over_the_wrap = nack_with (255 ∷ 255 ∷ 0 ∷ 1 ∷ [])

abbrev asks_two : Feedback
asks_two = nack_with (0 ∷ 2 ∷ 0 ∷ 1 ∷ [])

abbrev asks_one : Feedback
asks_one = nack_with (0 ∷ 3 ∷ 0 ∷ 0 ∷ [])

-- a PLI alone (RFC 4585 6.3.1)
abbrev asks_for_key : Feedback
asks_for_key = record { nack = None; pli = Some (129 ∷ 206 ∷ 0 ∷ 2 ∷ 0 ∷ 0 ∷ 0 ∷ 11 ∷ 0 ∷ 0 ∷ 0 ∷ 10 ∷ []) }

abbrev quiet : Feedback
quiet = record { nack = None; pli = None }

-- the reply to a datagram
abbrev answered : What → List ℕ → Feedback → Reply
answered what repaired feedback = ToDatagram (record { what = what; repaired = repaired; feedback = feedback })

-- the reply to a pull that gives a frame of one packet
abbrev gives : (number ts : ℕ) → Bool → List ℕ → Reply
gives number ts key bytes =
    ToPull (Frame (record { first = number; last = number; ts = ts; key = key; bytes = bytes }))

-- The keyframe is given. The FEC packet asks for the two packets before it, over the wrap of their numbers; once one
-- of them comes again, the other is repaired, and both frames are given. The last frame's packet asks for the two
-- before it. One is the empty packet. The other is asked for at nine ticks; the tenth gives it up, and asks for a
-- keyframe. It is dropped when it comes after all, and the last frame is given
abbrev answers : List Reply
answers =
    answered (what.Media 131070) [] quiet ∷ gives 131070 0 true (0 ∷ 170 ∷ [])
    ∷ answered (what.Fec 131073) [] asks_over_the_wrap ∷ answered (what.Media 131072) (131071 ∷ []) quiet
    ∷ answered (what.Dropped Repeat) [] quiet
    ∷ gives 131071 9 false (1 ∷ 187 ∷ 7 ∷ []) ∷ gives 131072 18 false (1 ∷ 204 ∷ []) ∷ ToPull NotReady
    ∷ answered (what.Media 131076) [] asks_two ∷ answered (what.Empty 131074) [] quiet
    ∷ answered what.Rtcp [] quiet
    ∷ ToTick asks_one ∷ ToTick asks_one ∷ ToTick asks_one ∷ ToTick asks_one ∷ ToTick asks_one ∷ ToTick asks_one
    ∷ ToTick asks_one ∷ ToTick asks_one ∷ ToTick asks_one ∷ ToTick asks_for_key
    ∷ answered (what.Dropped Dead) [] quiet ∷ gives 131076 36 false (1 ∷ 238 ∷ []) ∷ ToPull NotReady ∷ []

evaluated : replies_from (opening ∷ []) events ≡ answers
unfolding repairs_in is_compound are_packets first_fault size
evaluated = refl

pub frames_pulled : replies settings vp8 [] events ≡ answers
unfolding snapshots
frames_pulled = carried_along [] events ∙ evaluated

pub some_pulled : frames_of (replies settings vp8 [] events) ≢ []
some_pulled none = not_empty _ _ (ap frames_of (sym frames_pulled) ∙ none)
