-- The machine over VP8 on rows worked by hand.
use Rattle.std.specs.Prelude.{◌≡◌, ℕ, true, false, List, [], ◌∷◌, refl, Some, None}
use Rattle.vrx_repair.specs.Plan.{repairs_in}
use Rattle.vrx_core.specs.machine.Machine.{Reply, ToDatagram, ToTick, ToPull, what_in, replies, reply, snapshots}
use Rattle.vrx_rtcp.specs.Feedback.{nack_octets}
use Rattle.vrx_vp8.specs.Descriptor.{vp8}
use Rattle.vrx_rtcp.specs.declared.feedback.Feedback.{Feedback}
use Rattle.vrx_core.specs.declared.settings.Settings.{Settings}
use Rattle.vrx_core.specs.declared.event.Event.TheVariants.{Datagram, Tick, Pull}
use Rattle.vrx_core.specs.declared.reply.What.{What}
use Rattle.vrx_core.specs.declared.reply.What.TheVariants.{Media, Empty, Dropped}
use Rattle.vrx_core.specs.declared.reply.Reason.TheVariants.{BadPart, TooFar, TooOld, Repeat}
use Rattle.vrx_core.specs.declared.reply.Pulled.TheVariants.{NotReady, Frame}

abbrev settings : Settings
settings = record { media_ssrc = 10; media_type = 96; red = None; rtx = None; from_ssrc = 11; interval = 100 }

-- no feedback is to be sent
abbrev no_feedback : Feedback
no_feedback = record { nack = None; pli = None }

-- a reply to a datagram that repairs nothing and sends no feedback
abbrev answered : What → Reply
answered what = ToDatagram (record { what = what; repaired = []; feedback = no_feedback })

-- 80e00001000000000000000a1000aa
abbrev keyframe : List ℕ
keyframe = 128 ∷ 224 ∷ 0 ∷ 1 ∷ 0 ∷ 0 ∷ 0 ∷ 0 ∷ 0 ∷ 0 ∷ 0 ∷ 10 ∷ 16 ∷ 0 ∷ 170 ∷ []

-- and to one that asks for these numbers
abbrev asking : What → List ℕ → Reply
asking what numbers = ToDatagram
    (record {
      what = what;
      repaired = [];
      feedback =
          record { nack = Some (record { items = nack_octets 11 10 numbers }); pli = None };
    })

-- a keyframe comes out as a frame, once
pub one_keyframe : replies settings vp8 []
    (Datagram 0 keyframe ∷ Datagram 0 keyframe ∷ Pull 1 ∷ Pull 2 ∷ Datagram 0 keyframe ∷ [])
    ≡ answered (Media 65537) ∷ answered (Dropped Repeat) ∷ ToPull
    (Frame (record { first = 65537; last = 65537; ts = 0; key = true; bytes = 0 ∷ 170 ∷ [] })) ∷ ToPull NotReady
    ∷ answered (Dropped Repeat) ∷ []
unfolding replies reply snapshots repairs_in
one_keyframe = refl

-- no event gives no reply
pub no_event : replies settings vp8 [] [] ≡ []
unfolding replies
no_event = refl

-- a pull alone gives nothing
pub pull_alone : replies settings vp8 [] (Pull 0 ∷ []) ≡ ToPull NotReady ∷ []
unfolding replies reply snapshots repairs_in
pull_alone = refl

-- ticks among them ask for nothing: no packet is missing, and a keyframe completed
pub with_ticks : replies settings vp8 [] (Tick 0 ∷ Datagram 0 keyframe ∷ Tick 5 ∷ Pull 1 ∷ Tick 2 ∷ [])
    ≡ ToTick no_feedback ∷ answered (Media 65537) ∷ ToTick no_feedback ∷ ToPull
    (Frame (record { first = 65537; last = 65537; ts = 0; key = true; bytes = 0 ∷ 170 ∷ [] })) ∷ ToTick no_feedback
    ∷ []
unfolding replies reply snapshots repairs_in
with_ticks = refl

-- the keyframe's packet under another sequence number, by its two octets
abbrev numbered : ℕ → ℕ → List ℕ
numbered high low = 128 ∷ 224 ∷ high ∷ low ∷ 0 ∷ 0 ∷ 0 ∷ 0 ∷ 0 ∷ 0 ∷ 0 ∷ 10 ∷ 16 ∷ 0 ∷ 170 ∷ []

-- a packet 32,768 ahead of the newest has no number, and one 32,767 ahead has
pub too_far : replies settings vp8 [] (Datagram 0 (numbered 0 1) ∷ Datagram 0 (numbered 128 1) ∷ []) ≡ answered
    (Media 65537) ∷ answered (Dropped TooFar) ∷ []
unfolding replies reply snapshots repairs_in
too_far = refl

pub not_too_far : what_in (reply settings vp8 (Datagram 0 (numbered 0 1) ∷ []) (Datagram 0 (numbered 128 0))) ≡ Some
    (Media 98304)
unfolding reply snapshots repairs_in
not_too_far = refl

-- a packet 2,048 below the newest is too old, and one 2,047 below isn't
pub too_old : replies settings vp8 []
    (Datagram 0 (numbered 8 1) ∷ Datagram 0 (numbered 0 1) ∷ Datagram 0 (numbered 0 2) ∷ [])
    ≡ answered (Media 67585) ∷ answered (Dropped TooOld) ∷ answered (Media 65538) ∷ []
unfolding replies reply snapshots repairs_in
too_old = refl

-- a packet of the stream that has this payload
abbrev carrying : List ℕ → List ℕ
carrying payload = 128 ∷ 96 ∷ 0 ∷ 1 ∷ 0 ∷ 0 ∷ 0 ∷ 0 ∷ 0 ∷ 0 ∷ 0 ∷ 10 ∷ payload

-- 80: the descriptor runs past the end; 10: no body follows it; a part with layers; bit X, and no layers, and no
-- payload, under the same number
pub payloads : replies settings vp8 []
    (Datagram 0 (carrying (128 ∷ [])) ∷ Datagram 0 (carrying (16 ∷ [])) ∷ Datagram 0
    (carrying (144 ∷ 224 ∷ 128 ∷ 1 ∷ 5 ∷ 0 ∷ 0 ∷ 170 ∷ [])) ∷ Datagram 0 (carrying (144 ∷ 0 ∷ 0 ∷ 170 ∷ []))
    ∷ Datagram 0 (carrying []) ∷ [])
    ≡ answered (Dropped (BadPart 1)) ∷ answered (Dropped (BadPart 2)) ∷ answered (Media 65537) ∷ answered
    (Dropped Repeat) ∷ answered (Dropped Repeat) ∷ []
unfolding replies reply snapshots repairs_in
payloads = refl

-- temporal layers 0 2 1 2: a keyframe of TID 0, a frame of TID 2 and one of TID 1, pictures 1 to 3; in the last one Y
-- is the bit of 32
abbrev key_of_layers : List ℕ
key_of_layers = 128 ∷ 224 ∷ 0 ∷ 1 ∷ 0 ∷ 0 ∷ 0 ∷ 0 ∷ 0 ∷ 0 ∷ 0 ∷ 10 ∷ 144 ∷ 224 ∷ 128 ∷ 1 ∷ 5 ∷ 0 ∷ 0 ∷ 170 ∷ []

abbrev of_tid_2 : List ℕ
of_tid_2 = 128 ∷ 224 ∷ 0 ∷ 2 ∷ 0 ∷ 0 ∷ 11 ∷ 184 ∷ 0 ∷ 0 ∷ 0 ∷ 10 ∷ 144 ∷ 224 ∷ 128 ∷ 2 ∷ 5 ∷ 160 ∷ 1 ∷ 187 ∷ []

abbrev of_tid_1 : ℕ → List ℕ
of_tid_1 tid_and_y =
    128 ∷ 224 ∷ 0 ∷ 3 ∷ 0 ∷ 0 ∷ 23 ∷ 112 ∷ 0 ∷ 0 ∷ 0 ∷ 10 ∷ 144 ∷ 224 ∷ 128 ∷ 3 ∷ 5 ∷ tid_and_y ∷ 1 ∷ 204 ∷ []

-- the frame of TID 2 comes late: picture 2 wasn't seen, and so it isn't known to what picture 3 refers
pub first_of_tid_2_lost : replies settings vp8 []
    (Datagram 0 key_of_layers ∷ Datagram 66 (of_tid_1 64) ∷ Pull 67 ∷ Pull 67 ∷ Datagram 90 of_tid_2 ∷ Pull 91
    ∷ Pull 91 ∷ [])
    ≡ answered (Media 65537) ∷ asking (Media 65539) (65538 ∷ []) ∷ ToPull
    (Frame (record { first = 65537; last = 65537; ts = 0; key = true; bytes = 0 ∷ 170 ∷ [] })) ∷ ToPull NotReady
    ∷ answered (Media 65538) ∷ ToPull
    (Frame (record { first = 65538; last = 65538; ts = 3000; key = false; bytes = 1 ∷ 187 ∷ [] })) ∷ ToPull
    (Frame (record { first = 65539; last = 65539; ts = 6000; key = false; bytes = 1 ∷ 204 ∷ [] })) ∷ []
unfolding replies reply snapshots repairs_in
first_of_tid_2_lost = refl

-- with Y it refers to its base only, and what comes before it then is too late
pub and_y_is_1 : replies settings vp8 []
    (Datagram 0 key_of_layers ∷ Datagram 66 (of_tid_1 96) ∷ Pull 67 ∷ Pull 67 ∷ Datagram 90 of_tid_2 ∷ Pull 91 ∷ [])
    ≡ answered (Media 65537) ∷ asking (Media 65539) (65538 ∷ []) ∷ ToPull
    (Frame (record { first = 65537; last = 65537; ts = 0; key = true; bytes = 0 ∷ 170 ∷ [] })) ∷ ToPull
    (Frame (record { first = 65539; last = 65539; ts = 6000; key = false; bytes = 1 ∷ 204 ∷ [] }))
    ∷ answered (Media 65538) ∷ ToPull NotReady ∷ []
unfolding replies reply snapshots repairs_in
and_y_is_1 = refl

-- a packet of padding only, between a keyframe that was pulled and a delta frame: the receiver asks for it, and the
-- delta frame follows over it
abbrev padding_only : List ℕ
padding_only = 160 ∷ 96 ∷ 0 ∷ 2 ∷ 0 ∷ 0 ∷ 0 ∷ 0 ∷ 0 ∷ 0 ∷ 0 ∷ 10 ∷ 0 ∷ 0 ∷ 0 ∷ 4 ∷ []

abbrev delta : List ℕ
delta = 128 ∷ 224 ∷ 0 ∷ 3 ∷ 0 ∷ 0 ∷ 11 ∷ 184 ∷ 0 ∷ 0 ∷ 0 ∷ 10 ∷ 16 ∷ 1 ∷ 187 ∷ []

pub over_empty : replies settings vp8 []
    (Datagram 0 keyframe ∷ Pull 1 ∷ Datagram 33 delta ∷ Pull 34 ∷ Datagram 35 padding_only ∷ Pull 36 ∷ [])
    ≡ answered (Media 65537) ∷ ToPull
    (Frame (record { first = 65537; last = 65537; ts = 0; key = true; bytes = 0 ∷ 170 ∷ [] })) ∷ asking (Media 65539)
    (65538 ∷ []) ∷ ToPull NotReady
    ∷ answered (Empty 65538) ∷ ToPull
    (Frame (record { first = 65539; last = 65539; ts = 3000; key = false; bytes = 1 ∷ 187 ∷ [] })) ∷ []
unfolding replies reply snapshots repairs_in
over_empty = refl
