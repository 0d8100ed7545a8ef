-- An honest call of VP8 in which a packet is lost, worked by hand. A keyframe completed, so that no keyframe is asked for
-- but by the loss: the packet is asked for ten times and given up, which brings a PLI with the same tick; and it is
-- dropped when it comes after all.
use Rattle.std.proofs.Common.{◌≡◌, true, List, [], ◌∷◌, refl, arith}
use Rattle.vrx_vp8.specs.Descriptor.{vp8}
use Rattle.vrx_repair.specs.Plan.{repairs_in}
use Rattle.vrx_core.specs.machine.Machine.{ToDatagram, ToTick, ToPull, replies, reply, snapshots}
use Rattle.vrx_core.specs.honest.HonestNetwork.{Origin, FromSender, Elsewhere, HonestNetwork, packets_taken}
use Rattle.vrx_core.specs.honest.HonestTaken.{WasGivenUp}
use Rattle.vrx_core.specs.declared.event.Event.{Event}
use Rattle.vrx_core.specs.declared.event.Event.TheVariants.{Datagram, Tick, Pull}
use Rattle.vrx_core.specs.declared.reply.What.TheVariants as what
use Rattle.vrx_core.specs.declared.reply.Pulled.TheVariants.{NotReady, Frame}
use Rattle.vrx_core.specs.declared.reply.Reason.TheVariants.{Dead}
use Rattle.vrx_rows.proofs.HonestRows.{settings, sender, first_text, second_text, third_text, empty_padded, first_plain, second_plain, third_plain, answered, asks_for_empty, asks_for_key}

-- The two packets of the keyframe come, and the one of the last frame, but not the empty packet before it. The keyframe
-- is pulled; then come ten ticks, each an interval after the one before, and a pull
abbrev events : List Event
events = Datagram 0 first_text ∷ Datagram 1 second_text ∷ Datagram 2 third_text ∷ Pull 3 ∷ Tick 102 ∷ Tick 202
    ∷ Tick 302 ∷ Tick 402 ∷ Tick 502 ∷ Tick 602 ∷ Tick 702 ∷ Tick 802 ∷ Tick 902 ∷ Tick 1002 ∷ Pull 1003 ∷ []

abbrev origins : List Origin
origins = FromSender 0 ∷ FromSender 1 ∷ FromSender 3 ∷ Elsewhere ∷ Elsewhere ∷ Elsewhere ∷ Elsewhere ∷ Elsewhere
    ∷ Elsewhere ∷ Elsewhere ∷ Elsewhere ∷ Elsewhere ∷ Elsewhere ∷ Elsewhere ∷ Elsewhere ∷ []

-- the same, the newest first
abbrev history : List Event
history = Pull 1003 ∷ Tick 1002 ∷ Tick 902 ∷ Tick 802 ∷ Tick 702 ∷ Tick 602 ∷ Tick 502 ∷ Tick 402 ∷ Tick 302
    ∷ Tick 202 ∷ Tick 102 ∷ Pull 3 ∷ Datagram 2 third_text ∷ Datagram 1 second_text ∷ Datagram 0 first_text ∷ []

abbrev origins_back : List Origin
origins_back = Elsewhere ∷ Elsewhere ∷ Elsewhere ∷ Elsewhere ∷ Elsewhere ∷ Elsewhere ∷ Elsewhere ∷ Elsewhere
    ∷ Elsewhere ∷ Elsewhere ∷ Elsewhere ∷ Elsewhere ∷ FromSender 3 ∷ FromSender 1 ∷ FromSender 0 ∷ []

-- the network is honest
pub network-honest : HonestNetwork settings vp8 sender [] [] events origins
unfolding repairs_in snapshots packets_taken
network-honest = (
  (first_plain, tt),
  tt,
  (
    (second_plain, (omega arith, omega arith)),
    tt,
    (
      (third_plain, (omega arith, omega arith)),
      tt,
      (
        tt,
        tt,
        (tt, tt, (tt, tt, (tt, tt, (tt, tt, (tt, tt, (tt, tt, (tt, tt, (tt, tt, (tt, tt, (tt, tt, (tt, tt, tt))))))))))),
      ),
    ),
  ),
)

-- The empty packet is asked for once the last packet came, and at each of the first nine ticks. The tenth gives it up,
-- and asks for a keyframe only. The last frame can't be decoded, since what was lost may be of a frame before it
pub asked : replies settings vp8 [] events
    ≡ answered (what.Media 131071) ∷ answered (what.Media 131072)
    ∷ ToDatagram (record { what = what.Media 131074; repaired = []; feedback = asks_for_empty })
    ∷ ToPull (Frame (record { first = 131071; last = 131072; ts = 0; key = true; bytes = 0 ∷ 170 ∷ 187 ∷ [] }))
    ∷ ToTick asks_for_empty ∷ ToTick asks_for_empty ∷ ToTick asks_for_empty ∷ ToTick asks_for_empty
    ∷ ToTick asks_for_empty ∷ ToTick asks_for_empty ∷ ToTick asks_for_empty ∷ ToTick asks_for_empty
    ∷ ToTick asks_for_empty ∷ ToTick asks_for_key ∷ ToPull NotReady ∷ []
unfolding repairs_in replies reply snapshots
asked = refl

-- it was given up, under its number
pub given_up : WasGivenUp settings vp8 sender history origins_back 2
unfolding repairs_in snapshots packets_taken
given_up = (131073, omega arith, refl)

-- and is dropped when it comes after all
pub dropped : reply settings vp8 history (Datagram 1004 empty_padded) ≡ answered (what.Dropped Dead)
unfolding repairs_in reply snapshots
dropped = refl
