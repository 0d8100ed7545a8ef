-- What the code keeps on its way. No public clause cites this module.
use Rattle.std.specs.Prelude.{◌≡◌, ℕ, ◌+◌, ◌*◌, ◌%◌, ◌<◌, ◌≤◌, Bool, false, ◌==◌, if◌then◌else◌, List, [], ◌∷◌, ◌++◌, length, map, filter, replicate, zip}
use Rattle.vrx_rtp.specs.Packet.{Packet, octets_of}
use Rattle.vrx_core.specs.declared.event.Event.{Event}
use Rattle.vrx_core.specs.honest.Sender.{SentPacket, Media, Fec}
use Rattle.vrx_sender.specs.declared.settings.TheConstants.{FEC_TYPE}
use Rattle.vrx_sender.specs.declared.brought.Brought.{Brought}
use Rattle.vrx_sender.specs.declared.draws.Fate.{Fate}
use Rattle.vrx_sender.specs.declared.drill.Stage.{Stage}
use Rattle.vrx_sender.specs.declared.drill.TheConstants.{MOST_FRAMES, AGAIN_AFTER, TICK_AFTER, PULL_AFTER}
use Rattle.vrx_sender.specs.declared.frames.TheConstants.{MOST_PACKETS}
use Rattle.vrx_core.specs.declared.event.Event.TheVariants.{Tick, Pull}
use Rattle.rand_pcg.specs.Lcg.{Lcg}
use Rattle.vrx_sender.specs.Draws.{Drawn, drawn, drawn_from}
use Rattle.vrx_sender.specs.Frames.{packet_count}
use Rattle.vrx_sender.specs.Drill.{again_from, at_once_from, datagram, groups_from, is_in_time, is_late, lost_of, numbered, with_fates}

-- a part's packet: its header has twelve octets, and what is after it fits the length of a FEC level
abbrev pub IsShort : Packet → Type 0
IsShort p = (12 ≤ length (octets_of p)) × (length (octets_of p) ≤ 1018)

-- a packet of frame f, as it is sent: the FEC packet, or this part; and packets, from part k on
abbrev pub as_sent : ℕ → ℕ → Packet → SentPacket
as_sent f k p = if p.pt == FEC_TYPE then Fec p.payload else Media f k (octets_of p)

abbrev pub all_as_sent : ℕ → ℕ → List Packet → List SentPacket
all_as_sent f k [] = []
all_as_sent f k (p ∷ ps) = as_sent f k p ∷ all_as_sent f (k + 1) ps

-- octets with the first bit cleared
abbrev pub cleared : List ℕ → List ℕ
cleared [] = []
cleared (first ∷ octets) = (first % 128) ∷ octets

-- the datagrams of the packets that have such a fate
abbrev pub datagrams : (Fate → Bool) → List (Fate × Packet) → List (List ℕ)
datagrams has ps = map (λ p. datagram p.1) (filter (λ p. has p.0) ps)

-- the tick and the pulls around this time
abbrev pub group_without : ℕ → List Event
group_without moment = Tick (moment + TICK_AFTER) ∷ Pull (moment + PULL_AFTER) ∷ Pull (moment + PULL_AFTER) ∷ []

-- what is drawn for the next frame, and the generator after it
abbrev pub next_drawn : Stage → Drawn × Lcg
next_drawn s = drawn s.group s.draws

-- what was brought, with what these packets bring
pub record BroughtWith (number : ℕ) (old new : Brought) (ps : List (Fate × Packet)) : Type 0 where
  pub in_time : new.in_time.items ≡ old.in_time.items ++ datagrams is_in_time ps
  pub late : new.late.items ≡ old.late.items ++ datagrams is_late ps
  pub again : new.again.items ≡ old.again.items ++ numbered (number + length old.again.items) (lost_of ps)

-- the events from a stage on
abbrev pub still : Stage → List Event
still s = let ds : List Drawn = drawn_from s.group s.frames s.draws in
    groups_from s.group (zip (at_once_from s.group s.packets ds ++ replicate s.later [])
    (s.oldest.items ∷ s.middle.items ∷ s.newest.items ∷ again_from s.group s.packets s.resent ds))

-- the events of a drill that may have ended
abbrev pub left : Stage → List Event
left s = if s.ended then [] else still s

-- a stage of a drill: how many groups come yet, and how many packets were sent at most
pub record IsUnderWay (s : Stage) : Type 0 where
  pub groups : s.group + s.frames + s.later ≤ MOST_FRAMES + AGAIN_AFTER
  pub few : s.later ≤ AGAIN_AFTER
  pub later : 0 < s.frames → s.later ≡ AGAIN_AFTER
  pub packets : s.packets ≤ MOST_PACKETS * s.group
  pub resent : s.resent ≤ MOST_PACKETS * s.group

-- a stage is so, unless the drill has ended
abbrev pub IsSound : Stage → Type 0
IsSound s = s.ended ≡ false → IsUnderWay s

-- what is sent of the next frame, and the stage after it: its draws, and the counts of packets
pub record Sends (old : Stage) (brought : Brought) (new : Stage) : Type 0 where
  pub in_time : brought.in_time.items ≡ datagrams is_in_time (with_fates old.group old.packets (next_drawn old).0)
  pub late : brought.late.items ≡ datagrams is_late (with_fates old.group old.packets (next_drawn old).0)
  pub again : brought.again.items ≡ numbered old.resent (lost_of (with_fates old.group old.packets (next_drawn old).0))
  pub packets : new.packets ≡ old.packets + packet_count (next_drawn old).0.size
  pub resent : new.resent ≡ old.resent + length (lost_of (with_fates old.group old.packets (next_drawn old).0))
  pub few : (new.packets ≤ old.packets + MOST_PACKETS) × (new.resent ≤ old.resent + MOST_PACKETS)
  pub stage : new ≡ record old { draws = (next_drawn old).1; packets = new.packets; resent = new.resent }

-- events were given: they are the first of those that were to come, and the others come
pub record GoesOn (old : Stage) (events : List Event) (new : Stage) : Type 0 where
  pub are : still old ≡ events ++ still new
  pub some : 0 < length events
  pub under_way : IsUnderWay new
