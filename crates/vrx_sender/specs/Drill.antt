-- WHAT THE NETWORK BRINGS of a drill's sender, and when (RFC 2198, RFC 4588), among ticks and pulls.
use Rattle.std.specs.Prelude.{ℕ, ◌+◌, ◌*◌, ◌%◌, Bool, true, false, List, [], ◌∷◌, ◌++◌, length, map, filter, replicate, zip}
use Rattle.vrx_rtp.specs.Packet.{Packet, octets_of}
use Rattle.vrx_wrap.specs.Red.{red_of}
use Rattle.vrx_wrap.specs.Rtx.{rtx_of}
use Rattle.vrx_core.specs.honest.Sender.{Sender}
use Rattle.vrx_core.specs.declared.event.Event.{Event}
use Rattle.vrx_core.specs.declared.event.Event.TheVariants.{Datagram, Tick, Pull}
use Rattle.vrx_sender.specs.declared.draws.Fate.{Fate}
use Rattle.vrx_sender.specs.declared.draws.Fate.TheVariants as fates
use Rattle.vrx_sender.specs.Draws.{Drawn, draws}
use Rattle.vrx_sender.specs.Frames.{octets, packet_count}
use Rattle.vrx_sender.specs.Packets.{packets, sender_of}

abbrev pub is_in_time : Fate → Bool
is_in_time fates.InTime = true
is_in_time _ = false

abbrev pub is_late : Fate → Bool
is_late fates.Late = true
is_late _ = false

abbrev pub is_sent_again : Fate → Bool
is_sent_again fates.SentAgain = true
is_sent_again _ = false

-- the packets of a frame, each with its fate
abbrev pub with_fates : ℕ → ℕ → Drawn → List (Fate × Packet)
with_fates f i d = zip d.fates (packets f i (octets f d.size))

-- a packet's datagram: all go in RED
abbrev pub datagram : Packet → List ℕ
datagram p = octets_of (red_of 100 p)

-- the datagram of its retransmission, under this number
abbrev pub datagram_again : ℕ → Packet → List ℕ
datagram_again number p = octets_of (rtx_of 98 2 (number % 65536) (red_of 100 p))

-- the datagrams that come of a frame at once: those that are in time, in order, and the late ones after them
abbrev pub at_once : List (Fate × Packet) → List (List ℕ)
at_once ps = map (λ p. datagram p.1) (filter (λ p. is_in_time p.0) ps)
    ++ map (λ p. datagram p.1) (filter (λ p. is_late p.0) ps)

-- the retransmissions of packets, whose numbers rise by one from this on
abbrev pub numbered : ℕ → List (Fate × Packet) → List (List ℕ)
numbered number [] = []
numbered number (p ∷ ps) = datagram_again number p.1 ∷ numbered (number + 1) ps

-- those of a frame that are sent again
abbrev pub lost_of : List (Fate × Packet) → List (Fate × Packet)
lost_of ps = filter (λ p. is_sent_again p.0) ps

-- what comes at once of each frame, from frame f on, whose first packet is packet i
unfoldable pub at_once_from : ℕ → ℕ → List Drawn → List (List (List ℕ))
at_once_from f i [] = []
at_once_from f i (d ∷ ds) = at_once (with_fates f i d) ∷ at_once_from (f + 1) (i + packet_count d.size) ds

-- the retransmissions of each frame, from frame f on; the first has this number
unfoldable pub again_from : ℕ → ℕ → ℕ → List Drawn → List (List (List ℕ))
again_from f i number [] = []
again_from f i number (d ∷ ds) = let lost = lost_of (with_fates f i d) in
    numbered number lost ∷ again_from (f + 1) (i + packet_count d.size) (number + length lost) ds

-- the events around the time of frame g: its datagrams, a tick and two pulls
abbrev pub group : ℕ → List (List ℕ) → List Event
group g datagrams = map (λ octets. Datagram (33 * g) octets) datagrams
    ++ Tick (33 * g + 20) ∷ Pull (33 * g + 25) ∷ Pull (33 * g + 25) ∷ []

-- group after group, from frame g on, with what comes at once and what comes again; and pulls at the end
unfoldable pub groups_from : ℕ → List (List (List ℕ) × List (List ℕ)) → List Event
groups_from g [] = replicate 16 (Pull (33 * g))
groups_from g (x ∷ xs) = group g (x.0 ++ x.1) ++ groups_from (g + 1) xs

-- THE EVENTS of a drill with these draws: what is sent again of a frame comes three frames later, and so three groups
-- more
abbrev pub events_of : List Drawn → List Event
events_of ds = groups_from 0 (zip (at_once_from 0 0 ds ++ [] ∷ [] ∷ [] ∷ []) ([] ∷ [] ∷ [] ∷ again_from 0 0 0 ds))

-- the lines of events, the first of which is line k
abbrev pub lines_from : ℕ → List Event → List (ℕ × Event)
lines_from k [] = []
lines_from k (event ∷ events) = (k, event) ∷ lines_from (k + 1) events

-- the sender and the events of a drill, by its seed and its count of frames
abbrev pub drill_sender : ℕ → ℕ → Sender
drill_sender seed frames = sender_of (draws seed frames)

abbrev pub drill_events : ℕ → ℕ → List Event
drill_events seed frames = events_of (draws seed frames)
