-- What a plan sees while it is made. No public clause cites this module.
use Rattle.std.specs.Prelude.{◌≡◌, ℕ, ◌+◌, ◌-◌, ◌^◌, ◌<◌, ◌≤◌, Bool, true, false, ◌&&◌, not, List, length, Option, Some, None, is_some}
use Rattle.std.specs.List.{filter}
use Rattle.vrx_num.specs.OptionChain.{◌>>=◌}
use Rattle.vrx_fec.specs.Mask.{is_named, numbers_from, width}
use Rattle.vrx_fec.specs.Payload.{Payload, first_mask, masks}
use Rattle.vrx_fec.specs.Parity.{Texts}
use Rattle.vrx_fec.specs.Rebuilt.{IsOf, Sums}
use Rattle.vrx_codec.specs.Part.{Part}
use Rattle.vrx_rtp.specs.Packet.{Packet}
use Rattle.vrx_window.specs.Content.{Content, Media, Fec, Empty}
use Rattle.vrx_num.specs.declared.limits.TheConstants.{MOST_OCTETS}
use Rattle.vrx_window.specs.Window.{Contents, at, is_available}
use Rattle.vrx_window.specs.declared.placing.Placing.{Placing}
use Rattle.vrx_window.specs.declared.placing.Placing.TheVariants.{TooOld, Dead, Repeat, Fresh}
use Rattle.vrx_repair.specs.Plan.{packets_seen, placed}
use Rattle.vrx_repair.specs.Step.{Packets, others_of, payload_of, texts_at}
use Rattle.vrx_repair.specs.declared.media.Facts.{Facts}
use Rattle.vrx_repair.specs.declared.seen.Seen.{Seen}
use Rattle.vrx_repair.specs.declared.seen.Sight.{Sight}
use Rattle.vrx_repair.specs.declared.seen.Sight.TheVariants as sights

-- what stands under a number, by its content
abbrev pub content_seen : Sight → Option Content
content_seen sights.Nothing = None
content_seen (sights.Media text) = Some (Media text.now)
content_seen (sights.Fec payload) = Some (Fec payload.now)
content_seen sights.Empty = Some Empty

-- the window in which the packet is placed
abbrev pub window_by : Seen → Contents Content
window_by seen = placed seen.number seen.held.now seen.window.now

-- the packets of that window, and the repairs that were made
abbrev pub packets_by : Seen → Packets
packets_by seen = packets_seen seen.number seen.held.now seen.window.now seen.made.now

-- a FEC packet stands under a number
abbrev pub is_fec_at : Packets → ℕ → Bool
is_fec_at packets n = is_some (at n packets >>= payload_of)

-- what becomes of a number says that it was given up
abbrev pub says_dead : Placing → Bool
says_dead TooOld = false
says_dead Dead = true
says_dead Repeat = false
says_dead Fresh = false

-- level 0 names an offset
abbrev pub protects : Payload → ℕ → Bool
protects p i = is_named p.long (first_mask (masks p.levels)) i

-- each number that level 0 names, counted from a base, has 64 bits
abbrev pub AreNumbers : ℕ → Payload → Type 0
AreNumbers base p = (i : ℕ) → protects p i ≡ true → base + i < 2 ^ 64

-- the numbers from one on up to an end
abbrev pub upto : ℕ → ℕ → List ℕ
upto i end = numbers_from i (end - i)

-- level 0 names an offset from a base, and nothing is available under its number
abbrev pub misses : Packets → ℕ → Payload → ℕ → Bool
misses packets base p i = protects p i && not (is_available (base + i) packets)

-- such offsets, from one on
abbrev pub missing_from : Packets → ℕ → Payload → ℕ → List ℕ
missing_from packets base p i = filter (misses packets base p) (upto i (width p.long))

-- the offsets from one on that level 0 names, but for the missing one
abbrev pub others_from : Payload → ℕ → ℕ → List ℕ
others_from p missing i = others_of missing (filter (protects p) (upto i (width p.long)))

-- a register has just the texts under these
pub record HasAdded (packets : Packets) (base : ℕ) (p : Payload) (missing i : ℕ) (register : Sums) : Type 0 where
  pub texts : Texts
  pub are : texts_at packets base (others_from p missing i) ≡ Some texts
  pub sums : IsOf register p texts

-- a text has an RTP header, and isn't too long
pub record IsText (text : List ℕ) : Type 0 where
  pub at_least : 12 ≤ length text
  pub at_most : length text ≤ MOST_OCTETS

-- each media packet is such a text
abbrev pub ArePackets : Packets → Type 0
ArePackets packets = (n : ℕ) (text : List ℕ) → at n packets ≡ Some (Media text) → IsText text

-- what a packet and its part say that is kept beside the text
abbrev pub facts_in : Packet × Part → Facts
facts_in (packet, part) = record {
  marker = packet.marker;
  ts = packet.ts;
  start = part.start;
  key = part.key;
  layers = part.layers;
}
