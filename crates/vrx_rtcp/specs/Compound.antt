-- Compound packets: packets whose octets follow one another to the datagram's end (RFC 3550 6.1). Any kind
-- may come first, since reports may be left out (RFC 5506).
use Rattle.std.specs.Prelude.{◌≡◌, ◌≢◌, ℕ, zero, suc, Bool, ◌&&◌, ◌||◌, ◌==◌, List, [], ◌++◌, length, drop, Some, is_none}
use Rattle.std.specs.List.{flat_map, AllByRecursion}
use Rattle.vrx_rtcp.specs.declared.fault.RtcpFault.{RtcpFault}
use Rattle.vrx_rtcp.specs.Packet.{Message, IsPacket}
use Rattle.vrx_rtcp.specs.Fault.{first_fault}
use Rattle.vrx_rtcp.specs.Field.{size}

-- a packet: its octets, and what it says
pub record SpelledPacket : Type 0 where
  pub octets : List ℕ
  pub message : Message

-- each of them is a packet and says that
abbrev pub ArePackets : List SpelledPacket → Type 0
ArePackets packets = AllByRecursion (λ p. IsPacket p.octets p.message) packets

-- the octets of packets, one after another
abbrev pub compound_octets : List SpelledPacket → List ℕ
compound_octets packets = flat_map (λ p. p.octets) packets

-- the datagram is these packets, one after another to its end
pub record IsCompound (datagram : List ℕ) (packets : List SpelledPacket) : Type 0 where
  pub spelled : datagram ≡ compound_octets packets
  pub each : ArePackets packets

-- The datagram begins with packets, and after them octets remain at which no packet is read: the fault is
-- the first one of those, at the place where they begin.
pub record HasFault (datagram : List ℕ) (fault : RtcpFault) : Type 0 where
  pub before : List SpelledPacket
  pub behind : List ℕ
  pub spelled : datagram ≡ compound_octets before ++ behind
  pub each : ArePackets before
  pub remain : behind ≢ []
  pub «at» : fault.at ≡ length (compound_octets before)
  pub kind : first_fault behind ≡ Some fault.kind

-- the octets are packets to their end, of which there are at most so many, as a test
unfoldable pub are_packets : ℕ → List ℕ → Bool
are_packets zero octets = length octets == 0
are_packets (suc most) octets =
    (length octets == 0) || (is_none (first_fault octets) && are_packets most (drop (size octets) octets))

-- the octets are packets to their end, as a test: a packet has octets, so there are no more packets than octets
unfoldable pub is_compound : List ℕ → Bool
is_compound octets = are_packets (length octets) octets
