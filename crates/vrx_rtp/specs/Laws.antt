-- What holds of RTP packets and of reading them (RFC 3550 5.1), as statements on octets, each below 256.
use Rattle.std.specs.Prelude.{◌≡◌, ℕ, ◌↔◌, List, All, None, Ok}
use Rattle.vrx_rtp.specs.Faults.{first_fault}
use Rattle.vrx_rtp.specs.Packet.{Packet, IsPacket, Fits, octets_of}
use Rattle.vrx_num.specs.Octets.{AreOctets}
use Rattle.vrx_rtp.specs.Reading.{reading}

-- octets are one packet at most
abbrev pub IsOnePacket : Type 0
IsOnePacket = (octets : List ℕ) (p q : Packet) → IsPacket octets p → IsPacket octets q → p ≡ q

-- octets are a packet exactly if no fault applies
abbrev pub IsPacketOrFault : Type 0
IsPacketOrFault = (octets : List ℕ) → AreOctets octets →
    ((p : Packet) × IsPacket octets p) ↔ (first_fault octets ≡ None)

-- what a packet spells is that packet
abbrev pub SpellsItself : Type 0
SpellsItself = (p : Packet) → Fits p → IsPacket (octets_of p) p

-- and octets whose padding octets but the last are 0 are what their packet spells
abbrev pub IsSpelled : Type 0
IsSpelled = (octets : List ℕ) (p : Packet) (is : IsPacket octets p) → All (λ octet. octet ≡ 0) is.filler →
    octets ≡ octets_of p

-- reading gives a packet exactly if the octets are that packet
abbrev pub ReadsPackets : Type 0
ReadsPackets = (octets : List ℕ) (p : Packet) → AreOctets octets → (reading octets ≡ Ok p) ↔ IsPacket octets p
