-- What holds of packets and of compounds of them (RFC 3550 6.1 and 6.4), as statements on octets, each below 256;
-- and that feedback is read as it is written (RFC 4585 6.2.1 and 6.3.1).
use Rattle.std.specs.Prelude.{◌≡◌, ℕ, ◌+◌, ◌-◌, ◌%◌, ◌^◌, ◌<◌, ◌≤◌, ◌⊎◌, ◌↔◌, true, false, List, [], ◌∷◌, ◌++◌, length, map, slice_index, All, None}
use Rattle.std.specs.List.Sorted.{IsStrictlyIncreasing}
use Rattle.vrx_rtcp.specs.declared.fault.RtcpFault.{RtcpFault}
use Rattle.vrx_rtcp.specs.declared.types.TheConstants.{NACK_SPAN}
use Rattle.vrx_rtcp.specs.Packet.{Message, Nack, Pli, IsPacket, BeginsWithPacket}
use Rattle.vrx_rtcp.specs.Fault.{first_fault}
use Rattle.vrx_rtcp.specs.Feedback.{nack_octets, pli_octets, items_octets, numbers_named}
use Rattle.vrx_rtcp.specs.Field.{message, size}
use Rattle.vrx_rtcp.specs.Compound.{SpelledPacket, IsCompound, HasFault, is_compound}

-- octets begin with one packet at most, and it says one thing
abbrev pub BeginsWithOne : Type 0
BeginsWithOne = (p q x y : List ℕ) (m n : Message) → IsPacket p m → IsPacket q n → p ++ x ≡ q ++ y → (p ≡ q) × (m ≡ n)

-- octets that begin with a packet have no fault
abbrev pub HasNoFault : Type 0
HasNoFault = (octets : List ℕ) → BeginsWithPacket octets → first_fault octets ≡ None

-- octets that have no fault begin with a packet
abbrev pub HasPacket : Type 0
HasPacket =
    (octets : List ℕ) → All (λ octet. octet < 256) octets → first_fault octets ≡ None → BeginsWithPacket octets

-- a datagram is a compound in one way at most
abbrev pub IsOneCompound : Type 0
IsOneCompound =
    (datagram : List ℕ) (ps qs : List SpelledPacket) → IsCompound datagram ps → IsCompound datagram qs → ps ≡ qs

-- a datagram is a compound, or it has a first fault
abbrev pub HasAnswer : Type 0
HasAnswer = (datagram : List ℕ) → All (λ octet. octet < 256) datagram →
    ((packets : List SpelledPacket) × IsCompound datagram packets) ⊎ ((fault : RtcpFault) × HasFault datagram fault)

-- a datagram has one first fault at most
abbrev pub HasOneFault : Type 0
HasOneFault = (datagram : List ℕ) (e f : RtcpFault) → HasFault datagram e → HasFault datagram f → e ≡ f

-- and none if it is a compound
abbrev pub HasNotBoth : Type 0
HasNotBoth = (datagram : List ℕ) (packets : List SpelledPacket) (fault : RtcpFault) → IsCompound datagram packets →
    HasFault datagram fault → ⊥

-- the test passes exactly if some packets are the compound
abbrev pub PassesCompounds : Type 0
PassesCompounds = (datagram : List ℕ) → All (λ octet. octet < 256) datagram →
    (is_compound datagram ≡ true) ↔ ((packets : List SpelledPacket) × IsCompound datagram packets)

-- and it fails exactly if some fault is the first
abbrev pub FailsFaults : Type 0
FailsFaults = (datagram : List ℕ) → All (λ octet. octet < 256) datagram →
    (is_compound datagram ≡ false) ↔ ((fault : RtcpFault) × HasFault datagram fault)

-- the octets are read as one packet, to their end, that says this
pub record IsReadAs (octets : List ℕ) (says : Message) : Type 0 where
  pub packet : IsPacket octets says
  pub no_fault : first_fault octets ≡ None
  pub message : message octets ≡ says
  pub size : size octets ≡ length octets
  pub compound : IsCompound octets (record { octets = octets; message = says } ∷ [])

-- A NACK of numbers that rise, and lie no farther apart than one NACK takes, is read as a NACK between the same
-- SSRCs, and its items name just the numbers, modulo 65,536 and in their order.
abbrev pub ReadsNack : Type 0
ReadsNack = (from media : ℕ) (numbers : List ℕ) → from < 2 ^ 32 → media < 2 ^ 32 →
    IsStrictlyIncreasing numbers → slice_index numbers (length numbers - 1) ≤ slice_index numbers 0 + NACK_SPAN →
    IsReadAs (nack_octets from media numbers) (Nack from media (items_octets numbers))
    × (numbers_named (items_octets numbers) ≡ map (λ n. n % 65536) numbers)

-- a picture loss indication is read as one between the same SSRCs
abbrev pub ReadsPli : Type 0
ReadsPli = (from media : ℕ) → from < 2 ^ 32 → media < 2 ^ 32 → IsReadAs (pli_octets from media) (Pli from media)
