-- What a reading says, of the answer of the code.
use Rattle.std.proofs.Common.{◌≡◌, ℕ, List, Some, None, Result, Ok, Err, refl, sym, ap, ◌∙◌, ◌↔◌}
use Rattle.std.specs.Prelude.{IfOk, IsOk, IsOkAnd, IsErrOf}
use Rattle.std.proofs.lemmas.Option.{none-some, same_Some}
use Rattle.vrx_rtp.specs.declared.fault.RtpFault.{RtpFault}
use Rattle.vrx_rtp.specs.declared.rtp_view.RtpView.{RtpView}
use Rattle.vrx_rtp.specs.Faults.{first_fault}
use Rattle.vrx_rtp.specs.Packet.{Packet, IsPacket}
use Rattle.vrx_num.specs.Octets.{AreOctets}
use Rattle.vrx_rtp.specs.Reading.{reading}
use Rattle.vrx_rtp.specs.View.{view, view_result}
use Rattle.vrx_rtp.proofs.Steps.{fault_of, ok_is}
use Rattle.vrx_rtp.proofs.FaultLemmas.{fault_of-reading}
use Rattle.vrx_rtp.proofs.PacketLemmas.{packet-reading, reading-packet}

-- what was read is in the grammar
pub is_packet : (octets : List ℕ) (r : Result RtpView RtpFault) → AreOctets octets → view_result r ≡ reading octets →
    IfOk r (λ v. IsPacket octets (view v))
is_packet octets (Ok v) are reads = packet-reading octets (view v) are (sym reads)
is_packet octets (Err e) are reads = tt

-- what is in the grammar was read
pub is_read : (octets : List ℕ) (r : Result RtpView RtpFault) (p : Packet) → view_result r ≡ reading octets →
    IsPacket octets p → IsOkAnd r (λ v. view v ≡ p)
is_read octets (Ok v) p reads is = ok_is (view v) p (reads ∙ reading-packet octets p is)
is_read octets (Err e) p reads is = let wrong = reads ∙ reading-packet octets p is in absurd cc

-- the fault of the answer is the first that applies
first_is : (octets : List ℕ) (r : Result RtpView RtpFault) → view_result r ≡ reading octets →
    fault_of (view_result r) ≡ first_fault octets
first_is octets r reads = ap fault_of reads ∙ fault_of-reading octets

pub is_ok : (octets : List ℕ) (r : Result RtpView RtpFault) → view_result r ≡ reading octets →
    IsOk r ↔ (first_fault octets ≡ None)
is_ok octets (Ok v) reads = (λ h. sym (first_is octets (Ok v) reads), λ h. refl)
is_ok octets (Err e) reads =
    (λ h. absurd cc, λ none. absurd (none-some e (sym (first_is octets (Err e) reads ∙ none))))

pub is_fault : (octets : List ℕ) (r : Result RtpView RtpFault) (f : RtpFault) → view_result r ≡ reading octets →
    IsErrOf r f ↔ (first_fault octets ≡ Some f)
is_fault octets (Ok v) f reads = (λ h. absurd cc, λ some. absurd (none-some f (first_is octets (Ok v) reads ∙ some)))
is_fault octets (Err e) f reads = (
  λ h. let same : e ≡ f = cc in sym (first_is octets (Err e) reads) ∙ ap (λ (x : RtpFault). Some x) same,
  λ some. let same : e ≡ f = same_Some e f (first_is octets (Err e) reads ∙ some) in cc,
)

-- a reading without a fault gives a packet
no_fault : (r : Result Packet RtpFault) → fault_of r ≡ None → (p : Packet) × (r ≡ Ok p)
no_fault (Ok p) none = (p, refl)
no_fault (Err e) none = absurd (none-some e (sym none))

-- octets are a packet exactly if no fault applies
pub packet_or_fault : (octets : List ℕ) → AreOctets octets →
    ((p : Packet) × IsPacket octets p) ↔ (first_fault octets ≡ None)
packet_or_fault octets are = (
  (λ found. sym (fault_of-reading octets) ∙ ap fault_of (reading-packet octets found.0 found.1)),
  λ none. let read =
      no_fault (reading octets) (fault_of-reading octets ∙ none) in (read.0, packet-reading octets read.0 are read.1),
)
