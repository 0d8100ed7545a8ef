-- What is read is a packet, and what is a packet is read.
use Rattle.std.proofs.Common.{◌≡◌, ℕ, ◌+◌, ◌-◌, ◌++◌, take, drop, None, sym, ap, subst, ◌∙◌, arith}
use Rattle.vrx_rtcp.specs.Packet.{IsPacket}
use Rattle.vrx_rtcp.specs.Fault.{first_fault}
use Rattle.vrx_rtcp.specs.Field.{size, message}
use Rattle.vrx_rtcp.specs.View.{view}
use Rattle.vrx_rtcp.proofs.NumberLemmas.{Octets, Octets-drop}
use Rattle.vrx_rtcp.proofs.PacketLemmas.{message-is, reads-packet}
use Rattle.vrx_rtcp.proofs.reading.read_packet.Goals as goal

pub returns-in-Ok-clause-packet : goal.returns-in-Ok-clause-packet
returns-in-Ok-clause-packet c =
    let rest = drop c.args.at c.args.bytes.now in
    let fit : Octets rest = Octets-drop c.args.at c.args.bytes.now (λ i. omega (arith, c.type_inv.bytes i)) in
    let here : c.from.result.now ≡ rest = c.from.ensures.octets in
    let none : first_fault rest ≡ None = ap first_fault (sym here) ∙ sym c.in-Ok.ensures.fault in
    let says : message rest ≡ view c.in-Ok.body = ap message (sym here) ∙ sym c.in-Ok.ensures.body in
    let long : size rest ≡ c.args.at + c.in-Ok.size - c.args.at =
    ap size (sym here) ∙ sym c.in-Ok.ensures.size ∙ omega arith in
    subst (λ (n : ℕ). IsPacket (take n rest) (view c.in-Ok.body)) long
    (subst (λ m. IsPacket (take (size rest) rest) m) says (message-is rest fit none))

pub returns-in-Ok-clause-only : goal.returns-in-Ok-clause-only
returns-in-Ok-clause-only c = λ packet behind says spelled is.
    let reads = reads-packet packet behind says is in
    let here : c.from.result.now ≡ packet ++ behind = c.from.ensures.octets ∙ spelled in (
      c.in-Ok.ensures.body ∙ ap message here
          ∙ reads.message,
      ap (λ (n : ℕ). c.args.at + n) (c.in-Ok.ensures.size ∙ ap size here ∙ reads.size),
    )

pub returns-in-Err-clause-only : goal.returns-in-Err-clause-only
returns-in-Err-clause-only c = λ packet behind says spelled is.
    let reads = reads-packet packet behind says is in
    let here : c.from.result.now ≡ packet ++ behind = c.from.ensures.octets ∙ spelled in
    let none = c.in-Err.ensures.fault ∙ ap first_fault here ∙ reads.no_fault in
    absurd cc
