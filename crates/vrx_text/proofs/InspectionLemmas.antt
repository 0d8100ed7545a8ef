-- Lemmas on what the line of an inspection means.
use Rattle.std.proofs.Common.{◌≡◌, ℕ, ◌+◌, ◌-◌, ◌<◌, ◌≤◌, Option, None, Some, Result, Ok, Err, List, [], ◌∷◌, ◌++◌, length, codes, take, drop, sym, ap, subst, ◌∙◌, append_assoc, arith, ◌↔◌}
use Rattle.std.specs.Result.{IsOkAnd, IsErrOf}
use Rattle.std.specs.Option.{option_map}
use Rattle.std.specs.Fmt.{decimal}
use Rattle.std.proofs.lemmas.List.{take-append-drop, drop-drop, drop_all, length-take, length-drop, length-append, append-nil}
use Rattle.std.proofs.lemmas.List.Concat.{flat_map-cons}
use Rattle.std.proofs.lemmas.Grind.{flat_map-append}
use Rattle.vrx_rtp.specs.declared.fault.RtpFault.{RtpFault}
use Rattle.vrx_rtp.specs.declared.rtp_view.RtpView.{RtpView}
use Rattle.vrx_rtp.specs.Rtcp.{IsRtcp}
use Rattle.vrx_rtp.specs.Packet as rtp
use Rattle.vrx_rtp.specs.Faults as rtp_faults
use Rattle.vrx_rtp.specs.View as rtp_view
use Rattle.vrx_rtcp.specs.declared.fault.RtcpFault.{RtcpFault}
use Rattle.vrx_rtcp.specs.declared.fault.RtcpFaultKind.{RtcpFaultKind}
use Rattle.vrx_rtcp.specs.Packet.{Message, IsPacket, BeginsWithPacket}
use Rattle.vrx_rtcp.specs.Fault.{first_fault}
use Rattle.vrx_rtcp.specs.View.{fault_at}
use Rattle.vrx_rtcp.specs.Compound.{SpelledPacket, ArePackets, compound_octets, HasFault}
use Rattle.vrx_text.specs.Transcript.{line_feed}
use Rattle.vrx_text.specs.Inspection.{rtp_line, spaced_word, packet_words, bad_rtcp_line, IsInspection, RtpPacket, BadRtp, Compound, BadRtcp, line_of_rtp, line_of_rtcp, words_in}
use Rattle.vrx_text.proofs.WordLemmas.{words-compound, words-has_fault}

-- ---- RTP

-- the line of what was read, or of the fault, is the only one
pub rtp_only : (k : ℕ) (octets line : List ℕ) (r : Result RtpView RtpFault) → (IsRtcp octets → ⊥) →
    ((p : rtp.Packet) → rtp.IsPacket octets p → IsOkAnd r (λ v. rtp_view.view v ≡ p)) →
    ((f : RtpFault) → (IsErrOf r f ↔ (rtp_faults.first_fault octets ≡ Some f))) → IsInspection k octets line →
    line ≡ line_of_rtp k (rtp_view.view_result r)
rtp_only k octets line (Ok v) other reads faults (RtpPacket _ p is e) =
    e ∙ ap (λ (q : rtp.Packet). rtp_line k q) (sym (reads p is))
rtp_only k octets line (Err f) other reads faults (RtpPacket _ p is e) = absurd (reads p is)
rtp_only k octets line r other reads faults (BadRtp _ f first e) =
    e ∙ ap (λ (s : Result RtpView RtpFault). line_of_rtp k (rtp_view.view_result s)) (sym ((faults f).1 first))
rtp_only k octets line r other reads faults (Compound is packets _ _) = absurd (other is)
rtp_only k octets line r other reads faults (BadRtcp is fault _ _) = absurd (other is)

-- ---- RTCP

-- the line of packets, computed of the octets, and that of a fault
pub rtcp_only : ((octets : List ℕ) → BeginsWithPacket octets → first_fault octets ≡ None) →
    (k : ℕ) (octets line : List ℕ) → IsRtcp octets → IsInspection k octets line →
    line ≡ line_of_rtcp k (words_in octets)
rtcp_only reads k octets line is (RtpPacket other p _ _) = absurd (other is)
rtcp_only reads k octets line is (BadRtp other f _ _) = absurd (other is)
rtcp_only reads k octets line is (Compound _ packets compound e) =
    e ∙ ap (λ (r : Result (List ℕ) RtcpFault). line_of_rtcp k r) (sym (words-compound reads octets packets compound))
rtcp_only reads k octets line is (BadRtcp _ fault has e) =
    e ∙ ap (λ (r : Result (List ℕ) RtcpFault). line_of_rtcp k r) (sym (words-has_fault reads octets fault has))

-- the octets up to a place are packets, and the text has their words after the line's first ones
pub record Told (k : ℕ) (datagram text : List ℕ) (place : ℕ) : Type 0 where
  pub packets : List SpelledPacket
  pub spelled : datagram ≡ compound_octets packets ++ drop place datagram
  pub each : ArePackets packets
  pub reaches : length (compound_octets packets) ≡ place
  pub words : text ≡ decimal k ++ codes " rtcp" ++ packet_words packets

all_and_one : (packets : List SpelledPacket) (p : SpelledPacket) → ArePackets packets → IsPacket p.octets p.message →
    ArePackets (packets ++ p ∷ [])
all_and_one [] p each is = (is, tt)
all_and_one (q ∷ packets) p each is = (each.0, all_and_one packets p each.1 is)

compound_octets-one_more : (packets : List SpelledPacket) (p : SpelledPacket) →
    compound_octets (packets ++ p ∷ []) ≡ compound_octets packets ++ p.octets
compound_octets-one_more packets p = flat_map-append (λ (q : SpelledPacket). q.octets) packets (p ∷ [])
    ∙ ap (λ (x : List ℕ). compound_octets packets ++ x)
    (flat_map-cons (λ (q : SpelledPacket). q.octets) p [] ∙ append-nil p.octets)

words-one_more : (packets : List SpelledPacket) (p : SpelledPacket) →
    packet_words (packets ++ p ∷ []) ≡ packet_words packets ++ spaced_word p.message
words-one_more packets p = flat_map-append (λ (q : SpelledPacket). spaced_word q.message) packets (p ∷ [])
    ∙ ap (λ (x : List ℕ). packet_words packets ++ x)
    (flat_map-cons (λ (q : SpelledPacket). spaced_word q.message) p [] ∙ append-nil (spaced_word p.message))

-- one packet more
pub told_further : (k : ℕ) (datagram text longer : List ℕ) (place next : ℕ) (says : Message) →
    Told k datagram text place → IsPacket (take (next - place) (drop place datagram)) says → place ≤ next →
    next ≤ length datagram → longer ≡ text ++ spaced_word says → Told k datagram longer next
told_further k datagram text longer place next says so_far is rises within more =
    let head : List ℕ = decimal k ++ codes " rtcp" in
    let rest = drop place datagram in
    let p : SpelledPacket = record { octets = take (next - place) rest; message = says } in
    let behind : drop (next - place) rest ≡ drop next datagram = drop-drop (next - place) place datagram
    ∙ ap (λ (n : ℕ). drop n datagram) (let e : place + (next - place) ≡ next = omega arith in e) in
    let cut : rest ≡ p.octets ++ drop next datagram =
    sym (take-append-drop (next - place) rest) ∙ ap (λ (x : List ℕ). p.octets ++ x) behind in
    let one_more = compound_octets-one_more so_far.packets p in
    record {
      packets = so_far.packets ++ p ∷ [];
      spelled = so_far.spelled ∙ ap (λ (x : List ℕ). compound_octets so_far.packets ++ x) cut
          ∙ sym (append_assoc (compound_octets so_far.packets) p.octets (drop next datagram))
          ∙ ap (λ (x : List ℕ). x ++ drop next datagram) (sym one_more);
      each = all_and_one so_far.packets p so_far.each is;
      reaches = ap length one_more ∙ length-append (compound_octets so_far.packets) p.octets
          ∙ omega (arith, so_far.reaches, length-take (next - place) rest, length-drop place datagram);
      words = more ∙ ap (λ (x : List ℕ). x ++ spaced_word says) so_far.words
          ∙ append_assoc head (packet_words so_far.packets) (spaced_word says)
          ∙ ap (λ (x : List ℕ). head ++ x) (sym (words-one_more so_far.packets p));
    }

-- at the end they are all packets
pub told_whole : (k : ℕ) (datagram text line : List ℕ) (place : ℕ) → Told k datagram text place →
    length datagram ≤ place → IsRtcp datagram → line ≡ text ++ line_feed → IsInspection k datagram line
told_whole k datagram text line place is ended rtcp e =
    Compound rtcp is.packets
    (record {
      spelled = is.spelled ∙ ap (λ (x : List ℕ). compound_octets is.packets ++ x) (drop_all place datagram ended)
          ∙ append-nil (compound_octets is.packets);
      each = is.each;
    })
    (e ∙ ap (λ (x : List ℕ). x ++ line_feed) is.words)

-- if no packet is read, that is the first fault
fault_here : (k : ℕ) (datagram text : List ℕ) (place : ℕ) (kind : RtcpFaultKind) → Told k datagram text place →
    place < length datagram → first_fault (drop place datagram) ≡ Some kind → HasFault datagram (fault_at place kind)
fault_here k datagram text place kind is within some = record {
  before = is.packets;
  behind = drop place datagram;
  spelled = is.spelled;
  each = is.each;
  remain = λ nothing. let e = ap length nothing in omega (arith, e, length-drop place datagram);
  at = sym is.reaches;
  kind = some;
}

pub told_fault : (k : ℕ) (datagram text line : List ℕ) (place : ℕ) (fault : Option RtcpFaultKind) (e : RtcpFault) →
    Told k datagram text place → place < length datagram → IsRtcp datagram →
    first_fault (drop place datagram) ≡ fault → Some e ≡ option_map (λ kind. fault_at place kind) fault →
    line ≡ bad_rtcp_line k e → IsInspection k datagram line
told_fault k datagram text line place None e is within rtcp first answered says = absurd cc
told_fault k datagram text line place (Some kind) e is within rtcp first answered says =
    let same : fault_at place kind ≡ e = cc in
    BadRtcp rtcp e (subst (λ (f : RtcpFault). HasFault datagram f) same
    (fault_here k datagram text place kind is within first)) says
