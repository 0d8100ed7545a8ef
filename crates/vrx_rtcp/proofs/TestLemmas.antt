-- The test of a compound says what the grammar says: a compound passes, and octets with a fault don't.
use Rattle.std.proofs.Common.{◌≡◌, ◌≢◌, ℕ, suc, zero, ◌+◌, ◌<◌, ◌≤◌, true, false, List, [], ◌∷◌, ◌++◌, length, drop, Some, None, refl, sym, ◌∙◌, ap, inl, inr, All, arith}
use Rattle.std.specs.Prelude.{is_none}
use Rattle.std.proofs.lemmas.Bool.{or_left, or_right, or_from, and_from, and_left, and_right, eq-eqb, ne_eqb, true≢false}
use Rattle.std.proofs.lemmas.List.{length-append, drop_at, append-nil, nil_from_length}
use Rattle.vrx_rtcp.specs.Fault.{first_fault}
use Rattle.vrx_rtcp.specs.Field.{size}
use Rattle.vrx_rtcp.specs.Packet.{IsPacket}
use Rattle.vrx_rtcp.specs.Compound.{SpelledPacket, ArePackets, compound_octets, IsCompound, HasFault, are_packets, is_compound}
use Rattle.vrx_rtcp.specs.declared.fault.RtcpFault.{RtcpFault}
use Rattle.vrx_rtcp.specs.declared.fault.RtcpFaultKind.{RtcpFaultKind}
use Rattle.vrx_rtcp.proofs.PacketLemmas.{reads-packet}
use Rattle.vrx_rtcp.proofs.NumberLemmas.{all_octets}
use Rattle.vrx_rtcp.proofs.CompoundLemmas.{compound_octets-cons, some_answer}

-- a packet has four octets or more, as its header says
size-least : (octets : List ℕ) → 4 ≤ size octets
unfolding size
size-least octets = omega arith

-- octets that begin with a packet, and what follows it
record Front (octets rest : List ℕ) : Type 0 where
  long : 4 ≤ length octets
  no_fault : first_fault octets ≡ None
  behind : drop (size octets) octets ≡ rest
  shorter : length rest + 4 ≤ length octets

front : (octets rest : List ℕ) (p : SpelledPacket) → IsPacket p.octets p.message → octets ≡ p.octets ++ rest →
    Front octets rest
front octets rest p is same =
    let reads = reads-packet p.octets rest p.message is in
    let size_is : size octets ≡ length p.octets = ap size same ∙ reads.size in
    let least : 4 ≤ size octets = size-least octets in
    let all : length octets ≡ length p.octets + length rest = ap length same ∙ length-append p.octets rest in
    record {
      long = omega (arith, size_is, least, all);
      no_fault = ap first_fault same ∙ reads.no_fault;
      behind = ap (λ n. drop n octets) size_is ∙ ap (λ (x : List ℕ). drop (length p.octets) x) same
          ∙ drop_at p.octets rest (length p.octets) refl;
      shorter = omega (arith, size_is, least, all);
    }

-- packets pass
passes : (most : ℕ) (octets : List ℕ) (packets : List SpelledPacket) → length octets ≤ most → ArePackets packets →
    octets ≡ compound_octets packets ++ [] → are_packets most octets ≡ true
unfolding are_packets
passes zero octets packets fits each same = eq-eqb (length octets) 0 (omega (arith, fits))
passes (suc most) octets [] fits each same = or_left _ _ (eq-eqb (length octets) 0 (ap length same))
passes (suc most) octets (p ∷ packets) fits each same =
    let f : Front octets (compound_octets packets ++ []) =
    front octets (compound_octets packets ++ []) p each.0 (same ∙ compound_octets-cons p packets []) in
    let len : length (drop (size octets) octets) ≡ length (compound_octets packets ++ []) = ap length f.behind in
    or_right _ _ (and_from _ _ (ap is_none f.no_fault)
    (passes most (drop (size octets) octets) packets (omega (arith, len, f.shorter, fits)) each.1 f.behind))

-- octets with a fault after packets don't
fails : (most : ℕ) (octets : List ℕ) (before : List SpelledPacket) (behind : List ℕ) (kind : RtcpFaultKind) →
    length octets ≤ most → ArePackets before → octets ≡ compound_octets before ++ behind → behind ≢ [] →
    first_fault behind ≡ Some kind → are_packets most octets ≡ false
unfolding are_packets
fails zero octets [] behind kind fits each same remain fault =
    absurd (remain (nil_from_length behind
    (let len : length octets ≡ length behind = ap length same in omega (arith, fits, len))))
fails zero octets (p ∷ before) behind kind fits each same remain fault =
    let f : Front octets (compound_octets before ++ behind) =
    front octets (compound_octets before ++ behind) p each.0 (same ∙ compound_octets-cons p before behind) in
    absurd (omega (arith, f.long, fits))
fails (suc most) octets [] behind kind fits each same remain fault =
    let len : length octets ≡ length behind = ap length same in
    or_from _ _ (ne_eqb (length octets) 0 (λ none. remain (nil_from_length behind (sym len ∙ none))))
    (and_left _ _ (ap (λ (x : List ℕ). is_none (first_fault x)) same ∙ ap is_none fault))
fails (suc most) octets (p ∷ before) behind kind fits each same remain fault =
    let f : Front octets (compound_octets before ++ behind) =
    front octets (compound_octets before ++ behind) p each.0 (same ∙ compound_octets-cons p before behind) in
    let len : length (drop (size octets) octets) ≡ length (compound_octets before ++ behind) = ap length f.behind in
    or_from _ _ (ne_eqb (length octets) 0 (λ none. omega (arith, f.long, none)))
    (and_right _ _ (fails most (drop (size octets) octets) before behind kind
    (omega (arith, len, f.shorter, fits)) each.1 f.behind remain fault))

-- a compound passes
pub compound-passes : (octets : List ℕ) (packets : List SpelledPacket) → IsCompound octets packets →
    is_compound octets ≡ true
unfolding is_compound
compound-passes octets packets is =
    passes (length octets) octets packets (omega arith) is.each
    (is.spelled ∙ sym (append-nil (compound_octets packets)))

-- octets with a fault don't
pub fault-fails : (octets : List ℕ) (fault : RtcpFault) → HasFault octets fault → is_compound octets ≡ false
unfolding is_compound
fault-fails octets fault has =
    fails (length octets) octets has.before has.behind fault.kind
    (omega arith) has.each has.spelled has.remain has.kind

-- what passes is a compound
pub passes-compound : (octets : List ℕ) → All (λ octet. octet < 256) octets → is_compound octets ≡ true →
    (packets : List SpelledPacket) × IsCompound octets packets
passes-compound octets below passed = elim (some_answer octets (all_octets octets below)) [
  | inl compound ↦ compound
  | inr fault ↦ absurd (true≢false (sym passed ∙ fault-fails octets fault.0 fault.1))
]

-- what doesn't has a fault
pub fails-fault : (octets : List ℕ) → All (λ octet. octet < 256) octets → is_compound octets ≡ false →
    (fault : RtcpFault) × HasFault octets fault
fails-fault octets below failed = elim (some_answer octets (all_octets octets below)) [
  | inl compound ↦ absurd (true≢false (sym (compound-passes octets compound.0 compound.1) ∙ failed))
  | inr fault ↦ fault
]
