-- The laws of compound packets.
use Rattle.std.proofs.Common.{◌≡◌, ◌≢◌, ℕ, zero, suc, ◌+◌, ◌-◌, ◌<◌, ◌≤◌, ◌⊎◌, Option, None, Some, List, [], ◌∷◌, ◌++◌, length, take, drop, refl, sym, ap, subst, ◌∙◌, append_assoc, arith, inl, inr}
use Rattle.std.specs.Option.{option_map}
use Rattle.std.proofs.lemmas.List.{take-append-drop, drop-drop, drop_all, length-take, length-drop, length-append, take_at, drop_at, append-nil, nil_from_length}
use Rattle.std.proofs.lemmas.List.Concat.{flat_map-cons}
use Rattle.std.proofs.lemmas.Grind.{flat_map-append}
use Rattle.vrx_rtcp.specs.declared.fault.RtcpFault.{RtcpFault}
use Rattle.vrx_rtcp.specs.declared.fault.RtcpFaultKind.{RtcpFaultKind}
use Rattle.vrx_rtcp.specs.Packet.{Message, IsPacket}
use Rattle.vrx_rtcp.specs.Fault.{first_fault}
use Rattle.vrx_rtcp.specs.Field.{size, message}
use Rattle.vrx_rtcp.specs.View.{fault_at}
use Rattle.vrx_rtcp.specs.Compound.{SpelledPacket, ArePackets, compound_octets, IsCompound, HasFault}
use Rattle.vrx_rtcp.proofs.NumberLemmas.{Octets, Octets-drop}
use Rattle.vrx_rtcp.proofs.PacketLemmas.{message-is, reads-packet}

-- octets that begin with packets, and at the rest of which no packet is read
pub record Divides (octets : List ℕ) (packets : List SpelledPacket) (behind : List ℕ) : Type 0 where
  pub spelled : octets ≡ compound_octets packets ++ behind
  pub each : ArePackets packets
  pub stops : first_fault behind ≢ None

-- octets that begin with a packet are no end
stops_not : (packet rest behind : List ℕ) (says : Message) → IsPacket packet says → behind ≡ packet ++ rest →
    first_fault behind ≢ None → ⊥
stops_not packet rest behind says is spelled stops =
    stops (ap first_fault spelled ∙ (reads-packet packet rest says is).no_fault)

-- octets begin with one packet at most, and what follows it is the same
record SameFront (p q : SpelledPacket) (x y : List ℕ) : Type 0 where
  same : p ≡ q
  rest : x ≡ y

same_parts : (a b : List ℕ) (m n : Message) → a ≡ b → m ≡ n →
    ◌≡◌ {A = SpelledPacket} (record { octets = a; message = m }) (record { octets = b; message = n })
same_parts a b m n same says = cc

same_front : (p q : SpelledPacket) (x y : List ℕ) → IsPacket p.octets p.message → IsPacket q.octets q.message →
    p.octets ++ x ≡ q.octets ++ y → SameFront p q x y
same_front p q x y is_p is_q same =
    let reads_p = reads-packet p.octets x p.message is_p in
    let reads_q = reads-packet q.octets y q.message is_q in
    let len : length p.octets ≡ length q.octets = sym reads_p.size ∙ ap size same ∙ reads_q.size in
    let front : p.octets ≡ q.octets = sym (take_at p.octets x (length p.octets) refl)
    ∙ ap (λ (o : List ℕ). take (length p.octets) o) same ∙ take_at q.octets y (length p.octets) (sym len) in
    let behind : x ≡ y = sym (drop_at p.octets x (length p.octets) refl)
    ∙ ap (λ (o : List ℕ). drop (length p.octets) o) same ∙ drop_at q.octets y (length p.octets) (sym len) in
    let says : p.message ≡ q.message = sym reads_p.message ∙ ap message same ∙ reads_q.message in
    record { same = same_parts p.octets q.octets p.message q.message front says; rest = behind }

pub compound_octets-cons : (p : SpelledPacket) (ps : List SpelledPacket) (behind : List ℕ) →
    compound_octets (p ∷ ps) ++ behind ≡ p.octets ++ (compound_octets ps ++ behind)
compound_octets-cons p ps behind =
    ap (λ (x : List ℕ). x ++ behind) (flat_map-cons (λ (p : SpelledPacket). p.octets) p ps)
    ∙ append_assoc p.octets (compound_octets ps) behind

-- octets divide into packets and an end in one way
pub record SameDivision (ps qs : List SpelledPacket) (x y : List ℕ) : Type 0 where
  pub packets : ps ≡ qs
  pub behind : x ≡ y

same_division : (ps qs : List SpelledPacket) (x y : List ℕ) → ArePackets ps → ArePackets qs → first_fault x ≢ None →
    first_fault y ≢ None → compound_octets ps ++ x ≡ compound_octets qs ++ y → SameDivision ps qs x y
same_division [] [] x y is_ps is_qs stops_x stops_y same = record { packets = refl; behind = same }
same_division [] (q ∷ qs) x y is_ps is_qs stops_x stops_y same =
    absurd (stops_not q.octets (compound_octets qs ++ y) x q.message is_qs.0
    (same ∙ compound_octets-cons q qs y) stops_x)
same_division (p ∷ ps) [] x y is_ps is_qs stops_x stops_y same =
    absurd (stops_not p.octets (compound_octets ps ++ x) y p.message is_ps.0
    (sym same ∙ compound_octets-cons p ps x) stops_y)
same_division (p ∷ ps) (q ∷ qs) x y is_ps is_qs stops_x stops_y same =
    let front = same_front p q (compound_octets ps ++ x) (compound_octets qs ++ y) is_ps.0 is_qs.0
    (sym (compound_octets-cons p ps x) ∙ same ∙ compound_octets-cons q qs y) in
    let later = same_division ps qs x y is_ps.1 is_qs.1 stops_x stops_y front.rest in
    record {
      packets = ap (λ (r : SpelledPacket). r ∷ ps) front.same
          ∙ ap (λ (rs : List SpelledPacket). q ∷ rs) later.packets;
      behind = later.behind;
    }

pub one_division : (octets : List ℕ) (ps qs : List SpelledPacket) (x y : List ℕ) → Divides octets ps x →
    Divides octets qs y → SameDivision ps qs x y
one_division octets ps qs x y a b = same_division ps qs x y a.each b.each a.stops b.stops (sym a.spelled ∙ b.spelled)

-- no packet is read of nothing
nothing_stops : first_fault [] ≢ None
unfolding first_fault
nothing_stops none = absurd cc

fault_stops : (behind : List ℕ) (kind : RtcpFaultKind) → first_fault behind ≡ Some kind → first_fault behind ≢ None
fault_stops behind kind some none = absurd cc

pub compound_divides : (octets : List ℕ) (packets : List SpelledPacket) → IsCompound octets packets →
    Divides octets packets []
compound_divides octets packets is =
    record {
      spelled = is.spelled ∙ sym (append-nil (compound_octets packets));
      each = is.each;
      stops = nothing_stops;
    }

pub fault_divides : (octets : List ℕ) (fault : RtcpFault) (has : HasFault octets fault) →
    Divides octets has.before has.behind
fault_divides octets fault has =
    record { spelled = has.spelled; each = has.each; stops = fault_stops has.behind fault.kind has.kind }

-- ---- the laws

-- a datagram is a compound in at most one way
pub one_compound : (datagram : List ℕ) (ps qs : List SpelledPacket) → IsCompound datagram ps →
    IsCompound datagram qs → ps ≡ qs
one_compound datagram ps qs a b =
    (one_division datagram ps qs [] [] (compound_divides datagram ps a) (compound_divides datagram qs b)).packets

same_fault : (k l : RtcpFaultKind) (a b : ℕ) → k ≡ l → a ≡ b →
    ◌≡◌ {A = RtcpFault} (record { kind = k; at = a }) (record { kind = l; at = b })
same_fault k l a b kinds places = cc

some_is : (k l : RtcpFaultKind) → Some k ≡ Some l → k ≡ l
some_is k l same = cc

-- it has one first fault at most
pub one_fault : (datagram : List ℕ) (e f : RtcpFault) → HasFault datagram e → HasFault datagram f → e ≡ f
one_fault datagram e f a b =
    let same = one_division datagram a.before b.before a.behind b.behind (fault_divides datagram e a)
    (fault_divides datagram f b) in
    let kinds : e.kind ≡ f.kind = some_is e.kind f.kind (sym a.kind ∙ ap first_fault same.behind ∙ b.kind) in
    same_fault e.kind f.kind e.at f.at kinds
    (a.at ∙ ap (λ (ps : List SpelledPacket). length (compound_octets ps)) same.packets ∙ sym b.at)

-- and none if it is a compound
pub not_both : (datagram : List ℕ) (packets : List SpelledPacket) (fault : RtcpFault) → IsCompound datagram packets →
    HasFault datagram fault → ⊥
not_both datagram packets fault is has =
    has.remain (sym (one_division datagram packets has.before [] has.behind (compound_divides datagram packets is)
    (fault_divides datagram fault has)).behind)

-- some packets, and the end after them
pub record Division (octets : List ℕ) : Type 0 where
  pub packets : List SpelledPacket
  pub behind : List ℕ
  pub divides : Divides octets packets behind

kind_or_none : (fault : Option RtcpFaultKind) → (fault ≡ None) ⊎ ((kind : RtcpFaultKind) × (fault ≡ Some kind))
kind_or_none None = inl refl
kind_or_none (Some kind) = inr (kind, refl)

-- a packet before those that are there
pub with_first : (octets : List ℕ) → Octets octets → first_fault octets ≡ None →
    Division (drop (size octets) octets) → Division octets
with_first octets fit none later =
    let first : SpelledPacket = record { octets = take (size octets) octets; message = message octets } in
    record {
      packets = first ∷ later.packets;
      behind = later.behind;
      divides = record {
        spelled = sym (take-append-drop (size octets) octets)
            ∙ ap (λ (x : List ℕ). take (size octets) octets ++ x) later.divides.spelled
            ∙ sym (compound_octets-cons first later.packets later.behind);
        each = (message-is octets fit none, later.divides.each);
        stops = later.divides.stops;
      };
    }

size_some : (octets : List ℕ) → 1 ≤ size octets
unfolding size
size_some octets = omega arith

nothing_left : (octets : List ℕ) → length octets ≤ 0 → octets ≡ []
nothing_left octets short = nil_from_length octets (omega arith)

division : (fuel : ℕ) (octets : List ℕ) → length octets ≤ fuel → Octets octets → Division octets
division zero octets short fit =
    let empty = nothing_left octets short in
    record { packets = []; behind = []; divides = record { spelled = empty; each = tt; stops = nothing_stops } }
division (suc fuel) octets short fit =
    elim (kind_or_none (first_fault octets)) [
      | inr some ↦ record {
        packets = [];
        behind = octets;
        divides = record { spelled = refl; each = tt; stops = fault_stops octets some.0 some.1 };
      }
      | inl none ↦ with_first octets fit none
          (division fuel (drop (size octets) octets)
          (omega (arith, length-drop (size octets) octets, size_some octets)) (Octets-drop (size octets) octets fit))
    ]

-- what a division comes to
whole_or_fault : (octets behind : List ℕ) (packets : List SpelledPacket) (kind : RtcpFaultKind) →
    Divides octets packets behind → first_fault behind ≡ Some kind →
    ((ps : List SpelledPacket) × IsCompound octets ps) ⊎ ((fault : RtcpFault) × HasFault octets fault)
whole_or_fault octets [] packets kind is some =
    inl (packets, record { spelled = is.spelled ∙ append-nil (compound_octets packets); each = is.each })
whole_or_fault octets (x ∷ xs) packets kind is some =
    inr (
      record { kind = kind; at = length (compound_octets packets) },
      record {
        before = packets;
        behind = x ∷ xs;
        spelled = is.spelled;
        each = is.each;
        remain = λ h. absurd cc;
        at = refl;
        kind = some;
      },
    )

-- a datagram is a compound, or has a first fault
pub some_answer : (datagram : List ℕ) → Octets datagram →
    ((packets : List SpelledPacket) × IsCompound datagram packets) ⊎ ((fault : RtcpFault) × HasFault datagram fault)
some_answer datagram fit =
    let is = division (length datagram) datagram (omega arith) fit in
    elim (kind_or_none (first_fault is.behind)) [
      | inl none ↦ absurd (is.divides.stops none)
      | inr some ↦ whole_or_fault datagram is.behind is.packets some.0 is.divides some.1
    ]

-- ---- octets read one packet after another

-- the octets up to a place are so many packets
pub record Begins (datagram : List ℕ) (place number : ℕ) : Type 0 where
  pub packets : List SpelledPacket
  pub spelled : datagram ≡ compound_octets packets ++ drop place datagram
  pub each : ArePackets packets
  pub reaches : length (compound_octets packets) ≡ place
  pub counted : length packets ≡ number

all_and_one : (packets : List SpelledPacket) (p : SpelledPacket) → ArePackets packets → IsPacket p.octets p.message →
    ArePackets (packets ++ p ∷ [])
all_and_one [] p each is = (is, tt)
all_and_one (q ∷ packets) p each is = (each.0, all_and_one packets p each.1 is)

compound_octets-one_more : (packets : List SpelledPacket) (p : SpelledPacket) →
    compound_octets (packets ++ p ∷ []) ≡ compound_octets packets ++ p.octets
compound_octets-one_more packets p = flat_map-append (λ (p : SpelledPacket). p.octets) packets (p ∷ [])
    ∙ ap (λ (x : List ℕ). compound_octets packets ++ x)
    (flat_map-cons (λ (p : SpelledPacket). p.octets) p [] ∙ append-nil p.octets)

pub begins_further : (datagram : List ℕ) (place number next : ℕ) (says : Message) → Begins datagram place number →
    IsPacket (take (next - place) (drop place datagram)) says → place ≤ next → next ≤ length datagram →
    Begins datagram next (number + 1)
begins_further datagram place number next says so_far is rises within =
    let rest = drop place datagram in
    let p : SpelledPacket = record { octets = take (next - place) rest; message = says } in
    let behind : drop (next - place) rest ≡ drop next datagram = drop-drop (next - place) place datagram
    ∙ ap (λ (n : ℕ). drop n datagram) (let e : place + (next - place) ≡ next = omega arith in e) in
    let cut : rest ≡ p.octets ++ drop next datagram =
    sym (take-append-drop (next - place) rest) ∙ ap (λ (x : List ℕ). p.octets ++ x) behind in
    let longer = compound_octets-one_more so_far.packets p in
    record {
      packets = so_far.packets ++ p ∷ [];
      spelled = so_far.spelled ∙ ap (λ (x : List ℕ). compound_octets so_far.packets ++ x) cut
          ∙ sym (append_assoc (compound_octets so_far.packets) p.octets (drop next datagram))
          ∙ ap (λ (x : List ℕ). x ++ drop next datagram) (sym longer);
      each = all_and_one so_far.packets p so_far.each is;
      reaches = ap length longer ∙ length-append (compound_octets so_far.packets) p.octets
          ∙ omega (arith, so_far.reaches, length-take (next - place) rest, length-drop place datagram);
      counted = length-append so_far.packets (p ∷ []) ∙ ap (λ (n : ℕ). n + 1) so_far.counted;
    }

-- at the end they are a compound
pub begins_whole : (datagram : List ℕ) (place number : ℕ) → Begins datagram place number → length datagram ≤ place →
    (packets : List SpelledPacket) × IsCompound datagram packets × (length packets ≡ number)
begins_whole datagram place number is ended = (
  is.packets,
  record {
    spelled = is.spelled ∙ ap (λ (x : List ℕ). compound_octets is.packets ++ x) (drop_all place datagram ended)
        ∙ append-nil (compound_octets is.packets);
    each = is.each;
  },
  is.counted,
)

-- if no packet is read, that is the first fault
pub begins_fault : (datagram : List ℕ) (place number : ℕ) (kind : RtcpFaultKind) → Begins datagram place number →
    place < length datagram → first_fault (drop place datagram) ≡ Some kind →
    HasFault datagram (record { kind = kind; at = place })
begins_fault datagram place number kind is within some = record {
  before = is.packets;
  behind = drop place datagram;
  spelled = is.spelled;
  each = is.each;
  remain = λ nothing. let e = ap length nothing in omega (arith, e, length-drop place datagram);
  at = sym is.reaches;
  kind = some;
}

-- octets begin with one packet at most
pub same_packet : (p q x y : List ℕ) (m n : Message) → IsPacket p m → IsPacket q n → p ++ x ≡ q ++ y →
    (p ≡ q) × (m ≡ n)
same_packet p q x y m n is_p is_q same =
    let s = same_front (record { octets = p; message = m }) (record { octets = q; message = n }) x y is_p is_q same in
    (ap (λ (r : SpelledPacket). r.octets) s.same, ap (λ (r : SpelledPacket). r.message) s.same)

-- the fault that a call told at a place is the first one
pub told_fault : (datagram : List ℕ) (place number : ℕ) (fault : Option RtcpFaultKind) (e : RtcpFault) →
    Begins datagram place number → place < length datagram → first_fault (drop place datagram) ≡ fault →
    Some e ≡ option_map (λ kind. fault_at place kind) fault → HasFault datagram e
told_fault datagram place number None e is within first answered = absurd cc
told_fault datagram place number (Some kind) e is within first answered =
    let same : fault_at place kind ≡ e = cc in
    subst (λ (f : RtcpFault). HasFault datagram f) same (begins_fault datagram place number kind is within first)
