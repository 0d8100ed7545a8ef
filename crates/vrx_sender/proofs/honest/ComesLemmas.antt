-- What the network of a drill brings: wire forms of its sender's packets.
use Rattle.std.proofs.Common.{ℕ, ◌+◌, ◌*◌, ◌<◌, Bool, All, List, [], ◌∷◌, ◌++◌, length, map, filter, zip}
use Rattle.std.proofs.lemmas.List.Elements.{All-append, All-cons, All-filter, All-head, All-map, All-nil, All-replicate, All-tail}
use Rattle.vrx_rtp.specs.Laws.{ReadsPackets, SpellsItself}
use Rattle.vrx_rtp.specs.Packet.{Packet}
use Rattle.vrx_core.specs.honest.Sender.{SentPacket}
use Rattle.vrx_core.specs.declared.event.Event.{Event}
use Rattle.vrx_core.specs.declared.event.Event.TheVariants.{Datagram, Tick, Pull}
use Rattle.vrx_sender.specs.declared.draws.Fate.{Fate}
use Rattle.vrx_sender.specs.Draws.{Drawn}
use Rattle.vrx_sender.specs.Drill.{again_from, at_once, at_once_from, datagram, events_of, group, groups_from, is_in_time, is_late, is_sent_again, lost_of, numbered, with_fates}
use Rattle.vrx_sender.specs.Frames.{octets, packet_count}
use Rattle.vrx_sender.specs.Packets.{packets, packets_from, sent_packets}
use Rattle.vrx_sender.proofs.honest.PlaceLemmas.{Sized, sent-count}
use Rattle.vrx_sender.proofs.honest.WireFormLemmas.{Comes, IsCarried, Stand, frame-comes, stand-all, stand-left, stand-right}

-- an event brings a wire form of one of these packets, or no datagram
abbrev pub Brings : List SentPacket → Event → Type 0
Brings all (Datagram moment octets) = IsCarried all octets
Brings all (Tick moment) = Unit {0}
Brings all (Pull moment) = Unit {0}

all-zipped : {A B : Type 0} (P : B → Type 0) (xs : List A) (ys : List B) → All P ys → All (λ p. P p.1) (zip xs ys)
all-zipped P [] ys each = All-nil (λ p. P p.1)
all-zipped P (x ∷ xs) [] each = All-nil (λ p. P p.1)
all-zipped P (x ∷ xs) (y ∷ ys) each =
    All-cons (λ p. P p.1) (x, y) (zip xs ys) (All-head P y ys each) (all-zipped P xs ys (All-tail P y ys each))

-- ---- the datagrams of a frame

module _ (all : List SentPacket) where
  abbrev CarriedAll : List (List ℕ) → Type 0
  CarriedAll datagrams = All (IsCarried all) datagrams

  chosen-come : (has : Fate → Bool) (ps : List (Fate × Packet)) → All (λ p. Comes all p.1) ps →
      CarriedAll (map (λ p. datagram p.1) (filter (λ p. has p.0) ps))
  chosen-come has ps come =
      All-map (IsCarried all) (λ (p : Fate × Packet). datagram p.1) (filter (λ p. has p.0) ps)
      (λ i d lt. (All-filter (λ p. has p.0) (λ p. Comes all p.1) ps come i d lt).at_once)

  at-once-comes : (ps : List (Fate × Packet)) → All (λ p. Comes all p.1) ps → CarriedAll (at_once ps)
  at-once-comes ps come =
      All-append (IsCarried all) (map (λ p. datagram p.1) (filter (λ p. is_in_time p.0) ps)) _
      (chosen-come is_in_time ps come) (chosen-come is_late ps come)

  numbered-come : (number : ℕ) (ps : List (Fate × Packet)) → All (λ p. Comes all p.1) ps → CarriedAll (numbered number ps)
  numbered-come number [] come = All-nil (IsCarried all)
  numbered-come number (p ∷ ps) come =
      All-cons (IsCarried all) _ (numbered (number + 1) ps) ((All-head (λ p. Comes all p.1) p ps come).again number)
      (numbered-come (number + 1) ps (All-tail (λ p. Comes all p.1) p ps come))

  lost-come : (number : ℕ) (ps : List (Fate × Packet)) → All (λ p. Comes all p.1) ps → CarriedAll (numbered number (lost_of ps))
  lost-come number ps come =
      numbered-come number (lost_of ps) (All-filter (λ p. is_sent_again p.0) (λ p. Comes all p.1) ps come)

  module _ (spells : SpellsItself) (reads : ReadsPackets) where
    with-fates : (f i : ℕ) (d : Drawn) (ds : List Drawn) → (0 < d.size) × (d.size < 12000) →
        Stand all i (packets_from f i (d ∷ ds)) → All (λ p. Comes all p.1) (with_fates f i d)
    with-fates f i d ds sized stand =
        all-zipped (Comes all) d.fates (packets f i (octets f d.size))
        (frame-comes spells reads all f i d.size sized.0 sized.1
        (stand-left all i (sent_packets f i (octets f d.size)) (packets_from (f + 1) (i + packet_count d.size) ds) stand))

    after : (f i : ℕ) (d : Drawn) (ds : List Drawn) → Stand all i (packets_from f i (d ∷ ds)) →
        Stand all (i + packet_count d.size) (packets_from (f + 1) (i + packet_count d.size) ds)
    after f i d ds stand =
        stand-right all i (packet_count d.size) (sent_packets f i (octets f d.size))
        (packets_from (f + 1) (i + packet_count d.size) ds) (sent-count f i d.size) stand

    at-once-come : (f i : ℕ) (ds : List Drawn) → Sized ds → Stand all i (packets_from f i ds) →
        All CarriedAll (at_once_from f i ds)
    unfolding at_once_from
    at-once-come f i [] sized stand = All-nil CarriedAll
    at-once-come f i (d ∷ ds) sized stand =
        All-cons CarriedAll (at_once (with_fates f i d)) (at_once_from (f + 1) (i + packet_count d.size) ds)
        (at-once-comes (with_fates f i d) (with-fates f i d ds sized.0 stand))
        (at-once-come (f + 1) (i + packet_count d.size) ds sized.1 (after f i d ds stand))

    again-come : (f i number : ℕ) (ds : List Drawn) → Sized ds → Stand all i (packets_from f i ds) →
        All CarriedAll (again_from f i number ds)
    unfolding again_from
    again-come f i number [] sized stand = All-nil CarriedAll
    again-come f i number (d ∷ ds) sized stand =
        let lost : List (Fate × Packet) = lost_of (with_fates f i d) in
        All-cons CarriedAll (numbered number lost) (again_from (f + 1) (i + packet_count d.size) (number + length lost) ds)
        (lost-come number (with_fates f i d) (with-fates f i d ds sized.0 stand))
        (again-come (f + 1) (i + packet_count d.size) (number + length lost) ds sized.1 (after f i d ds stand))

  -- ---- the events

  group-brings : (g : ℕ) (datagrams : List (List ℕ)) → CarriedAll datagrams → All (Brings all) (group g datagrams)
  group-brings g datagrams come =
      let moment : ℕ = 33 * g in
      All-append (Brings all) (map (λ octets. Datagram moment octets) datagrams) _
      (All-map (Brings all) (λ octets. Datagram moment octets) datagrams come)
      (All-cons (Brings all) (Tick (moment + 20)) (Pull (moment + 25) ∷ Pull (moment + 25) ∷ []) tt
      (All-cons (Brings all) (Pull (moment + 25)) (Pull (moment + 25) ∷ []) tt
      (All-cons (Brings all) (Pull (moment + 25)) [] tt (All-nil (Brings all)))))

  groups-bring : (g : ℕ) (once again : List (List (List ℕ))) → All CarriedAll once → All CarriedAll again →
      All (Brings all) (groups_from g (zip once again))
  unfolding groups_from
  groups-bring g [] again ones others = All-replicate (Brings all) 16 (Pull (33 * g)) tt
  groups-bring g (a ∷ once) [] ones others = All-replicate (Brings all) 16 (Pull (33 * g)) tt
  groups-bring g (a ∷ once) (b ∷ again) ones others =
      All-append (Brings all) (group g (a ++ b)) (groups_from (g + 1) (zip once again))
      (group-brings g (a ++ b) (All-append (IsCarried all) a b (All-head CarriedAll a once ones) (All-head CarriedAll b again others)))
      (groups-bring (g + 1) once again (All-tail CarriedAll a once ones) (All-tail CarriedAll b again others))

  none : (xs : List (List (List ℕ))) → All CarriedAll xs → All CarriedAll ([] ∷ xs)
  none xs = All-cons CarriedAll [] xs (All-nil (IsCarried all))

-- the events of these draws bring wire forms of the packets
pub events-bring : SpellsItself → ReadsPackets → (ds : List Drawn) → Sized ds → All (Brings (packets_from 0 0 ds)) (events_of ds)
events-bring spells reads ds sized =
    let all : List SentPacket = packets_from 0 0 ds in
    let once : List (List (List ℕ)) = at_once_from 0 0 ds in
    let again : List (List (List ℕ)) = again_from 0 0 0 ds in
    groups-bring all 0 (once ++ [] ∷ [] ∷ [] ∷ []) ([] ∷ [] ∷ [] ∷ again)
    (All-append (CarriedAll all) once ([] ∷ [] ∷ [] ∷ []) (at-once-come all spells reads 0 0 ds sized (stand-all all))
    (none all ([] ∷ [] ∷ []) (none all ([] ∷ []) (none all [] (All-nil (CarriedAll all))))))
    (none all ([] ∷ [] ∷ again) (none all ([] ∷ again) (none all again (again-come all spells reads 0 0 0 ds sized (stand-all all)))))
