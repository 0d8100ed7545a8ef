-- What a drill's sender sent, frame after frame.
use Rattle.std.proofs.Common.{◌≡◌, ℕ, suc, ◌+◌, List, [], ◌∷◌, ◌++◌, refl, ap, sym, ◌∙◌, append_assoc}
use Rattle.std.proofs.lemmas.List.{append-nil}
use Rattle.rand_pcg.specs.Lcg.{Lcg}
use Rattle.vrx_rtp.specs.Packet.{Packet}
use Rattle.vrx_core.specs.honest.Sender.{SentFrame, SentPacket, Sender}
use Rattle.vrx_sender.specs.Draws.{Drawn, drawn, drawn_from}
use Rattle.vrx_sender.specs.Frames.{octets, packet_count, sent_frame}
use Rattle.vrx_sender.specs.Made.{all_as_sent}
use Rattle.vrx_sender.specs.Packets.{frames_from, packets, packets_from, sender_of, sent_packets}
use Rattle.vrx_sender.proofs.PacketLemmas.{packets-sent}

-- one frame more was drawn
pub drawn-step : (f n m : ℕ) (g left : Lcg) (d : Drawn) → n ≡ suc m → (d, left) ≡ drawn f g →
    drawn_from f n g ≡ d ∷ drawn_from (f + 1) m left
unfolding drawn_from
drawn-step f n m g left d more is = rw more (sym (ap (λ (x : Drawn × Lcg). x.0 ∷ drawn_from (f + 1) m x.1) is))

pub drawn-none : (f n : ℕ) (g : Lcg) → n ≡ 0 → drawn_from f n g ≡ []
unfolding drawn_from
drawn-none f n g none = rw none refl

pub frames-on : (xs pushed whole : List SentFrame) (frame : SentFrame) (f : ℕ) (d : Drawn) (ds left : List Drawn) →
    pushed ≡ xs ++ frame ∷ [] → frame ≡ sent_frame f d.size → ds ≡ d ∷ left → xs ++ frames_from f ds ≡ whole →
    pushed ++ frames_from (f + 1) left ≡ whole
frames-on xs pushed whole frame f d ds left put is step before =
    ap (λ (ys : List SentFrame). ys ++ frames_from (f + 1) left) put
    ∙ append_assoc xs (frame ∷ []) (frames_from (f + 1) left)
    ∙ ap (λ (y : SentFrame). xs ++ y ∷ frames_from (f + 1) left) is
    ∙ ap (λ (es : List Drawn). xs ++ frames_from f es) (sym step) ∙ before

pub packets-on : (xs pushed whole : List SentPacket) (f i j : ℕ) (d : Drawn) (ds left : List Drawn) (ps : List Packet) →
    pushed ≡ xs ++ all_as_sent f 0 ps → ps ≡ packets f i (octets f d.size) → ds ≡ d ∷ left →
    j ≡ i + packet_count d.size → xs ++ packets_from f i ds ≡ whole → pushed ++ packets_from (f + 1) j left ≡ whole
packets-on xs pushed whole f i j d ds left ps put are step next before =
    let its : List SentPacket = all_as_sent f 0 (packets f i (octets f d.size)) in
    ap (λ (ys : List SentPacket). ys ++ packets_from (f + 1) j left)
    (put ∙ ap (λ (qs : List Packet). xs ++ all_as_sent f 0 qs) are)
    ∙ append_assoc xs its (packets_from (f + 1) j left)
    ∙ ap (λ (ys : List SentPacket). xs ++ (ys ++ packets_from (f + 1) j left)) (packets-sent f i (octets f d.size))
    ∙ ap (λ (k : ℕ). xs ++ (sent_packets f i (octets f d.size) ++ packets_from (f + 1) k left)) next
    ∙ ap (λ (es : List Drawn). xs ++ packets_from f i es) (sym step) ∙ before

pub sender-is : (xs : List SentFrame) (ys : List SentPacket) (f i : ℕ) (ds left : List Drawn) → left ≡ [] →
    xs ++ frames_from f left ≡ frames_from 0 ds → ys ++ packets_from f i left ≡ packets_from 0 0 ds →
    (let s : Sender = record { first_wire = 65000; frames = xs; packets = ys } in s) ≡ sender_of ds
sender-is xs ys f i ds left none frames-are packets-are =
    let fs : xs ≡ frames_from 0 ds = sym (append-nil xs) ∙ ap (λ (es : List Drawn). xs ++ frames_from f es) (sym none) ∙ frames-are in
    let ps : ys ≡ packets_from 0 0 ds = sym (append-nil ys) ∙ ap (λ (es : List Drawn). ys ++ packets_from f i es) (sym none) ∙ packets-are in
    ap (λ (zs : List SentFrame). let s : Sender = record { first_wire = 65000; frames = zs; packets = ys } in s) fs
    ∙ ap (λ (zs : List SentPacket). let s : Sender = record { first_wire = 65000; frames = frames_from 0 ds; packets = zs } in s) ps
