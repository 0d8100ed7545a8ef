-- Lemmas on the words of RTCP packets: computed of the octets of packets, they are the packets' words.
use Rattle.std.proofs.Common.{◌≡◌, ℕ, zero, suc, ◌+◌, ◌*◌, ◌%◌, ◌^◌, ◌<◌, ◌≤◌, ◌≢◌, Bool, true, false, eqb, ◌&&◌, None, Some, Result, Ok, Err, List, [], ◌∷◌, ◌++◌, length, drop, refl, sym, ap, ◌∙◌, append_assoc, arith, inl, inr}
use Rattle.std.specs.Int.{w16, to_be_bytes}
use Rattle.std.proofs.lemmas.Bool.{cases_eq, ne_eqb}
use Rattle.std.proofs.lemmas.List.{drop_at, length-append, append-nil}
use Rattle.std.proofs.lemmas.List.Concat.{flat_map-cons}
use Rattle.std.proofs.lemmas.Nat.{from_be_bytes-to_be_bytes_2}
use Rattle.vrx_rtcp.specs.declared.fault.RtcpFault.{RtcpFault}
use Rattle.vrx_rtcp.specs.declared.fault.RtcpFaultKind.{RtcpFaultKind}
use Rattle.vrx_rtcp.specs.Packet.{Message, Sender, Report, Bye, Nack, Pli, Other, IsPacket, BeginsWithPacket, Means, first_octet}
use Rattle.vrx_rtcp.specs.Fault.{first_fault}
use Rattle.vrx_rtcp.specs.Field.{size, content, message, message_of}
use Rattle.vrx_rtcp.specs.View.{fault_at}
use Rattle.vrx_rtcp.specs.Compound.{SpelledPacket, ArePackets, compound_octets, IsCompound, HasFault}
use Rattle.vrx_text.specs.Inspection.{message_word, spaced_word, packet_words, with_word, words_from, words_in}

-- ---- the word of a packet

-- the first octet of a packet reports its count
count-first_octet : (padded : Bool) (count : ℕ) → count < 32 → first_octet padded count % 32 ≡ count
count-first_octet false count below = omega arith
count-first_octet true count below = omega arith

-- feedback of another format
other_format : (of : ℕ) (count kind : ℕ) → (kind ≡ of → count ≢ 1) → (eqb kind of && eqb count 1) ≡ false
other_format of count kind other =
    elim (cases_eq kind of) [
      | inl same ↦ rw (ne_eqb count 1 (other same)) (and-false (eqb kind of))
      | inr differs ↦ rw (ne_eqb kind of differs) refl
    ]
  where
    and-false : (b : Bool) → (b && false) ≡ false
    and-false true = refl
    and-false false = refl

-- the word depends only on the kind and the count or format
word-means : (count kind : ℕ) (content read : List ℕ) (says : Message) → Means count kind content says →
    message_word (message_of count kind read) ≡ message_word says
unfolding message_of
word-means count kind content read (Sender s) means = rw means.0 refl
word-means count kind content read (Report ssrc blocks) means = rw means.0 refl
word-means count kind content read (Bye sources) means = rw means.0 refl
word-means count kind content read (Nack sender media items) means = rw (means.0, means.1) refl
word-means count kind content read (Pli sender media) means = rw (means.0, means.1) refl
word-means count kind content read (Other other) means =
    let is = means.1 in
    rw (
      ne_eqb kind 200 is.no_report.0,
      ne_eqb kind 201 is.no_report.1,
      ne_eqb kind 203 is.no_bye,
      other_format 205 count kind (λ same. (is.other_nack same).0),
      other_format 206 count kind (λ same. (is.other_pli same).0),
    ) (ap (λ (n : ℕ). message_word (Other n)) means.0)

-- ---- the packet at the front of octets

-- what is read of octets that begin with a packet, with this rest after it
record Reads (octets rest : List ℕ) (packet_length : ℕ) (says : Message) : Type 0 where
  size : size octets ≡ packet_length
  word : spaced_word (message octets) ≡ spaced_word says
  behind : drop packet_length octets ≡ rest
  some : 0 < length octets

size-followed : (first kind words : ℕ) (body : List ℕ) → words < 2 ^ 16 →
    size (first ∷ kind ∷ to_be_bytes w16 words ++ body) ≡ 4 * (words + 1)
unfolding size
size-followed first kind words body fits = ap (λ (k : ℕ). 4 * (k + 1)) (from_be_bytes-to_be_bytes_2 words fits)

reads-packet : (packet rest : List ℕ) (says : Message) → IsPacket packet says →
    Reads (packet ++ rest) rest (length packet) says
reads-packet packet rest says is =
    let body : List ℕ = is.content ++ is.padding in
    let front : List ℕ = first_octet is.padded is.count ∷ is.kind ∷ to_be_bytes w16 is.words in
    let octets : packet ++ rest ≡ front ++ (body ++ rest) = ap (λ (x : List ℕ). x ++ rest) is.spelled in
    let count : first_octet is.padded is.count % 32 ≡ is.count = count-first_octet is.padded is.count is.count_fits in
    let word : spaced_word (message (front ++ (body ++ rest))) ≡ spaced_word says =
    ap (λ (w : List ℕ). 32 ∷ w)
    (ap (λ (n : ℕ). message_word (message_of n is.kind (content (front ++ (body ++ rest))))) count
    ∙ word-means is.count is.kind is.content (content (front ++ (body ++ rest))) says is.means) in
    record {
      size = ap size octets ∙ size-followed (first_octet is.padded is.count) is.kind is.words
          (body ++ rest) is.words_fit ∙ sym is.measured;
      word = ap (λ (x : List ℕ). spaced_word (message x)) octets ∙ word;
      behind = drop_at packet rest (length packet) refl;
      some = omega (arith, is.measured, length-append packet rest);
    }

-- ---- the words of packets

-- one packet's word, and the words after it
words-step : (most offset : ℕ) (octets rest : List ℕ) (len : ℕ) (says : Message) → Reads octets rest len says →
    first_fault octets ≡ None →
    words_from (suc most) offset octets ≡ with_word (spaced_word says) (words_from most (offset + len) rest)
unfolding words_from
words-step most offset [] rest len says reads none = absurd (let h = reads.some in omega (arith, h))
words-step most offset (octet ∷ octets) rest len says reads none =
    rw (none, reads.word, reads.size, reads.behind) refl

words-end : (most offset : ℕ) → words_from most offset [] ≡ Ok []
unfolding words_from
words-end zero offset = refl
words-end (suc most) offset = refl

words-fault : (most offset : ℕ) (octets : List ℕ) (kind : RtcpFaultKind) → length octets ≤ most → octets ≢ [] →
    first_fault octets ≡ Some kind → words_from most offset octets ≡ Err (fault_at offset kind)
unfolding words_from
words-fault most offset [] kind within some first = absurd (some refl)
words-fault zero offset (octet ∷ octets) kind within some first = absurd (omega arith)
words-fault (suc most) offset (octet ∷ octets) kind within some first = rw first refl

-- words before those of octets, or the fault of these
with_word-nil : (r : Result (List ℕ) RtcpFault) → with_word [] r ≡ r
with_word-nil (Ok words) = refl
with_word-nil (Err fault) = refl

with_word-with_word : (front back : List ℕ) (r : Result (List ℕ) RtcpFault) →
    with_word front (with_word back r) ≡ with_word (front ++ back) r
with_word-with_word front back (Ok words) = ap Ok (sym (append_assoc front back words))
with_word-with_word front back (Err fault) = refl

is_first : (p : SpelledPacket) (packets : List SpelledPacket) (behind : List ℕ) →
    compound_octets (p ∷ packets) ++ behind ≡ p.octets ++ (compound_octets packets ++ behind)
is_first p packets behind =
    ap (λ (x : List ℕ). x ++ behind) (flat_map-cons (λ (q : SpelledPacket). q.octets) p packets)
    ∙ append_assoc p.octets (compound_octets packets) behind

-- that no packet has a fault is a law of RTCP
module _ (reads : (octets : List ℕ) → BeginsWithPacket octets → first_fault octets ≡ None) where
  words-compound_octets : (packets : List SpelledPacket) (behind : List ℕ) (most offset : ℕ)
      (end : Result (List ℕ) RtcpFault) → ArePackets packets → length (compound_octets packets ++ behind) ≤ most →
      ((m : ℕ) → length behind ≤ m → words_from m (offset + length (compound_octets packets)) behind ≡ end) →
      words_from most offset (compound_octets packets ++ behind) ≡ with_word (packet_words packets) end
  words-compound_octets [] behind most offset end each within ends =
      let here : offset + 0 ≡ offset = omega arith in
      sym (ap (λ (n : ℕ). words_from most n behind) here) ∙ ends most within ∙ sym (with_word-nil end)
  words-compound_octets (p ∷ packets) behind zero offset end each within ends =
      absurd (let len = ap length (is_first p packets behind) in
      let some = (reads-packet p.octets (compound_octets packets ++ behind) p.message each.0).some in
      omega (arith, len, some))
  words-compound_octets (p ∷ packets) behind (suc most) offset end each within ends =
      let rest : List ℕ = compound_octets packets ++ behind in
      let whole : compound_octets (p ∷ packets) ++ behind ≡ p.octets ++ rest = is_first p packets behind in
      let none : first_fault (p.octets ++ rest) ≡ None =
      reads (p.octets ++ rest)
      (record { packet = p.octets; behind = rest; message = p.message; spelled = refl; is = each.0 }) in
      let step = words-step most offset (p.octets ++ rest) rest (length p.octets) p.message
      (reads-packet p.octets rest p.message each.0) none in
      let measured : length (compound_octets (p ∷ packets)) ≡ length p.octets + length (compound_octets packets) =
      ap length (flat_map-cons (λ (q : SpelledPacket). q.octets) p packets)
      ∙ length-append p.octets (compound_octets packets) in
      let place : offset + length (compound_octets (p ∷ packets)) ≡ (offset + length p.octets) + length
      (compound_octets packets) = omega arith in
      let fuel : length rest ≤ most = omega (arith, ap length whole, length-append p.octets rest, each.0.measured) in
      let later = words-compound_octets packets behind most (offset + length p.octets) end each.1 fuel
      (λ m enough. sym (ap (λ (n : ℕ). words_from m n behind) place) ∙ ends m enough) in
      ap (λ (x : List ℕ). words_from (suc most) offset x) whole
      ∙ step
      ∙ ap (λ (r : Result (List ℕ) RtcpFault). with_word (spaced_word p.message) r) later
      ∙ with_word-with_word (spaced_word p.message) (packet_words packets) end
      ∙ ap (λ (w : List ℕ). with_word w end)
      (sym (flat_map-cons (λ (q : SpelledPacket). spaced_word q.message) p packets))

  -- those of a compound
  pub words-compound : (octets : List ℕ) (packets : List SpelledPacket) → IsCompound octets packets →
      words_in octets ≡ Ok (packet_words packets)
  words-compound octets packets is =
      let spelled : octets ≡ compound_octets packets ++ [] =
      is.spelled ∙ sym (append-nil (compound_octets packets)) in
      let within : length (compound_octets packets ++ []) ≤ length octets = omega (arith, ap length spelled) in
      ap (λ (x : List ℕ). words_from (length octets) 0 x) spelled
      ∙ words-compound_octets packets [] (length octets) 0 (Ok []) is.each within
      (λ m enough. words-end m (0 + length (compound_octets packets)))
      ∙ ap Ok (append-nil (packet_words packets))

  -- those of octets with a fault
  pub words-has_fault : (octets : List ℕ) (fault : RtcpFault) → HasFault octets fault → words_in octets ≡ Err fault
  words-has_fault octets fault has =
      let within : length (compound_octets has.before ++ has.behind) ≤ length octets =
      omega (arith, ap length has.spelled) in
      let place : 0 + length (compound_octets has.before) ≡ fault.at = omega (arith, has.at) in
      ap (λ (x : List ℕ). words_from (length octets) 0 x) has.spelled
      ∙ words-compound_octets has.before has.behind (length octets) 0 (Err fault) has.each within
      (λ m enough. words-fault m
      (0 + length (compound_octets has.before)) has.behind fault.kind enough has.remain has.kind
      ∙ ap (λ (n : ℕ). Err (fault_at n fault.kind)) place)
