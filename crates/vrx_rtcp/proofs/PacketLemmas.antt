-- The laws of the grammar of packets.
use Rattle.std.proofs.Common.{◌≡◌, ℕ, suc, ◌+◌, ◌-◌, ◌*◌, ◌%◌, ◌^◌, ◌<◌, ◌≤◌, Bool, true, false, cond, eqb, ltb, not, ◌&&◌, Option, None, Some, List, [], ◌∷◌, ◌++◌, length, get_or, take, drop, refl, sym, ap, subst, ◌∙◌, append_assoc, arith, inl, inr}
use Rattle.std.specs.Int.{w16, from_be_bytes, to_be_bytes}
use Rattle.std.proofs.lemmas.Bool.{cases_eq, ne_eqb, eq-eqb, ltb-false, le-ltb}
use Rattle.std.proofs.lemmas.List.{take-append-drop, take-take, length-take, length-append, drop_all, take_at, get_or-take, get_or-append-add}
use Rattle.std.proofs.Math.Seq.{get_or-append_seam}
use Rattle.std.proofs.lemmas.Nat.{be_bytes_2, from_be_bytes-to_be_bytes_2}
use Rattle.vrx_rtcp.specs.declared.fault.RtcpFaultKind.{RtcpFaultKind}
use Rattle.vrx_rtcp.specs.Packet.{Message, IsPadding, IsPacket, BeginsWithPacket, Means, first_octet}
use Rattle.vrx_rtcp.specs.Fault.{first_fault, is_short, is_of_other_version, runs_past_end, is_bad_padding, is_badly_padded, lacks_body, least}
use Rattle.vrx_rtcp.specs.Field.{version, is_padded, count, kind, size, last, padding, unpadded_size, content, message, message_of}
use Rattle.vrx_rtcp.proofs.NumberLemmas.{Octets, Octets-take, Octets-drop}
use Rattle.vrx_rtcp.proofs.BodyLemmas.{message_of-means, message_of-read}
use Rattle.vrx_rtcp.proofs.HeaderLemmas.{first_octet-of, version-first_octet, is_padded-first_octet, count-first_octet, good-padding, padding-is}

-- ---- if there is no fault

passed : (test : Bool) (kind : RtcpFaultKind) (behind : Option RtcpFaultKind) → cond test (Some kind) behind ≡ None →
    (test ≡ false) × (behind ≡ None)
passed true kind behind none = absurd cc
passed false kind behind none = (refl, none)

-- what holds if there is no fault
pub record NoFault (octets : List ℕ) : Type 0 where
  pub header : 4 ≤ length octets
  pub two : version octets ≡ 2
  pub within : size octets ≤ length octets
  pub good : is_badly_padded octets ≡ false
  pub room : least (kind octets) (count octets) ≤ unpadded_size octets

version_two : (version : ℕ) → not (eqb version 2) ≡ false → version ≡ 2
version_two version test =
    elim (cases_eq version 2) [
      | inl two ↦ two
      | inr other ↦ let h = rw (ne_eqb version 2 other) at test in absurd cc
    ]

pub no_fault : (octets : List ℕ) → first_fault octets ≡ None → NoFault octets
unfolding first_fault
no_fault octets none =
    let short = passed (is_short octets) _ _ none in
    let version = passed (is_of_other_version octets) _ _ short.1 in
    let past = passed (runs_past_end octets) _ _ version.1 in
    let bad = passed (is_badly_padded octets) _ _ past.1 in
    let lacks = passed (lacks_body octets) _ _ bad.1 in
    record {
      header = ltb-false (length octets) 4 short.0;
      two = version_two _ version.0;
      within = ltb-false (length octets) (size octets) past.0;
      good = bad.0;
      room = ltb-false (unpadded_size octets) (least (kind octets) (count octets)) lacks.0;
    }

first_fault-none : (octets : List ℕ) → is_short octets ≡ false → is_of_other_version octets ≡ false →
    runs_past_end octets ≡ false → is_badly_padded octets ≡ false → lacks_body octets ≡ false →
    first_fault octets ≡ None
unfolding first_fault
first_fault-none octets short version past bad lacks = rw (short, version, past, bad, lacks) refl

-- ---- what is read is a packet

-- the padding's octets, by their number
ends_are : (padded : Bool) (padding words : ℕ) (body : List ℕ) → length body ≡ 4 * words →
    (padded && is_bad_padding padding (4 * (words + 1))) ≡ false →
    (1 ≤ words → get_or body (4 * words - 1) 0 ≡ padding) →
    IsPadding padded (drop (4 * (words + 1) - cond padded padding 0 - 4) body)
    × (cond padded padding 0 + 4 ≤ 4 * (words + 1))
ends_are false padding words body len good last = (drop_all (4 * (words + 1) - 0 - 4) body (omega arith), omega arith)
ends_are true padding words body len good last =
    let is = good-padding padding (4 * (words + 1)) good in
    let from_here : 4 * words - padding ≡ 4 * (words + 1) - padding - 4 = omega arith in (
      subst (λ (k : ℕ). IsPadding true (drop k body)) from_here
          (padding-is body padding (4 * words) len is.some (omega arith) is.whole (last (omega arith))),
      is.within,
    )

-- the octets after the header are the content and the padding
parts_are : (first kind high low : ℕ) (behind : List ℕ) (words length_of_content : ℕ) →
    length_of_content ≤ 4 * words →
    take (4 * (words + 1)) (first ∷ kind ∷ high ∷ low ∷ behind) ≡ first ∷ kind ∷ high ∷ low
    ∷ (take length_of_content behind ++ drop length_of_content (take (4 * words) behind))
parts_are first kind high low behind words n within =
    let body = take (4 * words) behind in
    let counted : 4 * (words + 1) ≡ suc (suc (suc (suc (4 * words)))) = omega arith in
    let cut : body ≡ take n behind ++ drop n body = sym (take-append-drop n body)
    ∙ ap (λ (x : List ℕ). x ++ drop n body) (take-take n (4 * words) behind within) in
    ap (λ (k : ℕ). take k (first ∷ kind ∷ high ∷ low ∷ behind)) counted
    ∙ ap (λ (x : List ℕ). first ∷ kind ∷ high ∷ low ∷ x) cut

two_octets : (high low i : ℕ) → high < 256 → low < 256 → get_or (high ∷ low ∷ []) i 0 < 256
two_octets high low i high_fits low_fits =
    elim (cases_eq i 0) [
      | inl zeroth ↦ rw zeroth high_fits
      | inr later ↦ elim (cases_eq i 1) [
        | inl first ↦ rw first low_fits
        | inr past ↦ let k : i ≡ suc (suc (i - 2)) = omega arith in rw k (omega arith)
      ]
    ]

-- if there is no fault, the octets of the packet's length are a packet, and what is read is what it says
pub message-is : (octets : List ℕ) → Octets octets → first_fault octets ≡ None →
    IsPacket (take (size octets) octets) (message octets)
unfolding size
message-is [] fit none = absurd (let h = (no_fault [] none).header in omega (arith, h))
message-is (first ∷ []) fit none = absurd (let h = (no_fault (first ∷ []) none).header in omega (arith, h))
message-is (first ∷ kind ∷ []) fit none =
    absurd (let h = (no_fault (first ∷ kind ∷ []) none).header in omega (arith, h))
message-is (first ∷ kind ∷ high ∷ []) fit none =
    absurd (let h = (no_fault (first ∷ kind ∷ high ∷ []) none).header in omega (arith, h))
message-is (first ∷ kind ∷ high ∷ low ∷ behind) fit none =
    let octets : List ℕ = first ∷ kind ∷ high ∷ low ∷ behind in
    let is = no_fault octets none in
    let words : ℕ = from_be_bytes w16 (high ∷ low ∷ []) in
    let first_fits : first < 256 = fit 0 in
    let high_fits : high < 256 = fit 2 in
    let low_fits : low < 256 = fit 3 in
    let body : List ℕ = take (4 * words) behind in
    let room : 4 * (words + 1) ≤ length behind + 4 = omega (arith, is.within) in
    let len : length body ≡ 4 * words = omega (arith, length-take (4 * words) behind) in
    let told : 1 ≤ words → get_or body (4 * words - 1) 0 ≡ last octets = λ some.
    get_or-take (4 * words) behind (4 * words - 1) 0 (omega arith)
    ∙ ap (λ (k : ℕ). get_or octets k 0)
    (let k : suc (suc (suc (suc (4 * words - 1)))) ≡ 4 * (words + 1) - 1 = omega arith in k) in
    let ends = ends_are (is_padded octets) (last octets) words body len is.good told in
    let of_content : ℕ = unpadded_size octets - 4 in
    let spelled_words : to_be_bytes w16 words ≡ high ∷ low ∷ [] =
    be_bytes_2 (high ∷ low ∷ []) words refl (λ i. two_octets high low i high_fits low_fits) refl in
    let parts = parts_are first kind high low behind words of_content (omega (arith, ends.1)) in
    record {
      padded = is_padded octets;
      count = count octets;
      kind = kind;
      words = words;
      content = content octets;
      padding = drop of_content body;
      spelled = parts
          ∙ ap (λ (x : ℕ). x ∷ kind ∷ high ∷ low ∷ (content octets ++ drop of_content body))
          (sym (first_octet-of first first_fits is.two))
          ∙ ap (λ (x : List ℕ). first_octet (is_padded octets) (count octets) ∷ kind ∷ x ++ content octets
          ++ drop of_content body) (sym spelled_words);
      measured = length-take (4 * (words + 1)) octets ∙ omega (arith, is.within);
      count_fits = omega arith;
      words_fit = omega arith;
      ends = ends.0;
      means = message_of-means (count octets) kind (content octets)
          (Octets-take of_content behind (Octets-drop 4 octets fit))
          (subst (λ (k : ℕ). least kind (count octets) ≤ k)
          (omega (arith, ends.1, length-take of_content behind)) is.room);
    }

-- ---- a packet is read, whatever follows it

-- what is read of octets: no fault, this message, and this length
pub record Reads (octets : List ℕ) (measure : ℕ) (says : Message) : Type 0 where
  pub no_fault : first_fault octets ≡ None
  pub message : message octets ≡ says
  pub size : size octets ≡ measure

-- the octets of a packet, and those that follow it
abbrev followed : Bool → ℕ → ℕ → ℕ → List ℕ → List ℕ → List ℕ → List ℕ
followed padded count kind words content padding rest =
    (first_octet padded count ∷ kind ∷ to_be_bytes w16 words ++ content ++ padding) ++ rest

size-followed : (padded : Bool) (count kind words : ℕ) (content padding rest : List ℕ) → words < 2 ^ 16 →
    size (followed padded count kind words content padding rest) ≡ 4 * (words + 1)
unfolding size
size-followed padded count kind words content padding rest fit =
    ap (λ (k : ℕ). 4 * (k + 1)) (from_be_bytes-to_be_bytes_2 words fit)

-- padding ends in the number of its octets
last-padding : (content front rest : List ℕ) (n : ℕ) →
    get_or ((content ++ (front ++ n ∷ [])) ++ rest) (length content + length front) 0 ≡ n
last-padding content front rest n =
    let regrouped : (content ++ (front ++ n ∷ [])) ++ rest ≡ content ++ (front ++ n ∷ rest) =
    append_assoc content (front ++ n ∷ []) rest
    ∙ ap (λ (x : List ℕ). content ++ x) (append_assoc front (n ∷ []) rest) in
    ap (λ (x : List ℕ). get_or x (length content + length front) 0) regrouped
    ∙ get_or-append-add content (front ++ n ∷ rest) (length front) 0 ∙ get_or-append_seam front n rest 0

last-followed : (count kind words : ℕ) (content padding rest : List ℕ) → words < 2 ^ 16 →
    length content + length padding ≡ 4 * words → IsPadding true padding →
    last (followed true count kind words content padding rest) ≡ length padding
last-followed count kind words content padding rest fit len ends =
    let n = length padding in
    let behind : List ℕ = (content ++ padding) ++ rest in
    let octets = followed true count kind words content padding rest in
    let shape : padding ≡ ends.0 ++ n ∷ [] = ends.1 in
    let counted : length padding ≡ length ends.0 + 1 = ap length shape ∙ length-append ends.0 (n ∷ []) in
    let place : size octets - 1 ≡ suc (suc (suc (suc (length content + length ends.0)))) =
    omega (arith, size-followed true count kind words content padding rest fit) in
    ap (λ (k : ℕ). get_or octets k 0) place
    ∙ ap (λ (x : List ℕ). get_or ((content ++ x) ++ rest) (length content + length ends.0) 0) shape
    ∙ last-padding content ends.0 rest n

-- what is read of the padding
record ReadsPadding (octets padding_octets : List ℕ) : Type 0 where
  number : padding octets ≡ length padding_octets
  good : is_badly_padded octets ≡ false

good_of : (padding size : ℕ) → 1 ≤ padding → padding % 4 ≡ 0 → padding + 4 ≤ size →
    is_bad_padding padding size ≡ false
good_of padding size some whole within =
    let nonzero : eqb padding 0 ≡ false = ne_eqb padding 0 (omega arith) in
    let fits : ltb size (padding + 4) ≡ false = le-ltb size (padding + 4) within in
    rw (nonzero, whole, fits) refl

reads_padding : (padded : Bool) (count kind words : ℕ) (content padding rest : List ℕ) → count < 32 → words < 2 ^ 16 →
    length content + length padding ≡ 4 * words → IsPadding padded padding →
    ReadsPadding (followed padded count kind words content padding rest) padding
reads_padding false count kind words content padding rest below fit len ends =
    let plain = is_padded-first_octet false count below in
    record {
      number = ap (λ (b : Bool). cond b (last (followed false count kind words content padding rest)) 0) plain
          ∙ ap length (sym ends);
      good = ap (λ (b : Bool).
          b && is_bad_padding (last (followed false count kind words content padding rest))
          (size (followed false count kind words content padding rest))) plain;
    }
reads_padding true count kind words content padding rest below fit len ends =
    let octets = followed true count kind words content padding rest in
    let padded = is_padded-first_octet true count below in
    let number = last-followed count kind words content padding rest fit len ends in
    let counted : length padding ≡ length ends.0 + 1 =
    ap length ends.1 ∙ length-append ends.0 (length padding ∷ []) in
    let good = good_of (length padding) (4 * (words + 1)) (omega arith) ends.2 (omega arith) in
    record {
      number = ap (λ (b : Bool). cond b (last octets) 0) padded ∙ number;
      good = ap (λ (b : Bool). b && is_bad_padding (last octets) (size octets)) padded
          ∙ ap (λ (k : ℕ). is_bad_padding k (size octets)) number
          ∙ ap (λ (k : ℕ). is_bad_padding (length padding) k)
          (size-followed true count kind words content padding rest fit)
          ∙ good;
    }

reads_followed : (padded : Bool) (count kind words : ℕ) (content padding rest : List ℕ) (says : Message) →
    count < 32 → words < 2 ^ 16 → length content + length padding ≡ 4 * words → IsPadding padded padding →
    Means count kind content says →
    Reads (followed padded count kind words content padding rest) (4 * (words + 1)) says
reads_followed padded number kind words content_octets padding_octets rest says below fit len ends means =
    let octets = followed padded number kind words content_octets padding_octets rest in
    let read = message_of-read number kind content_octets says means in
    let pad = reads_padding padded number kind words content_octets padding_octets rest below fit len ends in
    let sized = size-followed padded number kind words content_octets padding_octets rest fit in
    let counted : count octets ≡ number = count-first_octet padded number below in
    let whole : unpadded_size octets ≡ length content_octets + 4 = omega (arith, sized, pad.number) in
    let of_content : unpadded_size octets - 4 ≡ length content_octets = omega arith in
    let contained : content octets ≡ content_octets =
    ap (λ (k : ℕ). take k ((content_octets ++ padding_octets) ++ rest)) of_content
    ∙ ap (λ (x : List ℕ). take (length content_octets) x) (append_assoc content_octets padding_octets rest)
    ∙ take_at content_octets (padding_octets ++ rest) (length content_octets) refl in
    let enough : least kind (count octets) ≤ unpadded_size octets =
    subst (λ (n : ℕ). least kind n ≤ unpadded_size octets) (sym counted)
    (subst (λ (k : ℕ). least kind number ≤ k) (sym whole) read.room) in
    let behind : length ((content_octets ++ padding_octets) ++ rest)
    ≡ (length content_octets + length padding_octets) + length rest =
    length-append (content_octets ++ padding_octets) rest
    ∙ ap (λ (k : ℕ). k + length rest) (length-append content_octets padding_octets) in
    let long : 4 * (words + 1) ≤ length octets = omega arith in
    let version_is : version octets ≡ 2 = version-first_octet padded number below in
    record {
      no_fault = first_fault-none octets
          (le-ltb (length octets) 4 (omega arith))
          (ap not (eq-eqb (version octets) 2 version_is))
          (le-ltb (length octets) (size octets) (omega arith))
          pad.good
          (le-ltb (unpadded_size octets) (least kind (count octets)) enough);
      message = ap (λ (n : ℕ). message_of n kind (content octets)) counted
          ∙ ap (λ (x : List ℕ). message_of number kind x) contained ∙ read.read;
      size = sized;
    }

-- a packet is read, whatever follows it
pub reads-packet : (packet rest : List ℕ) (says : Message) → IsPacket packet says →
    Reads (packet ++ rest) (length packet) says
reads-packet packet rest says is =
    let len : length is.content + length is.padding ≡ 4 * is.words =
    omega (arith, is.measured, ap length is.spelled, length-append is.content is.padding) in
    let reads = reads_followed is.padded is.count is.kind is.words is.content is.padding rest says is.count_fits
    is.words_fit len is.ends is.means in
    subst (λ (n : ℕ). Reads (packet ++ rest) n says) (sym is.measured)
    (subst (λ (x : List ℕ). Reads (x ++ rest) (4 * (is.words + 1)) says) (sym is.spelled) reads)

-- if there is no fault, octets begin with a packet, and with a packet there is none
pub begins_with_packet : (octets : List ℕ) → Octets octets → first_fault octets ≡ None → BeginsWithPacket octets
begins_with_packet octets fit none = record {
  packet = take (size octets) octets;
  behind = drop (size octets) octets;
  message = message octets;
  spelled = sym (take-append-drop (size octets) octets);
  is = message-is octets fit none;
}

pub packet-no_fault : (octets : List ℕ) → BeginsWithPacket octets → first_fault octets ≡ None
packet-no_fault octets begins =
    ap first_fault begins.spelled ∙ (reads-packet begins.packet begins.behind begins.message begins.is).no_fault
