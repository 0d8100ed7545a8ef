-- What is rebuilt from true parity is right.
use Rattle.std.proofs.Common.{◌≡◌, ℕ, ◌+◌, ◌-◌, ◌/◌, ◌%◌, ◌^◌, ◌<◌, ◌≤◌, Bool, true, false, cond, not, List, [], ◌∷◌, length, map, take, drop, All, IsPermutation, Result, Ok, Err, refl, sym, ◌∙◌, ap, subst, arith}
use Rattle.std.specs.Prelude.{◌==◌, nat_lt, Option, Some, None, is_some}
use Rattle.std.specs.Int.{w16, w32, to_be_bytes}
use Rattle.std.specs.List.{filter}
use Rattle.std.specs.Result.{result_ok}
use Rattle.std.proofs.lemmas.Bool.{eq-eqb, ltb-false, ne_eqb, true≢false}
use Rattle.std.proofs.lemmas.List.Elements.{All-head, All-tail}
use Rattle.std.proofs.lemmas.List.Sorted.{All-permutation, IsPermutation-cons, IsPermutation-map, IsPermutation-middle, IsPermutation-refl, IsPermutation-sym, IsPermutation-trans}
use Rattle.std.proofs.lemmas.Option.{none-some, same_Some}
use Rattle.vrx_num.specs.OptionChain.{◌>>=◌}
use Rattle.vrx_rtp.specs.Laws.{ReadsPackets}
use Rattle.vrx_rtp.specs.Packet.{Packet, IsPacket}
use Rattle.vrx_rtp.specs.Reading.{reading as reading_packet}
use Rattle.vrx_fec.specs.Laws.{ReadsPayloads, RebuildsLength, Rebuilds, KeepsTruth}
use Rattle.vrx_fec.specs.Parity.{IsTrue, Texts, octet_at, offsets_of}
use Rattle.vrx_fec.specs.Payload.{Payload, protected}
use Rattle.vrx_fec.specs.Reading.{reading}
use Rattle.vrx_fec.specs.Rebuilt.{HasSize, IsFrom, covered, rebuilt, rebuilt_length, rebuilt_text}
use Rattle.vrx_fec.specs.declared.fault.FecFault.{FecFault}
use Rattle.vrx_fec.specs.declared.register.RecoverFault.TheVariants.{BadLength, NotCovered}
use Rattle.vrx_window.specs.Content.{Content, Media, Fec, Empty}
use Rattle.vrx_window.specs.Window.{at, is_available}
use Rattle.vrx_repair.specs.Order.{AreRight}
use Rattle.vrx_repair.specs.Source.{Source, media_in}
use Rattle.vrx_repair.specs.Step.{Packets, base_of, fec_at, is_wanted, media_under, missing_of, only_one, others_of, payload_of, rebuilt_under, step, step_of, text_of, texts_at}
use Rattle.vrx_repair.specs.Truth.{IsRightMedia, IsRightParity, IsRightPayload, IsTextOf, TrueRepairs}
use Rattle.vrx_repair.proofs.MediaLemmas.{ok-of}
use Rattle.vrx_repair.proofs.StepLemmas.{chained, only-one}
use Rattle.vrx_repair.proofs.TextLemmas.{read-long}

-- ---- the offset that is missing, and the others

module _ (away : ℕ → Bool) (k : ℕ) (k_away : away k ≡ true) where
  -- where nothing is missing, all offsets are others
  none-away : (is : List ℕ) → filter away is ≡ [] → others_of k is ≡ is
  none-away [] none = refl
  none-away (i ∷ is) none = by_test (away i) refl none (none-away is) where
    by_test : (b : Bool) → away i ≡ b → cond b (i ∷ filter away is) (filter away is) ≡ []
        → (filter away is ≡ [] → others_of k is ≡ is) → others_of k (i ∷ is) ≡ i ∷ is
    by_test true is_away e rest = cc
    by_test false is_there e rest =
        ap (λ b. cond (not b) (i ∷ others_of k is) (others_of k is))
        (ne_eqb i k (λ same. true≢false (sym k_away ∙ ap away (sym same) ∙ is_there)))
        ∙ ap (λ js. i ∷ js) (rest e)

  -- the offset that is missing, and the others, are all offsets
  one-away : (is : List ℕ) → filter away is ≡ k ∷ [] → IsPermutation is (k ∷ others_of k is)
  one-away [] one = cc
  one-away (i ∷ is) one = by_test (away i) refl one (one-away is) where
    by_test : (b : Bool) → away i ≡ b → cond b (i ∷ filter away is) (filter away is) ≡ k ∷ []
        → (filter away is ≡ k ∷ [] → IsPermutation is (k ∷ others_of k is))
        → IsPermutation (i ∷ is) (k ∷ others_of k (i ∷ is))
    by_test true is_away e rest =
        let heads : i ≡ k = cc in
        let tails : filter away is ≡ [] = cc in
        let same : i ∷ is ≡ k ∷ others_of k (i ∷ is) =
        ap (λ n. n ∷ is) heads
        ∙ ap (λ js. k ∷ js) (sym (none-away is tails))
        ∙ ap (λ b. k ∷ cond (not b) (i ∷ others_of k is) (others_of k is)) (sym (eq-eqb i k heads)) in
        subst (IsPermutation (i ∷ is)) same (IsPermutation-refl (i ∷ is))
    by_test false is_there e rest =
        let others : List ℕ = others_of k is in
        let same : i ∷ others ≡ others_of k (i ∷ is) =
        ap (λ b. cond (not b) (i ∷ others) others)
        (sym (ne_eqb i k (λ same. true≢false (sym k_away ∙ ap away (sym same) ∙ is_there)))) in
        subst (λ js. IsPermutation (i ∷ is) (k ∷ js)) same
        (IsPermutation-trans (i ∷ is) (i ∷ k ∷ others) (k ∷ i ∷ others)
        (IsPermutation-cons i is (k ∷ others) (rest e)) (IsPermutation-middle (i ∷ []) k others))

-- the offset that is missing is missing
away-first : (away : ℕ → Bool) (is : List ℕ) (k : ℕ) → filter away is ≡ k ∷ [] → away k ≡ true
away-first away [] k one = cc
away-first away (i ∷ is) k one = by_test (away i) refl one (away-first away is k) where
  by_test : (b : Bool) → away i ≡ b → cond b (i ∷ filter away is) (filter away is) ≡ k ∷ []
      → (filter away is ≡ k ∷ [] → away k ≡ true) → away k ≡ true
  by_test true is_away e rest = let heads : i ≡ k = cc in ap away (sym heads) ∙ is_away
  by_test false is_there e rest = rest e

-- ---- the texts that are right

-- the text of what is right, if it is media
abbrev text_in : Content → List ℕ
text_in (Media text) = text
text_in (Fec payload) = []
text_in Empty = []

abbrev text_right : Option Content → List ℕ
text_right None = []
text_right (Some content) = text_in content

text_in-media : (content : Content) (text : List ℕ) → text_of content ≡ Some text → text ≡ text_in content
text_in-media (Media t) text is = sym (same_Some t text is)
text_in-media (Fec payload) text is = absurd (none-some text is)
text_in-media Empty text is = absurd (none-some text is)

fec-content : (content : Content) (payload : List ℕ) → payload_of content ≡ Some payload → content ≡ Fec payload
fec-content (Media text) payload is = absurd (none-some payload is)
fec-content (Fec own) payload is = ap Fec (same_Some own payload is)
fec-content Empty payload is = absurd (none-some payload is)

module _ (right : ℕ → Option Content) (base : ℕ) where
  -- the offset with the text that is right there
  abbrev paired : ℕ → ℕ × List ℕ
  paired i = (i, text_right (right (base + i)))

  -- the text is right at its offset
  abbrev IsRightAt : ℕ × List ℕ → Type 0
  IsRightAt t = right (base + t.0) ≡ Some (Media t.1)

  -- right texts are those that are right at their offsets
  right-paired : (ts : Texts) → All IsRightAt ts → map paired (offsets_of ts) ≡ ts
  right-paired [] all = refl
  right-paired (t ∷ ts) all =
      ap (λ o. (t.0, text_right o) ∷ map paired (offsets_of ts)) (All-head IsRightAt t ts all)
      ∙ ap (λ us. t ∷ us) (right-paired ts (All-tail IsRightAt t ts all))

  -- and so are the texts of right packets
  found-paired : (ps : Packets) → AreRight right ps → (is : List ℕ) (ts : Texts) → texts_at ps base is ≡ Some ts →
      map paired is ≡ ts
  found-paired ps are [] ts e = same_Some [] ts e
  found-paired ps are (i ∷ is) ts e =
      let content = chained (at (base + i) ps) after ts e in
      let text = chained (text_of content.0) with_text ts content.2 in
      let texts = chained (texts_at ps base is) (λ us. Some ((i, text.0) ∷ us)) ts text.2 in
      let here : text.0 ≡ text_right (right (base + i)) =
      text_in-media content.0 text.0 text.1 ∙ ap text_right (sym (are (base + i) content.0 content.1)) in
      ap (λ t. (i, t) ∷ map paired is) (sym here)
      ∙ ap (λ us. (i, text.0) ∷ us) (found-paired ps are is texts.0 texts.1)
      ∙ same_Some ((i, text.0) ∷ texts.0) ts texts.2 where
        with_text : List ℕ → Option Texts
        with_text text = texts_at ps base is >>= λ us. Some ((i, text) ∷ us)

        after : Content → Option Texts
        after content = text_of content >>= with_text

  -- The text that is missing and the others are the texts of the parity.
  parity-texts : (ps : Packets) → AreRight right ps → (is : List ℕ) (ts others : Texts) (k : ℕ) →
      IsPermutation is (offsets_of ts) → All IsRightAt ts → missing_of ps base is ≡ k ∷ [] →
      texts_at ps base (others_of k is) ≡ Some others → IsPermutation ts (paired k ∷ others)
  parity-texts ps are is ts others k order all one found =
      let away : ℕ → Bool = λ i. not (is_available (base + i) ps) in
      let whole : IsPermutation (map paired is) ts =
      subst (IsPermutation (map paired is)) (right-paired ts all)
      (IsPermutation-map paired is (offsets_of ts) order) in
      let split : IsPermutation (map paired is) (paired k ∷ map paired (others_of k is)) =
      IsPermutation-map paired is (k ∷ others_of k is) (one-away away k (away-first away is k one) is one) in
      IsPermutation-trans ts (map paired is) (paired k ∷ others) (IsPermutation-sym (map paired is) ts whole)
      (subst (λ us. IsPermutation (map paired is) (paired k ∷ us)) (found-paired ps are (others_of k is) others found) split)

-- ---- what the missing text is

-- the version of a packet
version-is : (padded extended : Bool) (size : ℕ) → size ≤ 60 →
    (128 + cond padded 0 32 + cond extended 16 0 + size / 4) / 64 ≡ 2
version-is true true size few = omega arith
version-is true false size few = omega arith
version-is false true size few = omega arith
version-is false false size few = omega arith

-- a text of the source is from it
text-from : ReadsPackets → (source : Source) (base : ℕ) (p : Payload) (i : ℕ) (text : List ℕ) →
    p.base ≡ base % 65536 → IsTextOf source (base + i) text → IsFrom p i source.ssrc text
text-from packets source base p i text base_is is =
    let packet : Packet = is.packet in
    let spelled : IsPacket text packet =
    (packets text packet is.below).0 (ok-of (reading_packet text) packet is.reads) in
    let number : packet.seq ≡ (p.base + i) % 2 ^ 16 = is.number ∙ omega (arith, base_is) in
    record {
      version = ap (λ octets. octet_at 0 octets / 64) spelled.spelled
          ∙ version-is (packet.padding == 0) (is_some packet.extension) (length packet.csrc) spelled.fits.csrc.fit;
      number = ap (λ octets. take 2 (drop 2 octets)) spelled.spelled ∙ ap (to_be_bytes w16) number;
      source = ap (λ octets. take 4 (drop 8 octets)) spelled.spelled ∙ ap (to_be_bytes w32) is.ssrc;
    }

text-size : (source : Source) (n : ℕ) (text : List ℕ) → IsTextOf source n text → HasSize text
text-size source n text is = record { at_least = read-long text is.packet is.reads; at_most = omega (arith, is.size) }

-- what is rebuilt is covered, and isn't too long
rebuilt-fits : (p : Payload) (others : Texts) (k ssrc : ℕ) (text : List ℕ) → rebuilt p others k ssrc ≡ Ok text →
    (rebuilt_length p others ≤ 9204) × (rebuilt_length p others ≤ covered p k)
rebuilt-fits p others k ssrc text is =
    by_tests (nat_lt 9204 (rebuilt_length p others)) (nat_lt (covered p k) (rebuilt_length p others)) refl refl
    (ap result_ok is) where
      by_tests : (a b : Bool) → nat_lt 9204 (rebuilt_length p others) ≡ a →
          nat_lt (covered p k) (rebuilt_length p others) ≡ b →
          result_ok (cond a (Err BadLength) (cond b (Err NotCovered) (Ok (rebuilt_text p others k ssrc)))) ≡ Some text →
          (rebuilt_length p others ≤ 9204) × (rebuilt_length p others ≤ covered p k)
      by_tests true b long past e = absurd (none-some text e)
      by_tests false true long past e = absurd (none-some text e)
      by_tests false false long past e =
          (ltb-false 9204 (rebuilt_length p others) long, ltb-false (covered p k) (rebuilt_length p others) past)

-- ---- a step

-- SN base of a FEC packet, as the number before its own
base-right : (m base : ℕ) (p : Payload) → p.base ≡ base % 65536 → base ≤ m → m < base + 32768 → base_of m p ≡ base
base-right m base p is before near = omega (arith, is)

-- a condition under which something is given
guarded : {A : Type 0} (b : Bool) (o : Option A) (y : A) → cond b o None ≡ Some y → o ≡ Some y
guarded true o y is = is
guarded false o y is = absurd (none-some y is)

-- what is read is one payload
reads-one : (o : Result Payload FecFault) (p q : Payload) → result_ok o ≡ Some p → o ≡ Ok q → p ≡ q
reads-one o p q some ok = same_Some p q (sym some ∙ ap result_ok ok)

-- the laws of the crates below
pub record Laws : Type 0 where
  pub packets : ReadsPackets
  pub payloads : ReadsPayloads
  pub lengths : RebuildsLength
  pub texts : Rebuilds
  pub orders : KeepsTruth

module _ (laws : Laws) (right : ℕ → Option Content) (source : Source) (media : IsRightMedia source right)
    (ps : Packets) (are : AreRight right ps) where
  -- what is rebuilt of a right payload is right
  rebuilt-right : (m : ℕ) (payload : List ℕ) (is : IsRightPayload right m payload) (k : ℕ) (others : Texts)
      (text : List ℕ) → missing_of ps is.base (protected is.says) ≡ k ∷ [] →
      texts_at ps is.base (others_of k (protected is.says)) ≡ Some others →
      rebuilt is.says others k source.ssrc ≡ Ok text → right (is.base + k) ≡ Some (Media text)
  rebuilt-right m payload is k others text one found gives =
      let p : Payload = is.says in
      let lost : List ℕ = text_right (right (is.base + k)) in
      let order : IsPermutation is.texts ((k, lost) ∷ others) =
      parity-texts right is.base ps are (protected p) is.texts others k is.true_is.protects is.texts_right one found in
      let here : right (is.base + k) ≡ Some (Media lost) =
      All-head (IsRightAt right is.base) (k, lost) others
      (All-permutation (IsRightAt right is.base) is.texts ((k, lost) ∷ others) order is.texts_right) in
      let of_source : IsTextOf source (is.base + k) lost = media (is.base + k) lost here in
      let size : HasSize lost = text-size source (is.base + k) lost of_source in
      let true_is : IsTrue p ((k, lost) ∷ others) = laws.orders p is.texts ((k, lost) ∷ others) order is.true_is in
      let own : rebuilt_length p others ≡ length lost - 12 = laws.lengths p others k lost true_is size in
      let fits = rebuilt-fits p others k source.ssrc text gives in
      let rebuilds : rebuilt p others k source.ssrc ≡ Ok lost =
      laws.texts p others k lost source.ssrc (record {
        true_is = true_is;
        nested = is.spells.nested;
        size = size;
        origin = text-from laws.packets source is.base p k lost is.base_is of_source;
        few = subst (λ n. n ≤ 9204) own fits.0;
        within = subst (λ n. n ≤ covered p k) own fits.1;
      }) in
      here ∙ ap (λ t. Some (Media t)) (same_Some lost text (ap result_ok (sym rebuilds ∙ gives)))

  module _ (newest : Option ℕ) (dead : List ℕ) where
    -- what a right payload rebuilds is right
    under-right : (m : ℕ) (payload : List ℕ) (is : IsRightPayload right m payload) (k : ℕ) (r : ℕ × Content) →
        missing_of ps is.base (protected is.says) ≡ k ∷ [] →
        rebuilt_under source newest dead ps is.base is.says k ≡ Some r → right r.0 ≡ Some r.1
    under-right m payload is k r one gives =
        let tested = guarded (is_wanted newest dead n) (texts_at ps is.base (others_of k (protected is.says)) >>= finish) r gives in
        let others = chained (texts_at ps is.base (others_of k (protected is.says))) finish r tested in
        let text = chained (result_ok (rebuilt is.says others.0 k source.ssrc)) (media_under source n) r others.2 in
        let said = chained (media_in source text.0) (λ s. Some (n, Media text.0)) r text.2 in
        let same : (n, Media text.0) ≡ r = same_Some (n, Media text.0) r said.2 in
        ap (λ (e : ℕ × Content). right e.0) (sym same)
        ∙ rebuilt-right m payload is k others.0 text.0 one others.1
        (ok-of (rebuilt is.says others.0 k source.ssrc) text.0 text.1)
        ∙ ap (λ (e : ℕ × Content). Some e.1) same where
          n : ℕ
          n = is.base + k

          finish : Texts → Option (ℕ × Content)
          finish others = result_ok (rebuilt is.says others k source.ssrc) >>= media_under source n

    payload-right : (m : ℕ) (payload : List ℕ) (is : IsRightPayload right m payload) (r : ℕ × Content) →
        step_of source newest dead ps is.base is.says ≡ Some r → right r.0 ≡ Some r.1
    payload-right m payload is r gives =
        let one = chained (only_one (missing_of ps is.base (protected is.says)))
        (rebuilt_under source newest dead ps is.base is.says) r gives in
        under-right m payload is one.0 r (only-one (missing_of ps is.base (protected is.says)) one.0 one.1) one.2

    -- the step of a payload, its base being known
    same-step : (m base : ℕ) (p q : Payload) (r : ℕ × Content) → p ≡ q → base_of m q ≡ base →
        step_of source newest dead ps (base_of m p) p ≡ Some r → step_of source newest dead ps base q ≡ Some r
    same-step m base p q r same base_is gives =
        ap (λ b. step_of source newest dead ps b q) (sym base_is)
        ∙ ap (λ o. step_of source newest dead ps (base_of m o) o) (sym same)
        ∙ gives

    -- a step is right
    step-right : IsRightParity right → (m : ℕ) (r : ℕ × Content) → step source newest dead ps m ≡ Some r →
        right r.0 ≡ Some r.1
    step-right parity m r gives =
        let fec = chained (fec_at ps m) (λ p. step_of source newest dead ps (base_of m p) p) r gives in
        let content = chained (at m ps) read_content fec.0 fec.1 in
        let payload = chained (payload_of content.0) read_payload fec.0 content.2 in
        let here : right m ≡ Some (Fec payload.0) =
        are m content.0 content.1 ∙ ap Some (fec-content content.0 payload.0 payload.1) in
        let is : IsRightPayload right m payload.0 = parity m payload.0 here in
        let reads : reading payload.0 (m % 65536) ≡ Ok is.says =
        (laws.payloads payload.0 (m % 65536) is.says is.below).1 is.spells in
        let same : fec.0 ≡ is.says = reads-one (reading payload.0 (m % 65536)) fec.0 is.says payload.2 reads in
        payload-right m payload.0 is r
        (same-step m is.base fec.0 is.says r same
        (base-right m is.base is.says is.base_is is.before is.near) fec.2) where
          read_payload : List ℕ → Option Payload
          read_payload payload = result_ok (reading payload (m % 65536))

          read_content : Content → Option Payload
          read_content content = payload_of content >>= read_payload

pub true-repairs : Laws → TrueRepairs
true-repairs laws right source media parity newest dead ps m r are gives =
    step-right laws right source media ps are newest dead parity m r gives
