-- A reading's fault is the first that applies.
use Rattle.std.proofs.Common.{◌≡◌, ℕ, suc, ◌+◌, ◌-◌, ◌*◌, ◌/◌, ◌%◌, ◌≤◌, Bool, true, false, not, ◌&&◌, ◌||◌, cond, ltb, leb, eqb, List, [], ◌∷◌, length, get_or, take, drop, Option, Some, None, Result, Ok, Err, refl, sym, ap, ◌∙◌, arith, inl, inr}
use Rattle.std.proofs.lemmas.Bool.{cases_eq, le-ltb, lt-ltb, ltb-false, eq-eqb, or_left, or_right, cond-false}
use Rattle.std.proofs.lemmas.List.{get_or-drop, length-drop, length-take-le, drop-drop}
use Rattle.std.specs.Int.{w16, w32, from_be_bytes}
use Rattle.vrx_rtp.specs.declared.fault.RtpFault.{RtpFault}
use Rattle.vrx_rtp.specs.declared.fault.RtpFaultKind.TheVariants.{Short, Version, CsrcPastEnd, ExtensionPastEnd, PaddingPastEnd}
use Rattle.vrx_rtp.specs.declared.reading.Header.{Header}
use Rattle.vrx_rtp.specs.Packet.{HeaderExtension}
use Rattle.vrx_rtp.specs.Faults.{sources_end, header_end, has_extension, has_bad_padding, last_octet, word_count, fault, first_fault}
use Rattle.vrx_rtp.specs.Reading.{sources_at, found_at, extension_at, payload_at, reading}
use Rattle.vrx_num.specs.ResultChain.{◌>>=◌}
use Rattle.vrx_rtp.proofs.Steps.{fault_of, same_ltb, behind_header, behind_sources, behind_extension, made}

-- what is made of a value has the fault of the value
fault_of-made : {A B : Type 0} (r : Result A RtpFault) (f : A → B) → fault_of (r >>= (λ x. Ok (f x))) ≡ fault_of r
fault_of-made (Ok x) f = refl
fault_of-made (Err e) f = refl

-- the fault of a test, and of what comes after it
fault_of-test : {A B : Type 0} (b : Bool) (d : RtpFault) (x : A) (f : A → Result B RtpFault)
    (next : Option RtpFault) → (b ≡ false → fault_of (f x) ≡ next) →
    fault_of (cond b (Err d) (Ok x) >>= f) ≡ cond b (Some d) next
fault_of-test true d x f next h = refl
fault_of-test false d x f next h = h refl

-- the fault of an extension that runs past the end if the test says so
fault_of-found : {B : Type 0} (b : Bool) (s : ℕ) (e : HeaderExtension) (after : List ℕ)
    (f : Option HeaderExtension × List ℕ → Result B RtpFault) (next : Option RtpFault)
    → (b ≡ false → fault_of (f (Some e, after)) ≡ next) →
    fault_of (found_at s (cond b None (Some (e, after))) >>= f) ≡ cond b (Some (fault ExtensionPastEnd s)) next
fault_of-found true s e after f next h = refl
fault_of-found false s e after f next h = h refl

-- the fault of one test
fault_of-cond : {A : Type 0} (b : Bool) (d : RtpFault) (x : A) →
    fault_of (cond b (Err d) (Ok x)) ≡ cond b (Some d) None
fault_of-cond true d x = refl
fault_of-cond false d x = refl

-- padding is bad if nothing follows the header
bad-none : (n h last : ℕ) → n ≤ h → (eqb last 0 || ltb n (h + last)) ≡ true
bad-none n h last le =
    elim (cases_eq last 0) [
      | inl is ↦ or_left (eqb last 0) _ (eq-eqb last 0 is)
      | inr isnt ↦ or_right (eqb last 0) _ (lt-ltb n (h + last) (omega arith))
    ]

module _ (octets : List ℕ) where
  -- the fault of the sources
  fault_of-sources : {B : Type 0} (count : ℕ) (rest : List ℕ) (f : List ℕ × List ℕ → Result B RtpFault)
      (next : Option RtpFault) → drop 12 octets ≡ rest → 12 ≤ length octets
      → (12 + 4 * count ≤ length octets → fault_of (f (take (4 * count) rest, drop (4 * count) rest)) ≡ next)
      → fault_of (sources_at count rest >>= f) ≡ cond (ltb (length octets) (12 + 4 * count))
      (Some (fault CsrcPastEnd 12)) next
  fault_of-sources count rest f next is long behind =
      let size : length rest ≡ length octets - 12 = ap length (sym is) ∙ length-drop 12 octets in
      let same : ltb (length rest) (4 * count) ≡ ltb (length octets) (12 + 4 * count) =
      same_ltb (length rest) (4 * count) (length octets) (12 + 4 * count) (λ h. omega arith) (λ h. omega arith) in
      fault_of-test (ltb (length rest) (4 * count)) (fault CsrcPastEnd 12)
      (take (4 * count) rest, drop (4 * count) rest) f next
      (λ no. behind (let fits : 4 * count ≤ length rest = ltb-false _ _ no in omega arith))
      ∙ ap (λ (b : Bool). cond b (Some (fault CsrcPastEnd 12)) next) same

  module _ {B : Type 0} (s : ℕ) (f : Option HeaderExtension × List ℕ → Result B RtpFault)
      (next : Option RtpFault) where
    -- the count of the words
    abbrev counted : ℕ
    counted = get_or octets (s + 2) 0 * 256 + get_or octets (s + 3) 0

    -- the fault of the words of an extension
    fault_of-words : (rest : List ℕ) → drop s octets ≡ rest → s ≤ length octets
        → ((e : HeaderExtension) → s + (4 + 4 * counted) ≤ length octets →
        fault_of (f (Some e, drop (s + (4 + 4 * counted)) octets)) ≡ next)
        → fault_of (extension_at true s rest >>= f) ≡ cond (ltb (length octets) (s + (4 + 4 * counted)))
        (Some (fault ExtensionPastEnd s)) next
    fault_of-words (p1 ∷ p0 ∷ c1 ∷ c0 ∷ words) is long behind =
        let size : suc (suc (suc (suc (length words)))) ≡ length octets - s =
        ap length (sym is) ∙ length-drop s octets in
        let high : get_or octets (s + 2) 0 ≡ c1 =
        sym (get_or-drop s octets 2 0) ∙ ap (λ (x : List ℕ). get_or x 2 0) is in
        let low : get_or octets (s + 3) 0 ≡ c0 =
        sym (get_or-drop s octets 3 0) ∙ ap (λ (x : List ℕ). get_or x 3 0) is in
        let k : ℕ = 4 * (c1 * 256 + c0) in
        let end_is : s + (4 + 4 * counted) ≡ s + (4 + k) = omega arith in
        let same : ltb (length words) k ≡ ltb (length octets) (s + (4 + 4 * counted)) =
        same_ltb (length words) k (length octets) (s + (4 + 4 * counted)) (λ h. omega arith) (λ h. omega arith) in
        let past : drop (s + (4 + 4 * counted)) octets ≡ drop k words =
        ap (λ (n : ℕ). drop n octets) end_is ∙ sym (drop-drop (4 + k) s octets) ∙ ap (drop (4 + k)) is
        ∙ (let four : 4 + k ≡ suc (suc (suc (suc k))) = omega arith in
        ap (λ (n : ℕ). drop n (p1 ∷ p0 ∷ c1 ∷ c0 ∷ words)) four) in
        let e : HeaderExtension = record { profile = p1 * 256 + p0; words = take k words } in
        fault_of-found (ltb (length words) k) s e (drop k words) f next (λ no.
        let fits : k ≤ length words = ltb-false _ _ no in
        ap (λ (x : List ℕ). fault_of (f (Some e, x))) (sym past) ∙ behind e (omega arith))
        ∙ ap (λ (b : Bool). cond b (Some (fault ExtensionPastEnd s)) next) same
    fault_of-words rest is long behind =
        let size : length rest ≡ length octets - s = ap length (sym is) ∙ length-drop s octets in
        rw (lt-ltb (length octets) (s + (4 + 4 * counted)) (omega arith)) refl

    -- the fault of the extension, if there is one
    fault_of-extension : (extended : Bool) (rest : List ℕ) → drop s octets ≡ rest → s ≤ length octets
        → ((e : Option HeaderExtension) → cond extended (s + (4 + 4 * counted)) s ≤ length octets →
        fault_of (f (e, drop (cond extended (s + (4 + 4 * counted)) s) octets)) ≡ next)
        → fault_of (extension_at extended s rest >>= f) ≡ cond
        (ltb (length octets) (cond extended (s + (4 + 4 * counted)) s)) (Some (fault ExtensionPastEnd s)) next
    fault_of-extension true rest is long behind = fault_of-words rest is long (λ e. behind (Some e))
    fault_of-extension false rest is long behind =
        rw (le-ltb (length octets) s long) (ap (λ (x : List ℕ). fault_of (f (None, x))) (sym is) ∙ behind None long)

  module _ (h : ℕ) where
    -- the fault of the padding
    fault_of-padding : (padded : Bool) (rest : List ℕ) → drop h octets ≡ rest → h ≤ length octets
        → fault_of (payload_at padded (length octets - 1) rest) ≡ cond
        (padded && (eqb (last_octet octets) 0 || ltb (length octets) (h + (last_octet octets))))
        (Some (fault PaddingPastEnd (length octets - 1))) None
    fault_of-padding false rest is long = refl
    fault_of-padding true [] is long =
        let size : 0 ≡ length octets - h = ap length (sym is) ∙ length-drop h octets in
        let bad : (eqb (last_octet octets) 0 || ltb (length octets) (h + (last_octet octets))) ≡ true =
        bad-none (length octets) h (last_octet octets) (omega arith) in
        ap (λ (b : Bool). cond b (Some (fault PaddingPastEnd (length octets - 1))) None) (sym bad)
    fault_of-padding true (first ∷ others) is long =
        let size : suc (length others) ≡ length octets - h = ap length (sym is) ∙ length-drop h octets in
        let place : h + (suc (length others) - 1) ≡ length octets - 1 = omega arith in
        let last : get_or (first ∷ others) (suc (length others) - 1) 0 ≡ (last_octet octets) =
        ap (λ (x : List ℕ). get_or x (suc (length others) - 1) 0) (sym is)
        ∙ get_or-drop h octets (suc (length others) - 1) 0 ∙ ap (λ (n : ℕ). get_or octets n 0) place in
        let n : ℕ = get_or (first ∷ others) (suc (length others) - 1) 0 in
        fault_of-cond (eqb n 0 || ltb (suc (length others)) n) (fault PaddingPastEnd (length octets - 1))
        (take (suc (length others) - n) (first ∷ others), n)
        ∙ ap (λ (k : ℕ). cond (eqb k 0 || ltb (suc (length others)) k)
        (Some (fault PaddingPastEnd (length octets - 1))) None) last
        ∙ ap (λ (b : Bool). cond (eqb (last_octet octets) 0 || b)
        (Some (fault PaddingPastEnd (length octets - 1))) None)
        (same_ltb (suc (length others)) (last_octet octets) (length octets) (h + (last_octet octets))
        (λ lt. omega arith) (λ le. omega arith))

-- the fault of a version
fault_of-version : {A B : Type 0} (b : Bool) (d : RtpFault) (x : A) (f : A → Result B RtpFault)
    (next : Option RtpFault) → (b ≡ true → fault_of (f x) ≡ next) →
    fault_of (cond b (Ok x) (Err d) >>= f) ≡ cond (not b) (Some d) next
fault_of-version true d x f next h = h refl
fault_of-version false d x f next h = refl

module _ (octets : List ℕ) (header : Header) where
  payload_fault : Option RtpFault
  payload_fault =
      cond (header.padded && has_bad_padding octets) (Some (fault PaddingPastEnd (length octets - 1))) None

  extension_fault : Option RtpFault
  extension_fault = cond (ltb (length octets) (header_end octets))
      (Some (fault ExtensionPastEnd (sources_end octets))) payload_fault

  sources_fault : Option RtpFault
  sources_fault = cond (ltb (length octets) (sources_end octets)) (Some (fault CsrcPastEnd 12)) extension_fault

  -- the faults after the twelve octets
  fault_of-behind : (rest : List ℕ) → drop 12 octets ≡ rest → 12 ≤ length octets →
      header.sources ≡ get_or octets 0 0 % 16 → header.extended ≡ has_extension octets
      → fault_of (behind_header (length octets) (header, rest)) ≡ sources_fault
  unfolding payload_fault extension_fault sources_fault
  fault_of-behind rest is long sources extended =
      fault_of-sources octets header.sources rest (behind_sources (length octets) header) extension_fault is long next
      ∙ ap (λ (n : ℕ). cond (ltb (length octets) n) (Some (fault CsrcPastEnd 12)) extension_fault) at_end where
        s : ℕ
        s = sources_end octets

        at_end : 12 + 4 * header.sources ≡ s
        at_end = ap (λ (n : ℕ). 12 + 4 * n) sources

        csrc : List ℕ
        csrc = take (4 * header.sources) rest

        behind : List ℕ
        behind = drop (4 * header.sources) rest

        behind_is : drop s octets ≡ behind
        behind_is = ap (λ (n : ℕ). drop n octets) (sym at_end) ∙ sym (drop-drop (4 * header.sources) 12 octets)
            ∙ ap (drop (4 * header.sources)) is

        -- where the header ends
        end : Bool → ℕ
        end x = cond x (s + (4 + 4 * word_count octets)) s

        padding_next : (e : Option HeaderExtension) → end header.extended ≤ length octets →
            fault_of (behind_extension (length octets) header csrc (e, drop (end header.extended) octets))
            ≡ payload_fault
        padding_next e fits =
            fault_of-made (payload_at header.padded (length octets - 1) (drop (end header.extended) octets))
            (made header csrc e)
            ∙ fault_of-padding octets (end header.extended) header.padded
            (drop (end header.extended) octets) refl fits
            ∙ ap (λ (x : Bool). cond
            (header.padded && (eqb (last_octet octets) 0 || ltb (length octets) (end x + last_octet octets)))
            (Some (fault PaddingPastEnd (length octets - 1))) None) extended

        next : 12 + 4 * header.sources ≤ length octets →
            fault_of (behind_sources (length octets) header (csrc, behind)) ≡ extension_fault
        next fits =
            let size : length rest ≡ length octets - 12 = ap length (sym is) ∙ length-drop 12 octets in
            let offset : 12 + length csrc ≡ s =
            ap (λ (n : ℕ). 12 + n) (length-take-le (4 * header.sources) rest (omega arith)) ∙ at_end in
            let s_fits : s ≤ length octets = omega arith in
            ap (λ (n : ℕ). fault_of (extension_at header.extended n behind >>= behind_extension
            (length octets) header csrc)) offset
            ∙ fault_of-extension octets s
            (behind_extension (length octets) header csrc) payload_fault header.extended behind behind_is s_fits
            padding_next
            ∙ ap (λ (x : Bool). cond (ltb (length octets) (end x)) (Some (fault ExtensionPastEnd s)) payload_fault)
            extended

-- the fault of a reading is the first that applies
pub fault_of-reading : (octets : List ℕ) → fault_of (reading octets) ≡ first_fault octets
unfolding payload_fault extension_fault sources_fault
fault_of-reading (first ∷ second ∷ seq1 ∷ seq0 ∷ ts3 ∷ ts2 ∷ ts1 ∷ ts0 ∷ ssrc3 ∷ ssrc2 ∷ ssrc1 ∷ ssrc0 ∷ rest) =
    let octets : List ℕ =
    first ∷ second ∷ seq1 ∷ seq0 ∷ ts3 ∷ ts2 ∷ ts1 ∷ ts0 ∷ ssrc3 ∷ ssrc2 ∷ ssrc1 ∷ ssrc0 ∷ rest in
    let header : Header = record {
      padded = eqb (first / 32 % 2) 1;
      extended = eqb (first / 16 % 2) 1;
      sources = first % 16;
      marker = leb 128 second;
      pt = second % 128;
      seq = from_be_bytes w16 (seq1 ∷ seq0 ∷ []);
      ts = from_be_bytes w32 (ts3 ∷ ts2 ∷ ts1 ∷ ts0 ∷ []);
      ssrc = from_be_bytes w32 (ssrc3 ∷ ssrc2 ∷ ssrc1 ∷ ssrc0 ∷ []);
    } in
    let long : 12 ≤ length octets = omega arith in
    let version : fault_of (reading octets) ≡ cond (not (eqb (first / 64) 2)) (Some (fault Version 0))
    (sources_fault octets header) =
    fault_of-version (eqb (first / 64) 2) (fault Version 0) (header, rest) (behind_header (length octets))
    (sources_fault octets header) (λ two. fault_of-behind octets header rest refl long refl refl) in
    version ∙ sym (cond-false (ltb (length octets) 12) (Some (fault Short (length octets)))
    (cond (not (eqb (first / 64) 2)) (Some (fault Version 0)) (sources_fault octets header))
    (le-ltb (length octets) 12 long))
fault_of-reading octets = refl
