-- The laws of the grammar of RTP packets.
use Rattle.std.proofs.Common.{◌≡◌, ℕ, zero, suc, ◌+◌, ◌-◌, ◌*◌, ◌/◌, ◌%◌, ◌^◌, ◌<◌, ◌≤◌, Bool, true, false, not, ◌||◌, cond, ltb, leb, eqb, List, [], ◌∷◌, ◌++◌, length, get_or, take, drop, replicate, All, Option, Some, None, Result, Ok, Err, refl, sym, ap, ◌∙◌, subst, append_assoc, arith}
use Rattle.std.specs.Prelude.{IfSome, IfOk, OnOk, is_some}
use Rattle.std.specs.Int.{w16, w32, to_be_bytes, from_be_bytes}
use Rattle.std.proofs.lemmas.Bool.{eqb-true, eqb-false, eq-eqb, ne_eqb, ltb-false, le-ltb, le-leb, lt-leb, or_parts, not-true, not-false}
use Rattle.std.specs.Global.{Vec}
use Rattle.std.proofs.lemmas.List.{take_at, drop_at, take-append-drop, append-nil, length-append, length-take-le, length-drop, get_or-drop, get_or_at, get_or-replicate, length-replicate, take_more, take_all}
use Rattle.std.proofs.lemmas.Nat.{be_bytes_2, be_bytes_4, from_be_bytes-to_be_bytes_2, from_be_bytes-to_be_bytes_4}
use Rattle.std.proofs.lemmas.Grind.{common_steps, same_number_lists}
use Rattle.vrx_rtp.specs.declared.fault.RtpFault.{RtpFault}
use Rattle.vrx_rtp.specs.declared.fault.RtpFaultKind.TheVariants.{Version, CsrcPastEnd, PaddingPastEnd}
use Rattle.vrx_rtp.specs.declared.reading.Header.{Header}
use Rattle.vrx_rtp.specs.Packet.{HeaderExtension, Packet, first_octet, marker_and_type, fixed_header, extension_octets, padding_octets, octets_with, octets_of, AreWords, FitsExtension, Fits, IsPacket}
use Rattle.vrx_num.specs.Octets.{AreOctets}
use Rattle.vrx_rtp.specs.Faults.{fault}
use Rattle.vrx_rtp.specs.Reading.{header_at, sources_at, words_at, found_at, extension_at, payload_at, reading}
use Rattle.vrx_num.specs.ResultChain.{◌>>=◌}
use Rattle.vrx_rtp.proofs.Steps.{bind_ok, guard_ok, passes_ok, ok_is, IsBytes, IsBytes-octets, IsBytes-drop, made, behind_extension, behind_sources, behind_header}

-- ---- what is read is spelled so

-- the second octet is that of its marker bit and payload type
marker_and_type-of : (second : ℕ) → second < 256 → marker_and_type (leb 128 second) (second % 128) ≡ second
marker_and_type-of second below = grind (arith, common_steps)

-- each of two octets, at each place
two_fit : (a b : ℕ) → a < 256 → b < 256 → (i : ℕ) → get_or (a ∷ b ∷ []) i 0 < 256
two_fit a b a_fits b_fits zero = a_fits
two_fit a b a_fits b_fits (suc zero) = b_fits
two_fit a b a_fits b_fits (suc (suc i)) = omega arith

-- each of four octets, at each place
four_fit : (a b c d : ℕ) → a < 256 → b < 256 → c < 256 → d < 256 → (i : ℕ) → get_or (a ∷ b ∷ c ∷ d ∷ []) i 0 < 256
four_fit a b c d a_fits b_fits c_fits d_fits zero = a_fits
four_fit a b c d a_fits b_fits c_fits d_fits (suc zero) = b_fits
four_fit a b c d a_fits b_fits c_fits d_fits (suc (suc i)) = two_fit c d c_fits d_fits i

-- two octets are those of their number, and four
two_are : (a b : ℕ) → a < 256 → b < 256 → to_be_bytes w16 (from_be_bytes w16 (a ∷ b ∷ [])) ≡ a ∷ b ∷ []
two_are a b a_fits b_fits = be_bytes_2 (a ∷ b ∷ []) _ refl (two_fit a b a_fits b_fits) refl

four_are : (a b c d : ℕ) → a < 256 → b < 256 → c < 256 → d < 256 →
    to_be_bytes w32 (from_be_bytes w32 (a ∷ b ∷ c ∷ d ∷ [])) ≡ a ∷ b ∷ c ∷ d ∷ []
four_are a b c d a_fits b_fits c_fits d_fits =
    be_bytes_4 (a ∷ b ∷ c ∷ d ∷ []) _ refl (four_fit a b c d a_fits b_fits c_fits d_fits) refl

-- the octets begin with this header, whose first octet is of version 2
record IsHeader (octets : List ℕ) (header : Header) (rest : List ℕ) : Type 0 where
  pub first : ℕ
  pub below : first < 256
  pub version : first / 64 ≡ 2
  pub padded : header.padded ≡ eqb (first / 32 % 2) 1
  pub extended : header.extended ≡ eqb (first / 16 % 2) 1
  pub sources : header.sources ≡ first % 16
  pub pt : header.pt < 128
  pub seq : header.seq < 2 ^ 16
  pub ts : header.ts < 2 ^ 32
  pub ssrc : header.ssrc < 2 ^ 32
  pub parts : octets ≡ (first ∷ marker_and_type header.marker header.pt ∷ to_be_bytes w16 header.seq
      ++ to_be_bytes w32 header.ts ++ to_be_bytes w32 header.ssrc) ++ rest
  pub rest_fits : IsBytes rest

-- what is equal part by part is equal
same_parts : (first second second' : ℕ) (seq seq' ts ts' ssrc ssrc' rest : List ℕ) → second ≡ second' → seq ≡ seq' →
    ts ≡ ts' → ssrc ≡ ssrc' →
    (first ∷ second ∷ seq ++ ts ++ ssrc) ++ rest ≡ (first ∷ second' ∷ seq' ++ ts' ++ ssrc') ++ rest
same_parts first second second' seq seq' ts ts' ssrc ssrc' rest second_same seq_same ts_same ssrc_same = cc

header_takes : (octets : List ℕ) (x : Header × List ℕ) → IsBytes octets → header_at octets ≡ Ok x →
    IsHeader octets x.0 x.1
header_takes (first ∷ second ∷ seq1 ∷ seq0 ∷ ts3 ∷ ts2 ∷ ts1 ∷ ts0 ∷ ssrc3 ∷ ssrc2 ∷ ssrc1 ∷ ssrc0 ∷ rest) x fits
    given =
    let header : Header = record {
      padded = eqb (first / 32 % 2) 1;
      extended = eqb (first / 16 % 2) 1;
      sources = first % 16;
      marker = leb 128 second;
      pt = second % 128;
      seq = from_be_bytes w16 (seq1 ∷ seq0 ∷ []);
      ts = from_be_bytes w32 (ts3 ∷ ts2 ∷ ts1 ∷ ts0 ∷ []);
      ssrc = from_be_bytes w32 (ssrc3 ∷ ssrc2 ∷ ssrc1 ∷ ssrc0 ∷ []);
    } in
    let chosen = passes_ok (eqb (first / 64) 2) (fault Version 0) (header, rest) x given in
    subst (λ (y : Header × List ℕ).
    IsHeader (first ∷ second ∷ seq1 ∷ seq0 ∷ ts3 ∷ ts2 ∷ ts1 ∷ ts0 ∷ ssrc3 ∷ ssrc2 ∷ ssrc1 ∷ ssrc0 ∷ rest) y.0 y.1)
    chosen.1 (record {
      first = first;
      below = fits 0;
      version = eqb-true (first / 64) 2 chosen.0;
      padded = refl;
      extended = refl;
      sources = refl;
      pt = omega arith;
      seq = omega (arith, fits 2, fits 3);
      ts = omega (arith, fits 4, fits 5, fits 6, fits 7);
      ssrc = omega (arith, fits 8, fits 9, fits 10, fits 11);
      parts = sym (same_parts first (marker_and_type header.marker header.pt) second (to_be_bytes w16 header.seq)
          (seq1 ∷ seq0 ∷ []) (to_be_bytes w32 header.ts) (ts3 ∷ ts2 ∷ ts1 ∷ ts0 ∷ []) (to_be_bytes w32 header.ssrc)
          (ssrc3 ∷ ssrc2 ∷ ssrc1 ∷ ssrc0 ∷ []) rest (marker_and_type-of second (fits 1))
          (two_are seq1 seq0 (fits 2) (fits 3)) (four_are ts3 ts2 ts1 ts0 (fits 4) (fits 5) (fits 6) (fits 7))
          (four_are ssrc3 ssrc2 ssrc1 ssrc0 (fits 8) (fits 9) (fits 10) (fits 11)));
      rest_fits = λ i. fits (suc (suc (suc (suc (suc (suc (suc (suc (suc (suc (suc (suc i))))))))))));
    })
header_takes octets x fits given = absurd cc

-- so many sources stand at the front
sources_take : (count : ℕ) (octets : List ℕ) (x : List ℕ × List ℕ) → sources_at count octets ≡ Ok x →
    (octets ≡ x.0 ++ x.1) × (length x.0 ≡ 4 * count) × (x.1 ≡ drop (4 * count) octets)
sources_take count octets x given =
    let chosen = guard_ok (ltb (length octets) (4 * count)) (fault CsrcPastEnd 12)
    (take (4 * count) octets, drop (4 * count) octets) x given in
    let fits : 4 * count ≤ length octets = ltb-false _ _ chosen.0 in
    subst (λ (y : List ℕ × List ℕ). (octets ≡ y.0 ++ y.1) × (length y.0 ≡ 4 * count)
    × (y.1 ≡ drop (4 * count) octets)) chosen.1
    (sym (take-append-drop (4 * count) octets), length-take-le (4 * count) octets fits, refl)

-- the octets begin with this extension, if it is one
record BeginsWith (octets : List ℕ) (extension : Option HeaderExtension) (rest : List ℕ) : Type 0 where
  pub parts : octets ≡ extension_octets extension ++ rest
  pub fits : IfSome extension FitsExtension
  pub rest_fits : IsBytes rest

-- a value that a test lets through
some_past : {A : Type 0} (b : Bool) (x y : A) → cond b None (Some x) ≡ Some y → (b ≡ false) × (x ≡ y)
some_past true x y e = absurd cc
some_past false x y e = (refl, cc)

words_take : (octets : List ℕ) (x : HeaderExtension × List ℕ) → IsBytes octets → words_at octets ≡ Some x →
    BeginsWith octets (Some x.0) x.1
words_take (p1 ∷ p0 ∷ c1 ∷ c0 ∷ octets) x fits given =
    let words : ℕ = c1 * 256 + c0 in
    let e : HeaderExtension = record { profile = p1 * 256 + p0; words = take (4 * words) octets } in
    let chosen = some_past (ltb (length octets) (4 * words)) (e, drop (4 * words) octets) x given in
    let size : length e.words ≡ 4 * words = length-take-le (4 * words) octets (ltb-false _ _ chosen.0) in
    let count : length e.words / 4 ≡ words = omega arith in
    let profile_is = two_are p1 p0 (fits 0) (fits 1) in
    let count_is : to_be_bytes w16 (length e.words / 4) ≡ c1 ∷ c0 ∷ [] =
    ap (to_be_bytes w16) count ∙ two_are c1 c0 (fits 2) (fits 3) in
    let parts : extension_octets (Some e) ++ drop (4 * words) octets ≡ p1 ∷ p0 ∷ c1 ∷ c0 ∷ octets =
    append_assoc (to_be_bytes w16 e.profile ++ to_be_bytes w16 (length e.words / 4)) e.words (drop (4 * words) octets)
    ∙ ap (λ (t : List ℕ). (to_be_bytes w16 e.profile ++ to_be_bytes w16 (length e.words / 4)) ++ t)
    (take-append-drop (4 * words) octets)
    ∙ ap (λ (t : List ℕ). (t ++ to_be_bytes w16 (length e.words / 4)) ++ octets) profile_is
    ∙ ap (λ (t : List ℕ). ((p1 ∷ p0 ∷ []) ++ t) ++ octets) count_is in
    subst (λ (y : HeaderExtension × List ℕ). BeginsWith (p1 ∷ p0 ∷ c1 ∷ c0 ∷ octets) (Some y.0) y.1) chosen.1
    (record {
      parts = sym parts;
      fits = record {
        profile = omega (arith, fits 0, fits 1);
        words = record { whole = omega arith; fit = omega (arith, fits 2, fits 3) };
      };
      rest_fits = IsBytes-drop (4 * words) octets (λ i. fits (suc (suc (suc (suc i)))));
    })
words_take octets x fits given = absurd cc

found_takes : (octets : List ℕ) (offset : ℕ) (o : Option (HeaderExtension × List ℕ))
    (x : Option HeaderExtension × List ℕ) → IsBytes octets → words_at octets ≡ o → found_at offset o ≡ Ok x →
    BeginsWith octets x.0 x.1 × (is_some x.0 ≡ true)
found_takes octets offset None x fits is given = absurd cc
found_takes octets offset (Some y) x fits is given =
    subst (λ (z : Option HeaderExtension × List ℕ). BeginsWith octets z.0 z.1 × (is_some z.0 ≡ true))
    (ok_is (Some y.0, y.1) x given) (words_take octets y fits is, refl)

extension_takes : (extended : Bool) (offset : ℕ) (octets : List ℕ) (x : Option HeaderExtension × List ℕ) →
    IsBytes octets → extension_at extended offset octets ≡ Ok x → BeginsWith octets x.0 x.1 × (is_some x.0 ≡ extended)
extension_takes true offset octets x fits given = found_takes octets offset (words_at octets) x fits refl given
extension_takes false offset octets x fits given =
    subst (λ (z : Option HeaderExtension × List ℕ). BeginsWith octets z.0 z.1 × (is_some z.0 ≡ false))
    (ok_is (None, octets) x given) (record { parts = refl; fits = tt; rest_fits = fits }, refl)

-- the octets are this payload, and so many padding octets
record EndsWith (octets payload : List ℕ) (padding : ℕ) : Type 0 where
  pub filler : List ℕ
  pub filled : length filler ≡ padding - 1
  pub parts : octets ≡ payload ++ padding_octets filler padding
  pub below : padding < 256

-- if there are padding octets
padding_octets-some : (filler : List ℕ) (n : ℕ) → 0 < n → padding_octets filler n ≡ filler ++ n ∷ []
padding_octets-some filler zero some = absurd (omega arith)
padding_octets-some filler (suc n) some = refl

payload_takes : (padded : Bool) (offset : ℕ) (octets : List ℕ) (x : List ℕ × ℕ) → IsBytes octets →
    payload_at padded offset octets ≡ Ok x → EndsWith octets x.0 x.1 × (eqb x.1 0 ≡ not padded)
payload_takes false offset octets x fits given =
    subst (λ (y : List ℕ × ℕ). EndsWith octets y.0 y.1 × (eqb y.1 0 ≡ true)) (ok_is (octets, 0) x given)
    (record { filler = []; filled = refl; parts = sym (append-nil octets); below = lit }, refl) where
      lit : 0 < 256
      lit = omega arith
payload_takes true offset octets x fits given =
    let n : ℕ = get_or octets (length octets - 1) 0 in
    let chosen = guard_ok (eqb n 0 || ltb (length octets) n) (fault PaddingPastEnd offset)
    (take (length octets - n) octets, n) x given in
    let good = or_parts (eqb n 0) (ltb (length octets) n) chosen.0 in
    let some : 0 < n = (let isnt : n ≡ 0 → ⊥ = eqb-false n 0 good.0 in omega arith) in
    let room : n ≤ length octets = ltb-false _ _ good.1 in
    let k : ℕ = length octets - n in
    let behind : List ℕ = drop k octets in
    let size : length behind ≡ n = length-drop k octets ∙ omega arith in
    let last : get_or behind (n - 1) 0 ≡ n = get_or-drop k octets (n - 1) 0
    ∙ (let place : k + (n - 1) ≡ length octets - 1 = omega arith in ap (λ (i : ℕ). get_or octets i 0) place) in
    let filler : List ℕ = take (n - 1) behind in
    let one_more : n - 1 + 1 ≡ n = omega arith in
    let split : behind ≡ filler ++ n ∷ [] =
    sym (take_all n behind (omega arith)) ∙ ap (λ (i : ℕ). take i behind) (sym one_more)
    ∙ take_more behind (n - 1) 0 (omega arith) ∙ ap (λ (i : ℕ). filler ++ i ∷ []) last in
    let parts : octets ≡ take k octets ++ padding_octets filler n =
    sym (take-append-drop k octets)
    ∙ ap (λ (t : List ℕ). take k octets ++ t) (split ∙ sym (padding_octets-some filler n some)) in
    subst (λ (y : List ℕ × ℕ). EndsWith octets y.0 y.1 × (eqb y.1 0 ≡ false)) chosen.1 (
      record {
        filler = filler;
        filled = length-take-le (n - 1) behind (omega arith);
        parts = parts;
        below = fits (length octets - 1);
      },
      good.0,
    )

-- the first octet, by its bits
first_is : (first : ℕ) (none some : Bool) (count : ℕ) → first < 256 → first / 64 ≡ 2 →
    none ≡ not (eqb (first / 32 % 2) 1) → some ≡ eqb (first / 16 % 2) 1 → count ≡ first % 16 →
    first ≡ 128 + cond none 0 32 + cond some 16 0 + count
first_is first true true count below two p x cc_is = let no_p =
    eqb-false (first / 32 % 2) 1 (not-true _ (sym p)) in let is_x = eqb-true (first / 16 % 2) 1 (sym x) in omega arith
first_is first true false count below two p x cc_is = let no_p = eqb-false (first / 32 % 2) 1 (not-true _ (sym p)) in
    let no_x = eqb-false (first / 16 % 2) 1 (sym x) in omega arith
first_is first false true count below two p x cc_is = let is_p =
    eqb-true (first / 32 % 2) 1 (not-false _ (sym p)) in let is_x = eqb-true (first / 16 % 2) 1 (sym x) in omega arith
first_is first false false count below two p x cc_is = let is_p = eqb-true (first / 32 % 2) 1 (not-false _ (sym p)) in
    let no_x = eqb-false (first / 16 % 2) 1 (sym x) in omega arith

-- five parts, one after the other
regroup : (a b c d e : List ℕ) → a ++ b ++ c ++ d ++ e ≡ a ++ (b ++ (c ++ (d ++ e)))
regroup a b c d e = simp append_assoc

-- what is read of octets is spelled so
pub packet-reading : (octets : List ℕ) (p : Packet) → AreOctets octets → reading octets ≡ Ok p → IsPacket octets p
packet-reading octets p are given =
    let total : ℕ = length octets in
    let front = bind_ok (header_at octets) (behind_header total) p given in
    let header : Header = front.0.0 in
    let sources = bind_ok (sources_at header.sources front.0.1) (behind_sources total header) p front.2 in
    let csrc : List ℕ = sources.0.0 in
    let found = bind_ok (extension_at header.extended (12 + length csrc) sources.0.1)
    (behind_extension total header csrc) p sources.2 in
    let ended = bind_ok (payload_at header.padded (total - 1) found.0.1)
    (λ (x : List ℕ × ℕ). Ok (made header csrc found.0.0 x)) p found.2 in
    let one : IsHeader octets header front.0.1 = header_takes octets front.0 (IsBytes-octets octets are) front.1 in
    let two = sources_take header.sources front.0.1 sources.0 sources.1 in
    let bytes : IsBytes sources.0.1 =
    subst IsBytes (sym two.2) (IsBytes-drop (4 * header.sources) front.0.1 one.rest_fits) in
    let three = extension_takes header.extended (12 + length csrc) sources.0.1 found.0 bytes found.1 in
    let four = payload_takes header.padded (total - 1) found.0.1 ended.0 three.0.rest_fits ended.1 in
    let whole : Packet = made header csrc found.0.0 ended.0 in
    let pad : List ℕ = padding_octets four.0.filler ended.0.1 in
    let count : length csrc / 4 ≡ one.first % 16 = omega (arith, two.1, one.sources) in
    let first : one.first ≡ first_octet whole =
    first_is one.first (eqb ended.0.1 0) (is_some found.0.0) (length csrc / 4) one.below one.version
    (four.1 ∙ ap not one.padded) (three.1 ∙ one.extended) count in
    let fixed : List ℕ = fixed_header whole in
    let spelled : octets ≡ octets_with four.0.filler whole =
    one.parts
    ∙ ap (λ (n : ℕ). (n ∷ marker_and_type header.marker header.pt ∷ to_be_bytes w16 header.seq
    ++ to_be_bytes w32 header.ts ++ to_be_bytes w32 header.ssrc) ++ front.0.1) first
    ∙ ap (λ (t : List ℕ). fixed ++ t)
    (two.0 ∙ ap (λ (t : List ℕ). csrc ++ t)
    (three.0.parts ∙ ap (λ (t : List ℕ). extension_octets found.0.0 ++ t) four.0.parts))
    ∙ sym (regroup fixed csrc (extension_octets found.0.0) ended.0.0 pad) in
    subst (λ (q : Packet). IsPacket octets q) (ok_is whole p ended.2) (record {
      filler = four.0.filler;
      filled = four.0.filled;
      spelled = spelled;
      fits = record {
        pt = one.pt;
        seq = one.seq;
        ts = one.ts;
        ssrc = one.ssrc;
        csrc = record { whole = omega (arith, two.1); fit = omega (arith, two.1, one.sources) };
        extension = three.0.fits;
        padding = four.0.below;
      };
    })

-- ---- what is spelled so is read

-- what the header of a packet says
abbrev header_for : Packet → Header
header_for p = record {
  padded = not (eqb p.padding 0);
  extended = is_some p.extension;
  sources = length p.csrc / 4;
  marker = p.marker;
  pt = p.pt;
  seq = p.seq;
  ts = p.ts;
  ssrc = p.ssrc;
}

-- what the bits of a first octet say
record SaysFirst (first : ℕ) (padded extended : Bool) (count : ℕ) : Type 0 where
  pub version : eqb (first / 64) 2 ≡ true
  pub padding : eqb (first / 32 % 2) 1 ≡ padded
  pub extension : eqb (first / 16 % 2) 1 ≡ extended
  pub sources : first % 16 ≡ count

first_says : (none some : Bool) (count : ℕ) → count < 16 →
    SaysFirst (128 + cond none 0 32 + cond some 16 0 + count) (not none) some count
first_says true true count below =
    record {
      version = eq-eqb _ _ (omega arith);
      padding = ne_eqb _ _ (λ e. omega arith);
      extension = eq-eqb _ _ (omega arith);
      sources = omega arith;
    }
first_says true false count below =
    record {
      version = eq-eqb _ _ (omega arith);
      padding = ne_eqb _ _ (λ e. omega arith);
      extension = ne_eqb _ _ (λ e. omega arith);
      sources = omega arith;
    }
first_says false true count below =
    record {
      version = eq-eqb _ _ (omega arith);
      padding = eq-eqb _ _ (omega arith);
      extension = eq-eqb _ _ (omega arith);
      sources = omega arith;
    }
first_says false false count below =
    record {
      version = eq-eqb _ _ (omega arith);
      padding = eq-eqb _ _ (omega arith);
      extension = ne_eqb _ _ (λ e. omega arith);
      sources = omega arith;
    }

-- the marker and the type of the octet that they make
marker-of : (marker : Bool) (pt : ℕ) → pt < 128 → leb 128 (marker_and_type marker pt) ≡ marker
marker-of true pt below = le-leb 128 (128 + pt) (omega arith)
marker-of false pt below = lt-leb 128 pt below

type-of : (marker : Bool) (pt : ℕ) → pt < 128 → marker_and_type marker pt % 128 ≡ pt
type-of true pt below = omega arith
type-of false pt below = omega arith

-- a header is read again
header-again : (p : Packet) (rest : List ℕ) → Fits p → header_at (fixed_header p ++ rest) ≡ Ok (header_for p, rest)
header-again p rest fits =
    let says : SaysFirst (first_octet p) (not (eqb p.padding 0)) (is_some p.extension) (length p.csrc / 4) =
    first_says (eqb p.padding 0) (is_some p.extension) (length p.csrc / 4) (omega (arith, fits.csrc.fit)) in
    rw (
      says.version,
      says.padding,
      says.extension,
      says.sources,
      marker-of p.marker p.pt fits.pt,
      type-of p.marker p.pt fits.pt,
      from_be_bytes-to_be_bytes_2 p.seq fits.seq,
      from_be_bytes-to_be_bytes_4 p.ts fits.ts,
      from_be_bytes-to_be_bytes_4 p.ssrc fits.ssrc,
    ) refl

-- sources are read again
sources-again : (csrc rest : List ℕ) → AreWords 60 csrc →
    sources_at (length csrc / 4) (csrc ++ rest) ≡ Ok (csrc, rest)
sources-again csrc rest words =
    let size : length csrc ≡ 4 * (length csrc / 4) = omega (arith, words.whole) in
    let long : ltb (length (csrc ++ rest)) (4 * (length csrc / 4)) ≡ false =
    le-ltb _ _ (omega (arith, length-append csrc rest)) in
    rw (long, take_at csrc rest (4 * (length csrc / 4)) size, drop_at csrc rest (4 * (length csrc / 4)) size) refl

-- an extension is read again
extension-again : (offset : ℕ) (extension : Option HeaderExtension) (rest : List ℕ) → IfSome extension FitsExtension →
    extension_at (is_some extension) offset (extension_octets extension ++ rest) ≡ Ok (extension, rest)
extension-again offset None rest fits = refl
extension-again offset (Some e) rest fits =
    let count : from_be_bytes w16 (to_be_bytes w16 (length e.words / 4)) ≡ length e.words / 4 =
    from_be_bytes-to_be_bytes_2 (length e.words / 4) (omega (arith, fits.words.fit)) in
    let size : length e.words ≡ 4 * (length e.words / 4) = omega (arith, fits.words.whole) in
    let long : ltb (length (e.words ++ rest)) (4 * (length e.words / 4)) ≡ false =
    le-ltb _ _ (omega (arith, length-append e.words rest)) in
    rw (
      count,
      from_be_bytes-to_be_bytes_2 e.profile fits.profile,
      long,
      take_at e.words rest (4 * (length e.words / 4)) size,
      drop_at e.words rest (4 * (length e.words / 4)) size,
    ) refl

-- a payload before so many padding octets
payload_at-some : (offset : ℕ) (octets payload : List ℕ) (count : ℕ) →
    get_or octets (length octets - 1) 0 ≡ count → 0 < count → count ≤ length octets →
    take (length octets - count) octets ≡ payload → payload_at true offset octets ≡ Ok (payload, count)
payload_at-some offset octets payload count last some room front =
    let none : eqb count 0 ≡ false = ne_eqb count 0 (λ e. omega arith) in
    let long : ltb (length octets) count ≡ false = le-ltb _ _ room in
    rw (last, none, long, front) refl

-- a payload is read again
payload-again : (offset : ℕ) (payload filler : List ℕ) (padding : ℕ) → length filler ≡ padding - 1 →
    payload_at (not (eqb padding 0)) offset (payload ++ padding_octets filler padding) ≡ Ok (payload, padding)
payload-again offset payload filler zero filled = ap (λ (t : List ℕ). Ok (t, 0)) (append-nil payload)
payload-again offset payload filler (suc n) filled =
    let octets : List ℕ = payload ++ (filler ++ suc n ∷ []) in
    let size : length octets ≡ length payload + suc n =
    omega (arith, length-append payload (filler ++ suc n ∷ []), length-append filler (suc n ∷ [])) in
    let last : get_or octets (length octets - 1) 0 ≡ suc n =
    ap (λ (t : List ℕ). get_or t (length octets - 1) 0) (sym (append_assoc payload filler (suc n ∷ [])))
    ∙ get_or_at (payload ++ filler) (suc n) [] 0 (length octets - 1) (omega (arith, length-append payload filler)) in
    ap (λ (b : Bool). payload_at (not b) offset octets) (ne_eqb (suc n) 0 (λ e. omega arith))
    ∙ payload_at-some offset octets payload (suc n) last (omega arith) (omega arith)
    (take_at payload (filler ++ suc n ∷ []) (length octets - suc n) (omega arith))

-- what a packet spells is read as the packet
pub reading-octets_of : (filler : List ℕ) (p : Packet) → length filler ≡ p.padding - 1 → Fits p →
    reading (octets_with filler p) ≡ Ok p
reading-octets_of filler p filled fits =
    let ended : List ℕ = p.payload ++ padding_octets filler p.padding in
    let found : List ℕ = extension_octets p.extension ++ ended in
    let rest : List ℕ = p.csrc ++ found in
    let octets : List ℕ = octets_with filler p in
    let total : ℕ = length octets in
    let parts : octets ≡ fixed_header p ++ rest =
    regroup (fixed_header p) p.csrc (extension_octets p.extension) p.payload (padding_octets filler p.padding) in
    ap (λ (t : List ℕ). header_at t >>= behind_header total) parts
    ∙ ap (λ (r : Result (Header × List ℕ) RtpFault). r >>= behind_header total) (header-again p rest fits)
    ∙ ap (λ (r : Result (List ℕ × List ℕ) RtpFault). r >>= behind_sources total (header_for p))
    (sources-again p.csrc found fits.csrc)
    ∙ ap (λ (r : Result (Option HeaderExtension × List ℕ) RtpFault).
    r >>= behind_extension total (header_for p) p.csrc)
    (extension-again (12 + length p.csrc) p.extension ended fits.extension)
    ∙ ap (λ (r : Result (List ℕ × ℕ) RtpFault). r >>= λ (x : List ℕ × ℕ).
    Ok (made (header_for p) p.csrc p.extension x)) (payload-again (total - 1) p.payload filler p.padding filled)

-- octets in the grammar are read as the packet
pub reading-packet : (octets : List ℕ) (p : Packet) → IsPacket octets p → reading octets ≡ Ok p
reading-packet octets p is = ap reading is.spelled ∙ reading-octets_of is.filler p is.filled is.fits

-- octets are one packet at most
pub same_packet : (octets : List ℕ) (p q : Packet) → IsPacket octets p → IsPacket octets q → p ≡ q
same_packet octets p q a b = ok_is p q (sym (reading-packet octets p a) ∙ reading-packet octets q b)

-- a list of zeros
zeros : (octets : List ℕ) (n : ℕ) → length octets ≡ n → All (λ octet. octet ≡ 0) octets → octets ≡ replicate n 0
zeros octets n size are =
    same_number_lists octets (replicate n 0) (size ∙ sym (length-replicate n 0))
    (λ k within. are k 0 within ∙ sym (get_or-replicate n k 0 0 (omega arith)))

-- if the padding octets but the last are 0, the octets are what the packet spells
pub packet-octets_of : (octets : List ℕ) (p : Packet) (is : IsPacket octets p) → All (λ octet. octet ≡ 0) is.filler →
    octets ≡ octets_of p
packet-octets_of octets p is are =
    is.spelled ∙ ap (λ (t : List ℕ). octets_with t p) (zeros is.filler (p.padding - 1) is.filled are)

-- what a packet spells is the packet
pub octets_of-packet : (p : Packet) → Fits p → IsPacket (octets_of p) p
octets_of-packet p fits =
    record {
      filler = replicate (p.padding - 1) 0;
      filled = length-replicate (p.padding - 1) 0;
      spelled = refl;
      fits = fits;
    }

-- ---- what is written

-- the padding octets stand at the end, after a filler of zeros
pub padding-pushed : (old filled new : List ℕ) (n : ℕ) → 0 < n → filled ≡ old ++ replicate (n - 1) 0 →
    new ≡ filled ++ n ∷ [] → new ≡ old ++ padding_octets (replicate (n - 1) 0) n
padding-pushed old filled new n some filler last =
    last ∙ ap (λ (t : List ℕ). t ++ n ∷ []) filler ∙ append_assoc old (replicate (n - 1) 0) (n ∷ [])
    ∙ ap (λ (t : List ℕ). old ++ t) (sym (padding_octets-some (replicate (n - 1) 0) n some))

-- what was written is the packet, and is read again
pub written_is : {E : Type 0} (r : Result (Vec ℕ) E) (p : Packet) → IfOk r (λ v. v.items ≡ octets_of p) →
    OnOk r (Fits p) → IfOk r (λ v. IsPacket v.items p)
written_is (Ok v) p is fits = subst (λ (t : List ℕ). IsPacket t p) (sym is) (octets_of-packet p fits)
written_is (Err e) p is fits = tt

pub written_again : {E : Type 0} (r : Result (Vec ℕ) E) (p : Packet) → IfOk r (λ v. v.items ≡ octets_of p) →
    OnOk r (Fits p) → IfOk r (λ v. reading v.items ≡ Ok p)
written_again (Ok v) p is fits = ap reading is ∙ reading-packet (octets_of p) p (octets_of-packet p fits)
written_again (Err e) p is fits = tt
