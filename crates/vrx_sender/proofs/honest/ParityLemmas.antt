-- The FEC packets of a drill are true (RFC 5109 8).
use Rattle.std.proofs.Common.{◌≡◌, ℕ, zero, suc, ◌+◌, ◌-◌, ◌/◌, ◌%◌, ◌^◌, ◌<◌, Bool, true, false, List, [], ◌∷◌, ◌++◌, length, map, get_or, IsPermutation, refl, ap, sym, ◌∙◌, subst, arith}
use Rattle.std.specs.Prelude.{filter}
use Rattle.std.specs.Int.{w16, to_be_bytes}
use Rattle.std.proofs.lemmas.Bool.{false≢true, ne_eqb}
use Rattle.std.proofs.lemmas.List.{append-nil}
use Rattle.std.proofs.lemmas.List.Elements.{All-nil}
use Rattle.std.proofs.lemmas.List.Sorted.{IsPermutation-refl}
use Rattle.std.proofs.lemmas.Nat.{from_be_bytes-to_be_bytes_2, xor_lt}
use Rattle.vrx_num.specs.Octets.{AreOctets}
use Rattle.vrx_fec.specs.Mask.{is_named, numbers_from, offsets}
use Rattle.vrx_fec.specs.Payload.{FitsLevel, IsPayload, Level, Payload, has_long_masks, level_octets}
use Rattle.vrx_fec.specs.Payload as fec
use Rattle.vrx_fec.specs.Parity.{IsTrue, Texts, body_of, fields_of, mask_at, octet_at, offsets_of, recovery, spans_of, xor_of, xor_of_fields, xor_of_octets}
use Rattle.vrx_sender.specs.Packets.{longest, mask_of, parity}
use Rattle.vrx_sender.proofs.FecLemmas.{mask-fits, names-first, not-ahead, offsets-mask, own_of}
use Rattle.vrx_sender.proofs.NumbersLemmas.{at-numbers, length-mapped}
use Rattle.vrx_sender.proofs.honest.PartLemmas.{octets-both, octets-first, octets-two}

-- texts are octets
abbrev pub AreTexts : Texts → Type 0
AreTexts [] = Unit {0}
AreTexts (t ∷ ts) = AreOctets t.1 × AreTexts ts

octet-small : (xs : List ℕ) (k : ℕ) → AreOctets xs → octet_at k xs < 256
octet-small [] k are = omega arith
octet-small (x ∷ xs) zero are = are 0 0 (omega arith)
octet-small (x ∷ xs) (suc k) are = octet-small xs k (λ i d lt. are (suc i) d (omega (arith, lt)))

-- what stays below a bound stays so when it is added up
xor-small : (k : ℕ) (part : List ℕ → ℕ) (texts : Texts) → ((text : List ℕ) → AreOctets text → part text < 2 ^ k) → 0 < 2 ^ k →
    AreTexts texts → xor_of part texts < 2 ^ k
xor-small k part [] each some are = some
xor-small k part (t ∷ ts) each some are =
    xor_lt k (part t.1) (xor_of part ts) (each t.1 are.0) (xor-small k part ts each some are.1)

fields-are : (text : List ℕ) → AreOctets text → AreOctets (fields_of text)
fields-are text are =
    let last : List ℕ = to_be_bytes w16 (length text - 12) in
    let five : List ℕ = octet_at 7 text ∷ last in
    let four : List ℕ = octet_at 6 text ∷ five in
    let three : List ℕ = octet_at 5 text ∷ four in
    let two : List ℕ = octet_at 4 text ∷ three in
    let one : List ℕ = octet_at 1 text ∷ two in
    octets-first (octet_at 0 text % 64) one (omega arith) (octets-first (octet_at 1 text) two (octet-small text 1 are)
    (octets-first (octet_at 4 text) three (octet-small text 4 are) (octets-first (octet_at 5 text) four (octet-small text 5 are)
    (octets-first (octet_at 6 text) five (octet-small text 6 are) (octets-first (octet_at 7 text) last (octet-small text 7 are)
    (octets-two (length text - 12)))))))

field-small : (k : ℕ) (texts : Texts) → AreTexts texts → xor_of_fields k texts < 256
field-small k texts are = xor-small 8 (λ text. octet_at k (fields_of text)) texts
    (λ text text-are. octet-small (fields_of text) k (fields-are text text-are)) (omega arith) are

first-small : (texts : Texts) → AreTexts texts → xor_of_fields 0 texts < 64
first-small texts are = xor-small 6 (λ text. octet_at 0 (fields_of text)) texts (λ text text-are. omega arith) (omega arith) are

named-are : (long : Bool) (mask : ℕ) (texts : Texts) → AreTexts texts → AreTexts (filter (λ t. is_named long mask t.0) texts)
named-are long mask [] are = tt
named-are long mask (t ∷ ts) are = by (is_named long mask t.0) refl (named-are long mask ts are.1)
  where
    by : (b : Bool) → is_named long mask t.0 ≡ b → AreTexts (filter (λ t. is_named long mask t.0) ts) →
        AreTexts (filter (λ t. is_named long mask t.0) (t ∷ ts))
    by true is rest = rw is (are.0, rest)
    by false is rest = rw is rest

mapped-are : (f : ℕ → ℕ) (first count : ℕ) → ((k : ℕ) → f k < 256) → AreOctets (map f (numbers_from first count))
mapped-are f first zero small = All-nil (λ (x : ℕ). x < 256)
mapped-are f first (suc count) small = octets-first (f first) (map f (numbers_from (first + 1) count)) (small first)
    (mapped-are f (first + 1) count small)

module _ (base n : ℕ) (fits : base < 65536) (some : 0 < n) (few : n < 13) (texts : Texts) (count : length texts ≡ n)
    (are : AreTexts texts) (short : longest texts < 65536) where
  abbrev says : Payload
  says = parity base texts

  abbrev octet-of : ℕ → ℕ
  octet-of k = xor_of_octets false (record { mask = mask_of (length texts); size = longest texts } ∷ []) k texts

  octet-of-small : (k : ℕ) → octet-of k < 256
  octet-of-small k = xor-small 8 (λ text. octet_at (12 + k) text) (filter (λ t. is_named false (mask_at (record { mask = mask_of (length texts); size = longest texts } ∷ []) k) t.0) texts) (λ text text-are. octet-small text (12 + k) text-are)
      (omega arith) (named-are false (mask_at (record { mask = mask_of (length texts); size = longest texts } ∷ []) k) texts are)

  size : length (map octet-of (numbers_from 0 (longest texts))) ≡ longest texts
  size = length-mapped octet-of 0 (longest texts)

  names : offsets false (mask_of (length texts)) ≡ numbers_from 0 n
  names = ap (λ (m : ℕ). offsets false (mask_of m)) count ∙ offsets-mask n few

  -- its octets
  pub parity-octets : AreOctets (fec.octets_of (parity base texts))
  parity-octets =
      let level : List ℕ = map octet-of (numbers_from 0 (longest texts)) in
      let none : AreOctets [] = All-nil (λ (x : ℕ). x < 256) in
      let seven : List ℕ = xor_of_fields 7 texts ∷ [] in
      let six : List ℕ = xor_of_fields 6 texts ∷ seven in
      let five : List ℕ = xor_of_fields 5 texts ∷ six in
      let four : List ℕ = xor_of_fields 4 texts ∷ five in
      let three : List ℕ = xor_of_fields 3 texts ∷ four in
      let two : List ℕ = xor_of_fields 2 texts ∷ three in
      let one : List ℕ = to_be_bytes w16 base ++ two in
      let zeroth : List ℕ = xor_of_fields 1 texts ∷ one in
      let two-are : AreOctets two = octets-first (xor_of_fields 2 texts) three (field-small 2 texts are)
      (octets-first (xor_of_fields 3 texts) four (field-small 3 texts are)
      (octets-first (xor_of_fields 4 texts) five (field-small 4 texts are)
      (octets-first (xor_of_fields 5 texts) six (field-small 5 texts are)
      (octets-first (xor_of_fields 6 texts) seven (field-small 6 texts are)
      (octets-first (xor_of_fields 7 texts) [] (field-small 7 texts are) none))))) in
      let head-are : AreOctets ((0 + xor_of_fields 0 texts) ∷ zeroth) =
      octets-first (0 + xor_of_fields 0 texts) zeroth (omega (arith, first-small texts are))
      (octets-first (xor_of_fields 1 texts) one (field-small 1 texts are)
      (octets-both (to_be_bytes w16 base) two (octets-two base) two-are)) in
      let size-octets : List ℕ = to_be_bytes w16 (length level) in
      let mask-octets : List ℕ = to_be_bytes w16 (mask_of (length texts)) in
      octets-both ((0 + xor_of_fields 0 texts) ∷ zeroth) ((size-octets ++ mask-octets ++ level) ++ []) head-are
      (octets-both (size-octets ++ mask-octets ++ level) []
      (octets-both (size-octets ++ mask-octets) level (octets-both size-octets mask-octets (octets-two (length level)) (octets-two (mask_of (length texts))))
      (mapped-are octet-of 0 (longest texts) octet-of-small)) none)

  zeroth : (n : ℕ) → n < 64 → (0 + n) % 64 ≡ n
  zeroth n small = omega (arith, small)

  fields-here : (k : ℕ) → k < 8 → octet_at k (recovery says.head) ≡ xor_of_fields k texts
  fields-here zero lt = zeroth (xor_of_fields 0 texts) (first-small texts are)
  fields-here (suc zero) lt = refl
  fields-here (suc (suc zero)) lt = refl
  fields-here (suc (suc (suc zero))) lt = refl
  fields-here (suc (suc (suc (suc zero)))) lt = refl
  fields-here (suc (suc (suc (suc (suc zero))))) lt = refl
  fields-here (suc (suc (suc (suc (suc (suc zero)))))) lt = refl
  fields-here (suc (suc (suc (suc (suc (suc (suc zero))))))) lt = refl
  fields-here (suc (suc (suc (suc (suc (suc (suc (suc k)))))))) lt = absurd (omega (arith, lt))

  body-here : (k : ℕ) → k < length (body_of says.levels) →
      octet_at k (body_of says.levels) ≡ xor_of_octets false (spans_of says.levels) k texts
  body-here k lt =
      let level : List ℕ = map octet-of (numbers_from 0 (longest texts)) in
      let within : k < longest texts = subst (λ (m : ℕ). k < m) size (subst (λ (xs : List ℕ). k < length xs) (append-nil level) lt) in
      ap (octet_at k) (append-nil level) ∙ at-numbers octet-of 0 (longest texts) k 0 within
      ∙ ap octet-of (let t : 0 + k ≡ k = omega arith in t)
      ∙ ap (λ (m : ℕ). xor_of_octets false (record { mask = mask_of (length texts); size = m } ∷ []) k texts) (sym size)

  -- it is true for these texts, if they stand in a row
  pub parity-true : offsets_of texts ≡ numbers_from 0 n → IsTrue (parity base texts) texts
  parity-true row = record {
    protects = subst (λ (os : List ℕ). IsPermutation os (offsets_of texts)) (row ∙ sym names) (IsPermutation-refl (offsets_of texts));
    parity = record { fields = fields-here; body = body-here };
  }

  -- and it is the payload of the FEC packet that comes after them
  pub parity-spells : IsPayload (fec.octets_of (parity base texts)) (own_of base n) (parity base texts)
  parity-spells = record {
    spelled = refl;
    head = refl;
    long = sym (ne_eqb ((0 + xor_of_fields 0 texts) / 64 % 2) 1 (λ is. omega (arith, is, first-small texts are)));
    base = sym (from_be_bytes-to_be_bytes_2 base fits);
    few = omega arith;
    fits = level-fits;
    nested = refl;
    protects = ne_eqb (mask_of (length texts)) 0 (λ is. none is);
    before = not-ahead (parity base texts) n (longest texts) base fits few (record {
      long = refl;
      base_is = refl;
      level = record { mask = mask_of (length texts); octets = map octet-of (numbers_from 0 (longest texts)) };
      levels = refl;
      span = ap (λ (m : ℕ). record { mask = mask_of m; size = length (map octet-of (numbers_from 0 (longest texts))) }) count
          ∙ ap (λ (m : ℕ). record { mask = mask_of n; size = m }) size;
    });
  }
    where
      none : mask_of (length texts) ≡ 0 → ⊥
      none is = false≢true (subst (λ (m : ℕ). is_named false m 0 ≡ true) (sym (ap mask_of count) ∙ is) (names-first n some few))

      level-fits : (i : ℕ) (d : Level) → i < 1 → FitsLevel false (get_or says.levels i d)
      level-fits zero d lt = record {
        mask = subst (λ (m : ℕ). mask_of m < 2 ^ 16) (sym count) (mask-fits n few);
        size = omega (arith, size, short);
      }
      level-fits (suc i) d lt = absurd (omega (arith, lt))
