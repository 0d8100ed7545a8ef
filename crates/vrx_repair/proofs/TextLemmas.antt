-- The sizes of texts.
use Rattle.std.proofs.Common.{◌≡◌, ℕ, zero, suc, ◌+◌, ◌<◌, ◌≤◌, Bool, true, false, cond, List, [], ◌∷◌, length, map, Some, None, Ok, Err, refl, sym, ◌∙◌, ap, arith, inl, inr}
use Rattle.std.specs.Prelude.{nat_lt}
use Rattle.std.specs.Result.{result_ok}
use Rattle.std.proofs.lemmas.Bool.{cases_lt, ltb-false}
use Rattle.std.proofs.lemmas.List.{length-append, length-map}
use Rattle.std.proofs.lemmas.Option.{none-some, same_Some}
use Rattle.vrx_num.specs.declared.limits.TheConstants.{MOST_OCTETS}
use Rattle.vrx_rtp.specs.Packet.{Packet}
use Rattle.vrx_rtp.specs.Reading.{read}
use Rattle.vrx_fec.specs.Mask.{numbers_from}
use Rattle.vrx_fec.specs.Parity.{Texts}
use Rattle.vrx_fec.specs.Payload.{Payload}
use Rattle.vrx_fec.specs.Rebuilt.{covered, rebuilt, rebuilt_header, rebuilt_length, rebuilt_octet, rebuilt_text}
use Rattle.vrx_fec.specs.declared.register.RecoverFault.TheVariants.{BadLength, NotCovered}

-- fewer octets than a header has don't read
short : (octets : List ℕ) → length octets < 12 → read octets ≡ None
short [] less = refl
short (a ∷ []) less = refl
short (a ∷ b ∷ []) less = refl
short (a ∷ b ∷ c ∷ []) less = refl
short (a ∷ b ∷ c ∷ d ∷ []) less = refl
short (a ∷ b ∷ c ∷ d ∷ e ∷ []) less = refl
short (a ∷ b ∷ c ∷ d ∷ e ∷ f ∷ []) less = refl
short (a ∷ b ∷ c ∷ d ∷ e ∷ f ∷ g ∷ []) less = refl
short (a ∷ b ∷ c ∷ d ∷ e ∷ f ∷ g ∷ h ∷ []) less = refl
short (a ∷ b ∷ c ∷ d ∷ e ∷ f ∷ g ∷ h ∷ i ∷ []) less = refl
short (a ∷ b ∷ c ∷ d ∷ e ∷ f ∷ g ∷ h ∷ i ∷ j ∷ []) less = refl
short (a ∷ b ∷ c ∷ d ∷ e ∷ f ∷ g ∷ h ∷ i ∷ j ∷ k ∷ []) less = refl
short (a ∷ b ∷ c ∷ d ∷ e ∷ f ∷ g ∷ h ∷ i ∷ j ∷ k ∷ l ∷ rest) less = absurd (omega arith)

pub read-long : (octets : List ℕ) (packet : Packet) → read octets ≡ Some packet → 12 ≤ length octets
read-long octets packet is = elim (cases_lt (length octets) 12) [
  | inl less ↦ absurd (none-some packet (sym (short octets less) ∙ is))
  | inr more ↦ more
]

length-numbers : (count first : ℕ) → length (numbers_from first count) ≡ count
length-numbers zero first = refl
length-numbers (suc count) first = ap suc (length-numbers count (first + 1))

-- what is rebuilt isn't too long
rebuilt-long : (p : Payload) (others : Texts) (missing ssrc : ℕ) →
    length (rebuilt_text p others missing ssrc) ≡ 12 + rebuilt_length p others
rebuilt-long p others missing ssrc =
    length-append (rebuilt_header p others missing ssrc) (map (rebuilt_octet p others) (numbers_from 0 (rebuilt_length p others)))
    ∙ ap (λ n. 12 + n) (length-map (numbers_from 0 (rebuilt_length p others)) (rebuilt_octet p others)
    ∙ length-numbers (rebuilt_length p others) 0)

pub rebuilt-short : (p : Payload) (others : Texts) (missing ssrc : ℕ) (text : List ℕ) →
    result_ok (rebuilt p others missing ssrc) ≡ Some text → length text ≤ MOST_OCTETS
rebuilt-short p others missing ssrc text is =
    by_tests (nat_lt 9204 (rebuilt_length p others)) (nat_lt (covered p missing) (rebuilt_length p others)) refl is where
      by_tests : (a b : Bool) → nat_lt 9204 (rebuilt_length p others) ≡ a
          → result_ok (cond a (Err BadLength) (cond b (Err NotCovered) (Ok (rebuilt_text p others missing ssrc)))) ≡ Some text
          → length text ≤ MOST_OCTETS
      by_tests true b long e = absurd (none-some text e)
      by_tests false true long e = absurd (none-some text e)
      by_tests false false long e =
          let same : rebuilt_text p others missing ssrc ≡ text = same_Some (rebuilt_text p others missing ssrc) text e in
          let few : rebuilt_length p others ≤ 9204 = ltb-false 9204 (rebuilt_length p others) long in
          let size : length (rebuilt_text p others missing ssrc) ≡ 12 + rebuilt_length p others =
          rebuilt-long p others missing ssrc in
          let equal : length (rebuilt_text p others missing ssrc) ≡ length text = ap length same in
          omega arith
