-- A small sender that meets what true repairs ask for: two packets of the source, and a FEC packet over both.
use Rattle.std.proofs.Common.{◌≡◌, ℕ, zero, suc, ◌+◌, ◌<◌, true, false, List, [], ◌∷◌, refl, sym, ◌∙◌, ap, subst, arith, inl, inr}
use Rattle.std.specs.Prelude.{nat_lt, Option, Some, None}
use Rattle.std.specs.List.{list_all}
use Rattle.std.proofs.lemmas.Bool.{and_parts, cases_eq, ltb-true}
use Rattle.std.proofs.lemmas.List.Elements.{All-cons, All-nil}
use Rattle.std.proofs.lemmas.List.Sorted.{IsPermutation-refl}
use Rattle.std.proofs.lemmas.Option.{none-some, same_Some}
use Rattle.vrx_num.specs.Octets.{AreOctets}
use Rattle.vrx_rtp.specs.Packet.{Packet}
use Rattle.vrx_fec.specs.Parity.{Texts, body_of, octet_at, recovery, spans_of, xor_of_fields, xor_of_octets}
use Rattle.vrx_fec.specs.Payload.{FitsLevel, IsPayload, Level, Payload}
use Rattle.vrx_codec.specs.Meaning.{Meaning}
use Rattle.vrx_window.specs.Content.{Content, Media, Fec, Empty}
use Rattle.vrx_window.specs.Window.{at}
use Rattle.vrx_repair.specs.Source.{Source, source_of}
use Rattle.vrx_repair.specs.Step.{Packets}
use Rattle.vrx_repair.specs.Truth.{IsRightMedia, IsRightParity, IsRightPayload, IsTextOf}
use Rattle.vrx_repair.proofs.MapLemmas.{at_first, at_later}

-- packets of the source 10 with timestamp 0 and of type 96: number 2 with 00bb, and 3 with 00cccd
abbrev text2 : List ℕ
text2 = 128 ∷ 96 ∷ 0 ∷ 2 ∷ 0 ∷ 0 ∷ 0 ∷ 0 ∷ 0 ∷ 0 ∷ 0 ∷ 10 ∷ 0 ∷ 187 ∷ []

abbrev text3 : List ℕ
text3 = 128 ∷ 96 ∷ 0 ∷ 3 ∷ 0 ∷ 0 ∷ 0 ∷ 0 ∷ 0 ∷ 0 ∷ 0 ∷ 10 ∷ 0 ∷ 204 ∷ 205 ∷ []

-- number 5, over both
abbrev head5 : List ℕ
head5 = 0 ∷ 0 ∷ 0 ∷ 2 ∷ 0 ∷ 0 ∷ 0 ∷ 0 ∷ 0 ∷ 1 ∷ []

abbrev fec5 : List ℕ
fec5 = 0 ∷ 0 ∷ 0 ∷ 2 ∷ 0 ∷ 0 ∷ 0 ∷ 0 ∷ 0 ∷ 1 ∷ 0 ∷ 3 ∷ 192 ∷ 0 ∷ 0 ∷ 119 ∷ 205 ∷ []

abbrev level5 : Level
level5 = record { mask = 49152; octets = 0 ∷ 119 ∷ 205 ∷ [] }

abbrev payload5 : Payload
payload5 = record { head = head5; long = false; base = 2; levels = level5 ∷ [] }

-- what was sent
abbrev sent : Packets
sent = (65538, Media text2) ∷ (65539, Media text3) ∷ (65541, Fec fec5) ∷ []

abbrev right : ℕ → Option Content
right n = at n sent

-- octets of a list whose members are tested
octets-below : (os : List ℕ) → list_all (λ o. nat_lt o 256) os ≡ true → AreOctets os
octets-below [] all = All-nil (λ o. o < 256)
octets-below (o ∷ os) all =
    let parts = and_parts (nat_lt o 256) (list_all (λ k. nat_lt k 256) os) all in
    All-cons (λ k. k < 256) o os (ltb-true o 256 parts.0) (octets-below os parts.1)

-- a text with nothing but its twelve octets and a payload
abbrev packet : ℕ → List ℕ → Packet
packet seq payload = record {
  marker = false;
  pt = 96;
  seq = seq;
  ts = 0;
  ssrc = 10;
  csrc = [];
  extension = None;
  payload = payload;
  padding = 0;
}

abbrev texts5 : Texts
texts5 = (0, text2) ∷ (1, text3) ∷ []

-- the parity of both, field by field and octet by octet
fields5 : (k : ℕ) → k < 8 → octet_at k (recovery head5) ≡ xor_of_fields k texts5
fields5 zero lt = refl
fields5 (suc zero) lt = refl
fields5 (suc (suc zero)) lt = refl
fields5 (suc (suc (suc zero))) lt = refl
fields5 (suc (suc (suc (suc zero)))) lt = refl
fields5 (suc (suc (suc (suc (suc zero))))) lt = refl
fields5 (suc (suc (suc (suc (suc (suc zero)))))) lt = refl
fields5 (suc (suc (suc (suc (suc (suc (suc zero))))))) lt = refl
fields5 (suc (suc (suc (suc (suc (suc (suc (suc k)))))))) lt = absurd (omega arith)

body5 : (k : ℕ) → k < 3 →
    octet_at k (body_of payload5.levels) ≡ xor_of_octets false (spans_of payload5.levels) k texts5
body5 zero lt = refl
body5 (suc zero) lt = refl
body5 (suc (suc zero)) lt = refl
body5 (suc (suc (suc k))) lt = absurd (omega arith)

-- the octets are that payload
is-payload5 : IsPayload fec5 5 payload5
is-payload5 = record {
  spelled = refl;
  head = refl;
  long = refl;
  base = refl;
  few = omega arith;
  fits = All-cons (FitsLevel false) level5 [] (record { mask = omega arith; size = omega arith }) (All-nil (FitsLevel false));
  nested = refl;
  protects = refl;
  before = refl;
}

-- and it is true for both, each under its number
is-right5 : IsRightPayload right 65541 fec5
is-right5 = record {
  says = payload5;
  base = 65538;
  texts = texts5;
  below = octets-below fec5 refl;
  spells = is-payload5;
  base_is = refl;
  before = omega arith;
  near = omega arith;
  true_is = record { protects = IsPermutation-refl (0 ∷ 1 ∷ []); parity = record { fields = fields5; body = body5 } };
  texts_right = All-cons at_base (0, text2) ((1, text3) ∷ []) refl (All-cons at_base (1, text3) [] refl (All-nil at_base));
} where
  at_base : ℕ × List ℕ → Type 0
  at_base t = right (65538 + t.0) ≡ Some (Media t.1)

module _ (codec : Meaning) where
  abbrev source : Source
  source = source_of codec 10 96

  -- each text is the source's
  is-text2 : IsTextOf source 65538 text2
  is-text2 = record {
    packet = packet 2 (0 ∷ 187 ∷ []);
    below = octets-below text2 refl;
    size = omega arith;
    reads = refl;
    number = refl;
    ssrc = refl;
  }

  is-text3 : IsTextOf source 65539 text3
  is-text3 = record {
    packet = packet 3 (0 ∷ 204 ∷ 205 ∷ []);
    below = octets-below text3 refl;
    size = omega arith;
    reads = refl;
    number = refl;
    ssrc = refl;
  }

  -- what is asked of a content under a number
  abbrev Asked : ℕ → Content → Type 0
  Asked n (Media text) = IsTextOf source n text
  Asked n (Fec payload) = IsRightPayload right n payload
  Asked n Empty = Unit {0}

  -- what is asked of each entry is asked of what stands under its number
  abbrev AllAsked : Packets → Type 0
  AllAsked [] = Unit {0}
  AllAsked (e ∷ es) = Asked e.0 e.1 × AllAsked es

  asked-at : (es : Packets) → AllAsked es → (n : ℕ) (x : Content) → at n es ≡ Some x → Asked n x
  asked-at [] all n x is = absurd (none-some x is)
  asked-at (e ∷ es) all n x is = elim (cases_eq n e.0) [
    | inl same ↦
        subst (λ k. Asked k x) (sym same)
        (subst (Asked e.0) (same_Some e.1 x (sym (at_first e es) ∙ ap (λ k. at k (e ∷ es)) (sym same) ∙ is)) all.0)
    | inr apart ↦ asked-at es all.1 n x (sym (at_later n e es apart) ∙ is)
  ]

  all-asked : AllAsked sent
  all-asked = (is-text2, (is-text3, (is-right5, tt)))

  -- so all that was sent is as asked
  right-media : IsRightMedia source right
  right-media n text is = asked-at sent all-asked n (Media text) is

  right-parity : IsRightParity right
  right-parity m payload is = asked-at sent all-asked m (Fec payload) is
