-- Retransmissions and their originals.
use Rattle.std.proofs.Common.{◌≡◌, ◌↔◌, ℕ, zero, suc, ◌<◌, ◌^◌, ◌==◌, Bool, true, false, cond, List, [], ◌∷◌, ◌++◌, length, Option, Some, None, Result, Ok, Err, refl, sym, ap, ◌∙◌, subst, arith}
use Rattle.std.specs.Prelude.{IfOk, OnOk, IsErrOf}
use Rattle.std.specs.Int.{w16, to_be_bytes, from_be_bytes}
use Rattle.std.specs.List.{find, Any, slice_index_or}
use Rattle.std.specs.Option.{option_map}
use Rattle.std.proofs.lemmas.Bool.{eqb-true, eqb-false}
use Rattle.std.proofs.lemmas.Nat.{be_bytes_2, from_be_bytes-to_be_bytes_2}
use Rattle.std.proofs.lemmas.Option.{none-some, some_pair_parts}
use Rattle.vrx_rtp.specs.Packet.{Packet}
use Rattle.vrx_num.specs.Octets.{AreOctets}
use Rattle.vrx_rtp.specs.View.{view}
use Rattle.vrx_rtp.specs.declared.rtp_view.RtpView.{RtpView}
use Rattle.vrx_wrap.specs.declared.rtx.RtxFault.{RtxFault}
use Rattle.vrx_wrap.specs.declared.rtx.RtxFault.TheVariants.{NoApt, RtxEmpty}
use Rattle.vrx_wrap.specs.Rtx.{Apt, IsRtxType, original_type, number_at, rtx_payload, IsOriginal, packet_as, original_with, original_typed, original_of}
use Rattle.vrx_wrap.specs.View.{view_original}

-- ---- the type that a type of retransmissions stands for

abbrev has : ℕ → List (ℕ × ℕ) → Type 0
has pt pairs = Any (λ pair. pair.0 ≡ pt) pairs

abbrev type_in : ℕ → List (ℕ × ℕ) → Option ℕ
type_in pt pairs = option_map (λ pair. pair.1) (find (λ pair. pair.0 == pt) pairs)

-- a type that was found is one of a pair
has-first : (pt t : ℕ) (pair : ℕ × ℕ) (pairs : List (ℕ × ℕ)) (b : Bool) → (pair.0 == pt) ≡ b
    → (type_in pt pairs ≡ Some t → has pt pairs)
    → option_map (λ x. x.1) (cond b (Some pair) (find (λ x. x.0 == pt) pairs)) ≡ Some t → has pt (pair ∷ pairs)
has-first pt t pair pairs true is later some = (0, pair, omega arith, refl, eqb-true _ _ is)
has-first pt t pair pairs false is later some =
    let found = later some in (suc found.0, found.1, omega arith, found.3, found.4)

has-found : (pt t : ℕ) (pairs : List (ℕ × ℕ)) → type_in pt pairs ≡ Some t → has pt pairs
has-found pt t [] some = absurd (none-some t some)
has-found pt t (pair ∷ pairs) some = has-first pt t pair pairs (pair.0 == pt) refl (has-found pt t pairs) some

-- if none was found, no pair has it
lacks-first : (pt : ℕ) (pair : ℕ × ℕ) (pairs : List (ℕ × ℕ)) (b : Bool) → (pair.0 == pt) ≡ b
    → (type_in pt pairs ≡ None → has pt pairs → ⊥)
    → option_map (λ x. x.1) (cond b (Some pair) (find (λ x. x.0 == pt) pairs)) ≡ None
    → (k : ℕ) (x : ℕ × ℕ) → k < suc (length pairs) → slice_index_or (pair ∷ pairs) k x ≡ x → x.0 ≡ pt → ⊥
lacks-first pt pair pairs true is later none k x within at same = absurd cc
lacks-first pt pair pairs false is later none zero x within at same =
    absurd (eqb-false _ _ is (ap (λ (y : ℕ × ℕ). y.0) at ∙ same))
lacks-first pt pair pairs false is later none (suc k) x within at same = later none (k, x, omega arith, at, same)

lacks-found : (pt : ℕ) (pairs : List (ℕ × ℕ)) → type_in pt pairs ≡ None → has pt pairs → ⊥
lacks-found pt [] none found = absurd (omega arith)
lacks-found pt (pair ∷ pairs) none found =
    lacks-first pt pair pairs (pair.0 == pt) refl (lacks-found pt pairs) none found.0 found.1 found.2 found.3 found.4

-- ---- when there is no original

-- an original that is cut off isn't of an unknown type, and its payload is short
with-no_apt : (apt : Apt) (p : Packet) (pt : ℕ) (found : Option (ℕ × List ℕ))
    → original_with apt p pt found ≡ Err NoApt → ⊥
with-no_apt apt p pt None e = absurd cc
with-no_apt apt p pt (Some x) e = absurd cc

with-empty : (apt : Apt) (p : Packet) (pt : ℕ) (found : Option (ℕ × List ℕ))
    → original_with apt p pt found ≡ Err RtxEmpty → found ≡ None
with-empty apt p pt None e = refl
with-empty apt p pt (Some x) e = absurd cc

none-short : (payload : List ℕ) → number_at payload ≡ None → length payload < 2
none-short [] none = omega arith
none-short (high ∷ []) none = omega arith
none-short (high ∷ low ∷ rest) none = absurd cc

short-none : (payload : List ℕ) → length payload < 2 → number_at payload ≡ None
short-none [] short = refl
short-none (high ∷ []) short = refl
short-none (high ∷ low ∷ rest) short = absurd (omega arith)

no_apt-typed : (apt : Apt) (p : Packet) (t : Option ℕ) → original_type apt p.pt ≡ t
    → (original_typed apt p t ≡ Err NoApt) ↔ (IsRtxType apt p.pt → ⊥)
no_apt-typed apt p None is = (λ e. lacks-found p.pt apt.pairs is, λ no. refl)
no_apt-typed apt p (Some pt) is = (
  λ e. absurd (with-no_apt apt p pt (number_at p.payload) e),
  λ no. absurd (no (has-found p.pt pt apt.pairs is)),
)

rtx_empty-typed : (apt : Apt) (p : Packet) (t : Option ℕ) → original_type apt p.pt ≡ t
    → (original_typed apt p t ≡ Err RtxEmpty) ↔ (IsRtxType apt p.pt × (length p.payload < 2))
rtx_empty-typed apt p None is = (λ e. absurd cc, λ has. absurd (lacks-found p.pt apt.pairs is has.0))
rtx_empty-typed apt p (Some pt) is = (
  λ e. (has-found p.pt pt apt.pairs is, none-short p.payload (with-empty apt p pt (number_at p.payload) e)),
  λ has. ap (original_with apt p pt) (short-none p.payload has.1),
)

-- each fault of a packet, exactly
pub no_apt-of : (apt : Apt) (p : Packet) → (original_of apt p ≡ Err NoApt) ↔ (IsRtxType apt p.pt → ⊥)
no_apt-of apt p = no_apt-typed apt p (original_type apt p.pt) refl

pub rtx_empty-of : (apt : Apt) (p : Packet)
    → (original_of apt p ≡ Err RtxEmpty) ↔ (IsRtxType apt p.pt × (length p.payload < 2))
rtx_empty-of apt p = rtx_empty-typed apt p (original_type apt p.pt) refl

-- the fault of what was read is that of the definition
err-read : (r : Result RtpView RtxFault) (f : RtxFault) → view_original r ≡ Err f → IsErrOf r f
err-read (Ok v) f e = absurd cc
err-read (Err g) f e = cc

pub no_apt-read : (apt : Apt) (p : Packet) (r : Result RtpView RtxFault) → view_original r ≡ original_of apt p
    → IsErrOf r NoApt ↔ (IsRtxType apt p.pt → ⊥)
no_apt-read apt p r reads =
    let exactly = no_apt-of apt p in
    (λ e. exactly.0 (sym reads ∙ ap view_original e), λ no. err-read r NoApt (reads ∙ exactly.1 no))

pub rtx_empty-read : (apt : Apt) (p : Packet) (r : Result RtpView RtxFault) → view_original r ≡ original_of apt p
    → IsErrOf r RtxEmpty ↔ (IsRtxType apt p.pt × (length p.payload < 2))
rtx_empty-read apt p r reads =
    let exactly = rtx_empty-of apt p in
    (λ e. exactly.0 (sym reads ∙ ap view_original e), λ has. err-read r RtxEmpty (reads ∙ exactly.1 has))

-- ---- the original

two_fit : (a b : ℕ) → a < 256 → b < 256 → (i : ℕ) → slice_index_or (a ∷ b ∷ []) i 0 < 256
two_fit a b a_fits b_fits zero = a_fits
two_fit a b a_fits b_fits (suc zero) = b_fits
two_fit a b a_fits b_fits (suc (suc i)) = omega arith

two_are : (a b : ℕ) → a < 256 → b < 256 → to_be_bytes w16 (from_be_bytes w16 (a ∷ b ∷ [])) ≡ a ∷ b ∷ []
two_are a b a_fits b_fits = be_bytes_2 (a ∷ b ∷ []) _ refl (two_fit a b a_fits b_fits) refl

-- the payload of a number and what is after it
parts-at : (payload : List ℕ) (seq : ℕ) (rest : List ℕ) → AreOctets payload
    → number_at payload ≡ Some (seq, rest) → (seq < 2 ^ 16) × (payload ≡ rtx_payload seq rest)
parts-at [] seq rest are e = absurd cc
parts-at (high ∷ []) seq rest are e = absurd cc
parts-at (high ∷ low ∷ octets) seq rest are e =
    let high_fits : high < 256 = are 0 0 (omega arith) in
    let low_fits : low < 256 = are 1 0 (omega arith) in
    let parts = some_pair_parts (from_be_bytes w16 (high ∷ low ∷ [])) seq octets rest e in
    let spelled : rtx_payload seq rest ≡ high ∷ low ∷ octets =
    ap (λ (n : ℕ). to_be_bytes w16 n ++ rest) (sym parts.0)
    ∙ ap (λ (t : List ℕ). t ++ rest) (two_are high low high_fits low_fits)
    ∙ ap (λ (t : List ℕ). high ∷ low ∷ t) (sym parts.1) in
    let fits : from_be_bytes w16 (high ∷ low ∷ []) < 2 ^ 16 = omega arith in (
      subst (λ (n : ℕ). n < 2 ^ 16) parts.0 fits,
      sym spelled,
    )

at-rtx_payload : (seq : ℕ) (payload : List ℕ) → seq < 2 ^ 16 →
    number_at (rtx_payload seq payload) ≡ Some (seq, payload)
at-rtx_payload seq payload fits = ap (λ (n : ℕ). Some (n, payload)) (from_be_bytes-to_be_bytes_2 seq fits)

abbrev read_as : Packet → Result Packet RtxFault
read_as p = Ok p

read-same : (p o : Packet) → read_as p ≡ read_as o → p ≡ o
read-same p o e = cc

original-with : (apt : Apt) (rtx o : Packet) (pt : ℕ) (found : Option (ℕ × List ℕ))
    → original_type apt rtx.pt ≡ Some pt → number_at rtx.payload ≡ found → AreOctets rtx.payload
    → original_with apt rtx pt found ≡ Ok o → IsOriginal apt rtx o
original-with apt rtx o pt None type is are e = absurd cc
original-with apt rtx o pt (Some (seq, payload)) type is are e =
    let spelled = parts-at rtx.payload seq payload are is in
    subst (λ (x : Packet). IsOriginal apt rtx x) (read-same (packet_as rtx pt seq apt.media_ssrc payload) o e)
    (record {
      type_of = type;
      source = refl;
      number = spelled.0;
      payload = spelled.1;
      marker = refl;
      ts = refl;
      csrc = refl;
      extension = refl;
      padding = refl;
    })

original-typed : (apt : Apt) (rtx o : Packet) (t : Option ℕ) → original_type apt rtx.pt ≡ t → AreOctets rtx.payload
    → original_typed apt rtx t ≡ Ok o → IsOriginal apt rtx o
original-typed apt rtx o None type are e = absurd cc
original-typed apt rtx o (Some pt) type are e = original-with apt rtx o pt (number_at rtx.payload) type refl are e

pub original-of : (apt : Apt) (rtx o : Packet) → AreOctets rtx.payload
    → original_of apt rtx ≡ Ok o → IsOriginal apt rtx o
original-of apt rtx o are e = original-typed apt rtx o (original_type apt rtx.pt) refl are e

-- a packet with its own fields is the packet
same_packet : (rtx o : Packet) (ssrc : ℕ)
    → o.ssrc ≡ ssrc → o.marker ≡ rtx.marker → o.ts ≡ rtx.ts → o.csrc ≡ rtx.csrc → o.extension ≡ rtx.extension →
    o.padding ≡ 0
    → packet_as rtx o.pt o.seq ssrc o.payload ≡ o
same_packet rtx o ssrc source marker ts csrc extension padding =
    rw (← source, ← marker, ← ts, ← csrc, ← extension, ← padding) refl

pub of-original : (apt : Apt) (rtx o : Packet) → IsOriginal apt rtx o → original_of apt rtx ≡ Ok o
of-original apt rtx o is =
    ap (original_typed apt rtx) is.type_of
    ∙ ap (original_with apt rtx o.pt) (ap number_at is.payload ∙ at-rtx_payload o.seq o.payload is.number)
    ∙ ap read_as (same_packet rtx o apt.media_ssrc is.source is.marker is.ts is.csrc is.extension is.padding)

pub original-read : (apt : Apt) (p : Packet) (r : Result RtpView RtxFault) → OnOk r (AreOctets p.payload)
    → view_original r ≡ original_of apt p → IfOk r (λ v. IsOriginal apt p (view v))
original-read apt p (Ok v) are reads = original-of apt p (view v) are (sym reads)
original-read apt p (Err e) are reads = tt
