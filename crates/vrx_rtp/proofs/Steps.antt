-- Steps of a reading that may fail, and octets.
use Rattle.std.proofs.Common.{◌≡◌, ℕ, ◌+◌, ◌-◌, ◌<◌, ◌≤◌, Bool, true, false, cond, ltb, List, length, get_or, drop, Option, Some, None, Result, Ok, Err, refl, arith, inl, inr}
use Rattle.std.proofs.lemmas.Bool.{cases_lt, lt-ltb, le-ltb}
use Rattle.std.proofs.lemmas.List.{get_or_past, get_or-drop}
use Rattle.vrx_rtp.specs.declared.fault.RtpFault.{RtpFault}
use Rattle.vrx_rtp.specs.declared.reading.Header.{Header}
use Rattle.vrx_rtp.specs.Packet.{HeaderExtension, Packet}
use Rattle.vrx_num.specs.Octets.{AreOctets}
use Rattle.vrx_rtp.specs.Reading.{sources_at, extension_at, payload_at}
use Rattle.vrx_num.specs.ResultChain.{◌>>=◌}

-- the fault of a reading, if it has one
abbrev pub fault_of : {A : Type 0} → Result A RtpFault → Option RtpFault
fault_of (Ok x) = None
fault_of (Err e) = Some e

-- a reading that met no fault
abbrev pub done : {A : Type 0} → A → Result A RtpFault
done x = Ok x

-- the value of a step that met no fault
pub bind_ok : {A B : Type 0} (r : Result A RtpFault) (f : A → Result B RtpFault) (y : B) → (r >>= f) ≡ Ok y →
    (x : A) × (r ≡ Ok x) × (f x ≡ Ok y)
bind_ok (Ok x) f y e = (x, refl, e)
bind_ok (Err d) f y e = absurd cc

-- a test that met no fault
pub guard_ok : {A : Type 0} (b : Bool) (d : RtpFault) (x y : A) → cond b (Err d) (Ok x) ≡ Ok y → (b ≡ false) × (x ≡ y)
guard_ok true d x y e = absurd cc
guard_ok false d x y e = (refl, cc)

-- a test that passes if there is no fault
pub passes_ok : {A : Type 0} (b : Bool) (d : RtpFault) (x y : A) → cond b (Ok x) (Err d) ≡ Ok y → (b ≡ true) × (x ≡ y)
passes_ok true d x y e = (refl, cc)
passes_ok false d x y e = absurd cc

pub ok_is : {A : Type 0} (x y : A) → done x ≡ done y → x ≡ y
ok_is x y e = cc

-- two tests that agree
pub same_ltb : (a b c d : ℕ) → (a < b → c < d) → (b ≤ a → d ≤ c) → ltb a b ≡ ltb c d
same_ltb a b c d below above =
    elim (cases_lt a b) [
      | inl lt ↦ rw (lt-ltb a b lt, lt-ltb c d (below lt)) refl
      | inr le ↦ rw (le-ltb a b le, le-ltb c d (above le)) refl
    ]

-- each is an octet, and 0 stands past the end
abbrev pub IsBytes : List ℕ → Type 0
IsBytes bytes = (i : ℕ) → get_or bytes i 0 < 256

pub IsBytes-octets : (octets : List ℕ) → AreOctets octets → IsBytes octets
IsBytes-octets octets are i =
    elim (cases_lt i (length octets)) [
      | inl lt ↦ are i 0 lt
      | inr le ↦ rw (get_or_past octets i 0 le) (omega arith)
    ]

pub IsBytes-drop : (n : ℕ) (bytes : List ℕ) → IsBytes bytes → IsBytes (drop n bytes)
IsBytes-drop n bytes h i = rw get_or-drop (h (n + i))

-- the packet of these parts
abbrev pub made : Header → List ℕ → Option HeaderExtension → List ℕ × ℕ → Packet
made header csrc extension ended = record {
  marker = header.marker;
  pt = header.pt;
  seq = header.seq;
  ts = header.ts;
  ssrc = header.ssrc;
  csrc = csrc;
  extension = extension;
  payload = ended.0;
  padding = ended.1;
}

-- what is read after the extension, of so many octets in all
abbrev pub behind_extension : ℕ → Header → List ℕ → Option HeaderExtension × List ℕ → Result Packet RtpFault
behind_extension total header csrc found =
    payload_at header.padded (total - 1) found.1 >>= λ ended. Ok (made header csrc found.0 ended)

-- what is read after the sources
abbrev pub behind_sources : ℕ → Header → List ℕ × List ℕ → Result Packet RtpFault
behind_sources total header sources =
    extension_at header.extended (12 + length sources.0) sources.1 >>= behind_extension total header sources.0

-- what is read after the twelve octets
abbrev pub behind_header : ℕ → Header × List ℕ → Result Packet RtpFault
behind_header total front = sources_at front.0.sources front.1 >>= behind_sources total front.0
