-- What holds of FEC payloads (RFC 5109 7 to 9), as statements.
use Rattle.std.specs.Prelude.{◌≡◌, ◌↔◌, ℕ, ◌-◌, List, ◌∷◌, length, Ok, IsPermutation}
use Rattle.vrx_num.specs.Octets.{AreOctets}
use Rattle.vrx_fec.specs.declared.parity.TheConstants.{HEADER}
use Rattle.vrx_fec.specs.Payload.{Payload, IsPayload}
use Rattle.vrx_fec.specs.Reading.{reading}
use Rattle.vrx_fec.specs.Parity.{Texts, IsParity, IsTrue}
use Rattle.vrx_fec.specs.Rebuilt.{HasSize, IsOf, IsRebuildable, Sums, rebuilt, rebuilt_length}

-- reading gives a payload exactly if the octets are that payload
abbrev pub ReadsPayloads : Type 0
ReadsPayloads = (octets : List ℕ) (own : ℕ) (p : Payload) → AreOctets octets →
    (reading octets own ≡ Ok p) ↔ IsPayload octets own p

-- The length rebuilt from true parity and the other texts is that of the text that is missing, whatever the others'
-- are.
abbrev pub RebuildsLength : Type 0
RebuildsLength = (p : Payload) (others : Texts) (offset : ℕ) (text : List ℕ) →
    IsTrue p ((offset, text) ∷ others) → HasSize text → rebuilt_length p others ≡ length text - HEADER

-- True parity and the other texts give the text that is missing, if it can be rebuilt.
abbrev pub Rebuilds : Type 0
Rebuilds = (p : Payload) (others : Texts) (offset : ℕ) (text : List ℕ) (ssrc : ℕ) →
    IsRebuildable p others offset ssrc text → rebuilt p others offset ssrc ≡ Ok text

-- The texts may stand in any order: what is the parity of them, what is true for them, what a register of them has,
-- and what is rebuilt from them stays.
abbrev pub KeepsParity : Type 0
KeepsParity = (p : Payload) (texts turned : Texts) → IsPermutation texts turned → IsParity p texts → IsParity p turned

abbrev pub KeepsTruth : Type 0
KeepsTruth = (p : Payload) (texts turned : Texts) → IsPermutation texts turned → IsTrue p texts → IsTrue p turned

abbrev pub KeepsSums : Type 0
KeepsSums = (sums : Sums) (p : Payload) (texts turned : Texts) → IsPermutation texts turned → IsOf sums p texts →
    IsOf sums p turned

abbrev pub KeepsRebuilt : Type 0
KeepsRebuilt = (p : Payload) (texts turned : Texts) (missing ssrc : ℕ) → IsPermutation texts turned →
    rebuilt p turned missing ssrc ≡ rebuilt p texts missing ssrc
