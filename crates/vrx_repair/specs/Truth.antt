-- What is rebuilt from true parity is right (RFC 5109 8, 9).
use Rattle.std.specs.Prelude.{◌≡◌, ℕ, ◌+◌, ◌%◌, ◌^◌, ◌<◌, ◌≤◌, List, length, All, Option, Some}
use Rattle.vrx_num.specs.Octets.{AreOctets}
use Rattle.vrx_num.specs.declared.limits.TheConstants.{HALF_SPACE}
use Rattle.vrx_rtp.specs.Packet.{Packet}
use Rattle.vrx_rtp.specs.Reading.{read}
use Rattle.vrx_fec.specs.Parity.{IsTrue, Texts}
use Rattle.vrx_fec.specs.Payload.{IsPayload, Payload}
use Rattle.vrx_window.specs.Content.{Content, Media, Fec}
use Rattle.vrx_repair.specs.Order.{StepsAreRight}
use Rattle.vrx_repair.specs.Source.{Source}

-- A text of the source under an extended number: octets, each below 256, that read as an RTP packet with the number's
-- low 16 bits and the source's SSRC (RFC 3550 5.1). Those after its first twelve are counted in 16 bits (RFC 5109 8.1).
pub record IsTextOf (source : Source) (n : ℕ) (text : List ℕ) : Type 0 where
  pub packet : Packet
  pub below : AreOctets text
  pub size : length text < 12 + 2 ^ 16
  pub reads : read text ≡ Some packet
  pub number : packet.seq ≡ n % 65536
  pub ssrc : packet.ssrc ≡ source.ssrc

-- each text that is right under a number is a text of the source under it
abbrev pub IsRightMedia : Source → (ℕ → Option Content) → Type 0
IsRightMedia source right = (n : ℕ) (text : List ℕ) → right n ≡ Some (Media text) → IsTextOf source n text

-- True parity of right texts: octets, each below 256, are the payload of the FEC packet of an extended number
-- (RFC 5109 7.3, 7.4). Its SN base has the low 16 bits of a number that isn't after the packet's own, and that is less
-- than half of the wire numbers before it. The payload is true for texts, and each text is right under the number at
-- its offset from there.
pub record IsRightPayload (right : ℕ → Option Content) (m : ℕ) (payload : List ℕ) : Type 0 where
  pub says : Payload
  pub base : ℕ
  pub texts : Texts
  pub below : AreOctets payload
  pub spells : IsPayload payload (m % 65536) says
  pub base_is : says.base ≡ base % 65536
  pub before : base ≤ m
  pub near : m < base + HALF_SPACE
  pub true_is : IsTrue says texts
  pub texts_right : All (λ t. right (base + t.0) ≡ Some (Media t.1)) texts

-- each FEC payload that is right under a number is true parity of right texts
abbrev pub IsRightParity : (ℕ → Option Content) → Type 0
IsRightParity right = (m : ℕ) (payload : List ℕ) → right m ≡ Some (Fec payload) → IsRightPayload right m payload

-- If each text that is right is the source's, and each FEC payload that is right is true parity of right texts, then
-- steps from right packets are right.
abbrev pub TrueRepairs : Type 0
TrueRepairs = (right : ℕ → Option Content) (source : Source) → IsRightMedia source right → IsRightParity right →
    (newest : Option ℕ) (dead : List ℕ) → StepsAreRight right source newest dead
