-- Replies worked by hand: their lines, computed.
use Rattle.std.proofs.Common.{◌≡◌, ℕ, List, [], ◌∷◌, ◌++◌, codes, None, Some, refl}
use Rattle.std.specs.Fmt.{digits}
use Rattle.hex.specs.Hex.{encode_with}
use Rattle.vrx_core.specs.machine.Machine.{ToDatagram, ToTick}
use Rattle.vrx_core.specs.declared.reply.What.TheVariants.{Fec}
use Rattle.vrx_capture.specs.declared.line.LineReason.TheVariants.{Hex}
use Rattle.vrx_text.specs.declared.transcript.ErrorReason.TheVariants.{Settings, Line}
use Rattle.vrx_text.specs.Transcript.{line_feed, text_of, error_line}

-- the octets of a NACK of the number 5 (RFC 4585 6.2.1), and those of a PLI (6.3.1)
abbrev nack : List ℕ
nack = 0x81 ∷ 0xcd ∷ 0 ∷ 3 ∷ 0 ∷ 0 ∷ 0 ∷ 0x0b ∷ 0 ∷ 0 ∷ 0 ∷ 0x0a ∷ 0 ∷ 5 ∷ 0 ∷ 0 ∷ []

abbrev pli : List ℕ
pli = 0x81 ∷ 0xce ∷ 0 ∷ 2 ∷ 0 ∷ 0 ∷ 0 ∷ 0x0b ∷ 0 ∷ 0 ∷ 0 ∷ 0x0a ∷ []

-- two repairs and both kinds of feedback
pub repaired : text_of 9
    (ToDatagram (record {
      what = Fec 70;
      repaired = 69 ∷ 65 ∷ [];
      feedback = record { nack = Some (record { items = nack }); pli = Some pli };
    })) ≡ codes "9 fec 70" ++ line_feed
    ++ codes "9 repaired 69" ++ line_feed ++ codes "9 repaired 65" ++ line_feed
    ++ codes "9 nack 81cd00030000000b0000000a00050000" ++ line_feed ++ codes "9 pli 81ce00020000000b0000000a"
    ++ line_feed
unfolding text_of digits encode_with
repaired = refl

pub quiet_tick : text_of 10 (ToTick (record { nack = None; pli = None })) ≡ codes "10 tick" ++ line_feed
unfolding text_of digits
quiet_tick = refl

pub tick_with_pli : text_of 10 (ToTick (record { nack = None; pli = Some pli })) ≡ codes "10 tick" ++ line_feed
    ++ codes "10 pli 81ce00020000000b0000000a" ++ line_feed
unfolding text_of digits encode_with
tick_with_pli = refl

-- the last lines of captures that aren't read to their end
pub bad_settings : error_line 1 Settings ≡ codes "error line 1 settings" ++ line_feed
unfolding error_line digits
bad_settings = refl

pub bad_digits : error_line 12 (Line Hex) ≡ codes "error line 12 hex" ++ line_feed
unfolding error_line digits
bad_digits = refl
