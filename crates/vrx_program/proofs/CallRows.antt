-- The captures of two calls worked by hand, one of VP8 and one of H.264: they are honest, so the condition of the
-- program's law can be met.
use Rattle.std.proofs.Common.{◌≡◌, ◌+◌, ℕ, List, [], ◌∷◌, ◌++◌, codes, None, Ok, Result, refl, subst, sym}
use Rattle.std.specs.Prelude.{IsOkAnd}
use Rattle.vrx_core.specs.honest.HonestSender.{HonestSender}
use Rattle.vrx_core.specs.honest.HonestNetwork.{HonestNetwork}
use Rattle.vrx_core.specs.declared.event.Event.{Event}
use Rattle.vrx_capture.specs.declared.settings_line.CodecName.TheVariants.{Vp8}
use Rattle.vrx_text.specs.Transcript.{line_feed}
use Rattle.vrx_text.specs.declared.transcript.ErrorReason.{ErrorReason}
use Rattle.vrx_text.proofs.OnLiterals.{text_on_literals}
use Rattle.vrx_rows.proofs.WholeCallRows.{settings, sender, events, origins, sender-honest, network-honest}
use Rattle.vrx_rows.proofs.HonestH264Rows as h264_rows
use Rattle.vrx_program.specs.Replay.{Call, call_of, meaning_of, settings_of}
use Rattle.vrx_program.specs.HonestLines.{IsHonestCapture, events_of}

-- the call of VP8, with loss, a repair, packets sent again and layers
abbrev capture : List ℕ
capture =
    codes "vrx 1 codec=vp8 ssrc=0000000a pt=96 red=100 fec=101"
    ++ codes " rtxssrc=0000000c rtx=97 rtxred=98 from=0000000b" ++ line_feed
    ++ codes "d 0 80e4fffe000000000000000a6090e0ffff050000aa" ++ line_feed ++ codes "p 1" ++ line_feed
    ++ codes "d 2 80640001000000050000000a650000ffff0000001b00010009c0000000000100c0007707" ++ line_feed
    ++ codes "d 3 80e10007000000120000000c000090e08001056001cc" ++ line_feed
    ++ codes "d 4 80e00000000000120000000a90e08001056001cc" ++ line_feed ++ codes "p 5" ++ line_feed
    ++ codes "p 6" ++ line_feed ++ codes "p 7" ++ line_feed
    ++ codes "d 8 a0e20008000000240000000c00046090e08003060001ee0002" ++ line_feed
    ++ codes "d 9 80620009000000050000000c0002" ++ line_feed ++ codes "d 10 80c9000100000009" ++ line_feed
    ++ codes "t 108" ++ line_feed ++ codes "t 208" ++ line_feed ++ codes "t 308" ++ line_feed
    ++ codes "t 408" ++ line_feed ++ codes "t 508" ++ line_feed ++ codes "t 608" ++ line_feed
    ++ codes "t 708" ++ line_feed ++ codes "t 808" ++ line_feed ++ codes "t 908" ++ line_feed
    ++ codes "t 1008" ++ line_feed ++ codes "d 1009 80e000030000001b0000000a90e08002058001dd" ++ line_feed
    ++ codes "p 1010" ++ line_feed ++ codes "p 1011" ++ line_feed

-- its events stand on the lines from 2 on
abbrev numbered : ℕ → List Event → List (ℕ × Event)
numbered k [] = []
numbered k (e ∷ es) = (k, e) ∷ numbered (k + 1) es

abbrev call : Call
call = record { codec = Vp8; settings = settings; events = numbered 2 events; bad = None }

capture_reads : call_of capture ≡ Ok call
unfolding text_on_literals settings_of
capture_reads = refl

-- so the condition of the program's law is met
pub capture-honest : IsHonestCapture capture sender origins
capture-honest = subst (λ (read : Result Call ErrorReason). IsOkAnd read (λ told.
    HonestSender told.settings (meaning_of told.codec) sender
    × HonestNetwork told.settings (meaning_of told.codec) sender [] [] (events_of told) origins))
    (sym capture_reads) (sender-honest, network-honest)

-- the call of H.264
abbrev h264_capture : List ℕ
h264_capture = codes "vrx 1 codec=h264 ssrc=0000000a pt=96 from=0000000b" ++ line_feed
    ++ codes "d 0 80e00007000000000000000a7800026742000268ce000265b1" ++ line_feed
    ++ codes "d 1 80e00009000000090000000a7c41b3" ++ line_feed
    ++ codes "d 2 80e00009000000090000000a7c41b3" ++ line_feed
    ++ codes "d 3 80600008000000090000000a7c81b2" ++ line_feed
    ++ codes "p 4" ++ line_feed
    ++ codes "p 5" ++ line_feed
    ++ codes "d 6 80e0000b000000120000000a61b4" ++ line_feed
    ++ codes "p 7" ++ line_feed
    ++ codes "d 8 a060000a000000090000000a01" ++ line_feed
    ++ codes "p 9" ++ line_feed
    ++ codes "p 10" ++ line_feed

pub h264_capture-honest : IsHonestCapture h264_capture h264_rows.sender h264_rows.origins
unfolding text_on_literals settings_of
h264_capture-honest = (h264_rows.sender-honest, h264_rows.network-honest)
