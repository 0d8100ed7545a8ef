-- The text of a transcript: the lines of the reply to each event, and each line ends with a line feed, which is 10.
use Rattle.std.specs.Prelude.{ℕ, Bool, true, false, List, [], ◌∷◌, ◌++◌, codes, Option, None, Some}
use Rattle.std.specs.List.{flat_map}
use Rattle.std.specs.Fmt.{decimal}
use Rattle.hex.specs.Hex.{encode_lower}
use Rattle.arrayvec.specs.ArrayVec.{ArrayVec}
use Rattle.vrx_rtcp.specs.declared.feedback.Feedback.{Feedback}
use Rattle.vrx_codec.specs.Meaning.{Meaning}
use Rattle.vrx_core.specs.machine.Machine.{Reply, ToDatagram, ToTick, ToPull, reply}
use Rattle.vrx_core.specs.declared.settings.Settings.{Settings}
use Rattle.vrx_core.specs.declared.event.Event.{Event}
use Rattle.vrx_core.specs.declared.reply.Reason.{Reason}
use Rattle.vrx_core.specs.declared.reply.Reason.TheVariants.{TooLong, BadRtcp, NotRtp, BadHeader, OtherSsrc, OtherType, NoApt, RtxEmpty, MoreBlocks, BadRed, BadFec, BadPart, TooFar, TooOld, Dead, Repeat}
use Rattle.vrx_core.specs.declared.reply.What.{What}
use Rattle.vrx_core.specs.declared.reply.What.TheVariants.{Media, Fec, Empty, Rtcp, Dropped}
use Rattle.vrx_core.specs.declared.reply.Frame.{Frame}
use Rattle.vrx_core.specs.declared.reply.Pulled.{Pulled}
use Rattle.vrx_core.specs.declared.reply.Pulled.TheVariants as pulls
use Rattle.vrx_core.specs.declared.reply.Handled.{Handled}
use Rattle.vrx_capture.specs.declared.line.LineReason.{LineReason}
use Rattle.vrx_capture.specs.declared.line.LineReason.TheVariants.{Lines, Long, Kind, Events, Moment, End, Hex}
use Rattle.vrx_text.specs.declared.transcript.ErrorReason.{ErrorReason}
use Rattle.vrx_text.specs.declared.transcript.ErrorReason.TheVariants.{Settings as OfSettings, Line}

abbrev pub line_feed : List ℕ
line_feed = 10 ∷ []

-- the word for a reason; BadPart has the codec's number of the fault after it
abbrev pub reason_text : Reason → List ℕ
reason_text TooLong = codes "TooLong"
reason_text BadRtcp = codes "BadRtcp"
reason_text NotRtp = codes "NotRtp"
reason_text BadHeader = codes "BadHeader"
reason_text OtherSsrc = codes "OtherSsrc"
reason_text OtherType = codes "OtherType"
reason_text NoApt = codes "NoApt"
reason_text RtxEmpty = codes "RtxEmpty"
reason_text MoreBlocks = codes "MoreBlocks"
reason_text BadRed = codes "BadRed"
reason_text BadFec = codes "BadFec"
reason_text (BadPart code) = codes "BadPart " ++ decimal code
reason_text TooFar = codes "TooFar"
reason_text TooOld = codes "TooOld"
reason_text Dead = codes "Dead"
reason_text Repeat = codes "Repeat"

-- the word for a kind of frame
abbrev pub kind_text : Bool → List ℕ
kind_text true = codes "key"
kind_text false = codes "delta"

-- K media N, K fec N, K empty N, K rtcp, or K drop REASON
abbrev pub what_text : ℕ → What → List ℕ
what_text k (Media n) = decimal k ++ codes " media " ++ decimal n ++ line_feed
what_text k (Fec n) = decimal k ++ codes " fec " ++ decimal n ++ line_feed
what_text k (Empty n) = decimal k ++ codes " empty " ++ decimal n ++ line_feed
what_text k Rtcp = decimal k ++ codes " rtcp" ++ line_feed
what_text k (Dropped reason) = decimal k ++ codes " drop " ++ reason_text reason ++ line_feed

-- K repaired N for each repaired number, in the order of the repairs
abbrev pub repaired_line : ℕ → ℕ → List ℕ
repaired_line k n = decimal k ++ codes " repaired " ++ decimal n ++ line_feed

abbrev pub repaired_text : ℕ → List ℕ → List ℕ
repaired_text k numbers = flat_map (λ n. repaired_line k n) numbers

-- K nack HEX if there is a NACK
abbrev pub nack_text : ℕ → Option (ArrayVec ℕ) → List ℕ
nack_text k None = []
nack_text k (Some nack) = decimal k ++ codes " nack " ++ encode_lower nack.items ++ line_feed

-- K pli HEX if there is a PLI
abbrev pub pli_text : ℕ → Option (List ℕ) → List ℕ
pli_text k None = []
pli_text k (Some pli) = decimal k ++ codes " pli " ++ encode_lower pli ++ line_feed

-- the lines of the feedback that is to be sent
abbrev pub feedback_text : ℕ → Feedback → List ℕ
feedback_text k feedback = nack_text k feedback.nack ++ pli_text k feedback.pli

-- FIRST LAST KIND TS HEX
abbrev pub frame_text : Frame → List ℕ
frame_text frame = decimal frame.first ++ codes " " ++ decimal frame.last ++ codes " " ++ kind_text frame.key
    ++ codes " " ++ decimal frame.ts ++ codes " " ++ encode_lower frame.bytes

-- what became of a datagram, what it repaired, and the feedback
abbrev pub handled_text : ℕ → Handled → List ℕ
handled_text k handled =
    what_text k handled.what ++ repaired_text k handled.repaired ++ feedback_text k handled.feedback

-- K tick, and the feedback
abbrev pub tick_text : ℕ → Feedback → List ℕ
tick_text k feedback = decimal k ++ codes " tick" ++ line_feed ++ feedback_text k feedback

-- K notready, or K frame and the frame
abbrev pub pulled_text : ℕ → Pulled → List ℕ
pulled_text k pulls.NotReady = decimal k ++ codes " notready" ++ line_feed
pulled_text k (pulls.Frame frame) = decimal k ++ codes " frame " ++ frame_text frame ++ line_feed

-- the lines of the reply to the event of line k
unfoldable pub text_of : ℕ → Reply → List ℕ
text_of k (ToDatagram handled) = handled_text k handled
text_of k (ToTick feedback) = tick_text k feedback
text_of k (ToPull pulled) = pulled_text k pulled

-- the word for why a line is bad
abbrev pub line_reason_text : LineReason → List ℕ
line_reason_text Lines = codes "lines"
line_reason_text Long = codes "long"
line_reason_text Kind = codes "kind"
line_reason_text Events = codes "events"
line_reason_text Moment = codes "moment"
line_reason_text End = codes "end"
line_reason_text Hex = codes "hex"

-- the word for why a capture is read no further
abbrev pub error_reason_text : ErrorReason → List ℕ
error_reason_text OfSettings = codes "settings"
error_reason_text (Line reason) = line_reason_text reason

-- the last line if line k is bad: error line K REASON
unfoldable pub error_line : ℕ → ErrorReason → List ℕ
error_line k reason = codes "error line " ++ decimal k ++ codes " " ++ error_reason_text reason ++ line_feed

-- the lines of the replies to events that follow a history, in order; each event stands with the number of its line
unfoldable pub transcript : Settings → Meaning → List Event → List (ℕ × Event) → List ℕ
transcript settings codec h [] = []
transcript settings codec h ((k, e) ∷ rest) =
    text_of k (reply settings codec h e) ++ transcript settings codec (e ∷ h) rest
