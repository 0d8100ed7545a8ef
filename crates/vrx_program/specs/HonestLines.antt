-- The lines of an honest call.
use Rattle.std.specs.Prelude.{◌≡◌, ◌⊎◌, ℕ, List, [], ◌∷◌, ◌++◌, map, Option, Ok, IsOkAnd}
use Rattle.vrx_core.specs.machine.Machine.{Reply, replies}
use Rattle.vrx_core.specs.honest.Sender.{Sender}
use Rattle.vrx_core.specs.honest.HonestSender.{HonestSender}
use Rattle.vrx_core.specs.honest.HonestNetwork.{Origin, HonestNetwork}
use Rattle.vrx_core.specs.honest.HonestCall.{HonestCall}
use Rattle.vrx_core.specs.declared.event.Event.{Event}
use Rattle.vrx_text.specs.Transcript.{text_of}
use Rattle.vrx_io.specs.Sink.{with_more}
use Rattle.vrx_program.specs.Replay.{Call, call_of, meaning_of}
use Rattle.vrx_program.specs.Outcome.{error_text}
use Rattle.vrx_program.specs.Ends.{TookPrefix}
use Rattle.vrx_program.specs.declared.status.Status.{Status}
use Rattle.vrx_program.specs.declared.status.Status.TheVariants.{Done, BadCapture}

-- the events of a call, up to the first bad line
abbrev pub events_of : Call → List Event
events_of call = map (λ line. line.1) call.events

-- a capture's datagrams are what an honest network took from this sender, up to the first bad line
abbrev pub IsHonestCapture : List ℕ → Sender → List Origin → Type 0
IsHonestCapture capture sender origins = IsOkAnd (call_of capture) (λ call.
    HonestSender call.settings (meaning_of call.codec) sender
    × HonestNetwork call.settings (meaning_of call.codec) sender [] [] (events_of call) origins)

-- the lines of replies, each with the number of its event's line
abbrev pub lines_text : List (ℕ × Event) → List Reply → List ℕ
lines_text [] replies = []
lines_text (line ∷ lines) [] = []
lines_text (line ∷ lines) (reply ∷ replies) = text_of line.0 reply ++ lines_text lines replies

-- the machine's replies to the events of a call
abbrev pub replies_of : Call → List Reply
replies_of call = replies call.settings (meaning_of call.codec) [] (events_of call)

-- the text of a call: the lines of the machine's replies, and then the error line, if a line is bad
abbrev pub call_text : Call → List ℕ
call_text call = lines_text call.events (replies_of call) ++ error_text call.bad

-- what the sink took in a replay that ended so is the lines of the machine's replies, and these are an honest call:
-- at its pulls the sender's frames, byte for byte, in order, each at most once, from a keyframe on, after all their
-- references, and notready exactly if no frame is ready; and a pli line with each event that gives up a packet, unless
-- a request for a keyframe is outstanding or a later keyframe answers the packet. It took all of the text if the run
-- was Done or met a bad line, else a part from the front
pub record HonestLines (capture : List ℕ) (sender : Sender) (origins : List Origin) (status : Status)
    (before after : Option (List ℕ)) : Type 0 where
  pub call : Call
  pub told : call_of capture ≡ Ok call
  pub honest : HonestCall call.settings (meaning_of call.codec) sender (events_of call) origins (replies_of call)
  pub took : TookPrefix before after (call_text call)
  pub whole : (status ≡ Done) ⊎ (status ≡ BadCapture) → after ≡ with_more before (call_text call)
