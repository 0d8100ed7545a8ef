-- The words of a drill, and what it writes: a summary of the transcript of its capture.
use Rattle.std.specs.Prelude.{◌≡◌, ℕ, ◌+◌, ◌^◌, ◌<◌, ◌≤◌, Bool, true, false, if◌then◌else◌, List, [], ◌∷◌, ◌++◌, codes, length, Option, is_some}
use Rattle.std.specs.Fmt.{decimal}
use Rattle.vrx_io.specs.Sink.{with_more, TakesShortPrefix}
use Rattle.vrx_vp8.specs.Descriptor.{vp8}
use Rattle.vrx_core.specs.machine.Machine.{Reply, ToDatagram, ToTick, ToPull, replies}
use Rattle.vrx_core.specs.declared.reply.What.{What}
use Rattle.vrx_core.specs.declared.reply.What.TheVariants.{Media, Fec, Empty, Rtcp, Dropped}
use Rattle.vrx_core.specs.declared.reply.Pulled.TheVariants as pulls
use Rattle.vrx_text.specs.Transcript.{line_feed}
use Rattle.vrx_sender.specs.Drill.{drill_events}
use Rattle.vrx_sender.specs.Packets.{settings}
use Rattle.vrx_sender.specs.declared.drill.TheConstants.{MOST_FRAMES}
use Rattle.vrx_program.specs.declared.status.Status.{Status}
use Rattle.vrx_program.specs.declared.status.Status.TheVariants as statuses
use Rattle.vrx_program.specs.declared.summary.Summary.{Summary}

-- the words are drill SEED FRAMES: a number of 64 bits, and 1 to 10,000, both in decimal without leading zeros
pub record IsDrill (seed frames : ℕ) (words : List (List ℕ)) : Type 0 where
  pub are : words ≡ codes "drill" ∷ decimal seed ∷ decimal frames ∷ []
  pub seed_fits : seed < 2 ^ 64
  pub some : 1 ≤ frames
  pub few : frames ≤ MOST_FRAMES

-- a datagram has a line media, fec or empty if it is taken
abbrev pub was_taken : What → Bool
was_taken (Media n) = true
was_taken (Fec n) = true
was_taken (Empty n) = true
was_taken Rtcp = false
was_taken (Dropped reason) = false

-- no lines
abbrev pub nothing : Summary
nothing = record { datagrams = 0; taken = 0; repaired = 0; nacks = 0; plis = 0; frames = 0; octets = 0 }

-- which lines a reply has in the transcript, and how many octets its frame
abbrev pub tally : Reply → Summary
tally (ToDatagram handled) = record nothing {
  datagrams = 1;
  taken = if was_taken handled.what then 1 else 0;
  repaired = length handled.repaired;
  nacks = if is_some handled.feedback.nack then 1 else 0;
  plis = if is_some handled.feedback.pli then 1 else 0;
}
tally (ToTick feedback) = record nothing {
  nacks = if is_some feedback.nack then 1 else 0;
  plis = if is_some feedback.pli then 1 else 0;
}
tally (ToPull pulls.NotReady) = nothing
tally (ToPull (pulls.Frame frame)) = record nothing { frames = 1; octets = length frame.bytes }

-- the counts of both
abbrev pub plus : Summary → Summary → Summary
plus a b = record {
  datagrams = a.datagrams + b.datagrams;
  taken = a.taken + b.taken;
  repaired = a.repaired + b.repaired;
  nacks = a.nacks + b.nacks;
  plis = a.plis + b.plis;
  frames = a.frames + b.frames;
  octets = a.octets + b.octets;
}

-- the counts of replies
unfoldable pub summary_of : List Reply → Summary
summary_of [] = nothing
summary_of (r ∷ rs) = plus (tally r) (summary_of rs)

-- a line of the summary
abbrev pub summary_line : List ℕ → ℕ → List ℕ
summary_line word n = word ++ decimal n ++ line_feed

-- the summary: eight lines
abbrev pub summary_text : ℕ → ℕ → Summary → List ℕ
summary_text seed frames s =
    codes "drill " ++ decimal seed ++ codes " " ++ decimal frames ++ line_feed
    ++ summary_line (codes "datagrams ") s.datagrams ++ summary_line (codes "taken ") s.taken
    ++ summary_line (codes "repaired ") s.repaired ++ summary_line (codes "nacks ") s.nacks
    ++ summary_line (codes "plis ") s.plis ++ summary_line (codes "frames ") s.frames
    ++ summary_line (codes "octets ") s.octets

-- what a drill writes: the counts are those of the machine's replies to its events
unfoldable pub drill_text : ℕ → ℕ → List ℕ
drill_text seed frames = summary_text seed frames (summary_of (replies settings vp8 [] (drill_events seed frames)))

-- how a drill ends that writes this text: the sink took exactly the text; or a write failed, and it took a part from
-- the front and not all of it; or memory ran out, and it took nothing
abbrev pub DrillEnds : Status → List ℕ → Option (List ℕ) → Option (List ℕ) → Type 0
DrillEnds statuses.Done text before after = after ≡ with_more before text
DrillEnds statuses.WriteFault text before after = TakesShortPrefix before after text
DrillEnds statuses.NoMemory text before after = after ≡ before
DrillEnds statuses.BadUsage text before after = ⊥
DrillEnds statuses.BadCapture text before after = ⊥
DrillEnds statuses.ReadFault text before after = ⊥
