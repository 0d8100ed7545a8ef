-- A replay, by the engine of its codec.
use Rattle.std.specs.Prelude.{ℕ, List}
use Rattle.vrx_vp8.specs.Descriptor.{vp8}
use Rattle.vrx_h264.specs.AccessUnit.{h264}
use Rattle.vrx_core.specs.relation.StandsFor.{StandsFor}
use Rattle.vrx_core.specs.declared.event.Event.{Event}
use Rattle.vrx_program.specs.Job.{Answering}
use Rattle.vrx_program.specs.Replay.{replaying}
use Rattle.vrx_program.specs.declared.replay.Replay.{Replay}
use Rattle.vrx_program.specs.declared.replay.Replay.TheVariants.{Vp8, H264}

-- what it does with each event
abbrev pub replaying_by : Replay → Answering
replaying_by (Vp8 engine _) = replaying engine.settings vp8
replaying_by (H264 engine _) = replaying engine.settings h264

-- it answered these events, the newest first: its engine stands for them
abbrev pub HasReplayed : Replay → List Event → Type 0
HasReplayed (Vp8 engine _) h = StandsFor vp8 engine h
HasReplayed (H264 engine _) h = StandsFor h264 engine h

-- how many events it answered
abbrev pub replayed_count : Replay → ℕ
replayed_count (Vp8 engine _) = engine.events
replayed_count (H264 engine _) = engine.events
