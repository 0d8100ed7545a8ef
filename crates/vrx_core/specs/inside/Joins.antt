-- The bytes that the packets of a run join to.
use Rattle.std.specs.Prelude.{◌≡◌, ℕ, ◌+◌, ◌-◌, ◌^◌, ◌<◌, ◌≤◌, true, List, length, Some, Result}
use Rattle.std.specs.Option.{option_map}
use Rattle.std.specs.Result.{result_ok}
use Rattle.vrx_num.specs.declared.limits.TheConstants.{WINDOW}
use Rattle.vrx_codec.specs.Meaning.{Meaning}
use Rattle.vrx_codec.specs.declared.fault.JoinFault.{JoinFault}
use Rattle.vrx_codec.specs.declared.run.Run.{Run as RunSummary}
use Rattle.vrx_window.specs.Content.{contents}
use Rattle.vrx_window.specs.Sound.{AreSound}
use Rattle.vrx_window.specs.Window.{at}
use Rattle.vrx_window.specs.declared.held.Held.{Held}
use Rattle.vrx_frames.specs.Run.{Packets}
use Rattle.vrx_frames.specs.Parts.{is_media, parts_from}

-- what the packets of the numbers from first to last join to
abbrev pub join_of : Meaning → Packets → (first last : ℕ) → Result (List ℕ) JoinFault
join_of codec packets first last = codec.join (parts_from codec packets first (last + 1 - first))

-- The packets of a run are sound held media, at most as many as the window has numbers, and join to as many octets as
-- the run says.
pub record IsJoinable (codec : Meaning) (packets : List (ℕ × Held)) (run : RunSummary) : Type 0 where
  pub sound : AreSound codec packets
  pub some : run.first ≤ run.last
  pub few : run.last < run.first + WINDOW
  pub low : run.last < 2 ^ 62
  pub media : (n : ℕ) → run.first ≤ n → n ≤ run.last → is_media (at n packets) ≡ true
  pub octets : option_map length (result_ok (join_of codec (contents packets) run.first run.last)) ≡ Some run.octets
