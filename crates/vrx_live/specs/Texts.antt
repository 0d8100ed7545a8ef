-- The texts of calls.
use Rattle.std.specs.Prelude.{ℕ, List, [], ◌∷◌}
use Rattle.vrx_codec.specs.Meaning.{Meaning}
use Rattle.vrx_core.specs.declared.event.Event.{Event}
use Rattle.vrx_core.specs.declared.settings.Settings.{Settings}
use Rattle.vrx_core.specs.machine.Machine.{reply}
use Rattle.vrx_text.specs.Transcript.{text_of}
use Rattle.vrx_live.specs.Calls.{Call}

-- the texts of the machine's replies to calls that follow a history, in order, each with the number of its line
abbrev pub texts_from : Settings → Meaning → List Event → List Call → List (ℕ × List ℕ)
texts_from settings codec h [] = []
texts_from settings codec h (call ∷ calls) =
    (call.0, text_of call.0 (reply settings codec h call.1.event)) ∷ texts_from settings codec (call.1.event ∷ h) calls
