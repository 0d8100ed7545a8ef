-- What a datagram is taken as, or what becomes of it: the table of reasons.
use Rattle.std.specs.Prelude.{ℕ, List, Result, Ok, Err, ok_or}
use Rattle.vrx_num.specs.Extended.{extended_number}
use Rattle.vrx_codec.specs.Meaning.{Meaning}
use Rattle.vrx_window.specs.Content.{Content}
use Rattle.vrx_window.specs.Window.{Contents, would_of}
use Rattle.vrx_window.specs.declared.placing.Placing.{Placing}
use Rattle.vrx_window.specs.declared.placing.Placing.TheVariants as placings
use Rattle.vrx_core.specs.machine.Original.{original}
use Rattle.vrx_core.specs.declared.settings.Settings.{Settings}
use Rattle.vrx_core.specs.declared.original.NotTaken.{NotTaken}
use Rattle.vrx_core.specs.declared.original.NotTaken.TheVariants.{Refused}
use Rattle.vrx_core.specs.declared.reply.Reason.TheVariants.{TooFar, TooOld, Dead, Repeat}
use Rattle.vrx_num.specs.ResultChain.{◌>>=◌}

-- what becomes of a packet whose number the window knows so
abbrev pub if_fresh : {A : Type 0} → Placing → A → Result A NotTaken
if_fresh placings.TooOld taken = Err (Refused TooOld)
if_fresh placings.Dead taken = Err (Refused Dead)
if_fresh placings.Repeat taken = Err (Refused Repeat)
if_fresh placings.Fresh taken = Ok taken

-- the verdict on a datagram, after a history that left this window: what it is by itself; then its extended number
-- (RFC 3550 A.1), if it has one; then its place in the window. It is taken by its number and what it brings
abbrev pub verdict : Settings → Meaning → Contents Content → List ℕ → Result (ℕ × Content) NotTaken
verdict settings codec window octets = do
  packet ← original settings codec octets
  n ← ok_or (extended_number window.newest packet.wire) (Refused TooFar)
  if_fresh (would_of window n) (n, packet.content)
