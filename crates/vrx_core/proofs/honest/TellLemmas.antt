-- What the places that packets told are, in an honest call: those of the sender's frames.
use Rattle.std.proofs.Common.{◌≡◌, ℕ, ◌+◌, List, slice_get, Contains, Some, IsSomeAnd}
use Rattle.vrx_codec.specs.declared.run.Place.{Place}
use Rattle.vrx_window.specs.Sound.{on_wire}
use Rattle.vrx_core.specs.machine.Told.{Told}
use Rattle.vrx_core.specs.honest.Sender.{Sender, IsOf}
use Rattle.vrx_core.specs.honest.Layers.{layers_at}
use Rattle.vrx_core.specs.honest.Ready.{IsNumber}
use Rattle.vrx_core.proofs.honest.KeepsLemmas.{Came}

-- the receiver knows this place of frame f: its picture is f and one constant, which may be below nothing, so that each
-- side has a summand; and the place is the sender's, up to that constant
pub record IsPlaceOf (sender : Sender) (up down f : ℕ) (place : Place) : Type 0 where
  pub sent : Place
  pub sent_is : layers_at sender.frames f ≡ Some sent
  pub picture : place.picture + down ≡ f + up
  pub same : on_wire place ≡ on_wire sent

-- a number told the place of a frame of which a packet came under it
pub record TellsFrame (sender : Sender) (js : List ℕ) (rep : ℕ → Type 0) (up down : ℕ) (entry : ℕ × Place)
    : Type 0 where
  pub i : ℕ
  pub came : Came js rep i entry.0
  pub numbered : IsNumber sender js i entry.0
  pub f : ℕ
  pub of_frame : IsSomeAnd (slice_get sender.packets i) (IsOf f)
  pub place_is : IsPlaceOf sender up down f entry.1

-- After these packets were taken, and these numbers repaired, the places told are those of the frames of which packets
-- came, and each packet that came of a frame with layers told it.
pub record ToldRightly (sender : Sender) (js : List ℕ) (rep : ℕ → Type 0) (told : Told) : Type 0 where
  pub up : ℕ
  pub down : ℕ
  pub each : (entry : ℕ × Place) → Contains told entry → TellsFrame sender js rep up down entry
  pub all : (i n f : ℕ) (sent : Place) → Came js rep i n → IsNumber sender js i n →
      IsSomeAnd (slice_get sender.packets i) (IsOf f) → layers_at sender.frames f ≡ Some sent →
      (place : Place) × Contains told (n, place)
