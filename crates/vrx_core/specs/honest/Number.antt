-- By which numbers the receiver knows a sender's packets, and which of them came.
use Rattle.std.specs.Prelude.{◌≡◌, ◌⊎◌, ℕ, ◌+◌, List, [], ◌∷◌, slice_get, Contains, IsSomeAnd}
use Rattle.vrx_codec.specs.Meaning.{Meaning}
use Rattle.vrx_core.specs.machine.Machine.{Snapshot, snapshots}
use Rattle.vrx_core.specs.honest.Sender.{IsOf, Sender, Spans, wire_of}
use Rattle.vrx_core.specs.honest.Taken.{Origin, packets_taken}
use Rattle.vrx_core.specs.declared.settings.Settings.{Settings}
use Rattle.vrx_core.specs.declared.event.Event.{Event}

-- the receiver knows packet i by the number n: its numbers are the sender's and one constant, which the first packet
-- taken fixes (its number is its wire number and 65,536). The packets taken stand the newest first
abbrev pub IsNumber : Sender → List ℕ → ℕ → ℕ → Type 0
IsNumber sender [] i n = ⊥
IsNumber sender (first ∷ []) i n = n + first ≡ (wire_of sender first + 65536) + i
IsNumber sender (j ∷ k ∷ js) i n = IsNumber sender (k ∷ js) i n

-- the receiver knows the packets of frame f by the numbers from the first to the last
pub record HasNumbers (sender : Sender) (js : List ℕ) (f first last : ℕ) : Type 0 where
  pub from : ℕ
  pub to : ℕ
  pub spans : Spans sender f from to
  pub first_is : IsNumber sender js from first
  pub last_is : IsNumber sender js to last

-- the number n is that of a part of frame f
abbrev pub IsOfFrame : Sender → List ℕ → (n f : ℕ) → Type 0
IsOfFrame sender js n f = (i : ℕ) × IsNumber sender js i n × IsSomeAnd (slice_get sender.packets i) (IsOf f)

-- the number n was repaired, by an event (RFC 5109 9)
abbrev pub IsRepaired : List Snapshot → ℕ → Type 0
IsRepaired [] n = ⊥
IsRepaired (s ∷ past) n = Contains s.repaired n ⊎ IsRepaired past n

-- packet i was taken, or the number by which the receiver knows it was repaired, by an event of a history
abbrev pub HasCome : Settings → Meaning → Sender → List Event → List Origin → ℕ → Type 0
HasCome settings codec sender h origins i = Contains (packets_taken settings codec h origins) i
    ⊎ ((n : ℕ) × IsNumber sender (packets_taken settings codec h origins) i n
    × IsRepaired (snapshots settings codec h) n)

-- a packet of frame f has come
abbrev pub SomeHasCome : Settings → Meaning → Sender → List Event → List Origin → ℕ → Type 0
SomeHasCome settings codec sender h origins f = (i : ℕ) × HasCome settings codec sender h origins i
    × IsSomeAnd (slice_get sender.packets i) (IsOf f)
