-- Which packets are available.
use Rattle.std.specs.Prelude.{◌≡◌, ◌↔◌, ◌⊎◌, ℕ, ◌+◌, ◌<◌, ◌≤◌, List, ◌∷◌, ◌++◌, Contains, Option, Some, Ok, IsSomeAnd}
use Rattle.vrx_num.specs.declared.limits.TheConstants.{WINDOW}
use Rattle.vrx_codec.specs.Meaning.{Meaning}
use Rattle.vrx_window.specs.Content.{Content}
use Rattle.vrx_window.specs.Window.{after_placing, at}
use Rattle.vrx_repair.specs.Plan.{repairs_in}
use Rattle.vrx_repair.specs.Step.{IsClosed}
use Rattle.vrx_core.specs.machine.Verdict.{verdict}
use Rattle.vrx_core.specs.machine.Machine.{Snapshot, latest, snapshots, source_in}
use Rattle.vrx_core.specs.declared.settings.Settings.{Settings}
use Rattle.vrx_core.specs.declared.event.Event.{Event}
use Rattle.vrx_core.specs.declared.event.Event.TheVariants.{Datagram}

-- in a history a datagram was taken under the number n, and brought this
pub record WasTaken (settings : Settings) (codec : Meaning) (h : List Event) (n : ℕ)
    (content : Content) : Type 0 where
  -- the events before the datagram, and those after it
  pub before : List Event
  pub moment : ℕ
  pub octets : List ℕ
  pub after : List Event
  pub history : h ≡ after ++ Datagram moment octets ∷ before
  pub taken : verdict settings codec (latest (snapshots settings codec before)).window octets ≡ Ok (n, content)

-- in a history a datagram was taken, and this was among the repairs of the window in which its packet was placed
-- (RFC 5109 9)
pub record WasRepaired (settings : Settings) (codec : Meaning) (h : List Event) (n : ℕ)
    (content : Content) : Type 0 where
  -- the events before the datagram, and those after it
  pub before : List Event
  pub moment : ℕ
  pub octets : List ℕ
  pub after : List Event
  pub history : h ≡ after ++ Datagram moment octets ∷ before
  -- the number under which the datagram was taken, and what it brought
  pub number : ℕ
  pub brought : Content
  pub taken : verdict settings codec (latest (snapshots settings codec before)).window octets ≡ Ok (number, brought)
  pub repaired : Contains (repairs_in (source_in settings codec)
      (after_placing number brought (latest (snapshots settings codec before)).window)) (n, content)

-- a number lies in the window after the newest number
abbrev pub IsInWindow : Option ℕ → ℕ → Type 0
IsInWindow newest n = IsSomeAnd newest (λ m. (m < n + WINDOW) × (n ≤ m))

-- a number is available with this content exactly if it was taken or repaired so and lies in the window, whatever the
-- settings, the codec and the history
abbrev pub AvailableHolds : Type 0
AvailableHolds = (settings : Settings) (codec : Meaning) (h : List Event) (n : ℕ) (content : Content)
    → (at n (latest (snapshots settings codec h)).window.packets ≡ Some content)
    ↔ ((WasTaken settings codec h n content ⊎ WasRepaired settings codec h n content)
    × IsInWindow (latest (snapshots settings codec h)).window.newest n)

-- no step is left after any event: the repairs are made to their end (RFC 5109 9)
abbrev pub ClosedHolds : Type 0
ClosedHolds = (settings : Settings) (codec : Meaning) (h : List Event) →
    let s : Snapshot = latest (snapshots settings codec h) in
    IsClosed (source_in settings codec) s.window.newest s.window.dead s.window.packets
