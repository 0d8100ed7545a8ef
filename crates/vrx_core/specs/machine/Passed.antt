-- What holds of the passed numbers.
use Rattle.std.specs.Prelude.{◌≡◌, ◌↔◌, ◌⊎◌, ℕ, ◌<◌, ◌≤◌, true, false, max, List, [], ◌∷◌, Option, Some, None, IfSome, IsSomeAnd}
use Rattle.vrx_codec.specs.Meaning.{Meaning}
use Rattle.vrx_window.specs.Window.{at}
use Rattle.vrx_frames.specs.Run.{Packets, is_passed}
use Rattle.vrx_frames.specs.Front.{is_no_media}
use Rattle.vrx_core.specs.machine.Machine.{Snapshot, latest, last_pulled, snapshots}
use Rattle.vrx_core.specs.declared.settings.Settings.{Settings}
use Rattle.vrx_core.specs.declared.event.Event.{Event}

-- a number that is passed stays passed after one event more, whatever the settings, the codec and the history
abbrev pub PassedStaysHolds : Type 0
PassedStaysHolds = (settings : Settings) (codec : Meaning) (h : List Event) (e : Event) (n : ℕ)
    → is_passed (latest (snapshots settings codec h)).front n ≡ true →
    is_passed (latest (snapshots settings codec (e ∷ h))).front n ≡ true

-- no number is passed before the first frame is pulled
abbrev pub NonePassedHolds : Type 0
NonePassedHolds = (settings : Settings) (codec : Meaning) (h : List Event) (n : ℕ)
    → (latest (snapshots settings codec h)).pulled ≡ [] →
    is_passed (latest (snapshots settings codec h)).front n ≡ false

-- the greater of the front, if there is one, and the last number pulled
abbrev pub greater_of : Option ℕ → ℕ → ℕ
greater_of None last = last
greater_of (Some front) last = max front last

-- each number after one number, up to another, is available and no media
abbrev pub IsOverNoMedia : Packets → (from to : ℕ) → Type 0
IsOverNoMedia packets from to =
    (m : ℕ) → from < m → m ≤ to → IsSomeAnd (at m packets) (λ content. is_no_media content ≡ true)

-- with this front before an event, and this last number pulled and these packets available after it: a number is
-- passed that is at most the greater of the two, or that is reached from there over available numbers that are no
-- media
abbrev pub IsReached : Option ℕ → ℕ → Packets → ℕ → Type 0
IsReached before last packets n = (n ≤ greater_of before last) ⊎ IsOverNoMedia packets (greater_of before last) n

-- once a frame was pulled, a number is passed after an event exactly if it is reached so, whatever the settings, the
-- codec and the history
abbrev pub PassedExactlyHolds : Type 0
PassedExactlyHolds = (settings : Settings) (codec : Meaning) (h : List Event) (e : Event) (n : ℕ)
    → let before : Snapshot = latest (snapshots settings codec h) in let after : Snapshot =
    latest (snapshots settings codec (e ∷ h)) in
    IfSome (last_pulled after.pulled)
    (λ last. (is_passed after.front n ≡ true) ↔ IsReached before.front last after.window.packets n)
