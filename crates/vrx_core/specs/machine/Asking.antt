-- What holds of requests, of numbers given up, and of requests for a keyframe (RFC 4585 6.2.1, 6.3.1).
use Rattle.std.specs.Prelude.{◌≡◌, ◌≢◌, ◌↔◌, ◌⊎◌, ℕ, ◌+◌, ◌<◌, ◌≤◌, true, false, List, [], ◌∷◌, ◌++◌, length, Contains, Ok, Any, All, IsSomeAnd}
use Rattle.vrx_num.specs.declared.limits.TheConstants.{KEY_REQUEST_WAIT, MOST_REQUESTS}
use Rattle.vrx_codec.specs.Meaning.{Meaning}
use Rattle.vrx_window.specs.Content.{Content}
use Rattle.vrx_window.specs.Window.{is_available}
use Rattle.vrx_frames.specs.Run.{is_passed}
use Rattle.vrx_core.specs.machine.Available.{IsInWindow}
use Rattle.vrx_core.specs.machine.GivenUp.{is_lost}
use Rattle.vrx_core.specs.machine.KeyRequest.{is_answered}
use Rattle.vrx_core.specs.machine.Machine.{Snapshot, latest, snapshots}
use Rattle.vrx_core.specs.machine.Request.{missing, requests}
use Rattle.vrx_core.specs.machine.Verdict.{verdict}
use Rattle.vrx_core.specs.declared.settings.Settings.{Settings}
use Rattle.vrx_core.specs.declared.event.Event.{Event}

-- a number is missing after these snapshots: it lies after the first number taken and before the newest, in the
-- window, and is not available, not passed and not given up
pub record IsMissing (past : List Snapshot) (n : ℕ) : Type 0 where
  pub after_first : IsSomeAnd (latest past).window.first (λ first. first < n)
  pub before_newest : IsSomeAnd (latest past).window.newest (λ newest. n < newest)
  pub inside : IsInWindow (latest past).window.newest n
  pub absent : is_available n (latest past).window.packets ≡ false
  pub not_passed : is_passed (latest past).front n ≡ false
  pub not_lost : is_lost past n ≡ false

-- the missing numbers are these
abbrev pub MissingHolds : Type 0
MissingHolds = (settings : Settings) (codec : Meaning) (h : List Event) (n : ℕ)
    → Contains (missing (snapshots settings codec h)) n ↔ IsMissing (snapshots settings codec h) n

-- no number is asked for more than ten times
abbrev pub FewRequestsHold : Type 0
FewRequestsHold = (settings : Settings) (codec : Meaning) (h : List Event) (n : ℕ) →
    length (requests (snapshots settings codec h) n) ≤ MOST_REQUESTS

-- of moments, the newest first, each is at least this much later than the one before it
abbrev pub AreApart : ℕ → List ℕ → Type 0
AreApart interval [] = Unit {0}
AreApart interval (later ∷ []) = Unit {0}
AreApart interval (later ∷ earlier ∷ more) = (earlier + interval ≤ later) × AreApart interval (earlier ∷ more)

-- two requests of a number lie at least the interval apart
abbrev pub RequestsApartHold : Type 0
RequestsApartHold = (settings : Settings) (codec : Meaning) (h : List Event) (n : ℕ) →
    AreApart settings.interval (requests (snapshots settings codec h) n)

-- what an event asks for is missing after it: it isn't available, not passed, and not given up
abbrev pub AskedAreMissingHolds : Type 0
AskedAreMissingHolds = (settings : Settings) (codec : Meaning) (h : List Event) (n : ℕ)
    → Contains (latest (snapshots settings codec h)).asked n → IsMissing (snapshots settings codec h) n

-- a number that was given up stays so after one event more, no datagram is taken under it, and no event repairs it
abbrev pub LostStaysHolds : Type 0
LostStaysHolds =
    (settings : Settings) (codec : Meaning) (h : List Event) (n : ℕ) → is_lost (snapshots settings codec h) n ≡ true
    → ((e : Event) → is_lost (snapshots settings codec (e ∷ h)) n ≡ true)
    × ((octets : List ℕ) (content : Content) →
    verdict settings codec (latest (snapshots settings codec h)).window octets ≢ Ok (n, content))
    × ((e : Event) → ¬ Contains (latest (snapshots settings codec (e ∷ h))).repaired n)

-- of two events that ask for a keyframe the later comes at least 300 ms after the earlier, unless a keyframe completed
-- after the earlier, up to the later
abbrev pub KeyRequestsApartHold : Type 0
KeyRequestsApartHold =
    (settings : Settings) (codec : Meaning) (h : List Event) (newer between older : List Snapshot) (s t : Snapshot)
    → snapshots settings codec h ≡ newer ++ s ∷ between ++ t ∷ older → s.key_asked ≡ true → t.key_asked ≡ true
    → (t.now + KEY_REQUEST_WAIT ≤ s.now) ⊎ Any (λ u. u.key_completed ≡ true) (s ∷ between)

-- a request for a keyframe is outstanding, at a moment, after these snapshots: one of them asked for it less than 300
-- ms before, and no keyframe completed after that
pub record IsOutstanding (now : ℕ) (past : List Snapshot) : Type 0 where
  pub newer : List Snapshot
  pub asking : Snapshot
  pub older : List Snapshot
  pub past_is : past ≡ newer ++ asking ∷ older
  pub asked : asking.key_asked ≡ true
  pub less : now < asking.now + KEY_REQUEST_WAIT
  pub none_completed : All (λ u. u.key_completed ≡ false) newer

-- a number that an event gives up brings a request for a keyframe with that event, unless a keyframe that begins beyond
-- the number stands or was pulled, or a request is outstanding, which no keyframe answers that completes with the event
abbrev pub LossesAskHold : Type 0
LossesAskHold = (settings : Settings) (codec : Meaning) (h : List Event) (e : Event) (n : ℕ)
    → let s : Snapshot = latest (snapshots settings codec (e ∷ h)) in
    Contains s.lost n → is_answered s n ≡ false
    → (s.key_asked ≡ true) ⊎ ((s.key_completed ≡ false) × IsOutstanding s.now (snapshots settings codec h))
