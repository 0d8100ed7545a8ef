-- What holds of the passed numbers.
use Rattle.std.proofs.Common.{◌≡◌, ◌↔◌, ℕ, zero, suc, ◌+◌, ◌<◌, ◌≤◌, ◌⊎◌, max, Bool, true, false, cond, List, [], ◌∷◌, Option, Some, None, IfSome, IsSomeAnd, Result, Ok, Err, refl, sym, ◌∙◌, ap, arith, inl, inr}
use Rattle.std.specs.Option.{option_map_or}
use Rattle.std.proofs.lemmas.Bool.{leb-true, le-leb, cases_lt, true≢false}
use Rattle.std.proofs.lemmas.Option.{none-some}
use Rattle.vrx_num.specs.declared.limits.TheConstants.{WINDOW}
use Rattle.vrx_codec.specs.Meaning.{Meaning}
use Rattle.vrx_window.specs.Content.{Content}
use Rattle.vrx_window.specs.Window.{Contents, at}
use Rattle.vrx_frames.specs.Front.{is_no_media, reach_from, front_after}
use Rattle.vrx_frames.specs.Run.{Packets, Run, is_passed}
use Rattle.vrx_repair.specs.Source.{Source}
use Rattle.vrx_core.specs.machine.Verdict.{verdict}
use Rattle.vrx_core.specs.machine.Machine.{Snapshot, latest, last_pulled, next_run, after_datagram, after_pull, snapshots, source_in}
use Rattle.vrx_core.specs.machine.Available.{IsInWindow}
use Rattle.vrx_core.specs.machine.Passed.{IsOverNoMedia, IsReached, PassedStaysHolds, NonePassedHolds, PassedExactlyHolds}
use Rattle.vrx_core.specs.declared.settings.Settings.{Settings}
use Rattle.vrx_core.specs.declared.event.Event.{Event}
use Rattle.vrx_core.specs.declared.event.Event.TheVariants.{Datagram, Tick, Pull}
use Rattle.vrx_core.specs.declared.original.NotTaken.{NotTaken}
use Rattle.vrx_core.proofs.machine.AvailableLemmas.{available-inside}

-- whether a number is available and no media
abbrev stands_over : Packets → ℕ → Bool
stands_over packets n = option_map_or is_no_media (at n packets) false

-- as the sentence says it
over-to : (o : Option Content) → option_map_or is_no_media o false ≡ true →
    IsSomeAnd o (λ content. is_no_media content ≡ true)
over-to None h = absurd (cc)
over-to (Some content) h = h

over-from : (o : Option Content) → IsSomeAnd o (λ content. is_no_media content ≡ true) →
    option_map_or is_no_media o false ≡ true
over-from None h = absurd h
over-from (Some content) h = h

-- what stands under a number over which the front goes on
over-there : (o : Option Content) → option_map_or is_no_media o false ≡ true →
    (content : Content) × (o ≡ Some content)
over-there None h = absurd (cc)
over-there (Some content) h = (content, refl)

-- one step
abbrev stepped : Bool → ℕ → ℕ → ℕ
stepped b further here = cond b further here

-- the number reached isn't below the one it is reached from
pub reach_from-from : (fuel from : ℕ) (packets : Packets) → from ≤ reach_from fuel from packets
reach_from-from zero from packets = omega arith
reach_from-from (suc fuel) from packets =
    by_step (stands_over packets (from + 1)) (reach_from-from fuel (from + 1) packets) where
      by_step : (b : Bool) → from + 1 ≤ reach_from fuel (from + 1) packets →
          from ≤ stepped b (reach_from fuel (from + 1) packets) from
      by_step true further = omega arith
      by_step false further = omega arith

-- all numbers on the way are available and no media
reach_from-over : (fuel from : ℕ) (packets : Packets) → IsOverNoMedia packets from (reach_from fuel from packets)
reach_from-over zero from packets = λ m above upto. absurd (omega (arith, above, upto))
reach_from-over (suc fuel) from packets =
    by_step (stands_over packets (from + 1)) refl (reach_from-over fuel (from + 1) packets) where
      further : stands_over packets (from + 1) ≡ true →
          IsOverNoMedia packets (from + 1) (reach_from fuel (from + 1) packets) → (m : ℕ) → from < m →
          m ≤ reach_from fuel (from + 1) packets → (from + 1 < m) ⊎ (m ≤ from + 1) →
          IsSomeAnd (at m packets) (λ content. is_no_media content ≡ true)
      further is rest m above upto (inl later) = rest m later upto
      further is rest m above upto (inr here) =
          let same : m ≡ from + 1 = omega (arith, above, here) in
          over-to (at m packets) (ap (stands_over packets) same ∙ is)

      by_step : (b : Bool) → stands_over packets (from + 1) ≡ b →
          IsOverNoMedia packets (from + 1) (reach_from fuel (from + 1) packets) →
          IsOverNoMedia packets from (stepped b (reach_from fuel (from + 1) packets) from)
      by_step true is rest m above upto = further is rest m above upto (cases_lt (from + 1) m)
      by_step false is rest m above upto = absurd (omega (arith, above, upto))

-- the steps are used up, or the next number is no such number
reach_from-ends : (fuel from : ℕ) (packets : Packets) →
    (reach_from fuel from packets ≡ from + fuel) ⊎ (stands_over packets (reach_from fuel from packets + 1) ≡ false)
reach_from-ends zero from packets = inl (omega arith)
reach_from-ends (suc fuel) from packets =
    by_step (stands_over packets (from + 1)) refl (reach_from-ends fuel (from + 1) packets) where
      by_step : (b : Bool) → stands_over packets (from + 1) ≡ b →
          (reach_from fuel (from + 1) packets ≡ from + 1 + fuel)
          ⊎ (stands_over packets (reach_from fuel (from + 1) packets + 1) ≡ false)
          → (stepped b (reach_from fuel (from + 1) packets) from ≡ from + suc fuel)
          ⊎ (stands_over packets (stepped b (reach_from fuel (from + 1) packets) from + 1) ≡ false)
      by_step true is (inl all) = inl (omega (arith, all))
      by_step true is (inr end) = inr end
      by_step false is end = inr is

-- what is available lies in the window
abbrev IsInside : Contents Content → Type 0
IsInside window = (n : ℕ) (content : Content) → at n window.packets ≡ Some content → IsInWindow window.newest n

-- of two numbers in one window the greater lies fewer than 2,048 above the lesser
apart-less : (newest : Option ℕ) (n m : ℕ) → IsInWindow newest n → IsInWindow newest m → m < n + WINDOW
apart-less None n m a b = absurd a
apart-less (Some k) n m a b = omega (arith, a.0, b.1)

-- in the window the steps aren't used up
reach_from-closed : (window : Contents Content) → IsInside window → (from : ℕ) →
    stands_over window.packets (reach_from WINDOW from window.packets + 1) ≡ false
reach_from-closed window inside from = by_end (reach_from-ends WINDOW from window.packets) where
  packets : Packets
  packets = window.packets

  stands : (n : ℕ) → stands_over window.packets n ≡ true → IsInWindow window.newest n
  stands n over = let c = over-there (at n window.packets) over in inside n c.0 c.1

  by_next : reach_from WINDOW from window.packets ≡ from + WINDOW → (b : Bool) →
      stands_over window.packets (reach_from WINDOW from window.packets + 1) ≡ b → b ≡ false
  by_next all false is = refl
  by_next all true is =
      let first : IsInWindow window.newest (from + 1) =
      stands (from + 1) (over-from (at (from + 1) window.packets)
      (reach_from-over WINDOW from window.packets (from + 1) (omega arith) (omega (arith, all)))) in
      let last : IsInWindow window.newest (reach_from WINDOW from window.packets + 1) =
      stands (reach_from WINDOW from window.packets + 1) is in
      absurd (omega (
        arith,
        all,
        apart-less window.newest (from + 1) (reach_from WINDOW from window.packets + 1) first last,
      ))

  by_end : (reach_from WINDOW from window.packets ≡ from + WINDOW)
      ⊎ (stands_over window.packets (reach_from WINDOW from window.packets + 1) ≡ false) →
      stands_over window.packets (reach_from WINDOW from window.packets + 1) ≡ false
  by_end (inl all) = by_next all (stands_over window.packets (reach_from WINDOW from window.packets + 1)) refl
  by_end (inr end) = end

-- the front isn't below the last number pulled, and the number after it isn't available no media
abbrev IsClosed : Packets → Option ℕ → ℕ → Type 0
IsClosed packets front last = IsSomeAnd front (λ f. (last ≤ f) × (stands_over packets (f + 1) ≡ false))

-- so it is after an event that moves it
closed_after : (window : Contents Content) → IsInside window → (before : Option ℕ) (last : ℕ) →
    IsClosed window.packets (front_after before (Some last) window.packets) last
closed_after window inside None last =
    (reach_from-from WINDOW last window.packets, reach_from-closed window inside last)
closed_after window inside (Some front) last =
    let further : max front last ≤ reach_from WINDOW (max front last) window.packets =
    reach_from-from WINDOW (max front last) window.packets in
    (omega arith, reach_from-closed window inside (max front last))

-- the same, if a frame was pulled
closed_any : (window : Contents Content) → IsInside window → (before pulled : Option ℕ) →
    IfSome pulled (λ last. IsClosed window.packets (front_after before pulled window.packets) last)
closed_any window inside before None = tt
closed_any window inside before (Some last) = closed_after window inside before last

-- the front of a snapshot
abbrev HasClosed : Snapshot → Type 0
HasClosed s = IfSome (last_pulled s.pulled) (λ last. IsClosed s.window.packets s.front last)

datagram_closed : (source : Source) (past : List Snapshot) (moment : ℕ) (v : Result (ℕ × Content) NotTaken) →
    IsInside (after_datagram source past moment v).window → HasClosed (latest past) →
    HasClosed (after_datagram source past moment v)
datagram_closed source past moment (Err left) inside closed = closed
datagram_closed source past moment (Ok (n, content)) inside closed = let s : Snapshot =
    latest past in closed_any (after_datagram source past moment (Ok (n, content))).window inside s.front (last_pulled s.pulled)

pull_closed : (codec : Meaning) (past : List Snapshot) (moment : ℕ) (o : Option Run) →
    IsInside (after_pull codec past moment o).window → HasClosed (latest past) →
    HasClosed (after_pull codec past moment o)
pull_closed codec past moment None inside closed = closed
pull_closed codec past moment (Some run) inside closed = let s : Snapshot =
    latest past in closed_after s.window inside s.front run.last

-- so it is after each history
has_closed : (settings : Settings) (codec : Meaning) (h : List Event) →
    HasClosed (latest (snapshots settings codec h))
unfolding snapshots
has_closed settings codec [] = tt
has_closed settings codec (Datagram moment octets ∷ h) =
    let past : List Snapshot = snapshots settings codec h in
    datagram_closed (source_in settings codec) past moment (verdict settings codec (latest past).window octets)
    (available-inside settings codec (Datagram moment octets ∷ h)) (has_closed settings codec h)
has_closed settings codec (Tick moment ∷ h) = has_closed settings codec h
has_closed settings codec (Pull moment ∷ h) =
    let past : List Snapshot = snapshots settings codec h in
    pull_closed codec past moment (next_run (latest past)) (available-inside settings codec (Pull moment ∷ h))
    (has_closed settings codec h)

-- the passed numbers, of a front that is closed and reached over no media
front_is : (packets : Packets) (from f n : ℕ) → from ≤ f → IsOverNoMedia packets from f →
    stands_over packets (f + 1) ≡ false → (is_passed (Some f) n ≡ true) ↔ ((n ≤ from) ⊎ IsOverNoMedia packets from n)
front_is packets from f n further over closed = (to, from_reached) where
  to : is_passed (Some f) n ≡ true → (n ≤ from) ⊎ IsOverNoMedia packets from n
  to passed = let upto : n ≤ f =
      leb-true n f passed in inr (λ m above below. over m above (omega (arith, below, upto)))

  not_above : IsOverNoMedia packets from n → (f < n) ⊎ (n ≤ f) → is_passed (Some f) n ≡ true
  not_above on (inl above) =
      absurd (true≢false (sym (over-from (at (f + 1) packets)
      (on (f + 1) (omega (arith, further)) (omega (arith, above)))) ∙ closed))
  not_above on (inr upto) = le-leb n f upto

  from_reached : (n ≤ from) ⊎ IsOverNoMedia packets from n → is_passed (Some f) n ≡ true
  from_reached (inl upto) = le-leb n f (omega (arith, upto, further))
  from_reached (inr on) = not_above on (cases_lt f n)

-- so they are after an event that moves the front
exactly_after : (window : Contents Content) → IsInside window → (before : Option ℕ) (last n : ℕ) →
    (is_passed (front_after before (Some last) window.packets) n ≡ true) ↔ IsReached before last window.packets n
exactly_after window inside None last n =
    front_is window.packets last (reach_from WINDOW last window.packets) n
    (reach_from-from WINDOW last window.packets) (reach_from-over WINDOW last window.packets)
    (reach_from-closed window inside last)
exactly_after window inside (Some front) last n =
    front_is window.packets (max front last) (reach_from WINDOW (max front last) window.packets) n
    (reach_from-from WINDOW (max front last) window.packets) (reach_from-over WINDOW (max front last) window.packets)
    (reach_from-closed window inside (max front last))

exactly_any : (window : Contents Content) → IsInside window → (before pulled : Option ℕ) (n : ℕ) →
    IfSome pulled (λ last. (is_passed (front_after before pulled window.packets) n ≡ true)
    ↔ IsReached before last window.packets n)
exactly_any window inside before None n = tt
exactly_any window inside before (Some last) n = exactly_after window inside before last n

-- and after one that leaves it
exactly_same : (packets : Packets) (front pulled : Option ℕ) (n : ℕ) →
    IfSome pulled (λ last. IsClosed packets front last) →
    IfSome pulled (λ last. (is_passed front n ≡ true) ↔ IsReached front last packets n)
exactly_same packets front None n closed = tt
exactly_same packets None (Some last) n closed = absurd closed
exactly_same packets (Some f) (Some last) n closed =
    let upto : last ≤ f = closed.0 in
    front_is packets (max f last) f n (omega (arith, upto))
    (λ m above below. absurd (omega (arith, above, below))) closed.1

-- the passed numbers after an event, by those before
abbrev IsExact : Snapshot → Snapshot → ℕ → Type 0
IsExact before after n =
    IfSome (last_pulled after.pulled)
    (λ last. (is_passed after.front n ≡ true) ↔ IsReached before.front last after.window.packets n)

datagram_exactly : (source : Source) (past : List Snapshot) (moment : ℕ) (v : Result (ℕ × Content) NotTaken) (n : ℕ) →
    IsInside (after_datagram source past moment v).window → HasClosed (latest past) →
    IsExact (latest past) (after_datagram source past moment v) n
datagram_exactly source past moment (Err left) n inside closed = let s : Snapshot =
    latest past in exactly_same s.window.packets s.front (last_pulled s.pulled) n closed
datagram_exactly source past moment (Ok (m, content)) n inside closed = let s : Snapshot =
    latest past in exactly_any (after_datagram source past moment (Ok (m, content))).window inside s.front (last_pulled s.pulled) n

pull_exactly : (codec : Meaning) (past : List Snapshot) (moment : ℕ) (o : Option Run) (n : ℕ) →
    IsInside (after_pull codec past moment o).window → HasClosed (latest past) →
    IsExact (latest past) (after_pull codec past moment o) n
pull_exactly codec past moment None n inside closed = let s : Snapshot =
    latest past in exactly_same s.window.packets s.front (last_pulled s.pulled) n closed
pull_exactly codec past moment (Some run) n inside closed = let s : Snapshot =
    latest past in exactly_after s.window inside s.front run.last n

-- the passed numbers are exactly these
pub passed_exactly : PassedExactlyHolds
unfolding snapshots
passed_exactly settings codec h (Datagram moment octets) n =
    let past : List Snapshot = snapshots settings codec h in
    datagram_exactly (source_in settings codec) past moment (verdict settings codec (latest past).window octets) n
    (available-inside settings codec (Datagram moment octets ∷ h)) (has_closed settings codec h)
passed_exactly settings codec h (Tick moment) n =
    let s : Snapshot = latest (snapshots settings codec h) in
    exactly_same s.window.packets s.front (last_pulled s.pulled) n (has_closed settings codec h)
passed_exactly settings codec h (Pull moment) n =
    let past : List Snapshot = snapshots settings codec h in
    pull_exactly codec past moment (next_run (latest past)) n (available-inside settings codec (Pull moment ∷ h))
    (has_closed settings codec h)

-- the front doesn't fall, if it is none before the first frame is pulled
front-stays : (before pulled : Option ℕ) (packets : Packets) (n : ℕ) → (pulled ≡ None → before ≡ None) →
    is_passed before n ≡ true → is_passed (front_after before pulled packets) n ≡ true
front-stays None pulled packets n none passed = absurd (cc)
front-stays (Some front) None packets n none passed = absurd (none-some front (sym (none refl)))
front-stays (Some front) (Some last) packets n none passed =
    let upto : n ≤ front = leb-true n front passed in
    let further : max front last ≤ reach_from WINDOW (max front last) packets =
    reach_from-from WINDOW (max front last) packets in
    le-leb n (reach_from WINDOW (max front last) packets) (omega arith)

-- before the first frame is pulled there is no front
abbrev HasNone : Snapshot → Type 0
HasNone s = last_pulled s.pulled ≡ None → s.front ≡ None

-- so it stays with a datagram
datagram_none : (source : Source) (past : List Snapshot) (moment : ℕ) (v : Result (ℕ × Content) NotTaken) →
    HasNone (latest past) → HasNone (after_datagram source past moment v)
datagram_none source past moment (Err left) none is = none is
datagram_none source past moment (Ok (n, content)) none is = let s : Snapshot =
    latest past in ap (λ (o : Option ℕ). front_after s.front o (after_datagram source past moment (Ok (n, content))).window.packets) is

-- and with a pull
pull_none : (codec : Meaning) (past : List Snapshot) (moment : ℕ) (o : Option Run) → HasNone (latest past) →
    HasNone (after_pull codec past moment o)
pull_none codec past moment None none is = none is
pull_none codec past moment (Some run) none is = absurd (none-some run.last (sym is))

-- before the first frame is pulled there is no front, in every history
pub has_none : (settings : Settings) (codec : Meaning) (h : List Event) →
    HasNone (latest (snapshots settings codec h))
unfolding snapshots
has_none settings codec [] is = refl
has_none settings codec (Datagram moment octets ∷ h) is =
    let past : List Snapshot = snapshots settings codec h in
    datagram_none (source_in settings codec) past moment (verdict settings codec (latest past).window octets)
    (has_none settings codec h) is
has_none settings codec (Tick moment ∷ h) is = has_none settings codec h is
has_none settings codec (Pull moment ∷ h) is =
    let past : List Snapshot = snapshots settings codec h in
    pull_none codec past moment (next_run (latest past)) (has_none settings codec h) is

-- what is passed stays passed with a datagram
datagram_passed : (source : Source) (past : List Snapshot) (moment : ℕ) (v : Result (ℕ × Content) NotTaken) (n : ℕ) →
    HasNone (latest past) → is_passed (latest past).front n ≡ true →
    is_passed (after_datagram source past moment v).front n ≡ true
datagram_passed source past moment (Err left) n none passed = passed
datagram_passed source past moment (Ok (m, content)) n none passed = let s : Snapshot =
    latest past in front-stays s.front (last_pulled s.pulled) (after_datagram source past moment (Ok (m, content))).window.packets n none passed

-- and with a pull
pull_passed : (codec : Meaning) (past : List Snapshot) (moment : ℕ) (o : Option Run) (n : ℕ) →
    is_passed (latest past).front n ≡ true → is_passed (after_pull codec past moment o).front n ≡ true
pull_passed codec past moment None n passed = passed
pull_passed codec past moment (Some run) n passed = let s : Snapshot = latest past in
    front-stays s.front (Some run.last) s.window.packets n (λ is. absurd (none-some run.last (sym is))) passed

-- what is passed stays passed
pub passed_stays : PassedStaysHolds
unfolding snapshots
passed_stays settings codec h (Datagram moment octets) n passed =
    let past : List Snapshot = snapshots settings codec h in
    datagram_passed (source_in settings codec) past moment (verdict settings codec (latest past).window octets) n
    (has_none settings codec h) passed
passed_stays settings codec h (Tick moment) n passed = passed
passed_stays settings codec h (Pull moment) n passed =
    let past : List Snapshot = snapshots settings codec h in
    pull_passed codec past moment (next_run (latest past)) n passed

-- nothing is passed before the first frame is pulled
pub none_passed : NonePassedHolds
none_passed settings codec h n empty =
    ap (λ (o : Option ℕ). is_passed o n) (has_none settings codec h (ap last_pulled empty))
