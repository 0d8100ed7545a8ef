-- What an engine keeps of the requests, event by event: the missing numbers with their requests, and the greatest
-- number given up, are those of the machine's past.
use Rattle.std.proofs.Common.{◌≡◌, ℕ, suc, ◌+◌, ◌-◌, max, Bool, true, false, cond, not, ◌&&◌, ◌||◌, ◌==◌, List, [], ◌∷◌, map, length, filter, Contains, Option, Some, None, Ok, refl, sym, ◌∙◌, ap, subst, arith, nat_lt}
use Rattle.std.proofs.lemmas.Bool.{true≢false}
use Rattle.std.proofs.lemmas.Option.{none-some}
use Rattle.vrx_num.specs.declared.limits.TheConstants.{MOST_REQUESTS, WINDOW}
use Rattle.vrx_asks.specs.Asks.{ask_after, asked_numbers, asks_left, beyond, given_up_numbers, is_asked, is_given_up, numbers, without}
use Rattle.vrx_asks.specs.IsAsks.{IsAsks}
use Rattle.vrx_asks.specs.declared.ask.Ask.{Ask}
use Rattle.vrx_codec.specs.Meaning.{Meaning}
use Rattle.vrx_window.specs.Content.{Content}
use Rattle.vrx_window.specs.Window.{is_available, is_dead, newest_with}
use Rattle.vrx_frames.specs.Completed.{is_among}
use Rattle.vrx_frames.specs.Run.{Run, is_passed}
use Rattle.vrx_repair.specs.Source.{Source}
use Rattle.vrx_core.specs.inside.Wants.{asks_for, asks_taken, beyond_front, gap_of, last_of, later_of, lost_ticked, with_all_missing, without_all}
use Rattle.vrx_core.specs.machine.GivenUp.{all_lost, is_lost, numbers_left}
use Rattle.vrx_core.specs.machine.Machine.{Snapshot, latest, opening, after_datagram, after_pull, after_tick, snapshots, source_in}
use Rattle.vrx_core.specs.machine.Request.{is_missing, is_old, missing, numbers_between, requests}
use Rattle.vrx_core.specs.machine.Snapshot.{moved}
use Rattle.vrx_buffer.specs.Order.{greatest_of}
use Rattle.vrx_core.specs.relation.StandsFor.{Wanted, ask_of}
use Rattle.vrx_core.specs.declared.assembler.Arrival.{Arrival}
use Rattle.vrx_core.specs.declared.settings.Settings.{Settings}
use Rattle.vrx_core.specs.declared.event.Event.{Event}
use Rattle.vrx_core.proofs.relation.ListLemmas.{all-of, filter-from, filter-map, filter-same, filter-to, rises-filter}
use Rattle.vrx_core.proofs.relation.WindowLemmas.{among-filter}
use Rattle.vrx_core.proofs.asking.AskLemmas.{WasCounted, ask-is, ask_from, asked-test, beyond-front, counted-of, given-up-test, greatest-append, last-greatest, map-map, numbers-asks, requests-more, requests-none}
use Rattle.vrx_core.proofs.asking.FrontLemmas.{available-within, passed-below, passed-same, passed-still}
use Rattle.vrx_core.proofs.asking.MissingLemmas.{missing-rises}
use Rattle.vrx_core.proofs.asking.RangeLemmas.{among-to, filter-filter, map-same}
use Rattle.vrx_core.proofs.asking.SaneLemmas.{sane}
use Rattle.vrx_core.proofs.asking.TakenLemmas.{asks-are, gap-is-asked, lost-is}

-- before the first event nothing is missing, and nothing given up
pub asks-opening : ◌≡◌ {A = List Ask} [] (map (ask_of (opening ∷ [])) (missing (opening ∷ [])))
asks-opening = refl

pub lost-opening : ◌≡◌ {A = Option ℕ} None (greatest_of (all_lost (opening ∷ [])))
lost-opening = refl

module _ (past : List Snapshot) (moment : ℕ) where
  -- an event that only moves the clock leaves both
  pub asks-moved : (asks : List Ask) → asks ≡ map (ask_of past) (missing past) →
      asks ≡ map (ask_of (moved (latest past) moment ∷ past)) (missing (moved (latest past) moment ∷ past))
  asks-moved asks is = is

  pub lost-moved : (lost : Option ℕ) → lost ≡ greatest_of (all_lost past) →
      lost ≡ greatest_of (all_lost (moved (latest past) moment ∷ past))
  lost-moved lost is = is

-- a test after a front goes on
pulled-test : (a p q l : Bool) → (p ≡ true → q ≡ true) →
    (not q && (not a && not p && not l)) ≡ (not a && not q && not l)
pulled-test true p true l stays = refl
pulled-test true p false l stays = refl
pulled-test false p true l stays = refl
pulled-test false true false l stays = absurd (true≢false (sym (stays refl)))
pulled-test false false false l stays = refl

module _ (codec : Meaning) (past : List Snapshot) (moment : ℕ) (run : Run) where
  -- what was passed is passed once a frame is pulled
  pub passed-pulled : (n : ℕ) → is_passed (latest past).front n ≡ true →
      is_passed (after_pull codec past moment (Some run)).front n ≡ true
  passed-pulled n passed = let s : Snapshot = latest past in
      passed-still s.front (Some run.last) s.window.packets n (λ is. absurd (none-some run.last (sym is))) passed

  module _ (stays : (n : ℕ) → is_passed (latest past).front n ≡ true →
      is_passed (after_pull codec past moment (Some run)).front n ≡ true) where
    -- what is missing then
    missing-pulled : filter (λ n. not (is_passed (after_pull codec past moment (Some run)).front n)) (missing past)
        ≡ missing (after_pull codec past moment (Some run) ∷ past)
    missing-pulled =
        let s : Snapshot = latest past in
        let front : Option ℕ = (after_pull codec past moment (Some run)).front in
        let between : List ℕ = numbers_between s.window.first s.window.newest in
        filter-filter (λ n. not (is_passed front n)) (is_missing past)
        (is_missing (after_pull codec past moment (Some run) ∷ past)) between
        (all-of (λ n. (not (is_passed front n) && is_missing past n) ≡ is_missing
        (after_pull codec past moment (Some run) ∷ past) n) between
        (λ n c. pulled-test (is_available n s.window.packets) (is_passed s.front n) (is_passed front n)
        (is_lost past n) (stays n)))

    -- once a frame is pulled, the asks beyond the front are left
    pub asks-pulled : (asks : List Ask) → asks ≡ map (ask_of past) (missing past)
        → beyond_front (after_pull codec past moment (Some run)).front asks ≡ map
        (ask_of (after_pull codec past moment (Some run) ∷ past))
        (missing (after_pull codec past moment (Some run) ∷ past))
    asks-pulled asks is =
        let front : Option ℕ = (after_pull codec past moment (Some run)).front in
        ap (beyond_front front) is ∙ beyond-front past (missing past) front ∙ ap (map (ask_of past)) missing-pulled

  -- and nothing is given up
  pub lost-pulled : (lost : Option ℕ) → lost ≡ greatest_of (all_lost past) →
      lost ≡ greatest_of (all_lost (after_pull codec past moment (Some run) ∷ past))
  lost-pulled lost is = is

-- a test after numbers were given up
tick-test : (x l g lost : Bool) → ((x && not l) ≡ true → lost ≡ g) → (not g && (x && not l)) ≡ (x && not (lost || l))
tick-test false l true lost same = refl
tick-test false l false lost same = refl
tick-test true true true true same = refl
tick-test true true true false same = refl
tick-test true true false true same = refl
tick-test true true false false same = refl
tick-test true false true lost same = sym (ap (λ b. not (b || false)) (same refl))
tick-test true false false lost same = sym (ap (λ b. not (b || false)) (same refl))

and-true : (b : Bool) → (b && true) ≡ b
and-true true = refl
and-true false = refl

-- an ask of its parts
abbrev ask_with : (number times last : ℕ) → Ask
ask_with number times last = record { number = number; times = times; last = last }

module _ (settings : Settings) (past : List Snapshot) (moment : ℕ) (asks : List Ask)
    (is : asks ≡ map (ask_of past) (missing past)) (sound : IsAsks asks) where
  abbrev now : ℕ
  now = max (latest past).now moment

  abbrev after : Snapshot
  after = after_tick settings past moment

  counted : (n : ℕ) → Contains (missing past) n → WasCounted past n
  counted = counted-of past asks is sound

  -- what a tick gives up, and what it asks for, by the asks
  given-up-same : (n : ℕ) → Contains (missing past) n →
      is_given_up now settings.interval (ask_of past n)
      ≡ ((length (requests past n) == MOST_REQUESTS) && is_old settings.interval now (requests past n))
  given-up-same n c = ap (is_given_up now settings.interval) (ask-is past n)
      ∙ sym (given-up-test now settings.interval n (requests past n) (counted n c).once (counted n c).few)

  asked-same : (n : ℕ) → Contains (missing past) n →
      is_asked now settings.interval (ask_of past n)
      ≡ (nat_lt (length (requests past n)) MOST_REQUESTS && is_old settings.interval now (requests past n))
  asked-same n c = ap (is_asked now settings.interval) (ask-is past n)
      ∙ sym (asked-test now settings.interval n (requests past n) (counted n c).once)

  -- the numbers that a tick gives up
  pub given-up-ticked : given_up_numbers (max (latest past).now moment) settings.interval asks
      ≡ (after_tick settings past moment).lost
  given-up-ticked =
      ap (given_up_numbers now settings.interval) is
      ∙ ap numbers (filter-map (ask_of past) (is_given_up now settings.interval) (missing past))
      ∙ numbers-asks past (filter (λ n. is_given_up now settings.interval (ask_of past n)) (missing past))
      ∙ filter-same (λ n. is_given_up now settings.interval (ask_of past n))
      (λ n. (length (requests past n) == MOST_REQUESTS) && is_old settings.interval now (requests past n))
      (missing past)
      (all-of (λ n. is_given_up now settings.interval (ask_of past n)
      ≡ ((length (requests past n) == MOST_REQUESTS) && is_old settings.interval now (requests past n)))
      (missing past) given-up-same)

  -- the numbers that it asks for
  pub asked-ticked : asked_numbers (max (latest past).now moment) settings.interval asks
      ≡ (after_tick settings past moment).asked
  asked-ticked =
      ap (asked_numbers now settings.interval) is
      ∙ ap numbers (filter-map (ask_of past) (is_asked now settings.interval) (missing past))
      ∙ numbers-asks past (filter (λ n. is_asked now settings.interval (ask_of past n)) (missing past))
      ∙ filter-same (λ n. is_asked now settings.interval (ask_of past n))
      (λ n. nat_lt (length (requests past n)) MOST_REQUESTS && is_old settings.interval now (requests past n))
      (missing past)
      (all-of (λ n. is_asked now settings.interval (ask_of past n)
      ≡ (nat_lt (length (requests past n)) MOST_REQUESTS && is_old settings.interval now (requests past n)))
      (missing past) asked-same)

  -- whether a missing number is given up, and whether it is asked for
  lost-among : (n : ℕ) → Contains (missing past) n →
      is_among after.lost n ≡ is_given_up now settings.interval (ask_of past n)
  lost-among n c =
      among-filter (λ k. (length (requests past k) == MOST_REQUESTS) && is_old settings.interval now
      (requests past k)) (missing past) n
      ∙ ap (λ b. ((length (requests past n) == MOST_REQUESTS) && is_old settings.interval now (requests past n)) && b)
      (among-to (missing past) n c)
      ∙ and-true ((length (requests past n) == MOST_REQUESTS) && is_old settings.interval now (requests past n))
      ∙ sym (given-up-same n c)

  asked-among : (n : ℕ) → Contains (missing past) n →
      is_among after.asked n ≡ is_asked now settings.interval (ask_of past n)
  asked-among n c =
      among-filter (λ k. nat_lt (length (requests past k)) MOST_REQUESTS && is_old settings.interval now
      (requests past k)) (missing past) n
      ∙ ap (λ b. (nat_lt (length (requests past n)) MOST_REQUESTS && is_old settings.interval now (requests past n))
      && b) (among-to (missing past) n c)
      ∙ and-true (nat_lt (length (requests past n)) MOST_REQUESTS && is_old settings.interval now (requests past n))
      ∙ sym (asked-same n c)

  -- what is missing after it
  missing-ticked : filter (λ n. not (is_given_up now settings.interval (ask_of past n))) (missing past) ≡ missing
      (after ∷ past)
  missing-ticked =
      let s : Snapshot = latest past in
      let between : List ℕ = numbers_between s.window.first s.window.newest in
      filter-filter (λ n. not (is_given_up now settings.interval (ask_of past n))) (is_missing past)
      (is_missing (after ∷ past)) between
      (all-of (λ n. (not (is_given_up now settings.interval (ask_of past n)) && is_missing past n) ≡ is_missing
      (after ∷ past) n) between
      (λ n c. tick-test (not (is_available n s.window.packets) && not (is_passed s.front n)) (is_lost past n)
      (is_given_up now settings.interval (ask_of past n)) (is_among after.lost n)
      (λ was. lost-among n (filter-to (is_missing past) between n c was))))

  -- an ask after it
  ask-ticked : (n : ℕ) → Contains (missing (after ∷ past)) n →
      ask_after now settings.interval (ask_of past n) ≡ ask_of (after ∷ past) n
  ask-ticked n c = by (is_asked now settings.interval (ask_of past n)) refl where
    was : Contains (missing past) n
    was = (filter-from (λ k. not (is_given_up now settings.interval (ask_of past k))) (missing past) n
        (subst (λ ns. Contains ns n) (sym missing-ticked) c)).0

    by : (b : Bool) → is_asked now settings.interval (ask_of past n) ≡ b →
        cond b (ask_with n (length (requests past n) + 1) now) (ask_of past n) ≡ ask_of (after ∷ past) n
    by true asked =
        ap (λ t. ask_with n t now)
        (let e : length (requests past n) + 1 ≡ suc (length (requests past n)) = omega arith in e)
        ∙ ap (ask_from n) (sym (requests-more after past n (asked-among n was ∙ asked)))
        ∙ sym (ask-is (after ∷ past) n)
    by false other = ask-is past n ∙ ap (ask_from n) (sym (requests-none after past n (asked-among n was ∙ other)))
        ∙ sym (ask-is (after ∷ past) n)

  -- the asks after a tick
  pub asks-ticked : asks_left (max (latest past).now moment) settings.interval asks ≡ map
      (ask_of (after_tick settings past moment ∷ past)) (missing (after_tick settings past moment ∷ past))
  asks-ticked =
      ap (asks_left now settings.interval) is
      ∙ ap (map (ask_after now settings.interval))
      (filter-map (ask_of past) (λ ask. not (is_given_up now settings.interval ask)) (missing past))
      ∙ ap (λ (ns : List ℕ). map (ask_after now settings.interval) (map (ask_of past) ns)) missing-ticked
      ∙ map-map (ask_after now settings.interval) (ask_of past) (missing (after ∷ past))
      ∙ map-same (λ n. ask_after now settings.interval (ask_of past n)) (ask_of (after ∷ past))
      (missing (after ∷ past)) ask-ticked

-- the greatest number given up, after a tick
pub lost-ticked : (settings : Settings) (past : List Snapshot) (moment : ℕ) (wanted : Wanted) →
    wanted.asks ≡ map (ask_of past) (missing past) → IsAsks wanted.asks → wanted.lost ≡ greatest_of (all_lost past)
    → lost_ticked (max (latest past).now moment) settings.interval wanted ≡ greatest_of
    (all_lost (after_tick settings past moment ∷ past))
lost-ticked settings past moment wanted is sound lost =
    let now : ℕ = max (latest past).now moment in
    let given : List ℕ = (after_tick settings past moment).lost in
    ap (λ ns. later_of (last_of ns) wanted.lost) (given-up-ticked settings past moment wanted.asks is sound)
    ∙ ap (λ o. later_of o wanted.lost)
    (last-greatest given (rises-filter (λ n. n)
    (λ n. (length (requests past n) == MOST_REQUESTS) && is_old settings.interval now (requests past n))
    (missing past) (missing-rises past)))
    ∙ ap (later_of (greatest_of given)) lost
    ∙ sym (greatest-append given (all_lost past))

-- the asks once a packet was taken, of its parts
abbrev asks_by : (now : ℕ) → Option ℕ → ℕ → Option ℕ → List Ask → List Ask
asks_by now newest n front asks =
    with_all_missing now (gap_of newest n)
    (beyond_front front (beyond (newest_with newest n - WINDOW) (without n asks)))

-- the numbers of the gap that aren't among others
abbrev gap_but : List ℕ → Option ℕ → ℕ → List ℕ
gap_but ns newest n = filter (λ m. not (is_among ns m)) (gap_of newest n)

module _ (settings : Settings) (codec : Meaning) (h : List Event) (moment n : ℕ) (content : Content)
    (arrival : Arrival)
    (number_is : arrival.number ≡ n)
    (newest_is : arrival.newest ≡ (latest (snapshots settings codec h)).window.newest)
    (repaired_is : arrival.repaired ≡ (after_datagram (source_in settings codec) (snapshots settings codec h) moment
    (Ok (n, content))).repaired) where
  abbrev past : List Snapshot
  past = snapshots settings codec h

  abbrev source : Source
  source = source_in settings codec

  module _ (asks : List Ask)
      (is : asks ≡ map (ask_of (snapshots settings codec h)) (missing (snapshots settings codec h)))
      (sound : IsAsks asks) where
    -- the asks once a packet was taken
    pub asks-taken : asks_taken (max (latest (snapshots settings codec h)).now moment) arrival
        (after_datagram (source_in settings codec) (snapshots settings codec h) moment (Ok (n, content))).front asks
        ≡ map (ask_of (after_datagram (source_in settings codec) (snapshots settings codec h) moment (Ok (n, content))
        ∷ snapshots settings codec h))
        (missing (after_datagram (source_in settings codec) (snapshots settings codec h) moment (Ok (n, content))
        ∷ snapshots settings codec h))
    asks-taken =
        let now : ℕ = max (latest past).now moment in
        let front : Option ℕ = (after_datagram source past moment (Ok (n, content))).front in
        let repaired : List ℕ = (after_datagram source past moment (Ok (n, content))).repaired in
        ap (λ ns. without_all ns (asks_by now arrival.newest arrival.number front asks)) repaired_is
        ∙ ap (λ k. without_all repaired (asks_by now arrival.newest k front asks)) number_is
        ∙ ap (λ o. without_all repaired (asks_by now o n front asks)) newest_is
        ∙ ap (λ (list : List Ask). without_all repaired (asks_by now (latest past).window.newest n front list)) is
        ∙ asks-are source past moment n content (sane settings codec h) (passed-same settings codec h moment n content)
        (passed-below settings codec h) (available-within settings codec h) (counted-of past asks is sound)

    -- what it asks for is the gap, but for the numbers repaired
    pub gap-taken : asks_for arrival
        ≡ (after_datagram (source_in settings codec) (snapshots settings codec h) moment (Ok (n, content))).asked
    gap-taken =
        let repaired : List ℕ = (after_datagram source past moment (Ok (n, content))).repaired in
        ap (λ (ns : List ℕ). gap_but ns arrival.newest arrival.number) repaired_is
        ∙ ap (gap_but repaired arrival.newest) number_is
        ∙ ap (λ o. gap_but repaired o n) newest_is
        ∙ gap-is-asked source past moment n content (sane settings codec h)
        (passed-same settings codec h moment n content) (passed-below settings codec h)
        (available-within settings codec h) (counted-of past asks is sound)

  module _ (lost_is : arrival.lost ≡ greatest_of
      (filter (λ m. not (is_passed (latest (snapshots settings codec h)).front m) && not
      (is_dead m (latest (snapshots settings codec h)).window.dead))
      (numbers_left (latest (snapshots settings codec h)).window.first
      (latest (snapshots settings codec h)).window.newest
      (Some (newest_with (latest (snapshots settings codec h)).window.newest n))))) where
    -- the greatest number that it gives up
    pub lost-arrived : arrival.lost ≡ greatest_of
        (after_datagram (source_in settings codec) (snapshots settings codec h) moment (Ok (n, content))).lost
    lost-arrived = lost_is ∙ ap greatest_of
        (lost-is source past moment n content (sane settings codec h) (passed-same settings codec h moment n content)
        (passed-below settings codec h) (available-within settings codec h))

    -- and that was given up so far
    pub lost-taken : (lost : Option ℕ) → lost ≡ greatest_of (all_lost (snapshots settings codec h))
        → later_of arrival.lost lost ≡ greatest_of
        (all_lost (after_datagram (source_in settings codec) (snapshots settings codec h) moment (Ok (n, content))
        ∷ snapshots settings codec h))
    lost-taken lost is =
        ap (λ o. later_of o lost) lost-arrived
        ∙ ap (later_of (greatest_of (after_datagram source past moment (Ok (n, content))).lost)) is
        ∙ sym (greatest-append (after_datagram source past moment (Ok (n, content))).lost (all_lost past))
