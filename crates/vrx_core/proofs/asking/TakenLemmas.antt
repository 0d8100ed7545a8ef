-- What is missing, asked for and given up once a datagram is taken.
use Rattle.std.proofs.Common.{◌≡◌, ℕ, ◌+◌, ◌-◌, ◌<◌, ◌≤◌, ◌⊎◌, max, Bool, true, false, cond, not, ◌&&◌, ◌==◌, List, [], ◌∷◌, ◌++◌, map, length, filter, Contains, Option, Some, None, is_some, IsSomeAnd, unwrap_or, Ok, refl, sym, ◌∙◌, ap, subst, arith, inl, inr, nat_lt, nat_le, nat_cmp}
use Rattle.std.specs.Ordering.{eq_by_cmp}
use Rattle.std.proofs.lemmas.Bool.{and_parts, or_from, or_parts, cases_lt, cases_eq, eqb-true, eqb-false, ne_eqb, false_from_ne_true, leb-true, lt-ltb, ltb-true, not-true, not_from_false, true≢false}
use Rattle.std.proofs.lemmas.List.{map-append}
use Rattle.vrx_num.specs.declared.limits.TheConstants.{WINDOW}
use Rattle.vrx_asks.specs.Asks.{beyond, without}
use Rattle.vrx_asks.specs.declared.ask.Ask.{Ask}
use Rattle.vrx_window.specs.Content.{Content}
use Rattle.vrx_window.specs.Window.{Contents, at, in_window, is_available, is_dead, is_inside, newest_with, after_placing, entries_with}
use Rattle.vrx_frames.specs.Completed.{is_among}
use Rattle.vrx_frames.specs.Run.{is_passed}
use Rattle.vrx_repair.specs.Source.{Source}
use Rattle.vrx_core.specs.inside.Wants.{beyond_front, gap_from, gap_of, with_all_missing, without_all}
use Rattle.vrx_core.specs.machine.Asking.{IsMissing}
use Rattle.vrx_core.specs.machine.Available.{IsInWindow}
use Rattle.vrx_core.specs.machine.GivenUp.{is_lost, numbers_left}
use Rattle.vrx_core.specs.machine.Machine.{Snapshot, latest, after_settling, after_packet, after_datagram}
use Rattle.vrx_core.specs.machine.Request.{missing, requests}
use Rattle.vrx_core.specs.machine.Snapshot.{moved}
use Rattle.vrx_core.specs.relation.StandsFor.{ask_of}
use Rattle.vrx_core.proofs.machine.AvailableLemmas.{find-after_placing, placed_new, placed_old, order-window}
use Rattle.vrx_core.proofs.machine.KeyLemmas.{same_key}
use Rattle.vrx_core.proofs.relation.ListLemmas.{Rises, Contains-head, Contains-tail, all-of, all-in, filter-from, filter-map, filter-to, filter-same, rises-filter, same-lists}
use Rattle.vrx_core.proofs.asking.AskLemmas.{WasCounted, all-missing, ask-is, ask_from, beyond-front, beyond-number, filter-append, first_ask, requests-more, requests-never, requests-none, without-all, without-number}
use Rattle.vrx_core.proofs.asking.MadeLemmas.{made-available, made-inside, made_numbers}
use Rattle.vrx_core.proofs.asking.MissingLemmas.{missing-from, missing-rises, missing-to}
use Rattle.vrx_core.proofs.asking.RangeLemmas.{Leaves, among-from, among-to, append-from, append-left, append-right, below-bounds, below-rises, below-to, left-from, map-same}
use Rattle.vrx_core.proofs.asking.SaneLemmas.{IsBelow, IsSane, IsStarted, available-there, below-with, some-value, taken-lost-is, taken-asked-missing, was_asked}

-- the numbers that are missing with a packet lie between the newest number before and the newest after
pub gap-bounds : (newest : Option ℕ) (n m : ℕ) → Contains (gap_of newest n) m →
    IsSomeAnd newest (λ k. k < m) × (newest_with newest n < m + WINDOW) × (m < newest_with newest n)
gap-bounds None n m c = let p : (n ≤ m) × (m < n) = below-bounds n n m c in absurd (omega (arith, p.0, p.1))
gap-bounds (Some k) n m c =
    let p : (max (k + 1) (max k n + 1 - WINDOW) ≤ m) × (m < max k n) =
    below-bounds (max (k + 1) (max k n + 1 - WINDOW)) (max k n) m c in
    (omega (arith, p.0), omega (arith, p.0), p.1)

pub gap-to : (newest : Option ℕ) (n m : ℕ) → IsSomeAnd newest (λ k. k < m) → newest_with newest n < m + WINDOW →
    m < newest_with newest n → Contains (gap_of newest n) m
gap-to None n m above within below = absurd above
gap-to (Some k) n m above within below = let less : k < m =
    above in below-to (max (k + 1) (max k n + 1 - WINDOW)) (max k n) m (omega (arith, less, within)) below

pub gap-rises : (newest : Option ℕ) (n : ℕ) → Rises (λ m. m) (gap_of newest n)
gap-rises newest n = below-rises (gap_from newest (newest_with newest n)) (newest_with newest n)

-- two lists that rise, one below the other, rise together
pub rises-append : (xs ys : List ℕ) → Rises (λ m. m) xs → Rises (λ m. m) ys →
    ((x y : ℕ) → Contains xs x → Contains ys y → x < y) → Rises (λ m. m) (xs ++ ys)
rises-append [] ys a b below = b
rises-append (x ∷ xs) ys a b below = (
  all-of (λ z. x < z) (xs ++ ys)
      (λ z c. elim (append-from xs ys z c) [
        | inl left ↦ all-in (λ w. x < w) xs z a.0 left
        | inr right ↦ below x z
            (Contains-head x xs) right
      ]),
  rises-append xs ys a.1 b (λ u v c d. below u v (Contains-tail x xs u c) d),
)

-- a number beyond the first one, once a packet is placed
first-is : (first : Option ℕ) (n f : ℕ) → first ≡ Some f → unwrap_or first n ≡ f
first-is first n f is = ap (λ o. unwrap_or o n) is

-- a number inside the window isn't above the newest
inside-upto : (k m : ℕ) → in_window k m ≡ true → m ≤ k
inside-upto k m is = leb-true m k (and_parts (nat_lt k (m + WINDOW)) (nat_le m k) is).1

beyond-first : (first : Option ℕ) (n m : ℕ) → IsSomeAnd first (λ f. f < m) → unwrap_or first n < m
beyond-first None n m h = absurd h
beyond-first (Some f) n m h = h

module _ (source : Source) (past : List Snapshot) (moment n : ℕ) (content : Content) where
  abbrev win : Contents Content
  win = (latest past).window

  abbrev after : Snapshot
  after = after_datagram source past moment (Ok (n, content))

  abbrev before_requests : Snapshot
  before_requests = after_settling source.codec past (after_packet source n content (moved (latest past) moment))

  -- the window in which the packet is placed, and the numbers repaired
  abbrev placed : Contents Content
  placed = after_placing n content (latest past).window

  abbrev repaired : List ℕ
  repaired = made_numbers source placed

  abbrev top : ℕ
  top = newest_with (latest past).window.newest n

  -- what is missing is so before the event gives numbers up, and after
  pub missing-asked : (m : ℕ) → IsMissing (before_requests ∷ past) m → IsMissing (after ∷ past) m
  missing-asked m is = record {
    after_first = is.after_first;
    before_newest = is.before_newest;
    inside = is.inside;
    absent = is.absent;
    not_passed = is.not_passed;
    not_lost = taken-lost-is source past moment n content m is.inside.0 ∙ is.not_lost;
  }

  missing-asks : (m : ℕ) → IsMissing (after ∷ past) m → IsMissing (before_requests ∷ past) m
  missing-asks m is = record {
    after_first = is.after_first;
    before_newest = is.before_newest;
    inside = is.inside;
    absent = is.absent;
    not_passed = is.not_passed;
    not_lost = sym (taken-lost-is source past moment n content m is.inside.0) ∙ is.not_lost;
  }

  -- what stays available, and what doesn't become so
  available-stays : (m : ℕ) → in_window top m ≡ true → is_available m win.packets ≡ true →
      is_available m (entries_with top n content win.packets) ≡ true
  available-stays m inside there = elim (cases_eq m n) [
    | inl same ↦ ap (λ k. is_available k (entries_with top n content win.packets)) same
        ∙ ap is_some (placed_new top n content win.packets)
    | inr other ↦ let c : (c : Content) × (at m win.packets ≡ Some c) = available-there (at m win.packets) there in
        ap is_some (placed_old top n m content c.0 win.packets other inside c.1)
  ]

  absent-stays : (m : ℕ) → (m ≡ n → ⊥) → is_available m win.packets ≡ false →
      is_available m (entries_with top n content win.packets) ≡ false
  absent-stays m other absent = ap is_some (find-after_placing top n m content win.packets)
      ∙ by (eq_by_cmp nat_cmp m n) refl (in_window top m) where
        by : (b : Bool) → eq_by_cmp nat_cmp m n ≡ b → (c : Bool) →
            is_some (cond b (Some content) (cond c (at m win.packets) None)) ≡ false
        by true is c = absurd (other (same_key m n is))
        by false is true = absent
        by false is false = refl

  -- what isn't available after the event wasn't, and wasn't repaired
  absent-parts : (m : ℕ) → is_available m after.window.packets ≡ false →
      (is_available m placed.packets ≡ false) × (is_among repaired m ≡ false)
  absent-parts m absent =
      or_parts (is_available m placed.packets) (is_among repaired m) (sym (made-available source placed m) ∙ absent)

  -- and back
  absent-both : (m : ℕ) → is_available m placed.packets ≡ false → is_among repaired m ≡ false →
      is_available m after.window.packets ≡ false
  absent-both m absent unrepaired =
      made-available source placed m
      ∙ or_from (is_available m placed.packets) (is_among repaired m) absent unrepaired

  -- the missing numbers that are left: not this one, in the window, not passed, and not repaired
  abbrev others : List ℕ
  others = filter (λ m. not (m == n)) (missing past)

  abbrev others_inside : List ℕ
  others_inside = filter (λ m. nat_lt (top - WINDOW) m) others

  abbrev pub missing_left : List ℕ
  missing_left = filter (λ m. not (is_passed after.front m)) others_inside

  abbrev pub left_open : List ℕ
  left_open = filter (λ m. not (is_among repaired m)) missing_left

  -- and the gap without the numbers repaired
  abbrev pub gap_open : List ℕ
  gap_open = filter (λ m. not (is_among repaired m)) (gap_of (latest past).window.newest n)

  record IsLeft (m : ℕ) : Type 0 where
    was : IsMissing past m
    other : m ≡ n → ⊥
    within : top - WINDOW < m
    not_passed : is_passed after.front m ≡ false
    not_repaired : is_among repaired m ≡ false

  left-is : (m : ℕ) → Contains left_open m → IsLeft m
  left-is m c =
      let o : Contains missing_left m × (not (is_among repaired m) ≡ true) =
      filter-from (λ k. not (is_among repaired k)) missing_left m c in
      let p : Contains others_inside m × (not (is_passed after.front m) ≡ true) =
      filter-from (λ k. not (is_passed after.front k)) others_inside m o.0 in
      let q : Contains others m × (nat_lt (top - WINDOW) m ≡ true) =
      filter-from (λ k. nat_lt (top - WINDOW) k) others m p.0 in
      let r : Contains (missing past) m × (not (m == n) ≡ true) =
      filter-from (λ k. not (k == n)) (missing past) m q.0 in
      record {
        was = missing-from past m r.0;
        other = eqb-false m n (not-true (m == n) r.1);
        within = ltb-true (top - WINDOW) m q.1;
        not_passed = not-true (is_passed after.front m) p.1;
        not_repaired = not-true (is_among repaired m) o.1;
      }

  left-to : (m : ℕ) → IsLeft m → Contains left_open m
  left-to m is = filter-to (λ k. not (is_among repaired k)) missing_left m
      (filter-to (λ k. not (is_passed after.front k)) others_inside m
      (filter-to (λ k. nat_lt (top - WINDOW) k) others m
      (filter-to (λ k. not (k == n)) (missing past) m (missing-to past m is.was)
      (not_from_false (m == n) (ne_eqb m n is.other)))
      (lt-ltb (top - WINDOW) m is.within))
      (not_from_false (is_passed after.front m) is.not_passed))
      (not_from_false (is_among repaired m) is.not_repaired)

  left-rises : Rises (λ m. m) left_open
  left-rises = rises-filter (λ m. m) (λ m. not (is_among repaired m)) missing_left
      (rises-filter (λ m. m) (λ m. not (is_passed after.front m)) others_inside
      (rises-filter (λ m. m) (λ m. nat_lt (top - WINDOW) m) others
      (rises-filter (λ m. m) (λ m. not (m == n)) (missing past) (missing-rises past))))

  gap-open-rises : Rises (λ m. m) gap_open
  gap-open-rises = rises-filter (λ m. m) (λ m. not (is_among repaired m)) (gap_of (latest past).window.newest n)
      (gap-rises (latest past).window.newest n)

  gap-open-from : (m : ℕ) → Contains gap_open m →
      Contains (gap_of (latest past).window.newest n) m × (is_among repaired m ≡ false)
  gap-open-from m c =
      let p : Contains (gap_of (latest past).window.newest n) m × (not (is_among repaired m) ≡ true) =
      filter-from (λ k. not (is_among repaired k)) (gap_of (latest past).window.newest n) m c in
      (p.0, not-true (is_among repaired m) p.1)

  -- so the asks are those of these numbers
  asks-left : beyond_front after.front (beyond (top - WINDOW) (without n (map (ask_of past) (missing past)))) ≡ map
      (ask_of past) missing_left
  asks-left =
      ap (λ asks. beyond_front after.front (beyond (top - WINDOW) asks)) (without-number past (missing past) n)
      ∙ ap (beyond_front after.front) (beyond-number past others (top - WINDOW))
      ∙ beyond-front past others_inside after.front

  module _ (sane : IsSane past)
      (same : (m : ℕ) →
      is_available m (after_datagram source past moment (Ok (n, content))).window.packets ≡ false →
      is_passed (after_datagram source past moment (Ok (n, content))).front m ≡ is_passed (latest past).front m)
      (upto : (m : ℕ) → is_passed (latest past).front m ≡ true → IsSomeAnd (latest past).window.newest (λ k. m ≤ k))
      (held : (m : ℕ) → is_available m (latest past).window.packets ≡ true →
      IsInWindow (latest past).window.newest m) where
    -- a number above the newest isn't available, passed, asked for or given up
    above-absent : (k m : ℕ) → win.newest ≡ Some k → k < m → is_available m win.packets ≡ false
    above-absent k m is above =
        false_from_ne_true (is_available m win.packets)
        (λ there. let p : (k < m + WINDOW) × (m ≤ k) = subst (λ o. IsInWindow o m) is (held m there) in
        absurd (omega (arith, above, p.1)))

    above-not-passed : (k m : ℕ) → win.newest ≡ Some k → k < m → is_passed (latest past).front m ≡ false
    above-not-passed k m is above =
        false_from_ne_true (is_passed (latest past).front m)
        (λ passed. let p : m ≤ k = subst (λ o. IsSomeAnd o (λ j. m ≤ j)) is (upto m passed) in
        absurd (omega (arith, above, p)))

    above-not-lost : (k m : ℕ) → win.newest ≡ Some k → k < m → is_lost past m ≡ false
    above-not-lost k m is above =
        false_from_ne_true (is_lost past m)
        (λ lost. let p : m < k = subst (λ o. IsBelow o m) is (sane.lost m lost) in absurd (omega (arith, above, p)))

    above-not-asked : (k m : ℕ) → win.newest ≡ Some k → k < m → was_asked past m ≡ false
    above-not-asked k m is above =
        false_from_ne_true (was_asked past m)
        (λ asked. let p : m < k = subst (λ o. IsBelow o m) is (sane.asked m asked) in
        absurd (omega (arith, above, p)))

    -- the first number isn't above the newest
    first-upto : (k : ℕ) → win.newest ≡ Some k → IsStarted win → unwrap_or win.first n ≤ k
    first-upto k is (inl none) = absurd (true≢false (sym (ap is_some (sym none.1 ∙ is))))
    first-upto k is (inr p) =
        let a : unwrap_or win.first n ≡ p.0 = first-is win.first n p.0 p.2 in
        let b : p.1 ≡ k = ap (λ o. unwrap_or o 0) (sym p.3 ∙ is) in
        let c : p.0 ≤ p.1 = p.4 in
        omega (arith, a, b, c)

    -- what is missing after the event was missing before and is left, or lies in the gap
    missing-split : (m : ℕ) → IsMissing (after ∷ past) m → IsLeft m ⊎ Contains gap_open m
    missing-split m is = by sane.started where
      parts : (is_available m placed.packets ≡ false) × (is_among repaired m ≡ false)
      parts = absent-parts m is.absent

      within : top < m + WINDOW
      within = is.inside.0

      below : m < top
      below = is.before_newest

      beyond_it : unwrap_or win.first n < m
      beyond_it = is.after_first

      by : IsStarted win → IsLeft m ⊎ Contains gap_open m
      by (inl none) =
          let a : unwrap_or win.first n ≡ n = ap (λ o. unwrap_or o n) none.0 in
          let b : top ≡ n = ap (λ o. newest_with o n) none.1 in
          absurd (omega (arith, a, b, below, beyond_it))
      by (inr p) =
          let b : top ≡ max p.1 n = ap (λ o. newest_with o n) p.3 in
          elim (cases_lt p.1 m) [
            | inl above ↦ inr (filter-to (λ k. not (is_among repaired k)) (gap_of win.newest n) m
                (gap-to win.newest n m (subst (λ o. IsSomeAnd o (λ k. k < m)) (sym p.3) above) within below)
                (not_from_false (is_among repaired m) parts.1))
            | inr most ↦ inl (record {
              was = old most;
              other = other;
              within = omega (arith, within, below, beyond_it);
              not_passed = is.not_passed;
              not_repaired = parts.1;
            })
          ] where
            inside_top : in_window top m ≡ true
            inside_top = order-window top m within (omega (arith, below))

            absent : is_available m win.packets ≡ false
            absent = false_from_ne_true (is_available m win.packets)
                (λ there. true≢false (sym (available-stays m inside_top there) ∙ parts.0))

            other : m ≡ n → ⊥
            other e = true≢false (sym (ap is_some (placed_new top n content win.packets))
                ∙ sym (ap (λ k. is_available k (entries_with top n content win.packets)) e) ∙ parts.0)

            not_newest : m ≡ p.1 → ⊥
            not_newest e =
                true≢false (sym (sane.there p.1 p.3) ∙ sym (ap (λ k. is_available k win.packets) e) ∙ absent)

            old : m ≤ p.1 → IsMissing past m
            old most =
                let less : m < p.1 = elim (cases_lt m p.1) [
                  | inl less ↦ less
                  | inr more ↦ absurd
                      (not_newest (omega (arith, most, more)))
                ] in
                let c : top ≡ max p.1 n = ap (λ o. newest_with o n) p.3 in
                let a : unwrap_or win.first n ≡ p.0 = first-is win.first n p.0 p.2 in
                record {
                  after_first = subst (λ o. IsSomeAnd o (λ f. f < m)) (sym p.2) (omega (arith, a, beyond_it));
                  before_newest = subst (λ o. IsSomeAnd o (λ k. m < k)) (sym p.3) less;
                  inside = subst (λ o. IsInWindow o m) (sym p.3) (omega (arith, c, within), most);
                  absent = absent;
                  not_passed = sym (same m is.absent) ∙ is.not_passed;
                  not_lost = sym (taken-lost-is source past moment n content m within) ∙ is.not_lost;
                }

    -- what is left is missing
    left-missing : (m : ℕ) → IsLeft m → IsMissing (after ∷ past) m
    left-missing m is =
        let below : m < top = below-with win.newest n m is.was.before_newest in
        let within : top - WINDOW < m = is.within in
        record {
          after_first = beyond-first win.first n m is.was.after_first;
          before_newest = below;
          inside = (omega (arith, within), omega (arith, below));
          absent = absent-both m (absent-stays m is.other is.was.absent) is.not_repaired;
          not_passed = is.not_passed;
          not_lost = taken-lost-is source past moment n content m (omega (arith, within)) ∙ is.was.not_lost;
        }

    -- and so is the gap, but for the numbers repaired
    gap-missing : (m : ℕ) → Contains gap_open m → IsMissing (after ∷ past) m
    gap-missing m c = record {
      after_first = omega (arith, first_below, k_below);
      before_newest = bounds.2;
      inside = (bounds.1, omega (arith, m_below));
      absent = absent;
      not_passed = same m absent ∙ above-not-passed newest.0 m newest.1 k_below;
      not_lost = taken-lost-is source past moment n content m bounds.1 ∙ above-not-lost newest.0 m newest.1 k_below;
    } where
      open_gap : Contains (gap_of win.newest n) m × (is_among repaired m ≡ false)
      open_gap = gap-open-from m c

      bounds : IsSomeAnd win.newest (λ k. k < m) × (top < m + WINDOW) × (m < top)
      bounds = gap-bounds win.newest n m open_gap.0

      newest : (k : ℕ) × (win.newest ≡ Some k) × (k < m)
      newest = some-value (λ k. k < m) win.newest bounds.0

      k_below : newest.0 < m
      k_below = newest.2

      m_below : m < top
      m_below = bounds.2

      first_below : unwrap_or win.first n ≤ newest.0
      first_below = first-upto newest.0 newest.1 sane.started

      top_is : top ≡ max newest.0 n
      top_is = ap (λ o. newest_with o n) newest.1

      absent : is_available m after.window.packets ≡ false
      absent = absent-both m (absent-stays m (λ e. absurd (omega (arith, e, k_below, m_below, top_is)))
          (above-absent newest.0 m newest.1 k_below)) open_gap.1

    -- so the missing numbers are those left, and the gap without the numbers repaired
    pub missing-is : missing (after ∷ past) ≡ left_open ++ gap_open
    missing-is = same-lists (λ m. m) (missing (after ∷ past)) (left_open ++ gap_open)
        (missing-rises (after ∷ past))
        (rises-append left_open gap_open left-rises gap-open-rises apart) to back where
          apart : (x y : ℕ) → Contains left_open x → Contains gap_open y → x < y
          apart x y c d =
              let a : (k : ℕ) × (win.newest ≡ Some k) × (x < k) =
              some-value (λ k. x < k) win.newest (left-is x c).was.before_newest in
              let b : a.0 < y = subst (λ o. IsSomeAnd o (λ k. k < y)) a.1
              (gap-bounds win.newest n y (gap-open-from y d).0).0 in
              let e : x < a.0 = a.2 in
              omega (arith, b, e)

          to : (m : ℕ) → Contains (missing (after ∷ past)) m → Contains (left_open ++ gap_open) m
          to m c = elim (missing-split m (missing-from (after ∷ past) m c)) [
            | inl left ↦ append-left left_open gap_open m (left-to m left)
            | inr gap ↦ append-right left_open gap_open m gap
          ]

          back : (m : ℕ) → Contains (left_open ++ gap_open) m → Contains (missing (after ∷ past)) m
          back m c = missing-to (after ∷ past) m (elim (append-from left_open gap_open m c) [
            | inl left ↦ left-missing m (left-is m left)
            | inr gap ↦ gap-missing m gap
          ])

    -- no number of the gap was asked for
    gap-never : (m : ℕ) → Contains gap_open m → requests past m ≡ []
    gap-never m c =
        let k : (k : ℕ) × (win.newest ≡ Some k) × (k < m) =
        some-value (λ j. j < m) win.newest (gap-bounds win.newest n m (gap-open-from m c).0).0 in
        requests-never past m (above-not-asked k.0 m k.1 k.2)

    -- each that wasn't repaired is asked for now
    gap-asked : (m : ℕ) → Contains gap_open m → Contains after.asked m
    gap-asked m c = filter-to (λ k. length (requests (before_requests ∷ past) k) == 0)
        (missing (before_requests ∷ past)) m
        (missing-to (before_requests ∷ past) m (missing-asks m (gap-missing m c)))
        (ap (λ (ms : List ℕ). length ms == 0) (gap-never m c))

    module _ (counted : (m : ℕ) → Contains (missing past) m → WasCounted past m) where
      -- what was missing isn't asked for again
      asked-never : (m : ℕ) → Contains after.asked m → IsLeft m → ⊥
      asked-never m c left =
          let none : (length (requests past m) == 0) ≡ true =
          (filter-from (λ k. length (requests (before_requests ∷ past) k) == 0)
          (missing (before_requests ∷ past)) m c).1 in
          let zero_is : length (requests past m) ≡ 0 = eqb-true (length (requests past m)) 0 none in
          let once : 1 ≤ length (requests past m) = (counted m (missing-to past m left.was)).once in
          omega (arith, zero_is, once)

      -- what is asked for is the gap, but for the numbers repaired
      pub gap-is-asked : gap_open ≡ after.asked
      gap-is-asked = same-lists (λ m. m) gap_open after.asked gap-open-rises
          (rises-filter (λ m. m) (λ k. length (requests (before_requests ∷ past) k) == 0)
          (missing (before_requests ∷ past)) (missing-rises (before_requests ∷ past))) gap-asked back where
            back : (m : ℕ) → Contains after.asked m → Contains gap_open m
            back m c = elim (missing-split m
                (missing-asked m (taken-asked-missing source past moment n content m (among-to after.asked m c)))) [
                  | inl left ↦ absurd (asked-never m c left)
                  | inr gap ↦ gap
                ]

      left-same : (m : ℕ) → Contains left_open m → ask_of past m ≡ ask_of (after ∷ past) m
      left-same m c =
          let none : is_among after.asked m ≡ false =
          false_from_ne_true (is_among after.asked m)
          (λ is. asked-never m (among-from after.asked m is) (left-is m c)) in
          ask-is past m ∙ ap (ask_from m) (sym (requests-none after past m none)) ∙ sym (ask-is (after ∷ past) m)

      gap-first : (m : ℕ) → Contains gap_open m →
          first_ask (max (latest past).now moment) m ≡ ask_of (after ∷ past) m
      gap-first m c =
          ap (λ (ms : List ℕ). ask_from m (max (latest past).now moment ∷ ms)) (sym (gap-never m c))
          ∙ ap (ask_from m) (sym (requests-more after past m (among-to after.asked m (gap-asked m c))))
          ∙ sym (ask-is (after ∷ past) m)

      -- the asks before the numbers repaired are taken away
      abbrev now : ℕ
      now = max (latest past).now moment

      abbrev unrepaired : Ask → Bool
      unrepaired ask = not (is_among repaired ask.number)

      asks-open : without_all repaired (map (ask_of past) missing_left ++ map (first_ask now) (gap_of win.newest n))
          ≡ map (ask_of past) left_open ++ map (first_ask now) gap_open
      asks-open =
          without-all repaired (map (ask_of past) missing_left ++ map (first_ask now) (gap_of win.newest n))
          ∙ filter-append unrepaired (map (ask_of past) missing_left) (map (first_ask now) (gap_of win.newest n))
          ∙ ap (λ (asks : List Ask). asks ++ filter unrepaired (map (first_ask now) (gap_of win.newest n)))
          (filter-map (ask_of past) unrepaired missing_left)
          ∙ ap (λ (asks : List Ask). map (ask_of past) left_open ++ asks)
          (filter-map (first_ask now) unrepaired (gap_of win.newest n))

      -- the asks after a packet was taken, and its repairs were made
      pub asks-are : without_all (made_numbers source (after_placing n content (latest past).window))
          (with_all_missing (max (latest past).now moment) (gap_of win.newest n)
          (beyond_front after.front (beyond (top - WINDOW) (without n (map (ask_of past) (missing past)))))) ≡ map
          (ask_of (after ∷ past)) (missing (after ∷ past))
      asks-are =
          ap (λ (asks : List Ask). without_all repaired (with_all_missing now (gap_of win.newest n) asks)) asks-left
          ∙ ap (without_all repaired) (all-missing now (gap_of win.newest n) (map (ask_of past) missing_left))
          ∙ asks-open
          ∙ ap (λ (asks : List Ask). asks ++ map (first_ask now) gap_open)
          (map-same (ask_of past) (ask_of (after ∷ past)) left_open left-same)
          ∙ ap (λ (asks : List Ask). map (ask_of (after ∷ past)) left_open ++ asks)
          (map-same (first_ask now) (ask_of (after ∷ past)) gap_open gap-first)
          ∙ sym (map-append (ask_of (after ∷ past)) left_open gap_open)
          ∙ ap (map (ask_of (after ∷ past))) (sym missing-is)

    -- the numbers given up, as the window says them
    lost-same : (m : ℕ) → Contains (numbers_left (Some (unwrap_or win.first n)) win.newest (Some top)) m
        → (not (is_passed (latest past).front m) && not (is_dead m win.dead))
        ≡ (not (is_passed after.front m) && not (is_lost past m))
    lost-same m c = ap (λ b. not b && not (is_dead m win.dead)) (sym (same m absent))
        ∙ ap (λ b. not (is_passed after.front m) && not b) (dead_is (cases_lt newest.0 m)) where
          leaves : Leaves (Some (unwrap_or win.first n)) win.newest top m
          leaves = left-from (Some (unwrap_or win.first n)) win.newest top m c

          newest : (k : ℕ) × (win.newest ≡ Some k) × (k < m + WINDOW)
          newest = some-value (λ k. k < m + WINDOW) win.newest leaves.was_inside

          is_left : m + WINDOW ≤ top
          is_left = leaves.left

          top_is : top ≡ max newest.0 n
          top_is = ap (λ o. newest_with o n) newest.1

          inside_k : newest.0 < m + WINDOW
          inside_k = newest.2

          not_inside : (b : Bool) → in_window top m ≡ b → b ≡ false
          not_inside true is = let p : top < m + WINDOW =
              ltb-true top (m + WINDOW) (and_parts (nat_lt top (m + WINDOW)) (nat_le m top) is).0 in
              absurd (omega (arith, is_left, p))
          not_inside false is = refl

          gone : is_among repaired m ≡ false
          gone = false_from_ne_true (is_among repaired m)
              (λ among. true≢false (sym (made-inside source placed m among) ∙ not_inside (in_window top m) refl))

          absent_placed : is_available m (entries_with top n content win.packets) ≡ false
          absent_placed = ap is_some (find-after_placing top n m content win.packets) ∙ by (eq_by_cmp nat_cmp m n) refl
              ∙ ap (λ b. is_some (cond b (at m win.packets) None)) (not_inside (in_window top m) refl) where
                by : (b : Bool) → eq_by_cmp nat_cmp m n ≡ b →
                    is_some (cond b (Some content) (cond (in_window top m) (at m win.packets) None)) ≡ is_some
                    (cond (in_window top m) (at m win.packets) None)
                by true is = let e : m ≡ n = same_key m n is in absurd (omega (arith, e, is_left, top_is, inside_k))
                by false is = refl

          absent : is_available m after.window.packets ≡ false
          absent = absent-both m absent_placed gone

          above_inside : newest.0 < m → is_inside win.newest m ≡ true → ⊥
          above_inside above is = let p : m ≤ newest.0 =
              inside-upto newest.0 m (sym (ap (λ o. is_inside o m) newest.1) ∙ is) in absurd (omega (arith, above, p))

          dead_is : (newest.0 < m) ⊎ (m ≤ newest.0) → is_dead m win.dead ≡ is_lost past m
          dead_is (inl above) =
              false_from_ne_true (is_dead m win.dead) (λ d. above_inside above (sane.inside m d))
              ∙ sym (above-not-lost newest.0 m newest.1 above)
          dead_is (inr upto') =
              sane.dead m (ap (λ o. is_inside o m) newest.1 ∙ order-window newest.0 m inside_k upto')

    -- so they are what the event gives up
    pub lost-is : filter (λ m. not (is_passed (latest past).front m) && not (is_dead m win.dead))
        (numbers_left win.first win.newest (Some top)) ≡ after.lost
    lost-is =
        ap (filter (λ m. not (is_passed (latest past).front m) && not (is_dead m win.dead))) (left_is sane.started)
        ∙ filter-same (λ m. not (is_passed (latest past).front m) && not (is_dead m win.dead))
        (λ m. not (is_passed after.front m) && not (is_lost past m))
        (numbers_left (Some (unwrap_or win.first n)) win.newest (Some top))
        (all-of (λ m. (not (is_passed (latest past).front m) && not (is_dead m win.dead))
        ≡ (not (is_passed after.front m) && not (is_lost past m)))
        (numbers_left (Some (unwrap_or win.first n)) win.newest (Some top)) lost-same) where
          none_left : (o : Option ℕ) → numbers_left o None (Some top) ≡ []
          none_left None = refl
          none_left (Some f) = refl

          left_is : IsStarted win →
              numbers_left win.first win.newest (Some top) ≡ numbers_left (Some (unwrap_or win.first n)) win.newest
              (Some top)
          left_is (inl none) = ap (λ o. numbers_left win.first o (Some top)) none.1 ∙ none_left win.first
              ∙ sym (ap (λ o. numbers_left (Some (unwrap_or win.first n)) o (Some top)) none.1)
          left_is (inr p) = ap (λ o. numbers_left o win.newest (Some top)) p.2
              ∙ ap (λ k. numbers_left (Some k) win.newest (Some top)) (sym (first-is win.first n p.0 p.2))
