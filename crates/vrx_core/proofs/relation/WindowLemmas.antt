-- What stands under the numbers of a window after a packet was placed.
use Rattle.std.proofs.Common.{◌≡◌, ◌≢◌, ℕ, ◌+◌, ◌<◌, ◌≤◌, max, Bool, true, false, cond, ◌&&◌, ◌||◌, List, [], ◌∷◌, map, Option, Some, None, IsSomeAnd, refl, sym, ◌∙◌, ap, arith, nat_cmp}
use Rattle.std.specs.Prelude.{◌==◌, nat_lt, nat_le}
use Rattle.std.specs.List.{filter}
use Rattle.std.specs.FinMap.Entries.{is_sorted, put, where_key}
use Rattle.std.proofs.lemmas.Bool.{and_parts, and_from, ltb-true, leb-true, leb-false, lt-ltb, le-leb, eqb-true, true≢false}
use Rattle.vrx_num.specs.declared.limits.TheConstants.{WINDOW}
use Rattle.vrx_codec.specs.Meaning.{Meaning}
use Rattle.vrx_window.specs.Content.{Content, content_of, contents, contents_of}
use Rattle.vrx_window.specs.Window.{Contents, at, in_window, is_available, is_dead, is_inside, is_too_old, newest_with, after_placing, entries_with, would_of}
use Rattle.vrx_window.specs.declared.held.Held.{Held}
use Rattle.vrx_window.specs.declared.placing.Placing.TheVariants.{TooOld, Dead, Repeat, Fresh}
use Rattle.vrx_frames.specs.Completed.{is_among, packets_under}
use Rattle.vrx_frames.specs.Shape.{shape_of}
use Rattle.vrx_frames.specs.Run.{Packets}
use Rattle.vrx_frames.specs.declared.shape.Shape.{Shape}
use Rattle.vrx_core.specs.relation.StandsFor.{numbers_of, shapes_of}
use Rattle.vrx_core.proofs.relation.ListLemmas.{all-of, filter-whole}
use Rattle.vrx_core.proofs.relation.MapLemmas.{at_put-here, at_put-other, at_where, available_map, entry-available, map_put, map_where, numbers_map, sorted_map, sorted_put, sorted_where}

-- what a number needs to be fresh
fresh_by : (old dead there : Bool) → cond old TooOld (cond dead Dead (cond there Repeat Fresh)) ≡ Fresh →
    (old ≡ false) × (there ≡ false)
fresh_by true dead there h = absurd (cc)
fresh_by false true there h = absurd (cc)
fresh_by false false true h = absurd (cc)
fresh_by false false false h = (refl, refl)

-- a fresh number isn't too old, and isn't available
pub fresh-parts : (window : Contents Held) (n : ℕ) → would_of window n ≡ Fresh →
    (is_too_old window.newest n ≡ false) × (is_available n window.packets ≡ false)
fresh-parts window n h =
    fresh_by (is_too_old window.newest n) (is_dead n window.dead) (is_available n window.packets) h

-- the window, as an order
pub window-order : (newest n : ℕ) → in_window newest n ≡ true → (newest < n + WINDOW) × (n ≤ newest)
window-order newest n is = let both : (nat_lt newest (n + WINDOW) ≡ true) × (nat_le n newest ≡ true) =
    and_parts (nat_lt newest (n + WINDOW)) (nat_le n newest) is in
    (ltb-true newest (n + WINDOW) both.0, leb-true n newest both.1)

-- and back
pub order-window : (newest n : ℕ) → newest < n + WINDOW → n ≤ newest → in_window newest n ≡ true
order-window newest n below upto =
    and_from (nat_lt newest (n + WINDOW)) (nat_le n newest) (lt-ltb newest (n + WINDOW) below) (le-leb n newest upto)

-- the same, if there is a newest number
pub inside-order : (newest : Option ℕ) (n : ℕ) → is_inside newest n ≡ true →
    IsSomeAnd newest (λ m. (m < n + WINDOW) × (n ≤ m))
inside-order None n h = absurd (true≢false (sym h))
inside-order (Some m) n h = window-order m n h

-- the newest number once n is placed
pub newest-number : (newest : Option ℕ) (n : ℕ) → n ≤ newest_with newest n
newest-number None n = omega arith
newest-number (Some m) n = omega arith

-- a number inside the window isn't above the newest number once one more is placed
pub inside-upto : (newest : Option ℕ) (n m : ℕ) → is_inside newest m ≡ true → m ≤ newest_with newest n
inside-upto None n m h = absurd (true≢false (sym h))
inside-upto (Some k) n m h = let p : (k < m + WINDOW) × (m ≤ k) = window-order k m h in omega (arith, p.1)

-- a number that is fresh lies in the window once it is placed
pub fresh-inside : (newest : Option ℕ) (n : ℕ) → is_too_old newest n ≡ false →
    in_window (newest_with newest n) n ≡ true
fresh-inside None n h = order-window n n (omega arith) (omega arith)
fresh-inside (Some m) n h = let young : m < n + WINDOW =
    leb-false (n + WINDOW) m h in order-window (max m n) n (omega arith) (omega arith)

-- contents rise as what is held does
pub sorted-contents : (packets : List (ℕ × Held)) → is_sorted nat_cmp packets ≡ true →
    is_sorted nat_cmp (contents packets) ≡ true
sorted-contents packets h = sorted_map content_of packets ∙ h

-- and the same numbers are available
pub available-contents : (n : ℕ) (packets : List (ℕ × Held)) →
    is_available n (contents packets) ≡ is_available n packets
available-contents n packets = available_map content_of n packets

module _ (window : Contents Held) (n : ℕ) (held : Held) where
  -- contents of a window in which a packet was placed
  pub contents-after_placing : contents (after_placing n held window).packets ≡ entries_with
      (newest_with window.newest n) n (content_of held) (contents window.packets)
  contents-after_placing =
      map_put content_of n held (where_key nat_cmp (in_window (newest_with window.newest n)) window.packets)
      ∙ ap (put nat_cmp n (content_of held))
      (map_where content_of (in_window (newest_with window.newest n)) window.packets)

  -- the same of the whole window
  pub contents_of-after_placing : contents_of (after_placing n held window) ≡ after_placing n (content_of held)
      (contents_of window)
  contents_of-after_placing =
      ap (λ ps. record (contents_of (after_placing n held window)) { packets = ps }) contents-after_placing

  -- they stay in order
  pub sorted-after_placing : is_sorted nat_cmp window.packets ≡ true →
      is_sorted nat_cmp (contents (after_placing n held window).packets) ≡ true
  sorted-after_placing h =
      sorted-contents (after_placing n held window).packets
      (sorted_put n held (where_key nat_cmp (in_window (newest_with window.newest n)) window.packets)
      (sorted_where (in_window (newest_with window.newest n)) window.packets h))

  -- the packet stands under its number
  pub after_placing-here : at n (contents (after_placing n held window).packets) ≡ Some (content_of held)
  after_placing-here = ap (at n) contents-after_placing
      ∙ at_put-here n (content_of held)
      (where_key nat_cmp (in_window (newest_with window.newest n)) (contents window.packets))

  -- under each other number stands what stood there, if the number is left in the window
  pub after_placing-other : (q : ℕ) → q ≢ n →
      at q (contents (after_placing n held window).packets) ≡ cond (in_window (newest_with window.newest n) q)
      (at q (contents window.packets)) None
  after_placing-other q other = ap (at q) contents-after_placing
      ∙ at_put-other q n (content_of held)
      (where_key nat_cmp (in_window (newest_with window.newest n)) (contents window.packets)) other
      ∙ at_where (in_window (newest_with window.newest n)) q (contents window.packets)

  -- what is left in the window is as it was
  pub after_placing-stays : (q : ℕ) → is_available n window.packets ≡ false →
      is_available q (contents window.packets) ≡ true → in_window (newest_with window.newest n) q ≡ true
      → at q (contents (after_placing n held window).packets) ≡ at q (contents window.packets)
  after_placing-stays q missing there inside =
      after_placing-other q other ∙ ap (λ b. cond b (at q (contents window.packets)) None) inside where
        other : q ≢ n
        other same = true≢false (sym there ∙ ap (λ k. is_available k (contents window.packets)) same
            ∙ available-contents n window.packets ∙ missing)

  -- what stands there stood there, and is left, or is n
  pub after_placing-from : (q : ℕ) (content : Content) → q ≢ n →
      at q (contents (after_placing n held window).packets) ≡ Some content →
      (in_window (newest_with window.newest n) q ≡ true) × (at q (contents window.packets) ≡ Some content)
  after_placing-from q content other is =
      either (in_window (newest_with window.newest n) q) (at q (contents window.packets))
      (sym (after_placing-other q other) ∙ is) where
        either : (b : Bool) (o : Option Content) → cond b o None ≡ Some content → (b ≡ true) × (o ≡ Some content)
        either true o h = (refl, h)
        either false o h = absurd (cc)

-- what is known, if all that is held is told
pub told-whole : (codec : Meaning) (told : List (ℕ × Shape)) (packets : Packets) → told ≡ shapes_of codec packets →
    packets_under told packets ≡ packets
told-whole codec told packets is =
    filter-whole (λ e. is_available e.0 told) packets (all-of (λ e. is_available e.0 told ≡ true) packets
    (λ e c. ap (λ t. is_available e.0 t) is ∙ available_map (shape_of codec) e.0 packets
    ∙ entry-available packets e c))

-- a number is told if it is held
pub told-available : (codec : Meaning) (told : List (ℕ × Shape)) (packets : Packets) (n : ℕ) →
    told ≡ shapes_of codec packets → is_available n told ≡ is_available n packets
told-available codec told packets n is = ap (is_available n) is ∙ available_map (shape_of codec) n packets

-- the numbers told
pub told-numbers : (codec : Meaning) (told : List (ℕ × Shape)) (packets : Packets) → told ≡ shapes_of codec packets →
    map (λ (entry : ℕ × Shape). entry.0) told ≡ numbers_of packets
told-numbers codec told packets is =
    ap (λ (es : List (ℕ × Shape)). map (λ (e : ℕ × Shape). e.0) es) is ∙ numbers_map (shape_of codec) packets

-- a number is among those that pass a test if it passes and is among them
pub among-filter : (test : ℕ → Bool) (ns : List ℕ) (n : ℕ) → is_among (filter test ns) n ≡ (test n && is_among ns n)
among-filter test [] n = and_false (test n) where
  and_false : (b : Bool) → false ≡ (b && false)
  and_false true = refl
  and_false false = refl
among-filter test (k ∷ ks) n = either (n == k) refl (test k) refl (among-filter test ks n) where
  either : (same : Bool) → (n == k) ≡ same → (b : Bool) → test k ≡ b →
      is_among (filter test ks) n ≡ (test n && is_among ks n) →
      is_among (cond b (k ∷ filter test ks) (filter test ks)) n ≡ (test n && (same || is_among ks n))
  either true is true pass rest =
      ap (λ c. c || is_among (filter test ks) n) is ∙ sym (ap (λ c. c && true) (ap test (eqb-true n k is) ∙ pass))
  either true is false fail rest = rest ∙ ap (λ c. c && is_among ks n) (ap test (eqb-true n k is) ∙ fail)
      ∙ sym (ap (λ c. c && true) (ap test (eqb-true n k is) ∙ fail))
  either false is true pass rest = ap (λ c. c || is_among (filter test ks) n) is ∙ rest
  either false is false fail rest = rest
