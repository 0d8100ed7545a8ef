-- FEC packets among those that are held, and their marks.
use Rattle.std.proofs.Common.{◌≡◌, ◌≢◌, ℕ, ◌+◌, ◌%◌, ◌<◌, ◌≤◌, ◌⊎◌, Bool, true, false, cond, ◌&&◌, List, [], ◌∷◌, length, refl, sym, ◌∙◌, ap, arith, inl, inr, nat_cmp, is_lt}
use Rattle.std.specs.Prelude.{◌==◌, Option, Some, None, is_some, nat_le}
use Rattle.std.specs.List.{find}
use Rattle.std.specs.Option.{option_and_then, option_map}
use Rattle.std.specs.Ordering.{eq_by_cmp}
use Rattle.std.specs.FinMap.Entries.{below_all, is_sorted}
use Rattle.std.proofs.lemmas.Bool.{and_parts, cases_eq, cases_lt, eq-eqb, false_from_ne_true, le-leb, leb-true, ne_eqb, true≢false}
use Rattle.std.proofs.lemmas.Grind.{common_steps}
use Rattle.vrx_num.specs.declared.limits.TheConstants.{WINDOW}
use Rattle.vrx_window.specs.Content.{is_fec, is_fec_held, next_fec}
use Rattle.vrx_window.specs.Fates.{packet_of, window_of}
use Rattle.vrx_window.specs.IsWindow.{IsWindow}
use Rattle.vrx_window.specs.Marks.{IsMarked, is_fec_fate, is_marked}
use Rattle.vrx_window.specs.Numbered.{IsNumbered, Numbered}
use Rattle.vrx_window.specs.Window.{Contents, at, entries_in, entries_with, in_window, is_available, is_inside, is_too_old, newest_with}
use Rattle.vrx_window.specs.declared.fate.Fate.{Fate}
use Rattle.vrx_window.specs.declared.fate.Fate.TheVariants.{Taken, GivenUp}
use Rattle.vrx_window.specs.declared.held.Held.{Held}
use Rattle.vrx_window.proofs.EntryLemmas.{find_put, find_where}
use Rattle.vrx_window.proofs.NumberLemmas.{inside_with, same_slot}
use Rattle.vrx_window.proofs.WindowLemmas.{packet_at}

-- a fate was put under a number, and the number's mark made
module _ (ring after : Numbered Fate) (marks later : List ℕ) (had has : Bool) (was : IsMarked ring marks had)
    (sound : IsNumbered after) (n : ℕ) (fate : Fate) (young : is_too_old ring.newest n ≡ false)
    (put_in : after.entries ≡ entries_with (newest_with ring.newest n) n fate ring.entries)
    (long : length later ≡ 32) (here : is_fec_fate (Some fate) ≡ true → is_marked later n ≡ true)
    (others : (m : ℕ) → m % WINDOW ≢ n % WINDOW → is_marked later m ≡ is_marked marks m)
    (one : is_fec_fate (Some fate) ≡ true → has ≡ true) (keeps : had ≡ true → has ≡ true) where
  abbrev next : ℕ
  next = newest_with ring.newest n

  at_after : (m : ℕ) →
      at m after.entries ≡ cond (m == n) (Some fate) (cond (in_window next m) (at m ring.entries) None)
  at_after m = ap (at m) put_in ∙ find_put m n fate (entries_in next ring.entries)
      ∙ ap (cond (m == n) (Some fate)) (find_where (in_window next) m ring.entries)

  stays : (m : ℕ) → m ≢ n → (b : Bool) → in_window next m ≡ b →
      is_fec_fate (cond b (at m ring.entries) None) ≡ true → is_marked later m ≡ true
  stays m apart false away fec = absurd (true≢false (sym fec))
  stays m apart true inside fec =
      others m (λ same. apart (same_slot next m n inside (inside_with ring.newest n young) same)) ∙ was.marked m fec

  -- a FEC packet is the one that was put in, or was there before
  either : (m : ℕ) → is_fec_fate (at m after.entries) ≡ true →
      ((m ≡ n) × (is_fec_fate (Some fate) ≡ true))
      ⊎ ((m ≢ n) × (is_fec_fate (cond (in_window next m) (at m ring.entries) None) ≡ true))
  either m fec = elim (cases_eq m n) [
    | inl same ↦ inl (
      same,
      sym (ap is_fec_fate (at_after m
          ∙ ap (λ b. cond b (Some fate) (cond (in_window next m) (at m ring.entries) None)) (eq-eqb m n same))) ∙ fec,
    )
    | inr apart ↦ inr (
      apart,
      sym (ap is_fec_fate (at_after m
          ∙ ap (λ b. cond b (Some fate) (cond (in_window next m) (at m ring.entries) None)) (ne_eqb m n apart))) ∙ fec,
    )
  ]

  marked : (m : ℕ) → is_fec_fate (at m after.entries) ≡ true → is_marked later m ≡ true
  marked m fec = elim (either m fec) [
    | inl put ↦ ap (is_marked later) put.0 ∙ here put.1
    | inr old ↦ stays m old.0 (in_window next m) refl old.1
  ]

  there : (m : ℕ) → (b : Bool) → is_fec_fate (cond b (at m ring.entries) None) ≡ true → had ≡ true
  there m false fec = absurd (true≢false (sym fec))
  there m true fec = was.some m fec

  some : (m : ℕ) → is_fec_fate (at m after.entries) ≡ true → has ≡ true
  some m fec = elim (either m fec) [
    | inl put ↦ one put.1
    | inr old ↦ keeps (there m (in_window next m) old.1)
  ]

  pub marked_after : IsMarked after later has
  marked_after = record { sound = sound; words = long; marked = marked; some = some }

-- what is held by a fate is a FEC packet just if the fate is one
held_by : (o : Option Fate) → is_fec_held (option_and_then packet_of o) ≡ is_fec_fate o
held_by None = refl
held_by (Some (Taken held)) = refl
held_by (Some GivenUp) = refl

-- a number that isn't marked has no FEC packet
pub unmarked : (first : Option ℕ) (ring : Numbered Fate) (marks : List ℕ) (has : Bool) → IsMarked ring marks has →
    (window : Contents Held) → window_of first ring ≡ window → (k : ℕ) → is_marked marks k ≡ false →
    is_fec_held (at k window.packets) ≡ false
unmarked first ring marks has is window shows k away =
    ap (λ w. is_fec_held (at k w.packets)) (sym shows)
    ∙ ap is_fec_held (packet_at first ring is.sound k (at k ring.entries) refl)
    ∙ held_by (at k ring.entries)
    ∙ false_from_ne_true (is_fec_fate (at k ring.entries)) (λ fec. true≢false (sym (is.marked k fec) ∙ away))

-- nor has any number, if none was ever placed
pub never_held : (first : Option ℕ) (ring : Numbered Fate) (marks : List ℕ) → IsMarked ring marks false →
    (window : Contents Held) → window_of first ring ≡ window → (k : ℕ) → is_fec_held (at k window.packets) ≡ false
never_held first ring marks is window shows k =
    ap (λ w. is_fec_held (at k w.packets)) (sym shows)
    ∙ ap is_fec_held (packet_at first ring is.sound k (at k ring.entries) refl)
    ∙ held_by (at k ring.entries)
    ∙ false_from_ne_true (is_fec_fate (at k ring.entries)) (λ fec. true≢false (sym (is.some k fec)))

none_held : (o : Option Held) → is_some o ≡ false → is_fec_held o ≡ false
none_held None h = refl
none_held (Some held) h = absurd (true≢false h)

-- a number outside the window has none
pub unheld_outside : (window : Contents Held) → IsWindow window → (k : ℕ) → is_inside window.newest k ≡ false →
    is_fec_held (at k window.packets) ≡ false
unheld_outside window is k outside = none_held (at k window.packets)
    (false_from_ne_true (is_available k window.packets) (λ there. true≢false (sym (is.packets_inside k there) ∙ outside)))

-- keys that tie are equal, and a lesser one is less
same_key : (n k : ℕ) → eq_by_cmp nat_cmp n k ≡ true → n ≡ k
same_key n k h = grind (arith, common_steps)

less_key : (n k : ℕ) → is_lt (nat_cmp n k) ≡ true → n < k
less_key n k h = grind (arith, common_steps)

-- what stands under the first entry's number, and under another
at_first : (e : ℕ × Held) (es : List (ℕ × Held)) → at e.0 (e ∷ es) ≡ Some e.1
at_first e es = let same : eq_by_cmp nat_cmp e.0 e.0 ≡ true =
    grind (arith, common_steps) in ap (λ b. cond b (Some e.1) (at e.0 es)) same

at_later : (k : ℕ) (e : ℕ × Held) (es : List (ℕ × Held)) → k ≢ e.0 → at k (e ∷ es) ≡ at k es
at_later k e es apart = ap (λ b. cond b (Some e.1) (at k es))
    (false_from_ne_true (eq_by_cmp nat_cmp k e.0) (λ same. apart (same_key k e.0 same)))

-- an available number is beyond each that the entries are
beyond : (x k : ℕ) (es : List (ℕ × Held)) → below_all nat_cmp x es ≡ true → is_available k es ≡ true → x < k
beyond x k [] below there = absurd (true≢false (sym there))
beyond x k (e ∷ es) below there = elim (cases_eq k e.0) [
  | inl same ↦ (let first : x < e.0 = less_key x e.0 parts.0 in omega arith)
  | inr apart ↦ beyond x k es parts.1 (ap is_some (sym (at_later k e es apart)) ∙ there)
] where
  parts : (is_lt (nat_cmp x e.0) ≡ true) × (below_all nat_cmp x es ≡ true)
  parts = and_parts (is_lt (nat_cmp x e.0)) (below_all nat_cmp x es) below

fec_available : (o : Option Held) → is_fec_held o ≡ true → is_some o ≡ true
fec_available None h = h
fec_available (Some held) h = refl

-- the test of `next_fec`
abbrev test : ℕ → ℕ × Held → Bool
test from e = nat_le from e.0 && is_fec e.1

module _ (from : ℕ) (e : ℕ × Held) (es : List (ℕ × Held)) (sorted : is_sorted nat_cmp (e ∷ es) ≡ true) where
  sorts : (below_all nat_cmp e.0 es ≡ true) × (is_sorted nat_cmp es ≡ true)
  sorts = and_parts (below_all nat_cmp e.0 es) (is_sorted nat_cmp es) sorted

  -- a FEC packet among the other entries stands there in the whole
  among : (k : ℕ) → is_fec_held (at k es) ≡ true → is_fec_held (at k (e ∷ es)) ≡ true
  among k fec =
      let after : e.0 < k = beyond e.0 k es sorts.0 (fec_available (at k es) fec) in
      ap is_fec_held (at_later k e es (λ same. omega arith)) ∙ fec

  -- if the first entry's number has none from one on, the first entry fails
  fails : (from ≤ e.0 → is_fec_held (at e.0 (e ∷ es)) ≡ false) → test from e ≡ false
  fails none = false_from_ne_true (test from e) (λ passes.
      let both = and_parts (nat_le from e.0) (is_fec e.1) passes in
      true≢false (sym both.1 ∙ sym (ap is_fec_held (at_first e es)) ∙ none (leb-true from e.0 both.0)))

  skips : test from e ≡ false → next_fec from (e ∷ es) ≡ next_fec from es
  skips not_it = ap (λ b. option_map (λ (d : ℕ × Held). d.0) (cond b (Some e) (find (test from) es))) not_it

-- if no number from one on has a FEC packet, there is no next one
pub next_none : (from : ℕ) (es : List (ℕ × Held)) → is_sorted nat_cmp es ≡ true →
    ((k : ℕ) → from ≤ k → is_fec_held (at k es) ≡ false) → next_fec from es ≡ None
next_none from [] sorted none = refl
next_none from (e ∷ es) sorted none =
    skips from e es sorted (fails from e es sorted (none e.0))
    ∙ next_none from es (sorts from e es sorted).1 (λ k later. false_from_ne_true (is_fec_held (at k es))
    (λ fec. true≢false (sym (among from e es sorted k fec) ∙ none k later)))

-- the first entry is the next one if its number is at least this and has a FEC packet
next_here : (from m : ℕ) (e : ℕ × Held) (es : List (ℕ × Held)) → from ≤ m → m ≡ e.0 →
    is_fec_held (at m (e ∷ es)) ≡ true → next_fec from (e ∷ es) ≡ Some m
next_here from m e es later same fec =
    let first : is_fec e.1 ≡ true = sym (ap is_fec_held (ap (λ k. at k (e ∷ es)) same ∙ at_first e es)) ∙ fec in
    let upto : nat_le from e.0 ≡ true = le-leb from e.0 (omega arith) in
    ap (λ b. option_map (λ (d : ℕ × Held). d.0) (cond (b && is_fec e.1) (Some e) (find (test from) es))) upto
    ∙ ap (λ b. option_map (λ (d : ℕ × Held). d.0) (cond b (Some e) (find (test from) es))) first
    ∙ ap Some (sym same)

-- the least number from one on that has one is the next
pub next_found : (from m : ℕ) (es : List (ℕ × Held)) → is_sorted nat_cmp es ≡ true → from ≤ m →
    is_fec_held (at m es) ≡ true → ((k : ℕ) → from ≤ k → k < m → is_fec_held (at k es) ≡ false) →
    next_fec from es ≡ Some m
next_found from m [] sorted later fec none = absurd (true≢false (sym fec))
next_found from m (e ∷ es) sorted later fec none = elim (cases_eq m e.0) [
  | inl same ↦ next_here from m e es later same fec
  | inr apart ↦
      (let is : is_fec_held (at m es) ≡ true = sym (ap is_fec_held (at_later m e es apart)) ∙ fec in
      let after : e.0 < m = beyond e.0 m es (sorts from e es sorted).0 (fec_available (at m es) is) in
      skips from e es sorted (fails from e es sorted (λ upto. none e.0 upto after))
      ∙ next_found from m es (sorts from e es sorted).1 later is (λ k upto before.
      false_from_ne_true (is_fec_held (at k es))
      (λ held. true≢false (sym (among from e es sorted k held) ∙ none k upto before))))
]

-- a number beyond the newest has none
pub unheld_beyond : (window : Contents Held) → IsWindow window → (newest : ℕ) → window.newest ≡ Some newest → (k : ℕ) →
    newest < k → is_fec_held (at k window.packets) ≡ false
unheld_beyond window is newest newest_is k beyond = unheld_outside window is k
    (ap (λ o. is_inside o k) newest_is ∙ (let out : is_inside (Some newest) k ≡ false = grind (arith, common_steps) in out))

-- the numbers so far had none, and those after them aren't marked
module _ (first : Option ℕ) (ring : Numbered Fate) (marks : List ℕ) (has : Bool) (is : IsMarked ring marks has)
    (window : Contents Held) (shows : window_of first ring ≡ window) (from n next : ℕ)
    (so_far : (k : ℕ) → from ≤ k → k < n → is_fec_held (at k window.packets) ≡ false)
    (passed : (k : ℕ) → n ≤ k → k < next → is_marked marks k ≡ false) where
  pub none_before_next : (k : ℕ) → from ≤ k → k < next → is_fec_held (at k window.packets) ≡ false
  none_before_next k upto before = elim (cases_lt k n) [
    | inl less ↦ so_far k upto less
    | inr more ↦ unmarked first ring marks has is window shows k (passed k more before)
  ]

  pub none_upto_next : is_fec_held (at next window.packets) ≡ false → (k : ℕ) → from ≤ k → k < next + 1 →
      is_fec_held (at k window.packets) ≡ false
  none_upto_next none k upto before = elim (cases_lt k next) [
    | inl less ↦ none_before_next k upto less
    | inr more ↦ (let same : k ≡ next = omega arith in ap (λ m. is_fec_held (at m window.packets)) same ∙ none)
  ]
