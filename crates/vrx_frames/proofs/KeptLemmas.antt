-- Keeping what is told.
use Rattle.std.proofs.Common.{◌≡◌, ◌≢◌, ℕ, ◌+◌, ◌-◌, ◌≤◌, ◌⊎◌, Bool, true, false, cond, ◌&&◌, ◌||◌, List, refl, sym, ◌∙◌, ap, arith, inl, inr}
use Rattle.std.specs.Prelude.{◌==◌, Option, Some, None, is_some}
use Rattle.std.specs.Option.{option_map, option_map_or}
use Rattle.std.proofs.lemmas.Bool.{and_parts, false_from_ne_true, true≢false, eq-eqb, ne_eqb, cases_eq, leb-true}
use Rattle.std.proofs.lemmas.Grind.{common_steps}
use Rattle.std.proofs.lemmas.Option.{none-some}
use Rattle.vrx_window.specs.Window.{at, is_inside, in_window, newest_with, entries_in, entries_with}
use Rattle.vrx_window.specs.Numbered.{Numbered, IsNumbered}
use Rattle.vrx_frames.specs.Completed.{IsUpTo}
use Rattle.vrx_frames.specs.Kept.{fresh, arrival_with, ends_in, remember_if, settled_arrival, IsKept}
use Rattle.vrx_frames.specs.Linked.{ends, ends_at, after_remembering}
use Rattle.vrx_frames.specs.declared.shape.Shape.{Shape}
use Rattle.vrx_frames.specs.declared.arrival.Arrival.{Arrival}
use Rattle.vrx_frames.proofs.MapLemmas.{at_put, at_where}

-- b or nothing
or-false : (b : Bool) → (b || false) ≡ b
or-false true = refl
or-false false = refl

pub or-true : (b : Bool) → (b || true) ≡ true
or-true true = refl
or-true false = refl

-- where a test that fails adds nothing
pub or-when : (a b : Bool) → (b ≡ true → a ≡ true) → a ≡ (a || b)
or-when true b so = refl
or-when false true so = so refl
or-when false false so = refl

-- what is remembered of the number told, of the one after it, and of others
memory-here : (b x y z p q : Bool) → p ≡ true → q ≡ false → z ≡ x → ((b || (p && x)) || (q && y)) ≡ (b || z)
memory-here b x y z true false h k e = or-false (b || x) ∙ ap (λ v. b || v) (sym e)
memory-here b x y z true true h k e = absurd (true≢false k)
memory-here b x y z false q h k e = absurd (true≢false (sym h))

memory-next : (b x y z p q : Bool) → p ≡ false → q ≡ true → z ≡ y → ((b || (p && x)) || (q && y)) ≡ (b || z)
memory-next b x y z false true h k e = ap (λ v. v || y) (or-false b) ∙ ap (λ v. b || v) (sym e)
memory-next b x y z false false h k e = absurd (true≢false (sym k))
memory-next b x y z true q h k e = absurd (true≢false h)

memory-other : (b x y z p q : Bool) → p ≡ false → q ≡ false → (z ≡ true → b ≡ true) →
    ((b || (p && x)) || (q && y)) ≡ (b || z)
memory-other b x y z false false h k e = or-false (b || false) ∙ or-false b ∙ or-when b z e
memory-other b x y z false true h k e = absurd (true≢false k)
memory-other b x y z true q h k e = absurd (true≢false h)

-- the newest number of a ring that was moved
pub newest-moved : (earlier : Option ℕ) (newest : ℕ) → IsUpTo earlier (Some newest) →
    newest_with earlier newest ≡ newest
newest-moved None newest upto = refl
newest-moved (Some e) newest upto = let h : e ≤ newest = upto in grind (arith, common_steps)

-- and where a number of the window is placed
pub newest-placed : (newest n : ℕ) → in_window newest n ≡ true → newest_with (Some newest) n ≡ newest
newest-placed newest n inside = grind (arith, common_steps)

-- a number of the window isn't above the newest
pub in-upto : (newest n : ℕ) → in_window newest n ≡ true → n ≤ newest
in-upto newest n inside = leb-true n newest (and_parts _ _ inside).1

-- the newest number stays where a number that is there is placed anew
pub newest-kept : (ring : Numbered Arrival) (n : ℕ) (told : Arrival) → IsNumbered ring →
    at n ring.entries ≡ Some told → ring.newest ≡ Some (newest_with ring.newest n)
newest-kept ring n told numbered is = either ring.newest (numbered.inside n (ap is_some is)) where
  either : (o : Option ℕ) → is_inside o n ≡ true → o ≡ Some (newest_with o n)
  either None inside = absurd (true≢false (sym inside))
  either (Some newest) inside = ap Some (sym (newest-placed newest n inside))

-- what stands under numbers, by a function of the number
abbrev pub Under : Type 0
Under = ℕ → Option Arrival

-- a number is remembered, as a function of what stands under numbers
abbrev with_memory : ℕ → Under → Under
with_memory n under m = option_map
    (λ told. record { shape = told.shape; began = told.began || ((m == n) && ends_in under (n - 1)) }) (under m)

-- the same under each number, the same memory
same_memory : (n : ℕ) (a b : Under) → ((m : ℕ) → a m ≡ b m) → (m : ℕ) → with_memory n a m ≡ with_memory n b m
same_memory n a b same m =
    ap (λ o. option_map (λ told. record { shape = told.shape; began = told.began || ((m == n) && ends_in a (n - 1)) })
    o) (same m)
    ∙ ap (λ e. option_map (λ told. record { shape = told.shape; began = told.began || ((m == n) && e) }) (b m))
    (ap (λ o. option_map_or (λ (told : Arrival). ends told.shape) o false) (same (n - 1)))

-- memory changes no shape
ends-memory : (n : ℕ) (under : Under) (k : ℕ) → ends_in (with_memory n under) k ≡ ends_in under k
ends-memory n under k = elim (under k) as (λ o.
    option_map_or (λ (told : Arrival). ends told.shape)
    (option_map (λ told. record { shape = told.shape; began = told.began || ((k == n) && ends_in under (n - 1)) }) o)
    false ≡ option_map_or (λ (told : Arrival). ends told.shape) o false) [ None ↦ refl | Some t ↦ refl ]

-- what is under a number that is available, by cases
pub under-cases : (o : Option Arrival) → (o ≡ None) ⊎ ((told : Arrival) × (o ≡ Some told))
under-cases None = inl refl
under-cases (Some told) = inr (told, refl)

-- what ends a frame is there
ends-some : (under : Under) (n : ℕ) → ends_in under n ≡ true → (told : Arrival) × (under n ≡ Some told)
ends-some under n h = elim (under-cases (under n)) [
  | inl none ↦ absurd (true≢false
      (sym h ∙ ap (λ o. option_map_or (λ (told : Arrival). ends told.shape) o false) none))
  | inr some ↦ some
]

module _ (newest n : ℕ) (shape : Shape) (ring : Numbered Arrival) (kept : IsKept ring)
    (inside : in_window newest n ≡ true) where
  abbrev pub now : Under
  now = arrival_with newest n shape ring.entries

  -- what stands under the number told
  pub now-here : now n ≡ Some (fresh shape)
  now-here =
      ap (λ b. cond b (Some (fresh shape)) (cond (in_window newest n) (at n ring.entries) None)) (eq-eqb n n refl)

  pub now-other : (m : ℕ) → m ≢ n → now m ≡ cond (in_window newest m) (at m ring.entries) None
  now-other m other =
      ap (λ b. cond b (Some (fresh shape)) (cond (in_window newest m) (at m ring.entries) None)) (ne_eqb m n other)

  -- what stands under a number that stood there
  pub was : (m : ℕ) (told : Arrival) → m ≢ n → now m ≡ Some told →
      (in_window newest m ≡ true) × (at m ring.entries ≡ Some told)
  was m told other is = tested (in_window newest m) (at m ring.entries) told (sym (now-other m other) ∙ is) where
    tested : (b : Bool) (o : Option Arrival) (t : Arrival) → cond b o None ≡ Some t → (b ≡ true) × (o ≡ Some t)
    tested true o t e = (refl, e)
    tested false o t e = absurd (none-some t e)

  -- a number that isn't the one told, nor stands right after it, was remembered before, if it stands after the end
  -- of a frame
  pub settled : (m : ℕ) (told : Arrival) → m ≢ n → m ≢ n + 1 → now m ≡ Some told → ends_in now (m - 1) ≡ true →
      told.began ≡ true
  settled m told other later is behind =
      let before : m - 1 ≢ n = λ same. omega arith in
      let there : (t : Arrival) × (now (m - 1) ≡ Some t) = ends-some now (m - 1) behind in
      let old : (in_window newest m ≡ true) × (at m ring.entries ≡ Some told) = was m told other is in
      let old' : (in_window newest (m - 1) ≡ true) × (at (m - 1) ring.entries ≡ Some there.0) =
      was (m - 1) there.0 before there.1 in
      kept.settled m told old.1
      (ap (λ o. option_map_or (λ (t : Arrival). ends t.shape) o false) (old'.1 ∙ sym there.1) ∙ behind)

  -- what is under a number after the first step
  first-step : (m : ℕ) (told : Arrival) → now m ≡ Some told →
      with_memory n now m ≡ Some
      (record { shape = told.shape; began = told.began || ((m == n) && ends_in now (n - 1)) })
  first-step m told is = ap
      (option_map (λ (t : Arrival). record { shape = t.shape; began = t.began || ((m == n) && ends_in now (n - 1)) }))
      is

  last-step : (m : ℕ) (told : Arrival) → now m ≡ Some told →
      settled_arrival newest n shape ring.entries m ≡ Some (remember_if (ends_in now (m - 1)) told)
  last-step m told is = ap (option_map (remember_if (ends_in now (m - 1)))) is

  made : Arrival → Bool → Option Arrival
  made told b = Some (record { shape = told.shape; began = b })

  second-step : (m : ℕ) (told : Arrival) → now m ≡ Some told
      → with_memory (n + 1) (with_memory n now) m ≡ made told
      ((told.began || ((m == n) && ends_in now (n - 1))) || ((m == n + 1) && ends_in (with_memory n now) (n + 1 - 1)))
  unfolding made
  second-step m told is = ap
      (option_map (λ (t : Arrival).
      record { shape = t.shape; began = t.began || ((m == n + 1) && ends_in (with_memory n now) (n + 1 - 1)) }))
      (first-step m told is)

  -- what was remembered in two steps is what is remembered
  both-told : (m : ℕ) (told : Arrival) → now m ≡ Some told
      → ((told.began || ((m == n) && ends_in now (n - 1)))
      || ((m == n + 1) && ends_in (with_memory n now) (n + 1 - 1))) ≡ (told.began || ends_in now (m - 1))
  both-told m told is = elim (cases_eq m n) [
    | inl here ↦ memory-here told.began _ _ _ (m == n) (m == n + 1) (eq-eqb m n here)
        (ne_eqb m (n + 1) (λ e. absurd (omega arith))) (ap (λ k. ends_in now (k - 1)) here)
    | inr other ↦ elim (cases_eq m (n + 1)) [
      | inl next ↦ memory-next told.began _ _ _ (m == n) (m == n + 1) (ne_eqb m n other) (eq-eqb m (n + 1) next)
          (ap (λ k. ends_in now (k - 1)) next ∙ sym (ends-memory n now (n + 1 - 1)))
      | inr later ↦ memory-other told.began _ _ _ (m == n) (m == n + 1) (ne_eqb m n other) (ne_eqb m (n + 1) later)
          (settled m told other later is)
    ]
  ]

  both-steps : (m : ℕ) → with_memory (n + 1) (with_memory n now) m ≡ settled_arrival newest n shape ring.entries m
  unfolding made
  both-steps m = elim (under-cases (now m)) [
    | inl none ↦ ap (λ o. option_map
        (λ (t : Arrival). record {
          shape = t.shape;
          began = t.began || ((m == n + 1) && ends_in (with_memory n now) (n + 1 - 1));
        })
        (option_map (λ (t : Arrival).
        record { shape = t.shape; began = t.began || ((m == n) && ends_in now (n - 1)) }) o)) none
        ∙ sym (ap (option_map (remember_if (ends_in now (m - 1)))) none)
    | inr some ↦ second-step m some.0 some.1 ∙ ap (made some.0) (both-told m some.0 some.1)
        ∙ sym (last-step m some.0 some.1)
  ]

  -- if no number follows, one step is enough
  one-told : (m : ℕ) (told : Arrival) → now (n + 1) ≡ None → now m ≡ Some told →
      (told.began || ((m == n) && ends_in now (n - 1))) ≡ (told.began || ends_in now (m - 1))
  one-told m told last is = elim (cases_eq m n) [
    | inl here ↦ sym (or-false _)
        ∙ memory-here told.began _ false _ (m == n) false (eq-eqb m n here) refl (ap (λ k. ends_in now (k - 1)) here)
    | inr other ↦ elim (cases_eq m (n + 1)) [
      | inl next ↦ absurd (none-some told (sym last ∙ ap now (sym next) ∙ is))
      | inr later ↦ sym (or-false _)
          ∙ memory-other told.began _ false _ (m == n) false (ne_eqb m n other) refl (settled m told other later is)
    ]
  ]

  one-step : (m : ℕ) → now (n + 1) ≡ None → with_memory n now m ≡ settled_arrival newest n shape ring.entries m
  unfolding made
  one-step m last = elim (under-cases (now m)) [
    | inl none ↦ ap (option_map
        (λ (t : Arrival). record { shape = t.shape; began = t.began || ((m == n) && ends_in now (n - 1)) })) none
        ∙ sym (ap (option_map (remember_if (ends_in now (m - 1)))) none)
    | inr some ↦ first-step m some.0 some.1 ∙ ap (made some.0) (one-told m some.0 last some.1)
        ∙ sym (last-step m some.0 some.1)
  ]

  -- the ring after it was moved and n was placed
  module _ (moved placed : List (ℕ × Arrival)) (m0 m1 : ℕ) (is0 : m0 ≡ newest) (is1 : m1 ≡ newest)
      (moved_is : moved ≡ entries_in m0 ring.entries)
      (placed_is : placed ≡ entries_with m1 n (fresh shape) moved) where
    at-placed : (m : ℕ) → at m placed ≡ now m
    at-placed m =
        ap (at m) placed_is
        ∙ at_put m n (fresh shape) (entries_in m1 moved)
        ∙ ap (cond (m == n) (Some (fresh shape)))
        (at_where (in_window m1) m moved ∙ ap (λ k. cond (in_window k m) (at m moved) None) is1
        ∙ ap (λ o. cond (in_window newest m) o None)
        (ap (at m) moved_is ∙ at_where (in_window m0) m ring.entries
        ∙ ap (λ k. cond (in_window k m) (at m ring.entries) None) is0)
        ∙ twice (in_window newest m) (at m ring.entries)) where
          twice : (b : Bool) (o : Option Arrival) → cond b (cond b o None) None ≡ cond b o None
          twice true o = refl
          twice false o = refl

    -- one number remembered
    pub told-once : (first : List (ℕ × Arrival)) → ((m : ℕ) → at m first ≡ after_remembering n placed m) →
        newest ≤ n → (m : ℕ) → at m first ≡ settled_arrival newest n shape ring.entries m
    told-once first step last m = step m ∙ same_memory n (λ k. at k placed) now at-placed m ∙ one-step m none where
      beyond : in_window newest (n + 1) ≡ false
      beyond = false_from_ne_true (in_window newest (n + 1))
          (λ h. let k : n + 1 ≤ newest = in-upto newest (n + 1) h in omega arith)

      none : now (n + 1) ≡ None
      none = now-other (n + 1) (λ e. absurd (omega arith)) ∙ ap (λ b. cond b (at (n + 1) ring.entries) None) beyond

    -- and the number after it
    pub told-twice : (first second : List (ℕ × Arrival)) → ((m : ℕ) → at m first ≡ after_remembering n placed m) →
        ((m : ℕ) → at m second ≡ after_remembering (n + 1) first m) → (m : ℕ) →
        at m second ≡ settled_arrival newest n shape ring.entries m
    told-twice first second step next m =
        next m ∙ same_memory (n + 1) (λ k. at k first) (with_memory n now)
        (λ k. step k ∙ same_memory n (λ l. at l placed) now at-placed k) m ∙ both-steps m

-- a number that was told is remembered, by placing it anew
pub remember-placed : (n next : ℕ) (told : Arrival) (ring : Numbered Arrival) (entries : List (ℕ × Arrival)) →
    IsNumbered ring → ring.newest ≡ Some next → at n ring.entries ≡ Some told → ends_at ring.entries (n - 1) ≡ true →
    entries ≡ entries_with next n (record { shape = told.shape; began = true }) ring.entries → (m : ℕ) →
    at m entries ≡ after_remembering n ring.entries m
remember-placed n next told ring entries numbered newest is behind entries_are m =
    ap (at m) entries_are ∙ at_put m n (record { shape = told.shape; began = true }) (entries_in next ring.entries)
    ∙ ap (cond (m == n) (Some (record { shape = told.shape; began = true }))) left ∙ same (cases_eq m n) where
      left : at m (entries_in next ring.entries) ≡ at m ring.entries
      left = at_where (in_window next) m ring.entries ∙ kept (at m ring.entries) refl where
        kept : (o : Option Arrival) → at m ring.entries ≡ o → cond (in_window next m) o None ≡ o
        kept None none = either (in_window next m) where
          either : (b : Bool) → ◌≡◌ {A = Option Arrival} (cond b None None) None
          either true = refl
          either false = refl
        kept (Some t) there = ap (λ b. cond b (Some t) None)
            (ap (λ o. is_inside o m) (sym newest) ∙ numbered.inside m (ap is_some there))

      same : (m ≡ n) ⊎ (m ≡ n → ⊥) →
          cond (m == n) (Some (record { shape = told.shape; began = true })) (at m ring.entries)
          ≡ after_remembering n ring.entries m
      same (inl here) =
          let e : (m == n) ≡ true = eq-eqb m n here in
          ap (λ b. cond b (Some (record { shape = told.shape; began = true })) (at m ring.entries)) e
          ∙ ap (λ b. Some (record { shape = told.shape; began = b })) (sym (or-true told.began))
          ∙ sym (ap (λ b. Some (record { shape = told.shape; began = told.began || b }))
          (ap (λ b. b && ends_at ring.entries (n - 1)) e ∙ behind))
          ∙ sym (ap (option_map (λ (t : Arrival).
          record { shape = t.shape; began = t.began || ((m == n) && ends_at ring.entries (n - 1)) }))
          (ap (λ k. at k ring.entries) here ∙ is))
      same (inr other) =
          ap (λ b. cond b (Some (record { shape = told.shape; began = true })) (at m ring.entries)) (ne_eqb m n other)
          ∙ unchanged (at m ring.entries)
          ∙ ap (λ b. option_map (λ (t : Arrival).
          record { shape = t.shape; began = t.began || (b && ends_at ring.entries (n - 1)) }) (at m ring.entries))
          (sym (ne_eqb m n other)) where
            unchanged : (o : Option Arrival) →
                o ≡ option_map (λ (t : Arrival). record { shape = t.shape; began = t.began || false }) o
            unchanged None = refl
            unchanged (Some t) = ap (λ b. Some (record { shape = t.shape; began = b })) (sym (or-false t.began))
