-- Marks once a number was told.
use Rattle.std.proofs.Common.{◌≡◌, ◌≢◌, ◌↔◌, ℕ, ◌+◌, ◌≤◌, ◌⊎◌, Bool, true, false, not, cond, Option, Some, None, is_some, refl, sym, ◌∙◌, ap, subst, arith, inl, inr}
use Rattle.std.specs.Prelude.{◌==◌}
use Rattle.std.specs.Option.{option_map_or}
use Rattle.std.proofs.lemmas.Bool.{and_parts, and_from, true≢false, eq-eqb, ne_eqb, cases_eq, cases_order}
use Rattle.std.proofs.lemmas.Grind.{common_steps}
use Rattle.std.proofs.lemmas.Option.{none-some}
use Rattle.vrx_window.specs.Numbered.{Numbered, IsNumbered}
use Rattle.vrx_window.specs.Window.{at, is_inside, in_window, entries_in, newest_with}
use Rattle.vrx_frames.specs.Completed.{IsUpTo}
use Rattle.vrx_frames.specs.Linked.{Sits, fact_at, starts_at}
use Rattle.vrx_frames.specs.Marked.{IsChain, IsMarked, IsMarkedBefore, WasLookedAt, Marks, counts}
use Rattle.vrx_frames.specs.Run.{is_passed}
use Rattle.vrx_frames.specs.declared.arrival.Fact.{Fact}
use Rattle.vrx_frames.specs.declared.arrival.Arrival.{Arrival}
use Rattle.vrx_frames.proofs.KeptLemmas.{in-upto}
use Rattle.vrx_frames.proofs.LinkLemmas.{fact-available}
use Rattle.vrx_frames.proofs.MapLemmas.{at_where}
use Rattle.vrx_frames.proofs.MarkLemmas.{chain-same, in-between, link-same, looked, looked-low, marks-stay}

-- a number of a later window that isn't beyond an earlier newest number is in the earlier window
inside-earlier : (earlier : Option ℕ) (newest n m : ℕ) → IsUpTo earlier (Some newest) → is_inside earlier m ≡ true →
    n ≤ m → in_window newest n ≡ true → is_inside earlier n ≡ true
inside-earlier None newest n m upto inside less later = absurd (true≢false (sym inside))
inside-earlier (Some e) newest n m upto inside less later = let h : e ≤ newest = upto in grind (arith, common_steps)

upto-later : (earlier : Option ℕ) (newest m : ℕ) → IsUpTo earlier (Some newest) → is_inside earlier m ≡ true →
    m ≤ newest
upto-later None newest m upto inside = absurd (true≢false (sym inside))
upto-later (Some e) newest m upto inside = let h : e ≤ newest = upto in let k : m ≤ e =
    in-upto e m inside in omega arith

module _ (passed : Option ℕ) (newest n : ℕ) (old ring : Numbered Arrival) (before moved second first : Numbered ℕ)
    (old_numbered : IsNumbered old) (numbered : IsNumbered ring)
    (marked : IsMarked passed old before)
    (upto : IsUpTo old.newest (Some newest))
    (newest_is : ring.newest ≡ Some newest)
    (moved_is : moved.entries ≡ entries_in (newest_with before.newest newest) before.entries)
    (next_is : newest_with before.newest newest ≡ newest)
    (fact_else : (m : ℕ) → in_window newest m ≡ true → m ≢ n → m ≢ n + 1 →
    fact_at passed ring.entries m ≡ fact_at passed old.entries m)
    (fact_before : fact_at passed old.entries n ≡ None) where
  abbrev F : ℕ → Option Fact
  F = fact_at passed old.entries

  abbrev G : ℕ → Option Fact
  G = fact_at passed ring.entries

  -- the facts afterwards, but for the number told
  abbrev H : ℕ → Option Fact
  H m = cond (m == n) None (G m)

  H-here : H n ≡ None
  H-here = ap (λ b. cond b None (G n)) (eq-eqb n n refl)

  H-other : (m : ℕ) → m ≢ n → H m ≡ G m
  H-other m other = ap (λ b. cond b None (G m)) (ne_eqb m n other)

  -- a chain hasn't a number that isn't told media
  chain-hasn't : (facts : ℕ → Option Fact) (k m top : ℕ) → facts m ≡ None → IsChain facts k top → k ≤ m → m ≤ top → ⊥
  chain-hasn't facts k m top none chain a b = let s : Sits facts chain.ts k top m =
      chain.linked.each m a b in none-some s.fact (sym none ∙ s.told)

  abbrev ok : ℕ → Bool
  ok = counts ring.newest passed

  ok-inside : (k : ℕ) → ok k ≡ true → in_window newest k ≡ true
  ok-inside k h =
      ap (λ o. is_inside o k) (sym newest_is) ∙ (and_parts (is_inside ring.newest k) (not (is_passed passed k)) h).0

  -- what was told before is at most the newest number
  old-inside : (m : ℕ) (fact : Fact) → F m ≡ Some fact → is_inside old.newest m ≡ true
  old-inside m fact told = old_numbered.inside m (fact-available passed old.entries m fact told)

  -- the last number of a chain is told
  last-told : (facts : ℕ → Option Fact) (k top : ℕ) → IsChain facts k top → (fact : Fact) × (facts top ≡ Some fact)
  last-told facts k top chain = let u : k ≤ top = chain.linked.upto in let s : Sits facts chain.ts k top top =
      chain.linked.each top u (omega arith) in (s.fact, s.told)

  -- the numbers of a chain that counts are in the window
  chain-old : (k top : ℕ) → ok k ≡ true → IsChain F k top → (m : ℕ) → k ≤ m → m ≤ top → in_window newest m ≡ true
  chain-old k top counted chain m a b =
      let l : (fact : Fact) × (F top ≡ Some fact) = last-told F k top chain in
      let u : top ≤ newest = upto-later old.newest newest top upto (old-inside top l.0 l.1) in
      in-between newest k m (ok-inside k counted) a (omega arith)

  chain-new : (k top : ℕ) → ok k ≡ true → IsChain H k top → (m : ℕ) → k ≤ m → m ≤ top → in_window newest m ≡ true
  chain-new k top counted chain m a b =
      let s : Sits H chain.ts k top m = chain.linked.each m a b in
      let other : m ≢ n = λ e. none-some s.fact (sym (ap H e ∙ H-here) ∙ s.told) in
      ap (λ o. is_inside o m) (sym newest_is)
      ∙ numbered.inside m (fact-available passed ring.entries m s.fact (sym (H-other m other) ∙ s.told))

  -- what counts now counted before, below a number that stood
  ok-before : (k top : ℕ) → ok k ≡ true → is_inside old.newest top ≡ true → k ≤ top →
      counts old.newest passed k ≡ true
  ok-before k top counted inside less =
      and_from (is_inside old.newest k) (not (is_passed passed k))
      (inside-earlier old.newest newest k top upto inside less (ok-inside k counted))
      (and_parts (is_inside ring.newest k) (not (is_passed passed k)) counted).1

  -- the window of the marks moved
  moved-under : (m : ℕ) → at m moved.entries ≡ cond (in_window newest m) (at m before.entries) None
  moved-under m = ap (at m) moved_is ∙ at_where (in_window (newest_with before.newest newest)) m before.entries
      ∙ ap (λ k. cond (in_window k m) (at m before.entries) None) next_is

  stood : (m k : ℕ) → at m moved.entries ≡ Some k → at m before.entries ≡ Some k
  stood m k h = tested (in_window newest m) (sym (moved-under m) ∙ h) where
    tested : (b : Bool) → cond b (at m before.entries) None ≡ Some k → at m before.entries ≡ Some k
    tested true e = e
    tested false e = absurd (none-some k e)

  pub low-moved : (m k : ℕ) → at m moved.entries ≡ Some k → k ≤ m
  low-moved m k h = marked.low m k (stood m k h)

  marks-moved : Marks F ok (λ m. at m moved.entries)
  marks-moved m k counted = (to, from) where
    to : at m moved.entries ≡ Some k → IsChain F k m
    to h =
        let s : at m before.entries ≡ Some k = stood m k h in
        let inside : is_inside old.newest m ≡ true =
        ap (λ o. is_inside o m) (sym marked.newest_is) ∙ marked.numbered.inside m (ap is_some s) in
        (marked.marked m k (ok-before k m counted inside (marked.low m k s))).0 s

    from : IsChain F k m → at m moved.entries ≡ Some k
    from chain =
        let l : (fact : Fact) × (F m ≡ Some fact) = last-told F k m chain in
        let u : k ≤ m = chain.linked.upto in
        moved-under m ∙ ap (λ b. cond b (at m before.entries) None) (chain-old k m counted chain m u (omega arith))
        ∙ (marked.marked m k (ok-before k m counted (old-inside m l.0 l.1) u)).1 chain

  -- facts before and after, where the number after is no matter
  H-else : (m : ℕ) → in_window newest m ≡ true → m ≢ n + 1 → H m ≡ F m
  H-else m inside later = elim (cases_eq m n) [
    | inl e ↦ ap H e ∙ H-here ∙ sym (ap F e ∙ fact_before)
    | inr other ↦ H-other m other ∙ fact_else m inside other later
  ]

  -- the second answer: the number after begins newly, and its mark was spread; or nothing changed
  abbrev pub Second : Bool → Type 0
  Second newly = ((newly ≡ true) × WasLookedAt G ok (n + 1) moved.entries second.entries)
      ⊎ ((newly ≡ false) × (second.entries ≡ moved.entries))

  module _ (newly : Bool)
      (begins : newly ≡ true →
      (starts_at passed ring.entries (n + 1) ≡ true) × (starts_at passed old.entries (n + 1) ≡ false))
      (next_same : in_window newest (n + 1) ≡ true → newly ≡ false → G (n + 1) ≡ F (n + 1))
      (answered : Second newly) where
    next-other : n + 1 ≢ n
    next-other e = absurd (omega arith)

    -- chains where nothing begins newly
    H-all : newly ≡ false → (m : ℕ) → in_window newest m ≡ true → H m ≡ F m
    H-all old_one m inside = elim (cases_eq m (n + 1)) [
      | inl e ↦ H-other m (λ e'. next-other (sym e ∙ e')) ∙ ap G e
          ∙ next_same (ap (in_window newest) (sym e) ∙ inside) old_one ∙ ap F (sym e)
      | inr later ↦ H-else m inside later
    ]

    marks-old : newly ≡ false → Marks H ok (λ m. at m moved.entries)
    marks-old old_one = marks-stay F H ok ok (λ m. at m moved.entries) marks-moved (λ k h. h) (λ m k counted. (
      λ c. chain-same F H k m (λ j a b. H-all old_one j (chain-old k m counted c j a b)) c,
      λ c.
          chain-same H F k m (λ j a b. sym (H-all old_one j (chain-new k m counted c j a b))) c,
    ))

    -- a chain to the number after, which begins newly, is of that number alone
    next-alone : newly ≡ true → (facts : ℕ → Option Fact) → facts (n + 1) ≡ G (n + 1) → (k : ℕ) →
        IsChain facts k (n + 1) → k ≡ n + 1
    next-alone new facts here k chain =
        let u : k ≤ n + 1 = chain.linked.upto in
        elim (cases_order k (n + 1)) [
          | inl e ↦ e
          | inr e ↦ elim e [
            | inl less ↦ let s : Sits facts chain.ts k (n + 1) (n + 1) = chain.linked.each (n + 1) u (omega arith) in
                absurd (true≢false (sym (begins new).0
                ∙ ap (λ o. option_map_or (λ (f : Fact). f.starts) o false) (sym here ∙ s.told) ∙ s.later less))
            | inr more ↦ absurd (omega arith)
          ]
        ]

    up-other : (m : ℕ) → n + 1 ≤ m → m ≢ n
    up-other m a e = absurd (omega arith)

    looked-H : newly ≡ true → WasLookedAt G ok (n + 1) moved.entries second.entries →
        WasLookedAt H ok (n + 1) moved.entries second.entries
    looked-H new l = elim l [
      | inl w ↦ inl (
        w.0,
        record {
          counted = w.1.counted;
          chain = let e : w.0 ≡ n + 1 = next-alone new G refl w.0 w.1.chain in
              chain-same G H w.0 (n + 1) (λ m a b. H-other m (up-other m (omega arith))) w.1.chain;
          spread = record {
            each = λ m. elim (w.1.spread.each m) [
              | inl on ↦ inl (on.0, link-same G H on.0 (n + 1) m (λ j a b. H-other j (up-other j a)) on.1, on.2)
              | inr off ↦ inr (
                λ ts linked.
                    off.0 ts (link-same H G ts (n + 1) m (λ j a b. sym (H-other j (up-other j a))) linked),
                off.1,
              )
            ];
          };
        },
      )
      | inr w ↦ inr (record {
        none = λ k counted chain. let e : k ≡ n + 1 = next-alone new H (H-other (n + 1) next-other) k chain in
            w.none k counted (chain-same H G k (n + 1) (λ m a b. sym (H-other m (up-other m (omega arith)))) chain);
        same = w.same;
      })
    ]

    marks-second : Marks H ok (λ m. at m second.entries)
    marks-second = elim answered [
      | inl new ↦ looked F H ok ok (n + 1) moved.entries second.entries marks-moved (λ k h. h) same (none new.0)
          (looked-H new.0 new.1)
      | inr old_one ↦ subst (λ es. Marks H ok (λ m. at m es)) (sym old_one.1) (marks-old old_one.0)
    ] where
      apart : (k m j : ℕ) → (k ≤ n + 1 → n + 1 ≤ m → ⊥) → k ≤ j → j ≤ m → j ≢ n + 1
      apart k m j out a b e = out (omega arith) (omega arith)

      same : (m k : ℕ) → ok k ≡ true → (k ≤ n + 1 → n + 1 ≤ m → ⊥) → IsChain F k m ↔ IsChain H k m
      same m k counted out = (
        λ c. chain-same F H k m (λ j a b. H-else j (chain-old k m counted c j a b) (apart k m j out a b)) c,
        λ c. chain-same H F k m (λ j a b. sym (H-else j (chain-new k m counted c j a b) (apart k m j out a b))) c,
      )

      none : newly ≡ true → (m k : ℕ) → ok k ≡ true → k ≤ n + 1 → n + 1 ≤ m → IsChain F k m → ⊥
      none new m k counted a b c = elim (cases_order k (n + 1)) [
        | inl e ↦ true≢false (sym c.start.starts
            ∙ sym (ap (λ o. option_map_or (λ (f : Fact). f.starts) o false) c.start.told)
            ∙ ap (λ j. starts_at passed old.entries j) e ∙ (begins new).1)
        | inr e ↦ elim e [
          | inl less ↦ chain-hasn't F k n m fact_before c (omega arith) (omega arith)
          | inr more ↦ omega arith
        ]
      ]

    -- what the first answer needs to know
    pub before-first : IsMarkedBefore G ok (starts_at passed ring.entries n) n second.entries
    before-first none m k step counted = (
      λ h. chain-same H G k m (λ j a b. sym (H-other j (λ e. absurd (omega arith)))) ((marks-second m k counted).0 h),
      λ c. (marks-second m k counted).1 (chain-same G H k m (λ j a b. H-other j (λ e. absurd (omega arith))) c),
    )

    pub marks-first : WasLookedAt G ok n second.entries first.entries → Marks G ok (λ m. at m first.entries)
    marks-first l = looked H G ok ok n second.entries first.entries marks-second (λ k h. h) same none l where
      apart : (k m j : ℕ) → (k ≤ n → n ≤ m → ⊥) → k ≤ j → j ≤ m → j ≢ n
      apart k m j out a b e = out (omega arith) (omega arith)

      same : (m k : ℕ) → ok k ≡ true → (k ≤ n → n ≤ m → ⊥) → IsChain H k m ↔ IsChain G k m
      same m k counted out = (
        λ c. chain-same H G k m (λ j a b. sym (H-other j (apart k m j out a b))) c,
        λ c.
            chain-same G H k m (λ j a b. H-other j (apart k m j out a b)) c,
      )

      none : (m k : ℕ) → ok k ≡ true → k ≤ n → n ≤ m → IsChain H k m → ⊥
      none m k counted a b c = chain-hasn't H k n m H-here c a b

    low-second : (m k : ℕ) → at m second.entries ≡ Some k → k ≤ m
    low-second = elim answered [
      | inl new ↦ looked-low G ok (n + 1) moved.entries second.entries new.1 low-moved
      | inr old_one ↦ λ m k h. low-moved m k (sym (ap (at m) old_one.1) ∙ h)
    ]

    pub low-first : WasLookedAt G ok n second.entries first.entries → (m k : ℕ) → at m first.entries ≡ Some k → k ≤ m
    low-first l = looked-low G ok n second.entries first.entries l low-second
