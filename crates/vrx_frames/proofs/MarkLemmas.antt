-- Marks of numbers.
use Rattle.std.proofs.Common.{◌≡◌, ◌↔◌, ℕ, ◌+◌, ◌-◌, ◌<◌, ◌≤◌, ◌⊎◌, Bool, true, false, not, ◌&&◌, cond, List, Option, Some, None, is_some, refl, sym, ◌∙◌, ap, subst, arith, inl, inr}
use Rattle.std.specs.Prelude.{◌==◌, nat_le}
use Rattle.std.proofs.lemmas.Bool.{and_parts, and_from, eq-eqb, ne_eqb, true≢false, cases_eq, cases_order, le-leb, leb-true, not-true, not_from_false}
use Rattle.std.proofs.lemmas.Grind.{common_steps}
use Rattle.std.proofs.lemmas.Option.{none-some, same_Some}
use Rattle.vrx_num.specs.declared.limits.TheConstants.{WINDOW}
use Rattle.vrx_window.specs.Numbered.{Numbered, IsNumbered}
use Rattle.vrx_window.specs.Window.{at, is_inside, in_window, newest_with, entries_with, entries_in}
use Rattle.vrx_frames.specs.Run.{is_passed}
use Rattle.vrx_frames.specs.declared.arrival.Arrival.{Arrival}
use Rattle.vrx_frames.specs.Linked.{fact_at, Sits, AreLinked, IsStartOf, AreWhole, NoneHas, IsReach, follows}
use Rattle.vrx_frames.specs.Marked.{counts, IsChain, Marks, IsSpread, WasLookedAt, mark_with}
use Rattle.vrx_frames.specs.declared.arrival.Fact.{Fact}
use Rattle.vrx_frames.proofs.LinkLemmas.{fact-available, follows-from, link-one, link-both, link-right, marker-at, one_fact, starts-at, ts-at}
use Rattle.vrx_frames.proofs.KeptLemmas.{newest-placed}
use Rattle.vrx_frames.proofs.MapLemmas.{at_put, at_where}

-- so many numbers from one on are marked, and no other changed
pub record MarkedUpTo (from count first : ℕ) (before after : List (ℕ × ℕ)) : Type 0 where
  pub here : (m : ℕ) → from ≤ m → m < from + count → at m after ≡ Some first
  pub below : (m : ℕ) → m < from → at m after ≡ at m before
  pub above : (m : ℕ) → from + count ≤ m → at m after ≡ at m before

module _ (facts : ℕ → Option Fact) where
  -- the first part of a stretch
  pub link-take : (ts first n last : ℕ) → AreLinked facts ts first last → first ≤ n → n ≤ last →
      AreLinked facts ts first n
  link-take ts first n last linked from upto = record {
    upto = from;
    each = λ m above below. let s : Sits facts ts first last m = linked.each m above (omega arith) in
        record {
          fact = s.fact;
          told = s.told;
          ts_is = s.ts_is;
          later = s.later;
          earlier = λ less. s.earlier (omega arith);
        };
  }

  -- and the last part
  pub link-drop : (ts first n last : ℕ) → AreLinked facts ts first last → first ≤ n → n ≤ last →
      AreLinked facts ts n last
  link-drop ts first n last linked from upto = record {
    upto = upto;
    each = λ m above below. let s : Sits facts ts first last m = linked.each m (omega arith) below in
        record {
          fact = s.fact;
          told = s.told;
          ts_is = s.ts_is;
          later = λ less. s.later (omega arith);
          earlier = s.earlier;
        };
  }

  -- two stretches with a common number have one timestamp
  pub same-ts : (ts ts' first n last : ℕ) → AreLinked facts ts first n → AreLinked facts ts' n last → ts' ≡ ts
  same-ts ts ts' first n last a b =
      let from : first ≤ n = a.upto in
      let upto : n ≤ last = b.upto in
      let s : Sits facts ts first n n = a.each n from (omega arith) in
      sym (ts-at facts ts' n last n s.fact b (omega arith) upto s.told) ∙ s.ts_is

  -- a chain goes on over numbers linked to its end
  pub chain-on : (first n m ts : ℕ) → IsChain facts first n → AreLinked facts ts n m → IsChain facts first m
  chain-on first n m ts chain linked = record {
    ts = chain.ts;
    linked = link-both facts chain.ts first n m chain.linked
        (subst (λ t. AreLinked facts t n m) (same-ts chain.ts ts first n m chain.linked linked) linked);
    start = chain.start;
  }

  -- a part of a chain is one
  pub chain-take : (first n m : ℕ) → IsChain facts first m → first ≤ n → n ≤ m → IsChain facts first n
  chain-take first n m chain from upto =
      record { ts = chain.ts; linked = link-take chain.ts first n m chain.linked from upto; start = chain.start }

  -- a chain that begins after a number isn't linked to it
  pub no-start : (ts n first m : ℕ) → AreLinked facts ts n m → n < first → first ≤ m → IsStartOf facts first → ⊥
  no-start ts n first m linked less upto start =
      true≢false (sym start.starts ∙ starts-at facts ts n m first start.fact linked less upto start.told)

  -- a number has one chain
  pub one-chain : (a b n : ℕ) → IsChain facts a n → IsChain facts b n → a ≡ b
  one-chain a b n c d =
      let x : a ≤ n = c.linked.upto in
      let y : b ≤ n = d.linked.upto in
      elim (cases_order a b) [
        | inl same ↦ same
        | inr other ↦ elim other [
          | inl less ↦ absurd (no-start c.ts a b n c.linked less y d.start)
          | inr more ↦ absurd (no-start d.ts b a n d.linked more x c.start)
        ]
      ]

-- facts that agree on a stretch
pub link-same : (F G : ℕ → Option Fact) (ts first last : ℕ) → ((m : ℕ) → first ≤ m → m ≤ last → G m ≡ F m) →
    AreLinked F ts first last → AreLinked G ts first last
link-same F G ts first last same linked = record {
  upto = linked.upto;
  each = λ m above below. let s : Sits F ts first last m = linked.each m above below in
      record {
        fact = s.fact;
        told = same m above below ∙ s.told;
        ts_is = s.ts_is;
        later = s.later;
        earlier = s.earlier;
      };
}

pub chain-same : (F G : ℕ → Option Fact) (first n : ℕ) → ((m : ℕ) → first ≤ m → m ≤ n → G m ≡ F m) →
    IsChain F first n → IsChain G first n
chain-same F G first n same chain =
    let upto : first ≤ n = chain.linked.upto in
    record {
      ts = chain.ts;
      linked = link-same F G chain.ts first n same chain.linked;
      start = record {
        fact = chain.start.fact;
        told = same first (omega arith) upto ∙ chain.start.told;
        starts = chain.start.starts;
      };
    }

-- marks stay right where chains stay
pub marks-stay : (F G : ℕ → Option Fact) (ok other : ℕ → Bool) (M : ℕ → Option ℕ) → Marks F ok M →
    ((first : ℕ) → other first ≡ true → ok first ≡ true)
    → ((n first : ℕ) → other first ≡ true → IsChain F first n ↔ IsChain G first n) → Marks G other M
marks-stay F G ok other M marked less same n first counted = (
  λ h. (same n first counted).0 ((marked n first (less first counted)).0 h),
  λ chain.
      (marked n first (less first counted)).1 ((same n first counted).1 chain),
)

-- a mark that was spread from a number that was in no chain
module _ (F G : ℕ → Option Fact) (ok other : ℕ → Bool) (x : ℕ) (before after : List (ℕ × ℕ))
    (marked : Marks F ok (λ n. at n before))
    (less : (first : ℕ) → other first ≡ true → ok first ≡ true)
    (same : (n first : ℕ) → other first ≡ true → (first ≤ x → x ≤ n → ⊥) → IsChain F first n ↔ IsChain G first n)
    (none : (n first : ℕ) → other first ≡ true → first ≤ x → x ≤ n → IsChain F first n → ⊥) where
  -- a number lies from one to another, or not
  between-or : (first n : ℕ) → ((first ≤ x) × (x ≤ n)) ⊎ (first ≤ x → x ≤ n → ⊥)
  between-or first n = elim (cases_order first (x + 1)) [
    | inl e ↦ inr (λ a b. omega arith)
    | inr e ↦ elim e [
      | inl a ↦ elim (cases_order x (n + 1)) [
        | inl e' ↦ inr
            (λ c d. omega arith)
        | inr e' ↦ elim e' [ inl b ↦ inl (omega arith, omega arith) | inr b ↦ inr (λ c d. omega arith) ]
      ]
      | inr a ↦ inr (λ c d. omega arith)
    ]
  ]

  pub was-spread : (start : ℕ) → IsChain G start x → IsSpread G x start before after → Marks G other (λ n. at n after)
  was-spread start chain spread n first counted = (to, from) where
    to : at n after ≡ Some first → IsChain G first n
    to h = elim (spread.each n) [
      | inl on ↦ subst (λ k. IsChain G k n) (same_Some start first (sym on.2 ∙ h))
          (chain-on G start x n on.0 chain on.1)
      | inr off ↦ let c : IsChain F first n = (marked n first (less first counted)).0 (sym off.1 ∙ h) in
          elim (between-or first n) [
            | inl between ↦ absurd (none n first counted between.0 between.1 c)
            | inr apart ↦ (same n first counted apart).0 c
          ]
    ]

    from : IsChain G first n → at n after ≡ Some first
    from c = elim (between-or first n) [
      | inl between ↦ let e : start ≡ first =
          one-chain G start first x chain (chain-take G first x n c between.0 between.1) in
          elim (spread.each n) [
            | inl on ↦ on.2 ∙ ap Some e
            | inr off ↦ absurd (off.0 c.ts (link-drop G c.ts first x n c.linked between.0 between.1))
          ]
      | inr apart ↦ elim (spread.each n) [
        | inl on ↦ absurd (apart (before-x on.0 on.1) on.1.upto)
        | inr off ↦ off.1 ∙ (marked n first (less first counted)).1 ((same n first counted apart).1 c)
      ]
    ] where
      before-x : (ts : ℕ) → AreLinked G ts x n → first ≤ x
      before-x ts linked = elim (cases_order first x) [
        | inl e ↦ omega arith
        | inr e ↦ elim e [
          | inl less' ↦ omega arith
          | inr more ↦ absurd
              (no-start G ts x first n linked more c.linked.upto c.start)
        ]
      ]

  pub was-left : ((first : ℕ) → other first ≡ true → IsChain G first x → ⊥) → after ≡ before →
      Marks G other (λ n. at n after)
  was-left unmarked e n first counted = (to, from) where
    to : at n after ≡ Some first → IsChain G first n
    to h = let c : IsChain F first n = (marked n first (less first counted)).0 (sym (ap (at n) e) ∙ h) in
        elim (between-or first n) [
          | inl between ↦ absurd (none n first counted between.0 between.1 c)
          | inr apart ↦ (same n first counted apart).0 c
        ]

    from : IsChain G first n → at n after ≡ Some first
    from c = elim (between-or first n) [
      | inl between ↦ absurd (unmarked first counted (chain-take G first x n c between.0 between.1))
      | inr apart ↦ ap (at n) e ∙ (marked n first (less first counted)).1 ((same n first counted apart).1 c)
    ]

  pub looked : WasLookedAt G other x before after → Marks G other (λ n. at n after)
  looked l = elim l [ inl w ↦ was-spread w.0 w.1.chain w.1.spread | inr w ↦ was-left w.none w.same ]

-- a number between one of the window and the newest is in the window
pub in-between : (newest from n : ℕ) → in_window newest from ≡ true → from ≤ n → n ≤ newest →
    in_window newest n ≡ true
in-between newest from n inside above upto = grind (arith, common_steps)

-- what stands under each number where a number of the window was placed
pub placed-under : (marks : Numbered ℕ) (newest n x : ℕ) (entries : List (ℕ × ℕ)) → IsNumbered marks →
    marks.newest ≡ Some newest → in_window newest n ≡ true →
    entries ≡ entries_with (newest_with marks.newest n) n x marks.entries → (m : ℕ) →
    at m entries ≡ cond (m == n) (Some x) (at m marks.entries)
placed-under marks newest n x entries numbered is inside entries_are m =
    ap (at m) entries_are ∙ at_put m n x (entries_in next marks.entries)
    ∙ ap (cond (m == n) (Some x)) (at_where (in_window next) m marks.entries ∙ kept (at m marks.entries) refl) where
      next : ℕ
      next = newest_with marks.newest n

      next-is : next ≡ newest
      next-is = ap (λ o. newest_with o n) is ∙ newest-placed newest n inside

      kept : (o : Option ℕ) → at m marks.entries ≡ o → cond (in_window next m) o None ≡ o
      kept None none = either (in_window next m) where
        either : (b : Bool) → ◌≡◌ {A = Option ℕ} (cond b None None) None
        either true = refl
        either false = refl
      kept (Some t) there = ap (λ b. cond b (Some t) None)
          (ap (λ k. in_window k m) next-is ∙ ap (λ o. is_inside o m) (sym is) ∙ numbered.inside m (ap is_some there))

-- one number more is marked
pub mark-next : (from count first newest : ℕ) (before : List (ℕ × ℕ)) (marks : Numbered ℕ) (entries : List (ℕ × ℕ)) →
    IsNumbered marks → marks.newest ≡ Some newest → in_window newest from ≡ true → from + count ≤ newest →
    entries ≡ entries_with (newest_with marks.newest (from + count)) (from + count) first marks.entries
    → MarkedUpTo from count first before marks.entries → MarkedUpTo from (count + 1) first before entries
mark-next from count first newest before marks entries numbered is inside upto entries_are marked = record {
  here = λ m above below. elim (cases_eq m (from + count)) [
    | inl same ↦ under m ∙ ap (λ b. cond b (Some first) (at m marks.entries)) (eq-eqb m (from + count) same)
    | inr other ↦ under m ∙ ap (λ b. cond b (Some first) (at m marks.entries)) (ne_eqb m (from + count) other)
        ∙ marked.here m above (less m below other)
  ];
  below = λ m less'. under m
      ∙ ap (λ b. cond b (Some first) (at m marks.entries)) (ne_eqb m (from + count) (λ e. absurd (omega arith)))
      ∙ marked.below m less';
  above = λ m more. under m
      ∙ ap (λ b. cond b (Some first) (at m marks.entries)) (ne_eqb m (from + count) (λ e. absurd (omega arith)))
      ∙ marked.above m (omega arith);
} where
  under : (m : ℕ) → at m entries ≡ cond (m == from + count) (Some first) (at m marks.entries)
  under = placed-under marks newest (from + count) first entries numbered is
      (in-between newest from (from + count) inside (omega arith) upto) entries_are

  less : (m : ℕ) → m < from + (count + 1) → (m ≡ from + count → ⊥) → m < from + count
  less m below other = elim (cases_order m (from + count)) [
    | inl e ↦ absurd
        (other e)
    | inr e ↦ elim e [ inl a ↦ a | inr a ↦ absurd (omega arith) ]
  ]

module _ (facts : ℕ → Option Fact) where
  -- a mark spread over all numbers that are linked
  pub spread-all : (ts n last first : ℕ) (before after : List (ℕ × ℕ)) → IsReach facts ts n last →
      ((m : ℕ) → at m after ≡ mark_with n last first before m) → IsSpread facts n first before after
  spread-all ts n last first before after reached all =
      record { each = λ m. one m (nat_le n m && nat_le m last) refl } where
        one : (m : ℕ) (b : Bool) → (nat_le n m && nat_le m last) ≡ b →
            ((other : ℕ) × AreLinked facts other n m × (at m after ≡ Some first))
            ⊎ (((other : ℕ) → AreLinked facts other n m → ⊥) × (at m after ≡ at m before))
        one m true h =
            let p : (nat_le n m ≡ true) × (nat_le m last ≡ true) = and_parts (nat_le n m) (nat_le m last) h in
            inl (
              ts,
              link-take facts ts n m last reached.linked (leb-true n m p.0) (leb-true m last p.1),
              all m
                  ∙ ap (λ c. cond c (Some first) (at m before)) h,
            )
        one m false h = inr (
          λ other linked. true≢false
              (sym (and_from (nat_le n m) (nat_le m last) (le-leb n m linked.upto)
              (le-leb m last (reached.most other m linked))) ∙ h),
          all m ∙ ap (λ c. cond c (Some first) (at m before)) h,
        )

  -- a start is a chain of its own
  pub chain-one : (n : ℕ) (here : Fact) → facts n ≡ Some here → here.starts ≡ true → IsChain facts n n
  chain-one n here told starts =
      record {
        ts = here.ts;
        linked = link-one facts n here told;
        start = record { fact = here; told = told; starts = starts };
      }

  -- the chain of a start
  pub start-found : (n first : ℕ) (here : Fact) → facts n ≡ Some here → here.starts ≡ true →
      (◌≡◌ {A = Option ℕ} (Some n) (Some first)) ↔ IsChain facts first n
  start-found n first here told starts = (
    λ e. subst (λ k. IsChain facts k n) (same_Some n first e) (chain-one n here told starts),
    λ c.
        ap Some (one-chain facts n first n (chain-one n here told starts) c),
  )

  -- the chain to a number that is no start comes over the number before it
  pub chain-before : (n first before : ℕ) (here : Fact) → before + 1 ≡ n → facts n ≡ Some here → here.starts ≡ false →
      IsChain facts first n → (first ≤ before) × ((a : Fact) × (facts before ≡ Some a) × (follows a here ≡ true))
  chain-before n first before here step told none chain = (
    low,
    (
      a.fact,
      a.told,
      follows-from a.fact here (a.earlier (omega arith))
          (a.ts_is ∙ sym (ts-at facts chain.ts first n n here chain.linked chain.linked.upto (omega arith) told))
          none,
    ),
  ) where
    low : first ≤ before
    low = elim (cases_order first n) [
      | inl e ↦ absurd (true≢false
          (sym chain.start.starts ∙ ap (λ (x : Fact). x.starts)
          (one_fact facts n chain.start.fact here (ap facts (sym e) ∙ chain.start.told) told) ∙ none))
      | inr e ↦ elim e [ inl a ↦ omega arith | inr a ↦ let u : first ≤ n = chain.linked.upto in absurd (omega arith) ]
    ]

    a : Sits facts chain.ts first n before
    a = chain.linked.each before low (omega arith)

  -- a number that isn't linked to the one before it, and is no start, has no chain
  pub none-found : (n first before : ℕ) (here : Fact) → before + 1 ≡ n → facts n ≡ Some here → here.starts ≡ false →
      ((a : Fact) → facts before ≡ Some a → follows a here ≡ true → ⊥) →
      (◌≡◌ {A = Option ℕ} None (Some first)) ↔ IsChain facts first n
  none-found n first before here step told none stops = (
    λ e. absurd (none-some first e),
    λ chain.
        let b : (first ≤ before) × ((a : Fact) × (facts before ≡ Some a) × (follows a here ≡ true)) =
        chain-before n first before here step told none chain in absurd (stops b.1.0 b.1.1 b.1.2),
  )

  -- a number that is linked to the one before it has its chain
  pub next-found : (n first before : ℕ) (a here : Fact) (o : Option ℕ) → before + 1 ≡ n → facts n ≡ Some here →
      here.starts ≡ false → facts before ≡ Some a → follows a here ≡ true →
      (o ≡ Some first) ↔ IsChain facts first before → (o ≡ Some first) ↔ IsChain facts first n
  next-found n first before a here o step told none prior goes same = (
    λ e. on (same.0 e),
    λ chain.
        same.1 (chain-take facts first before n chain (chain-before n first before here step told none chain).0
        (omega arith)),
  ) where
    on : IsChain facts first before → IsChain facts first n
    on chain = record {
      ts = chain.ts;
      linked = subst (λ k. AreLinked facts chain.ts first k) step
          (link-right facts chain.ts first before a here chain.linked prior (ap facts step ∙ told) goes);
      start = chain.start;
    }

  -- no number is before 0
  pub zero-found : (n first : ℕ) (here : Fact) → n ≡ 0 → facts n ≡ Some here → here.starts ≡ false →
      (◌≡◌ {A = Option ℕ} None (Some first)) ↔ IsChain facts first n
  zero-found n first here zero_is told none = (
    λ e. absurd (none-some first e),
    λ chain. let u : first ≤ n = chain.linked.upto in
        absurd (true≢false (sym chain.start.starts
        ∙ ap (λ (x : Fact). x.starts)
        (one_fact facts n chain.start.fact here
        (ap facts (let e : n ≡ first = omega arith in e) ∙ chain.start.told) told) ∙ none)),
  )

  -- a number of a whole frame has its chain
  pub whole-chain : (ts first last n : ℕ) → AreWhole facts ts first last → first ≤ n → n ≤ last →
      IsChain facts first n
  whole-chain ts first last n whole from upto =
      record { ts = ts; linked = link-take facts ts first n last whole.linked from upto; start = whole.start }

  -- no whole frame has a number from which one reaches no marker
  pub reach-unmarked : (ts n last : ℕ) → IsReach facts ts n last →
      ((fact : Fact) → facts last ≡ Some fact → fact.marker ≡ false) → NoneHas facts n
  reach-unmarked ts n last reached unmarked ts' f l whole from upto =
      let b : AreLinked facts ts' n l = link-drop facts ts' f n l whole.linked from upto in
      let most : l ≤ last = reached.most ts' l b in
      elim (cases_order l last) [
        | inl same ↦ true≢false (sym whole.end.marker
            ∙ unmarked whole.end.fact (ap facts (sym same) ∙ whole.end.told))
        | inr other ↦ elim other [
          | inl less ↦ true≢false (sym whole.end.marker
              ∙ marker-at facts ts n last l whole.end.fact reached.linked upto less whole.end.told)
          | inr more ↦ omega arith
        ]
      ]

  -- a chain, and on to a marker, is a whole frame
  pub chain-whole : (first n last ts : ℕ) (here fact : Fact) → facts n ≡ Some here → IsChain facts first n →
      IsReach facts here.ts n last → facts last ≡ Some fact → fact.marker ≡ true → AreWhole facts here.ts first last
  chain-whole first n last ts here fact told chain reached end marker = record {
    linked = link-both facts here.ts first n last
        (subst (λ t. AreLinked facts t first n)
        (sym (same-ts facts chain.ts here.ts first n last chain.linked reached.linked)) chain.linked) reached.linked;
    start = chain.start;
    end = record { fact = fact; told = end; marker = marker };
  }

-- what is told is in the window
pub told-inside : (passed : Option ℕ) (ring : Numbered Arrival) (n : ℕ) (fact : Fact) → IsNumbered ring →
    fact_at passed ring.entries n ≡ Some fact → is_inside ring.newest n ≡ true
told-inside passed ring n fact numbered told = numbered.inside n (fact-available passed ring.entries n fact told)

-- the first number of a frame beyond the passed numbers counts
pub whole-counts : (passed front : Option ℕ) (ring : Numbered Arrival) (ts first last : ℕ) → IsNumbered ring →
    AreWhole (fact_at passed ring.entries) ts first last → is_passed front first ≡ false →
    counts ring.newest front first ≡ true
whole-counts passed front ring ts first last numbered whole beyond =
    and_from (is_inside ring.newest first) (not (is_passed front first))
    (told-inside passed ring first whole.start.fact numbered whole.start.told)
    (not_from_false (is_passed front first) beyond)

-- a frame has at most as many numbers as the window
pub whole-few : (passed : Option ℕ) (ring : Numbered Arrival) (ts first last : ℕ) → IsNumbered ring →
    AreWhole (fact_at passed ring.entries) ts first last → last - first + 1 ≤ WINDOW
whole-few passed ring ts first last numbered whole =
    few ring.newest (told-inside passed ring first whole.start.fact numbered whole.start.told)
    (told-inside passed ring last whole.end.fact numbered whole.end.told) where
      few : (o : Option ℕ) → is_inside o first ≡ true → is_inside o last ≡ true → last - first + 1 ≤ WINDOW
      few None a b = absurd (true≢false (sym a))
      few (Some newest) a b = grind (arith, common_steps)

-- a test that can't fail holds
pub not-false : (b : Bool) → (b ≡ false → ⊥) → b ≡ true
not-false true h = refl
not-false false h = absurd (h refl)

-- what counts isn't passed
pub not-passed : (inside passed : Bool) → (inside && not passed) ≡ true → passed ≡ false
not-passed inside passed h = not-true passed (and_parts inside (not passed) h).1

pub le-refl : (n : ℕ) → n ≤ n
le-refl n = omega arith

-- marks that were looked at stay low
pub looked-low : (facts : ℕ → Option Fact) (ok : ℕ → Bool) (x : ℕ) (before after : List (ℕ × ℕ)) →
    WasLookedAt facts ok x before after → ((n first : ℕ) → at n before ≡ Some first → first ≤ n) → (n first : ℕ) →
    at n after ≡ Some first → first ≤ n
looked-low facts ok x before after l low n first h = elim l [
  | inl w ↦ elim (w.1.spread.each n) [
    | inl on ↦ let e : w.0 ≡ first = same_Some w.0 first (sym on.2 ∙ h) in let a : w.0 ≤ x =
        w.1.chain.linked.upto in let b : x ≤ n = on.1.upto in omega arith
    | inr off ↦ low n first (sym off.1 ∙ h)
  ]
  | inr w ↦ low n first (sym (ap (at n) w.same) ∙ h)
]
