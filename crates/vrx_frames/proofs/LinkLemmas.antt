-- Numbers that lie in one frame.
use Rattle.std.proofs.Common.{◌≡◌, ℕ, ◌+◌, ◌<◌, ◌≤◌, ◌⊎◌, true, false, not, ◌&&◌, refl, sym, ◌∙◌, ap, arith, inl, inr}
use Rattle.std.specs.Option.{option_and_then, unwrap_or}
use Rattle.std.specs.Prelude.{◌==◌, List, Option, Some, None, is_some}
use Rattle.std.proofs.lemmas.Bool.{and_parts, and_from, not-true, not_from_false, true≢false, eqb-true, eq-eqb, cases_order, leb-true}
use Rattle.std.proofs.lemmas.Option.{none-some, same_Some}
use Rattle.vrx_window.specs.Window.{at, is_available, is_inside}
use Rattle.vrx_window.specs.Numbered.{Numbered, IsNumbered}
use Rattle.vrx_frames.specs.Linked.{fact_at, fact_of, follows, Sits, AreLinked, AreWhole, NoneHas, IsReach}
use Rattle.vrx_frames.specs.declared.arrival.Fact.{Fact}
use Rattle.vrx_frames.specs.declared.arrival.Arrival.{Arrival}

-- a number is the last, or before it
pub last_or_before : (n last : ℕ) → n ≤ last + 1 → (n ≤ last) ⊎ (n ≡ last + 1)
last_or_before n last upto =
    elim (cases_order n (last + 1)) [
      | inl same ↦ inr same
      | inr other ↦ elim other [ inl less ↦ inl (omega arith) | inr more ↦ absurd (omega arith) ]
    ]

-- what goes on a frame
follows-parts : (a b : Fact) → follows a b ≡ true → (a.marker ≡ false) × (a.ts ≡ b.ts) × (b.starts ≡ false)
follows-parts a b h =
    let x : ((not a.marker && (a.ts == b.ts)) ≡ true) × (not b.starts ≡ true) =
    and_parts (not a.marker && (a.ts == b.ts)) (not b.starts) h in
    let y : (not a.marker ≡ true) × ((a.ts == b.ts) ≡ true) = and_parts (not a.marker) (a.ts == b.ts) x.0 in
    (not-true a.marker y.0, eqb-true a.ts b.ts y.1, not-true b.starts x.1)

pub follows-from : (a b : Fact) → a.marker ≡ false → a.ts ≡ b.ts → b.starts ≡ false → follows a b ≡ true
follows-from a b m t s =
    and_from (not a.marker && (a.ts == b.ts)) (not b.starts)
    (and_from (not a.marker) (a.ts == b.ts) (not_from_false a.marker m) (eq-eqb a.ts b.ts t))
    (not_from_false b.starts s)

module _ (facts : ℕ → Option Fact) where
  -- a number has one fact
  pub one_fact : (n : ℕ) (a b : Fact) → facts n ≡ Some a → facts n ≡ Some b → a ≡ b
  one_fact n a b x y = same_Some a b (sym x ∙ y)

  -- one number
  pub link-one : (n : ℕ) (fact : Fact) → facts n ≡ Some fact → AreLinked facts fact.ts n n
  link-one n fact told = record {
    upto = omega arith;
    each = λ m from upto. record {
      fact = fact;
      told = ap facts (let same : m ≡ n = omega arith in same) ∙ told;
      ts_is = refl;
      later = λ less. absurd (omega arith);
      earlier = λ less. absurd (omega arith);
    };
  }

  -- the timestamp of a number of the frame
  pub ts-at : (ts first last n : ℕ) (fact : Fact) → AreLinked facts ts first last → first ≤ n → n ≤ last →
      facts n ≡ Some fact → fact.ts ≡ ts
  ts-at ts first last n fact linked from upto told =
      let s : Sits facts ts first last n = linked.each n from upto in
      ap (λ (f : Fact). f.ts) (one_fact n fact s.fact told s.told) ∙ s.ts_is

  pub starts-at : (ts first last n : ℕ) (fact : Fact) → AreLinked facts ts first last → first < n → n ≤ last →
      facts n ≡ Some fact → fact.starts ≡ false
  starts-at ts first last n fact linked from upto told =
      let s : Sits facts ts first last n = linked.each n (omega arith) upto in
      ap (λ (f : Fact). f.starts) (one_fact n fact s.fact told s.told) ∙ s.later from

  pub marker-at : (ts first last n : ℕ) (fact : Fact) → AreLinked facts ts first last → first ≤ n → n < last →
      facts n ≡ Some fact → fact.marker ≡ false
  marker-at ts first last n fact linked from upto told =
      let s : Sits facts ts first last n = linked.each n from (omega arith) in
      ap (λ (f : Fact). f.marker) (one_fact n fact s.fact told s.told) ∙ s.earlier upto

  -- one number more at the end
  pub link-right : (ts first last : ℕ) (a b : Fact) → AreLinked facts ts first last → facts last ≡ Some a →
      facts (last + 1) ≡ Some b → follows a b ≡ true → AreLinked facts ts first (last + 1)
  link-right ts first last a b linked told next goes =
      let f : (a.marker ≡ false) × (a.ts ≡ b.ts) × (b.starts ≡ false) = follows-parts a b goes in
      let some : first ≤ last = linked.upto in
      let a_ts : a.ts ≡ ts = ts-at ts first last last a linked some (omega arith) told in
      record {
        upto = omega arith;
        each = λ m from upto. elim (last_or_before m last upto) [
          | inl before ↦ let s : Sits facts ts first last m = linked.each m from before in record {
            fact = s.fact;
            told = s.told;
            ts_is = s.ts_is;
            later = s.later;
            earlier = λ _. elim (cases_order m last) [
              | inl same ↦ ap (λ (x : Fact). x.marker) (one_fact last s.fact a (ap facts (sym same) ∙ s.told) told)
                  ∙ f.0
              | inr other ↦ elim other [ inl less ↦ s.earlier less | inr more ↦ absurd (omega arith) ]
            ];
          }
          | inr same ↦ record {
            fact = b;
            told = ap facts same ∙ next;
            ts_is = sym f.1 ∙ a_ts;
            later = λ _. f.2;
            earlier = λ less. absurd (omega arith);
          }
        ];
      }

  -- two stretches with a common number
  pub link-both : (ts first n last : ℕ) → AreLinked facts ts first n → AreLinked facts ts n last →
      AreLinked facts ts first last
  link-both ts first n last a b =
      let x : first ≤ n = a.upto in
      let y : n ≤ last = b.upto in
      record {
        upto = omega arith;
        each = λ m from upto. elim (cases_order m n) [
          | inl same ↦ let s : Sits facts ts first n m =
              a.each m from (omega arith) in let t : Sits facts ts n last m = b.each m (omega arith) upto in record {
                fact = s.fact;
                told = s.told;
                ts_is = s.ts_is;
                later = s.later;
                earlier =
                    λ less. ap (λ (x : Fact). x.marker) (one_fact m s.fact t.fact s.told t.told) ∙ t.earlier less;
              }
          | inr other ↦ elim other [
            | inl less ↦ let s : Sits facts ts first n m = a.each m from (omega arith) in
                record {
                  fact = s.fact;
                  told = s.told;
                  ts_is = s.ts_is;
                  later = s.later;
                  earlier = λ _. s.earlier less;
                }
            | inr more ↦ let t : Sits facts ts n last m = b.each m (omega arith) upto in
                record {
                  fact = t.fact;
                  told = t.told;
                  ts_is = t.ts_is;
                  later = λ _. t.later more;
                  earlier = t.earlier;
                }
          ]
        ];
      }

  -- a number from which the numbers go on to one that the next doesn't go on with
  pub reach-stops : (ts n last : ℕ) (a : Fact) → AreLinked facts ts n last → facts last ≡ Some a →
      ((b : Fact) → facts (last + 1) ≡ Some b → follows a b ≡ true → ⊥) → IsReach facts ts n last
  reach-stops ts n last a linked told stops =
      record { linked = linked; most = λ other m more. within other m more (cases_order m last) } where
        within : (other m : ℕ) → AreLinked facts other n m → (m ≡ last) ⊎ ((m < last) ⊎ (last < m)) → m ≤ last
        within other m more (inl same) = omega arith
        within other m more (inr (inl less)) = omega arith
        within other m more (inr (inr beyond)) =
            let some : n ≤ last = linked.upto in
            let s : Sits facts other n m (last + 1) = more.each (last + 1) (omega arith) (omega arith) in
            absurd (stops s.fact s.told
            (follows-from a s.fact (marker-at other n m last a more some beyond told)
            (ts-at other n m last a more some (omega arith) told ∙ sym s.ts_is) (s.later (omega arith))))

  -- no whole frame has a number that isn't told media
  pub blocked-none : (n : ℕ) → facts n ≡ None → NoneHas facts n
  blocked-none n none ts f l whole from upto =
      let s : Sits facts ts f l n = whole.linked.each n from upto in
      none-some s.fact (sym none ∙ s.told)

  -- two whole frames with a common number begin and end together
  pub whole-first : (ts f l ts' f' l' n : ℕ) → AreWhole facts ts f l → AreWhole facts ts' f' l' → f ≤ n → n ≤ l →
      f' ≤ n → n ≤ l' → f ≡ f'
  whole-first ts f l ts' f' l' n w w' a b a' b' = elim (cases_order f f') [
    | inl same ↦ same
    | inr other ↦ elim other [
      | inl less ↦ absurd (true≢false
          (sym w'.start.starts ∙ starts-at ts f l f' w'.start.fact w.linked less (omega arith) w'.start.told))
      | inr more ↦ absurd (true≢false
          (sym w.start.starts ∙ starts-at ts' f' l' f w.start.fact w'.linked more (omega arith) w.start.told))
    ]
  ]

  pub whole-last : (ts f l ts' f' l' n : ℕ) → AreWhole facts ts f l → AreWhole facts ts' f' l' → f ≤ n → n ≤ l →
      f' ≤ n → n ≤ l' → l ≡ l'
  whole-last ts f l ts' f' l' n w w' a b a' b' = elim (cases_order l l') [
    | inl same ↦ same
    | inr other ↦ elim other [
      | inl less ↦ absurd (true≢false
          (sym w.end.marker ∙ marker-at ts' f' l' l w.end.fact w'.linked (omega arith) less w.end.told))
      | inr more ↦ absurd (true≢false
          (sym w'.end.marker ∙ marker-at ts f l l' w'.end.fact w.linked (omega arith) more w'.end.told))
    ]
  ]

-- a fact stands under an available number
pub fact-available : (passed : Option ℕ) (entries : List (ℕ × Arrival)) (n : ℕ) (fact : Fact) →
    fact_at passed entries n ≡ Some fact → is_available n entries ≡ true
fact-available passed entries n fact told = either (at n entries) refl where
  either : (o : Option Arrival) → at n entries ≡ o → is_available n entries ≡ true
  either None none = absurd (none-some fact (sym (ap (option_and_then (fact_of passed n)) none) ∙ told))
  either (Some t) is = ap is_some is

-- it is at most the newest one
pub upto-newest : (passed : Option ℕ) (ring : Numbered Arrival) (n other : ℕ) (fact : Fact) → IsNumbered ring →
    fact_at passed ring.entries n ≡ Some fact → n ≤ unwrap_or ring.newest other
upto-newest passed ring n other fact sound told =
    either ring.newest (sound.inside n (fact-available passed ring.entries n fact told)) where
      either : (o : Option ℕ) → is_inside o n ≡ true → n ≤ unwrap_or o other
      either None inside = absurd (true≢false (sym inside))
      either (Some newest) inside = leb-true n newest (and_parts _ _ inside).1
