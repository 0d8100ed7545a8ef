-- Runs that complete are added to those that stand, one after the other.
use Rattle.std.proofs.Common.{◌≡◌, ◌≢◌, ℕ, zero, suc, ◌+◌, ◌<◌, ◌≤◌, ◌⊎◌, true, false, cond, List, [], ◌∷◌, map, length, Contains, refl, sym, ◌∙◌, ap, subst, arith, inl, inr}
use Rattle.std.specs.Prelude.{◌==◌, nat_lt, not}
use Rattle.std.specs.List.{AllByRecursion, filter}
use Rattle.std.proofs.lemmas.Bool.{ne_eqb}
use Rattle.vrx_codec.specs.declared.run.Run.{Run as RunSummary}
use Rattle.vrx_num.specs.declared.limits.TheConstants.{WINDOW}
use Rattle.vrx_refs.specs.References.{has_layer}
use Rattle.vrx_frames.specs.Completed.{Completes}
use Rattle.vrx_frames.specs.Run.{Run, summary_of}
use Rattle.vrx_buffer.specs.Frames.{with_run}
use Rattle.vrx_buffer.specs.Order.{put_by}
use Rattle.vrx_core.specs.inside.Fields.{CanAddAll}
use Rattle.vrx_core.specs.inside.Step.{with_runs}
use Rattle.vrx_core.proofs.relation.ListLemmas.{Contains-either, Contains-empty, Contains-head, Contains-tail, Rises, all-in, all-of, filter-from, filter-whole, map-from, map-to, one-with, put-from, put-here, put-stays, rises-map, rises-put, same-lists}

-- the first number of a run, as it is told and as it is
abbrev pub first_told : RunSummary → ℕ
first_told run = run.first

abbrev pub first_of : Run → ℕ
first_of run = run.first

-- no answer begins at a number at which a run stands
abbrev pub Apart : (answers frames : List RunSummary) → Type 0
Apart answers frames =
    (a : RunSummary) → Contains answers a → (f : RunSummary) → Contains frames f → f.first ≢ a.first

-- no run begins at the first number of the first answer
fresh-all : (a : RunSummary) (more frames : List RunSummary) → Apart (a ∷ more) frames →
    AllByRecursion (λ f. first_told f ≢ first_told a) frames
fresh-all a more frames apart =
    all-of (λ f. first_told f ≢ first_told a) frames (λ f d. apart a (Contains-head a more) f d)

-- so it is put in its place, and in place of nothing
put-fresh : (a : RunSummary) (more frames : List RunSummary) → Apart (a ∷ more) frames →
    with_run a frames ≡ put_by first_told a frames
put-fresh a more frames apart = ap (put_by first_told a) (filter-whole (λ r. not (r.first == a.first)) frames
    (all-of (λ r. not (r.first == a.first) ≡ true) frames
    (λ f d. ap not (ne_eqb f.first a.first (apart a (Contains-head a more) f d)))))

-- once the first answer is added, the others still begin elsewhere
apart-rest : (a : RunSummary) (more frames : List RunSummary) → Rises first_told (a ∷ more) →
    Apart (a ∷ more) frames → Apart more (with_run a frames)
apart-rest a more frames rises apart b c f d =
    elim (put-from first_told a frames f (subst (λ fs. Contains fs f) (put-fresh a more frames apart) d)) [
      | inl same ↦ λ e. let above : a.first < b.first = all-in (λ x. first_told a < first_told x) more b rises.0 c in
          let e' : a.first ≡ f.first = ap first_told same in absurd (omega arith)
      | inr old ↦ apart b (Contains-tail a more b c) f old
    ]

-- what is in a list with answers added is an answer, or was there
pub with-from : (answers frames : List RunSummary) (run : RunSummary) → Contains (with_runs answers frames) run →
    Contains answers run ⊎ Contains frames run
with-from [] frames run c = inr c
with-from (a ∷ more) frames run c = elim (with-from more (with_run a frames) run c) [
  | inl later ↦ inl (Contains-tail a more run later)
  | inr put ↦ elim (put-from first_told a (filter (λ r. not (r.first == a.first)) frames) run put) [
    | inl same ↦ inl (subst (λ x. Contains (a ∷ more) x) same (Contains-head a more))
    | inr old ↦ inr (filter-from (λ r. not (r.first == a.first)) frames run old).0
  ]
]

-- what was there is there still
pub with-stays : (answers frames : List RunSummary) → Rises first_told answers → Apart answers frames →
    (run : RunSummary) → Contains frames run → Contains (with_runs answers frames) run
with-stays [] frames ups apart run c = c
with-stays (a ∷ more) frames ups apart run c =
    with-stays more (with_run a frames) ups.1 (apart-rest a more frames ups apart) run
    (subst (λ fs. Contains fs run) (sym (put-fresh a more frames apart)) (put-stays first_told a frames run c))

-- and each answer is
pub with-answers : (answers frames : List RunSummary) → Rises first_told answers → Apart answers frames →
    (run : RunSummary) → Contains answers run → Contains (with_runs answers frames) run
with-answers [] frames ups apart run c = absurd (Contains-empty run c)
with-answers (a ∷ more) frames ups apart run c = elim (Contains-either a more run c) [
  | inl same ↦ with-stays more (with_run a frames) ups.1 (apart-rest a more frames ups apart) run
      (subst (λ x. Contains (with_run a frames) x) same
      (put-here first_told a (filter (λ r. not (r.first == a.first)) frames)))
  | inr later ↦ with-answers more (with_run a frames) ups.1 (apart-rest a more frames ups apart) run later
]

-- the list still rises
pub with-rises : (answers frames : List RunSummary) → Rises first_told frames → Rises first_told answers →
    Apart answers frames → Rises first_told (with_runs answers frames)
with-rises [] frames rises ups apart = rises
with-rises (a ∷ more) frames rises ups apart =
    with-rises more (with_run a frames)
    (subst (Rises first_told) (sym (put-fresh a more frames apart))
    (rises-put first_told a frames rises (fresh-all a more frames apart))) ups.1
    (apart-rest a more frames ups apart)

-- What completes is added: the runs that stood before, and the answers, are the runs that stand after.
module _ (before after : List Run) (answers : List RunSummary) where
  -- an answer begins at no number at which a run stood
  pub answers-apart : Rises first_of after → Completes before after answers → Apart answers (map summary_of before)
  answers-apart rises completes a c f d same =
      let r : (run : Run) × Contains after run × (summary_of run ≡ a) = completes.only a c in
      let b : (run : Run) × Contains before run × (summary_of run ≡ f) = map-from summary_of before f d in
      let e : r.0.first ≡ a.first = ap first_told r.2 in
      let e' : b.0.first ≡ f.first = ap first_told b.2 in
      let one : b.0 ≡ r.0 = one-with first_of after b.0 r.0 rises (completes.stay b.0 b.1) r.1 (e' ∙ same ∙ sym e) in
      completes.not_both r.0 r.1 (subst (λ x. Contains before x) one b.1)
      (subst (λ x. Contains answers x) (sym r.2) c)

  -- the list with the answers added is what stands after
  pub completed-list : Rises first_of before → Rises first_of after → Completes before after answers →
      Rises first_told answers → with_runs answers (map summary_of before) ≡ map summary_of after
  completed-list rises rises' completes ups =
      same-lists first_told (with_runs answers (map summary_of before)) (map summary_of after)
      (with-rises answers (map summary_of before)
      (rises-map first_of first_told summary_of (λ r. refl) before rises) ups (answers-apart rises' completes))
      (rises-map first_of first_told summary_of (λ r. refl) after rises') to back where
        to : (x : RunSummary) → Contains (with_runs answers (map summary_of before)) x →
            Contains (map summary_of after) x
        to x c = elim (with-from answers (map summary_of before) x c) [
          | inl new ↦ let r : (run : Run) × Contains after run × (summary_of run ≡ x) = completes.only x new in
              subst (λ y. Contains (map summary_of after) y) r.2 (map-to summary_of after r.0 r.1)
          | inr old ↦ let b : (run : Run) × Contains before run × (summary_of run ≡ x) =
              map-from summary_of before x old in
              subst (λ y. Contains (map summary_of after) y) b.2
              (map-to summary_of after b.0 (completes.stay b.0 b.1))
        ]

        back : (x : RunSummary) → Contains (map summary_of after) x →
            Contains (with_runs answers (map summary_of before)) x
        back x c = let r : (run : Run) × Contains after run × (summary_of run ≡ x) = map-from summary_of after x c in
            subst (λ y. Contains (with_runs answers (map summary_of before)) y) r.2 (elim (completes.either r.0 r.1) [
              | inl old ↦ with-stays answers (map summary_of before) ups (answers-apart rises' completes) (summary_of r.0)
                  (map-to summary_of before r.0 old)
              | inr new ↦ with-answers answers (map summary_of before) ups (answers-apart rises' completes) (summary_of r.0) new
            ])

-- runs that begin in the window, each at another number, are at most as many as it has numbers
few-inside : (low : ℕ) (most : ℕ) (runs : List RunSummary) → Rises first_told runs →
    AllByRecursion (λ r. (low ≤ r.first) × (r.first < low + most)) runs → length runs ≤ most
few-inside low most [] rises all = omega arith
few-inside low zero (r ∷ rs) rises all =
    let from : low ≤ r.first = all.0.0 in let below : r.first < low + 0 = all.0.1 in absurd (omega arith)
few-inside low (suc most) (r ∷ rs) rises all =
    let from : low ≤ r.first = all.0.0 in
    let rest : length rs ≤ most = few-inside (low + 1) most rs rises.1
    (all-of (λ x. (low + 1 ≤ x.first) × (x.first < low + 1 + most)) rs
    (λ x c. let above : r.first < x.first = all-in (λ y. first_told r < first_told y) rs x rises.0 c in
    let below : x.first < low + suc most = (all-in (λ y. (low ≤ y.first) × (y.first < low + suc most)) rs x all.1 c).1 in
    (omega arith, omega arith))) in
    omega arith

-- what a run that is added has: it begins in the window from this number on, and its TID, if it has layers, is one of
-- the four
pub record MayStand (low : ℕ) (run : RunSummary) : Type 0 where
  pub from : low ≤ run.first
  pub below : run.first < low + WINDOW
  pub layer : has_layer run.layers ≡ true

-- one more is one more
put-more : (a : RunSummary) (xs : List RunSummary) → length (put_by first_told a xs) ≡ suc (length xs)
put-more a [] = refl
put-more a (x ∷ xs) =
    elim (nat_lt a.first x.first) as (λ b. length (cond b (a ∷ x ∷ xs) (x ∷ put_by first_told a xs))
    ≡ suc (suc (length xs))) [ true ↦ refl | false ↦ ap suc (put-more a xs) ]

-- answers that rise, and begin at no number at which a run stands, can be added one after the other
pub can-add : (low : ℕ) (answers frames : List RunSummary) → Rises first_told frames → Rises first_told answers →
    Apart answers frames → AllByRecursion (λ r. (low ≤ r.first) × (r.first < low + WINDOW)) frames
    → ((a : RunSummary) → Contains answers a → MayStand low a) → CanAddAll answers frames
can-add low [] frames rises ups apart all each = tt
can-add low (a ∷ more) frames rises ups apart all each =
    let may : MayStand low a = each a (Contains-head a more) in
    let fresh : with_run a frames ≡ put_by first_told a frames = put-fresh a more frames apart in
    let rises' : Rises first_told (with_run a frames) = subst (Rises first_told) (sym fresh)
    (rises-put first_told a frames rises (fresh-all a more frames apart)) in
    let all' : AllByRecursion (λ r. (low ≤ r.first) × (r.first < low + WINDOW)) (with_run a frames) =
    all-of (λ r. (low ≤ r.first) × (r.first < low + WINDOW)) (with_run a frames)
    (λ r c. elim (put-from first_told a frames r (subst (λ fs. Contains fs r) fresh c)) [
      | inl same ↦ subst (λ x. (low ≤ x.first) × (x.first < low + WINDOW)) same (may.from, may.below)
      | inr old ↦ all-in (λ x. (low ≤ x.first) × (x.first < low + WINDOW)) frames r all old
    ]) in
    let few : length (with_run a frames) ≤ WINDOW = few-inside low WINDOW (with_run a frames) rises' all' in
    let count : length (with_run a frames) ≡ suc (length frames) = ap length fresh ∙ put-more a frames in (
      (omega arith, may.layer),
      can-add low more (with_run a frames) rises' ups.1 (apart-rest a more frames ups apart) all'
          (λ b c. each b (Contains-tail a more b c)),
    )
