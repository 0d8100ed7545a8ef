-- Places that rise, that lie below a number, and that are merged.
use Rattle.std.proofs.Common.{◌≡◌, ◌≢◌, ℕ, zero, suc, ◌+◌, ◌<◌, ◌≤◌, Bool, true, false, List, [], ◌∷◌, ◌++◌, length, eqb, eq-eqb, ne_eqb, cond, refl, ap, subst, ⊎_elim, arith}
use Rattle.std.specs.Prelude.{nat_lt}
use Rattle.std.proofs.lemmas.Bool.Decides.{nat_tests}
use mathlib.Core.Logic.{dite}
use native.Mathlib.Decide.{ℕ_discrete}
use Rattle.vrx_lock.specs.Lists.{AllBelow, IsAmong, RisesFrom, counted_from, merged, with_place}
use Rattle.vrx_lock.specs.inside.Rule.{total, total_below}
use Rattle.vrx_lock.proofs.Totals.{one, total-one}

pub rises-from : (m n : ℕ) (ps : List ℕ) → m ≤ n → RisesFrom n ps → RisesFrom m ps
rises-from m n [] le r = tt
rises-from m n (p ∷ ps) le r = (omega (arith, r.0), r.1)

pub below-more : (m n : ℕ) (ps : List ℕ) → m ≤ n → AllBelow m ps → AllBelow n ps
below-more m n [] le b = tt
below-more m n (p ∷ ps) le b = (omega (arith, b.0), below-more m n ps le b.1)

pub below-last : (m n : ℕ) (ps : List ℕ) → m < n → AllBelow m ps → AllBelow n (ps ++ m ∷ [])
below-last m n [] lt b = (lt, tt)
below-last m n (p ∷ ps) lt b = (omega (arith, b.0), below-last m n ps lt b.1)

pub rises-last : (n m : ℕ) (ps : List ℕ) → n ≤ m → RisesFrom n ps → AllBelow m ps → RisesFrom n (ps ++ m ∷ [])
rises-last n m [] le r b = (le, tt)
rises-last n m (p ∷ ps) le r b = (r.0, rises-last (p + 1) m ps (omega (arith, b.0)) r.1 b.1)

pub rises-few : (n m : ℕ) (ps : List ℕ) → n ≤ m → RisesFrom n ps → AllBelow m ps → n + length ps ≤ m
rises-few n m [] le r b = omega arith
rises-few n m (p ∷ ps) le r b =
    omega (arith, r.0, rises-few (p + 1) m ps (omega (arith, b.0)) r.1 b.1)

-- places that are as many as the numbers that they lie between are all of them
pub rises-all : (n m : ℕ) (ps : List ℕ) → n ≤ m → RisesFrom n ps → AllBelow m ps → n + length ps ≡ m
    → ps ≡ counted_from n (length ps)
rises-all n m [] le r b e = refl
rises-all n m (p ∷ ps) le r b e =
    let rest = rises-few (p + 1) m ps (omega (arith, b.0)) r.1 b.1 in
    let same : p ≡ n = omega (arith, r.0, rest) in
    let more : ps ≡ counted_from (p + 1) (length ps) =
    rises-all (p + 1) m ps (omega (arith, b.0)) r.1 b.1 (omega (arith, r.0, rest)) in
    subst (λ k. p ∷ ps ≡ k ∷ counted_from (k + 1) (length ps)) same (ap (λ qs. p ∷ qs) more)

-- how often a place stands among others
abbrev pub is_at : ℕ → ℕ → ℕ
is_at n p = cond (eqb n p) 1 0

is_at-same : (n p : ℕ) → n ≡ p → is_at n p ≡ 1
is_at-same n p e = ap (λ b. cond b 1 0) (eq-eqb n p e)

is_at-other : (n p : ℕ) → n ≢ p → is_at n p ≡ 0
is_at-other n p ne = ap (λ b. cond b 1 0) (ne_eqb n p ne)

is_at-most : (n p : ℕ) → is_at n p ≤ 1
is_at-most n p = dite (ℕ_discrete n p) (λ e. omega (arith, is_at-same n p e)) (λ ne. omega (arith, is_at-other n p ne))

below-none : (n m : ℕ) → m ≤ n → total_below (is_at n) m ≡ 0
below-none n zero le = refl
below-none n (suc m) le =
    omega (arith, below-none n m (omega arith), is_at-other n m (λ e. absurd (omega (arith, e))))

-- among the numbers below one, each stands once at most
pub below-once : (n m : ℕ) → total_below (is_at n) m ≤ 1
below-once n zero = omega arith
below-once n (suc m) = dite (ℕ_discrete n m)
    (λ e. omega (arith, below-none n m (omega (arith, e)), is_at-most n m))
    (λ ne. omega (arith, below-once n m, is_at-other n m ne))

pub among-once : (n : ℕ) (ps : List ℕ) → IsAmong n ps → 1 ≤ total (is_at n) ps
among-once n [] h = absurd h
among-once n (p ∷ ps) h = ⊎_elim (λ e. omega (arith, is_at-same n p e)) (λ t. omega (arith, among-once n ps t)) h

rises-none : (n m : ℕ) (ps : List ℕ) → n < m → RisesFrom m ps → total (is_at n) ps ≡ 0
rises-none n m [] lt r = refl
rises-none n m (p ∷ ps) lt r =
    omega (arith, rises-none n (p + 1) ps (omega (arith, r.0)) r.1, is_at-other n p (λ e. absurd (omega (arith, e, r.0))))

-- among places that rise, each stands once at most
rises-once : (n m : ℕ) (ps : List ℕ) → RisesFrom m ps → total (is_at n) ps ≤ 1
rises-once n m [] r = omega arith
rises-once n m (p ∷ ps) r = dite (ℕ_discrete n p)
    (λ e. omega (arith, is_at-most n p, rises-none n (p + 1) ps (omega (arith, e)) r.1))
    (λ ne. omega (arith, is_at-other n p ne, rises-once n (p + 1) ps r.1))

total-placed : (f : ℕ → ℕ) (n p : ℕ) (ps qs : List ℕ) (b : Bool) → total f qs ≡ f n + total f ps
    → total f (cond b (n ∷ p ∷ ps) (p ∷ qs)) ≡ f n + (f p + total f ps)
total-placed f n p ps qs true e = refl
total-placed f n p ps qs false e = omega (arith, e)

total-with_place : (f : ℕ → ℕ) (n : ℕ) (ps : List ℕ) → total f (with_place n ps) ≡ f n + total f ps
total-with_place f n [] = refl
total-with_place f n (p ∷ ps) = total-placed f n p ps (with_place n ps) (nat_lt n p) (total-with_place f n ps)

pub total-merged : (f : ℕ → ℕ) (ps qs : List ℕ) → total f (merged ps qs) ≡ total f ps + total f qs
total-merged f [] qs = omega arith
total-merged f (p ∷ ps) qs = omega (arith, total-with_place f p (merged ps qs), total-merged f ps qs)

pub length-merged : (ps qs : List ℕ) → length (merged ps qs) ≡ length ps + length qs
length-merged ps qs =
    omega (arith, total-one (merged ps qs), total-one ps, total-one qs, total-merged one ps qs)

below-placed : (m n p : ℕ) (ps qs : List ℕ) (b : Bool) → n < m → AllBelow m (p ∷ ps) → AllBelow m qs
    → AllBelow m (cond b (n ∷ p ∷ ps) (p ∷ qs))
below-placed m n p ps qs true lt h h' = (lt, h)
below-placed m n p ps qs false lt h h' = (h.0, h')

below-with_place : (m n : ℕ) (ps : List ℕ) → n < m → AllBelow m ps → AllBelow m (with_place n ps)
below-with_place m n [] lt b = (lt, tt)
below-with_place m n (p ∷ ps) lt b =
    below-placed m n p ps (with_place n ps) (nat_lt n p) lt b (below-with_place m n ps lt b.1)

pub below-merged : (m : ℕ) (ps qs : List ℕ) → AllBelow m ps → AllBelow m qs → AllBelow m (merged ps qs)
below-merged m [] qs b b' = b'
below-merged m (p ∷ ps) qs b b' = below-with_place m p (merged ps qs) b.0 (below-merged m ps qs b.1 b')

rises-placed : (m n p : ℕ) (ps qs : List ℕ) (b : Bool) → nat_lt n p ≡ b → m ≤ n → RisesFrom m (p ∷ ps) → n ≢ p
    → (p + 1 ≤ n → RisesFrom (p + 1) qs) → RisesFrom m (cond b (n ∷ p ∷ ps) (p ∷ qs))
rises-placed m n p ps qs true is le r ne h =
    let low : n < p = grind (arith, nat_tests, is) in (le, (omega (arith, low), r.1))
rises-placed m n p ps qs false is le r ne h =
    let high : p ≤ n = grind (arith, nat_tests, is) in (r.0, h (omega (arith, high, ne)))

rises-with_place : (m n : ℕ) (ps : List ℕ) → m ≤ n → RisesFrom m ps → total (is_at n) ps ≡ 0
    → RisesFrom m (with_place n ps)
rises-with_place m n [] le r none = (le, tt)
rises-with_place m n (p ∷ ps) le r none =
    rises-placed m n p ps (with_place n ps) (nat_lt n p) refl le r
    (λ e. absurd (omega (arith, is_at-same n p e, none)))
    (λ low. rises-with_place (p + 1) n ps low r.1 (omega (arith, none)))

-- merged places rise, if none is in both
pub rises-merged : (ps qs : List ℕ) → RisesFrom 0 qs
    → ((n : ℕ) → total (is_at n) ps + total (is_at n) qs ≤ 1) → RisesFrom 0 (merged ps qs)
rises-merged [] qs r apart = r
rises-merged (p ∷ ps) qs r apart = rises-with_place 0 p (merged ps qs) (omega arith)
    (rises-merged ps qs r (λ n. omega (arith, apart n)))
    (omega (arith, apart p, is_at-same p p refl, total-merged (is_at p) ps qs))

-- if merged places rise, none is in both
pub apart-merged : (ps qs : List ℕ) → RisesFrom 0 (merged ps qs) → (n : ℕ) → IsAmong n ps → IsAmong n qs → ⊥
apart-merged ps qs r n h h' =
    omega (arith, rises-once n 0 (merged ps qs) r, total-merged (is_at n) ps qs, among-once n ps h, among-once n qs h')
