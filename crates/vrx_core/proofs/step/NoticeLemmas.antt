-- Numbers are noticed one after the other.
use Rattle.std.proofs.Common.{◌≡◌, ℕ, suc, ◌+◌, ◌-◌, ◌<◌, Bool, true, false, cond, List, [], ◌∷◌, ◌++◌, refl, sym, ◌∙◌, ap, arith}
use Rattle.std.specs.Prelude.{nat_lt}
use Rattle.std.specs.List.{filter, list_all}
use Rattle.std.proofs.lemmas.Bool.{lt-ltb, ltb-true, and_from, and_parts}
use Rattle.std.proofs.lemmas.List.{append_assoc}
use Rattle.vrx_num.specs.declared.limits.TheConstants.{WINDOW}
use Rattle.vrx_asks.specs.Asks.{are_below, is_near, with_missing}
use Rattle.vrx_asks.specs.declared.ask.Ask.{Ask}
use Rattle.vrx_frames.specs.Run.{numbers_from}
use Rattle.vrx_core.specs.machine.GivenUp.{numbers_below}
use Rattle.vrx_core.specs.inside.Wants.{with_all_missing}

-- the first of the numbers below one, and the others
pub below-first : (n below : ℕ) → n < below → numbers_below n below ≡ n ∷ numbers_below (n + 1) below
below-first n below less = ap (numbers_from n) (let e : below - n ≡ suc (below - (n + 1)) = omega arith in e)

pub noticed-asks : (now n below : ℕ) (asks : List Ask) → n < below →
    with_all_missing now (numbers_below (n + 1) below) (with_missing n now asks) ≡ with_all_missing now
    (numbers_below n below) asks
noticed-asks now n below asks less = sym (ap (λ ns. with_all_missing now ns asks) (below-first n below less))

-- of one and others those that pass a test
filter-first : (test : ℕ → Bool) (n : ℕ) (ns : List ℕ) → filter test (n ∷ []) ++ filter test ns ≡ filter test (n ∷ ns)
filter-first test n ns = by (test n) where
  by : (b : Bool) → cond b (n ∷ []) [] ++ filter test ns ≡ cond b (n ∷ filter test ns) (filter test ns)
  by true = refl
  by false = refl

pub noticed-unless : (test : ℕ → Bool) (n below : ℕ) (numbers : List ℕ) → n < below →
    (numbers ++ filter test (n ∷ [])) ++ filter test (numbers_below (n + 1) below)
    ≡ numbers ++ filter test (numbers_below n below)
noticed-unless test n below numbers less =
    append_assoc numbers (filter test (n ∷ [])) (filter test (numbers_below (n + 1) below))
    ∙ ap (λ ns. numbers ++ ns) (filter-first test n (numbers_below (n + 1) below)
    ∙ sym (ap (filter test) (below-first n below less)))

-- one more number that is missing
pub below-more : (n now : ℕ) (asks : List Ask) → are_below n asks ≡ true →
    are_below (n + 1) (with_missing n now asks) ≡ true
below-more n now [] below = and_from (nat_lt n (n + 1)) true (lt-ltb n (n + 1) (omega arith)) refl
below-more n now (ask ∷ asks) below =
    let both = and_parts (nat_lt ask.number n) (list_all (λ (a : Ask). nat_lt a.number n) asks) below in
    let less : ask.number < n = ltb-true ask.number n both.0 in
    and_from (nat_lt ask.number (n + 1)) (list_all (λ (a : Ask). nat_lt a.number (n + 1)) (with_missing n now asks))
    (lt-ltb ask.number (n + 1) (omega arith)) (below-more n now asks both.1)

pub near-more : (n now last : ℕ) (asks : List Ask) → last + 1 < n + WINDOW → is_near last asks ≡ true →
    is_near last (with_missing n now asks) ≡ true
near-more n now last [] room near = lt-ltb (last + 1) (n + WINDOW) room
near-more n now last (ask ∷ asks) room near = near
