-- The deliverable run with the least first number.
use Rattle.std.proofs.Common.{◌≡◌, ℕ, ◌≤◌, Bool, true, false, cond, List, [], ◌∷◌, ◌++◌, refl, sym, ◌∙◌, ap, subst, arith}
use Rattle.std.specs.Prelude.{◌&&◌, not, nat_lt, slice_get, Option, Some, None, is_none, IfSome}
use Rattle.std.specs.List.{All, Contains, filter, find, list_all}
use Rattle.std.proofs.lemmas.Bool.Decides.{nat_tests}
use Rattle.std.proofs.lemmas.Grind.{common_steps}
use Rattle.std.proofs.lemmas.List.Elements.{All-contains, All-contains_itself, All-filter, All-head, Contains-append_right}
use Rattle.vrx_codec.specs.declared.run.Place.{Place}
use Rattle.vrx_codec.specs.declared.run.Run.{Run}
use Rattle.vrx_refs.specs.declared.sighting.Sighting.{Sighting}
use Rattle.vrx_refs.specs.References.{has_layer, is_evident, is_passed_before, is_some_pulled, judge_delta, Key, Needs, Unknown}
use Rattle.vrx_buffer.specs.Frames.{is_deliverable, is_ready, next_of}
use Rattle.vrx_buffer.specs.Kept.{AreKept, is_before, is_key, is_layered, is_plain, lesser}
use Rattle.vrx_buffer.specs.Order.{rises_by}
use Rattle.vrx_buffer.proofs.OrderLemmas.{all-filter, all-pass, beyond}

abbrev first : Run → ℕ
first run = run.first

-- a run, if there is one, begins beyond a number
abbrev is_later : ℕ → Option Run → Bool
is_later n None = true
is_later n (Some run) = nat_lt n run.first

find-later : (p : Run → Bool) (n : ℕ) (xs : List Run) → beyond first n xs ≡ true → is_later n (find p xs) ≡ true
find-later p n [] h = refl
find-later p n (x ∷ xs) h = grind (arith, common_steps, find-later p n xs)

-- a run that begins before another is the better one, whichever was found first
lesser-first : (a : Run) (o : Option Run) → is_later a.first o ≡ true → lesser (Some a) o ≡ Some a
lesser-first a None h = refl
lesser-first a (Some b) h = ap (λ c. cond c (Some a) (Some b)) h

lesser-last : (a : Run) (o : Option Run) → is_later a.first o ≡ true → lesser o (Some a) ≡ Some a
lesser-last a None h = refl
lesser-last a (Some b) h =
    let after : nat_lt b.first a.first ≡ false = grind (arith, common_steps) in
    ap (λ c. cond c (Some b) (Some a)) after

lesser-later : (n : ℕ) (o q : Option Run) → is_later n o ≡ true → is_later n q ≡ true → is_later n (lesser o q) ≡ true
lesser-later n o None a b = a
lesser-later n o (Some run) a b = by (is_before o run) where
  by : (c : Bool) → is_later n (cond c o (Some run)) ≡ true
  by true = a
  by false = b

module _ (p : Run → Bool) where
  -- a run that passes is found first, and one that doesn't is passed over
  found : (r : Run) (xs : List Run) → p r ≡ true → find p (r ∷ xs) ≡ Some r
  found r xs is = ap (λ b. cond b (Some r) (find p xs)) is

  passed_over : (r : Run) (xs : List Run) → p r ≡ false → find p (r ∷ xs) ≡ find p xs
  passed_over r xs is = ap (λ b. cond b (Some r) (find p xs)) is

  -- what is found in one of two lists, of which the first may have one more run
  found-more : (b : Bool) (r : Run) (xs : List Run) → p r ≡ false → find p (cond b (r ∷ xs) xs) ≡ find p xs
  found-more true r xs is = passed_over r xs is
  found-more false r xs is = refl

  -- the best of the three
  abbrev best_of : (ks ps ls : List Run) → Option Run
  best_of ks ps ls = lesser (lesser (find p ks) (find p ps)) (find p ls)

  best-first : (key bare : Bool) (r : Run) (ks ps ls : List Run) → p r ≡ true → beyond first r.first ks ≡ true
      → beyond first r.first ps ≡ true → beyond first r.first ls ≡ true
      → Some r ≡ best_of (cond key (r ∷ ks) ks) (cond (not key && bare) (r ∷ ps) ps)
      (cond (not key && not bare) (r ∷ ls) ls)
  best-first true bare r ks ps ls is k q l =
      sym (ap (λ o. lesser (lesser o (find p ps)) (find p ls)) (found r ks is)
      ∙ ap (λ o. lesser o (find p ls)) (lesser-first r (find p ps) (find-later p r.first ps q))
      ∙ lesser-first r (find p ls) (find-later p r.first ls l))
  best-first false true r ks ps ls is k q l =
      sym (ap (λ o. lesser (lesser (find p ks) o) (find p ls)) (found r ps is)
      ∙ ap (λ o. lesser o (find p ls)) (lesser-last r (find p ks) (find-later p r.first ks k))
      ∙ lesser-first r (find p ls) (find-later p r.first ls l))
  best-first false false r ks ps ls is k q l =
      sym (ap (λ o. lesser (lesser (find p ks) (find p ps)) o) (found r ls is)
      ∙ lesser-last r (lesser (find p ks) (find p ps)) (lesser-later r.first (find p ks) (find p ps)
      (find-later p r.first ks k) (find-later p r.first ps q)))

  -- what is found among all is the best of what is found among each kind
  pub find-parts : (runs : List Run) → rises_by first runs ≡ true
      → find p runs ≡ best_of (filter is_key runs) (filter is_plain runs) (filter is_layered runs)
  find-parts [] rise = refl
  find-parts (r ∷ rs) rise = by (p r) refl (find-parts rs (grind (arith, common_steps))) where
    after : beyond first r.first rs ≡ true
    after = grind (arith, common_steps)

    each : (q : Run → Bool) → beyond first r.first (filter q rs) ≡ true
    each q = all-filter (λ run. nat_lt r.first run.first) q rs after

    by : (b : Bool) → p r ≡ b
        → find p rs ≡ best_of (filter is_key rs) (filter is_plain rs) (filter is_layered rs)
        → cond b (Some r) (find p rs)
        ≡ best_of (filter is_key (r ∷ rs)) (filter is_plain (r ∷ rs)) (filter is_layered (r ∷ rs))
    by true is rest = best-first r.key (is_none r.layers) r (filter is_key rs) (filter is_plain rs)
        (filter is_layered rs) is (each is_key) (each is_plain) (each is_layered)
    by false is rest = rest
        ∙ sym (λ i. lesser (lesser (found-more (is_key r) r (filter is_key rs) is i)
        (found-more (is_plain r) r (filter is_plain rs) is i))
        (found-more (is_layered r) r (filter is_layered rs) is i))

  -- the first of runs that all pass
  pub find-all : (xs : List Run) → list_all p xs ≡ true → find p xs ≡ slice_get xs 0
  find-all [] h = refl
  find-all (x ∷ xs) h = found x xs (grind (arith, common_steps))

-- a run is found among runs of which all are among others
pub among-lesser : (P : Run → Type 0) (o q : Option Run) → IfSome o P → IfSome q P → IfSome (lesser o q) P
among-lesser P o None a b = a
among-lesser P o (Some run) a b = by (is_before o run) where
  by : (c : Bool) → IfSome (cond c o (Some run)) P
  by true = a
  by false = b

pub among-first : (P : Run → Type 0) (xs : List Run) → All P xs → IfSome (slice_get xs 0) P
among-first P [] all = tt
among-first P (x ∷ xs) all = All-head P x xs all

pub among-part : (p : Run → Bool) (runs part : List Run) → part ≡ filter p runs → All (λ run. Contains runs run) part
among-part p runs part is = subst (All (λ run. Contains runs run)) (sym is)
    (All-filter p (λ run. Contains runs run) runs (All-contains_itself runs))

pub among-back : (front back : List Run) (o : Option Run) → IfSome o (λ run. Contains back run)
    → IfSome o (λ run. Contains (front ++ back) run)
among-back front back None there = tt
among-back front back (Some run) there = Contains-append_right front back run there

pub among-queue : (p : Run → Bool) (runs part : List Run) → part ≡ filter p runs → (o : Option Run)
    → IfSome o (λ run. Contains part run) → IfSome o (λ run. Contains runs run)
among-queue p runs part is None there = tt
among-queue p runs part is (Some run) there = All-contains (λ run. Contains runs run) part run
    (among-part p runs part is) there

module _ (told : List Sighting) (pulled : List Run) (passed : Option ℕ) where
  abbrev ready : Run → Bool
  ready run = is_deliverable told pulled passed run

  -- a keyframe is ready
  key-ready : (run : Run) → run.key ≡ true → ready run ≡ true
  key-ready run is = ap (λ b. is_ready (cond b Key (judge_delta told pulled passed run.first run.layers))) is

  pub keys-ready : (xs : List Run) → list_all is_key xs ≡ true → list_all ready xs ≡ true
  keys-ready [] h = refl
  keys-ready (x ∷ xs) h = grind (arith, common_steps, key-ready x, keys-ready xs)

  -- a run without layers that isn't key is ready if it is evident to what it refers
  plain-ready : (run : Run) → is_plain run ≡ true → ready run ≡ is_evident pulled passed run.first
  plain-ready run is = by run.key run.layers is where
    evident : (b : Bool) → is_ready (cond b (Needs []) Unknown) ≡ b
    evident true = refl
    evident false = refl

    by : (key : Bool) (layers : Option Place) → (not key && is_none layers) ≡ true
        → is_ready (cond key Key (judge_delta told pulled passed run.first layers)) ≡ is_evident pulled passed run.first
    by true layers is = grind (arith, is)
    by false None is = evident (is_evident pulled passed run.first)
    by false (Some place) is = grind (arith, is)

  -- it isn't evident beyond a number of which it isn't
  passed-before : (o : Option ℕ) (n m : ℕ) → n ≤ m → is_passed_before o n ≡ false → is_passed_before o m ≡ false
  passed-before None n m le not_here = refl
  passed-before (Some front) n m le not_here = grind (arith, nat_tests, le, not_here)

  evident-later : (n m : ℕ) → n ≤ m → is_evident pulled passed n ≡ false → is_evident pulled passed m ≡ false
  evident-later n m le not_here = by (is_some_pulled pulled) not_here where
    by : (b : Bool) → (b && is_passed_before passed n) ≡ false → (b && is_passed_before passed m) ≡ false
    by true not_here = passed-before passed n m le not_here
    by false not_here = refl

  none-later : (n : ℕ) (xs : List Run) → is_evident pulled passed n ≡ false → beyond first n xs ≡ true
      → list_all is_plain xs ≡ true → find ready xs ≡ None
  none-later n [] not_here after plain = refl
  none-later n (x ∷ xs) not_here after plain =
      let more : nat_lt n x.first ≡ true = grind (arith, common_steps) in
      let one : is_plain x ≡ true = grind (arith, common_steps) in
      let rest : beyond first n xs ≡ true = grind (arith, common_steps) in
      let others : list_all is_plain xs ≡ true = grind (arith, common_steps) in
      let le : n ≤ x.first = grind (arith, nat_tests, more) in
      passed_over ready x xs (plain-ready x one ∙ evident-later n x.first le not_here)
      ∙ none-later n xs not_here rest others

  -- so of runs without layers only the first has to be judged
  pub plain-found : (run : Run) (xs : List Run) → Some run ≡ slice_get xs 0 → ready run ≡ true
      → Some run ≡ find ready xs
  plain-found run [] is here = grind (arith, is)
  plain-found run (x ∷ xs) is here =
      let same : run ≡ x = cc in is ∙ sym (found ready x xs (ap ready (sym same) ∙ here))

  pub plain-none : (run : Run) (xs : List Run) → Some run ≡ slice_get xs 0 → rises_by first xs ≡ true
      → list_all is_plain xs ≡ true → ready run ≡ false → None ≡ find ready xs
  plain-none run [] is rise plain not_here = refl
  plain-none run (x ∷ xs) is rise plain not_here =
      let same : run ≡ x = cc in
      let one : is_plain x ≡ true = grind (arith, common_steps) in
      let others : list_all is_plain xs ≡ true = grind (arith, common_steps) in
      let after : beyond first x.first xs ≡ true = grind (arith, common_steps) in
      let not_first : ready x ≡ false = ap ready (sym same) ∙ not_here in
      sym (passed_over ready x xs not_first
      ∙ none-later x.first xs (sym (plain-ready x one) ∙ not_first) after others)

  pub plain-empty : (xs : List Run) → None ≡ slice_get xs 0 → None ≡ find ready xs
  plain-empty [] is = refl
  plain-empty (x ∷ xs) is = grind (arith, is)

  -- the best of the first keyframe, of the first plain run that is ready, and of those with layers is the next run
  pub kept-next : (runs keys plain layered : List Run) → AreKept runs keys plain layered
      → (key bare next : Option Run) → key ≡ slice_get keys 0 → bare ≡ find ready plain
      → next ≡ lesser (lesser key bare) (find ready layered) → next ≡ next_of told pulled passed runs
  kept-next runs keys plain layered kept key bare next key_is bare_is next_is =
      next_is
      ∙ ap (λ o. lesser (lesser o bare) (find ready layered)) (key_is ∙ sym (find-all ready keys all_ready))
      ∙ ap (λ o. lesser (lesser (find ready keys) o) (find ready layered)) bare_is
      ∙ (λ i. best_of ready (kept.keys_are i) (kept.plain_are i) (kept.layered_are i))
      ∙ sym (find-parts ready runs kept.rise)
    where
      all_ready : list_all ready keys ≡ true
      all_ready = keys-ready keys (ap (list_all is_key) kept.keys_are ∙ all-pass is_key runs)

-- what is_ready asks of the first run of a queue without layers
none-layers : (key : Bool) (layers : Option Place) → (not key && is_none layers) ≡ true → has_layer layers ≡ true
none-layers true layers is = grind (arith, is)
none-layers false None is = refl
none-layers false (Some place) is = grind (arith, is)

pub first-layer : (run : Run) (xs : List Run) → Some run ≡ slice_get xs 0 → list_all is_plain xs ≡ true
    → has_layer run.layers ≡ true
first-layer run [] is plain = grind (arith, is)
first-layer run (x ∷ xs) is plain =
    let same : run ≡ x = cc in
    ap (λ r. has_layer r.layers) same ∙ none-layers x.key x.layers (grind (arith, common_steps))
