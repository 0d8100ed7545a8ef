-- The runs in three queues, and what is done with them.
use Rattle.std.proofs.Common.{◌≡◌, ℕ, ◌<◌, ◌≤◌, Bool, true, false, cond, List, [], ◌∷◌, length, refl, sym, ◌∙◌, ap, subst, arith}
use Rattle.std.specs.Prelude.{◌==◌, ◌&&◌, not, nat_lt, nat_le, is_none}
use Rattle.std.specs.List.{filter, list_all, list_any}
use Rattle.std.proofs.lemmas.Grind.{common_steps}
use Rattle.std.proofs.lemmas.List.Sums.{AllPass-from_list_all}
use Rattle.vrx_num.specs.declared.limits.TheConstants.{WINDOW}
use Rattle.vrx_codec.specs.declared.run.Run.{Run}
use Rattle.vrx_refs.specs.References.{has_layer}
use Rattle.vrx_buffer.specs.Frames.{AreStanding, runs_from, with_run, without}
use Rattle.vrx_buffer.specs.Kept.{AreKept, have_layers, is_key, is_layered, is_plain, joined, runs_of}
use Rattle.vrx_buffer.specs.Order.{put_by, rises_by}
use Rattle.vrx_buffer.proofs.OrderLemmas.{all-filter, all-pass, all-put, beyond, beyond-put, fewer, filter-filter, filter-put, length-put, put-first, rises-filter, rises-put}

abbrev first : Run → ℕ
first run = run.first

-- what begins before all others comes first among all
joined-first : (r : Run) (xs ys : List Run) → beyond first r.first xs ≡ true → joined xs (r ∷ ys) ≡ r ∷ joined xs ys
joined-first r [] ys h = refl
joined-first r (x ∷ xs) ys h =
    let rest : beyond first r.first xs ≡ true = grind (arith, common_steps) in
    let after : nat_lt x.first r.first ≡ false = grind (arith, common_steps) in
    ap (put_by first x) (joined-first r xs ys rest)
    ∙ ap (λ b. cond b (x ∷ r ∷ joined xs ys) (r ∷ put_by first x (joined xs ys))) after

-- the runs of each kind, joined, are the runs
abbrev parts : List Run → List Run
parts runs = runs_of (filter is_key runs) (filter is_plain runs) (filter is_layered runs)

beyond-joined : (n : ℕ) (xs ys : List Run) → beyond first n xs ≡ true → beyond first n ys ≡ true
    → beyond first n (joined xs ys) ≡ true
beyond-joined n [] ys h g = g
beyond-joined n (x ∷ xs) ys h g =
    let more : n < x.first = grind (arith, common_steps) in
    let rest : beyond first n xs ≡ true = grind (arith, common_steps) in
    beyond-put first n x (joined xs ys) more (beyond-joined n xs ys rest g)

parts-first : (key bare : Bool) (r : Run) (ks ps ls : List Run) → beyond first r.first ks ≡ true
    → beyond first r.first ps ≡ true → beyond first r.first ls ≡ true
    → runs_of (cond key (r ∷ ks) ks) (cond (not key && bare) (r ∷ ps) ps) (cond (not key && not bare) (r ∷ ls) ls)
    ≡ r ∷ runs_of ks ps ls
parts-first true bare r ks ps ls k p l = put-first first r (runs_of ks ps ls)
    (beyond-joined r.first ks (joined ps ls) k (beyond-joined r.first ps ls p l))
parts-first false true r ks ps ls k p l =
    ap (joined ks) (put-first first r (joined ps ls) (beyond-joined r.first ps ls p l))
    ∙ joined-first r ks (joined ps ls) k
parts-first false false r ks ps ls k p l =
    ap (joined ks) (joined-first r ps ls p) ∙ joined-first r ks (joined ps ls) k

parts-all : (runs : List Run) → rises_by first runs ≡ true → parts runs ≡ runs
parts-all [] rise = refl
parts-all (r ∷ rs) rise =
    let after : beyond first r.first rs ≡ true = grind (arith, common_steps) in
    let rest : parts rs ≡ rs = parts-all rs (grind (arith, common_steps)) in
    let each : (p : Run → Bool) → beyond first r.first (filter p rs) ≡ true =
    λ p. all-filter (λ run. nat_lt r.first run.first) p rs after in
    parts-first r.key (is_none r.layers) r (filter is_key rs) (filter is_plain rs) (filter is_layered rs)
    (each is_key) (each is_plain) (each is_layered)
    ∙ ap (λ ys. r ∷ ys) rest

-- none of the others begins at the number
fresh : (n : ℕ) (runs : List Run) → list_any (λ run. run.first == n) (without n runs) ≡ false
fresh n [] = refl
fresh n (r ∷ rs) = grind (arith, common_steps, fresh n rs)

pub rises-with : (run : Run) (runs : List Run) → rises_by first runs ≡ true → rises_by first (with_run run runs) ≡ true
rises-with run runs rise = rises-put first run (without run.first runs) (fresh run.first runs)
    (rises-filter first (λ r. not (r.first == run.first)) runs rise)

-- the runs of a kind, once one was put in
part-with : (p : Run → Bool) (run : Run) (runs : List Run) → rises_by first runs ≡ true
    → filter p (with_run run runs) ≡ cond (p run) (with_run run (filter p runs)) (without run.first (filter p runs))
part-with p run runs rise =
    let others = λ (r : Run). not (r.first == run.first) in
    filter-put first p run (without run.first runs) (rises-filter first others runs rise)
    ∙ ap (λ rs. cond (p run) (put_by first run rs) rs) (filter-filter p others runs)

module _ (runs keys plain layered : List Run) (kept : AreKept runs keys plain layered) where
  -- the runs are those of the queues
  pub kept-joined : runs_of keys plain layered ≡ runs
  kept-joined = (λ i. runs_of (kept.keys_are i) (kept.plain_are i) (kept.layered_are i)) ∙ parts-all runs kept.rise

  pub kept-itself : AreKept (runs_of keys plain layered) keys plain layered
  kept-itself = subst (λ rs. AreKept rs keys plain layered) (sym kept-joined) kept

  pub kept-standing : AreStanding runs
  kept-standing = record {
    rise = kept.rise;
    few = kept.few;
    layers = AllPass-from_list_all (λ (run : Run). has_layer run.layers) runs kept.layers;
  }

  -- a queue has no more runs than there are
  pub keys-few : length keys ≤ length runs
  keys-few = subst (λ ks. length ks ≤ length runs) (sym kept.keys_are) (fewer is_key runs)

  pub plain-few : length plain ≤ length runs
  plain-few = subst (λ ks. length ks ≤ length runs) (sym kept.plain_are) (fewer is_plain runs)

  pub layered-few : length layered ≤ length runs
  layered-few = subst (λ ks. length ks ≤ length runs) (sym kept.layered_are) (fewer is_layered runs)

  -- a run is added
  module _ (run : Run) (room : length runs < WINDOW) (layer : has_layer run.layers ≡ true) where
    -- a queue after that
    abbrev pub set : (Run → Bool) → List Run → List Run
    set p rs = cond (p run) (with_run run rs) (without run.first rs)

    pub kept-with : AreKept (with_run run runs) (set is_key keys) (set is_plain plain) (set is_layered layered)
    kept-with = record {
      rise = rises-with run runs kept.rise;
      few = omega (
        arith,
        room,
        length-put first run (without run.first runs),
        fewer (λ r. not (r.first == run.first)) runs,
      );
      layers = all-put first (λ r. has_layer r.layers) run (without run.first runs) layer
          (all-filter (λ r. has_layer r.layers) (λ r. not (r.first == run.first)) runs kept.layers);
      keys_are = ap (set is_key) kept.keys_are ∙ sym (part-with is_key run runs kept.rise);
      plain_are = ap (set is_plain) kept.plain_are ∙ sym (part-with is_plain run runs kept.rise);
      layered_are = ap (set is_layered) kept.layered_are ∙ sym (part-with is_layered run runs kept.rise);
    }

    pub kept-added : (ks ps ls : List Run) → ks ≡ set is_key keys → ps ≡ set is_plain plain
        → ls ≡ set is_layered layered → AreKept (with_run run runs) ks ps ls
    kept-added ks ps ls k p l = subst (λ xs. AreKept (with_run run runs) xs ps ls) (sym k)
        (subst (λ xs. AreKept (with_run run runs) (set is_key keys) xs ls) (sym p)
        (subst (λ xs. AreKept (with_run run runs) (set is_key keys) (set is_plain plain) xs) (sym l) kept-with))

  -- the runs below a number are removed
  pub kept-from : (n : ℕ) → AreKept (runs_from n runs) (runs_from n keys) (runs_from n plain) (runs_from n layered)
  kept-from n = record {
    rise = rises-filter first at runs kept.rise;
    few = omega (arith, kept.few, fewer at runs);
    layers = all-filter (λ r. has_layer r.layers) at runs kept.layers;
    keys_are = ap (runs_from n) kept.keys_are ∙ filter-filter at is_key runs;
    plain_are = ap (runs_from n) kept.plain_are ∙ filter-filter at is_plain runs;
    layered_are = ap (runs_from n) kept.layered_are ∙ filter-filter at is_layered runs;
  } where
    at : Run → Bool
    at run = nat_le n run.first

  pub kept-dropped : (n : ℕ) (ks ps ls : List Run) → ks ≡ runs_from n keys → ps ≡ runs_from n plain
      → ls ≡ runs_from n layered → AreKept (runs_from n runs) ks ps ls
  kept-dropped n ks ps ls k p l = subst (λ xs. AreKept (runs_from n runs) xs ps ls) (sym k)
      (subst (λ xs. AreKept (runs_from n runs) (runs_from n keys) xs ls) (sym p)
      (subst (λ xs. AreKept (runs_from n runs) (runs_from n keys) (runs_from n plain) xs) (sym l) (kept-from n)))

  -- what a pull asks of the queues
  pub all-plain : list_all is_plain plain ≡ true
  all-plain = ap (list_all is_plain) kept.plain_are ∙ all-pass is_plain runs

  pub all-layers : have_layers layered ≡ true
  all-layers = ap have_layers kept.layered_are
      ∙ all-filter (λ run. has_layer run.layers) is_layered runs kept.layers
