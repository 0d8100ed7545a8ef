-- FEC packets under the numbers that a plan sees.
use Rattle.std.proofs.Common.{◌≡◌, ◌≢◌, ℕ, ◌<◌, ◌≤◌, ◌⊎◌, Bool, true, false, cond, ◌&&◌, List, [], ◌∷◌, refl, sym, ◌∙◌, ap, subst, arith, inl, inr, nat_cmp}
use Rattle.std.specs.Prelude.{◌==◌, Option, Some, None, IfSome, IsSomeAnd, is_some, nat_le}
use Rattle.std.specs.List.{find}
use Rattle.std.specs.Option.{option_map}
use Rattle.std.specs.FinMap.Entries.{below_all, is_sorted}
use Rattle.std.proofs.lemmas.Bool.{and_parts, cases_eq, false_from_ne_true, le-leb, leb-true, true≢false}
use Rattle.vrx_num.specs.OptionChain.{◌>>=◌}
use Rattle.vrx_window.specs.Content.{Content, Media, content_of, is_fec, is_fec_held, next_fec}
use Rattle.vrx_window.specs.Window.{Contents, at, in_window, newest_with}
use Rattle.vrx_window.specs.declared.held.Held.{Held}
use Rattle.vrx_window.specs.declared.held.Held.TheVariants as helds
use Rattle.vrx_repair.specs.Plan.{entries_of, packets_seen, placed}
use Rattle.vrx_repair.specs.Seen.{is_fec_at}
use Rattle.vrx_repair.specs.Step.{payload_of}
use Rattle.vrx_repair.specs.declared.repair.Repair.{Repair}
use Rattle.vrx_repair.proofs.MapLemmas.{at_first, at_later, below-available}
use Rattle.vrx_repair.proofs.SeenLemmas.{after, at-repairs, placed-here, placed-other}

-- the test of `next_fec`
abbrev test : ℕ → ℕ × Held → Bool
test from e = nat_le from e.0 && is_fec e.1

held_there : (o : Option Held) → is_fec_held o ≡ true → is_some o ≡ true
held_there None h = h
held_there (Some held) h = refl

-- a number from one on that has a FEC packet isn't before the next one
pub next-passed : (from k : ℕ) (es : List (ℕ × Held)) → is_sorted nat_cmp es ≡ true → from ≤ k →
    is_fec_held (at k es) ≡ true → IsSomeAnd (next_fec from es) (λ m. m ≤ k)
next-passed from k [] sorted later fec = absurd (true≢false (sym fec))
next-passed from k (e ∷ es) sorted later fec = elim (cases_eq k e.0) [
  | inl same ↦
      (let first : is_fec e.1 ≡ true = sym (ap is_fec_held (ap (λ n. at n (e ∷ es)) same ∙ at_first e es)) ∙ fec in
      let upto : nat_le from e.0 ≡ true = le-leb from e.0 (omega arith) in
      let passes : test from e ≡ true = ap (λ b. b && is_fec e.1) upto ∙ first in
      subst (λ o. IsSomeAnd o (λ m. m ≤ k))
      (sym (ap (λ b. option_map (λ (d : ℕ × Held). d.0) (cond b (Some e) (find (test from) es))) passes)) (omega arith))
  | inr apart ↦
      (let is : is_fec_held (at k es) ≡ true = sym (ap is_fec_held (at_later k e es apart)) ∙ fec in
      let sorts = and_parts (below_all nat_cmp e.0 es) (is_sorted nat_cmp es) sorted in
      let beyond : e.0 < k = below-available e.0 k es sorts.0 (held_there (at k es) is) in
      by_test (test from e) refl beyond (next-passed from k es sorts.1 later is))
] where
  by_test : (b : Bool) → test from e ≡ b → e.0 < k → IsSomeAnd (next_fec from es) (λ m. m ≤ k) →
      IsSomeAnd (option_map (λ (d : ℕ × Held). d.0) (cond (test from e) (Some e) (find (test from) es))) (λ m. m ≤ k)
  by_test true is beyond rest = subst (λ o. IsSomeAnd o (λ m. m ≤ k))
      (sym (ap (λ b. option_map (λ (d : ℕ × Held). d.0) (cond b (Some e) (find (test from) es))) is)) (omega arith)
  by_test false is beyond rest = subst (λ o. IsSomeAnd o (λ m. m ≤ k))
      (sym (ap (λ b. option_map (λ (d : ℕ × Held). d.0) (cond b (Some e) (find (test from) es))) is)) rest

-- and the next one is at least that
pub next-from : (from : ℕ) (es : List (ℕ × Held)) → IfSome (next_fec from es) (λ m. from ≤ m)
next-from from [] = tt
next-from from (e ∷ es) = by_test (test from e) refl (next-from from es) where
  by_test : (b : Bool) → test from e ≡ b → IfSome (next_fec from es) (λ m. from ≤ m) →
      IfSome (option_map (λ (d : ℕ × Held). d.0) (cond (test from e) (Some e) (find (test from) es))) (λ m. from ≤ m)
  by_test true is rest = subst (λ o. IfSome o (λ m. from ≤ m))
      (sym (ap (λ b. option_map (λ (d : ℕ × Held). d.0) (cond b (Some e) (find (test from) es))) is))
      (leb-true from e.0 (and_parts (nat_le from e.0) (is_fec e.1) is).0)
  by_test false is rest = subst (λ o. IfSome o (λ m. from ≤ m))
      (sym (ap (λ b. option_map (λ (d : ℕ × Held). d.0) (cond b (Some e) (find (test from) es))) is)) rest

-- a FEC packet that stands after repairs stood before them
after-fec : (k : ℕ) (made : List Repair) (found : Option Content) →
    is_some (after k (entries_of made) found >>= payload_of) ≡ true → is_some (found >>= payload_of) ≡ true
after-fec k [] found is = is
after-fec k (r ∷ made) found is =
    by_test (k == r.number) (after-fec k made (cond (k == r.number) (Some (Media r.text)) found) is) where
      by_test : (b : Bool) → is_some (cond b (Some (Media r.text)) found >>= payload_of) ≡ true →
          is_some (found >>= payload_of) ≡ true
      by_test true h = absurd (true≢false (sym h))
      by_test false h = h

payload_held : (held : Held) → is_some (payload_of (content_of held)) ≡ is_fec held
payload_held (helds.Media text marker ts start key layers) = refl
payload_held (helds.Empty marker) = refl
payload_held (helds.Fec payload) = refl

kept_fec : (b : Bool) (o : Option Held) → is_some (option_map content_of (cond b o None) >>= payload_of) ≡ true →
    is_fec_held o ≡ true
kept_fec true None h = h
kept_fec true (Some held) h = sym (payload_held held) ∙ h
kept_fec false o h = absurd (true≢false (sym h))

-- a FEC packet that a plan sees is the one that is placed, or is held in the window
pub seen-fec : (n k : ℕ) (held : Held) (window : Contents Held) (made : List Repair) →
    is_fec_at (packets_seen n held window made) k ≡ true →
    ((k ≡ n) × (is_fec held ≡ true)) ⊎ (is_fec_held (at k window.packets) ≡ true)
seen-fec n k held window made is = elim (cases_eq k n) [
  | inl same ↦
      inl (
        same,
        sym (payload_held held)
            ∙ sym (ap (λ o. is_some (o >>= payload_of)) (placed-here k n next held window.packets same)) ∙ there,
      )
  | inr apart ↦
      inr (kept_fec (in_window next k) (at k window.packets)
      (sym (ap (λ o. is_some (o >>= payload_of)) (placed-other k n next held window.packets apart)) ∙ there))
] where
  next : ℕ
  next = newest_with window.newest n

  there : is_fec_at (placed n held window).packets k ≡ true
  there = after-fec k made (at k (placed n held window).packets)
      (sym (ap (λ o. is_some (o >>= payload_of)) (at-repairs k (entries_of made) (placed n held window).packets)) ∙ is)

-- so there is none if neither is one
pub none-seen : (n k : ℕ) (held : Held) (window : Contents Held) (made : List Repair) →
    (k ≡ n → is_fec held ≢ true) → is_fec_held (at k window.packets) ≡ false →
    is_fec_at (packets_seen n held window made) k ≡ false
none-seen n k held window made here there = false_from_ne_true (is_fec_at (packets_seen n held window made) k)
    (λ is. elim (seen-fec n k held window made is) [
      | inl both ↦ here both.0 both.1
      | inr fec ↦ true≢false (sym fec ∙ there)
    ])

-- if no FEC packet comes from 0 on, there is none
pub none-from : (k : ℕ) (es : List (ℕ × Held)) → is_sorted nat_cmp es ≡ true → is_some (next_fec 0 es) ≡ false →
    is_fec_held (at k es) ≡ false
none-from k es sorted none = false_from_ne_true (is_fec_held (at k es))
    (λ fec. true≢false (sym (is_there (next_fec 0 es) (next-passed 0 k es sorted (omega arith) fec)) ∙ none)) where
      is_there : (o : Option ℕ) → IsSomeAnd o (λ m. m ≤ k) → is_some o ≡ true
      is_there None h = absurd h
      is_there (Some m) h = refl
