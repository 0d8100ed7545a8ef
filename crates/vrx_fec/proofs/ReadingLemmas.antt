-- Levels, one after the other.
use Rattle.std.proofs.Common.{◌≡◌, ℕ, suc, ◌+◌, ◌-◌, ◌<◌, ◌≤◌, Bool, false, List, [], ◌∷◌, ◌++◌, length, map, Option, Some, Result, Ok, Err, refl, sym, ap, ◌∙◌, inl, inr, arith}
use Rattle.std.proofs.lemmas.List.{length_push, append_assoc, map_push}
use Rattle.std.specs.Prelude.{◌==◌, ◌||◌, not, nat_lt, nat_le}
use Rattle.std.specs.List.{list_all}
use Rattle.std.proofs.lemmas.Bool.{cases_lt, eqb-false, lt-leb}
use Rattle.vrx_num.specs.ResultChain.{◌>>=◌}
use Rattle.vrx_fec.specs.declared.fault.FecFault.{FecFault}
use Rattle.vrx_fec.specs.declared.fec.Level.{Level as LevelSeen}
use Rattle.vrx_num.specs.declared.limits.TheConstants.{HALF_SPACE}
use Rattle.vrx_fec.specs.Mask.{offsets}
use Rattle.vrx_fec.specs.Payload.{Level, Payload, distance, first_mask, is_ahead, masks, protected}
use Rattle.vrx_fec.specs.Reading.{level_size, next_level_at, levels_at}
use Rattle.vrx_fec.specs.View.{result_by, view_level}

-- ---- one level more

-- the levels after those seen, and one more of these
append-more : (seen : List Level) (level : Level) (r : Result (List Level) FecFault)
    → result_by (λ levels. seen ++ levels) (r >>= λ levels. Ok (level ∷ levels))
    ≡ result_by (λ levels. (seen ++ level ∷ []) ++ levels) r
append-more seen level (Ok levels) =
    ap (λ (x : List Level). let r : Result (List Level) FecFault = Ok x in r)
    (sym (append_assoc seen (level ∷ []) levels))
append-more seen level (Err e) = refl

module _ (long : Bool) (before : Option ℕ) (at : ℕ) where
  first-more : (more : ℕ) (octets : List ℕ) (x : Level × List ℕ) → 0 < length octets
      → next_level_at long before at octets ≡ Ok x
      → levels_at (suc more) long before at octets
      ≡ (levels_at more long (Some x.0.mask) (at + level_size long x.0) x.1 >>= λ levels. Ok (x.0 ∷ levels))
  first-more more [] x some is = absurd (omega arith)
  first-more more (o ∷ octets) x some is = rw is refl

  first-err : (more : ℕ) (octets : List ℕ) (e : FecFault) → 0 < length octets
      → next_level_at long before at octets ≡ Err e → levels_at (suc more) long before at octets ≡ Err e
  first-err more [] e some is = absurd (omega arith)
  first-err more (o ∷ octets) e some is = rw is refl

  -- of levels as they lie in memory
  pub one-more : (items new : List LevelSeen) (level : LevelSeen) (octets after : List ℕ)
      → new ≡ items ++ level ∷ [] → length items < 8 → 0 < length octets
      → next_level_at long before at octets ≡ Ok (view_level level, after)
      → length octets ≡ level_size long (view_level level) + length after
      → result_by (λ levels. map view_level items ++ levels) (levels_at (8 - length items) long before at octets)
      ≡ result_by (λ levels. map view_level new ++ levels) (levels_at (8 - length new) long
      (Some level.mask) (at + (length octets - length after)) after)
  one-more items new level octets after is_new few some is left =
      let seen : List Level = map view_level items in
      let more : ℕ = 8 - length new in
      let count : 8 - length items ≡ suc more =
      omega (arith, ap length is_new, length_push items level) in
      let place : at + level_size long (view_level level) ≡ at + (length octets - length after) = omega arith in
      let shown : seen ++ view_level level ∷ [] ≡ map view_level new =
      sym (ap (map view_level) is_new ∙ map_push view_level items level) in
      ap (λ n. result_by (λ levels. seen ++ levels) (levels_at n long before at octets)) count
      ∙ ap (result_by (λ levels. seen ++ levels)) (first-more more octets (view_level level, after) some is)
      ∙ append-more seen (view_level level) _
      ∙ ap (λ n. result_by (λ levels. (seen ++ view_level level ∷ []) ++ levels)
      (levels_at more long (Some level.mask) n after)) place
      ∙ ap (λ xs. result_by (λ levels. xs ++ levels)
      (levels_at more long (Some level.mask) (at + (length octets - length after)) after)) shown

  pub one-err : (items : List LevelSeen) (octets : List ℕ) (e : FecFault) → length items < 8 → 0 < length octets
      → next_level_at long before at octets ≡ Err e
      → result_by (λ levels. map view_level items ++ levels) (levels_at (8 - length items) long before at octets)
      ≡ Err e
  one-err items octets e few some is =
      let count : 8 - length items ≡ suc (7 - length items) = omega arith in
      ap (λ n. result_by (λ levels. map view_level items ++ levels) (levels_at n long before at octets)) count
      ∙ ap (result_by (λ levels. map view_level items ++ levels)) (first-err (7 - length items) octets e some is)

-- ---- what is protected

-- less than half of the numbers away, the offsets decide
pub ahead-near : (own : ℕ) (p : Payload) (d mask : ℕ) (names : Bool) → d ≡ distance own p.base → d < HALF_SPACE
    → mask ≡ first_mask (masks p.levels) → names ≡ not (list_all (λ i. nat_lt i d) (offsets p.long mask))
    → names ≡ is_ahead own p
ahead-near own p d mask names d_is near mask_is names_is =
    let test : ℕ → Bool = λ n. not (list_all (λ i. nat_lt i n) (protected p)) in
    let far : nat_le HALF_SPACE (distance own p.base)
    ≡ false = lt-leb HALF_SPACE (distance own p.base) (omega arith) in
    names_is ∙ ap (λ m. not (list_all (λ i. nat_lt i d) (offsets p.long m))) mask_is ∙ ap test d_is
    ∙ ap (λ b. b || test (distance own p.base)) (sym far)

-- ---- room for a level

pub has-room : (items : List LevelSeen) → (length items == 8) ≡ false → length items ≤ 8 → length items < 8
has-room items full fits =
    let ne : length items ≡ 8 → ⊥ = eqb-false (length items) 8 full in
    elim (cases_lt (length items) 8) [ inl lt ↦ lt | inr le ↦ absurd (ne (omega arith)) ]
