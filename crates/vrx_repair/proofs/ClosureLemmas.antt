-- The repairs of packets within a window leave no step.
use Rattle.std.proofs.Common.{◌≡◌, ℕ, zero, suc, ◌+◌, ◌<◌, ◌≤◌, true, List, [], ◌∷◌, length, map, refl, sym, ◌∙◌, ap, arith, inl, inr, nat_cmp}
use Rattle.std.specs.Prelude.{Option, Some, None, is_some}
use Rattle.std.specs.Option.{option_map_or, option_or}
use Rattle.std.specs.FinMap.Entries.{put, below_all, is_sorted}
use Rattle.std.proofs.lemmas.Bool.{and_parts, cases_eq, false_from_ne_true}
use Rattle.std.proofs.lemmas.Option.{none-some}
use Rattle.vrx_num.specs.declared.limits.TheConstants.{WINDOW}
use Rattle.vrx_window.specs.Content.{Content}
use Rattle.vrx_window.specs.IsWindow.{IsWithin}
use Rattle.vrx_window.specs.Window.{at, is_available, is_inside}
use Rattle.vrx_repair.specs.Laws.{IsLeastStep, RepairsCome}
use Rattle.vrx_repair.specs.Source.{Source}
use Rattle.vrx_repair.specs.Step.{Packets, AreRepairs, IsClosed, first_of, first_step, step, repairs, with_repair, with_repairs}
use Rattle.vrx_repair.proofs.MapLemmas.{at_later, at_put-other, available_cases, below-available, gone, length-put, sorted-put}
use Rattle.vrx_repair.proofs.StepLemmas.{StepSays, closed, first-says, step-nothing}

-- a number of the window put in leaves the packets within it
pub within-put : (newest : Option ℕ) (n : ℕ) (x : Content) (ps : Packets) → is_inside newest n ≡ true →
    IsWithin newest ps → IsWithin newest (put nat_cmp n x ps)
within-put newest n x ps inside within = record {
  rise = sorted-put n x ps within.rise;
  inside = λ k is. elim (cases_eq k n) [
    | inl same ↦ ap (is_inside newest) same ∙ inside
    | inr other ↦ within.inside k (ap is_some (sym (at_put-other k n x ps other)) ∙ is)
  ];
}

-- a number at which a function gives something, and gives nothing at any lesser one
abbrev IsLeast : (ℕ → Option (ℕ × Content)) → ℕ × Content → Type 0
IsLeast f r = (n : ℕ) × (f n ≡ Some r) × ((m : ℕ) → m < n → f m ≡ None)

-- the first of the numbers of a map is the least, if only they give something
least-step : (f : ℕ → Option (ℕ × Content)) (es : Packets) → is_sorted nat_cmp es ≡ true
    → ((m : ℕ) → at m es ≡ None → f m ≡ None) → (r : ℕ × Content) → first_of f (map (λ e. e.0) es) ≡ Some r → IsLeast f r
least-step f [] sorted nothing r is = absurd (none-some r is)
least-step f (e ∷ es) sorted nothing r is = by_value (f e.0) refl is (least-step f es parts.1) where
  parts : (below_all nat_cmp e.0 es ≡ true) × (is_sorted nat_cmp es ≡ true)
  parts = and_parts (below_all nat_cmp e.0 es) (is_sorted nat_cmp es) sorted

  before : (m : ℕ) → m < e.0 → f m ≡ None
  before m less = nothing m (gone (at m (e ∷ es)) (false_from_ne_true (is_available m (e ∷ es))
      (λ there. elim (available_cases m e es there) [
        | inl same ↦ absurd (omega arith)
        | inr later ↦ (let after : e.0 < m = below-available e.0 m es parts.0 later in absurd (omega arith))
      ])))

  by_value : (o : Option (ℕ × Content)) → f e.0 ≡ o → option_or o (first_of f (map (λ d. d.0) es)) ≡ Some r
      → (((m : ℕ) → at m es ≡ None → f m ≡ None) → (x : ℕ × Content) → first_of f (map (λ d. d.0) es) ≡ Some x → IsLeast f x)
      → IsLeast f r
  by_value None none same rest = rest (λ m away. elim (cases_eq m e.0) [
    | inl equal ↦ ap f equal ∙ none
    | inr other ↦ nothing m (at_later m e es other ∙ away)
  ]) r same
  by_value (Some x) some same rest = (e.0, some ∙ same, before)

least-of : (source : Source) (newest : Option ℕ) (dead : List ℕ) (ps : Packets) (r : ℕ × Content) →
    IsLeast (step source newest dead ps) r → IsLeastStep source newest dead ps r
least-of source newest dead ps r l = record { number = l.0; steps = l.1; least = l.2 }

module _ (source : Source) (newest : Option ℕ) (dead : List ℕ) where
  -- after repairs no step is left
  pub repairs-closed : (ps : Packets) (rs : List (ℕ × Content)) → AreRepairs source newest dead ps rs →
      IsClosed source newest dead (with_repairs rs ps)
  repairs-closed ps [] are = closed source newest dead ps are
  repairs-closed ps (r ∷ rs) are = repairs-closed (with_repair r ps) rs are.1

  -- the packets after a step are within the window too, and one more
  pub step-within : (ps : Packets) (r : ℕ × Content) → IsWithin newest ps → first_step source newest dead ps ≡ Some r →
      IsWithin newest (with_repair r ps) × (length (with_repair r ps) ≡ suc (length ps))
  step-within ps r within is =
      let s : StepSays source newest dead ps r = first-says source newest dead ps r is in
      (within-put newest r.0 r.1 ps s.inside within, length-put r.0 r.1 ps s.fresh)

  -- what the window has room for is enough
  module _ (few : (ps : Packets) → IsWithin newest ps → length ps ≤ WINDOW) where
    pub repairs-are : (more : ℕ) (ps : Packets) → IsWithin newest ps → WINDOW ≤ more + length ps →
        AreRepairs source newest dead ps (repairs source newest dead more ps)
    repairs-are zero ps within enough = full (first_step source newest dead ps) refl where
      full : (o : Option (ℕ × Content)) → first_step source newest dead ps ≡ o → first_step source newest dead ps ≡ None
      full None is = is
      full (Some r) is =
          let next = step-within ps r within is in
          let bound : length (with_repair r ps) ≤ WINDOW = few (with_repair r ps) next.0 in
          absurd (omega arith)
    repairs-are (suc more) ps within enough =
        first (first_step source newest dead ps) refl (λ r next. repairs-are more (with_repair r ps) next) where
          rest : ℕ × Content → List (ℕ × Content)
          rest r = r ∷ repairs source newest dead more (with_repair r ps)

          first : (o : Option (ℕ × Content)) → first_step source newest dead ps ≡ o
              → ((r : ℕ × Content) → IsWithin newest (with_repair r ps) → WINDOW ≤ more + length (with_repair r ps)
              → AreRepairs source newest dead (with_repair r ps) (repairs source newest dead more (with_repair r ps)))
              → AreRepairs source newest dead ps (option_map_or rest o [])
          first None is again = is
          first (Some r) is again =
              let next = step-within ps r within is in (is, again r next.0 (omega arith))

    -- what the repairs come to
    pub repairs-come : (ps : Packets) → IsWithin newest ps → RepairsCome source newest dead ps
    repairs-come ps within =
        let are : AreRepairs source newest dead ps (repairs source newest dead WINDOW ps) =
        repairs-are WINDOW ps within (omega arith) in
        record {
          are_repairs = are;
          closed = repairs-closed ps (repairs source newest dead WINDOW ps) are;
          least = λ r is. least-of source newest dead ps r
              (least-step (step source newest dead ps) ps within.rise (step-nothing source newest dead ps) r is);
        }
