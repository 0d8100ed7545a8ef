-- What slots say of pictures.
use Rattle.std.proofs.Common.{◌≡◌, ◌≢◌, ℕ, ◌+◌, ◌%◌, ◌≤◌, Bool, List, length, refl, sym, ◌∙◌, ap, arith, inl, inr}
use Rattle.std.specs.Prelude.{◌⊎◌, Option, Some, None, slice_index_or, slice_set}
use Rattle.std.specs.Option.{option_map}
use Rattle.std.proofs.lemmas.Bool.{cases_eq}
use Rattle.std.proofs.lemmas.Grind.{common_steps}
use Rattle.std.proofs.lemmas.List.{get_or-set_same, get_or-set_other}
use Rattle.vrx_refs.specs.declared.limits.TheConstants.{MEMORY}
use Rattle.vrx_refs.specs.declared.sight.Sight.{Sight}
use Rattle.vrx_refs.specs.Finder.{said_of, slot_at}
use Rattle.vrx_refs.specs.Kept.{marked, with_marked}

-- what a slot says of a picture, once another sight was put into it or elsewhere
pub said_here : (q : ℕ) (s : Sight) → s.picture ≡ q → said_of q (Some s) ≡ Some s
said_here q s is = grind (arith, common_steps, is)

pub said_other : (q : ℕ) (s : Sight) → s.picture ≢ q → said_of q (Some s) ≡ None
said_other q s apart = grind (arith, common_steps, apart)

-- what its own slot says is a sight of the picture, and the slot has it
pub said_of-picture : (q : ℕ) (o : Option Sight) (s : Sight) → said_of q o ≡ Some s → (o ≡ Some s) × (s.picture ≡ q)
said_of-picture q None s is = grind (arith, is)
said_of-picture q (Some other) s is = grind (arith, common_steps, is)

module _ (sights : List (Option Sight)) (size : length sights ≡ MEMORY) (p : ℕ) (s : Sight) (own : s.picture
    ≡ p) where
  abbrev written : List (Option Sight)
  written = slice_set sights (p % MEMORY) (Some s)

  pub slot_here : slot_at written p ≡ Some s
  slot_here = ap (said_of p) (get_or-set_same sights (p % MEMORY) (Some s) None (omega (arith, size)))
      ∙ said_here p s own

  pub slot_other : (q : ℕ) → q % MEMORY ≢ p % MEMORY → slot_at written q ≡ slot_at sights q
  slot_other q apart = ap (said_of q) (get_or-set_other sights (p % MEMORY) (q % MEMORY) (Some s) None apart)

  pub slot_shared : (q : ℕ) → q ≢ p → q % MEMORY ≡ p % MEMORY → slot_at written q ≡ None
  slot_shared q apart same = ap (λ i. said_of q (slice_index_or written i None)) same
      ∙ ap (said_of q) (get_or-set_same sights (p % MEMORY) (Some s) None (omega (arith, size)))
      ∙ said_other q s (λ is. apart (sym is ∙ own))

-- pictures that share a slot lie 4,096 apart
pub shared_apart : (p q : ℕ) → q ≢ p → q % MEMORY ≡ p % MEMORY → ((q + MEMORY ≤ p) ⊎ (p + MEMORY ≤ q))
shared_apart p q apart same = grind (arith, apart, same)

-- a picture was marked as pulled
module _ (sights : List (Option Sight)) (size : length sights ≡ MEMORY) (p : ℕ) (key : Bool) where
  pub mark_here : (o : Option Sight) → slot_at sights p ≡ o → slot_at (with_marked p key o sights) p
      ≡ option_map (marked key) o
  mark_here None is = is
  mark_here (Some s) is = slot_here sights size p (marked key s) (said_of-picture p _ s is).1

  pub mark_other : (q : ℕ) (o : Option Sight) → slot_at sights p ≡ o → q ≢ p → slot_at (with_marked p key o sights) q
      ≡ slot_at sights q
  mark_other q None is apart = refl
  mark_other q (Some s) is apart = elim (cases_eq (q % MEMORY) (p % MEMORY)) [
    | inl same ↦ slot_shared sights size p (marked key s) own q apart same
        ∙ sym (ap (λ i. said_of q (slice_index_or sights i None)) same ∙ ap (said_of q) (said_of-picture p _ s is).0
        ∙ said_other q s (λ it. apart (sym it ∙ own)))
    | inr other ↦ slot_other sights size p (marked key s) own q other
  ] where
    own : s.picture ≡ p
    own = (said_of-picture p _ s is).1
