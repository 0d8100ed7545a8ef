-- What a ring shows, before and after a slot is written.
use Rattle.std.proofs.Common.{◌≡◌, ◌≢◌, ℕ, ◌%◌, ◌<◌, Bool, true, false, cond, List, length, replicate, refl, sym, ◌∙◌, ap, arith, inl, inr}
use Rattle.std.specs.Prelude.{Option, Some, None, is_some, slice_index_or, slice_set}
use Rattle.std.proofs.lemmas.Bool.{cases_eq}
use Rattle.std.proofs.lemmas.Grind.{common_steps}
use Rattle.std.proofs.lemmas.List.{get_or-set_same, get_or-set_other, get_or_read, get_or-replicate, length-replicate, length-set}
use Rattle.vrx_num.specs.declared.limits.TheConstants.{WINDOW}
use Rattle.vrx_window.specs.declared.slot.Slot.{Slot}
use Rattle.vrx_window.specs.declared.slot.Slot.TheVariants.{Free, Taken}
use Rattle.vrx_window.specs.Numbered.{IsNumbered}
use Rattle.vrx_window.specs.Window.{at, in_window, is_inside, is_too_old, entries_in, newest_with, entries_with}
use Rattle.vrx_window.specs.Ring.{slot_of, value_of, value_at, numbered_of, IsRing}
use Rattle.vrx_window.proofs.NumberLemmas.{same_slot, inside_with, beyond_else, old_outside, in_later, beyond_later}
use Rattle.vrx_window.proofs.EntryLemmas.{true_of, few-entries, find-entries, entries-moved, entries-placed, sorted-entries}

module _ {X : Type 0} where
  -- what is read from the slot of a number
  pub slot_read : (slots : List (Slot X)) (n place : ℕ) (s : Slot X) → length slots ≡ WINDOW → place ≡ n % WINDOW
      → s ≡ slice_index_or slots place s → slot_of slots n ≡ s
  slot_read slots n place s size is read = ap (λ i. slice_index_or slots i Free) (sym is)
      ∙ sym (get_or_read slots place s (omega arith) read Free)

  -- the slot of a number that was written, and of each that has another
  slot_here : (slots : List (Slot X)) (n : ℕ) (s : Slot X) → length slots ≡ WINDOW
      → slot_of (slice_set slots (n % WINDOW) s) n ≡ s
  slot_here slots n s size = get_or-set_same slots (n % WINDOW) s Free (omega arith)

  slot_other : (slots : List (Slot X)) (n q : ℕ) (s : Slot X) → q % WINDOW ≢ n % WINDOW
      → slot_of (slice_set slots (n % WINDOW) s) q ≡ slot_of slots q
  slot_other slots n q s apart = get_or-set_other slots (n % WINDOW) (q % WINDOW) s Free apart

  taken_here : (n : ℕ) (x : X) → value_of n (Taken n x) ≡ Some x
  taken_here n x = grind (arith, common_steps)

  taken_other : (n m : ℕ) (x : X) → m ≢ n → value_of m (Taken n x) ≡ None
  taken_other n m x apart = grind (arith, common_steps)

  -- a ring of free slots
  pub ring_new : (slots : List (Slot X)) → slots ≡ replicate WINDOW Free → IsRing None slots
  ring_new slots is = record {
    size = ap length is ∙ (let nothing : Slot X = Free in length-replicate WINDOW nothing);
    beyond = λ n _. ap (value_of n) (free n);
  } where
    free : (n : ℕ) → slot_of slots n ≡ Free
    free n = ap (λ xs. slice_index_or xs (n % WINDOW) Free) is
        ∙ get_or-replicate WINDOW (n % WINDOW) Free Free (omega arith)

  present : (b : Bool) (o : Option X) → is_some (cond b o None) ≡ true → b ≡ true
  present true o h = refl
  present false o h = h

  module _ (newest : Option ℕ) (slots : List (Slot X)) (ring : IsRing newest slots) where
    -- what stands under a number, as the ring shows it
    at_shown : (q : ℕ) → at q (numbered_of newest slots).entries ≡ cond (is_inside newest q) (value_at slots q) None
    at_shown q = find-entries (value_at slots) newest q

    -- of a number that isn't too old the slot tells all
    at_young : (q : ℕ) (b : Bool) → is_inside newest q ≡ b → is_too_old newest q ≡ false
        → at q (numbered_of newest slots).entries ≡ value_at slots q
    at_young q true is young = at_shown q ∙ ap (λ b. cond b (value_at slots q) None) is
    at_young q false is young = at_shown q ∙ ap (λ b. cond b (value_at slots q) None) is
        ∙ sym (ring.beyond q (beyond_else newest q young is))

    -- under a number that is too old nothing stands
    pub at_old : (q : ℕ) → is_too_old newest q ≡ true → at q (numbered_of newest slots).entries ≡ None
    at_old q old = at_shown q ∙ ap (λ b. cond b (value_at slots q) None) (old_outside newest q old)

    -- what stands under a number is what its slot has
    pub at_slot : (q : ℕ) (s : Slot X) → slot_of slots q ≡ s → is_too_old newest q ≡ false
        → at q (numbered_of newest slots).entries ≡ value_of q s
    at_slot q s is young = at_young q (is_inside newest q) refl young ∙ ap (value_of q) is

    -- what always holds
    pub is_numbered : IsNumbered (numbered_of newest slots)
    is_numbered = record {
      rise = true_of _ (sorted-entries (value_at slots) newest);
      inside = λ q has. present (is_inside newest q) (value_at slots q) (ap is_some (sym (at_shown q)) ∙ has);
      few = few-entries (value_at slots) newest;
    }

    -- a number that came into the window has nothing
    came : (n q : ℕ) (b : Bool) → is_inside newest q ≡ b → in_window (newest_with newest n) q ≡ true
        → value_at slots q ≡ cond b (value_at slots q) None
    came n q true is within = refl
    came n q false is within = ring.beyond q (beyond_else newest q (in_later newest n q within) is)

    -- the window moved
    pub ring_moved : (n : ℕ) → IsRing (Some (newest_with newest n)) slots
    ring_moved n = record { size = ring.size; beyond = λ m more. ring.beyond m (beyond_later newest n m more).0 }

    pub entries_moved : (n : ℕ) → (numbered_of (Some (newest_with newest n)) slots).entries
        ≡ entries_in (newest_with newest n) (numbered_of newest slots).entries
    entries_moved n = entries-moved (value_at slots) (value_at slots) newest (newest_with newest n)
        (λ q within. came n q (is_inside newest q) refl within)

    -- the slots once x was put under n
    abbrev pub written : ℕ → X → List (Slot X)
    written n x = slice_set slots (n % WINDOW) (Taken n x)

    pub ring_placed : (n : ℕ) (x : X) → IsRing (Some (newest_with newest n)) (written n x)
    ring_placed n x = record {
      size = length-set slots (n % WINDOW) (Taken n x) ∙ ring.size;
      beyond = beyond;
    } where
      here : (m : ℕ) → m % WINDOW ≡ n % WINDOW → slot_of (written n x) m ≡ Taken n x
      here m same = ap (λ i. slice_index_or (written n x) i Free) same ∙ slot_here slots n (Taken n x) ring.size

      beyond : (m : ℕ) → newest_with newest n < m → value_at (written n x) m ≡ None
      beyond m more = elim (cases_eq (m % WINDOW) (n % WINDOW)) [
        | inl same ↦ ap (value_of m) (here m same) ∙ taken_other n m x (beyond_later newest n m more).1
        | inr apart ↦ ap (value_of m) (slot_other slots n m (Taken n x) apart)
            ∙ ring.beyond m (beyond_later newest n m more).0
      ]

    pub entries_placed : (n : ℕ) (x : X) → is_too_old newest n ≡ false
        → (numbered_of (Some (newest_with newest n)) (written n x)).entries
        ≡ entries_with (newest_with newest n) n x (numbered_of newest slots).entries
    entries_placed n x young =
        let next : ℕ = newest_with newest n in
        let inside : in_window next n ≡ true = inside_with newest n young in
        entries-placed (value_at slots) (value_at (written n x)) newest next n x inside
        (ap (value_of n) (slot_here slots n (Taken n x) ring.size) ∙ taken_here n x)
        (λ q apart within. ap (value_of q)
        (slot_other slots n q (Taken n x) (λ same. apart (same_slot next q n within inside same)))
        ∙ came n q (is_inside newest q) refl within)
