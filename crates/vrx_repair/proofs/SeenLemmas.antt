-- What a plan sees: the window, its packet over it, and the repairs over both.
use Rattle.std.proofs.Common.{◌≡◌, ◌≢◌, ℕ, suc, ◌+◌, ◌<◌, Bool, true, false, cond, not, ◌&&◌, ◌||◌, max, List, [], ◌∷◌, length, drop, get_or, refl, sym, ◌∙◌, ap, arith, nat_cmp}
use Rattle.std.specs.Prelude.{◌==◌, Option, Some, None}
use Rattle.std.specs.List.{filter}
use Rattle.std.specs.Option.{option_map}
use Rattle.std.specs.FinMap.Entries.{where_key}
use Rattle.std.proofs.Math.Seq.{drop-cons}
use Rattle.std.proofs.lemmas.Bool.{and_parts, eq-eqb, ne_eqb, ltb-true, lt-leb, true≢false}
use Rattle.vrx_num.specs.declared.limits.TheConstants.{WINDOW}
use Rattle.vrx_window.specs.Content.{Content, Media, content_of, contents}
use Rattle.vrx_window.specs.Window.{Contents, at, entries_with, in_window, is_available, is_dead, is_too_old, newest_with, would_of}
use Rattle.vrx_window.specs.declared.held.Held.{Held}
use Rattle.vrx_window.specs.declared.placing.Placing.TheVariants.{TooOld, Dead, Repeat, Fresh}
use Rattle.vrx_repair.specs.Plan.{entries_of}
use Rattle.vrx_repair.specs.Seen.{says_dead}
use Rattle.vrx_repair.specs.Step.{Packets, is_wanted, with_repair, with_repairs}
use Rattle.vrx_repair.specs.declared.repair.Repair.{Repair}
use Rattle.vrx_repair.proofs.MapLemmas.{at_map, at_put, at_where}

-- what stands under a number once a packet was placed
at-placed : (n number newest : ℕ) (held : Held) (packets : List (ℕ × Held)) →
    at n (contents (entries_with newest number held packets))
    ≡ option_map content_of (cond (n == number) (Some held) (cond (in_window newest n) (at n packets) None))
at-placed n number newest held packets =
    at_map content_of n (entries_with newest number held packets)
    ∙ ap (option_map content_of) (at_put n number held (where_key nat_cmp (in_window newest) packets)
    ∙ ap (cond (n == number) (Some held)) (at_where (in_window newest) n packets))

pub placed-here : (n number newest : ℕ) (held : Held) (packets : List (ℕ × Held)) → n ≡ number →
    at n (contents (entries_with newest number held packets)) ≡ Some (content_of held)
placed-here n number newest held packets same = at-placed n number newest held packets
    ∙ ap (λ b. option_map content_of (cond b (Some held) (cond (in_window newest n) (at n packets) None)))
    (eq-eqb n number same)

pub placed-other : (n number newest : ℕ) (held : Held) (packets : List (ℕ × Held)) → n ≢ number →
    at n (contents (entries_with newest number held packets))
    ≡ option_map content_of (cond (in_window newest n) (at n packets) None)
placed-other n number newest held packets other = at-placed n number newest held packets
    ∙ ap (λ b. option_map content_of (cond b (Some held) (cond (in_window newest n) (at n packets) None)))
    (ne_eqb n number other)

pub placed-inside : (n number newest : ℕ) (held : Held) (packets : List (ℕ × Held)) → n ≢ number →
    in_window newest n ≡ true →
    at n (contents (entries_with newest number held packets)) ≡ option_map content_of (at n packets)
placed-inside n number newest held packets other inside = placed-other n number newest held packets other
    ∙ ap (λ b. option_map content_of (cond b (at n packets) None)) inside

pub placed-outside : (n number newest : ℕ) (held : Held) (packets : List (ℕ × Held)) → n ≢ number →
    in_window newest n ≡ false → at n (contents (entries_with newest number held packets)) ≡ None
placed-outside n number newest held packets other outside = placed-other n number newest held packets other
    ∙ ap (λ b. option_map content_of (cond b (at n packets) None)) outside

-- what stands under a number after repairs, if this stood there before them
abbrev pub after : ℕ → List (ℕ × Content) → Option Content → Option Content
after n [] found = found
after n (repair ∷ repairs) found = after n repairs (cond (n == repair.0) (Some repair.1) found)

pub at-repairs : (n : ℕ) (repairs : List (ℕ × Content)) (packets : Packets) →
    at n (with_repairs repairs packets) ≡ after n repairs (at n packets)
at-repairs n [] packets = refl
at-repairs n (repair ∷ repairs) packets = at-repairs n repairs (with_repair repair packets)
    ∙ ap (after n repairs) (at_put n repair.0 repair.1 packets)

-- one repair more
pub after-more : (n : ℕ) (made : List Repair) (i : ℕ) (repair : Repair) (found next : Option Content) →
    i < length made → repair ≡ get_or made i repair →
    next ≡ cond (n == repair.number) (Some (Media repair.text)) found →
    after n (entries_of (drop (i + 1) made)) next ≡ after n (entries_of (drop i made)) found
after-more n made i repair found next within is next_is =
    let here : drop i made ≡ get_or made i repair ∷ drop (suc i) made = drop-cons made i repair within in
    let later : suc i ≡ i + 1 = omega arith in
    ap (after n (entries_of (drop (i + 1) made))) next_is
    ∙ ap (λ k. after n (entries_of (drop k made)) (cond (n == repair.number) (Some (Media repair.text)) found)) (sym later)
    ∙ ap (λ (r : Repair). after n (entries_of (r ∷ drop (suc i) made)) found) is
    ∙ ap (λ rs. after n (entries_of rs) found) (sym here)

-- a number is given up in a new window if it was, and is in it
dead-in : (p : ℕ → Bool) (n : ℕ) (dead : List ℕ) → p n ≡ true → is_dead n (filter p dead) ≡ is_dead n dead
dead-in p n [] is = refl
dead-in p n (d ∷ ds) is = by_test (p d) refl (dead-in p n ds is) where
  by_test : (b : Bool) → p d ≡ b → is_dead n (filter p ds) ≡ is_dead n ds
      → is_dead n (cond b (d ∷ filter p ds) (filter p ds)) ≡ ((n == d) || is_dead n ds)
  by_test true taken rest = ap (λ b. (n == d) || b) rest
  by_test false left rest = rest ∙ ap (λ b. b || is_dead n ds) (sym (ne_eqb n d (λ same.
      true≢false (sym is ∙ ap p same ∙ left))))

-- a number of the new window isn't too old for the old one
young : (newest : Option ℕ) (number n : ℕ) → in_window (newest_with newest number) n ≡ true →
    is_too_old newest n ≡ false
young None number n inside = refl
young (Some newest) number n inside =
    let parts = and_parts _ _ inside in
    let less : max newest number < n + WINDOW = ltb-true (max newest number) (n + WINDOW) parts.0 in
    lt-leb (n + WINDOW) newest (omega arith)

-- what becomes of a number of a window says whether it was given up
dead-said : {X : Type 0} (window : Contents X) (n : ℕ) → is_too_old window.newest n ≡ false →
    says_dead (would_of window n) ≡ is_dead n window.dead
dead-said window n is = by_tests (is_too_old window.newest n) (is_dead n window.dead) (is_available n window.packets) is where
  by_tests : (a b c : Bool) → a ≡ false
      → says_dead (cond a TooOld (cond b Dead (cond c Repeat Fresh))) ≡ b
  by_tests true b c e = absurd (true≢false e)
  by_tests false true c e = refl
  by_tests false false true e = refl
  by_tests false false false e = refl

-- a number of the new window is wanted if it wasn't given up
pub wanted : (window : Contents Held) (number n : ℕ) → in_window (newest_with window.newest number) n ≡ true →
    not (says_dead (would_of window n))
    ≡ is_wanted (Some (newest_with window.newest number))
    (filter (in_window (newest_with window.newest number)) window.dead) n
wanted window number n inside =
    let newest : ℕ = newest_with window.newest number in
    ap not (dead-said window n (young window.newest number n inside)
    ∙ sym (dead-in (in_window newest) n window.dead inside))
    ∙ ap (λ b. b && not (is_dead n (filter (in_window newest) window.dead))) (sym inside)
