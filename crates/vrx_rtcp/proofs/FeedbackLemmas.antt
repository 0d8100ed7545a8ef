-- Items of a generic NACK: those that one pass over the numbers makes are those of the definition.
use Rattle.std.proofs.Common.{◌≡◌, ℕ, suc, ◌+◌, ◌-◌, ◌*◌, ◌%◌, ◌^◌, ◌<◌, ◌≤◌, cond, leb, List, [], ◌∷◌, ◌++◌, length, get_or, drop, map, refl, sym, ap, subst, ◌∙◌, append_assoc, arith, inl, inr}
use Rattle.std.specs.List.{sum_by, flat_map}
use Rattle.std.specs.Prelude.{slice_index}
use Rattle.std.specs.List.Sorted.{IsStrictlyIncreasing}
use Rattle.std.specs.Int.{w16, to_be_bytes}
use Rattle.std.proofs.Math.Nat.{pow-le-pow_right, pow-suc}
use Rattle.std.proofs.lemmas.Bool.{cases_lt, lt-ltb, le-ltb, le-leb, lt-leb}
use Rattle.std.proofs.lemmas.List.{length-append, length-map}
use Rattle.std.proofs.lemmas.List.Folds.{flat_map-map}
use Rattle.std.proofs.lemmas.List.Sums.{sum_by-cons}
use Rattle.std.proofs.lemmas.Nat.{pow_pos}
use Rattle.vrx_rtcp.specs.declared.types.TheConstants.{RTPFB, FMT_NACK}
use Rattle.vrx_rtcp.specs.declared.writing.Item.{Item}
use Rattle.vrx_rtcp.specs.Feedback.{feedback_head, nack_octets, later_firsts, firsts, numbers_in_reach, blp_of, item_octets}
use Rattle.vrx_rtcp.specs.View.{item_of}

-- numbers that rise, each above p and none above top, nor p
abbrev pub RisesTo : ℕ → ℕ → List ℕ → Type 0
RisesTo top p [] = p ≤ top
RisesTo top p (n ∷ numbers) = (p < n) × RisesTo top n numbers

pub rises_to : (top first : ℕ) (later : List ℕ) → IsStrictlyIncreasing (first ∷ later) →
    slice_index (first ∷ later) (length later) ≤ top → RisesTo top first later
rises_to top first [] rising near = near
rises_to top first (n ∷ later) rising near = (
  rising 0 (omega arith),
  rises_to top n later (λ k within.
      subst (λ (m : ℕ). slice_index (n ∷ later) k < slice_index (first ∷ n ∷ later) m)
      (let m : suc k + 1 ≡ suc (k + 1) = omega arith in m) (rising (suc k) (omega (arith, within)))) near,
)

pub RisesTo-lower : (top p q : ℕ) (numbers : List ℕ) → q ≤ p → RisesTo top p numbers → RisesTo top q numbers
RisesTo-lower top p q [] lower rises = omega (arith, rises)
RisesTo-lower top p q (n ∷ numbers) lower rises = (omega (arith, rises.0), rises.1)

pub RisesTo-top : (top p : ℕ) (numbers : List ℕ) → RisesTo top p numbers → p ≤ top
RisesTo-top top p [] rises = rises
RisesTo-top top p (n ∷ numbers) rises = let end = RisesTo-top top n numbers rises.1 in omega (arith, end, rises.0)

-- ---- the bits of an item, number by number

pub in_reach-near : (first n : ℕ) (numbers : List ℕ) → first < n → n ≤ first + 16 →
    numbers_in_reach (n ∷ numbers) first ≡ n ∷ numbers_in_reach numbers first
in_reach-near first n numbers above within = rw (lt-ltb first n above, le-leb n (first + 16) within) refl

pub in_reach-beyond : (first n : ℕ) (numbers : List ℕ) → first + 16 < n →
    numbers_in_reach (n ∷ numbers) first ≡ numbers_in_reach numbers first
in_reach-beyond first n numbers beyond = rw (lt-ltb first n (omega arith), lt-leb n (first + 16) beyond) refl

-- numbers beyond an item's reach aren't in it
pub in_reach-far : (top first p : ℕ) (numbers : List ℕ) → first + 16 ≤ p → RisesTo top p numbers →
    numbers_in_reach numbers first ≡ []
in_reach-far top first p [] far rises = refl
in_reach-far top first p (n ∷ numbers) far rises =
    in_reach-beyond first n numbers (omega (arith, rises.0))
    ∙ in_reach-far top first n numbers (omega (arith, rises.0)) rises.1

blp_of-near : (first n : ℕ) (numbers : List ℕ) → first < n → n ≤ first + 16 →
    blp_of (n ∷ numbers) first ≡ 2 ^ (n - first - 1) + blp_of numbers first
blp_of-near first n numbers above within =
    ap (λ (x : List ℕ). sum_by (λ (m : ℕ). 2 ^ (m - first - 1)) x) (in_reach-near first n numbers above within)
    ∙ sum_by-cons (λ (m : ℕ). 2 ^ (m - first - 1)) n (numbers_in_reach numbers first)

blp_of-beyond : (first n : ℕ) (numbers : List ℕ) → first + 16 < n → blp_of (n ∷ numbers) first ≡ blp_of numbers first
blp_of-beyond first n numbers beyond =
    ap (λ (x : List ℕ). sum_by (λ (m : ℕ). 2 ^ (m - first - 1)) x) (in_reach-beyond first n numbers beyond)

pub blp_of-before : (first n : ℕ) (numbers : List ℕ) → n ≤ first → blp_of (n ∷ numbers) first ≡ blp_of numbers first
blp_of-before first n numbers before = rw (le-ltb first n before) refl

blp_of-far : (top first p : ℕ) (numbers : List ℕ) → first + 16 ≤ p → RisesTo top p numbers → blp_of numbers first ≡ 0
blp_of-far top first p numbers far rises =
    ap (λ (x : List ℕ). sum_by (λ (m : ℕ). 2 ^ (m - first - 1)) x) (in_reach-far top first p numbers far rises)

-- the bits beyond a number in reach fit
bits_fit : (top first p : ℕ) (numbers : List ℕ) → first ≤ p → p ≤ first + 16 → RisesTo top p numbers →
    blp_of numbers first + 2 ^ (p - first) ≤ 65536
bits_fit top first p [] above within rises = let pow =
    pow-le-pow_right {n = 2} (omega arith) {i = p - first} {j = 16} (omega arith) in omega (arith, pow)
bits_fit top first p (n ∷ numbers) above within rises =
    elim (cases_lt (first + 16) n) [
      | inl beyond ↦
          let none = blp_of-beyond first n numbers beyond ∙ blp_of-far top first n numbers (omega arith) rises.1 in
          let pow = pow-le-pow_right {n = 2} (omega arith) {i = p - first} {j = 16} (omega arith) in
          omega (arith, none, pow)
      | inr near ↦
          let one = blp_of-near first n numbers (omega (arith, rises.0)) near in
          let rest = bits_fit top first n numbers (omega (arith, rises.0)) near rises.1 in
          let twice : 2 ^ (n - first) ≡ 2 * 2 ^ (n - first - 1) =
          ap (λ (k : ℕ). 2 ^ k) (let k : n - first ≡ suc (n - first - 1) = omega (arith, rises.0) in k)
          ∙ omega (arith, pow-suc 2 (n - first - 1)) in
          let pow =
          pow-le-pow_right {n = 2} (omega arith) {i = p - first} {j = n - first - 1} (omega (arith, rises.0)) in
          omega (arith, one, rest, twice, pow)
    ]

pub blp_of-below : (top first : ℕ) (numbers : List ℕ) → RisesTo top first numbers → blp_of numbers first < 65536
blp_of-below top first numbers rises =
    let fit = bits_fit top first first numbers (omega arith) (omega arith) rises in
    let pow = pow_pos (first - first) in
    omega (arith, fit, pow)

-- ---- the items of one pass over the numbers

-- the items after the one that begins with first, each by the numbers that follow its own
abbrev pub later_items : ℕ → List ℕ → List Item
later_items first [] = []
later_items first (n ∷ numbers) =
    cond (leb n (first + 16)) (later_items first numbers) (item_of numbers n ∷ later_items n numbers)

-- none is above n
abbrev pub IsUpTo : ℕ → List ℕ → Type 0
IsUpTo n [] = Unit {0}
IsUpTo n (b ∷ before) = (b ≤ n) × IsUpTo n before

pub IsUpTo-more : (p n : ℕ) (before : List ℕ) → p ≤ n → IsUpTo p before → IsUpTo n (before ++ n ∷ [])
IsUpTo-more p n [] later up = (omega arith, tt)
IsUpTo-more p n (b ∷ before) later up = (omega (arith, up.0), IsUpTo-more p n before later up.1)

pub IsUpTo-raise : (p n : ℕ) (before : List ℕ) → p ≤ n → IsUpTo p before → IsUpTo n before
IsUpTo-raise p n [] later up = tt
IsUpTo-raise p n (b ∷ before) later up = (omega (arith, up.0), IsUpTo-raise p n before later up.1)

-- numbers before an item have no bits in it
pub blp_of-after : (first : ℕ) (before numbers : List ℕ) → IsUpTo first before →
    blp_of (before ++ numbers) first ≡ blp_of numbers first
blp_of-after first [] numbers up = refl
blp_of-after first (b ∷ before) numbers up =
    blp_of-before first b (before ++ numbers) up.0 ∙ blp_of-after first before numbers up.1

later_items-is : (top first p : ℕ) (before numbers : List ℕ) → IsUpTo p before → RisesTo top p numbers →
    later_items first numbers ≡ map (item_of (before ++ numbers)) (later_firsts first numbers)
later_items-is top first p before [] up rises = refl
later_items-is top first p before (n ∷ numbers) up rises =
    let next : IsUpTo n (before ++ n ∷ []) = IsUpTo-more p n before (omega (arith, rises.0)) up in
    let whole : (before ++ n ∷ []) ++ numbers ≡ before ++ n ∷ numbers = append_assoc before (n ∷ []) numbers in
    elim (cases_lt (first + 16) n) [
      | inl beyond ↦
          let own : blp_of (before ++ n ∷ numbers) n ≡ blp_of numbers n =
          blp_of-after n before (n ∷ numbers) (IsUpTo-raise p n before (omega (arith, rises.0)) up)
          ∙ blp_of-before n n numbers (omega arith) in
          let rest = later_items-is top n n (before ++ n ∷ []) numbers next rises.1
          ∙ ap (λ (x : List ℕ). map (item_of x) (later_firsts n numbers)) whole in
          rw (lt-leb n (first + 16) beyond)
          (ap (λ (k : ℕ). record { first = n; blp = k } ∷ later_items n numbers) (sym own)
          ∙ ap (λ (x : List Item). item_of (before ++ n ∷ numbers) n ∷ x) rest)
      | inr near ↦
          rw (le-leb n (first + 16) near)
          (later_items-is top first n (before ++ n ∷ []) numbers next rises.1
          ∙ ap (λ (x : List ℕ). map (item_of x) (later_firsts first numbers)) whole)
    ]

-- the items of numbers that rise
pub items-are : (top first : ℕ) (later : List ℕ) → RisesTo top first later →
    item_of later first ∷ later_items first later ≡ map (item_of (first ∷ later)) (firsts (first ∷ later))
items-are top first later rises =
    ap (λ (k : ℕ). record { first = first; blp = k } ∷ later_items first later)
    (sym (blp_of-before first first later (omega arith)))
    ∙ ap (λ (x : List Item). item_of (first ∷ later) first ∷ x)
    (later_items-is top first first (first ∷ []) later (omega arith, tt) rises)

-- the octets of an item, and of the items of numbers
abbrev pub octets_of : Item → List ℕ
octets_of item = to_be_bytes w16 (item.first % 65536) ++ to_be_bytes w16 item.blp

pub octets_of-items : (numbers firsts : List ℕ) →
    flat_map octets_of (map (item_of numbers) firsts) ≡ flat_map (item_octets numbers) firsts
octets_of-items numbers firsts = flat_map-map octets_of (item_of numbers) firsts

-- ---- one pass over the numbers

-- the items so far, the open one with the bits to come, and those after it are all the items
pub record Building (top least : ℕ) (all items : List Item) (first blp : ℕ) (rest : List ℕ) : Type 0 where
  pub made : items ++ record { first = first; blp = blp_of rest first + blp } ∷ later_items first rest ≡ all
  pub rises : RisesTo top first rest
  pub fits : blp_of rest first + blp < 65536
  pub few : 17 * length items + least ≤ first

plus-zero : (k : ℕ) → k ≡ k + 0
plus-zero k = omega arith

pub building-begins : (top first : ℕ) (later : List ℕ) → RisesTo top first later →
    Building top first (item_of later first ∷ later_items first later) [] first 0 later
building-begins top first later rises = record {
  made = ap (λ (k : ℕ). record { first = first; blp = k } ∷ later_items first later)
      (sym (plus-zero (blp_of later first)));
  rises = rises;
  fits = let below = blp_of-below top first later rises in omega (arith, below);
  few = omega arith;
}

-- a number in the reach of the open item
pub building-near : (top least : ℕ) (all items : List Item) (first blp n : ℕ) (rest : List ℕ) → n ≤ first + 16 →
    Building top least all items first blp (n ∷ rest) →
    Building top least all items first (blp + 2 ^ (n - first - 1)) rest
building-near top least all items first blp n rest near b =
    let one = blp_of-near first n rest b.rises.0 near in
    let bits : blp_of rest first + (blp + 2 ^ (n - first - 1)) ≡ blp_of (n ∷ rest) first + blp = omega (arith, one) in
    let same : later_items first (n ∷ rest) ≡ later_items first rest = rw (le-leb n (first + 16) near) refl in
    record {
      made = ap (λ (k : ℕ). items ++ record { first = first; blp = k } ∷ later_items first rest) bits
          ∙ ap (λ (x : List Item). items ++ record { first = first; blp = blp_of (n ∷ rest) first + blp } ∷ x)
          (sym same) ∙ b.made;
      rises = RisesTo-lower top n first rest (omega (arith, b.rises.0)) b.rises.1;
      fits = omega (arith, bits, b.fits);
      few = b.few;
    }

-- its bit fits
pub bit_fits : (top least : ℕ) (all items : List Item) (first blp n : ℕ) (rest : List ℕ) → n ≤ first + 16 →
    Building top least all items first blp (n ∷ rest) → blp + 2 ^ (n - first - 1) < 65536
bit_fits top least all items first blp n rest near b =
    let one = blp_of-near first n rest b.rises.0 near in omega (arith, one, b.fits)

-- a number beyond it
pub building-beyond : (top least : ℕ) (all items : List Item) (first blp n : ℕ) (rest : List ℕ) → first + 16 < n →
    Building top least all items first blp (n ∷ rest) →
    Building top least all (items ++ record { first = first; blp = blp } ∷ []) n 0 rest
building-beyond top least all items first blp n rest beyond b =
    let none : blp ≡ blp_of (n ∷ rest) first + blp = let e =
    blp_of-far top first (first + 16) (n ∷ rest) (omega arith) (beyond, b.rises.1) in omega (arith, e) in
    let next : record { first = n; blp = blp_of rest n } ∷ later_items n rest ≡ later_items first (n ∷ rest) =
    rw (lt-leb n (first + 16) beyond) refl in
    let below = blp_of-below top n rest b.rises.1 in
    record {
      made = ap (λ (k : ℕ). (items ++ record { first = first; blp = blp } ∷ []) ++ record { first = n; blp = k }
          ∷ later_items n rest) (sym (plus-zero (blp_of rest n)))
          ∙ append_assoc items (record { first = first; blp = blp } ∷ [])
          (record { first = n; blp = blp_of rest n } ∷ later_items n rest)
          ∙ ap (λ (k : ℕ). items ++ record { first = first; blp = k } ∷ record { first = n; blp = blp_of rest n }
          ∷ later_items n rest) none
          ∙ ap (λ (x : List Item). items ++ record { first = first; blp = blp_of (n ∷ rest) first + blp } ∷ x) next
          ∙ b.made;
      rises = b.rises.1;
      fits = omega (arith, below);
      few = omega (arith, length-append items (record { first = first; blp = blp } ∷ []), b.few);
    }

-- at the end
pub building-ends : (top least : ℕ) (all items : List Item) (first blp : ℕ) →
    Building top least all items first blp [] → items ++ record { first = first; blp = blp } ∷ [] ≡ all
building-ends top least all items first blp b =
    ap (λ (k : ℕ). items ++ record { first = first; blp = k } ∷ []) (let k : blp ≡ 0 + blp = omega arith in k)
    ∙ b.made

-- the open item begins no later than the last number
pub building-within : (top least : ℕ) (all items : List Item) (first blp : ℕ) (rest : List ℕ) →
    Building top least all items first blp rest → first ≤ top
building-within top least all items first blp rest b = RisesTo-top top first rest b.rises

-- a list that isn't empty is its first element and the others
first_and_later : (numbers : List ℕ) → 1 ≤ length numbers → get_or numbers 0 0 ∷ drop 1 numbers ≡ numbers
first_and_later [] some = absurd (omega (arith, some))
first_and_later (n ∷ numbers) some = refl

-- what is written of the items of numbers is the NACK
pub nack-made : (from media words : ℕ) (numbers later : List ℕ) (items : List Item) → 1 ≤ length numbers →
    later ≡ drop 1 numbers
    → items ≡ map (item_of (get_or numbers 0 0 ∷ later)) (firsts (get_or numbers 0 0 ∷ later)) →
    words ≡ 2 + length items
    → feedback_head FMT_NACK RTPFB words from media ++ flat_map octets_of items ≡ nack_octets from media numbers
nack-made from media words numbers later items some split made counted =
    let whole : get_or numbers 0 0 ∷ later ≡ numbers =
    ap (λ (x : List ℕ). get_or numbers 0 0 ∷ x) split ∙ first_and_later numbers some in
    let same : items ≡ map (item_of numbers) (firsts numbers) =
    made ∙ ap (λ (x : List ℕ). map (item_of x) (firsts x)) whole in
    let count : words ≡ 2 + length (firsts numbers) = counted ∙ ap (λ (x : List Item). 2 + length x) same
    ∙ ap (λ (k : ℕ). 2 + k) (length-map (firsts numbers) (item_of numbers)) in
    ap (λ (k : ℕ). feedback_head FMT_NACK RTPFB k from media ++ flat_map octets_of items) count
    ∙ ap (λ (x : List Item).
    feedback_head FMT_NACK RTPFB (2 + length (firsts numbers)) from media ++ flat_map octets_of x) same
    ∙ ap (λ (x : List ℕ). feedback_head FMT_NACK RTPFB (2 + length (firsts numbers)) from media ++ x)
    (octets_of-items numbers (firsts numbers))
