-- What is written is read: the items of numbers name just them, and the octets of feedback are one packet.
use Rattle.std.proofs.Common.{◌≡◌, ℕ, zero, suc, ◌+◌, ◌-◌, ◌*◌, ◌/◌, ◌%◌, ◌^◌, ◌<◌, ◌≤◌, eqb, ltb, false, List, [], ◌∷◌, ◌++◌, length, map, refl, sym, ap, subst, ◌∙◌, append_assoc, arith, inl, inr}
use Rattle.std.specs.Prelude.{slice_index}
use Rattle.std.specs.List.{sum_by, filter, flat_map, range_with_len}
use Rattle.std.specs.List.Sorted.{IsStrictlyIncreasing}
use Rattle.std.specs.Int.{w16, w32, to_be_bytes, from_be_bytes, bit_at}
use Rattle.std.proofs.Math.Nat.{pow-suc}
use Rattle.std.proofs.lemmas.Bool.{cases_lt, cases_eq, lt-ltb, le-ltb, le-leb, lt-leb}
use Rattle.std.proofs.lemmas.List.{append-nil, map-append}
use Rattle.std.proofs.lemmas.List.Sums.{sum_by-cons}
use Rattle.std.proofs.lemmas.Nat.{shr-shr, from_be_bytes-to_be_bytes_2}
use Rattle.vrx_rtcp.specs.declared.types.TheConstants.{RTPFB, PSFB, FMT_NACK, FMT_PLI, NACK_SPAN}
use Rattle.vrx_rtcp.specs.Packet.{Message, Nack, Pli, IsPacket}
use Rattle.vrx_rtcp.specs.Feedback.{nack_octets, pli_octets, later_firsts, firsts, numbers_in_reach, blp_of, item_octets, items_octets, item_numbers, numbers_named}
use Rattle.vrx_rtcp.specs.Laws.{IsReadAs}
use Rattle.vrx_rtcp.proofs.FeedbackLemmas.{RisesTo, rises_to, RisesTo-lower, in_reach-near, in_reach-beyond, in_reach-far, blp_of-before, blp_of-after, blp_of-below, IsUpTo, IsUpTo-more, IsUpTo-raise}
use Rattle.vrx_rtcp.proofs.PacketLemmas.{Reads, reads-packet}

-- ---- the bits of an item, from one place on

-- the bits, the lowest for first + i
scaled : ℕ → ℕ → List ℕ → ℕ
scaled first i numbers = sum_by (λ n. 2 ^ (n - first - i)) (numbers_in_reach numbers first)

scaled-near : (first i n : ℕ) (numbers : List ℕ) → first < n → n ≤ first + 16 →
    scaled first i (n ∷ numbers) ≡ 2 ^ (n - first - i) + scaled first i numbers
unfolding scaled
scaled-near first i n numbers above within =
    ap (λ (x : List ℕ). sum_by (λ (m : ℕ). 2 ^ (m - first - i)) x) (in_reach-near first n numbers above within)
    ∙ sum_by-cons (λ (m : ℕ). 2 ^ (m - first - i)) n (numbers_in_reach numbers first)

scaled-beyond : (first i n : ℕ) (numbers : List ℕ) → first + 16 < n →
    scaled first i (n ∷ numbers) ≡ scaled first i numbers
unfolding scaled
scaled-beyond first i n numbers beyond =
    ap (λ (x : List ℕ). sum_by (λ (m : ℕ). 2 ^ (m - first - i)) x) (in_reach-beyond first n numbers beyond)

scaled-none : (first i : ℕ) → scaled first i [] ≡ 0
unfolding scaled
scaled-none first i = refl

-- beyond first + i the bits are twice what they are one place further
halves : (top first i p : ℕ) (numbers : List ℕ) → first + i ≤ p → RisesTo top p numbers →
    scaled first i numbers ≡ 2 * scaled first (i + 1) numbers
halves top first i p [] past rises = omega (arith, scaled-none first i, scaled-none first (i + 1))
halves top first i p (n ∷ numbers) past rises =
    elim (cases_lt (first + 16) n) [
      | inl beyond ↦
          let here = scaled-beyond first i n numbers beyond in
          let further = scaled-beyond first (i + 1) n numbers beyond in
          let rest = halves top first i n numbers (omega (arith, rises.0)) rises.1 in
          omega (arith, here, further, rest)
      | inr near ↦
          let here = scaled-near first i n numbers (omega (arith, rises.0)) near in
          let further = scaled-near first (i + 1) n numbers (omega (arith, rises.0)) near in
          let rest = halves top first i n numbers (omega (arith, rises.0)) rises.1 in
          let twice : 2 ^ (n - first - i) ≡ 2 ^ (n - first - (i + 1)) * 2 =
          ap (λ (k : ℕ). 2 ^ k) (let k : n - first - i ≡ suc (n - first - (i + 1)) = omega (arith, rises.0) in k)
          ∙ pow-suc 2 (n - first - (i + 1)) in
          omega (arith, here, further, rest, twice)
    ]

-- ---- what an item names

-- the numbers that the bits from i on name, of which so many are left
named_from : ℕ → ℕ → ℕ → ℕ → List ℕ
named_from first bits i left =
    map (λ j. (first % 65536 + j) % 65536) (filter (λ j. eqb (bit_at bits (j - 1)) 1) (range_with_len i left))

abbrev wire : List ℕ → List ℕ
wire numbers = map (λ n. n % 65536) numbers

named_from-set : (first bits i left : ℕ) → bits / 2 ^ (i - 1) % 2 ≡ 1 →
    named_from first bits i (suc left) ≡ (first % 65536 + i) % 65536 ∷ named_from first bits (i + 1) left
unfolding named_from
named_from-set first bits i left set = rw set refl

named_from-clear : (first bits i left : ℕ) → bits / 2 ^ (i - 1) % 2 ≡ 0 →
    named_from first bits i (suc left) ≡ named_from first bits (i + 1) left
unfolding named_from
named_from-clear first bits i left clear = rw clear refl

-- the bits from the next place on
further : (bits i : ℕ) → 1 ≤ i → bits / 2 ^ (i + 1 - 1) ≡ bits / 2 ^ (i - 1) / 2
further bits i some = ap (λ (k : ℕ). bits / 2 ^ k) (let k : i + 1 - 1 ≡ (i - 1) + 1 = omega (arith, some) in k)
    ∙ sym (shr-shr bits (i - 1) 1)

none_named : (first bits i : ℕ) → named_from first bits i 0 ≡ []
unfolding named_from
none_named first bits i = refl

named_bits : (left top first bits i p : ℕ) (numbers : List ℕ) → i + left ≡ 17 → 1 ≤ i → p + 1 ≡ first + i →
    bits / 2 ^ (i - 1) ≡ scaled first i numbers → RisesTo top p numbers →
    named_from first bits i left ≡ wire (numbers_in_reach numbers first)
named_bits zero top first bits i p numbers count some place worth rises =
    let none = in_reach-far top first p numbers (omega arith) rises in none_named first bits i ∙ sym (ap wire none)
named_bits (suc left) top first bits i p [] count some place worth rises =
    let zeros : bits / 2 ^ (i - 1) ≡ 0 = worth ∙ scaled-none first i in
    named_from-clear first bits i left (omega (arith, zeros))
    ∙ named_bits left (p + 1) first bits (i + 1) (p + 1) [] (omega (arith, count)) (omega arith) (omega arith)
    (further bits i some ∙ let e = scaled-none first (i + 1) in omega (arith, zeros, e)) (omega arith)
named_bits (suc left) top first bits i p (n ∷ numbers) count some place worth rises =
    elim (cases_eq n (p + 1)) [
      | inl here ↦
          let reach : n ≤ first + 16 = omega (arith, count) in
          let above : first < n = omega arith in
          let one = scaled-near first i n numbers above reach in
          let lowest : 2 ^ (n - first - i) ≡ 1 =
          ap (λ (k : ℕ). 2 ^ k) (let k : n - first - i ≡ 0 = omega arith in k) in
          let half = halves top first i n numbers (omega arith) rises.1 in
          let set : bits / 2 ^ (i - 1) % 2 ≡ 1 = omega (arith, worth, one, lowest, half) in
          let next : bits / 2 ^ (i + 1 - 1) ≡ scaled first (i + 1) numbers =
          further bits i some ∙ omega (arith, worth, one, lowest, half) in
          let rest = named_bits left top first bits (i + 1) n numbers (omega (arith, count)) (omega arith)
          (omega arith) next rises.1 in
          let wrapped : (first % 65536 + i) % 65536 ≡ n % 65536 = omega arith in
          named_from-set first bits i left set
          ∙ ap (λ (k : ℕ). k ∷ named_from first bits (i + 1) left) wrapped
          ∙ ap (λ (x : List ℕ). n % 65536 ∷ x) rest
          ∙ sym (ap wire (in_reach-near first n numbers above reach))
      | inr later ↦
          let past : RisesTo top (p + 1) (n ∷ numbers) = (omega (arith, rises.0), rises.1) in
          let half = halves top first i (p + 1) (n ∷ numbers) (omega arith) past in
          let clear : bits / 2 ^ (i - 1) % 2 ≡ 0 = omega (arith, worth, half) in
          let next : bits / 2 ^ (i + 1 - 1) ≡ scaled first (i + 1) (n ∷ numbers) =
          further bits i some ∙ omega (arith, worth, half) in
          named_from-clear first bits i left clear
          ∙ named_bits left top first bits (i + 1) (p + 1) (n ∷ numbers) (omega (arith, count)) (omega arith)
          (omega arith) next past
    ]

-- an item names its first number and those in its reach
item_numbers-are : (top first : ℕ) (numbers : List ℕ) → RisesTo top first numbers →
    item_numbers (first % 65536) (blp_of numbers first) ≡ wire (first ∷ numbers_in_reach numbers first)
unfolding named_from scaled
item_numbers-are top first numbers rises =
    ap (λ (x : List ℕ). first % 65536 ∷ x)
    (named_bits 16 top first (blp_of numbers first) 1 first numbers refl (omega arith) refl (omega arith) rises)

-- ---- what items name

-- the octets of an item, and others after them
numbers_named-item : (pid blp : ℕ) (items : List ℕ) → pid < 65536 → blp < 65536 →
    numbers_named ((to_be_bytes w16 pid ++ to_be_bytes w16 blp) ++ items) ≡ item_numbers pid blp
    ++ numbers_named items
numbers_named-item pid blp items pid_fits blp_fits =
    ap (λ (k : ℕ). item_numbers k (from_be_bytes w16 (to_be_bytes w16 blp)) ++ numbers_named items)
    (from_be_bytes-to_be_bytes_2 pid pid_fits)
    ∙ ap (λ (k : ℕ). item_numbers pid k ++ numbers_named items) (from_be_bytes-to_be_bytes_2 blp blp_fits)

-- the numbers beyond the reach of an item
beyond : ℕ → List ℕ → List ℕ
beyond first numbers = filter (λ n. ltb (first + 16) n) numbers

beyond-near : (first n : ℕ) (numbers : List ℕ) → n ≤ first + 16 → beyond first (n ∷ numbers) ≡ beyond first numbers
unfolding beyond
beyond-near first n numbers near = rw (le-ltb (first + 16) n near) refl

beyond-far : (top first p : ℕ) (numbers : List ℕ) → first + 16 ≤ p → RisesTo top p numbers →
    beyond first numbers ≡ numbers
unfolding beyond
beyond-far top first p [] far rises = refl
beyond-far top first p (n ∷ numbers) far rises =
    rw (lt-ltb (first + 16) n (omega (arith, rises.0)))
    (ap (λ (x : List ℕ). n ∷ x) (beyond-far top first n numbers (omega (arith, rises.0)) rises.1))

nothing_beyond : (first : ℕ) → beyond first [] ≡ []
unfolding beyond
nothing_beyond first = refl

-- numbers that rise are those in reach, and then those beyond
both : (top first p : ℕ) (numbers : List ℕ) → first ≤ p → RisesTo top p numbers →
    numbers_in_reach numbers first ++ beyond first numbers ≡ numbers
both top first p [] above rises = nothing_beyond first
both top first p (n ∷ numbers) above rises =
    elim (cases_lt (first + 16) n) [
      | inl far ↦
          let none = in_reach-far top first (first + 16) (n ∷ numbers) (omega arith) (far, rises.1) in
          let all = beyond-far top first (first + 16) (n ∷ numbers) (omega arith) (far, rises.1) in
          ap (λ (x : List ℕ). x ++ beyond first (n ∷ numbers)) none ∙ all
      | inr near ↦
          ap (λ (x : List ℕ). x ++ beyond first (n ∷ numbers))
          (in_reach-near first n numbers (omega (arith, rises.0)) near)
          ∙ ap (λ (x : List ℕ). n ∷ (numbers_in_reach numbers first ++ x)) (beyond-near first n numbers near)
          ∙ ap (λ (x : List ℕ). n ∷ x) (both top first n numbers (omega (arith, rises.0)) rises.1)
    ]

-- the octets of these items, of all the numbers
octets_at : List ℕ → List ℕ → List ℕ
octets_at all firsts = flat_map (item_octets all) firsts

nothing_named : (first : ℕ) (all : List ℕ) → numbers_named (octets_at all []) ≡ wire (beyond first [])
unfolding octets_at beyond
nothing_named first all = refl

-- an item, and those after it
named-item : (top n : ℕ) (before numbers : List ℕ) → IsUpTo n before → RisesTo top n numbers
    → numbers_named (octets_at (before ++ n ∷ numbers) (later_firsts n numbers)) ≡ wire (beyond n numbers)
    → numbers_named (octets_at (before ++ n ∷ numbers) (n ∷ later_firsts n numbers)) ≡ wire (n ∷ numbers)
unfolding octets_at
named-item top n before numbers up rises later =
    let all : List ℕ = before ++ n ∷ numbers in
    let own : blp_of all n ≡ blp_of numbers n =
    blp_of-after n before (n ∷ numbers) up ∙ blp_of-before n n numbers (omega arith) in
    let fits = blp_of-below top n numbers rises in
    numbers_named-item (n % 65536) (blp_of all n) (flat_map (item_octets all) (later_firsts n numbers)) (omega arith)
    (omega (arith, own, fits))
    ∙ ap (λ (k : ℕ). item_numbers (n % 65536) k ++ numbers_named
    (flat_map (item_octets all) (later_firsts n numbers))) own
    ∙ ap (λ (x : List ℕ). x ++ numbers_named (flat_map (item_octets all) (later_firsts n numbers)))
    (item_numbers-are top n numbers rises)
    ∙ ap (λ (x : List ℕ). wire (n ∷ numbers_in_reach numbers n) ++ x) later
    ∙ ap (λ (x : List ℕ). n % 65536 ∷ x)
    (sym (map-append (λ (m : ℕ). m % 65536) (numbers_in_reach numbers n) (beyond n numbers))
    ∙ ap wire (both top n n numbers (omega arith) rises))

-- the items after one that begins with first
named-later : (top first p : ℕ) (before numbers : List ℕ) → IsUpTo p before → RisesTo top p numbers →
    numbers_named (octets_at (before ++ numbers) (later_firsts first numbers)) ≡ wire (beyond first numbers)
named-later top first p before [] up rises = nothing_named first (before ++ [])
named-later top first p before (n ∷ numbers) up rises =
    let next : IsUpTo n (before ++ n ∷ []) = IsUpTo-more p n before (omega (arith, rises.0)) up in
    let whole : (before ++ n ∷ []) ++ numbers ≡ before ++ n ∷ numbers = append_assoc before (n ∷ []) numbers in
    elim (cases_lt (first + 16) n) [
      | inl far ↦
          let rest = ap (λ (x : List ℕ). numbers_named (octets_at x (later_firsts n numbers))) (sym whole)
          ∙ named-later top n n (before ++ n ∷ []) numbers next rises.1 in
          rw (lt-leb n (first + 16) far)
          (named-item top n before numbers (IsUpTo-raise p n before (omega (arith, rises.0)) up) rises.1 rest)
          ∙ sym (ap wire (beyond-far top first (first + 16) (n ∷ numbers) (omega arith) (far, rises.1)))
      | inr near ↦
          rw (le-leb n (first + 16) near)
          (ap (λ (x : List ℕ). numbers_named (octets_at x (later_firsts first numbers))) (sym whole)
          ∙ named-later top first n (before ++ n ∷ []) numbers next rises.1)
          ∙ sym (ap wire (beyond-near first n numbers near))
    ]

-- numbers that one NACK takes
pub record AreForOne (numbers : List ℕ) : Type 0 where
  pub rising : IsStrictlyIncreasing numbers
  pub near : slice_index numbers (length numbers - 1) ≤ slice_index numbers 0 + NACK_SPAN

rise : (first : ℕ) (later : List ℕ) → AreForOne (first ∷ later) → RisesTo (first + NACK_SPAN) first later
rise first later are =
    rises_to (first + NACK_SPAN) first later are.rising
    (subst (λ (k : ℕ). slice_index (first ∷ later) k ≤ first + NACK_SPAN)
    (let k : suc (length later) - 1 ≡ length later = omega arith in k) are.near)

-- the items of numbers name just them
pub named : (numbers : List ℕ) → AreForOne numbers →
    numbers_named (items_octets numbers) ≡ map (λ n. n % 65536) numbers
unfolding octets_at
named [] are = refl
named (first ∷ later) are =
    let rises = rise first later are in
    named-item (first + NACK_SPAN) first [] later tt rises
    (named-later (first + NACK_SPAN) first first (first ∷ []) later (omega arith, tt) rises)

-- ---- the octets of feedback are one packet

-- items lie at least 17 apart
later_firsts-few : (top first : ℕ) (numbers : List ℕ) → RisesTo top first numbers →
    17 * length (later_firsts first numbers) + first ≤ top
later_firsts-few top first [] rises = omega (arith, rises)
later_firsts-few top first (n ∷ numbers) rises =
    elim (cases_lt (first + 16) n) [
      | inl far ↦ let rest =
          later_firsts-few top n numbers rises.1 in rw (lt-leb n (first + 16) far) (omega (arith, rest))
      | inr near ↦ rw (le-leb n (first + 16) near)
          (later_firsts-few top first numbers (RisesTo-lower top n first numbers (omega (arith, rises.0)) rises.1))
    ]

firsts-few : (numbers : List ℕ) → AreForOne numbers → length (firsts numbers) ≤ 121
firsts-few [] are = omega arith
firsts-few (first ∷ later) are =
    let few = later_firsts-few (first + NACK_SPAN) first later (rise first later are) in omega (arith, few)

length-items : (numbers firsts : List ℕ) → length (flat_map (item_octets numbers) firsts) ≡ 4 * length firsts
length-items numbers [] = refl
length-items numbers (first ∷ firsts) = let rest = length-items numbers firsts in omega (arith, rest)

-- what is a packet is read to its end
read_as : (octets : List ℕ) (says : Message) → IsPacket octets says → IsReadAs octets says
read_as octets says is =
    let reads =
    subst (λ (x : List ℕ). Reads x (length octets) says) (append-nil octets) (reads-packet octets [] says is) in
    record {
      packet = is;
      no_fault = reads.no_fault;
      message = reads.message;
      size = reads.size;
      compound = record { spelled = sym (append-nil octets); each = (is, tt) };
    }

pub nack_reads : (from media : ℕ) (numbers : List ℕ) → from < 2 ^ 32 → media < 2 ^ 32 → AreForOne numbers →
    IsReadAs (nack_octets from media numbers) (Nack from media (items_octets numbers))
nack_reads from media numbers from_fits media_fits are =
    let few = firsts-few numbers are in
    let long = length-items numbers (firsts numbers) in
    read_as (nack_octets from media numbers) (Nack from media (items_octets numbers)) (record {
      padded = false;
      count = FMT_NACK;
      kind = RTPFB;
      words = 2 + length (firsts numbers);
      content = to_be_bytes w32 from ++ to_be_bytes w32 media ++ items_octets numbers;
      padding = [];
      spelled = sym (append-nil (nack_octets from media numbers));
      measured = omega (arith, long);
      count_fits = omega arith;
      words_fit = omega arith;
      ends = refl;
      means = (refl, refl, record { spelled = refl; sender_fits = from_fits; media_fits = media_fits });
    })

pub pli_reads : (from media : ℕ) → from < 2 ^ 32 → media < 2 ^ 32 → IsReadAs (pli_octets from media) (Pli from media)
pli_reads from media from_fits media_fits =
    read_as (pli_octets from media) (Pli from media) (record {
      padded = false;
      count = FMT_PLI;
      kind = PSFB;
      words = 2;
      content = to_be_bytes w32 from ++ to_be_bytes w32 media;
      padding = [];
      spelled = refl;
      measured = refl;
      count_fits = omega arith;
      words_fit = omega arith;
      ends = refl;
      means = (refl, refl, [], record { spelled = refl; sender_fits = from_fits; media_fits = media_fits });
    })
