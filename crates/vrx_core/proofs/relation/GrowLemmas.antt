-- Packets came into a window: what stood there and is left in it stays; and what is known once all were told.
use Rattle.std.proofs.Common.{◌≡◌, ◌≢◌, ℕ, ◌-◌, Bool, true, false, ◌&&◌, ◌||◌, ◌⊎◌, List, [], ◌∷◌, map, Contains, Option, Some, None, is_some, refl, sym, ◌∙◌, ap, subst, inl, inr, nat_cmp}
use Rattle.std.specs.List.{filter}
use Rattle.std.specs.Option.{option_map_or}
use Rattle.std.specs.FinMap.Entries.{is_sorted, put, where_key}
use Rattle.std.proofs.lemmas.Bool.{and_parts, and_from, cases_Bool, cases_eq, true≢false}
use Rattle.vrx_codec.specs.Meaning.{Meaning}
use Rattle.vrx_window.specs.Content.{Content}
use Rattle.vrx_window.specs.Window.{at, in_window, is_available, is_inside, entries_with}
use Rattle.vrx_frames.specs.Completed.{IsUpTo, Known, is_among, known_with, packets_under}
use Rattle.vrx_frames.specs.Run.{Packets, ends_frame, stands_after_end}
use Rattle.vrx_frames.specs.Shape.{shape_of}
use Rattle.vrx_frames.specs.declared.shape.Shape.{Shape}
use Rattle.vrx_frames.specs.declared.shape.Shape.TheVariants as shapes
use Rattle.vrx_repair.specs.Step.{with_repair, with_repairs}
use Rattle.vrx_core.specs.machine.Standing.{began_after_end}
use Rattle.vrx_core.specs.relation.StandsFor.{numbers_of, shapes_of}
use Rattle.vrx_core.specs.inside.Step.{known_all}
use Rattle.vrx_core.proofs.relation.ListLemmas.{all-of, filter-same, filter-whole, map-from}
use Rattle.vrx_core.proofs.relation.MapLemmas.{among-numbers, at_put-here, at_put-other, at_where-from, at_where-no, at_where-yes, entry-available, same-map, some-of, sorted_put, sorted_where}
use Rattle.vrx_core.proofs.relation.WindowLemmas.{among-filter, told-available}
use Rattle.vrx_core.proofs.relation.TakenLemmas.{began-then, behind-then, told-then}

-- the packets of a window before, and those after, up to which its newest number went
pub record Grows (before after : Packets) (newest : Option ℕ) (top : ℕ) : Type 0 where
  pub upto : IsUpTo newest (Some top)
  -- all that is there after is in the window; and the numbers rise
  pub inside : (m : ℕ) → is_available m after ≡ true → in_window top m ≡ true
  pub rises : is_sorted nat_cmp after ≡ true
  -- what was there and is left in the window is as it was
  pub stays : (m : ℕ) → is_available m before ≡ true → in_window top m ≡ true → at m after ≡ at m before

-- of numbers told the same packets are known, if the same stands under each
pub under-same : (told : List (ℕ × Shape)) (packets others : Packets) → is_sorted nat_cmp packets ≡ true →
    is_sorted nat_cmp others ≡ true → ((m : ℕ) → is_available m told ≡ true → at m packets ≡ at m others)
    → packets_under told packets ≡ packets_under told others
under-same told packets others sorted sorted' same =
    same-map (packets_under told packets) (packets_under told others)
    (sorted_where (λ m. is_available m told) packets sorted) (sorted_where (λ m. is_available m told) others sorted')
    (λ m. elim (cases_Bool (is_available m told)) [
      | inl is ↦ at_where-yes (λ k. is_available k told) m packets is ∙ same m is
          ∙ sym (at_where-yes (λ k. is_available k told) m others is)
      | inr isn't ↦ at_where-no (λ k. is_available k told) m packets isn't
          ∙ sym (at_where-no (λ k. is_available k told) m others isn't)
    ])

-- one number more is known alike, if the same stands under the numbers told and under it
pub known-same : (codec : Meaning) (newest : Option ℕ) (n : ℕ) (passed : Option ℕ) (packets others : Packets) (k : Known)
    → at n packets ≡ at n others
    → packets_under (known_with codec newest n passed others k).arrivals packets
    ≡ packets_under (known_with codec newest n passed others k).arrivals others
    → known_with codec newest n passed packets k ≡ known_with codec newest n passed others k
known-same codec newest n passed packets others k here under =
    ap (λ o. by (option_map_or (shape_of codec) o shapes.Other) packets) here
    ∙ ap (λ ps. by' ps) under where
      told : Shape → List (ℕ × Shape)
      told shape = put nat_cmp n shape (where_key nat_cmp (is_inside newest) k.arrivals)

      by : Shape → Packets → Known
      by shape ps = record {
        arrivals = told shape;
        began = filter (λ m. is_among k.began m || stands_after_end m (packets_under (told shape) ps))
            (map (λ (entry : ℕ × Shape). entry.0) (told shape));
        newest = newest;
        passed = passed;
      }

      here_told : List (ℕ × Shape)
      here_told = told (option_map_or (shape_of codec) (at n others) shapes.Other)

      by' : Packets → Known
      by' known = record {
        arrivals = here_told;
        began = filter (λ m. is_among k.began m || stands_after_end m known)
            (map (λ (entry : ℕ × Shape). entry.0) here_told);
        newest = newest;
        passed = passed;
      }

-- a number that stands right after the end of a frame does so among more packets, too
pub stands-more : (few more : Packets) → ((m : ℕ) → is_available m few ≡ true → at m more ≡ at m few) → (m : ℕ) →
    stands_after_end m few ≡ true → stands_after_end m more ≡ true
stands-more few more same m stood =
    let p : (is_available m few ≡ true) × (option_map_or ends_frame (at (m - 1) few) false ≡ true) =
    and_parts (is_available m few) (option_map_or ends_frame (at (m - 1) few) false) stood in
    and_from (is_available m more) (option_map_or ends_frame (at (m - 1) more) false)
    (ap is_some (same m p.0) ∙ p.0)
    (ap (λ o. option_map_or ends_frame o false) (same (m - 1) (there (at (m - 1) few) p.1)) ∙ p.1) where
      there : (o : Option Content) → option_map_or ends_frame o false ≡ true → is_some o ≡ true
      there None h = absurd (true≢false (sym h))
      there (Some content) h = refl

-- all of packets is in the window of a number
abbrev pub AreWithin : ℕ → Packets → Type 0
AreWithin top packets = (m : ℕ) → is_available m packets ≡ true → in_window top m ≡ true

-- of packets that are all within, none is left out
pub where-whole : (top : ℕ) (packets : Packets) → AreWithin top packets → where_key nat_cmp (in_window top) packets ≡ packets
where-whole top packets within =
    filter-whole (λ e. in_window top e.0) packets (all-of (λ e. in_window top e.0 ≡ true) packets
    (λ e c. within e.0 (entry-available packets e c)))

-- so a repair is put as a packet is placed
pub entries-whole : (top n : ℕ) (content : Content) (packets : Packets) → AreWithin top packets →
    entries_with top n content packets ≡ with_repair (n, content) packets
entries-whole top n content packets within = ap (put nat_cmp n content) (where-whole top packets within)

-- repairs of packets that are within a window: each is under a number of it at which nothing stood
abbrev pub AreGaps : ℕ → Packets → List (ℕ × Content) → Type 0
AreGaps top packets [] = Unit {0}
AreGaps top packets (repair ∷ more) = (is_available repair.0 packets ≡ false) × (in_window top repair.0 ≡ true)
    × AreGaps top (with_repair repair packets) more

-- with a repair all is within still
pub within-more : (top : ℕ) (packets : Packets) (repair : ℕ × Content) → AreWithin top packets →
    in_window top repair.0 ≡ true → AreWithin top (with_repair repair packets)
within-more top packets repair within inside m there = elim (cases_eq m repair.0) [
  | inl same ↦ ap (in_window top) same ∙ inside
  | inr apart ↦ within m (sym (ap is_some (at_put-other m repair.0 repair.1 packets apart)) ∙ there)
]

-- what is there stays with a repair
stays-more : (packets : Packets) (repair : ℕ × Content) → is_available repair.0 packets ≡ false → (m : ℕ) →
    is_available m packets ≡ true → at m (with_repair repair packets) ≡ at m packets
stays-more packets repair missing m there = at_put-other m repair.0 repair.1 packets
    (λ same. true≢false (sym there ∙ ap (λ k. is_available k packets) same ∙ missing))

-- and with all repairs
pub stays-all : (top : ℕ) (packets : Packets) (made : List (ℕ × Content)) → AreGaps top packets made → (m : ℕ) →
    is_available m packets ≡ true → at m (with_repairs made packets) ≡ at m packets
stays-all top packets [] gaps m there = refl
stays-all top packets (repair ∷ more) gaps m there =
    let same : at m (with_repair repair packets) ≡ at m packets = stays-more packets repair gaps.0 m there in
    stays-all top (with_repair repair packets) more gaps.2 m (ap is_some same ∙ there) ∙ same

pub within-all : (top : ℕ) (packets : Packets) (made : List (ℕ × Content)) → AreWithin top packets →
    AreGaps top packets made → AreWithin top (with_repairs made packets)
within-all top packets [] within gaps = within
within-all top packets (repair ∷ more) within gaps =
    within-all top (with_repair repair packets) more (within-more top packets repair within gaps.1) gaps.2

pub rises-all : (packets : Packets) (made : List (ℕ × Content)) → is_sorted nat_cmp packets ≡ true →
    is_sorted nat_cmp (with_repairs made packets) ≡ true
rises-all packets [] rises = rises
rises-all packets (repair ∷ more) rises =
    rises-all (with_repair repair packets) more (sorted_put repair.0 repair.1 packets rises)

-- the numbers of repairs
abbrev pub numbers_made : List (ℕ × Content) → List ℕ
numbers_made made = map (λ repair. repair.0) made

-- What is known once the numbers of repairs were told: all packets are told; each number that stands right after the
-- end of a frame is remembered; and, if what is remembered were those that ever did so, they are still.
pub record KnowsAll (codec : Meaning) (newest passed : Option ℕ) (packets : Packets) (times : List Packets) (k : Known)
    : Type 0 where
  pub arrivals : k.arrivals ≡ shapes_of codec packets
  pub newest_is : k.newest ≡ newest
  pub passed_is : k.passed ≡ passed
  pub behind : (m : ℕ) → stands_after_end m packets ≡ true → is_among k.began m ≡ true

-- what is remembered were those that ever stood right after the end of a frame
abbrev pub Recalls : Packets → List Packets → Known → Type 0
Recalls packets times k = k.began ≡ filter (began_after_end (packets ∷ times)) (numbers_of packets)

module _ (codec : Meaning) (top : ℕ) (passed : Option ℕ) (times : List Packets) where
  -- one repair more is told
  module _ (packets : Packets) (repair : ℕ × Content) (within : AreWithin top packets)
      (missing : is_available repair.0 packets ≡ false) (k : Known) (told : k.arrivals ≡ shapes_of codec packets) where
    abbrev more : Packets
    more = with_repair repair packets

    abbrev placed : Packets
    placed = entries_with top repair.0 repair.1 packets

    placed_is : placed ≡ more
    placed_is = entries-whole top repair.0 repair.1 packets within

    abbrev next : Known
    next = known_with codec (Some top) repair.0 passed more k

    then_is : known_with codec (Some top) repair.0 passed placed k ≡ next
    then_is = ap (λ ps. known_with codec (Some top) repair.0 passed ps k) placed_is

    pub next-knows : KnowsAll codec (Some top) passed more times next
    next-knows = record {
      arrivals = ap (λ (x : Known). x.arrivals) (sym then_is)
          ∙ told-then codec packets top repair.0 repair.1 passed k told ∙ ap (shapes_of codec) placed_is;
      newest_is = refl;
      passed_is = refl;
      behind = λ m stood. ap (λ (x : Known). is_among x.began m) (sym then_is)
          ∙ behind-then codec packets top repair.0 repair.1 passed k told m
          (ap (stands_after_end m) placed_is ∙ stood);
    }

    next-recalls : began_after_end times repair.0 ≡ false → Recalls packets times k → Recalls more times next
    next-recalls never recalls =
        ap (λ (x : Known). x.began) (sym then_is) ∙ began-then codec packets top repair.0 repair.1 passed k told
        ∙ ap (λ ps. filter (λ m. is_among k.began m || stands_after_end m ps) (numbers_of ps)) placed_is
        ∙ filter-same (λ m. is_among k.began m || stands_after_end m more) (began_after_end (more ∷ times))
        (numbers_of more) (all-of (λ m. (is_among k.began m || stands_after_end m more)
        ≡ began_after_end (more ∷ times) m) (numbers_of more) (λ m c. each m (here m c))) where
          was : (m : ℕ) → is_among k.began m ≡ (began_after_end (packets ∷ times) m && is_available m packets)
          was m = ap (λ ns. is_among ns m) recalls
              ∙ among-filter (began_after_end (packets ∷ times)) (numbers_of packets) m
              ∙ ap (λ b. began_after_end (packets ∷ times) m && b) (sym (among-numbers packets m))

          both : (old here past : Bool) → (old ≡ true → here ≡ true) →
              (((old || past) && true) || here) ≡ (here || past)
          both true true past up = refl
          both true false past up = absurd (true≢false (sym (up refl)))
          both false true true up = refl
          both false true false up = refl
          both false false true up = refl
          both false false false up = refl

          none : (any here : Bool) → ((any && false) || here) ≡ (here || false)
          none true true = refl
          none true false = refl
          none false true = refl
          none false false = refl

          here : (m : ℕ) → Contains (numbers_of more) m → is_available m more ≡ true
          here m c =
              let e : (entry : ℕ × Content) × Contains more entry × (entry.0 ≡ m) =
              map-from (λ (entry : ℕ × Content). entry.0) more m c in
              subst (λ q. is_available q more ≡ true) e.2 (entry-available more e.0 e.1)

          away : (m : ℕ) → is_available m more ≡ true → is_available m packets ≡ false →
              (m ≡ repair.0) ⊎ (m ≢ repair.0) →
              (is_among k.began m || stands_after_end m more) ≡ began_after_end (more ∷ times) m
          away m there isn't (inl same) =
              ap (λ b. b || stands_after_end m more) (was m
              ∙ ap (λ b. began_after_end (packets ∷ times) m && b) isn't)
              ∙ none (began_after_end (packets ∷ times) m) (stands_after_end m more)
              ∙ ap (λ b. stands_after_end m more || b) (sym (ap (began_after_end times) same ∙ never))
          away m there isn't (inr apart) = absurd (true≢false (sym there
              ∙ ap is_some (at_put-other m repair.0 repair.1 packets apart) ∙ isn't))

          each : (m : ℕ) → is_available m more ≡ true →
              (is_among k.began m || stands_after_end m more) ≡ began_after_end (more ∷ times) m
          each m there = elim (cases_Bool (is_available m packets)) [
            | inl was_there ↦
                ap (λ b. b || stands_after_end m more) (was m
                ∙ ap (λ b. began_after_end (packets ∷ times) m && b) was_there)
                ∙ both (stands_after_end m packets) (stands_after_end m more) (began_after_end times m)
                (stands-more packets more (stays-more packets repair missing) m)
            | inr isn't ↦ away m there isn't (cases_eq m repair.0)
          ]

  -- what is known of packets, by which the same is known among more of them
  pub known-among : (newest : Option ℕ) (n : ℕ) (packets more : Packets) (k : Known) → is_sorted nat_cmp packets ≡ true →
      is_sorted nat_cmp more ≡ true → is_available n packets ≡ true
      → (known_with codec newest n passed packets k).arrivals ≡ shapes_of codec packets
      → ((m : ℕ) → is_available m packets ≡ true → at m more ≡ at m packets)
      → known_with codec newest n passed more k ≡ known_with codec newest n passed packets k
  known-among newest n packets more k sorted sorted' there told same =
      known-same codec newest n passed more packets k (same n there)
      (under-same (known_with codec newest n passed packets k).arrivals more packets sorted' sorted
      (λ m is. same m (sym (told-available codec (known_with codec newest n passed packets k).arrivals packets m told)
      ∙ is)))

  -- each of these never stood right after the end of a frame
  abbrev pub NeverBegan : List (ℕ × Content) → Type 0
  NeverBegan [] = Unit {0}
  NeverBegan (repair ∷ more) = (began_after_end times repair.0 ≡ false) × NeverBegan more

  -- all repairs are told
  pub all-known : (packets : Packets) (made : List (ℕ × Content)) (k : Known) → is_sorted nat_cmp packets ≡ true →
      AreWithin top packets → AreGaps top packets made → KnowsAll codec (Some top) passed packets times k
      → KnowsAll codec (Some top) passed (with_repairs made packets) times
      (known_all codec (Some top) passed (with_repairs made packets) (numbers_made made) k)
  all-known packets [] k sorted within gaps knows = knows
  all-known packets (repair ∷ more) k sorted within gaps knows =
      let packets' : Packets = with_repair repair packets in
      let final : Packets = with_repairs more packets' in
      let sorted' : is_sorted nat_cmp packets' ≡ true = sorted_put repair.0 repair.1 packets sorted in
      let knows' = next-knows packets repair within gaps.0 k knows.arrivals in
      subst (λ (x : Known). KnowsAll codec (Some top) passed final times
      (known_all codec (Some top) passed final (numbers_made more) x))
      (sym (known-among (Some top) repair.0 packets' final k sorted' (rises-all packets' more sorted')
      (ap is_some (at_put-here repair.0 repair.1 packets)) knows'.arrivals (stays-all top packets' more gaps.2)))
      (all-known packets' more (known_with codec (Some top) repair.0 passed packets' k) sorted'
      (within-more top packets repair within gaps.1) gaps.2 knows')

  -- and what ever stood right after the end of a frame is remembered
  pub all-recall : (packets : Packets) (made : List (ℕ × Content)) (k : Known) → is_sorted nat_cmp packets ≡ true →
      AreWithin top packets → AreGaps top packets made → k.arrivals ≡ shapes_of codec packets → NeverBegan made →
      Recalls packets times k
      → Recalls (with_repairs made packets) times
      (known_all codec (Some top) passed (with_repairs made packets) (numbers_made made) k)
  all-recall packets [] k sorted within gaps told never recalls = recalls
  all-recall packets (repair ∷ more) k sorted within gaps told never recalls =
      let packets' : Packets = with_repair repair packets in
      let final : Packets = with_repairs more packets' in
      let sorted' : is_sorted nat_cmp packets' ≡ true = sorted_put repair.0 repair.1 packets sorted in
      let knows' = next-knows packets repair within gaps.0 k told in
      subst (λ (x : Known). Recalls final times (known_all codec (Some top) passed final (numbers_made more) x))
      (sym (known-among (Some top) repair.0 packets' final k sorted' (rises-all packets' more sorted')
      (ap is_some (at_put-here repair.0 repair.1 packets)) knows'.arrivals (stays-all top packets' more gaps.2)))
      (all-recall packets' more (known_with codec (Some top) repair.0 passed packets' k) sorted'
      (within-more top packets repair within gaps.1) gaps.2 knows'.arrivals never.1
      (next-recalls packets repair within gaps.0 k told never.0 recalls))

  -- the packet that came first, and then all repairs
  module _ (packets : Packets) (n : ℕ) (content : Content) (made : List (ℕ × Content)) (k : Known)
      (sorted : is_sorted nat_cmp packets ≡ true) (told : k.arrivals ≡ shapes_of codec packets)
      (within : AreWithin top (entries_with top n content packets))
      (gaps : AreGaps top (entries_with top n content packets) made) where
    abbrev pub first : Packets
    first = entries_with top n content packets

    abbrev pub final : Packets
    final = with_repairs made first

    pub first-rises : is_sorted nat_cmp first ≡ true
    first-rises = sorted_put n content (where_key nat_cmp (in_window top) packets)
        (sorted_where (in_window top) packets sorted)

    pub final-rises : is_sorted nat_cmp final ≡ true
    final-rises = rises-all first made first-rises

    pub first-there : is_available n first ≡ true
    first-there = ap is_some (at_put-here n content (where_key nat_cmp (in_window top) packets))

    pub first-knows : KnowsAll codec (Some top) passed first times (known_with codec (Some top) n passed first k)
    first-knows = record {
      arrivals = told-then codec packets top n content passed k told;
      newest_is = refl;
      passed_is = refl;
      behind = behind-then codec packets top n content passed k told;
    }

    pub first-is : known_with codec (Some top) n passed final k ≡ known_with codec (Some top) n passed first k
    first-is = known-among (Some top) n first final k first-rises final-rises first-there first-knows.arrivals
        (stays-all top first made gaps)

    pub known-then : KnowsAll codec (Some top) passed final times
        (known_all codec (Some top) passed final (n ∷ numbers_made made) k)
    known-then = subst (λ (x : Known). KnowsAll codec (Some top) passed final times
        (known_all codec (Some top) passed final (numbers_made made) x)) (sym first-is)
        (all-known first made (known_with codec (Some top) n passed first k) first-rises within gaps first-knows)

    -- what was remembered of the packets before
    pub recall-then : is_available n packets ≡ false → k.began ≡ filter (began_after_end times) (numbers_of packets) →
        began_after_end times n ≡ false → NeverBegan made
        → Recalls final times (known_all codec (Some top) passed final (n ∷ numbers_made made) k)
    recall-then missing began never nevers =
        subst (λ (x : Known). Recalls final times
        (known_all codec (Some top) passed final (numbers_made made) x)) (sym first-is)
        (all-recall first made (known_with codec (Some top) n passed first k) first-rises within gaps
        first-knows.arrivals nevers recalls) where
          was : (m : ℕ) → is_among k.began m ≡ (began_after_end times m && is_available m packets)
          was m = ap (λ ns. is_among ns m) began
              ∙ among-filter (began_after_end times) (numbers_of packets) m
              ∙ ap (λ b. began_after_end times m && b) (sym (among-numbers packets m))

          here : (m : ℕ) → Contains (numbers_of first) m → is_available m first ≡ true
          here m c =
              let e : (entry : ℕ × Content) × Contains first entry × (entry.0 ≡ m) =
              map-from (λ (entry : ℕ × Content). entry.0) first m c in
              subst (λ q. is_available q first ≡ true) e.2 (entry-available first e.0 e.1)

          old : (m : ℕ) → is_available m first ≡ true → m ≢ n → is_available m packets ≡ true
          old m there apart =
              let x : (c : Content) × (at m first ≡ Some c) = some-of (at m first) there in
              ap is_some (at_where-from (in_window top) m packets x.0
              (sym (at_put-other m n content (where_key nat_cmp (in_window top) packets) apart) ∙ x.1)).1

          and_false : (b : Bool) → (b && false) ≡ false
          and_false true = refl
          and_false false = refl

          and_true : (b : Bool) → (b && true) ≡ b
          and_true true = refl
          and_true false = refl

          or_comm : (a b : Bool) → (a || b) ≡ (b || a)
          or_comm true true = refl
          or_comm true false = refl
          or_comm false true = refl
          or_comm false false = refl

          same : (m : ℕ) → is_available m first ≡ true → is_among k.began m ≡ began_after_end times m
          same m there = was m ∙ elim (cases_eq m n) [
            | inl it ↦ ap (λ b. began_after_end times m && b) (ap (λ q. is_available q packets) it ∙ missing)
                ∙ and_false (began_after_end times m) ∙ sym (ap (began_after_end times) it ∙ never)
            | inr apart ↦ ap (λ b. began_after_end times m && b) (old m there apart) ∙ and_true (began_after_end times m)
          ]

          recalls : Recalls first times (known_with codec (Some top) n passed first k)
          recalls =
              began-then codec packets top n content passed k told
              ∙ filter-same (λ m. is_among k.began m || stands_after_end m first) (began_after_end (first ∷ times))
              (numbers_of first) (all-of (λ m. (is_among k.began m || stands_after_end m first)
              ≡ began_after_end (first ∷ times) m) (numbers_of first)
              (λ m c. ap (λ b. b || stands_after_end m first) (same m (here m c))
              ∙ or_comm (began_after_end times m) (stands_after_end m first)))
