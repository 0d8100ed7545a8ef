-- What a finder knows at first, and once a packet carried a picture.
use Rattle.std.proofs.Common.{◌≡◌, ◌≢◌, ℕ, ◌+◌, ◌%◌, ◌<◌, ◌≤◌, Bool, true, false, cond, List, [], ◌∷◌, length, replicate, refl, sym, ◌∙◌, ap, subst, arith, inl, inr}
use Rattle.std.specs.Prelude.{◌&&◌, ◌||◌, max, Option, Some, None, is_none, is_some, slice_index_or, slice_set}
use Rattle.std.specs.Option.{option_map}
use Rattle.std.proofs.lemmas.Bool.{lt-ltb, cases_eq, cases_lt, cases_Bool, ltb-true, ltb-false}
use Rattle.std.proofs.lemmas.Grind.{common_steps}
use Rattle.std.proofs.lemmas.List.{get_or-replicate}
use Rattle.vrx_codec.specs.declared.run.Run.{Run}
use Rattle.vrx_refs.specs.declared.limits.TheConstants.{INDEXES, MEMORY}
use Rattle.vrx_refs.specs.declared.sight.Sight.{Sight}
use Rattle.vrx_refs.specs.declared.sighting.Sighting.{Sighting}
use Rattle.vrx_refs.specs.Finder.{Finder, said_of, sight_at, slot_at}
use Rattle.vrx_refs.specs.Kept.{new_sight, with_seen}
use Rattle.vrx_refs.specs.Knows.{Knows, sight_of}
use Rattle.vrx_refs.specs.References.{first_of, first_tid, is_of_picture, is_recent, newest_of, seen, was_pulled, was_pulled_key}
use Rattle.vrx_refs.proofs.SlotLemmas.{slot_here, slot_other, slot_shared, shared_apart}

-- of a picture beyond the newest no packet told
pub first_tid_beyond : (told : List Sighting) (q : ℕ) → newest_of told < q → first_tid q told ≡ None
first_tid_beyond [] q more = refl
first_tid_beyond (s ∷ told) q more = ap (first_of q s) (first_tid_beyond told q (omega (arith, more)))
    ∙ grind (arith, common_steps, more)

-- the TID of the first packet stays; it is this packet's, if none came before; and other pictures keep theirs
first_kept : (q : ℕ) (s : Sighting) (o : Option ℕ) → is_some o ≡ true → first_of q s o ≡ o
first_kept q s (Some tid) there = refl
first_kept q s None there = grind (arith, there)

first_here : (q t : ℕ) (o : Option ℕ) → o ≡ None → first_of q (record { picture = q; tid = t }) o ≡ Some t
first_here q t o is = ap (first_of q (record { picture = q; tid = t })) is ∙ grind (arith, common_steps)

first_other : (q p t : ℕ) (o : Option ℕ) → q ≢ p → first_of q (record { picture = p; tid = t }) o ≡ o
first_other q p t (Some tid) apart = refl
first_other q p t None apart = grind (arith, common_steps, apart)

-- an option that maps to nothing is nothing, and one that maps to something is something
map_none : {X Y : Type 0} (f : X → Y) (o : Option X) → None ≡ option_map f o → o ≡ None
map_none f None is = refl
map_none f (Some x) is = grind (arith, is)

map_some : {X Y : Type 0} (f : X → Y) (o : Option X) → is_some (option_map f o) ≡ is_some o
map_some f None = refl
map_some f (Some x) = refl

-- a picture that was pulled as a keyframe was pulled
key_pulled : (pulled : List Run) (q : ℕ) → was_pulled pulled q ≡ false → was_pulled_key pulled q ≡ false
key_pulled [] q never = refl
key_pulled (run ∷ pulled) q never = step run.key (is_of_picture q run) (was_pulled pulled q)
    (was_pulled_key pulled q) never (key_pulled pulled q) where
      step : (key is rest keys : Bool) → (is || rest) ≡ false → (rest ≡ false → keys ≡ false) → ((key && is) || keys)
          ≡ false
      step key true rest keys never more = grind (arith, never)
      step true false rest keys never more = more never
      step false false rest keys never more = more never

-- nothing was told or pulled
pub knows_new : (sights : List (Option Sight)) (bases : List (Option ℕ)) → sights ≡ replicate MEMORY None
    → bases ≡ replicate INDEXES None
    → Knows (record { newest = 0; sights = sights; bases = bases; has_pulled = false }) [] []
knows_new sights bases are free = record {
  newest = refl;
  sights = λ q. when (is_recent 0 q) q;
  beyond = λ q _. empty q;
  bases = λ index small. ap (λ xs. slice_index_or xs index None) free
      ∙ get_or-replicate INDEXES index None None small;
  pulls = refl;
  carried = λ q there. grind (arith, there);
} where
  empty : (q : ℕ) → slot_at sights q ≡ None
  empty q = ap (λ xs. said_of q (slice_index_or xs (q % MEMORY) None)) are
      ∙ ap (said_of q) (get_or-replicate MEMORY (q % MEMORY) None None (omega arith))

  when : (b : Bool) (q : ℕ) → cond b (slot_at sights q) None ≡ option_map (sight_of [] q) (cond b None None)
  when true q = empty q
  when false q = refl

-- a picture was told
module _ (finder : Finder) (told : List Sighting) (pulled : List Run) (p t : ℕ) (size : length finder.sights ≡ MEMORY)
    (knows : Knows finder told pulled) where
  abbrev this : Sighting
  this = record { picture = p; tid = t }

  -- what the finder remembers of a picture that is recent
  pub recent_sight : (q : ℕ) → is_recent finder.newest q ≡ true
      → slot_at finder.sights q ≡ option_map (sight_of pulled q) (first_tid q told)
  recent_sight q recent = ap (λ b. cond b (slot_at finder.sights q) None) (sym recent) ∙ knows.sights q
      ∙ ap (λ b. option_map (sight_of pulled q) (cond b (first_tid q told) None))
      (ap (λ n. is_recent n q) (sym knows.newest) ∙ recent)

  carried_more : (q : ℕ) → was_pulled pulled q ≡ true → is_some (first_tid q (this ∷ told)) ≡ true
  carried_more q there = ap is_some (first_kept q this (first_tid q told) (knows.carried q there))
      ∙ knows.carried q there

  -- it is too old, or it is known
  module _ (known : is_recent finder.newest p ≡ true → is_some (first_tid p told) ≡ true) where
    not_newer : p ≤ newest_of told
    not_newer = elim (cases_Bool (is_recent finder.newest p)) [
      | inl recent ↦ some_below (first_tid p told) refl (known recent)
      | inr old ↦ omega (arith, ltb-false finder.newest (p + MEMORY) old, knows.newest)
    ] where
      some_below : (o : Option ℕ) → first_tid p told ≡ o → is_some o ≡ true → p ≤ newest_of told
      some_below o is there = elim (cases_lt (newest_of told) p) [
        | inl more ↦ grind (arith, there, sym is ∙ first_tid_beyond told p more)
        | inr less ↦ less
      ]

    same_newest : newest_of (this ∷ told) ≡ newest_of told
    same_newest = omega (arith, not_newer)

    first_same : (q : ℕ) → is_recent finder.newest q ≡ true → first_tid q (this ∷ told) ≡ first_tid q told
    first_same q recent = elim (cases_eq q p) [
      | inl is ↦ first_kept q this (first_tid q told) (ap (λ x. is_some (first_tid x told)) is
          ∙ known (ap (λ x. is_recent finder.newest x) (sym is) ∙ recent))
      | inr apart ↦ first_other q p t (first_tid q told) apart
    ]

    seen_same : (q : ℕ) (b : Bool) → is_recent finder.newest q ≡ b → seen (this ∷ told) q ≡ seen told q
    seen_same q b is = ap (λ n. cond (is_recent n q) (first_tid q (this ∷ told)) None) (same_newest
        ∙ sym knows.newest)
        ∙ by b is ∙ ap (λ n. cond (is_recent n q) (first_tid q told) None) knows.newest where
          by : (b : Bool) → is_recent finder.newest q ≡ b
              → cond (is_recent finder.newest q) (first_tid q (this ∷ told)) None
              ≡ cond (is_recent finder.newest q) (first_tid q told) None
          by true is = ap (λ o. cond (is_recent finder.newest q) o None) (first_same q is)
          by false is = ap (λ b. cond b (first_tid q (this ∷ told)) None) is
              ∙ ap (λ b. cond b (first_tid q told) None) (sym is)

    knows_kept : Knows finder (this ∷ told) pulled
    knows_kept = record {
      newest = knows.newest ∙ sym same_newest;
      sights = λ q. knows.sights q
          ∙ ap (option_map (sight_of pulled q)) (sym (seen_same q (is_recent finder.newest q) refl));
      beyond = λ q more. knows.beyond q (omega (arith, more, same_newest));
      bases = knows.bases;
      pulls = knows.pulls;
      carried = carried_more;
    }

  -- it is recent, and its slot doesn't know it
  module _ (recent : is_recent finder.newest p ≡ true) (free : slot_at finder.sights p ≡ None) where
    abbrev next : Finder
    next = record {
      newest = max finder.newest p;
      sights = slice_set finder.sights (p % MEMORY) (Some (new_sight p t));
      bases = finder.bases;
      has_pulled = finder.has_pulled;
    }

    never_told : first_tid p told ≡ None
    never_told = map_none (sight_of pulled p) (first_tid p told) (sym free ∙ recent_sight p recent)

    never_pulled : was_pulled pulled p ≡ false
    never_pulled = by (was_pulled pulled p) refl where
      by : (b : Bool) → was_pulled pulled p ≡ b → b ≡ false
      by true is = grind (arith, ap is_some (sym never_told) ∙ knows.carried p is)
      by false is = refl

    newest_next : max finder.newest p ≡ newest_of (this ∷ told)
    newest_next = omega (arith, knows.newest)

    slot_next : slot_at next.sights p ≡ option_map (sight_of pulled p) (first_tid p (this ∷ told))
    slot_next = slot_here finder.sights size p (new_sight p t) refl
        ∙ is_new (was_pulled pulled p) (was_pulled_key pulled p) never_pulled (key_pulled pulled p never_pulled)
        ∙ ap (option_map (sight_of pulled p)) (sym (first_here p t (first_tid p told) never_told)) where
          is_new : (a b : Bool) → a ≡ false → b ≡ false
              → Some (new_sight p t) ≡ Some (record { picture = p; tid = t; pulled = a; key = b })
          is_new a b not_a not_b = grind (arith, not_a, not_b)

    -- another picture that is recent keeps what it had
    slot_kept : (q : ℕ) → q ≢ p → is_recent next.newest q ≡ true
        → slot_at next.sights q ≡ option_map (sight_of pulled q) (first_tid q told)
    slot_kept q apart young = elim (cases_eq (q % MEMORY) (p % MEMORY)) [
      | inl same ↦ slot_shared finder.sights size p (new_sight p t) refl q apart same
          ∙ ap (option_map (sight_of pulled q)) (sym (first_tid_beyond told q (far same)))
      | inr other ↦ slot_other finder.sights size p (new_sight p t) refl q other
          ∙ recent_sight q (was_young (ltb-true next.newest (q + MEMORY) young))
    ] where
      far : q % MEMORY ≡ p % MEMORY → newest_of told < q
      far same = elim (shared_apart p q apart same) [
        | inl below ↦ omega (arith, below, ltb-true next.newest (q + MEMORY) young)
        | inr above ↦ omega (arith, above, knows.newest, ltb-true finder.newest (p + MEMORY) recent)
      ]

      was_young : next.newest < q + MEMORY → is_recent finder.newest q ≡ true
      was_young young = lt-ltb finder.newest (q + MEMORY) (omega (arith, young))

    sight_next : (q : ℕ) (b : Bool) → is_recent next.newest q ≡ b
        → sight_at next q ≡ option_map (sight_of pulled q) (seen (this ∷ told) q)
    sight_next q true young = ap (λ b. cond b (slot_at next.sights q) None) young ∙ slot
        ∙ ap (λ b. option_map (sight_of pulled q) (cond b (first_tid q (this ∷ told)) None))
        (sym (ap (λ n. is_recent n q) (sym newest_next) ∙ young)) where
          slot : slot_at next.sights q ≡ option_map (sight_of pulled q) (first_tid q (this ∷ told))
          slot = elim (cases_eq q p) [
            | inl is ↦ subst (λ x. slot_at next.sights x
                ≡ option_map (sight_of pulled x) (first_tid x (this ∷ told))) (sym is) slot_next
            | inr apart ↦ slot_kept q apart young
                ∙ ap (option_map (sight_of pulled q)) (sym (first_other q p t (first_tid q told) apart))
          ]
    sight_next q false old = ap (λ b. cond b (slot_at next.sights q) None) old
        ∙ ap (λ b. option_map (sight_of pulled q) (cond b (first_tid q (this ∷ told)) None))
        (sym (ap (λ n. is_recent n q) (sym newest_next) ∙ old))

    beyond_next : (q : ℕ) → newest_of (this ∷ told) < q → slot_at next.sights q ≡ None
    beyond_next q more = elim (cases_eq (q % MEMORY) (p % MEMORY)) [
      | inl same ↦ slot_shared finder.sights size p (new_sight p t) refl q (λ is. grind (arith, is, more)) same
      | inr other ↦ slot_other finder.sights size p (new_sight p t) refl q other
          ∙ knows.beyond q (omega (arith, more))
    ]

    knows_next : Knows next (this ∷ told) pulled
    knows_next = record {
      newest = newest_next;
      sights = λ q. sight_next q (is_recent next.newest q) refl;
      beyond = beyond_next;
      bases = knows.bases;
      pulls = knows.pulls;
      carried = carried_more;
    }

  -- whether the picture is new or not
  pub knows_seen : Knows (with_seen p t finder) (this ∷ told) pulled
  knows_seen = by (is_recent finder.newest p) (slot_at finder.sights p) refl refl where
    known : (s : Sight) → slot_at finder.sights p ≡ Some s → is_recent finder.newest p ≡ true
        → is_some (first_tid p told) ≡ true
    known s is recent = sym (map_some (sight_of pulled p) (first_tid p told))
        ∙ ap is_some (sym (recent_sight p recent) ∙ is)

    by : (b : Bool) (o : Option Sight) → is_recent finder.newest p ≡ b → slot_at finder.sights p ≡ o
        → Knows (cond (b && is_none o) (record {
          newest = max finder.newest p;
          sights = slice_set finder.sights (p % MEMORY) (Some (new_sight p t));
          bases = finder.bases;
          has_pulled = finder.has_pulled;
        }) finder) (this ∷ told) pulled
    by false o old is = knows_kept (λ recent. grind (arith, sym old ∙ recent))
    by true None recent is = knows_next recent is
    by true (Some s) recent is = knows_kept (known s is)
