-- The end of the three workers: their seats are joined.
use Rattle.std.proofs.Common.{◌≡◌, ◌≢◌, ◌∙◌, ℕ, ◌+◌, ◌≤◌, List, [], ◌∷◌, length, map, take, replicate, Result, Ok, Err, IfOk, Vec, Global, refl, sym, ap, subst, zero, suc, Some, length-append, arith}
use Rattle.std.specs.Prelude.{slice_get}
use Rattle.std.specs.List.{AllZip, zip}
use Rattle.std.proofs.lemmas.List.{length-replicate}
use Rattle.vrx_codec.specs.Meaning.{Meaning}
use Rattle.vrx_core.specs.declared.event.Event.{Event}
use Rattle.vrx_core.specs.declared.settings.Settings.{Settings}
use Rattle.vrx_lock.specs.declared.entry.Entry.{Entry}
use Rattle.vrx_lock.specs.declared.known.Known.{Known}
use Rattle.vrx_lock.specs.Lists.{BeginsWith, RisesFrom, counted_from, merged}
use Rattle.vrx_lock.specs.Shares.{IsWhole, added, halved}
use Rattle.vrx_lock.specs.Seats.{IsSeat, Joined, after_split, newcomer}
use Rattle.vrx_live.specs.declared.calls.Stop.{Stop}
use Rattle.vrx_live.specs.declared.calls.Stop.TheVariants.{Full}
use Rattle.vrx_live.specs.declared.lists.Lists.{Lists}
use Rattle.vrx_live.specs.declared.pieces.Piece.{Piece}
use Rattle.vrx_live.specs.Calls.{Call, calls_from}
use Rattle.vrx_live.specs.Texts.{texts_from}
use Rattle.vrx_live.specs.Runs.{HaveRun, HaveStopped, fronts}
use Rattle.vrx_live.specs.inside.Placed.{blank}
use Rattle.vrx_live.specs.inside.End.{AreWithin, HaveEnded, all_placed, count_of}
use Rattle.vrx_live.specs.inside.Worker.{Ended, IsAt, IsPiece, Kept, Ran}
use Rattle.vrx_live.proofs.ListLemmas.{get-begins, zip-weaker}
use Rattle.vrx_live.proofs.WeaveLemmas.{Each}
use Rattle.vrx_live.proofs.WorkerLemmas.{piece-begins, ran-length}
use Rattle.vrx_live.proofs.ShareLemmas.{whole-again}
use Rattle.vrx_live.proofs.JoinedLemmas.{begins-one, begins-three, begins-two, places-three, places-two, share-three}
use Rattle.vrx_live.proofs.PlacedLemmas.{IsRight, all-placed, all-within, places_of}
use Rattle.vrx_live.proofs.RunLemmas.{calls_in, indexed-one, indexed-three, indexed-two, interleaved, length-counted, length-merged, length-texts, pieces-right, seen-calls}

-- the calls of a worker, in a journal that begins with what it saw
ran-at : (journal : List Entry) (old new : Known) (actor : ℕ) (lines : List (ℕ × Event)) → Ran old new lines
    → old.actor ≡ actor → BeginsWith journal new.seen → AllZip (IsAt journal) new.places (calls_from actor 1 lines)
ran-at journal old new actor lines ran is b =
    subst (λ a. AllZip (IsAt journal) new.places (calls_from a 1 lines)) is
    (zip-weaker (IsAt new.seen) (IsAt journal) (λ place call at. get-begins journal new.seen place call.1 b at)
    new.places (calls_from old.actor 1 lines) ran.calls)

kept-at : (codec : Meaning) (journal : List Entry) (settings : Settings) (old new : Known) (actor : ℕ)
    (lines : List (ℕ × Event)) (pieces : List Piece) → Kept codec old new lines pieces → old.setup.settings ≡ settings
    → old.actor ≡ actor → BeginsWith journal new.seen
    → AllZip (IsPiece settings codec journal) pieces (calls_from actor 1 lines)
kept-at codec journal settings old new actor lines pieces kept is is' b =
    subst (λ (x : Settings × ℕ). AllZip (IsPiece x.0 codec journal) pieces (calls_from x.1 1 lines)) (λ t. (is t, is' t))
    (zip-weaker (IsPiece old.setup.settings codec new.seen) (IsPiece old.setup.settings codec journal)
    (piece-begins old.setup.settings codec journal new.seen b) pieces (calls_from old.actor 1 lines) kept.are)

length-take : {A : Type 0} (n : ℕ) (xs : List A) → n ≤ length xs → length (take n xs) ≡ n
length-take zero xs le = refl
length-take (suc n) [] le = absurd (omega (arith, le))
length-take (suc n) (x ∷ xs) le = ap suc (length-take n xs (omega (arith, le)))

begins-length : (xs ys : List Entry) → BeginsWith xs ys → length ys ≤ length xs
begins-length xs ys b = omega (arith, ap length b.is, length-append ys b.rest)

length-map : {A B : Type 0} (f : A → B) (xs : List A) → length (map f xs) ≡ length xs
length-map f [] = refl
length-map f (x ∷ xs) = ap suc (length-map f xs)

module _ (codec : Meaning) (lists : Lists) (v o1 o2 o3 s w1 w2 w3 n1 n2 n3 : Known) (p1 p2 p3 : Result (Vec Piece Global) Stop)
    (is1 : o1 ≡ newcomer 1 v) (is2 : o2 ≡ newcomer 2 (after_split v)) (is3 : o3 ≡ newcomer 3 (after_split (after_split v)))
    (is : s ≡ after_split (after_split (after_split v))) (fresh : v.places ≡ []) (whole : IsWhole v.share)
    (e1 : Ended codec o1 w1 lists.datagrams p1) (e2 : Ended codec o2 w2 lists.ticks p2)
    (e3 : Ended codec o3 w3 lists.pulls p3) (j1 : Joined s w1 n1) (j2 : Joined n1 w2 n2) (j3 : Joined n2 w3 n3)
    (seat1 : IsSeat w1) (seat2 : IsSeat n2) where
  fresh-s : s.places ≡ []
  fresh-s = ap (λ (k : Known). k.places) is ∙ fresh

  shares : n3.share ≡ added (added (added (halved (halved (halved v.share))) (halved v.share)) (halved (halved v.share)))
      (halved (halved (halved v.share)))
  shares = share-three s w1 w2 w3 n1 n2 n3 fresh-s j1 j2 j3
      ∙ (λ t. added (added (added (ap (λ (k : Known). k.share) is t)
      ((e1.ran.same.share ∙ ap (λ (k : Known). k.share) is1) t))
      ((e2.ran.same.share ∙ ap (λ (k : Known). k.share) is2) t))
      ((e3.ran.same.share ∙ ap (λ (k : Known). k.share) is3) t))

  pub end-whole : IsWhole n3.share
  end-whole = subst IsWhole (sym shares) (whole-again v.share whole)

  pub end-places : n3.places ≡ counted_from 0 (length n3.seen)
  end-places = j3.whole end-whole

  pub end-setup : (n3.setup ≡ v.setup) × (n3.actor ≡ v.actor)
  end-setup = (
    ap (λ (k : Known). k.setup) j3.known ∙ ap (λ (k : Known). k.setup) j2.known ∙ ap (λ (k : Known). k.setup) j1.known
        ∙ ap (λ (k : Known). k.setup) is,
    ap (λ (k : Known). k.actor) j3.known ∙ ap (λ (k : Known). k.actor) j2.known ∙ ap (λ (k : Known). k.actor) j1.known
        ∙ ap (λ (k : Known). k.actor) is,
  )

  pub all-places : merged (merged w1.places w2.places) w3.places ≡ counted_from 0 (length n3.seen)
  all-places = sym (places-three s w1 w2 w3 n1 n2 n3 fresh-s j1 j2 j3) ∙ end-places

  pub rises-two : RisesFrom 0 (merged w1.places w2.places)
  rises-two = subst (RisesFrom 0) (places-two s w1 w2 w3 n1 n2 n3 fresh-s j1 j2 j3) seat2.rises

  abbrev first : Lists
  first = fronts e1.count e2.count e3.count lists

  at1 : AllZip (IsAt n3.seen) w1.places (calls_from 1 1 first.datagrams)
  at1 = ran-at n3.seen o1 w1 1 first.datagrams e1.ran (ap (λ (k : Known). k.actor) is1)
      (begins-one s w1 w2 w3 n1 n2 n3 fresh-s j1 j2 j3)

  at2 : AllZip (IsAt n3.seen) w2.places (calls_from 2 1 first.ticks)
  at2 = ran-at n3.seen o2 w2 2 first.ticks e2.ran (ap (λ (k : Known). k.actor) is2)
      (begins-two s w1 w2 w3 n1 n2 n3 fresh-s j1 j2 j3)

  at3 : AllZip (IsAt n3.seen) w3.places (calls_from 3 1 first.pulls)
  at3 = ran-at n3.seen o3 w3 3 first.pulls e3.ran (ap (λ (k : Known). k.actor) is3)
      (begins-three s w1 w2 w3 n1 n2 n3 fresh-s j1 j2 j3)

  pub end-stopped : HaveStopped lists n3
  end-stopped = record {
    datagrams = e1.count;
    ticks = e2.count;
    pulls = e3.count;
    calls = calls_in n3.seen first w1.places w2.places w3.places at1 at2 at3 seat1.rises rises-two all-places;
    order = interleaved n3.seen first w1.places w2.places w3.places at1 at2 at3 seat1.rises rises-two all-places;
    seen = seen-calls n3.seen first w1.places w2.places w3.places at1 at2 at3 seat1.rises rises-two all-places;
  }

  -- the calls that were done are all that the seat has seen
  counts : length n3.seen ≡ e1.count + e2.count + e3.count
  counts = omega (
    arith,
    ap length all-places,
    length-counted 0 (length n3.seen),
    length-merged (merged w1.places w2.places) w3.places,
    length-merged w1.places w2.places,
    ran-length o1 w1 first.datagrams e1.ran,
    ran-length o2 w2 first.ticks e2.ran,
    ran-length o3 w3 first.pulls e3.ran,
    length-take e1.count lists.datagrams e1.few,
    length-take e2.count lists.ticks e2.few,
    length-take e3.count lists.pulls e3.few,
  )

  module _ (room : length lists.datagrams + length lists.ticks + length lists.pulls ≤ v.setup.room) where
    pub never-full1 : p1 ≢ Err Full
    never-full1 full = let met = e1.full full in
        omega (
          arith,
          counts,
          met.0,
          met.1,
          room,
          e2.few,
          e3.few,
          ap (λ (k : Known). k.setup.room) is1,
          begins-length n3.seen w1.seen (begins-one s w1 w2 w3 n1 n2 n3 fresh-s j1 j2 j3),
        )

    pub never-full2 : p2 ≢ Err Full
    never-full2 full = let met = e2.full full in
        omega (
          arith,
          counts,
          met.0,
          met.1,
          room,
          e1.few,
          e3.few,
          ap (λ (k : Known). k.setup.room) is2,
          begins-length n3.seen w2.seen (begins-two s w1 w2 w3 n1 n2 n3 fresh-s j1 j2 j3),
        )

    pub never-full3 : p3 ≢ Err Full
    never-full3 full = let met = e3.full full in
        omega (
          arith,
          counts,
          met.0,
          met.1,
          room,
          e1.few,
          e2.few,
          ap (λ (k : Known). k.setup.room) is3,
          begins-length n3.seen w3.seen (begins-three s w1 w2 w3 n1 n2 n3 fresh-s j1 j2 j3),
        )

  module _ (k1 k2 k3 : Vec Piece Global)
      (kept1 : Kept codec o1 w1 lists.datagrams k1.items) (kept2 : Kept codec o2 w2 lists.ticks k2.items)
      (kept3 : Kept codec o3 w3 lists.pulls k3.items) where
    abbrev settings : Settings
    settings = n3.setup.settings

    pub whole1 : AllZip (IsAt n3.seen) w1.places (calls_from 1 1 lists.datagrams)
    whole1 = ran-at n3.seen o1 w1 1 lists.datagrams kept1.ran (ap (λ (k : Known). k.actor) is1)
        (begins-one s w1 w2 w3 n1 n2 n3 fresh-s j1 j2 j3)

    pub whole2 : AllZip (IsAt n3.seen) w2.places (calls_from 2 1 lists.ticks)
    whole2 = ran-at n3.seen o2 w2 2 lists.ticks kept2.ran (ap (λ (k : Known). k.actor) is2)
        (begins-two s w1 w2 w3 n1 n2 n3 fresh-s j1 j2 j3)

    pub whole3 : AllZip (IsAt n3.seen) w3.places (calls_from 3 1 lists.pulls)
    whole3 = ran-at n3.seen o3 w3 3 lists.pulls kept3.ran (ap (λ (k : Known). k.actor) is3)
        (begins-three s w1 w2 w3 n1 n2 n3 fresh-s j1 j2 j3)

    abbrev pub end-calls : List Call
    end-calls = calls_in n3.seen lists w1.places w2.places w3.places whole1 whole2 whole3 seat1.rises rises-two all-places

    seen-end : n3.seen ≡ map (λ (call : Call). call.1) end-calls
    seen-end = seen-calls n3.seen lists w1.places w2.places w3.places whole1 whole2 whole3 seat1.rises rises-two all-places

    abbrev pub end-texts : List (ℕ × List ℕ)
    end-texts = texts_from settings codec [] end-calls

    right1 : Each (IsRight end-texts) k1.items
    right1 = pieces-right settings codec n3.seen end-calls seen-end k1.items (calls_from 1 1 lists.datagrams)
        (kept-at codec n3.seen settings o1 w1 1 lists.datagrams k1.items kept1
        (ap (λ (k : Known). k.setup.settings) is1 ∙ ap (λ z. z.settings) (sym end-setup.0))
        (ap (λ (k : Known). k.actor) is1) (begins-one s w1 w2 w3 n1 n2 n3 fresh-s j1 j2 j3))
        (subst (λ ps. Each (λ (item : ℕ × Call). slice_get end-calls item.0 ≡ Some item.1) (zip ps (calls_from 1 1 lists.datagrams)))
        (sym kept1.places)
        (indexed-one n3.seen lists w1.places w2.places w3.places whole1 whole2 whole3 seat1.rises rises-two all-places))

    right2 : Each (IsRight end-texts) k2.items
    right2 = pieces-right settings codec n3.seen end-calls seen-end k2.items (calls_from 2 1 lists.ticks)
        (kept-at codec n3.seen settings o2 w2 2 lists.ticks k2.items kept2
        (ap (λ (k : Known). k.setup.settings) is2 ∙ ap (λ z. z.settings) (sym end-setup.0))
        (ap (λ (k : Known). k.actor) is2) (begins-two s w1 w2 w3 n1 n2 n3 fresh-s j1 j2 j3))
        (subst (λ ps. Each (λ (item : ℕ × Call). slice_get end-calls item.0 ≡ Some item.1) (zip ps (calls_from 2 1 lists.ticks)))
        (sym kept2.places)
        (indexed-two n3.seen lists w1.places w2.places w3.places whole1 whole2 whole3 seat1.rises rises-two all-places))

    right3 : Each (IsRight end-texts) k3.items
    right3 = pieces-right settings codec n3.seen end-calls seen-end k3.items (calls_from 3 1 lists.pulls)
        (kept-at codec n3.seen settings o3 w3 3 lists.pulls k3.items kept3
        (ap (λ (k : Known). k.setup.settings) is3 ∙ ap (λ z. z.settings) (sym end-setup.0))
        (ap (λ (k : Known). k.actor) is3) (begins-three s w1 w2 w3 n1 n2 n3 fresh-s j1 j2 j3))
        (subst (λ ps. Each (λ (item : ℕ × Call). slice_get end-calls item.0 ≡ Some item.1) (zip ps (calls_from 3 1 lists.pulls)))
        (sym kept3.places)
        (indexed-three n3.seen lists w1.places w2.places w3.places whole1 whole2 whole3 seat1.rises rises-two all-places))

    length-end : length end-texts ≡ length n3.seen
    length-end = omega (
      arith,
      length-texts settings codec [] end-calls,
      ap length seen-end,
      length-map (λ (call : Call). call.1) end-calls,
    )

    -- there are as many pieces as entries
    pub count-end : length k1.items + length k2.items + length k3.items ≡ length end-texts
    count-end = omega (
      arith,
      length-end,
      ap length all-places,
      length-counted 0 (length n3.seen),
      length-merged (merged w1.places w2.places) w3.places,
      length-merged w1.places w2.places,
      ap length kept1.places,
      ap length kept2.places,
      ap length kept3.places,
      length-map (λ (piece : Piece). piece.place) k1.items,
      length-map (λ (piece : Piece). piece.place) k2.items,
      length-map (λ (piece : Piece). piece.place) k3.items,
    )

    merged-end : merged (merged (places_of k1.items) (places_of k2.items)) (places_of k3.items)
        ≡ counted_from 0 (length end-texts)
    merged-end = (λ t. merged (merged (kept1.places t) (kept2.places t)) (kept3.places t)) ∙ all-places
        ∙ ap (counted_from 0) (sym length-end)

    within-end : AreWithin k1.items k2.items k3.items
    within-end = let count : ℕ = count_of k1.items k2.items k3.items in record {
      datagrams = all-within end-texts count k1.items (sym count-end) right1;
      ticks = all-within end-texts count k2.items (sym count-end) right2;
      pulls = all-within end-texts count k3.items (sym count-end) right3;
    }

    end-run : HaveRun codec lists n3 (all_placed k1.items k2.items k3.items)
    end-run = let count : ℕ = count_of k1.items k2.items k3.items in record {
      calls = end-calls;
      order = interleaved n3.seen lists w1.places w2.places w3.places whole1 whole2 whole3 seat1.rises rises-two all-places;
      seen = seen-end;
      texts = all-placed end-texts (replicate count blank) k1.items k2.items k3.items
          (length-replicate count blank ∙ count-end) right1 right2 right3 merged-end;
    }

  -- a worker that gave texts kept them all
  ok-kept : (old new : Known) (lines : List (ℕ × Event)) (p : Result (Vec Piece Global) Stop) → Ended codec old new lines p
      → (k : Vec Piece Global) → p ≡ Ok k → Kept codec old new lines k.items
  ok-kept old new lines p e k same =
      (subst (λ r. IfOk r (λ vec. (e.count ≡ length lines) × Kept codec old new lines vec.items)) same e.kept).1

  pub ended : length lists.datagrams + length lists.ticks + length lists.pulls ≤ v.setup.room
      → HaveEnded codec lists v n3 p1 p2 p3
  ended room = record {
    setup = end-setup;
    whole = end-whole;
    places = end-places;
    stopped = end-stopped;
    room = (never-full1 room, never-full2 room, never-full3 room);
    within = λ k1 k2 k3 is1' is2' is3'. within-end k1 k2 k3 (ok-kept o1 w1 lists.datagrams p1 e1 k1 is1')
        (ok-kept o2 w2 lists.ticks p2 e2 k2 is2') (ok-kept o3 w3 lists.pulls p3 e3 k3 is3');
    run = λ k1 k2 k3 is1' is2' is3'. end-run k1 k2 k3 (ok-kept o1 w1 lists.datagrams p1 e1 k1 is1')
        (ok-kept o2 w2 lists.ticks p2 e2 k2 is2') (ok-kept o3 w3 lists.pulls p3 e3 k3 is3');
  }
