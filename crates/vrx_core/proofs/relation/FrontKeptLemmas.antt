-- The front keeps what always holds of it.
use Rattle.std.proofs.Common.{◌≡◌, ℕ, ◌+◌, ◌<◌, ◌≤◌, ◌⊎◌, max, Bool, true, Option, Some, None, is_some, IfSome, IsSomeAnd, refl, sym, ◌∙◌, ap, subst, arith, inl, inr}
use Rattle.std.proofs.lemmas.Bool.{cases_lt, true≢false}
use Rattle.vrx_num.specs.declared.limits.TheConstants.{WINDOW}
use Rattle.vrx_codec.specs.Meaning.{Meaning}
use Rattle.vrx_codec.specs.declared.run.Place.{Place}
use Rattle.vrx_window.specs.Content.{Content}
use Rattle.vrx_window.specs.Window.{at, in_window, is_available, is_inside}
use Rattle.vrx_frames.specs.Completed.{IsUpTo}
use Rattle.vrx_frames.specs.Front.{front_after, is_no_media}
use Rattle.vrx_frames.specs.IsRun.{IsRunBy}
use Rattle.vrx_frames.specs.Run.{Packets, Piece, Run, stands}
use Rattle.vrx_core.specs.relation.StandsFor.{Assembly}
use Rattle.vrx_core.specs.inside.Step.{IsFront, packets_of}
use Rattle.vrx_core.proofs.relation.RunMoveLemmas.{run-available, stands-beyond}
use Rattle.vrx_core.proofs.relation.FrontLemmas.{GoesOn, front-first, front-next, over-available}
use Rattle.vrx_core.proofs.relation.WindowLemmas.{inside-order, order-window, window-order}
use Rattle.vrx_core.proofs.relation.GrowLemmas.{Grows}

-- what always holds of a front, beside the last number pulled, the newest number and the packets
pub record IsFrontOf (last front newest : Option ℕ) (packets : Packets) : Type 0 where
  pub both : is_some front ≡ is_some last
  pub ahead : IsUpTo last front
  pub within : IsUpTo front newest
  pub over : (n : ℕ) → IfSome last (λ last. last < n) → IsSomeAnd front (λ front. n ≤ front) →
      is_inside newest n ≡ true → IsSomeAnd (at n packets) (λ content. is_no_media content ≡ true)

-- it is what holds of the parts
pub front-of : (parts : Assembly) → IsFront parts →
    IsFrontOf parts.last_pulled parts.front parts.window.newest (packets_of parts)
front-of parts front = record { both = front.both; ahead = front.ahead; within = front.within; over = front.over }

-- and back
pub of-front : (parts : Assembly) → IsFrontOf parts.last_pulled parts.front parts.window.newest (packets_of parts) →
    IsFront parts
of-front parts front = record { both = front.both; ahead = front.ahead; within = front.within; over = front.over }

-- a front that goes on from a number isn't below it
pub goes-upto : (packets : Packets) (from : ℕ) (after : Option ℕ) → GoesOn packets from after → (o : Option ℕ) →
    IsUpTo o (Some from) → IsUpTo o after
goes-upto packets from after g None up = tt
goes-upto packets from after g (Some old) up =
    subst (λ (o : Option ℕ). IsSomeAnd o (λ n. old ≤ n)) (sym g.front_is)
    (let less : from ≤ g.front = g.upto in omega (arith, up))

-- a number that isn't above a second isn't above a third that isn't below the second
pub upto-trans : (a b c : Option ℕ) → IsUpTo a b → IsUpTo b c → IsUpTo a c
upto-trans None b c ab bc = tt
upto-trans (Some x) None c ab bc = absurd ab
upto-trans (Some x) (Some y) None ab bc = absurd bc
upto-trans (Some x) (Some y) (Some z) ab bc = omega (arith, ab, bc)

module _ (packets : Packets) (newest : Option ℕ)
    (inside : (m : ℕ) → is_available m packets ≡ true → is_inside newest m ≡ true) where
  -- what is available isn't above the newest number
  available-upto : (m : ℕ) → is_available m packets ≡ true → IsSomeAnd newest (λ k. m ≤ k)
  available-upto m there = by newest (inside-order newest m (inside m there)) where
    by : (o : Option ℕ) → IsSomeAnd o (λ k. (k < m + WINDOW) × (m ≤ k)) → IsSomeAnd o (λ k. m ≤ k)
    by None h = absurd h
    by (Some k) h = h.1

  -- a front that goes on from a number that isn't above the newest isn't either
  goes-within : (from : ℕ) (after : Option ℕ) → GoesOn packets from after → IsSomeAnd newest (λ k. from ≤ k) →
      IsUpTo after newest
  goes-within from after g low =
      subst (λ (o : Option ℕ). IsUpTo o newest) (sym g.front_is) (elim (cases_lt from g.front) [
        | inl less ↦ available-upto g.front (over-available g.front packets (g.over g.front less (omega arith)))
        | inr upto ↦ by newest low upto
      ]) where
        by : (o : Option ℕ) → IsSomeAnd o (λ k. from ≤ k) → g.front ≤ from → IsSomeAnd o (λ k. g.front ≤ k)
        by None h upto = absurd h
        by (Some k) h upto = omega (arith, h, upto)

  -- a number up to the front, by the front itself
  goes-some : (from : ℕ) (after : Option ℕ) (n : ℕ) → (g : GoesOn packets from after) →
      IsSomeAnd after (λ front. n ≤ front) → n ≤ g.front
  goes-some from after n g upto = subst (λ (o : Option ℕ). IsSomeAnd o (λ front. n ≤ front)) g.front_is upto

  -- after a run was handed out
  pub front-pulled : (codec : Meaning) (place : ℕ → Option Place) (starts : Piece → Bool) (front : Option ℕ)
      (run : Run) → IsRunBy codec place starts packets run → stands front run ≡ true
      → GoesOn packets run.last (front_after front (Some run.last) packets)
  front-pulled codec place starts None run r s = front-first packets run.last
  front-pulled codec place starts (Some old) run r s =
      let less : old < run.first = stands-beyond old run s in let within : run.first ≤ run.last = r.not_empty in
      let same : max old run.last ≡ run.last = omega arith in
      subst (λ k. GoesOn packets k (front_after (Some old) (Some run.last) packets)) same
      (front-next packets old run.last)

  -- and the front keeps what holds of it
  pub front-kept : (codec : Meaning) (place : ℕ → Option Place) (starts : Piece → Bool) (front : Option ℕ)
      (run : Run) → IsRunBy codec place starts packets run → stands front run ≡ true
      → IsFrontOf (Some run.last) (front_after front (Some run.last) packets) newest packets
  front-kept codec place starts front run r s = record {
    both = ap is_some g.front_is;
    ahead = goes-upto packets run.last (front_after front (Some run.last) packets) g (Some run.last) (omega arith);
    within = goes-within run.last (front_after front (Some run.last) packets) g
        (available-upto run.last
        (run-available codec place starts packets run run.last r r.not_empty (omega arith)));
    over = λ n later upto in_window.
        g.over n later (goes-some run.last (front_after front (Some run.last) packets) n g upto);
  } where
    g : GoesOn packets run.last (front_after front (Some run.last) packets)
    g = front-pulled codec place starts front run r s

module _ (packets now : Packets) (newest : Option ℕ) (top : ℕ) (grows : Grows packets now newest top) where
  -- a number that was no media is it still, if it is in the window
  no-media-stays : (m : ℕ) → IsSomeAnd (at m packets) (λ content. is_no_media content ≡ true) →
      in_window top m ≡ true → IsSomeAnd (at m now) (λ content. is_no_media content ≡ true)
  no-media-stays m h in_new =
      subst (λ (o : Option Content). IsSomeAnd o (λ content. is_no_media content ≡ true))
      (sym (grows.stays m (over-available m packets h) in_new)) h

  -- a number of the new window that isn't above the old newest number was in the old window
  old-inside : (m f : ℕ) (o : Option ℕ) → IsUpTo o (Some top) → IsSomeAnd o (λ k. f ≤ k) → m ≤ f →
      in_window top m ≡ true → is_inside o m ≡ true
  old-inside m f None up h upto in_new = absurd h
  old-inside m f (Some k) up h upto in_new = let order : (top < m + WINDOW) × (m ≤ top) =
      window-order top m in_new in order-window k m (omega (arith, order.0, up)) (omega (arith, h))

  -- a number that isn't above the newest isn't above the next newest
  some-upto : (f : ℕ) (o : Option ℕ) → IsUpTo o (Some top) → IsSomeAnd o (λ k. f ≤ k) → f ≤ top
  some-upto f None up h = absurd h
  some-upto f (Some k) up h = omega (arith, up, h)

  -- after packets came, the front goes on from where it was
  pub front-goes : (last front : Option ℕ) → IsFrontOf last front newest packets
      → ((last ≡ None) × (front ≡ None)) ⊎ ((f : ℕ) × (front ≡ Some f) × GoesOn now f (front_after front last now))
  front-goes None None is = inl (refl, refl)
  front-goes None (Some f) is = absurd (true≢false is.both)
  front-goes (Some l) None is = absurd (true≢false (sym is.both))
  front-goes (Some l) (Some f) is =
      let low : l ≤ f = is.ahead in let same : max f l ≡ f = omega arith in
      inr (f, refl, subst (λ k. GoesOn now k (front_after (Some f) (Some l) now)) same (front-next now f l))

  -- and keeps what holds of it
  pub front-taken : (last front : Option ℕ) → IsFrontOf last front newest packets →
      IsFrontOf last (front_after front last now) (Some top) now
  front-taken last front is = by (front-goes last front is) where
    by : ((last ≡ None) × (front ≡ None)) ⊎ ((f : ℕ) × (front ≡ Some f) × GoesOn now f (front_after front last now)) →
        IsFrontOf last (front_after front last now) (Some top) now
    by (inl none) = subst (λ (l : Option ℕ). IsFrontOf l (front_after front l now) (Some top) now) (sym none.0)
        (record { both = refl; ahead = tt; within = tt; over = λ m later upto in_new. absurd upto })
    by (inr some) = record {
      both = ap is_some g.front_is ∙ sym (ap is_some some.1) ∙ is.both;
      ahead = goes-upto now f (front_after front last now) g last
          (subst (λ (o : Option ℕ). IsUpTo last o) some.1 is.ahead);
      within = goes-within now (Some top) grows.inside f (front_after front last now) g
          (some-upto f newest grows.upto below);
      over = λ m later upto in_new. elim (cases_lt f m) [
        | inl less ↦ g.over m less
            (goes-some now (Some top) grows.inside f (front_after front last now) m g upto)
        | inr within ↦ no-media-stays m
            (is.over m later (subst (λ (o : Option ℕ). IsSomeAnd o (λ front. m ≤ front)) (sym some.1) within)
            (old-inside m f newest grows.upto below within in_new)) in_new
      ];
    } where
      f : ℕ
      f = some.0

      g : GoesOn now f (front_after front last now)
      g = some.2

      below : IsSomeAnd newest (λ k. f ≤ k)
      below = subst (λ (o : Option ℕ). IsUpTo o newest) some.1 is.within
