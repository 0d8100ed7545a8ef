-- What the fates of a window's numbers show, before and after a number is placed or given up.
use Rattle.std.proofs.Common.{◌≡◌, ℕ, true, false, cond, refl, sym, ◌∙◌, ap, arith}
use Rattle.std.specs.Prelude.{Option, Some, None, is_some}
use Rattle.std.specs.List.{filter}
use Rattle.std.specs.Option.{option_and_then, unwrap_or}
use Rattle.std.proofs.lemmas.Bool.{true≢false}
use Rattle.std.proofs.lemmas.Grind.{common_steps}
use Rattle.vrx_window.specs.declared.fate.Fate.{Fate}
use Rattle.vrx_window.specs.declared.fate.Fate.TheVariants.{Taken, GivenUp}
use Rattle.vrx_window.specs.declared.held.Held.{Held}
use Rattle.vrx_window.specs.declared.placing.Placing.{Placing}
use Rattle.vrx_window.specs.declared.placing.Placing.TheVariants.{TooOld, Dead, Repeat, Fresh}
use Rattle.vrx_window.specs.Fates.{mark_of, numbers_of, packet_of, entries_by, window_of}
use Rattle.vrx_window.specs.IsWindow.{IsWindow}
use Rattle.vrx_window.specs.Numbered.{Numbered, IsNumbered}
use Rattle.vrx_window.specs.Window.{Contents, at, after_giving_up, in_window, is_available, is_dead, is_inside, is_too_old, entries_in, newest_with, after_placing, entries_with, with_number, would_of}
use Rattle.vrx_window.proofs.EntryLemmas.{true_of}
use Rattle.vrx_window.proofs.FateLemmas.{all_left, at-entries_by, dead-numbers, few-entries_by, numbers-put, numbers-where, picked_away, picked_here, picked_inside, rising-numbers, sorted-entries_by}

none_of : {X : Type 0} (o : Option X) → is_some o ≡ false → o ≡ None
none_of None h = refl
none_of (Some x) h = absurd (true≢false h)

-- a number whose packet can be placed
pub record IsFresh {X : Type 0} (window : Contents X) (n : ℕ) : Type 0 where
  pub young : is_too_old window.newest n ≡ false
  pub alive : is_dead n window.dead ≡ false
  pub none : at n window.packets ≡ None

pub fresh_is : {X : Type 0} (window : Contents X) (n : ℕ) → would_of window n ≡ Fresh → IsFresh window n
fresh_is window n h = record {
  young = grind (arith, common_steps);
  alive = grind (arith, common_steps);
  none = grind (arith, common_steps);
}

-- what a fate says of a number that isn't too old
abbrev said_of : Option Fate → Placing
said_of None = Fresh
said_of (Some (Taken held)) = Repeat
said_of (Some GivenUp) = Dead

-- no packet is held under what was given up
unheld : (o : Option Fate) → is_some (option_and_then mark_of o) ≡ true → option_and_then packet_of o ≡ None
unheld None h = refl
unheld (Some (Taken held)) h = absurd (true≢false (sym h))
unheld (Some GivenUp) h = refl

module _ (first : Option ℕ) (ring : Numbered Fate) (is : IsNumbered ring) where
  -- the packet under a number is the one of its fate
  pub packet_at : (n : ℕ) (o : Option Fate) → at n ring.entries ≡ o
      → at n (window_of first ring).packets ≡ option_and_then packet_of o
  packet_at n o h = at-entries_by packet_of ring is n ∙ ap (option_and_then packet_of) h

  -- a number is dead if its fate is marked
  dead_at : (n : ℕ) → is_dead n (window_of first ring).dead ≡ is_some (option_and_then mark_of (at n ring.entries))
  dead_at n = dead-numbers n (entries_by mark_of ring.entries) ∙ ap is_some (at-entries_by mark_of ring is n)

  said : (o : Option Fate)
      → cond (is_some (option_and_then mark_of o)) Dead (cond (is_some (option_and_then packet_of o)) Repeat Fresh)
      ≡ said_of o
  said None = refl
  said (Some (Taken held)) = refl
  said (Some GivenUp) = refl

  -- what becomes of a number is what its fate says
  would_said : (n : ℕ) (o : Option Fate) → at n ring.entries ≡ o → is_too_old ring.newest n ≡ false
      → would_of (window_of first ring) n ≡ said_of o
  would_said n o h young =
      ap (λ b. cond b TooOld (cond (is_dead n (window_of first ring).dead) Dead
      (cond (is_available n (window_of first ring).packets) Repeat Fresh))) young
      ∙ ap (λ b. cond b Dead (cond (is_available n (window_of first ring).packets) Repeat Fresh))
      (dead_at n ∙ ap (λ p. is_some (option_and_then mark_of p)) h)
      ∙ ap (λ p. cond (is_some (option_and_then mark_of o)) Dead (cond (is_some p) Repeat Fresh)) (packet_at n o h)
      ∙ said o

  pub would_fresh : (n : ℕ) → at n ring.entries ≡ None → is_too_old ring.newest n ≡ false
      → would_of (window_of first ring) n ≡ Fresh
  would_fresh n h young = would_said n None h young

  pub would_repeat : (n : ℕ) (held : Held) → at n ring.entries ≡ Some (Taken held) → is_too_old ring.newest n ≡ false
      → would_of (window_of first ring) n ≡ Repeat
  would_repeat n held h young = would_said n (Some (Taken held)) h young

  pub would_dead : (n : ℕ) → at n ring.entries ≡ Some GivenUp → is_too_old ring.newest n ≡ false
      → would_of (window_of first ring) n ≡ Dead
  would_dead n h young = would_said n (Some GivenUp) h young

  -- what always holds of the window
  pub is_window : IsWindow (window_of first ring)
  is_window = record {
    packets_rise = true_of _ (sorted-entries_by packet_of ring is);
    dead_rise = rising-numbers _ (sorted-entries_by mark_of ring is);
    packets_inside = λ n has. picked_inside packet_of ring is n has;
    dead_inside = λ n dead. picked_inside mark_of ring is n
        (sym (dead-numbers n (entries_by mark_of ring.entries)) ∙ dead);
    apart = λ n dead. packet_at n (at n ring.entries) refl ∙ unheld (at n ring.entries) (sym (dead_at n) ∙ dead);
    few = few-entries_by packet_of ring is;
  }

  module _ (n : ℕ) (fresh : IsFresh (window_of first ring) n) where
    unmarked : at n (entries_by mark_of ring.entries) ≡ None
    unmarked = none_of _ (sym (dead-numbers n (entries_by mark_of ring.entries)) ∙ fresh.alive)

    -- a packet was placed under n
    pub shown_placed : (held : Held) (after : Numbered Fate) → IsNumbered after
        → after.newest ≡ Some (newest_with ring.newest n)
        → after.entries ≡ entries_with (newest_with ring.newest n) n (Taken held) ring.entries
        → window_of (Some (unwrap_or first n)) after ≡ after_placing n held (window_of first ring)
    shown_placed held after is_after newest entries = λ i. record {
      newest = newest i;
      first = Some (unwrap_or first n);
      packets = packets i;
      dead = dead i;
    } where
      next : ℕ
      next = newest_with ring.newest n

      packets : entries_by packet_of after.entries ≡ entries_with next n held (entries_by packet_of ring.entries)
      packets = picked_here packet_of ring after is is_after next n (Taken held) entries held refl

      dead : numbers_of (entries_by mark_of after.entries)
          ≡ filter (in_window next) (numbers_of (entries_by mark_of ring.entries))
      dead = ap numbers_of (picked_away mark_of ring after is is_after next n (Taken held) entries refl unmarked)
          ∙ numbers-where (in_window next) (entries_by mark_of ring.entries)

    -- the newest number stays if n is in the window
    same_newest : (m : Option ℕ) → is_inside m n ≡ true → m ≡ Some (newest_with m n)
    same_newest None h = absurd (true≢false (sym h))
    same_newest (Some newest) h = ap Some (grind (arith, common_steps))

    -- n was given up
    pub shown_after_giving_up : (after : Numbered Fate) → IsNumbered after → is_inside ring.newest n ≡ true
        → after.newest ≡ Some (newest_with ring.newest n)
        → after.entries ≡ entries_with (newest_with ring.newest n) n GivenUp ring.entries
        → window_of first after ≡ after_giving_up n (window_of first ring)
    shown_after_giving_up after is_after inside newest entries = λ i. record {
      newest = (newest ∙ sym stays) i;
      first = first;
      packets = packets i;
      dead = dead i;
    } where
      next : ℕ
      next = newest_with ring.newest n

      stays : ring.newest ≡ Some next
      stays = same_newest ring.newest inside

      packets : entries_by packet_of after.entries ≡ entries_by packet_of ring.entries
      packets = picked_away packet_of ring after is is_after next n GivenUp entries refl fresh.none
          ∙ all_left packet_of ring is next stays

      dead : numbers_of (entries_by mark_of after.entries) ≡ with_number n
          (numbers_of (entries_by mark_of ring.entries))
      dead = ap numbers_of (picked_here mark_of ring after is is_after next n GivenUp entries tt refl)
          ∙ numbers-put n tt (entries_in next (entries_by mark_of ring.entries))
          ∙ ap (λ marks. with_number n (numbers_of marks)) (all_left mark_of ring is next stays)
