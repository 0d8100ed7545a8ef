-- The front goes on, number by number.
use Rattle.std.proofs.Common.{max, ◌≡◌, ℕ, suc, ◌+◌, ◌-◌, ◌≤◌, ◌<◌, Bool, true, false, Option, Some, None, is_some, List, arith, refl, sym, ap, ◌∙◌}
use Rattle.std.specs.Option.{option_map, option_map_or}
use Rattle.std.specs.Bool.{if◌then◌else◌}
use Rattle.std.proofs.lemmas.Bool.{false≢true}
use Rattle.std.proofs.lemmas.Bool.Decides.{nat_tests}
use Rattle.vrx_num.specs.declared.limits.TheConstants.{WINDOW}
use Rattle.vrx_window.specs.Content.{content_of, contents}
use Rattle.vrx_window.specs.IsWindow.{IsWindow}
use Rattle.vrx_window.specs.Window.{Contents, at, is_available, is_inside}
use Rattle.vrx_window.specs.declared.held.Held.{Held}
use Rattle.vrx_frames.specs.Run.{Packets}
use Rattle.vrx_frames.specs.Front.{front_after, is_no_media, reach_from}

-- nothing stands under a number of which only the window could know, and doesn't
none-at : {X : Type 0} (n : ℕ) (packets : List (ℕ × X)) →
    (is_available n packets ≡ true → is_available n packets ≡ false) → at n packets ≡ None
none-at n packets never = by-cases (at n packets) never where
  by-cases : {X : Type 0} (o : Option X) → (is_some o ≡ true → is_some o ≡ false) → o ≡ None
  by-cases None never = refl
  by-cases (Some x) never = absurd (false≢true (sym (never refl)))

-- a number that isn't inside is no available number without media
pub outside : (window : Contents Held) (n : ℕ) → IsWindow window → is_inside window.newest n ≡ false
    → at n (contents window.packets) ≡ option_map content_of (at n window.packets)
    → option_map_or is_no_media (at n (contents window.packets)) false ≡ false
outside window n sound out are =
    ap (λ o. option_map_or is_no_media o false)
    (are ∙ ap (λ o. option_map content_of o)
    (none-at n window.packets (λ yes. absurd (false≢true (sym out ∙ sound.packets_inside n yes)))))

-- with no newest number, and beyond it
pub outside-none : (window : Contents Held) (n : ℕ) → window.newest ≡ None → is_inside window.newest n ≡ false
outside-none window n none = ap (λ newest. is_inside newest n) none

pub outside-some : (window : Contents Held) (n newest : ℕ) → window.newest ≡ Some newest → newest ≤ n →
    is_inside window.newest (n + 1) ≡ false
outside-some window n newest some beyond = ap (λ o. is_inside o (n + 1)) some ∙ grind (arith, nat_tests)

-- what stands under a number, as the front sees it
pub seen : (n : ℕ) (packets : List (ℕ × Held)) (o : Option Held) → at n packets ≡ o →
    at n (contents packets) ≡ option_map content_of (at n packets)
    → option_map_or is_no_media (at n (contents packets)) false ≡ option_map_or is_no_media
    (option_map content_of o) false
seen n packets o is are =
    ap (λ found. option_map_or is_no_media found false) (are ∙ ap (λ found. option_map content_of found) is)

-- one step of the front
step : (more less n : ℕ) (packets : Packets) → more ≡ suc less →
    option_map_or is_no_media (at (n + 1) packets) false ≡ true →
    reach_from less (n + 1) packets ≡ reach_from more n packets
step more less n packets e goes =
    sym (ap (λ m. reach_from m n packets) e
    ∙ ap (λ (b : Bool). if b then reach_from less (n + 1) packets else n) goes)

pub reach_from-on : (fuel counter from n : ℕ) (packets : Packets) → counter < fuel →
    reach_from (fuel - counter) n packets ≡ reach_from fuel from packets
    → option_map_or is_no_media (at (n + 1) packets) false ≡ true →
    reach_from (fuel - (counter + 1)) (n + 1) packets ≡ reach_from fuel from packets
reach_from-on fuel counter from n packets less so goes =
    step (fuel - counter) (fuel - (counter + 1)) n packets (omega arith) goes ∙ so

-- the end of the front, before a number that is no available number without media
stop : (more less n : ℕ) (packets : Packets) → more ≡ suc less →
    option_map_or is_no_media (at (n + 1) packets) false ≡ false → n ≡ reach_from more n packets
stop more less n packets e ends =
    sym (ap (λ m. reach_from m n packets) e
    ∙ ap (λ (b : Bool). if b then reach_from less (n + 1) packets else n) ends)

pub reach_from-end : (fuel counter from n : ℕ) (packets : Packets) → counter < fuel →
    reach_from (fuel - counter) n packets ≡ reach_from fuel from packets
    → option_map_or is_no_media (at (n + 1) packets) false ≡ false → n ≡ reach_from fuel from packets
reach_from-end fuel counter from n packets less so ends =
    stop (fuel - counter) (fuel - (counter + 1)) n packets (omega arith) ends ∙ so

-- the end of the front after the last step
pub reach_from-all : (fuel counter from n : ℕ) (packets : Packets) → fuel ≤ counter →
    reach_from (fuel - counter) n packets ≡ reach_from fuel from packets → n ≡ reach_from fuel from packets
reach_from-all fuel counter from n packets more so = sym (ap (λ m. reach_from m n packets) none) ∙ so where
  none : fuel - counter ≡ 0
  none = omega arith

-- the front after an event, by cases
pub front-first : (front after : Option ℕ) (last n : ℕ) (packets : Packets) → front ≡ None → after ≡ Some last →
    n ≡ reach_from WINDOW last packets → Some n ≡ front_after front after packets
front-first front after last n packets none some is =
    ap (λ m. Some m) is ∙ sym (ap (λ f. front_after f after packets) none ∙ ap (λ o. front_after None o packets) some)

pub front-on : (front after : Option ℕ) (passed last n : ℕ) (packets : Packets) → front ≡ Some passed →
    after ≡ Some last → n ≡ reach_from WINDOW (max passed last) packets → Some n ≡ front_after front after packets
front-on front after passed last n packets before some is = ap (λ m. Some m) is
    ∙ sym (ap (λ f. front_after f after packets) before ∙ ap (λ o. front_after (Some passed) o packets) some)
