-- The events of a drill, group after group.
use Rattle.std.proofs.Common.{◌≡◌, ℕ, zero, suc, ◌+◌, ◌-◌, ◌*◌, ◌<◌, ◌≤◌, List, [], ◌∷◌, ◌++◌, length, map, replicate, zip, refl, ap, sym, ◌∙◌, subst, arith}
use Rattle.std.proofs.lemmas.List.{map-append}
use Rattle.rand_pcg.specs.Lcg.{Lcg}
use Rattle.vrx_rtp.specs.Packet.{Packet}
use Rattle.vrx_core.specs.declared.event.Event.{Event}
use Rattle.vrx_core.specs.declared.event.Event.TheVariants.{Datagram, Pull}
use Rattle.vrx_sender.specs.declared.brought.Brought.{Brought}
use Rattle.vrx_sender.specs.declared.draws.Fate.{Fate}
use Rattle.vrx_sender.specs.declared.drill.Stage.{Stage}
use Rattle.vrx_sender.specs.Draws.{Drawn, drawn, drawn_from, generator}
use Rattle.vrx_sender.specs.Drill.{again_from, at_once, at_once_from, drill_events, group, groups_from, is_in_time, lost_of, numbered, with_fates}
use Rattle.vrx_sender.specs.Frames.{octets, packet_count}
use Rattle.vrx_sender.specs.Packets.{packets}
use Rattle.vrx_sender.specs.Made.{GoesOn, IsUnderWay, Sends, datagrams, group_without, next_drawn, still}

-- a group, whose datagrams were put one kind after the other
group-is : (g moment : ℕ) (xs ys zs : List (List ℕ)) → moment ≡ 33 * g →
    (([] ++ map (λ octets. Datagram moment octets) xs) ++ map (λ octets. Datagram moment octets) ys)
    ++ map (λ octets. Datagram moment octets) zs ++ group_without moment ≡ group g ((xs ++ ys) ++ zs)
group-is g moment xs ys zs is = rw is
    (sym (ap (λ (es : List Event). es ++ group_without (33 * g))
    (map-append (λ octets. Datagram (33 * g) octets) (xs ++ ys) zs
    ∙ ap (λ (es : List Event). es ++ map (λ octets. Datagram (33 * g) octets) zs) (map-append (λ octets. Datagram (33 * g) octets) xs ys))))

-- the next frame's group is the first of those that are still to come
module _ (g n later i r : ℕ) (draws : Lcg) (a b c : List (List ℕ)) where
  abbrev d : Drawn
  d = (drawn g draws).0

  abbrev next : Lcg
  next = (drawn g draws).1

  abbrev lost : List (Fate × Packet)
  lost = lost_of (with_fates g i d)

  pub frame-first : (frames : ℕ) → frames ≡ suc n →
      groups_from g (zip (at_once_from g i (drawn_from g frames draws) ++ replicate later [])
      (a ∷ b ∷ c ∷ again_from g i r (drawn_from g frames draws)))
      ≡ group g (at_once (with_fates g i d) ++ a)
      ++ groups_from (g + 1) (zip (at_once_from (g + 1) (i + packet_count d.size) (drawn_from (g + 1) n next) ++ replicate later [])
      (b ∷ c ∷ numbered r lost ∷ again_from (g + 1) (i + packet_count d.size) (r + length lost) (drawn_from (g + 1) n next)))
  unfolding drawn_from at_once_from again_from groups_from
  frame-first frames is = rw is refl

-- a group after the last frame's is, too
pub later-first : (g later i r : ℕ) (draws : Lcg) (a b c : List (List ℕ)) → 0 < later → later ≤ 3 →
    groups_from g (zip (at_once_from g i (drawn_from g 0 draws) ++ replicate later [])
    (a ∷ b ∷ c ∷ again_from g i r (drawn_from g 0 draws)))
    ≡ group g a ++ groups_from (g + 1) (zip (at_once_from (g + 1) i (drawn_from (g + 1) 0 draws) ++ replicate (later - 1) [])
    (b ∷ c ∷ [] ∷ again_from (g + 1) i r (drawn_from (g + 1) 0 draws)))
unfolding drawn_from at_once_from again_from groups_from
later-first g zero i r draws a b c some few = absurd (omega arith)
later-first g (suc zero) i r draws a b c some few = refl
later-first g (suc (suc zero)) i r draws a b c some few = refl
later-first g (suc (suc (suc zero))) i r draws a b c some few = refl
later-first g (suc (suc (suc (suc later)))) i r draws a b c some few = absurd (omega arith)

pub pulls-last : (g i r : ℕ) (draws : Lcg) (a b c : List (List ℕ)) →
    groups_from g (zip (at_once_from g i (drawn_from g 0 draws) ++ replicate 0 [])
    (a ∷ b ∷ c ∷ again_from g i r (drawn_from g 0 draws))) ≡ replicate 16 (Pull (33 * g))
unfolding drawn_from at_once_from again_from groups_from
pulls-last g i r draws a b c = refl

-- ---- stages

abbrev still_of : (g n later i r : ℕ) → Lcg → (a b c : List (List ℕ)) → List Event
still_of g n later i r draws a b c = groups_from g (zip (at_once_from g i (drawn_from g n draws) ++ replicate later [])
    (a ∷ b ∷ c ∷ again_from g i r (drawn_from g n draws)))

still-same : (s : Stage) (g n later i r : ℕ) (draws : Lcg) (a b c : List (List ℕ)) → s.group ≡ g → s.frames ≡ n →
    s.later ≡ later → s.packets ≡ i → s.resent ≡ r → s.draws ≡ draws → s.oldest.items ≡ a → s.middle.items ≡ b →
    s.newest.items ≡ c → still s ≡ still_of g n later i r draws a b c
still-same s g n later i r draws a b c g-is n-is later-is i-is r-is draws-are a-is b-is c-is =
    ap (λ (x : ℕ). still_of x s.frames s.later s.packets s.resent s.draws s.oldest.items s.middle.items s.newest.items) g-is
    ∙ ap (λ (x : ℕ). still_of g x s.later s.packets s.resent s.draws s.oldest.items s.middle.items s.newest.items) n-is
    ∙ ap (λ (x : ℕ). still_of g n x s.packets s.resent s.draws s.oldest.items s.middle.items s.newest.items) later-is
    ∙ ap (λ (x : ℕ). still_of g n later x s.resent s.draws s.oldest.items s.middle.items s.newest.items) i-is
    ∙ ap (λ (x : ℕ). still_of g n later i x s.draws s.oldest.items s.middle.items s.newest.items) r-is
    ∙ ap (λ (x : Lcg). still_of g n later i r x s.oldest.items s.middle.items s.newest.items) draws-are
    ∙ ap (λ (x : List (List ℕ)). still_of g n later i r draws x s.middle.items s.newest.items) a-is
    ∙ ap (λ (x : List (List ℕ)). still_of g n later i r draws a x s.newest.items) b-is
    ∙ ap (λ (x : List (List ℕ)). still_of g n later i r draws a b x) c-is

some-group : (g : ℕ) (xs : List (List ℕ)) → 0 < length (group g xs)
some-group g [] = omega arith
some-group g (x ∷ xs) = omega arith

-- the next frame was sent, and its group was given
pub frame-goes-on : (old mid new : Stage) (brought : Brought) (events : List Event) (moment : ℕ) →
    IsUnderWay old → 0 < old.frames → Sends old brought mid → moment ≡ 33 * old.group →
    events ≡ (([] ++ map (λ octets. Datagram moment octets) brought.in_time.items)
    ++ map (λ octets. Datagram moment octets) brought.late.items)
    ++ map (λ octets. Datagram moment octets) old.oldest.items ++ group_without moment →
    new.group ≡ old.group + 1 → new.frames ≡ old.frames - 1 → new.later ≡ old.later → new.packets ≡ mid.packets →
    new.resent ≡ mid.resent → new.draws ≡ mid.draws → new.oldest ≡ old.middle → new.middle ≡ old.newest →
    new.newest ≡ brought.again → GoesOn old events new
frame-goes-on old mid new brought events moment way some sends moment-is are g-is n-is later-is i-is r-is draws-are a-is b-is c-is =
    let ps : List (Fate × Packet) = with_fates old.group old.packets (next_drawn old).0 in
    let lost : List (Fate × Packet) = lost_of ps in
    let d : Drawn = (next_drawn old).0 in
    let its : List Event = group old.group (at_once ps ++ old.oldest.items) in
    let events-are : events ≡ its =
    are ∙ group-is old.group moment brought.in_time.items brought.late.items old.oldest.items moment-is
    ∙ ap (λ (xs : List (List ℕ)). group old.group ((xs ++ brought.late.items) ++ old.oldest.items)) sends.in_time
    ∙ ap (λ (xs : List (List ℕ)). group old.group ((datagrams is_in_time ps ++ xs) ++ old.oldest.items)) sends.late in
    let after : still new ≡ still_of (old.group + 1) (old.frames - 1) old.later (old.packets + packet_count d.size)
    (old.resent + length lost) (next_drawn old).1 old.middle.items old.newest.items (numbered old.resent lost) =
    still-same new _ _ _ _ _ _ _ _ _ g-is n-is later-is (i-is ∙ sends.packets) (r-is ∙ sends.resent)
    (draws-are ∙ ap (λ (s : Stage). s.draws) sends.stage) (ap (λ v. v.items) a-is) (ap (λ v. v.items) b-is)
    (ap (λ v. v.items) c-is ∙ sends.again) in
    record {
      are = frame-first old.group (old.frames - 1) old.later old.packets old.resent old.draws old.oldest.items
          old.middle.items old.newest.items old.frames (omega arith)
          ∙ ap (λ (es : List Event). es ++ still_of (old.group + 1) (old.frames - 1) old.later (old.packets + packet_count d.size)
          (old.resent + length lost) (next_drawn old).1 old.middle.items old.newest.items (numbered old.resent lost)) (sym events-are)
          ∙ ap (λ (es : List Event). events ++ es) (sym after);
      some = subst (λ (es : List Event). 0 < length es) (sym events-are) (some-group old.group (at_once ps ++ old.oldest.items));
      under_way = record {
        groups = omega (arith, way.groups, g-is, n-is, later-is);
        few = omega (arith, way.few, later-is);
        later = λ more. later-is ∙ way.later some;
        packets = omega (arith, way.packets, g-is, i-is, sends.few.0);
        resent = omega (arith, way.resent, g-is, r-is, sends.few.1);
      };
    }

-- a group after the last frame's was given
pub later-goes-on : (old new : Stage) (events : List Event) (moment : ℕ) →
    IsUnderWay old → old.frames ≡ 0 → 0 < old.later → moment ≡ 33 * old.group →
    events ≡ [] ++ map (λ octets. Datagram moment octets) old.oldest.items ++ group_without moment →
    new.group ≡ old.group + 1 → new.frames ≡ old.frames → new.later ≡ old.later - 1 → new.packets ≡ old.packets →
    new.resent ≡ old.resent → new.draws ≡ old.draws → new.oldest ≡ old.middle → new.middle ≡ old.newest →
    new.newest.items ≡ [] → GoesOn old events new
later-goes-on old new events moment way none some moment-is are g-is n-is later-is i-is r-is draws-are a-is b-is c-is =
    let events-are : events ≡ group old.group old.oldest.items = are ∙ rw moment-is refl in
    let after : still new ≡ still_of (old.group + 1) 0 (old.later - 1) old.packets old.resent old.draws
    old.middle.items old.newest.items [] =
    still-same new _ _ _ _ _ _ _ _ _ g-is (n-is ∙ none) later-is i-is r-is draws-are
    (ap (λ v. v.items) a-is) (ap (λ v. v.items) b-is) c-is in
    record {
      are = ap (λ (n : ℕ). still_of old.group n old.later old.packets old.resent old.draws old.oldest.items old.middle.items old.newest.items) none
          ∙ later-first old.group old.later old.packets old.resent old.draws old.oldest.items
          old.middle.items old.newest.items some way.few
          ∙ ap (λ (es : List Event). es ++ still_of (old.group + 1) 0 (old.later - 1) old.packets old.resent old.draws
          old.middle.items old.newest.items []) (sym events-are)
          ∙ ap (λ (es : List Event). events ++ es) (sym after);
      some = subst (λ (es : List Event). 0 < length es) (sym events-are) (some-group old.group old.oldest.items);
      under_way = record {
        groups = omega (arith, way.groups, g-is, n-is, later-is);
        few = omega (arith, way.few, later-is);
        later = λ more. absurd (omega (arith, n-is, none));
        packets = omega (arith, way.packets, g-is, i-is);
        resent = omega (arith, way.resent, g-is, r-is);
      };
    }

-- at the end come pulls
pub still-pulls : (s : Stage) → s.frames ≡ 0 → s.later ≡ 0 → still s ≡ replicate 16 (Pull (33 * s.group))
still-pulls s none later =
    ap (λ (n : ℕ). still_of s.group n s.later s.packets s.resent s.draws s.oldest.items s.middle.items s.newest.items) none
    ∙ ap (λ (n : ℕ). still_of s.group 0 n s.packets s.resent s.draws s.oldest.items s.middle.items s.newest.items) later
    ∙ pulls-last s.group s.packets s.resent s.draws s.oldest.items s.middle.items s.newest.items

-- datagrams of three kinds, a tick and two pulls were put one after the other
pub put-all : (moment : ℕ) (none first second third all : List Event) (xs ys zs ws : List (List ℕ)) → none ≡ [] →
    first ≡ none ++ map (λ octets. Datagram moment octets) xs →
    second ≡ first ++ map (λ octets. Datagram moment octets) ys →
    third ≡ second ++ map (λ octets. Datagram moment octets) zs → zs ≡ ws → all ≡ third ++ group_without moment →
    all ≡ (([] ++ map (λ octets. Datagram moment octets) xs) ++ map (λ octets. Datagram moment octets) ys)
    ++ map (λ octets. Datagram moment octets) ws ++ group_without moment
put-all moment none first second third all xs ys zs ws none-is first-is second-is third-is same all-is =
    all-is ∙ ap (λ (es : List Event). es ++ group_without moment) (third-is
    ∙ ap (λ (vs : List (List ℕ)). second ++ map (λ octets. Datagram moment octets) vs) same
    ∙ ap (λ (es : List Event). es ++ map (λ octets. Datagram moment octets) ws) (second-is
    ∙ ap (λ (es : List Event). es ++ map (λ octets. Datagram moment octets) ys) (first-is
    ∙ ap (λ (es : List Event). es ++ map (λ octets. Datagram moment octets) xs) none-is)))

-- what is sent are the packets of the frame that was drawn, with their fates
pub with-is : (g i : ℕ) (draws left : Lcg) (d : Drawn) (fates : List Fate) (ps : List Packet) (bytes : List ℕ) →
    (d, left) ≡ drawn g draws → fates ≡ d.fates → ps ≡ packets g i bytes → bytes ≡ octets g d.size →
    zip fates ps ≡ with_fates g i (drawn g draws).0
with-is g i draws left d fates ps bytes is fates-are ps-are bytes-are =
    ap (λ (x : List Fate). zip x ps) fates-are ∙ ap (λ (x : List Packet). zip d.fates x) ps-are
    ∙ ap (λ (x : List ℕ). zip d.fates (packets g i x)) bytes-are ∙ ap (λ (x : Drawn × Lcg). with_fates g i x.0) is

pub put-one : (moment : ℕ) (none first all : List Event) (xs ys : List (List ℕ)) → none ≡ [] →
    first ≡ none ++ map (λ octets. Datagram moment octets) xs → xs ≡ ys → all ≡ first ++ group_without moment →
    all ≡ [] ++ map (λ octets. Datagram moment octets) ys ++ group_without moment
put-one moment none first all xs ys none-is first-is same all-is =
    all-is ∙ ap (λ (es : List Event). es ++ group_without moment) (first-is
    ∙ ap (λ (es : List Event). es ++ map (λ octets. Datagram moment octets) xs) none-is
    ∙ ap (λ (vs : List (List ℕ)). [] ++ map (λ octets. Datagram moment octets) vs) same)

-- a new drill has all its events to come
pub new-is : (ready : List Event) (g : Lcg) (a b c : List (List ℕ)) (seed frames : ℕ) → ready ≡ [] →
    g ≡ generator seed → a ≡ [] → b ≡ [] → c ≡ [] → ready ++ still_of 0 frames 3 0 0 g a b c ≡ drill_events seed frames
new-is ready g a b c seed frames ready-is g-is a-is b-is c-is =
    ap (λ (es : List Event). es ++ still_of 0 frames 3 0 0 g a b c) ready-is
    ∙ ap (λ (x : Lcg). still_of 0 frames 3 0 0 x a b c) g-is
    ∙ ap (λ (x : List (List ℕ)). still_of 0 frames 3 0 0 (generator seed) x b c) a-is
    ∙ ap (λ (x : List (List ℕ)). still_of 0 frames 3 0 0 (generator seed) [] x c) b-is
    ∙ ap (λ (x : List (List ℕ)). still_of 0 frames 3 0 0 (generator seed) [] [] x) c-is
