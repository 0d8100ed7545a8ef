-- How many events a drill has, and their lines.
use Rattle.std.proofs.Common.{◌≡◌, ℕ, zero, suc, ◌+◌, ◌*◌, ◌%◌, ◌<◌, ◌≤◌, Bool, true, false, List, [], ◌∷◌, ◌++◌, length, map, filter, zip, if◌then◌else◌, refl, ap, sym, ◌∙◌, append_assoc, arith}
use Rattle.std.proofs.lemmas.List.{length-append, length-map}
use Rattle.rand_pcg.specs.Lcg.{Lcg}
use Rattle.vrx_rtp.specs.Packet.{Packet}
use Rattle.vrx_core.specs.declared.event.Event.{Event}
use Rattle.vrx_core.specs.declared.event.Event.TheVariants.{Datagram}
use Rattle.vrx_sender.specs.declared.draws.Fate.{Fate}
use Rattle.vrx_sender.specs.Draws.{Drawn, after, drawn, drawn_from, draws, fate, fates, generator, word}
use Rattle.vrx_sender.specs.Drill.{again_from, at_once, at_once_from, datagram, drill_events, group, groups_from, is_in_time, is_late, is_sent_again, lines_from, lost_of, with_fates}
use Rattle.vrx_sender.specs.Frames.{is_key, octets, packet_count, size_by}
use Rattle.vrx_sender.specs.Packets.{packets}
use Rattle.vrx_sender.proofs.BroughtLemmas.{length-numbered}
use Rattle.vrx_sender.proofs.honest.PlaceLemmas.{Sized}

length-fates : (n : ℕ) (g : Lcg) → length (fates n g).0 ≡ n
length-fates zero g = refl
length-fates (suc n) g = omega (arith, length-fates n (fate g).1)

by-size : (b : Bool) (u : ℕ) → packet_count (if b then 8000 + u % 4000 else 200 + u % 3000) ≤ 13
by-size true u = omega arith
by-size false u = omega arith

pub few-fates : (f : ℕ) (g : Lcg) → length (drawn f g).0.fates ≤ 13
few-fates f g = omega (arith, length-fates (packet_count (size_by f (word g))) (after g), by-size (is_key f) (word g))

zip-few : {A B : Type 0} (xs : List A) (ys : List B) → length (zip xs ys) ≤ length xs
zip-few [] ys = omega arith
zip-few (x ∷ xs) [] = omega arith
zip-few (x ∷ xs) (y ∷ ys) = omega (arith, zip-few xs ys)

filter-few : {A : Type 0} (p : A → Bool) (xs : List A) → length (filter p xs) ≤ length xs
filter-few p [] = omega arith
filter-few p (x ∷ xs) = by (p x) refl (filter-few p xs)
  where
    by : (b : Bool) → p x ≡ b → length (filter p xs) ≤ length xs → length (filter p (x ∷ xs)) ≤ length (x ∷ xs)
    by true is few = rw is (omega (arith, few))
    by false is few = rw is (omega (arith, few))

few-chosen : (has : Fate → Bool) (text : Fate × Packet → List ℕ) (ps : List (Fate × Packet)) →
    length (map text (filter (λ p. has p.0) ps)) ≤ length ps
few-chosen has text ps = omega (arith, length-map (filter (λ p. has p.0) ps) text, filter-few (λ (p : Fate × Packet). has p.0) ps)

few-at-once : (ps : List (Fate × Packet)) → length ps ≤ 13 → length (at_once ps) ≤ 26
few-at-once ps few =
    let inside : List (List ℕ) = map (λ p. datagram p.1) (filter (λ p. is_in_time p.0) ps) in
    let late : List (List ℕ) = map (λ p. datagram p.1) (filter (λ p. is_late p.0) ps) in
    omega (arith, few, length-append inside late, few-chosen is_in_time (λ p. datagram p.1) ps, few-chosen is_late (λ p. datagram p.1) ps)

-- lists of at most so many
abbrev Small : ℕ → List (List (List ℕ)) → Type 0
Small most [] = Unit {0}
Small most (x ∷ xs) = (length x ≤ most) × Small most xs

-- what is drawn for each frame has at most 13 fates
abbrev FewFates : List Drawn → Type 0
FewFates [] = Unit {0}
FewFates (d ∷ ds) = (length d.fates ≤ 13) × FewFates ds

few-drawn : (f n : ℕ) (g : Lcg) → FewFates (drawn_from f n g)
unfolding drawn_from
few-drawn f zero g = tt
few-drawn f (suc n) g = (few-fates f g, few-drawn (f + 1) n _)

pub length-drawn : (f n : ℕ) (g : Lcg) → length (drawn_from f n g) ≡ n
unfolding drawn_from
length-drawn f zero g = refl
length-drawn f (suc n) g = omega (arith, length-drawn (f + 1) n (drawn f g).1)

few-with : (f i : ℕ) (d : Drawn) → length d.fates ≤ 13 → length (with_fates f i d) ≤ 13
few-with f i d few = omega (arith, few, zip-few d.fates (packets f i (octets f d.size)))

-- what comes at once, and three groups of nothing
at-once-small : (f i : ℕ) (ds : List Drawn) → FewFates ds → Small 26 (at_once_from f i ds ++ [] ∷ [] ∷ [] ∷ [])
unfolding at_once_from
at-once-small f i [] few = (omega arith, (omega arith, (omega arith, tt)))
at-once-small f i (d ∷ ds) few =
    (few-at-once (with_fates f i d) (few-with f i d few.0), at-once-small (f + 1) (i + packet_count d.size) ds few.1)

again-small : (f i number : ℕ) (ds : List Drawn) → FewFates ds → Small 13 (again_from f i number ds)
unfolding again_from
again-small f i number [] few = tt
again-small f i number (d ∷ ds) few =
    let ps : List (Fate × Packet) = with_fates f i d in (
      omega (arith, length-numbered number (lost_of ps), filter-few (λ (p : Fate × Packet). is_sent_again p.0) ps, few-with f i d few.0),
      again-small (f + 1) (i + packet_count d.size) (number + length (lost_of ps)) ds few.1,
    )

length-at-once : (f i : ℕ) (ds : List Drawn) → length (at_once_from f i ds) ≡ length ds
unfolding at_once_from
length-at-once f i [] = refl
length-at-once f i (d ∷ ds) = omega (arith, length-at-once (f + 1) (i + packet_count d.size) ds)

length-group : (g : ℕ) (xs : List (List ℕ)) → length (group g xs) ≡ length xs + 3
length-group g xs = length-append (map (λ octets. Datagram (33 * g) octets) xs) _ ∙ ap (λ (n : ℕ). n + 3) (length-map xs (λ octets. Datagram (33 * g) octets))

few-groups : (g : ℕ) (once again : List (List (List ℕ))) → Small 26 once → Small 13 again →
    length (groups_from g (zip once again)) ≤ 42 * length once + 16
unfolding groups_from
few-groups g [] again few-as few-bs = omega arith
few-groups g (a ∷ once) [] few-as few-bs = omega arith
few-groups g (a ∷ once) (b ∷ again) few-as few-bs =
    omega (
      arith,
      length-append (group g (a ++ b)) (groups_from (g + 1) (zip once again)),
      length-group g (a ++ b),
      length-append a b,
      few-as.0,
      few-bs.0,
      few-groups (g + 1) once again few-as.1 few-bs.1,
    )

pub few-events : (seed frames : ℕ) → frames ≤ 10000 → length (drill_events seed frames) < 1048576
few-events seed frames few =
    let ds : List Drawn = draws seed frames in
    let size : length ds ≡ frames = length-drawn 0 frames (generator seed) in
    let fates-few : FewFates ds = few-drawn 0 frames (generator seed) in
    omega (
      arith,
      few,
      size,
      length-at-once 0 0 ds,
      length-append (at_once_from 0 0 ds) ([] ∷ [] ∷ [] ∷ []),
      few-groups 0 (at_once_from 0 0 ds ++ [] ∷ [] ∷ [] ∷ []) ([] ∷ [] ∷ [] ∷ again_from 0 0 0 ds) (at-once-small 0 0 ds fates-few)
          (omega arith, (omega arith, (omega arith, again-small 0 0 0 ds fates-few))),
    )

-- one line more
pub lines-on : (lines pushed whole : List (ℕ × Event)) (k : ℕ) (event : Event) (all events : List Event) →
    all ≡ event ∷ events → pushed ≡ lines ++ (k, event) ∷ [] → lines ++ lines_from k all ≡ whole →
    pushed ++ lines_from (k + 1) events ≡ whole
lines-on lines pushed whole k event all events is put before =
    ap (λ (ls : List (ℕ × Event)). ls ++ lines_from (k + 1) events) put
    ∙ append_assoc lines ((k, event) ∷ []) (lines_from (k + 1) events)
    ∙ ap (λ (es : List Event). lines ++ lines_from k es) (sym is) ∙ before

-- ---- the sizes that are drawn

sizes : (b : Bool) (u : ℕ) → (0 < (if b then 8000 + u % 4000 else 200 + u % 3000)) × ((if b then 8000 + u % 4000 else 200 + u % 3000) < 12000)
sizes true u = (omega arith, omega arith)
sizes false u = (omega arith, omega arith)

sized-from : (f n : ℕ) (g : Lcg) → Sized (drawn_from f n g)
unfolding drawn_from
sized-from f zero g = tt
sized-from f (suc n) g = (sizes (is_key f) (word g), sized-from (f + 1) n (drawn f g).1)

pub sized-draws : (seed frames : ℕ) → Sized (draws seed frames)
sized-draws seed frames = sized-from 0 frames (generator seed)
