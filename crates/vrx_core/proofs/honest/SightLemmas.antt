-- What a receiver saw and pulled of a sender's frames with layers, in the sender's terms.
use Rattle.std.proofs.Common.{◌≡◌, ◌↔◌, ℕ, ◌+◌, ◌<◌, ◌≤◌, Bool, true, false, cond, List, [], ◌∷◌, slice_get, Contains, Option, Some, None, IsSomeAnd, is_some, refl, sym, ◌∙◌, ap, subst, arith, inl, inr}
use Rattle.std.specs.Prelude.{◌&&◌, ◌==◌}
use Rattle.std.proofs.lemmas.Bool.{and_from, and_parts, eq-eqb, eqb-true, lt-ltb, or_cases, or_left, or_right, true≢false}
use Rattle.std.proofs.lemmas.Option.{none-some, same_Some}
use Rattle.vrx_codec.specs.declared.part.Layers.{Layers}
use Rattle.vrx_codec.specs.declared.run.Place.{Place}
use Rattle.vrx_codec.specs.declared.run.Run.{Run as RunSummary}
use Rattle.vrx_refs.specs.declared.limits.TheConstants.{MEMORY}
use Rattle.vrx_refs.specs.References.{base, base_by, first_of, first_tid, is_of_picture, is_placed_at, is_recent, newest_of, seen, was_pulled, was_pulled_key}
use Rattle.vrx_core.specs.machine.Told.{Told, sightings}
use Rattle.vrx_core.specs.honest.Sender.{SentFrame, Sender, IsOf}
use Rattle.vrx_core.specs.honest.Layers.{HasTid, IsKey, layers_at}
use Rattle.vrx_core.specs.honest.Ready.{IsNumber}
use Rattle.vrx_core.proofs.machine.MemberLemmas.{Contains-empty, Contains-either, Contains-head, Contains-tail}
use Rattle.vrx_core.proofs.honest.KeepsLemmas.{Came, one-place}
use Rattle.vrx_core.proofs.honest.PartLemmas.{some_from, some_holds}
use Rattle.vrx_core.proofs.honest.TellLemmas.{IsPlaceOf, TellsFrame, ToldRightly}
use Rattle.vrx_core.proofs.honest.ToldLemmas.{of-one}

-- a run is that of frame g, by its place and its kind
pub record IsPlaced (sender : Sender) (up down g : ℕ) (run : RunSummary) : Type 0 where
  pub place : Place
  pub layers : run.layers ≡ Some place
  pub place_is : IsPlaceOf sender up down g place
  pub key : (run.key ≡ true) ↔ IsKey sender.frames g

-- runs are those of these frames, by their places
abbrev pub ArePlaced : Sender → (up down : ℕ) → List ℕ → List RunSummary → Type 0
ArePlaced sender up down [] [] = Unit {0}
ArePlaced sender up down (g ∷ fs) (run ∷ pulled) =
    IsPlaced sender up down g run × ArePlaced sender up down fs pulled
ArePlaced sender up down [] (run ∷ pulled) = ⊥
ArePlaced sender up down (g ∷ fs) [] = ⊥

-- the first is the greatest, and so on
abbrev pub Fall : List ℕ → Type 0
Fall [] = Unit {0}
Fall (f ∷ fs) = ((g : ℕ) → Contains fs g → g < f) × Fall fs

-- a frame of TID 0 with this index
abbrev pub IsIndexed : List SentFrame → (index g : ℕ) → Type 0
IsIndexed frames index g = HasTid frames g 0 × IsSomeAnd (layers_at frames g) (λ base. base.tl0 ≡ index)

module _ (sender : Sender) (up down : ℕ) where
  -- the TID and the index of a place are those of its frame
  pub tid_of : (g : ℕ) (place : Place) → IsPlaceOf sender up down g place → HasTid sender.frames g place.tid
  tid_of g place p = some_from (λ q. q.tid ≡ place.tid) (layers_at sender.frames g) p.sent p.sent_is
      (sym (ap (λ (l : Layers). l.tid) p.same))

  pub index_of : (g : ℕ) (place : Place) → IsPlaceOf sender up down g place →
      IsSomeAnd (layers_at sender.frames g) (λ base. base.tl0 ≡ place.tl0)
  index_of g place p = some_from (λ q. q.tl0 ≡ place.tl0) (layers_at sender.frames g) p.sent p.sent_is
      (sym (ap (λ (l : Layers). l.tl0) p.same))

  -- a run of frame g has its picture, and no other
  picture-from : (g q : ℕ) (run : RunSummary) → IsPlaced sender up down g run → is_of_picture q run ≡ true →
      q + down ≡ g + up
  picture-from g q run p h =
      let same : p.place.picture ≡ q = eqb-true p.place.picture q (sym (ap (is_placed_at q) p.layers) ∙ h) in
      omega (arith, same, p.place_is.picture)

  picture-to : (g q : ℕ) (run : RunSummary) → IsPlaced sender up down g run → q + down ≡ g + up →
      is_of_picture q run ≡ true
  picture-to g q run p at = ap (is_placed_at q) p.layers
      ∙ eq-eqb p.place.picture q (omega (arith, at, p.place_is.picture))

  -- the pictures pulled are those of the frames pulled
  pub pulled-from : (fs : List ℕ) (pulled : List RunSummary) → ArePlaced sender up down fs pulled → (q : ℕ) →
      was_pulled pulled q ≡ true → (g : ℕ) × Contains fs g × (q + down ≡ g + up)
  pulled-from [] [] are q h = absurd (true≢false (sym h))
  pulled-from [] (run ∷ pulled) are q h = absurd are
  pulled-from (f ∷ fs) [] are q h = absurd are
  pulled-from (f ∷ fs) (run ∷ pulled) are q h = elim (or_cases (is_of_picture q run) (was_pulled pulled q) h) [
    | inl here ↦ (f, Contains-head f fs, picture-from f q run are.0 here)
    | inr there ↦ let rest : (g : ℕ) × Contains fs g × (q + down ≡ g + up) = pulled-from fs pulled are.1 q there in
        (rest.0, Contains-tail f fs rest.0 rest.1, rest.2)
  ]

  pub pulled-to : (fs : List ℕ) (pulled : List RunSummary) → ArePlaced sender up down fs pulled → (g q : ℕ) →
      Contains fs g → q + down ≡ g + up → was_pulled pulled q ≡ true
  pulled-to [] pulled are g q c at = absurd (Contains-empty g c)
  pulled-to (f ∷ fs) [] are g q c at = absurd are
  pulled-to (f ∷ fs) (run ∷ pulled) are g q c at = elim (Contains-either f fs g c) [
    | inl same ↦ or_left (is_of_picture q run) (was_pulled pulled q)
        (picture-to f q run are.0 (omega (arith, at, same)))
    | inr later ↦ or_right (is_of_picture q run) (was_pulled pulled q) (pulled-to fs pulled are.1 g q later at)
  ]

  -- and so of keyframes
  pub key-from : (fs : List ℕ) (pulled : List RunSummary) → ArePlaced sender up down fs pulled → (q : ℕ) →
      was_pulled_key pulled q ≡ true → (g : ℕ) × Contains fs g × IsKey sender.frames g × (q + down ≡ g + up)
  key-from [] [] are q h = absurd (true≢false (sym h))
  key-from [] (run ∷ pulled) are q h = absurd are
  key-from (f ∷ fs) [] are q h = absurd are
  key-from (f ∷ fs) (run ∷ pulled) are q h =
      elim (or_cases (run.key && is_of_picture q run) (was_pulled_key pulled q) h) [
        | inl here ↦
            let both : (run.key ≡ true) × (is_of_picture q run ≡ true) =
            and_parts run.key (is_of_picture q run) here in
            (f, Contains-head f fs, are.0.key.0 both.0, picture-from f q run are.0 both.1)
        | inr there ↦
            let rest : (g : ℕ) × Contains fs g × IsKey sender.frames g × (q + down ≡ g + up) =
            key-from fs pulled are.1 q there in
            (rest.0, Contains-tail f fs rest.0 rest.1, rest.2, rest.3)
      ]

  pub key-to : (fs : List ℕ) (pulled : List RunSummary) → ArePlaced sender up down fs pulled → (g q : ℕ) →
      Contains fs g → IsKey sender.frames g → q + down ≡ g + up → was_pulled_key pulled q ≡ true
  key-to [] pulled are g q c key at = absurd (Contains-empty g c)
  key-to (f ∷ fs) [] are g q c key at = absurd are
  key-to (f ∷ fs) (run ∷ pulled) are g q c key at = elim (Contains-either f fs g c) [
    | inl same ↦ or_left (run.key && is_of_picture q run) (was_pulled_key pulled q)
        (and_from run.key (is_of_picture q run)
        (are.0.key.1 (subst (λ (x : ℕ). IsKey sender.frames x) (sym same) key))
        (picture-to f q run are.0 (omega (arith, at, same))))
    | inr later ↦ or_right (run.key && is_of_picture q run) (was_pulled_key pulled q)
        (key-to fs pulled are.1 g q later key at)
  ]

  -- a frame that was pulled has a picture
  pub has_picture : (fs : List ℕ) (pulled : List RunSummary) → ArePlaced sender up down fs pulled → (g : ℕ) →
      Contains fs g → (q : ℕ) × (q + down ≡ g + up)
  has_picture [] pulled are g c = absurd (Contains-empty g c)
  has_picture (f ∷ fs) [] are g c = absurd are
  has_picture (f ∷ fs) (run ∷ pulled) are g c = elim (Contains-either f fs g c) [
    | inl same ↦ let at : are.0.place.picture + down ≡ f + up = are.0.place_is.picture in
        (are.0.place.picture, omega (arith, at, same))
    | inr later ↦ has_picture fs pulled are.1 g later
  ]

  -- whether a run is one of TID 0 with this index
  indexed-from : (g index : ℕ) (place : Place) → IsPlaceOf sender up down g place →
      ((place.tid == 0) && (place.tl0 == index)) ≡ true → IsIndexed sender.frames index g
  indexed-from g index place p h =
      let both : ((place.tid == 0) ≡ true) × ((place.tl0 == index) ≡ true) =
      and_parts (place.tid == 0) (place.tl0 == index) h in (
        subst (λ (x : ℕ). HasTid sender.frames g x) (eqb-true place.tid 0 both.0) (tid_of g place p),
        subst (λ (x : ℕ). IsSomeAnd (layers_at sender.frames g) (λ base. base.tl0 ≡ x))
            (eqb-true place.tl0 index both.1) (index_of g place p),
      )

  indexed-to : (g index : ℕ) (place : Place) → IsPlaceOf sender up down g place → IsIndexed sender.frames index g →
      ((place.tid == 0) && (place.tl0 == index)) ≡ true
  indexed-to g index place p is = and_from (place.tid == 0) (place.tl0 == index)
      (eq-eqb place.tid 0 (ap (λ (l : Layers). l.tid) p.same
      ∙ some_holds (λ q. q.tid ≡ 0) (layers_at sender.frames g) p.sent p.sent_is is.0))
      (eq-eqb place.tl0 index (ap (λ (l : Layers). l.tl0) p.same
      ∙ some_holds (λ q. q.tl0 ≡ index) (layers_at sender.frames g) p.sent p.sent_is is.1))

  -- frame g is the last one pulled of TID 0 with this index, and this is its picture
  pub record IsBase (fs : List ℕ) (index b g : ℕ) : Type 0 where
    pub among : Contains fs g
    pub picture : b + down ≡ g + up
    pub is : IsIndexed sender.frames index g
    pub last : (h : ℕ) → Contains fs h → IsIndexed sender.frames index h → h ≤ g

  -- the base of an index, if there is one
  pub base-from : (fs : List ℕ) (pulled : List RunSummary) → ArePlaced sender up down fs pulled → Fall fs →
      (index b : ℕ) → base pulled index ≡ Some b → (g : ℕ) × IsBase fs index b g
  base-from [] [] are fall index b is = absurd (none-some b is)
  base-from [] (run ∷ pulled) are fall index b is = absurd are
  base-from (f ∷ fs) [] are fall index b is = absurd are
  base-from (f ∷ fs) (run ∷ pulled) are fall index b is =
      by ((are.0.place.tid == 0) && (are.0.place.tl0 == index)) refl
      (sym (ap (λ o. base_by index o (base pulled index)) are.0.layers) ∙ is)
      (λ gives. base-from fs pulled are.1 fall.1 index b gives) where
        p : IsPlaced sender up down f run
        p = are.0

        by : (c : Bool) → ((p.place.tid == 0) && (p.place.tl0 == index)) ≡ c →
            cond c (Some p.place.picture) (base pulled index) ≡ Some b →
            (base pulled index ≡ Some b → (g : ℕ) × IsBase fs index b g) → (g : ℕ) × IsBase (f ∷ fs) index b g
        by true test gives more = (
          f,
          record {
            among = Contains-head f fs;
            picture = let same : p.place.picture ≡ b = same_Some p.place.picture b gives in
                omega (arith, same, p.place_is.picture);
            is = indexed-from f index p.place p.place_is test;
            last = λ h there _. elim (Contains-either f fs h there) [
              | inl same ↦ omega (arith, same)
              | inr later ↦ let less : h < f = fall.0 h later in omega (arith, less)
            ];
          },
        )
        by false test gives more =
            let rest : (g : ℕ) × IsBase fs index b g = more gives in (
              rest.0,
              record {
                among = Contains-tail f fs rest.0 rest.1.among;
                picture = rest.1.picture;
                is = rest.1.is;
                last = λ h there indexed. elim (Contains-either f fs h there) [
                  | inl same ↦ absurd (true≢false (sym (indexed-to f index p.place p.place_is
                      (subst (λ (x : ℕ). IsIndexed sender.frames index x) (sym same) indexed)) ∙ test))
                  | inr later ↦ rest.1.last h later indexed
                ];
              },
            )

  -- if a frame of TID 0 with the index was pulled, there is one
  pub base-there : (fs : List ℕ) (pulled : List RunSummary) → ArePlaced sender up down fs pulled → (index g : ℕ) →
      Contains fs g → IsIndexed sender.frames index g → (b : ℕ) × (base pulled index ≡ Some b)
  base-there [] pulled are index g c is = absurd (Contains-empty g c)
  base-there (f ∷ fs) [] are index g c is = absurd are
  base-there (f ∷ fs) (run ∷ pulled) are index g c is =
      let found : (b : ℕ) × (cond ((p.place.tid == 0) && (p.place.tl0 == index)) (Some p.place.picture)
      (base pulled index) ≡ Some b) = by ((p.place.tid == 0) && (p.place.tl0 == index)) refl
      (λ later. base-there fs pulled are.1 index g later is) in
      (found.0, ap (λ o. base_by index o (base pulled index)) p.layers ∙ found.1) where
        p : IsPlaced sender up down f run
        p = are.0

        by : (c : Bool) → ((p.place.tid == 0) && (p.place.tl0 == index)) ≡ c →
            (Contains fs g → (b : ℕ) × (base pulled index ≡ Some b)) →
            (b : ℕ) × (cond c (Some p.place.picture) (base pulled index) ≡ Some b)
        by true test more = (p.place.picture, refl)
        by false test more = elim (Contains-either f fs g c) [
          | inl same ↦ absurd (true≢false (sym (indexed-to f index p.place p.place_is
              (subst (λ (x : ℕ). IsIndexed sender.frames index x) (sym same) is)) ∙ test))
          | inr later ↦ more later
        ]

-- the TID that was told of a picture was told by some packet
told-from : (told : Told) (q t : ℕ) → first_tid q (sightings told) ≡ Some t →
    (entry : ℕ × Place) × Contains told entry × (entry.1.picture ≡ q) × (entry.1.tid ≡ t)
told-from [] q t is = absurd (none-some t is)
told-from ((n, place) ∷ told) q t is =
    by (first_tid q (sightings told)) is (λ same. told-from told q t same) where
      by : (o : Option ℕ) → first_of q (record { picture = place.picture; tid = place.tid }) o ≡ Some t →
          (o ≡ Some t → (entry : ℕ × Place) × Contains told entry × (entry.1.picture ≡ q) × (entry.1.tid ≡ t)) →
          (entry : ℕ × Place) × Contains ((n, place) ∷ told) entry × (entry.1.picture ≡ q) × (entry.1.tid ≡ t)
      by (Some tid) gives more = let rest : (entry : ℕ × Place) × Contains told entry × (entry.1.picture ≡ q)
          × (entry.1.tid ≡ t) = more gives in
          (rest.0, Contains-tail (n, place) told rest.0 rest.1, rest.2, rest.3)
      by None gives more = case (place.picture == q) refl gives where
        case : (c : Bool) → (place.picture == q) ≡ c → cond c (Some place.tid) None ≡ Some t →
            (entry : ℕ × Place) × Contains ((n, place) ∷ told) entry × (entry.1.picture ≡ q) × (entry.1.tid ≡ t)
        case true same gives = (
          (n, place),
          Contains-head (n, place) told,
          eqb-true place.picture q same,
          same_Some place.tid t gives,
        )
        case false other gives = absurd (none-some t gives)

-- and a picture that was told has one
told-to : (told : Told) (entry : ℕ × Place) → Contains told entry →
    is_some (first_tid entry.1.picture (sightings told)) ≡ true
told-to [] entry c = absurd (Contains-empty entry c)
told-to ((n, place) ∷ told) entry c =
    by (first_tid entry.1.picture (sightings told)) refl (λ later. told-to told entry later) where
      by : (o : Option ℕ) → first_tid entry.1.picture (sightings told) ≡ o →
          (Contains told entry → is_some (first_tid entry.1.picture (sightings told)) ≡ true) →
          is_some (first_of entry.1.picture (record { picture = place.picture; tid = place.tid }) o) ≡ true
      by (Some tid) is more = refl
      by None is more = elim (Contains-either (n, place) told entry c) [
        | inl same ↦ case (place.picture == entry.1.picture)
            (eq-eqb place.picture entry.1.picture (ap (λ (e : ℕ × Place). e.1.picture) same))
        | inr later ↦ absurd (true≢false (sym (more later) ∙ ap is_some is))
      ] where
        case : (c : Bool) → c ≡ true → is_some (cond c (Some place.tid) None) ≡ true
        case true same = refl
        case false other = absurd (true≢false (sym other))

-- the newest picture is below what each is
newest-below : (told : Told) (m : ℕ) → 0 < m → ((entry : ℕ × Place) → Contains told entry → entry.1.picture < m) →
    newest_of (sightings told) < m
newest-below [] m some each = some
newest-below ((n, place) ∷ told) m some each =
    let here : place.picture < m = each (n, place) (Contains-head (n, place) told) in
    let rest : newest_of (sightings told) < m =
    newest-below told m some (λ entry c. each entry (Contains-tail (n, place) told entry c)) in
    omega (arith, here, rest)

-- a picture that is seen was told
seen-told : (told : Told) (q t : ℕ) → seen (sightings told) q ≡ Some t → first_tid q (sightings told) ≡ Some t
seen-told told q t is = by (is_recent (newest_of (sightings told)) q) is where
  by : (b : Bool) → cond b (first_tid q (sightings told)) None ≡ Some t → first_tid q (sightings told) ≡ Some t
  by true gives = gives
  by false gives = absurd (none-some t gives)

-- a packet of frame g came
abbrev pub SomeCame : Sender → List ℕ → (ℕ → Type 0) → ℕ → Type 0
SomeCame sender js rep g = (i : ℕ) × (n : ℕ) × Came js rep i n × IsNumber sender js i n
    × IsSomeAnd (slice_get sender.packets i) (IsOf g)

module _ (sender : Sender) (js : List ℕ) (rep : ℕ → Type 0) (told : Told)
    (right : ToldRightly sender js rep told) where
  -- what was told of a picture is what a packet that came of its frame says
  entry_frame : (q t : ℕ) (entry : ℕ × Place) → Contains told entry → entry.1.picture ≡ q → entry.1.tid ≡ t →
      (g : ℕ) × (q + right.down ≡ g + right.up) × HasTid sender.frames g t × SomeCame sender js rep g
  entry_frame q t entry c picture tid =
      let e : TellsFrame sender js rep right.up right.down entry = right.each entry c in (
        e.f,
        let at : entry.1.picture + right.down ≡ e.f + right.up = e.place_is.picture in omega (arith, at, picture),
        subst (λ (x : ℕ). HasTid sender.frames e.f x) tid (tid_of sender right.up right.down e.f entry.1 e.place_is),
        (e.i, entry.0, e.came, e.numbered, e.of_frame),
      )

  pub seen-from : (q t : ℕ) → seen (sightings told) q ≡ Some t →
      (g : ℕ) × (q + right.down ≡ g + right.up) × HasTid sender.frames g t × SomeCame sender js rep g
  seen-from q t is =
      let e : (entry : ℕ × Place) × Contains told entry × (entry.1.picture ≡ q) × (entry.1.tid ≡ t) =
      told-from told q t (seen-told told q t is) in
      entry_frame q t e.0 e.1 e.2 e.3

  -- a frame of which a packet came was told, by its picture
  pub came_told : (g : ℕ) (sent : Place) → layers_at sender.frames g ≡ Some sent → SomeCame sender js rep g →
      (entry : ℕ × Place) × Contains told entry × (entry.1.picture + right.down ≡ g + right.up)
  came_told g sent is c =
      let there : (place : Place) × Contains told (c.1, place) = right.all c.0 c.1 g sent c.2 c.3 c.4 is in
      let e : TellsFrame sender js rep right.up right.down (c.1, there.0) = right.each (c.1, there.0) there.1 in
      let same : e.i ≡ c.0 = one-place sender js e.i c.0 c.1 e.numbered c.3 in
      let frame : e.f ≡ g = of-one e.f g (slice_get sender.packets c.0)
      (subst (λ (x : ℕ). IsSomeAnd (slice_get sender.packets x) (IsOf e.f)) same e.of_frame) c.4 in
      let at : there.0.picture + right.down ≡ e.f + right.up = e.place_is.picture in
      ((c.1, there.0), there.1, omega (arith, at, frame))

  -- No packet came of a frame 2,049 or more places beyond frame f: so of a frame at most 255 places before it, of which
  -- a packet came, the picture is seen.
  pub seen-to : (f g q : ℕ) (sent : Place) → ((k : ℕ) → SomeCame sender js rep k → k ≤ f + 2048) → f ≤ g + 255 →
      layers_at sender.frames g ≡ Some sent → SomeCame sender js rep g → q + right.down ≡ g + right.up →
      is_some (seen (sightings told) q) ≡ true
  seen-to f g q sent near close is c at =
      let e : (entry : ℕ × Place) × Contains told entry × (entry.1.picture + right.down ≡ g + right.up) =
      came_told g sent is c in
      let same : e.0.1.picture ≡ q = let there : e.0.1.picture + right.down ≡ g + right.up = e.2 in
      omega (arith, there, at) in
      let young : newest_of (sightings told) < q + MEMORY =
      newest-below told (q + MEMORY) (omega arith) (λ entry there.
      let k : (k : ℕ) × (entry.1.picture + right.down ≡ k + right.up) × HasTid sender.frames k entry.1.tid
      × SomeCame sender js rep k = entry_frame entry.1.picture entry.1.tid entry there refl refl in
      let upto : k.0 ≤ f + 2048 = near k.0 k.3 in
      let picture : entry.1.picture + right.down ≡ k.0 + right.up = k.1 in
      omega (arith, upto, picture, close, at)) in
      ap (λ b. is_some (cond b (first_tid q (sightings told)) None))
      (lt-ltb (newest_of (sightings told)) (q + MEMORY) young)
      ∙ ap (λ (x : ℕ). is_some (first_tid x (sightings told))) (sym same) ∙ told-to told e.0 e.1
