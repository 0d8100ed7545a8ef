-- The place by which the receiver knows a frame of an honest sender, and a run that is the frame.
use Rattle.std.proofs.Common.{◌≡◌, ℕ, ◌+◌, ◌≤◌, Bool, true, false, if◌then◌else◌, List, [], ◌∷◌, slice_get, Contains, Option, Some, None, IsSomeAnd, refl, sym, ◌∙◌, ap, subst, arith, inl, inr}
use Rattle.std.specs.Prelude.{◌==◌}
use Rattle.std.specs.Option.{option_and_then}
use Rattle.std.proofs.lemmas.Bool.{eq-eqb, eqb-true, true≢false}
use Rattle.std.proofs.lemmas.Option.{none-some, same_Some}
use Rattle.vrx_codec.specs.declared.run.Place.{Place}
use Rattle.vrx_window.specs.Sound.{on_wire}
use Rattle.vrx_window.specs.Window.{is_available}
use Rattle.vrx_frames.specs.Run.{Packets, Run}
use Rattle.vrx_core.specs.machine.Told.{Told, place_told}
use Rattle.vrx_core.specs.honest.Sender.{SentFrame, Sender, IsOf}
use Rattle.vrx_core.specs.honest.Layers.{LayersAreRight, layers_at}
use Rattle.vrx_core.specs.honest.Ready.{IsNumber}
use Rattle.vrx_core.specs.honest.HonestRuns.{IsFrameRun, IsSamePlace}
use Rattle.vrx_core.specs.honest.HonestTaken.{TellsRightly}
use Rattle.vrx_core.proofs.machine.MemberLemmas.{Contains-head, Contains-tail, Contains-either, Contains-empty}
use Rattle.vrx_core.proofs.honest.PartLemmas.{some_from}
use Rattle.vrx_core.proofs.honest.KeepsLemmas.{Came, Keeps, one-place}
use Rattle.vrx_core.proofs.honest.TellLemmas.{IsPlaceOf, TellsFrame, ToldRightly}
use Rattle.vrx_core.proofs.honest.ToldLemmas.{frame-told, rise-between}

-- the place that a number told is among those told
pub place_among : (n : ℕ) (told : Told) (place : Place) → place_told told n ≡ Some place → Contains told (n, place)
place_among n [] place is = absurd (none-some place is)
place_among n ((m, q) ∷ told) place is = by (m == n) refl is (place_among n told place) where
  by : (b : Bool) → (m == n) ≡ b → (if b then Some q else place_told told n) ≡ Some place →
      (place_told told n ≡ Some place → Contains told (n, place)) → Contains ((m, q) ∷ told) (n, place)
  by true same is later =
      subst (λ (k : ℕ). Contains ((m, q) ∷ told) (k, place)) (eqb-true m n same)
      (subst (λ (p : Place). Contains ((m, q) ∷ told) (m, p)) (same_Some q place is) (Contains-head (m, q) told))
  by false apart is later = Contains-tail (m, q) told (n, place) (later is)

-- and a number among those told has a place
pub place_there : (n : ℕ) (told : Told) (place : Place) → Contains told (n, place) →
    (other : Place) × (place_told told n ≡ Some other)
place_there n [] place there = absurd (Contains-empty (n, place) there)
place_there n ((m, q) ∷ told) place there = by (m == n) refl (place_there n told place) where
  by : (b : Bool) → (m == n) ≡ b → (Contains told (n, place) → (other : Place) × (place_told told n ≡ Some other)) →
      (other : Place) × (place_told ((m, q) ∷ told) n ≡ Some other)
  by true same later = (q, ap (λ b. if b then Some q else place_told told n) same)
  by false apart later =
      let p : (other : Place) × (place_told told n ≡ Some other) =
      elim (Contains-either (m, q) told (n, place) there) [
        | inl same ↦ absurd (true≢false (sym (eq-eqb m n (ap (λ (e : ℕ × Place). e.0) same)) ∙ apart))
        | inr there ↦ later there
      ] in
      (p.0, ap (λ b. if b then Some q else place_told told n) apart ∙ p.1)

-- what is available came
pub available-came : (sender : Sender) (js : List ℕ) (rep : ℕ → Type 0) (packets : Packets) (i n : ℕ) →
    Keeps sender js rep packets → IsNumber sender js i n → is_available n packets ≡ true → Came js rep i n
available-came sender js rep packets i n keeps is available =
    let p = keeps.from n available in
    subst (λ (k : ℕ). Came js rep k n) (one-place sender js p.0 i n p.2 is) p.1

module _ (sender : Sender) (js : List ℕ) (rep : ℕ → Type 0) (told : Told) (t : ToldRightly sender js rep told) where
  -- a place that the number of a frame's packet told is the frame's
  pub entry-place : (i n f : ℕ) (place : Place) → IsNumber sender js i n →
      IsSomeAnd (slice_get sender.packets i) (IsOf f) → Contains told (n, place) →
      IsPlaceOf sender t.up t.down f place
  entry-place i n f place numbered of there =
      let u : TellsFrame sender js rep t.up t.down (n, place) = t.each (n, place) there in
      let same : f ≡ u.f = frame-told sender js rep t.up t.down (n, place) u f (i, numbered, of) in
      subst (λ (g : ℕ). IsPlaceOf sender t.up t.down g place) (sym same) u.place_is

  pub place-of : (i n f : ℕ) (place : Place) → IsNumber sender js i n →
      IsSomeAnd (slice_get sender.packets i) (IsOf f) → place_told told n ≡ Some place →
      IsPlaceOf sender t.up t.down f place
  place-of i n f place numbered of is = entry-place i n f place numbered of (place_among n told place is)

  -- the number of a packet that came, of a frame with layers, told the frame's place
  pub known-place : (i n f : ℕ) (sent : Place) → Came js rep i n → IsNumber sender js i n →
      IsSomeAnd (slice_get sender.packets i) (IsOf f) → layers_at sender.frames f ≡ Some sent →
      (place : Place) × (place_told told n ≡ Some place) × IsPlaceOf sender t.up t.down f place
  known-place i n f sent came numbered of is =
      let p : (place : Place) × Contains told (n, place) = t.all i n f sent came numbered of is in
      let q : (place : Place) × (place_told told n ≡ Some place) = place_there n told p.0 p.1 in
      (q.0, q.1, place-of i n f q.0 numbered of q.1)

  -- so the receiver's place of a frame is the sender's
  pub same-place : (i n f : ℕ) (frame : SentFrame) → slice_get sender.frames f ≡ Some frame → Came js rep i n →
      IsNumber sender js i n → IsSomeAnd (slice_get sender.packets i) (IsOf f) →
      IsSamePlace (place_told told n) frame.layers
  same-place i n f frame there came numbered of = by_layers frame.layers refl where
    at_frame : layers_at sender.frames f ≡ frame.layers
    at_frame = ap (λ o. option_and_then (λ (frame : SentFrame). frame.layers) o) there

    by_place : (o : Option Place) → place_told told n ≡ o → frame.layers ≡ None → IsSamePlace o None
    by_place None is none = tt
    by_place (Some place) is none =
        let p : IsPlaceOf sender t.up t.down f place = place-of i n f place numbered of is in
        absurd (none-some p.sent (sym none ∙ sym at_frame ∙ p.sent_is))

    by_layers : (o : Option Place) → frame.layers ≡ o → IsSamePlace (place_told told n) o
    by_layers None is = by_place (place_told told n) refl is
    by_layers (Some sent) is =
        let p : (place : Place) × (place_told told n ≡ Some place) × IsPlaceOf sender t.up t.down f place =
        known-place i n f sent came numbered of (at_frame ∙ is) in
        subst (λ (o : Option Place). IsSamePlace o (Some sent)) (sym p.1)
        (p.2.same ∙ ap on_wire (same_Some p.2.sent sent (sym p.2.sent_is ∙ at_frame ∙ is)))

  -- the place of a run that is a frame with layers, if the packet of its first number came
  pub run-place : (f : ℕ) (run : Run) (is : IsFrameRun sender js f run) (sent : Place) →
      run.layers ≡ place_told told run.first → Came js rep is.numbered.from run.first →
      layers_at sender.frames f ≡ Some sent →
      (place : Place) × (run.layers ≡ Some place) × IsPlaceOf sender t.up t.down f place
  run-place f run is sent layers came sent_is =
      let upto : is.numbered.from ≤ is.numbered.to = is.numbered.spans.some in
      let of : IsSomeAnd (slice_get sender.packets is.numbered.from) (IsOf f) =
      (is.numbered.spans.exactly is.numbered.from).1 (omega arith, upto) in
      let p : (place : Place) × (place_told told run.first ≡ Some place) × IsPlaceOf sender t.up t.down f place =
      known-place is.numbered.from run.first f sent came is.numbered.first_is of sent_is in
      (p.0, layers ∙ p.1, p.2)

-- the places told are those of the sender's frames, their pictures and one constant: the one by which the frame of the
-- place told last has its picture
pub tells-rightly : (sender : Sender) → LayersAreRight sender.frames → (js : List ℕ) (rep : ℕ → Type 0) (told : Told) →
    ToldRightly sender js rep told → TellsRightly sender js told
tells-rightly sender right js rep [] t = record {
  up = 0;
  down = 0;
  each = λ entry there. absurd (Contains-empty entry there);
}
tells-rightly sender right js rep (e ∷ told) t =
    let last : TellsFrame sender js rep t.up t.down e = t.each e (Contains-head e told) in
    let base : Place = last.place_is.sent in
    record {
      up = t.up + last.f;
      down = t.down + base.picture;
      each = λ entry there.
          let u : TellsFrame sender js rep t.up t.down entry = t.each entry there in
          let sent : Place = u.place_is.sent in
          let rise : sent.picture + last.f ≡ base.picture + u.f =
          rise-between sender.frames right u.f last.f sent base u.place_is.sent_is last.place_is.sent_is in
          let picture : entry.1.picture + t.down ≡ u.f + t.up = u.place_is.picture in (
            u.f,
            (u.i, u.numbered, u.of_frame),
            some_from (λ place. (entry.1.picture + (t.down + base.picture) ≡ place.picture + (t.up + last.f))
                × (on_wire entry.1 ≡ on_wire place)) (layers_at sender.frames u.f) sent u.place_is.sent_is
                (omega (arith, rise, picture), u.place_is.same),
          );
    }
