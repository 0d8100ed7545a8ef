-- The temporal layers of a drill's frames, and what its frames refer to.
use Rattle.std.proofs.Common.{◌≡◌, ◌≢◌, ℕ, zero, suc, ◌+◌, ◌-◌, ◌/◌, ◌%◌, ◌<◌, ◌≤◌, Bool, true, false, ◌||◌, All, List, [], ◌∷◌, length, Option, Some, None, slice_get, IfSome, IsSomeAnd, refl, ap, sym, ◌∙◌, subst, inl, inr, arith}
use Rattle.std.specs.Prelude.{◌==◌, if◌then◌else◌}
use Rattle.std.specs.Option.{option_and_then, option_map}
use Rattle.std.proofs.lemmas.Bool.{cases_lt, eq-eqb, eqb-false, eqb-true, ne_eqb}
use Rattle.std.proofs.lemmas.Bool.Decides.{eqb_tells}
use Rattle.std.proofs.lemmas.List.Elements.{All-nil}
use Rattle.vrx_codec.specs.declared.run.Place.{Place}
use Rattle.vrx_core.specs.honest.Chain.{InChain, RefersBy}
use Rattle.vrx_core.specs.honest.Layers.{HasTid, IsKey, IsLastOf, KeepsLayers, is_on_base, layers_at}
use Rattle.vrx_core.specs.honest.Sender.{SentFrame}
use Rattle.vrx_sender.specs.Draws.{Drawn}
use Rattle.vrx_sender.specs.Frames.{is_key, place, references, rests_on_base, sent_frame, tid}
use Rattle.vrx_sender.specs.Packets.{frames_from, sender_of}
use Rattle.vrx_sender.proofs.honest.PlaceLemmas.{frame-at}

-- ---- frames by their places

pub frame-here : (ds : List Drawn) (f : ℕ) (d : Drawn) → slice_get ds f ≡ Some d →
    slice_get (frames_from 0 ds) f ≡ Some (sent_frame f d.size)
frame-here ds f d is =
    frame-at 0 ds f ∙ ap (option_map (λ (e : Drawn). sent_frame (0 + f) e.size)) is
    ∙ ap (λ (n : ℕ). Some (sent_frame n d.size)) (let t : 0 + f ≡ f = omega arith in t)

pub frame-none : (ds : List Drawn) (f : ℕ) → slice_get ds f ≡ None → slice_get (frames_from 0 ds) f ≡ None
frame-none ds f is = frame-at 0 ds f ∙ ap (option_map (λ (e : Drawn). sent_frame (0 + f) e.size)) is

pub drawn-at : {A : Type 0} (xs : List A) (f : ℕ) → f < length xs → (x : A) × (slice_get xs f ≡ Some x)
drawn-at [] f lt = absurd (omega arith)
drawn-at (x ∷ xs) zero lt = (x, refl)
drawn-at (x ∷ xs) (suc f) lt = drawn-at xs f (omega arith)

pub drawn-within : {A : Type 0} (xs : List A) (f : ℕ) (x : A) → slice_get xs f ≡ Some x → f < length xs
drawn-within [] f x is = absurd cc
drawn-within (y ∷ xs) zero x is = omega arith
drawn-within (y ∷ xs) (suc f) x is = omega (arith, drawn-within xs f x is)

-- what holds of the frame there, if there is one
pub if-frame : (ds : List Drawn) (f : ℕ) (P : SentFrame → Type 0) →
    ((d : Drawn) → slice_get ds f ≡ Some d → P (sent_frame f d.size)) → IfSome (slice_get (frames_from 0 ds) f) P
if-frame ds f P holds = by (slice_get ds f) refl
  where
    by : (o : Option Drawn) → slice_get ds f ≡ o → IfSome (slice_get (frames_from 0 ds) f) P
    by None is = rw (frame-none ds f is) tt
    by (Some d) is = rw (frame-here ds f d is) (holds d is)

-- and of its place
pub if-place : (ds : List Drawn) (f : ℕ) (P : Place → Type 0) → (f < length ds → P (place f)) →
    IfSome (layers_at (frames_from 0 ds) f) P
if-place ds f P holds = by (slice_get ds f) refl
  where
    by : (o : Option Drawn) → slice_get ds f ≡ o → IfSome (layers_at (frames_from 0 ds) f) P
    by None is = rw (frame-none ds f is) tt
    by (Some d) is = rw (frame-here ds f d is) (holds (drawn-within ds f d is))

has-tid : (ds : List Drawn) (f t : ℕ) → f < length ds → tid f ≡ t → HasTid (frames_from 0 ds) f t
has-tid ds f t within is = let d = drawn-at ds f within in rw (frame-here ds f d.0 d.1) is

tid-of : (ds : List Drawn) (f t : ℕ) → HasTid (frames_from 0 ds) f t → tid f ≡ t
tid-of ds f t has = by (slice_get ds f) refl
  where
    by : (o : Option Drawn) → slice_get ds f ≡ o → tid f ≡ t
    by None is = absurd (subst (λ (o : Option SentFrame). IsSomeAnd (option_and_then (λ frame. frame.layers) o) (λ place. place.tid ≡ t))
        (frame-none ds f is) has)
    by (Some d) is = subst (λ (o : Option SentFrame). IsSomeAnd (option_and_then (λ frame. frame.layers) o) (λ place. place.tid ≡ t))
        (frame-here ds f d is) has

key-of : (ds : List Drawn) (f : ℕ) → IsKey (frames_from 0 ds) f → is_key f ≡ true
key-of ds f has = by (slice_get ds f) refl
  where
    by : (o : Option Drawn) → slice_get ds f ≡ o → is_key f ≡ true
    by None is = absurd (subst (λ (o : Option SentFrame). IsSomeAnd o (λ frame. frame.key ≡ true)) (frame-none ds f is) has)
    by (Some d) is = subst (λ (o : Option SentFrame). IsSomeAnd o (λ frame. frame.key ≡ true)) (frame-here ds f d is) has

-- ---- TIDs

data TidIs (f : ℕ) : Type 0 where
  Zeroth : f % 4 ≡ 0 → tid f ≡ 0 → TidIs f
  First : f % 4 ≡ 2 → tid f ≡ 1 → TidIs f
  Second : f % 4 ≢ 0 → f % 4 ≢ 2 → tid f ≡ 2 → TidIs f

tid-zero : (f : ℕ) → f % 4 ≡ 0 → tid f ≡ 0
tid-zero f is = rw (eq-eqb (f % 4) 0 is) refl

tid-first : (f : ℕ) → f % 4 ≡ 2 → tid f ≡ 1
tid-first f is = rw (ne_eqb (f % 4) 0 (λ no. omega (arith, is, no))) (rw (eq-eqb (f % 4) 2 is) refl)

tid-second : (f : ℕ) → f % 4 ≢ 0 → f % 4 ≢ 2 → tid f ≡ 2
tid-second f zeroth first = rw (ne_eqb (f % 4) 0 zeroth) (rw (ne_eqb (f % 4) 2 first) refl)

tid-is : (f : ℕ) → TidIs f
tid-is f = elim (eqb_tells (f % 4) 0) [
  | inl zeroth ↦ Zeroth zeroth.1 (tid-zero f zeroth.1)
  | inr more ↦ elim (eqb_tells (f % 4) 2) [
    | inl second ↦ First second.1 (tid-first f second.1)
    | inr other ↦ Second more.1 other.1 (tid-second f more.1 other.1)
  ]
]

zero-tid : (f : ℕ) → tid f ≡ 0 → f % 4 ≡ 0
zero-tid f is = elim (tid-is f) [
  | Zeroth rest tid ↦ rest
  | First rest tid ↦ absurd (omega (arith, is, tid))
  | Second zeroth first tid ↦ absurd (omega (arith, is, tid))
]

first-tid : (f : ℕ) → tid f ≡ 1 → f % 4 ≡ 2
first-tid f is = elim (tid-is f) [
  | Zeroth rest tid ↦ absurd (omega (arith, is, tid))
  | First rest tid ↦ rest
  | Second zeroth first tid ↦ absurd (omega (arith, is, tid))
]

second-tid : (f : ℕ) → tid f ≡ 2 → (f % 4 ≢ 0) × (f % 4 ≢ 2)
second-tid f is = elim (tid-is f) [
  | Zeroth rest tid ↦ absurd (omega (arith, is, tid))
  | First rest tid ↦ absurd (omega (arith, is, tid))
  | Second zeroth first tid ↦ (zeroth, first)
]

-- ---- the last frame of a TID

last-of : (ds : List Drawn) (t f g : ℕ) → f < length ds → g < f → tid g ≡ t →
    ((h : ℕ) → g < h → h < f → tid h ≡ t → ⊥) → IsLastOf (frames_from 0 ds) t f g
last-of ds t f g within before is none = record {
  before = before;
  of_tid = has-tid ds g t (omega (arith, within, before)) is;
  last = λ h after below has. none h after below (tid-of ds h t has);
}

-- the last frame of TID 0 is at most four frames back
last-near : (ds : List Drawn) (f g : ℕ) → f < length ds → IsLastOf (frames_from 0 ds) 0 f g → (g % 4 ≡ 0) × (f ≤ g + 4)
last-near ds f g within last =
    let rest : g % 4 ≡ 0 = zero-tid g (tid-of ds g 0 last.of_tid) in (
      rest,
      elim (cases_lt (g + 4) f) [
        | inl later ↦ absurd (last.last (g + 4) (omega arith) later
            (has-tid ds (g + 4) 0 (omega (arith, later, within)) (tid-zero (g + 4) (omega (arith, rest)))))
        | inr near ↦ near
      ],
    )

-- ---- what the frames keep to

pub keeps : (ds : List Drawn) → KeepsLayers (frames_from 0 ds)
keeps ds = record {
  each = λ f. if-frame ds f (λ frame. IsSomeAnd frame.layers (λ place. (place.tl0 < 256) × (frame.key ≡ true → place.tid ≡ 0)))
      (λ d is. (omega arith, λ key. tid-zero f (omega (arith, eqb-true (f % 300) 0 key))));
  pictures = λ f. if-place ds f (λ place. IfSome (layers_at (frames_from 0 ds) (f + 1)) (λ after. after.picture ≡ place.picture + 1))
      (λ within. if-place ds (f + 1) (λ after. after.picture ≡ 32000 + f + 1) (λ later. omega arith));
  indexes = λ f g last. if-place ds f (λ place. IfSome (layers_at (frames_from 0 ds) g)
      (λ base. place.tl0 ≡ (if place.tid == 0 then (base.tl0 + 1) % 256 else base.tl0)))
      (λ within. if-place ds g (λ base. (250 + f / 4) % 256 ≡ (if tid f == 0 then (base.tl0 + 1) % 256 else base.tl0))
      (λ before. index f g (last-near ds f g within last) last.before));
  near = λ f g has last. near-last f g has last (slice_get ds f) refl;
}
  where
    index : (f g : ℕ) → (g % 4 ≡ 0) × (f ≤ g + 4) → g < f →
        (250 + f / 4) % 256 ≡ (if tid f == 0 then ((250 + g / 4) % 256 + 1) % 256 else (250 + g / 4) % 256)
    index f g is before = elim (tid-is f) [
      | Zeroth rest tid ↦ rw tid (omega (arith, is.0, is.1, before, rest))
      | First rest tid ↦ rw tid (omega (arith, is.0, is.1, before, rest))
      | Second zeroth first tid ↦ rw tid (omega (arith, is.0, is.1, before, zeroth))
    ]

    near-last : (f g : ℕ) → HasTid (frames_from 0 ds) f 0 → IsLastOf (frames_from 0 ds) 0 f g → (o : Option Drawn) →
        slice_get ds f ≡ o → f ≤ g + 127
    near-last f g has last None is = absurd (subst (λ (o : Option SentFrame). IsSomeAnd (option_and_then (λ frame. frame.layers) o) (λ place. place.tid ≡ 0))
        (frame-none ds f is) has)
    near-last f g has last (Some d) is = let near = last-near ds f g (drawn-within ds f d is) last in omega (arith, near.1)

-- ---- references

-- a rule reference lies in the chain
in-chain : (ds : List Drawn) (f g : ℕ) (d : Drawn) (b : Bool) → slice_get ds f ≡ Some d → is_key f ≡ false →
    is_on_base (place f) ≡ b → RefersBy (frames_from 0 ds) (place f) b f g → InChain (sender_of ds) f g
in-chain ds f g d b is key base refers =
    ([], rw (frame-here ds f d is) (key, subst (λ (x : Bool). RefersBy (frames_from 0 ds) (place f) x f g) (sym base) refers))

or-true : (b : Bool) → (b || true) ≡ true
or-true true = refl
or-true false = refl

on-base : (f : ℕ) → rests_on_base f ≡ true → is_on_base (place f) ≡ true
on-base f is = rw is (or-true (tid f == 0))

one : (P : ℕ → Type 0) (g : ℕ) → P g → All P (g ∷ [])
one P g holds zero d lt = holds
one P g holds (suc i) d lt = absurd (omega (arith, lt))

three : (P : ℕ → Type 0) (g h k : ℕ) → P g → P h → P k → All P (g ∷ h ∷ k ∷ [])
three P g h k pg ph pk zero d lt = pg
three P g h k pg ph pk (suc zero) d lt = ph
three P g h k pg ph pk (suc (suc zero)) d lt = pk
three P g h k pg ph pk (suc (suc (suc i))) d lt = absurd (omega (arith, lt))

module _ (ds : List Drawn) (f : ℕ) (d : Drawn) (is : slice_get ds f ≡ Some d) where
  within : f < length ds
  within = drawn-within ds f d is

  chain : ℕ → Type 0
  chain g = InChain (sender_of ds) f g

  zeroth-refers : is_key f ≡ false → f % 4 ≡ 0 → InChain (sender_of ds) f (f - 4)
  zeroth-refers key rest =
      let some : f % 300 ≢ 0 = eqb-false (f % 300) 0 key in
      let enough : 4 ≤ f = omega (arith, rest, some) in
      in-chain ds f (f - 4) d true is key (rw (tid-zero f rest) refl)
      (last-of ds 0 f (f - 4) within (omega (arith, enough)) (tid-zero (f - 4) (omega (arith, rest, enough)))
      (λ h after below tid. let r : h % 4 ≡ 0 = zero-tid h tid in omega (arith, r, after, below, rest, enough)))

  middle-refers : (r : ℕ) → is_key f ≡ false → f % 4 ≡ r → 0 < r → r < 3 → rests_on_base f ≡ true → InChain (sender_of ds) f (f - r)
  middle-refers r key rest some few rests =
      in-chain ds f (f - r) d true is key (on-base f rests)
      (last-of ds 0 f (f - r) within (omega (arith, rest, some)) (tid-zero (f - r) (omega (arith, rest, few)))
      (λ h after below tid. let z : h % 4 ≡ 0 = zero-tid h tid in omega (arith, z, after, below, rest, some, few)))

  -- no keyframe stands among the four
  none-key : f % 4 ≡ 3 → (h : ℕ) → f - 3 < h → h < f → IsKey (frames_from 0 ds) h → ⊥
  none-key rest h after below has =
      let z : h % 300 ≡ 0 = eqb-true (h % 300) 0 (key-of ds h has) in omega (arith, z, after, below, rest)

  last-refers : is_key f ≡ false → f % 4 ≡ 3 → (g t : ℕ) → t ≤ 2 → f - 3 ≤ g → g < f → tid g ≡ t →
      ((h : ℕ) → g < h → h < f → tid h ≡ t → ⊥) → InChain (sender_of ds) f g
  last-refers key rest g t few from before tid_is none =
      let tid : tid f ≡ 2 = tid-second f (λ no. omega (arith, rest, no)) (λ no. omega (arith, rest, no)) in
      let base : is_on_base (place f) ≡ false = rw tid (rw (ne_eqb (f % 4) 1 (λ no. omega (arith, rest, no)))
      (rw (ne_eqb (f % 4) 2 (λ no. omega (arith, rest, no))) refl)) in
      in-chain ds f g d false is key base (
        t,
        omega (arith, few, tid),
        record {
          last_of = last-of ds t f g within before tid_is none;
          since_key = λ h after below has. none-key rest h (omega (arith, from, after)) below has;
        },
      )

  -- each reference lies in the frame's chain
  pub references-in : All (λ g. InChain (sender_of ds) f g) (references f)
  references-in = elim (eqb_tells (f % 300) 0) [
    | inl key ↦ rw key.0 (All-nil (λ g. InChain (sender_of ds) f g))
    | inr more ↦ rw more.0 (elim (eqb_tells (f % 4) 0) [
      | inl zeroth ↦ rw zeroth.0 (one (λ g. InChain (sender_of ds) f g) (f - 4) (zeroth-refers more.0 zeroth.1))
      | inr other ↦ rw other.0 (elim (eqb_tells (f % 4) 3) [
        | inl third ↦ rw third.0 (three (λ g. InChain (sender_of ds) f g) (f - 3) (f - 2) (f - 1)
            (last-refers more.0 third.1 (f - 3) 0 (omega arith) (omega arith) (omega (arith, third.1))
            (tid-zero (f - 3) (omega (arith, third.1)))
            (λ h after below tid. let z : h % 4 ≡ 0 = zero-tid h tid in omega (arith, z, after, below, third.1)))
            (last-refers more.0 third.1 (f - 2) 2 (omega arith) (omega arith) (omega (arith, third.1))
            (tid-second (f - 2) (λ z. omega (arith, z, third.1)) (λ z. omega (arith, z, third.1)))
            (λ h after below tid. let z = second-tid h tid in z.1 (omega (arith, after, below, third.1))))
            (last-refers more.0 third.1 (f - 1) 1 (omega arith) (omega (arith, third.1)) (omega (arith, third.1))
            (tid-first (f - 1) (omega (arith, third.1)))
            (λ h after below tid. omega (arith, after, below))))
        | inr last ↦ rw last.0 (one (λ g. InChain (sender_of ds) f g) (f - f % 4)
            (middle-refers (f % 4) more.0 refl (omega (arith, other.1)) (omega (arith, last.1)) (rests other.1 last.1)))
      ])
    ])
  ]
    where
      rests : f % 4 ≢ 0 → f % 4 ≢ 3 → rests_on_base f ≡ true
      rests other last = elim (eqb_tells (f % 4) 1) [
        | inl first ↦ rw first.0 refl
        | inr third ↦ rw third.0 (eq-eqb (f % 4) 2 (omega (arith, other, last, third.1)))
      ]
