-- The last frame of a kind before another one, among a sender's frames with layers.
use Rattle.std.proofs.Common.{◌≡◌, ℕ, zero, suc, ◌<◌, ◌≤◌, ◌⊎◌, Bool, true, false, List, length, slice_get, Option, Some, None, IfSome, IsSomeAnd, refl, sym, ◌∙◌, ap, subst, arith, inl, inr}
use Rattle.std.specs.Prelude.{◌==◌}
use Rattle.std.specs.Option.{option_and_then}
use Rattle.std.proofs.lemmas.Bool.{cases_lt, cases_order, eq-eqb, eqb-true, true≢false}
use Rattle.std.proofs.lemmas.Option.{none-some, same_Some, slice_get_cases, slice_get_within}
use Rattle.vrx_codec.specs.declared.run.Place.{Place}
use Rattle.vrx_core.specs.honest.Sender.{SentFrame}
use Rattle.vrx_core.specs.honest.Layers.{HasTid, IsKey, IsLastKey, IsLastOf, IsLastSinceKey, IsLastUpTo, HaveLast, KeepsLayers, layers_at}
use Rattle.vrx_core.proofs.honest.PartLemmas.{some_from, some_holds, some_there}

-- what holds if there is a value holds of one that is there
pub some_if : {A : Type 0} (P : A → Type 0) (o : Option A) (x : A) → o ≡ Some x → IfSome o P → P x
some_if P None x is p = absurd (none-some x is)
some_if P (Some y) x is p = subst P (same_Some y x is) p

-- g is the last number below f of which a test holds
pub record IsLast (test : ℕ → Bool) (f g : ℕ) : Type 0 where
  pub before : g < f
  pub holds : test g ≡ true
  pub last : (h : ℕ) → g < h → h < f → test h ≡ true → ⊥

-- there is one, or the test holds of no number below f
pub find_last : (test : ℕ → Bool) (f : ℕ) →
    ((g : ℕ) × IsLast test f g) ⊎ ((h : ℕ) → h < f → test h ≡ true → ⊥)
find_last test zero = inr (λ h below is. omega (arith, below))
find_last test (suc f) = by (find_last test f) (test f) refl where
  by : ((g : ℕ) × IsLast test f g) ⊎ ((h : ℕ) → h < f → test h ≡ true → ⊥) → (b : Bool) → test f ≡ b →
      ((g : ℕ) × IsLast test (suc f) g) ⊎ ((h : ℕ) → h < suc f → test h ≡ true → ⊥)
  by below true is = inl (
    f,
    record {
      before = omega arith;
      holds = is;
      last = λ h above below _. omega (arith, above, below);
    },
  )
  by lower false isnt = elim lower [
    | inl found ↦ inl (
      found.0,
      record {
        before = omega (arith, found.1.before);
        holds = found.1.holds;
        last = λ h above below holds. elim (cases_lt h f) [
          | inl less ↦ found.1.last h above less holds
          | inr more ↦ let same : f ≡ h = omega (arith, below, more) in
              absurd (true≢false (sym holds ∙ ap test (sym same) ∙ isnt))
        ];
      },
    )
    | inr none ↦ inr (λ h below holds. elim (cases_lt h f) [
      | inl less ↦ none h less holds
      | inr more ↦ let same : f ≡ h = omega (arith, below, more) in
          absurd (true≢false (sym holds ∙ ap test (sym same) ∙ isnt))
    ])
  ]

-- layers, if there are any, have this TID
abbrev pub has_tid : ℕ → Option Place → Bool
has_tid t None = false
has_tid t (Some place) = place.tid == t

-- a frame, if there is one, is a keyframe
abbrev pub is_keyframe : Option SentFrame → Bool
is_keyframe None = false
is_keyframe (Some frame) = frame.key

tid-tested : (t : ℕ) (o : Option Place) → has_tid t o ≡ true → IsSomeAnd o (λ place. place.tid ≡ t)
tid-tested t None h = true≢false (sym h)
tid-tested t (Some place) h = eqb-true place.tid t h

tid-test : (t : ℕ) (o : Option Place) → IsSomeAnd o (λ place. place.tid ≡ t) → has_tid t o ≡ true
tid-test t None h = absurd h
tid-test t (Some place) h = eq-eqb place.tid t h

key-tested : (o : Option SentFrame) → is_keyframe o ≡ true → IsSomeAnd o (λ frame. frame.key ≡ true)
key-tested None h = true≢false (sym h)
key-tested (Some frame) h = h

key-test : (o : Option SentFrame) → IsSomeAnd o (λ frame. frame.key ≡ true) → is_keyframe o ≡ true
key-test None h = absurd h
key-test (Some frame) h = h

-- a frame has one TID
pub one_tid : (t u : ℕ) (o : Option Place) → IsSomeAnd o (λ place. place.tid ≡ t) → IsSomeAnd o (λ place. place.tid ≡ u) →
    t ≡ u
one_tid t u None a b = absurd a
one_tid t u (Some place) a b = sym a ∙ b

-- a frame with layers is in the list
pub layers_within : (frames : List SentFrame) (f : ℕ) (place : Place) → layers_at frames f ≡ Some place →
    f < length frames
layers_within frames f place is = by (slice_get frames f) refl is where
  by : (o : Option SentFrame) → slice_get frames f ≡ o →
      option_and_then (λ frame. frame.layers) o ≡ Some place → f < length frames
  by None _ is = absurd (none-some place is)
  by (Some frame) at _ = slice_get_within frames f frame at

module _ (frames : List SentFrame) where
  -- the last frame of a TID before frame f, if there is one
  pub last_of : (t f : ℕ) → ((g : ℕ) × IsLastOf frames t f g) ⊎ ((g : ℕ) → g < f → HasTid frames g t → ⊥)
  last_of t f = elim (find_last (λ h. has_tid t (layers_at frames h)) f) [
    | inl found ↦ inl (
      found.0,
      record {
        before = found.1.before;
        of_tid = tid-tested t (layers_at frames found.0) found.1.holds;
        last = λ h above below is. found.1.last h above below (tid-test t (layers_at frames h) is);
      },
    )
    | inr none ↦ inr (λ g below is. none g below (tid-test t (layers_at frames g) is))
  ]

  -- the last keyframe before frame f, if there is one
  pub last_key : (f : ℕ) → ((k : ℕ) × IsLastKey frames f k) ⊎ ((k : ℕ) → k < f → IsKey frames k → ⊥)
  last_key f = elim (find_last (λ h. is_keyframe (slice_get frames h)) f) [
    | inl found ↦ inl (
      found.0,
      record {
        before = found.1.before;
        key = key-tested (slice_get frames found.0) found.1.holds;
        last = λ h above below is. found.1.last h above below (key-test (slice_get frames h) is);
      },
    )
    | inr none ↦ inr (λ k below is. none k below (key-test (slice_get frames k) is))
  ]

  -- if some frame before frame f has the TID, the last one is this or a later one
  pub last_from : (t f g : ℕ) → g < f → HasTid frames g t → (b : ℕ) × (g ≤ b) × IsLastOf frames t f b
  last_from t f g below is = elim (last_of t f) [
    | inl found ↦ elim (cases_lt found.0 g) [
      | inl less ↦ absurd (found.1.last g less below is)
      | inr more ↦ (found.0, more, found.1)
    ]
    | inr none ↦ absurd (none g below is)
  ]

  -- and so of keyframes
  pub key_from : (f g : ℕ) → g < f → IsKey frames g → (k : ℕ) × (g ≤ k) × IsLastKey frames f k
  key_from f g below is = elim (last_key f) [
    | inl found ↦ elim (cases_lt found.0 g) [
      | inl less ↦ absurd (found.1.last g less below is)
      | inr more ↦ (found.0, more, found.1)
    ]
    | inr none ↦ absurd (none g below is)
  ]

  -- the last one is one
  pub last_same : (t f g h : ℕ) → IsLastOf frames t f g → IsLastOf frames t f h → g ≡ h
  last_same t f g h a b = elim (cases_order g h) [
    | inl same ↦ same
    | inr (inl less) ↦ absurd (a.last h less b.before b.of_tid)
    | inr (inr more) ↦ absurd (b.last g more a.before a.of_tid)
  ]

  -- what KeepsLayers says of a frame in the list
  pub placed : KeepsLayers frames → (f : ℕ) → f < length frames →
      (place : Place) × (layers_at frames f ≡ Some place) × (place.tl0 < 256) × (IsKey frames f → place.tid ≡ 0)
  placed keeps f within = elim ((slice_get_cases frames f).1) [
    | inl there ↦ let each : IsSomeAnd there.0.layers
        (λ place. (place.tl0 < 256) × (there.0.key ≡ true → place.tid ≡ 0)) =
        some_if (λ frame. IsSomeAnd frame.layers (λ place. (place.tl0 < 256) × (frame.key ≡ true → place.tid ≡ 0)))
        (slice_get frames f) there.0 there.2 (keeps.each f) in
        let p : (place : Place) × (there.0.layers ≡ Some place)
        × ((place.tl0 < 256) × (there.0.key ≡ true → place.tid ≡ 0)) =
        some_there (λ place. (place.tl0 < 256) × (there.0.key ≡ true → place.tid ≡ 0)) there.0.layers each in (
          p.0,
          ap (λ o. option_and_then (λ frame. frame.layers) o) there.2 ∙ p.1,
          p.2.0,
          λ key. p.2.1 (some_holds (λ frame. frame.key ≡ true) (slice_get frames f) there.0 there.2 key),
        )
    | inr past ↦ absurd (omega (arith, within, past.0))
  ]

  -- the first frame, if there is one, is a keyframe, and there is one
  pub key_first : IfSome (slice_get frames 0) (λ frame. frame.key ≡ true) → 0 < length frames → IsKey frames 0
  key_first from_key some = elim ((slice_get_cases frames 0).1) [
    | inl there ↦ some_from (λ frame. frame.key ≡ true) (slice_get frames 0) there.0 there.2
        (some_if (λ frame. frame.key ≡ true) (slice_get frames 0) there.0 there.2 from_key)
    | inr past ↦ absurd (omega (arith, some, past.0))
  ]

  -- the last frame of a TID, not before the last keyframe, is the last since that
  pub since_key : (t f g k : ℕ) → IsLastKey frames f k → IsLastOf frames t f g → k ≤ g → IsLastSinceKey frames t f g
  since_key t f g k key last upto = record {
    last_of = last;
    since_key = λ h above below is. key.last h (omega (arith, above, upto)) below is;
  }

  -- and back
  pub key-upto : (t f g k : ℕ) → IsLastKey frames f k → IsLastSinceKey frames t f g → k ≤ g
  key-upto t f g k key since = elim (cases_lt g k) [
    | inl less ↦ absurd (since.since_key k less key.before key.key)
    | inr more ↦ more
  ]

  -- a TID has such a frame or not
  last_since : (t f k : ℕ) → IsLastKey frames f k →
      ((g : ℕ) × IsLastSinceKey frames t f g) ⊎ ((g : ℕ) → IsLastSinceKey frames t f g → ⊥)
  last_since t f k key = elim (last_of t f) [
    | inl found ↦ elim (cases_lt found.0 k) [
      | inl less ↦ inr (λ g since.
          let same : found.0 ≡ g = last_same t f found.0 g found.1 since.last_of in
          let upto : k ≤ g = key-upto t f g k key since in omega (arith, same, upto, less))
      | inr more ↦ inl (found.0, since_key t f found.0 k key found.1 more)
    ]
    | inr none ↦ inr (λ g since. none g since.last_of.before since.last_of.of_tid)
  ]

  -- each TID up to this one has such a frame or not
  pub have_last : (tid f k : ℕ) → IsLastKey frames f k → HaveLast frames tid f ⊎ (HaveLast frames tid f → ⊥)
  have_last zero f k key = elim (last_since 0 f k key) [
    | inl found ↦ inl (λ t low. let same : 0 ≡ t = omega (arith, low) in
        subst (λ (x : ℕ). (g : ℕ) × IsLastSinceKey frames x f g) same found)
    | inr none ↦ inr (λ have. none (have 0 (omega arith)).0 (have 0 (omega arith)).1)
  ]
  have_last (suc tid) f k key = elim (have_last tid f k key) [
    | inl lower ↦ elim (last_since (suc tid) f k key) [
      | inl found ↦ inl (λ t low. elim (cases_lt t (suc tid)) [
        | inl less ↦ lower t (omega (arith, less))
        | inr more ↦ let same : suc tid ≡ t = omega (arith, low, more) in
            subst (λ (x : ℕ). (g : ℕ) × IsLastSinceKey frames x f g) same found
      ])
      | inr none ↦ inr (λ have. none (have (suc tid) (omega arith)).0 (have (suc tid) (omega arith)).1)
    ]
    | inr none ↦ inr (λ have. none (λ t low. have t (omega (arith, low))))
  ]

  -- if each has one, one of these is the earliest
  pub earliest : (tid f : ℕ) → HaveLast frames tid f →
      (s : ℕ) × IsLastUpTo frames tid f s × ((g : ℕ) → IsLastUpTo frames tid f g → s ≤ g)
  earliest zero f have =
      let one : (g : ℕ) × IsLastSinceKey frames 0 f g = have 0 (omega arith) in (
        one.0,
        (0, omega arith, one.1),
        λ g upto.
            let zero_is : upto.0 ≡ 0 = omega (arith, upto.1) in
            let same : one.0 ≡ g = last_same 0 f one.0 g one.1.last_of
            (subst (λ (x : ℕ). IsLastOf frames x f g) zero_is upto.2.last_of) in
            omega (arith, same),
      )
  earliest (suc tid) f have =
      let lower : (s : ℕ) × IsLastUpTo frames tid f s × ((g : ℕ) → IsLastUpTo frames tid f g → s ≤ g) =
      earliest tid f (λ t low. have t (omega (arith, low))) in
      let one : (g : ℕ) × IsLastSinceKey frames (suc tid) f g = have (suc tid) (omega arith) in
      let each : (s : ℕ) → s ≤ lower.0 → s ≤ one.0 → (g : ℕ) → IsLastUpTo frames (suc tid) f g → s ≤ g =
      λ s under beside g upto. elim (cases_lt upto.0 (suc tid)) [
        | inl less ↦ let from : lower.0 ≤ g = lower.2 g (upto.0, omega (arith, less), upto.2) in
            omega (arith, from, under)
        | inr more ↦
            let tid_is : upto.0 ≡ suc tid = omega (arith, upto.1, more) in
            let same : one.0 ≡ g = last_same (suc tid) f one.0 g one.1.last_of
            (subst (λ (x : ℕ). IsLastOf frames x f g) tid_is upto.2.last_of) in
            omega (arith, same, beside)
      ] in
      elim (cases_lt one.0 lower.0) [
        | inl less ↦ (
          one.0,
          (suc tid, omega arith, one.1),
          each one.0 (omega (arith, less)) (omega arith),
        )
        | inr more ↦ (
          lower.0,
          (lower.1.0, omega (arith, lower.1.1), lower.1.2),
          each lower.0 (omega arith) more,
        )
      ]
