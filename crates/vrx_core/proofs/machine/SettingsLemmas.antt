-- The settings' fault is the first that says so.
use Rattle.std.proofs.Common.{◌≡◌, ℕ, suc, zero, ◌<◌, ◌≤◌, ◌==◌, ◌&&◌, ◌||◌, Bool, true, false, List, [], ◌∷◌, length, Option, Some, None, refl, sym, ◌∙◌, ap, ◌⊎◌, inl, inr, arith}
use Rattle.std.specs.Prelude.{◌≢◌, ◌↔◌, Result, Ok, Err, IfErr, IfSome, nat_le, nat_lt, slice_index, is_some, is_none}
use Rattle.std.specs.List.{Any, list_any}
use Rattle.std.specs.Option.{option_and_then, option_map}
use Rattle.std.specs.Result.{IsErrOf}
use Rattle.std.proofs.lemmas.Bool.{or_cases, or_left, or_right, and_parts, and_from, leb-true, ltb-true, ltb-false, le-leb, lt-ltb, eqb-true, eq-eqb, false≢true, true≢false}
use Rattle.std.proofs.lemmas.List.Folds.{Any-from_list_any, list_any-from_Any}
use Rattle.std.proofs.lemmas.Option.{none-some, same_Some}
use Rattle.vrx_core.specs.machine.SettingsFault.{values_in, types_of, ssrcs_of, IsBadType, HasEqual, Says, IsFault, is_bad_type, holds, has_equal, lacks_red, is_bad_interval, first_of, fault_of}
use Rattle.vrx_core.specs.inside.Seen.{HasTypes}
use Rattle.vrx_core.specs.declared.settings.Red.{Red}
use Rattle.vrx_core.specs.declared.settings.Settings.{Settings}
use Rattle.vrx_core.specs.declared.settings.NewFault.{NewFault}
use Rattle.vrx_core.specs.declared.settings.NewFault.TheVariants.{BadType, SameType, SameSsrc, RedMissing, BadInterval, NoMemory}

-- a bad type, as the test says it
bad_type-to : (type : ℕ) → is_bad_type type ≡ true → IsBadType type
bad_type-to type h = elim (or_cases _ _ h) [
  | inl between ↦ let both = and_parts _ _ between in inl (leb-true 64 type both.0, leb-true type 95 both.1)
  | inr above ↦ inr (ltb-true 127 type above)
]

bad_type-from : (type : ℕ) → IsBadType type → is_bad_type type ≡ true
bad_type-from type (inl between) = or_left _ _ (and_from _ _ (le-leb 64 type between.0) (le-leb type 95 between.1))
bad_type-from type (inr above) = or_right _ _ (lt-ltb 127 type above)

-- some type is bad, as the test says it
bad_types : (types : List ℕ) → (list_any is_bad_type types ≡ true) ↔ Any IsBadType types
bad_types types = (
  λ h. let a = Any-from_list_any is_bad_type types h in (a.0, a.1, a.2, a.3, bad_type-to a.1 a.4),
  λ a. list_any-from_Any is_bad_type types (a.0, a.1, a.2, a.3, bad_type-from a.1 a.4),
)

-- a place of a member
held-to : (members : List ℕ) (member : ℕ) → holds members member ≡ true →
    (k : ℕ) × (k < length members) × (slice_index members k ≡ member)
held-to [] member h = absurd (false≢true h)
held-to (other ∷ members) member h = elim (or_cases (other == member) (holds members member) h) [
  | inl same ↦ (0, omega arith, eqb-true other member same)
  | inr more ↦ let k = held-to members member more in (suc k.0, omega (arith, k.1), k.2)
]

held-from : (members : List ℕ) (member k : ℕ) → k < length members → slice_index members k ≡ member →
    holds members member ≡ true
held-from [] member k within is = absurd (omega (arith, within))
held-from (other ∷ members) member zero within is = or_left _ _ (eq-eqb other member is)
held-from (other ∷ members) member (suc k) within is =
    or_right _ _ (held-from members member k (omega (arith, within)) is)

-- two members are equal, as the test says it
equal-to : (members : List ℕ) → has_equal members ≡ true → HasEqual members
equal-to [] h = absurd (false≢true h)
equal-to (member ∷ members) h = elim (or_cases (holds members member) (has_equal members) h) [
  | inl first ↦ let k = held-to members member first in
      record { earlier = 0; later = suc k.0; apart = omega arith; within = omega (arith, k.1); same = sym k.2 }
  | inr more ↦ let e = equal-to members more in
      record {
        earlier = suc e.earlier;
        later = suc e.later;
        apart = omega (arith, e.apart);
        within = omega (arith, e.within);
        same = e.same;
      }
]

equal-at : (members : List ℕ) (i j : ℕ) → i < j → j < length members → slice_index members i ≡ slice_index members j →
    has_equal members ≡ true
equal-at [] i j apart within same = absurd (omega (arith, within))
equal-at (member ∷ members) i zero apart within same = absurd (omega (arith, apart))
equal-at (member ∷ members) zero (suc j) apart within same =
    or_left _ _ (held-from members member j (omega (arith, within)) (sym same))
equal-at (member ∷ members) (suc i) (suc j) apart within same =
    or_right _ _ (equal-at members i j (omega (arith, apart)) (omega (arith, within)) same)

equals : (members : List ℕ) → (has_equal members ≡ true) ↔ HasEqual members
equals members = (equal-to members, λ e. equal-at members e.earlier e.later e.apart e.within e.same)

-- what isn't there
absent-to : {A : Type 0} (o : Option A) → is_none o ≡ true → is_some o ≡ false
absent-to None h = refl
absent-to (Some x) h = absurd (false≢true h)

absent-from : {A : Type 0} (o : Option A) → is_some o ≡ false → is_none o ≡ true
absent-from None h = refl
absent-from (Some x) h = absurd (true≢false h)

red_missing : (settings : Settings) → (lacks_red settings ≡ true) ↔ Says settings RedMissing
red_missing settings = (
  λ h. let both = and_parts (is_some (option_and_then (λ rtx. rtx.red_rtx_type) settings.rtx))
      (is_none settings.red) h in (both.0, absent-to settings.red both.1),
  λ s. and_from _ _ s.0 (absent-from settings.red s.1),
)

bad_interval-to : (interval : ℕ) → is_bad_interval interval ≡ true → (interval ≡ 0) ⊎ (60000 < interval)
bad_interval-to interval h =
    elim (or_cases _ _ h) [
      | inl none ↦ inl (eqb-true interval 0 none)
      | inr above ↦ inr
          (ltb-true 60000 interval above)
    ]

bad_interval-from : (interval : ℕ) → (interval ≡ 0) ⊎ (60000 < interval) → is_bad_interval interval ≡ true
bad_interval-from interval (inl none) = or_left _ _ (eq-eqb interval 0 none)
bad_interval-from interval (inr above) = or_right _ _ (lt-ltb 60000 interval above)

-- another fault comes if the first test says nothing, and one after it does
peel : {P X : Type 0} (test : Bool) (fault other : NewFault) (others : Option NewFault) → fault ≢ other →
    (test ≡ true) ↔ P → (others ≡ Some other) ↔ X → (first_of test fault others ≡ Some other) ↔ ((¬ P) × X)
peel true fault other others apart means later =
    (λ h. absurd (apart (same_Some fault other h)), λ x. absurd (x.0 (means.0 refl)))
peel false fault other others apart means later = (λ h. (λ p. false≢true (means.1 p), later.0 h), λ x. later.1 x.1)

-- this one comes if its test says so
hit : {P : Type 0} (test : Bool) (fault : NewFault) (others : Option NewFault) → (others ≡ Some fault → ⊥) →
    (test ≡ true) ↔ P → (first_of test fault others ≡ Some fault) ↔ P
hit true fault others never means = (λ h. means.0 refl, λ p. refl)
hit false fault others never means = (λ h. absurd (never h), λ p. absurd (false≢true (means.1 p)))

-- a fault that no test has
never : (test : Bool) (fault other : NewFault) (others : Option NewFault) → fault ≢ other →
    (others ≡ Some other → ⊥) → first_of test fault others ≡ Some other → ⊥
never true fault other others apart behind h = apart (same_Some fault other h)
never false fault other others apart behind h = behind h

module _ (settings : Settings) where
  -- the faults from each test on
  abbrev from_4 : Option NewFault
  from_4 = first_of (is_bad_interval settings.interval) BadInterval None

  abbrev from_3 : Option NewFault
  from_3 = first_of (lacks_red settings) RedMissing from_4

  abbrev from_2 : Option NewFault
  from_2 = first_of (has_equal (ssrcs_of settings)) SameSsrc from_3

  abbrev from_1 : Option NewFault
  from_1 = first_of (has_equal (types_of settings)) SameType from_2

  abbrev from_0 : Option NewFault
  from_0 = first_of (list_any is_bad_type (types_of settings)) BadType from_1

  pub fault-bad_type : (fault_of settings ≡ Some BadType) ↔ IsFault settings BadType
  fault-bad_type = hit (list_any is_bad_type (types_of settings)) BadType from_1
      (never (has_equal (types_of settings)) SameType BadType from_2 (λ e. cc)
      (never (has_equal (ssrcs_of settings)) SameSsrc BadType from_3 (λ e. cc)
      (never (lacks_red settings) RedMissing BadType from_4 (λ e. cc)
      (never (is_bad_interval settings.interval) BadInterval BadType None (λ e. cc) (λ e. none-some BadType e)))))
      (bad_types (types_of settings))

  pub fault-same_type : (fault_of settings ≡ Some SameType) ↔ IsFault settings SameType
  fault-same_type = peel (list_any is_bad_type (types_of settings)) BadType SameType from_1 (λ e. cc)
      (bad_types (types_of settings))
      (hit (has_equal (types_of settings)) SameType from_2
      (never (has_equal (ssrcs_of settings)) SameSsrc SameType from_3 (λ e. cc)
      (never (lacks_red settings) RedMissing SameType from_4 (λ e. cc)
      (never (is_bad_interval settings.interval) BadInterval SameType None (λ e. cc) (λ e. none-some SameType e))))
      (equals (types_of settings)))

  nested-same_ssrc : (fault_of settings ≡ Some SameSsrc)
      ↔ ((¬ Says settings BadType) × ((¬ Says settings SameType) × (Says settings SameSsrc)))
  nested-same_ssrc = peel (list_any is_bad_type (types_of settings)) BadType SameSsrc from_1 (λ e. cc)
      (bad_types (types_of settings))
      (peel (has_equal (types_of settings)) SameType SameSsrc from_2 (λ e. cc) (equals (types_of settings))
      (hit (has_equal (ssrcs_of settings)) SameSsrc from_3
      (never (lacks_red settings) RedMissing SameSsrc from_4 (λ e. cc)
      (never (is_bad_interval settings.interval) BadInterval SameSsrc None (λ e. cc) (λ e. none-some SameSsrc e)))
      (equals (ssrcs_of settings))))

  pub fault-same_ssrc : (fault_of settings ≡ Some SameSsrc) ↔ IsFault settings SameSsrc
  fault-same_ssrc =
      (λ h. let x = nested-same_ssrc.0 h in (x.0, x.1.0, x.1.1), λ y. nested-same_ssrc.1 (y.0, (y.1, y.2)))

  nested-red_missing : (fault_of settings ≡ Some RedMissing)
      ↔ ((¬ Says settings BadType)
      × ((¬ Says settings SameType) × ((¬ Says settings SameSsrc) × (Says settings RedMissing))))
  nested-red_missing = peel (list_any is_bad_type (types_of settings)) BadType RedMissing from_1 (λ e. cc)
      (bad_types (types_of settings))
      (peel (has_equal (types_of settings)) SameType RedMissing from_2 (λ e. cc) (equals (types_of settings))
      (peel (has_equal (ssrcs_of settings)) SameSsrc RedMissing from_3 (λ e. cc) (equals (ssrcs_of settings))
      (hit (lacks_red settings) RedMissing from_4
      (never (is_bad_interval settings.interval) BadInterval RedMissing None (λ e. cc) (λ e. none-some RedMissing e))
      (red_missing settings))))

  pub fault-red_missing : (fault_of settings ≡ Some RedMissing) ↔ IsFault settings RedMissing
  fault-red_missing = (
    λ h. let x = nested-red_missing.0 h in
        (x.0, x.1.0, x.1.1.0, x.1.1.1),
    λ y. nested-red_missing.1 (y.0, (y.1, (y.2, y.3))),
  )

  nested-bad_interval : (fault_of settings ≡ Some BadInterval)
      ↔ ((¬ Says settings BadType)
      × ((¬ Says settings SameType)
      × ((¬ Says settings SameSsrc) × ((¬ Says settings RedMissing) × (Says settings BadInterval)))))
  nested-bad_interval = peel (list_any is_bad_type (types_of settings)) BadType BadInterval from_1 (λ e. cc)
      (bad_types (types_of settings))
      (peel (has_equal (types_of settings)) SameType BadInterval from_2 (λ e. cc) (equals (types_of settings))
      (peel (has_equal (ssrcs_of settings)) SameSsrc BadInterval from_3 (λ e. cc) (equals (ssrcs_of settings))
      (peel (lacks_red settings) RedMissing BadInterval from_4 (λ e. cc) (red_missing settings)
      (hit (is_bad_interval settings.interval) BadInterval None (λ e. none-some BadInterval e)
      (bad_interval-to settings.interval, bad_interval-from settings.interval)))))

  pub fault-bad_interval : (fault_of settings ≡ Some BadInterval) ↔ IsFault settings BadInterval
  fault-bad_interval = (
    λ h. let x = nested-bad_interval.0 h in
        (x.0, x.1.0, x.1.1.0, x.1.1.1.0, x.1.1.1.1),
    λ y. nested-bad_interval.1 (y.0, (y.1, (y.2, (y.3, y.4)))),
  )

-- what an Err holds, else another fault
err_or : {T : Type 0} → NewFault → Result T NewFault → NewFault
err_or other (Ok x) = other
err_or other (Err fault) = fault

same_Err : {T : Type 0} (f g : NewFault) → ◌≡◌ {A = Result T NewFault} (Err f) (Err g) → f ≡ g
unfolding err_or
same_Err f g h = ap (err_or f) h

-- if the settings have a fault, that one is told
pub told-fault : {T P : Type 0} (settings : Settings) (fault other : NewFault) → fault_of settings ≡ Some fault →
    (fault_of settings ≡ Some other) ↔ P → IsErrOf {T = T} (Err fault) other ↔ P
told-fault settings fault other is means =
    (λ e. means.0 (is ∙ ap Some (same_Err fault other e)), λ p. ap Err (same_Some fault other (sym is ∙ means.1 p)))

-- if they have none, only out of memory is told
pub told-none : {T P : Type 0} (settings : Settings) (r : Result T NewFault) (other : NewFault) →
    fault_of settings ≡ None → IfErr r (λ fault. fault ≡ NoMemory) → NoMemory ≢ other →
    (fault_of settings ≡ Some other) ↔ P → IsErrOf r other ↔ P
told-none settings (Ok x) other is memory apart means = (λ e. cc, λ p. absurd (none-some other (sym is ∙ means.1 p)))
told-none settings (Err fault) other is memory apart means =
    (λ e. absurd (apart (sym memory ∙ same_Err fault other e)), λ p. absurd (none-some other (sym is ∙ means.1 p)))

-- out of memory is no fault of settings
not_first : (test : Bool) (fault : NewFault) (others : Option NewFault) → (fault ≡ NoMemory → ⊥) →
    first_of test fault others ≡ Some NoMemory → others ≡ Some NoMemory
not_first true fault others other is = absurd (other (same_Some _ _ is))
not_first false fault others other is = is

never-memory : (settings : Settings) → fault_of settings ≡ Some NoMemory → ⊥
never-memory settings is = none-some NoMemory (
    not_first (is_bad_interval settings.interval) BadInterval None (λ e. cc) (
    not_first (lacks_red settings) RedMissing _ (λ e. cc) (
    not_first (has_equal (ssrcs_of settings)) SameSsrc _ (λ e. cc) (
    not_first (has_equal (types_of settings)) SameType _ (λ e. cc) (
    not_first (list_any is_bad_type (types_of settings)) BadType _ (λ e. cc) is)))))

pub never-fault : {T : Type 0} (settings : Settings) (fault : NewFault) → fault_of settings ≡ Some fault →
    IsErrOf {T = T} (Err fault) NoMemory → ⊥
never-fault settings fault is told = never-memory settings (is ∙ ap Some (same_Err fault NoMemory told))

-- ---- what settings without a fault have

-- if no test finds a fault, the first doesn't
first-none : (test : Bool) (fault : NewFault) (others : Option NewFault) → first_of test fault others ≡ None →
    test ≡ false
first-none true fault others e = absurd (none-some fault (sym e))
first-none false fault others e = refl

neither : (a b : Bool) → (a || b) ≡ false → (a ≡ false) × (b ≡ false)
neither true b h = absurd (true≢false h)
neither false b h = (refl, h)

-- a type that isn't a bad one has seven bits
good-small : (type : ℕ) → is_bad_type type ≡ false → type < 128
good-small type h =
    let most : type ≤ 127 =
    ltb-false 127 type (neither (nat_le 64 type && nat_le type 95) (nat_lt 127 type) h).1 in omega arith

red-small : (red : Option Red) (others : List (Option ℕ)) →
    list_any is_bad_type (values_in (option_map (λ r. r.red_type) red ∷ others)) ≡ false →
    IfSome red (λ r. r.red_type < 128)
red-small None others h = tt
red-small (Some red) others h = good-small red.red_type
    (neither (is_bad_type red.red_type) (list_any is_bad_type (values_in others)) h).0

pub types-good : (settings : Settings) → fault_of settings ≡ None → HasTypes settings
types-good settings none =
    let others : List (Option ℕ) = option_and_then (λ red. red.fec_type) settings.red
    ∷ option_map (λ rtx. rtx.media_rtx_type) settings.rtx ∷ option_and_then (λ rtx. rtx.red_rtx_type) settings.rtx
    ∷ [] in
    let each : (is_bad_type settings.media_type ≡ false)
    × (list_any is_bad_type (values_in (option_map (λ red. red.red_type) settings.red ∷ others)) ≡ false) =
    neither (is_bad_type settings.media_type)
    (list_any is_bad_type (values_in (option_map (λ red. red.red_type) settings.red ∷ others)))
    (first-none (list_any is_bad_type (types_of settings)) BadType
    (first_of (has_equal (types_of settings)) SameType
    (first_of (has_equal (ssrcs_of settings)) SameSsrc
    (first_of (lacks_red settings) RedMissing
    (first_of (is_bad_interval settings.interval) BadInterval None)))) none) in
    record { media = good-small settings.media_type each.0; red = red-small settings.red others each.1 }
