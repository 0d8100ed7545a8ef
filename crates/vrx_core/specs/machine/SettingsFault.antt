-- Which settings are refused, and for which fault.
use Rattle.std.specs.Prelude.{◌≡◌, ◌⊎◌, ℕ, ◌<◌, ◌≤◌, Bool, false, ◌&&◌, ◌||◌, ◌==◌, nat_lt, nat_le, if◌then◌else◌, List, [], ◌∷◌, length, slice_index, Option, Some, None, is_some, is_none}
use Rattle.std.specs.List.{Any, list_any, filter_map}
use Rattle.std.specs.Option.{IsSome, IsNone, option_map, option_and_then}
use Rattle.vrx_num.specs.declared.limits.TheConstants.{LONGEST_INTERVAL}
use Rattle.vrx_core.specs.declared.settings.Settings.{Settings}
use Rattle.vrx_core.specs.declared.settings.NewFault.{NewFault}
use Rattle.vrx_core.specs.declared.settings.NewFault.TheVariants.{BadType, SameType, SameSsrc, RedMissing, BadInterval, NoMemory}

-- the values that are there, of some that may be given
abbrev pub values_in : List (Option ℕ) → List ℕ
values_in values = filter_map (λ value. value) values

-- the payload types given: those of media, RED, FEC, and of media and RED in RTX packets
abbrev pub types_of : Settings → List ℕ
types_of settings = values_in (
    Some settings.media_type
    ∷ option_map (λ red. red.red_type) settings.red ∷ option_and_then (λ red. red.fec_type) settings.red
    ∷ option_map (λ rtx. rtx.media_rtx_type) settings.rtx ∷ option_and_then (λ rtx. rtx.red_rtx_type) settings.rtx
    ∷ [])

-- the SSRCs given: those of media, of RTX, and of this receiver
abbrev pub ssrcs_of : Settings → List ℕ
ssrcs_of settings =
    values_in (Some settings.media_ssrc ∷ option_map (λ rtx. rtx.ssrc) settings.rtx ∷ Some settings.from_ssrc ∷ [])

-- a payload type is 64 to 95, which RTCP takes on a shared port (RFC 5761 4), or has more than seven bits
abbrev pub IsBadType : ℕ → Type 0
IsBadType type = ((64 ≤ type) × (type ≤ 95)) ⊎ (127 < type)

-- two members of a list, at different places, are equal
pub record HasEqual (members : List ℕ) : Type 0 where
  pub earlier : ℕ
  pub later : ℕ
  pub apart : earlier < later
  pub within : later < length members
  pub same : slice_index members earlier ≡ slice_index members later

-- what each fault says of settings, by itself
abbrev pub Says : Settings → NewFault → Type 0
-- some type given is a bad one
Says settings BadType = Any IsBadType (types_of settings)
-- two types given are equal
Says settings SameType = HasEqual (types_of settings)
-- two SSRCs given are equal
Says settings SameSsrc = HasEqual (ssrcs_of settings)
-- there is a type of RED in retransmissions, and no RED
Says settings RedMissing = IsSome (option_and_then (λ rtx. rtx.red_rtx_type) settings.rtx) × IsNone settings.red
-- the interval is 0 or above 60,000 milliseconds
Says settings BadInterval = (settings.interval ≡ 0) ⊎ (LONGEST_INTERVAL < settings.interval)
-- `NoMemory` says nothing of settings
Says settings NoMemory = ⊥

-- a fault is the settings' fault if it says so, and none does of those that are tested before it
abbrev pub IsFault : Settings → NewFault → Type 0
IsFault settings BadType = Says settings BadType
IsFault settings SameType = (¬ Says settings BadType) × Says settings SameType
IsFault settings SameSsrc = (¬ Says settings BadType) × (¬ Says settings SameType) × Says settings SameSsrc
IsFault settings RedMissing =
    (¬ Says settings BadType) × (¬ Says settings SameType) × (¬ Says settings SameSsrc) × Says settings RedMissing
IsFault settings BadInterval = (¬ Says settings BadType) × (¬ Says settings SameType) × (¬ Says settings SameSsrc)
    × (¬ Says settings RedMissing) × Says settings BadInterval
IsFault settings NoMemory = ⊥

-- the same, as tests
abbrev pub is_bad_type : ℕ → Bool
is_bad_type type = (nat_le 64 type && nat_le type 95) || nat_lt 127 type

abbrev pub holds : List ℕ → ℕ → Bool
holds members member = list_any (λ other. other == member) members

abbrev pub has_equal : List ℕ → Bool
has_equal [] = false
has_equal (member ∷ members) = holds members member || has_equal members

abbrev pub lacks_red : Settings → Bool
lacks_red settings = is_some (option_and_then (λ rtx. rtx.red_rtx_type) settings.rtx) && is_none settings.red

abbrev pub is_bad_interval : ℕ → Bool
is_bad_interval interval = (interval == 0) || nat_lt LONGEST_INTERVAL interval

-- a fault, if its test says so, or else what the tests after it give
abbrev pub first_of : Bool → NewFault → Option NewFault → Option NewFault
first_of test fault others = if test then Some fault else others

-- the settings' fault, if they have one
abbrev pub fault_of : Settings → Option NewFault
fault_of settings =
    first_of (list_any is_bad_type (types_of settings)) BadType (
    first_of (has_equal (types_of settings)) SameType (
    first_of (has_equal (ssrcs_of settings)) SameSsrc (
    first_of (lacks_red settings) RedMissing (
    first_of (is_bad_interval settings.interval) BadInterval None))))
