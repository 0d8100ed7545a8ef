-- What each call makes of what a finder remembers, and what it judges by that. No public clause cites this module.
use Rattle.std.specs.Prelude.{ℕ, ◌+◌, ◌-◌, ◌%◌, Bool, true, false, ◌||◌, ◌&&◌, not, ◌==◌, nat_lt, max, if◌then◌else◌, List, [], slice_set, Option, Some, None, is_none}
use Rattle.std.specs.List.{filter, list_all}
use Rattle.std.specs.Option.{option_map, option_map_or}
use Rattle.vrx_num.specs.Index.{index_before}
use Rattle.vrx_codec.specs.declared.run.Place.{Place}
use Rattle.vrx_codec.specs.declared.run.Run.{Run}
use Rattle.vrx_refs.specs.declared.limits.TheConstants.{INDEXES, MEMORY, REACH}
use Rattle.vrx_refs.specs.declared.sight.Sight.{Sight}
use Rattle.vrx_refs.specs.declared.sighting.Sighting.{Sighting}
use Rattle.vrx_refs.specs.declared.walk.Step.{Step}
use Rattle.vrx_refs.specs.declared.walk.Step.TheVariants.{Lost, Ended, On}
use Rattle.vrx_refs.specs.Finder.{Finder, base_at, sight_at, slot_at}
use Rattle.vrx_refs.specs.References.{Judgement, Key, Needs, Unknown, are_met, counts, is_passed_before, is_recent, met_with, walk}

-- a picture seen for the first time
abbrev pub new_sight : (picture tid : ℕ) → Sight
new_sight picture tid = record { picture = picture; tid = tid; pulled = false; key = false }

-- once a packet carried a picture
abbrev pub with_seen : (picture tid : ℕ) → Finder → Finder
with_seen picture tid finder =
    if is_recent finder.newest picture && is_none (slot_at finder.sights picture) then record {
      newest = max finder.newest picture;
      sights = slice_set finder.sights (picture % MEMORY) (Some (new_sight picture tid));
      bases = finder.bases;
      has_pulled = finder.has_pulled;
    }
    else finder

-- once a picture was pulled
abbrev pub marked : Bool → Sight → Sight
marked key sight = record { picture = sight.picture; tid = sight.tid; pulled = true; key = sight.key || key }

abbrev pub with_marked : ℕ → Bool → Option Sight → List (Option Sight) → List (Option Sight)
with_marked q key None sights = sights
with_marked q key (Some sight) sights = slice_set sights (q % MEMORY) (Some (marked key sight))

abbrev pub with_mark : ℕ → Bool → List (Option Sight) → List (Option Sight)
with_mark q key sights = with_marked q key (slot_at sights q) sights

abbrev pub with_base : Place → List (Option ℕ) → List (Option ℕ)
with_base place bases = if place.tid == 0 then slice_set bases place.tl0 (Some place.picture) else bases

abbrev pub with_place : Bool → Option Place → Finder → Finder
with_place key None finder = finder
with_place key (Some place) finder = record {
  newest = finder.newest;
  sights = with_mark place.picture key finder.sights;
  bases = with_base place finder.bases;
  has_pulled = finder.has_pulled;
}

-- once a run was pulled
abbrev pub with_pulled : Run → Finder → Finder
with_pulled run finder = record {
  newest = finder.newest;
  sights = (with_place run.key run.layers finder).sights;
  bases = (with_place run.key run.layers finder).bases;
  has_pulled = true;
}

-- the TID that is remembered of a picture, whether it was pulled, and whether as a keyframe
abbrev pub tid_at : Finder → ℕ → Option ℕ
tid_at finder q = option_map (λ s. s.tid) (sight_at finder q)

abbrev pub is_pulled_at : Finder → ℕ → Bool
is_pulled_at finder q = option_map_or (λ s. s.pulled) (sight_at finder q) false

abbrev pub is_key_at : Finder → ℕ → Bool
is_key_at finder q = option_map_or (λ s. s.key) (sight_at finder q) false

-- what one picture makes of a walk
abbrev pub step_by : (tid q : ℕ) → List Sighting → Option Sight → Step
step_by tid q met None = Lost
step_by tid q met (Some sight) = if are_met tid (met_with tid q sight.tid met) || sight.key then Ended else On

abbrev pub step_at : Finder → (tid q : ℕ) → List Sighting → Step
step_at finder tid q met = step_by tid q met (sight_at finder q)

-- and of what was met
abbrev pub met_at : Finder → (tid q : ℕ) → List Sighting → List Sighting
met_at finder tid q met = option_map_or (λ sight. met_with tid q sight.tid met) (sight_at finder q) met

-- the walk back from a frame
abbrev pub walk_at : Finder → Place → Option (List ℕ)
walk_at finder place = walk (tid_at finder) (is_key_at finder) place.tid REACH place.picture []

-- the pictures that aren't known to be pulled
abbrev pub not_pulled_at : Finder → List ℕ → List ℕ
not_pulled_at finder pictures = filter (λ q. not (is_pulled_at finder q)) pictures

abbrev pub judge_walk : Finder → Option (List ℕ) → Judgement
judge_walk finder None = Unknown
judge_walk finder (Some pictures) = Needs (not_pulled_at finder pictures)

-- a base was pulled, and so nothing is waited for
abbrev pub judge_base : ℕ → Option ℕ → Judgement
judge_base p None = Unknown
judge_base p (Some b) = if counts p b then Needs [] else Unknown

-- the index of the base to which a frame of this place refers, if it refers to nothing else
abbrev pub base_index : Place → Option ℕ
base_index place = if place.tid == 0 then Some (index_before place.tl0)
    else if place.sync then Some place.tl0 else None

abbrev pub judge_at : Finder → Place → Option ℕ → Judgement
judge_at finder place (Some index) = judge_base place.picture (base_at finder index)
judge_at finder place None = judge_walk finder (walk_at finder place)

abbrev pub judge_place : Finder → Place → Judgement
judge_place finder place = judge_at finder place (base_index place)

abbrev pub judge_next : Bool → Option ℕ → ℕ → Judgement
judge_next has_pulled passed first = if has_pulled && is_passed_before passed first then Needs [] else Unknown

abbrev pub judge_layers : Finder → Option ℕ → ℕ → Option Place → Judgement
judge_layers finder passed first None = judge_next finder.has_pulled passed first
judge_layers finder passed first (Some place) = judge_place finder place

abbrev pub judge_by : Finder → Option ℕ → Run → Judgement
judge_by finder passed run = if run.key then Key else judge_layers finder passed run.first run.layers

-- a base counts
abbrev pub is_base_ready : ℕ → Option ℕ → Bool
is_base_ready p None = false
is_base_ready p (Some b) = counts p b

-- a walk comes to an end, and what it meets was pulled
abbrev pub are_pulled_at : Finder → Option (List ℕ) → Bool
are_pulled_at finder None = false
are_pulled_at finder (Some pictures) = list_all (is_pulled_at finder) pictures

-- a run is ready, by its place and by itself
abbrev pub is_ready_at : Finder → Place → Option ℕ → Bool
is_ready_at finder place (Some index) = is_base_ready place.picture (base_at finder index)
is_ready_at finder place None = are_pulled_at finder (walk_at finder place)

abbrev pub is_place_ready : Finder → Place → Bool
is_place_ready finder place = is_ready_at finder place (base_index place)

abbrev pub is_layers_ready : Finder → Option ℕ → ℕ → Option Place → Bool
is_layers_ready finder passed first None = finder.has_pulled && is_passed_before passed first
is_layers_ready finder passed first (Some place) = is_place_ready finder place

abbrev pub is_run_ready : Finder → Option ℕ → Run → Bool
is_run_ready finder passed run = run.key || is_layers_ready finder passed run.first run.layers

-- a run's index, if it has layers, has 8 bits
abbrev pub has_index : Option Place → Bool
has_index None = true
has_index (Some place) = nat_lt place.tl0 INDEXES
