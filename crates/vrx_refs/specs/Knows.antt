-- What a finder has to do with what was told and pulled.
use Rattle.std.specs.Prelude.{◌≡◌, ℕ, ◌<◌, true, List, None, is_some}
use Rattle.std.specs.Option.{option_map}
use Rattle.vrx_codec.specs.declared.run.Run.{Run}
use Rattle.vrx_refs.specs.declared.limits.TheConstants.{INDEXES}
use Rattle.vrx_refs.specs.declared.sight.Sight.{Sight}
use Rattle.vrx_refs.specs.declared.sighting.Sighting.{Sighting}
use Rattle.vrx_refs.specs.Finder.{Finder, base_at, sight_at, slot_at}
use Rattle.vrx_refs.specs.References.{base, first_tid, is_some_pulled, newest_of, seen, was_pulled, was_pulled_key}

-- what is to be remembered of a picture of this TID
abbrev pub sight_of : List Run → (q tid : ℕ) → Sight
sight_of pulled q tid = record { picture = q; tid = tid; pulled = was_pulled pulled q; key = was_pulled_key pulled q }

-- The finder remembers the newest picture; of each picture that is seen its TID, and whether it was pulled, and so as
-- a keyframe; the base of each index; and whether a run was pulled. No slot speaks of a picture beyond the newest,
-- and each picture that was pulled was carried by a packet.
pub record Knows (finder : Finder) (told : List Sighting) (pulled : List Run) : Type 0 where
  pub newest : finder.newest ≡ newest_of told
  pub sights : (q : ℕ) → sight_at finder q ≡ option_map (sight_of pulled q) (seen told q)
  pub beyond : (q : ℕ) → newest_of told < q → slot_at finder.sights q ≡ None
  pub bases : (index : ℕ) → index < INDEXES → base_at finder index ≡ base pulled index
  pub pulls : finder.has_pulled ≡ is_some_pulled pulled
  pub carried : (q : ℕ) → was_pulled pulled q ≡ true → is_some (first_tid q told) ≡ true
