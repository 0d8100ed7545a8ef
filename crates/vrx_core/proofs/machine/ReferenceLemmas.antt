-- A frame with layers goes out after each frame to which it refers.
use Rattle.std.proofs.Common.{◌≡◌, ℕ, true, cond, List, [], ◌∷◌, map, Option, Some, None, refl, sym, ◌∙◌, ap}
use Rattle.std.proofs.lemmas.Bool.{and_parts, true≢false}
use Rattle.vrx_codec.specs.declared.run.Run.{Run as RunSummary}
use Rattle.vrx_refs.specs.Laws.{FollowsReferences}
use Rattle.vrx_refs.specs.References.{Key, Needs, judge_delta, references, waits_for}
use Rattle.vrx_buffer.specs.Frames.{is_ready}
use Rattle.vrx_frames.specs.Run.{stands, summary_of}
use Rattle.vrx_core.specs.machine.Deliverable.{judged}
use Rattle.vrx_core.specs.machine.Machine.{Snapshot, last_pulled, latest, snapshots}
use Rattle.vrx_core.specs.machine.ReferencesPulled.{ReferencesPulledHolds}
use Rattle.vrx_core.specs.machine.Told.{sightings}
use Rattle.vrx_core.proofs.machine.AnswerLemmas.{answer-given}

-- a ready run that waits for pictures waits for none
ready-needs : (qs : List ℕ) → is_ready (Needs qs) ≡ true → qs ≡ []
ready-needs [] is = refl
ready-needs (q ∷ qs) is = absurd (true≢false (sym is))

-- so it is known to what it refers, and it waits for none of that
ready-waits : (pulled : List RunSummary) (o : Option (List ℕ)) → is_ready (waits_for pulled o) ≡ true →
    waits_for pulled o ≡ Needs []
ready-waits pulled None is = absurd (true≢false (sym is))
ready-waits pulled (Some found) is = ap Needs (ready-needs _ is)

pub references-pulled : FollowsReferences → ReferencesPulledHolds
references-pulled law settings codec h run place is no_key layers =
    law (sightings s.told) (map summary_of s.pulled) s.front (summary_of run) place layers (judged_is ∙ waits) where
      s : Snapshot
      s = latest (snapshots settings codec h)

      judged_is : judged s.told s.pulled s.front run
          ≡ waits_for (map summary_of s.pulled) (references (sightings s.told) (map summary_of s.pulled) place)
      judged_is =
          ap (λ b. cond b Key (judge_delta (sightings s.told) (map summary_of s.pulled) s.front run.first run.layers))
          no_key
          ∙ ap (judge_delta (sightings s.told) (map summary_of s.pulled) s.front run.first) layers

      ready : is_ready (judged s.told s.pulled s.front run) ≡ true
      ready = (and_parts (stands (last_pulled s.pulled) run) (is_ready (judged s.told s.pulled s.front run))
          (answer-given s.told s.pulled s.front s.standing run is).1).1

      waits : waits_for (map summary_of s.pulled) (references (sightings s.told) (map summary_of s.pulled) place)
          ≡ Needs []
      waits = ready-waits (map summary_of s.pulled)
          (references (sightings s.told) (map summary_of s.pulled) place) (sym (ap is_ready judged_is) ∙ ready)
