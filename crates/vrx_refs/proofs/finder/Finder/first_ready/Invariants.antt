use Rattle.std.proofs.Common.{◌≡◌, List, drop}
use Rattle.std.specs.List.{find}
use Rattle.vrx_codec.specs.declared.run.Run.{Run}
use Rattle.vrx_refs.specs.declared.sighting.Sighting.{Sighting}
use Rattle.vrx_refs.specs.Knows.{Knows}
use Rattle.vrx_refs.specs.References.{is_ready, judge}
use Rattle.vrx_refs.proofs.finder.Finder.first_ready.Given as goal

-- what is found is found from here on
abbrev pub invariant-loop-at : goal.invariant-loop-at
invariant-loop-at l = (told : List Sighting) (pulled : List Run) → Knows l.self told pulled →
    find (λ run. is_ready (judge told pulled l.passed run)) (drop l.at l.runs)
    ≡ find (λ run. is_ready (judge told pulled l.passed run)) l.runs
