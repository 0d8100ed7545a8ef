use Rattle.std.proofs.Common.{◌≡◌, drop}
use Rattle.vrx_window.specs.Window.{at}
use Rattle.vrx_repair.specs.Plan.{entries_of}
use Rattle.vrx_repair.specs.Seen.{content_seen, packets_by}
use Rattle.vrx_repair.proofs.SeenLemmas.{after}
use Rattle.vrx_repair.proofs.seen.look.Given as goal

-- the repairs that are left lead from what was found to what stands under the number
abbrev pub invariant-loop-repair : goal.invariant-loop-repair
invariant-loop-repair l =
    after l.n (entries_of (drop l.repair-index l.made)) (content_seen l.found) ≡ at l.n (packets_by l.seen)
