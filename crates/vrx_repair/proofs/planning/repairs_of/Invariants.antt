use Rattle.std.proofs.Common.{◌-◌}
use Rattle.vrx_num.specs.declared.limits.TheConstants.{WINDOW}
use Rattle.vrx_repair.specs.Source.{source_of}
use Rattle.vrx_repair.proofs.PlanLemmas.{IsPlanning}
use Rattle.vrx_repair.proofs.planning.repairs_of.Given as goal

-- the plan is in the making
abbrev pub invariant-loop : goal.invariant-loop
invariant-loop g l =
    IsPlanning (source_of g.C.Codec.meaning l.reading.media_ssrc l.reading.media_type) l.n l.held l.window l.made.items
    (WINDOW - l.counter)
