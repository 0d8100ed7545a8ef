use Rattle.std.proofs.Common.{◌-◌}
use Rattle.vrx_refs.specs.declared.limits.TheConstants.{REACH}
use Rattle.vrx_refs.proofs.ReadyLemmas.{WalksOn}
use Rattle.vrx_refs.proofs.finder.Finder.is_walk_pulled.Given as goal

-- the walk goes on from here
abbrev pub invariant-loop-step : goal.invariant-loop-step
invariant-loop-step l = WalksOn l.self l.place (REACH - l._step) l.below l.met
