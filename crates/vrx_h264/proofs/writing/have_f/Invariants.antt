use Rattle.std.proofs.Common.{◌≡◌, drop}
use Rattle.vrx_h264.specs.Writing.{have_f}
use Rattle.vrx_h264.proofs.writing.have_f.Given as goal

-- the units seen were none
abbrev pub invariant-loop-unit : goal.invariant-loop-unit
invariant-loop-unit l = have_f (drop l.unit-index l.units) ≡ have_f l.units
