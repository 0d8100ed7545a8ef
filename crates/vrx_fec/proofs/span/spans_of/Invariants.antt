use Rattle.std.proofs.Common.{◌≡◌, map, take}
use Rattle.vrx_fec.specs.Parity.{spans_of}
use Rattle.vrx_fec.specs.View.{view_level}
use Rattle.vrx_fec.proofs.span.spans_of.Given as goal

abbrev pub invariant-loop-level : goal.invariant-loop-level
invariant-loop-level l = l.spans.items ≡ spans_of (map view_level (take l.level-index l.level-items))
