use Rattle.std.proofs.Common.{◌≡◌, ◌++◌, map, replicate, take}
use Rattle.vrx_fec.specs.Parity.{body_of}
use Rattle.vrx_fec.specs.View.{view_level}
use Rattle.vrx_fec.proofs.register.text_of.Given as goal

abbrev pub invariant-loop-level : goal.invariant-loop-level
invariant-loop-level l = l.text.items ≡ replicate 12 0 ++ body_of (map view_level (take l.level-index l.levels))
