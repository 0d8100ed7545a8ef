use Rattle.std.proofs.Common.{◌≡◌, ◌≤◌}
use Rattle.std.specs.Prelude.{take}
use Rattle.arrayvec.specs.ArrayVec.{array_vec_len}
use Rattle.vrx_refs.specs.Kept.{not_pulled_at}
use Rattle.vrx_refs.specs.References.{pictures}
use Rattle.vrx_refs.proofs.finder.Finder.not_pulled.Given as goal

-- the first pictures were looked at
abbrev pub invariant-loop-i : goal.invariant-loop-i
invariant-loop-i l = record {
  noted : l.pictures.items ≡ not_pulled_at l.self (pictures (take l.i l.met));
  few : array_vec_len l.pictures ≤ l.i;
}
