use Rattle.std.proofs.Common.{◌≡◌, ◌≤◌, ◌-◌}
use Rattle.arrayvec.specs.ArrayVec.{array_vec_len}
use Rattle.vrx_refs.specs.declared.limits.TheConstants.{REACH}
use Rattle.vrx_refs.specs.Kept.{is_key_at, tid_at, walk_at}
use Rattle.vrx_refs.specs.References.{walk}
use Rattle.vrx_refs.proofs.finder.Finder.walk.Given as goal

-- the walk goes on from here
abbrev pub invariant-loop : goal.invariant-loop
invariant-loop l = record {
  goes_on : walk (tid_at l.self) (is_key_at l.self) l.place.tid (REACH - l.counter) l.below l.met.items
      ≡ walk_at l.self l.place;
  few : array_vec_len l.met ≤ l.place.tid;
}
