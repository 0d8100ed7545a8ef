use Rattle.std.proofs.Common.{subst}
use Rattle.vrx_window.specs.Numbered.{IsNumbered}
use Rattle.vrx_window.proofs.RingLemmas.{is_numbered}
use Rattle.vrx_window.proofs.ring.Ring.newest.Goals as goal

pub returns-clause-sound : goal.returns-clause-sound
returns-clause-sound g c =
    subst IsNumbered c.self.view_is (is_numbered c.self.inside.newest c.self.inside.slots.items c.self.invariant)
