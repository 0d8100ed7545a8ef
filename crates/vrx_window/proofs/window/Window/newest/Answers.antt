use Rattle.std.proofs.Common.{subst}
use Rattle.vrx_window.specs.IsWindow.{IsWindow}
use Rattle.vrx_window.proofs.WindowLemmas.{is_window}
use Rattle.vrx_window.proofs.window.Window.newest.Goals as goal

pub returns-clause-sound : goal.returns-clause-sound
returns-clause-sound c =
    subst IsWindow c.self.view_is (is_window c.self.inside.first c.self.inside.ring c.self.invariant.sound)
