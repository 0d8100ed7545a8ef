use Rattle.std.proofs.Common.{◌∙◌, Some, None, ap, sym}
use Rattle.std.specs.Option.{option_copied}
use Rattle.vrx_window.specs.declared.fate.Fate.TheVariants.{Taken, GivenUp}
use Rattle.vrx_window.specs.Window.{at}
use Rattle.vrx_window.proofs.WindowLemmas.{packet_at}
use Rattle.vrx_window.proofs.window.Window.held.Goals as goal

pub returns-in-Some-Taken : goal.returns-in-Some-Taken
returns-in-Some-Taken c =
    let is = sym c.get.ensures.value ∙ ap option_copied c.in-Some-Taken.is ∙ ap Some c.in-Some-Taken.field-0-is in
    record {
      held = sym (packet_at c.self.inside.first c.self.inside.ring c.self.invariant.sound c.args.n
          (Some (Taken c.in-Some-Taken.held)) is)
          ∙ ap (λ w. at c.args.n w.packets) c.self.view_is;
    }

pub returns-in-Some-GivenUp : goal.returns-in-Some-GivenUp
returns-in-Some-GivenUp c =
    let is = sym c.get.ensures.value ∙ ap option_copied c.in-Some-GivenUp.is ∙ ap Some c.in-Some-GivenUp.field-0-is in
    record {
      held = sym (packet_at c.self.inside.first c.self.inside.ring c.self.invariant.sound c.args.n (Some GivenUp) is)
          ∙ ap (λ w. at c.args.n w.packets) c.self.view_is;
    }

pub returns-in-None : goal.returns-in-None
returns-in-None c =
    let is = sym c.get.ensures.value ∙ ap option_copied c.in-None.is in
    record {
      held = sym (packet_at c.self.inside.first c.self.inside.ring c.self.invariant.sound c.args.n None is)
          ∙ ap (λ w. at c.args.n w.packets) c.self.view_is;
    }
