use Rattle.std.proofs.Common.{◌∙◌, Some, ap, sym}
use Rattle.std.specs.Option.{option_copied}
use Rattle.vrx_window.specs.Window.{is_too_old, would_of}
use Rattle.vrx_window.proofs.WindowLemmas.{would_dead, would_fresh, would_repeat}
use Rattle.vrx_window.proofs.window.Window.would.Goals as goal

pub returns-in-Some-GivenUp : goal.returns-in-Some-GivenUp
returns-in-Some-GivenUp c =
    let is = sym c.get.ensures.value ∙ ap option_copied c.in-Some-GivenUp.is ∙ ap Some c.in-Some-GivenUp.field-0-is in
    let young = ap (λ m. is_too_old m c.args.n) (sym c.newest.ensures.newest) ∙ sym c.is_too_old.ensures
    ∙ c.if-is_too_old.false in
    record {
      would = sym (would_dead c.self.inside.first c.self.inside.ring c.self.invariant.sound c.args.n is young)
          ∙ ap (λ w. would_of w c.args.n) c.self.view_is;
    }

pub returns-in-Some-Taken : goal.returns-in-Some-Taken
returns-in-Some-Taken c =
    let is = sym c.get.ensures.value ∙ ap option_copied c.in-Some-Taken.is ∙ ap Some c.in-Some-Taken.field-0-is in
    let young = ap (λ m. is_too_old m c.args.n) (sym c.newest.ensures.newest) ∙ sym c.is_too_old.ensures
    ∙ c.if-is_too_old.false in
    record {
      would = sym (would_repeat c.self.inside.first c.self.inside.ring c.self.invariant.sound c.args.n
          c.in-Some-Taken.field-0-0 is young)
          ∙ ap (λ w. would_of w c.args.n) c.self.view_is;
    }

pub returns-in-None : goal.returns-in-None
returns-in-None c =
    let is = sym c.get.ensures.value ∙ ap option_copied c.in-None.is in
    let young = ap (λ m. is_too_old m c.args.n) (sym c.newest.ensures.newest) ∙ sym c.is_too_old.ensures
    ∙ c.if-is_too_old.false in
    record {
      would = sym (would_fresh c.self.inside.first c.self.inside.ring c.self.invariant.sound c.args.n is young)
          ∙ ap (λ w. would_of w c.args.n) c.self.view_is;
    }
