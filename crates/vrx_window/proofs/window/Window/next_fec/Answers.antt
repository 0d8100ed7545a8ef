use Rattle.std.proofs.Common.{◌∙◌, ◌≡◌, Some, None, ap, arith, inl, inr, subst, sym, ◌+◌}
use Rattle.std.proofs.lemmas.Bool.{cases_lt}
use Rattle.vrx_window.specs.Marks.{IsMarked}
use Rattle.vrx_window.specs.Window.{is_inside}
use Rattle.vrx_window.proofs.FecLemmas.{never_held, next_found, next_none, none_before_next, none_upto_next, unheld_beyond, unheld_outside}
use Rattle.vrx_window.proofs.window.Window.next_fec.Goals as goal

pub returns-in_err-newest : goal.returns-in_err-newest
returns-in_err-newest c =
    let window = c.args.self.now in
    let none : window.newest ≡ None = sym c.newest.ensures.newest ∙ c.in_err-newest.was in
    record {
      next = c.from_residual.ensures ∙ sym (next_none c.args.from window.packets c.newest.ensures.sound.packets_rise
          (λ k later. unheld_outside window c.newest.ensures.sound k (ap (λ o. is_inside o k) none)));
    }

pub returns-then-not-self : goal.returns-then-not-self
returns-then-not-self c = record {
  next = sym (next_none c.args.from c.args.self.now.packets c.newest.ensures.sound.packets_rise
      (λ k later. never_held c.self.inside.first c.self.inside.ring c.self.inside.marks
      (subst (IsMarked c.self.inside.ring c.self.inside.marks) c.if-not-self.true c.self.invariant) c.args.self.now c.self.view_is k));
}

pub returns-then-is_fec : goal.returns-then-is_fec
returns-then-is_fec c = record {
  next = sym (next_found c.args.from c.next_marked-n.result c.args.self.now.packets
      c.newest.ensures.sound.packets_rise (omega (arith, c.loop-n.invariant.0, c.next_marked-n.ensures.from))
      (sym c.is_fec.ensures ∙ c.if-is_fec.true)
      (none_before_next c.self.inside.first c.self.inside.ring c.self.inside.marks c.self.inside.has_fec c.self.invariant c.args.self.now
      c.self.view_is c.args.from c.loop-n.n c.next_marked-n.result c.loop-n.invariant.1 c.next_marked-n.ensures.passed));
}

pub returns-then-n-newest : goal.returns-then-n-newest
returns-then-n-newest c =
    let newest : c.args.self.now.newest ≡ Some c.in_ok-newest.newest = sym c.newest.ensures.newest ∙ c.in_ok-newest.was in
    let same : c.next_marked-n.result ≡ c.in_ok-newest.newest = omega arith in
    let so_far = none_upto_next c.self.inside.first c.self.inside.ring c.self.inside.marks c.self.inside.has_fec c.self.invariant
    c.args.self.now c.self.view_is c.args.from c.loop-n.n c.next_marked-n.result c.loop-n.invariant.1
    c.next_marked-n.ensures.passed (sym c.is_fec.ensures ∙ c.if-is_fec.false) in
    record {
      next = sym (next_none c.args.from c.args.self.now.packets c.newest.ensures.sound.packets_rise
          (λ k later. elim (cases_lt k (c.next_marked-n.result + 1)) [
            | inl less ↦ so_far k later less
            | inr more ↦
                unheld_beyond c.args.self.now c.newest.ensures.sound c.in_ok-newest.newest newest k (omega arith)
          ]));
    }

pub loop-n-preserved : goal.loop-n-preserved
loop-n-preserved c = (
  omega (arith, c.loop-n.invariant.0, c.next_marked-n.ensures.from),
  none_upto_next c.self.inside.first c.self.inside.ring c.self.inside.marks c.self.inside.has_fec c.self.invariant c.args.self.now
      c.self.view_is c.args.from c.loop-n.n c.next_marked-n.result c.loop-n.invariant.1 c.next_marked-n.ensures.passed
      (sym c.is_fec.ensures ∙ c.if-is_fec.false),
)

pub returns : goal.returns
returns c =
    let newest : c.args.self.now.newest ≡ Some c.in_ok-newest.newest = sym c.newest.ensures.newest ∙ c.in_ok-newest.was in
    record {
      next = sym (next_none c.args.from c.args.self.now.packets c.newest.ensures.sound.packets_rise
          (λ k later. elim (cases_lt k c.loop-n.n) [
            | inl less ↦ c.loop-n.invariant.1 k later less
            | inr more ↦
                unheld_beyond c.args.self.now c.newest.ensures.sound c.in_ok-newest.newest newest k (omega arith)
          ]));
    }
