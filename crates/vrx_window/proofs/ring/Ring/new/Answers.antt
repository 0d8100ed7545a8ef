use Rattle.std.proofs.Common.{◌≡◌, ◌∙◌, ap, replicate, arith}
use Rattle.vrx_num.specs.declared.limits.TheConstants.{WINDOW}
use Rattle.vrx_window.specs.declared.slot.Slot.TheVariants.{Free}
use Rattle.vrx_window.proofs.RingLemmas.{ring_new}
use Rattle.vrx_window.proofs.ring.Ring.new.Goals as goal

pub invariant_of-result : goal.invariant_of-result
invariant_of-result g c =
    let all : c.loop.counter ≡ WINDOW = omega (arith, c.loop-test.false, c.loop.auto.counter-end) in
    ring_new _ (c.loop.invariant ∙ ap (λ n. replicate n Free) all)
