use Rattle.std.proofs.Common.{◌≡◌, ℕ, length, ap, sym, ◌∙◌, replicate, arith}
use Rattle.vrx_core.specs.declared.event.Event.{Event}
use Rattle.vrx_sender.proofs.DrillLemmas.{still-pulls}
use Rattle.vrx_sender.proofs.drill.last_pulls.Goals as goal

pub returns-clause-last : goal.returns-clause-last
returns-clause-last c =
    let all : length c.loop-events.events.items ≡ 16 =
    omega (arith, c.loop-events.invariant.few, c.loop-events-test.false, c.len.ensures, c.loop-events.events.ok) in
    c.loop-events.invariant.pulls
    ∙ ap (λ (n : ℕ). replicate n (Event.Pull c.moment-now.result))
    all
    ∙ ap (λ (m : ℕ). replicate 16 (Event.Pull m)) c.moment-now.ensures.value
    ∙ sym (still-pulls c.args.stage.now c.requires.none c.requires.later)
