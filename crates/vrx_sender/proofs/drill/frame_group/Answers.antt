use Rattle.std.proofs.Common.{ap, ◌+◌, ◌-◌, ◌∙◌}
use Rattle.vrx_sender.specs.declared.drill.Stage.{Stage}
use Rattle.vrx_sender.proofs.DrillLemmas.{frame-goes-on, put-all}
use Rattle.vrx_sender.proofs.drill.frame_group.Goals as goal

pub returns : goal.returns
returns c =
    let sent = c.in_ok-in_time.ensures.sent in
    let shifts = c.due.ensures.shifts in
    record {
      goes_on = frame-goes-on c.args.stage.now c.send.new.stage _ c.in_ok-in_time.field-0 _ c.moment-now.result
          c.requires.under_way c.requires.some sent c.moment-now.ensures.value
          (put-all c.moment-now.result c.new-events.result.items c.put_datagrams.new.events.items
          c.put_datagrams-2.new.events.items c.put_datagrams-3.new.events.items _ c.in_ok-in_time.field-0.in_time.items
          c.in_ok-in_time.field-0.late.items c.due.result.items c.args.stage.now.oldest.items
          c.new-events.ensures.items c.in_ok-put_datagrams.ensures c.in_ok-put_datagrams-2.ensures
          c.in_ok-put_datagrams-3.ensures
          (ap (λ v. v.items) c.due.ensures.due ∙ ap (λ (s : Stage). s.oldest.items) sent.stage) c.in_ok-put_pulls.ensures)
          (ap (λ (s : Stage). s.group + 1) shifts ∙ ap (λ (s : Stage). s.group + 1) sent.stage)
          (ap (λ (s : Stage). s.frames - 1) shifts ∙ ap (λ (s : Stage). s.frames - 1) sent.stage)
          (ap (λ (s : Stage). s.later) shifts ∙ ap (λ (s : Stage). s.later) sent.stage)
          (ap (λ (s : Stage). s.packets) shifts) (ap (λ (s : Stage). s.resent) shifts)
          (ap (λ (s : Stage). s.draws) shifts)
          (ap (λ (s : Stage). s.oldest) shifts ∙ ap (λ (s : Stage). s.middle) sent.stage)
          (ap (λ (s : Stage). s.middle) shifts ∙ ap (λ (s : Stage). s.newest) sent.stage)
          (ap (λ (s : Stage). s.newest) shifts);
      ended = ap (λ (s : Stage). s.ended) shifts ∙ c.send.ensures.ended;
    }
