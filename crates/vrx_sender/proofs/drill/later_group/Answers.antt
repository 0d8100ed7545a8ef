use Rattle.std.proofs.Common.{ap, ◌+◌, ◌-◌, ◌∙◌}
use Rattle.vrx_sender.specs.declared.drill.Stage.{Stage}
use Rattle.vrx_sender.proofs.DrillLemmas.{later-goes-on, put-one}
use Rattle.vrx_sender.proofs.drill.later_group.Goals as goal

pub returns : goal.returns
returns c =
    let shifts = c.due.ensures.shifts in
    record {
      goes_on = later-goes-on c.args.stage.now _ _ c.moment-now.result c.requires.under_way c.requires.none
          c.requires.later c.moment-now.ensures.value
          (put-one c.moment-now.result c.new-events.result.items c.put_datagrams.new.events.items _
          c.due.result.items c.args.stage.now.oldest.items c.new-events.ensures.items c.in_ok-put_datagrams.ensures
          (ap (λ v. v.items) c.due.ensures.due) c.in_ok-put_pulls.ensures)
          (ap (λ (s : Stage). s.group + 1) shifts) (ap (λ (s : Stage). s.frames) shifts)
          (ap (λ (s : Stage). s.later - 1) shifts) (ap (λ (s : Stage). s.packets) shifts)
          (ap (λ (s : Stage). s.resent) shifts) (ap (λ (s : Stage). s.draws) shifts)
          (ap (λ (s : Stage). s.oldest) shifts) (ap (λ (s : Stage). s.middle) shifts)
          (ap (λ (s : Stage). s.newest.items) shifts ∙ c.new-none.ensures.items);
      ended = ap (λ (s : Stage). s.ended) shifts;
    }
