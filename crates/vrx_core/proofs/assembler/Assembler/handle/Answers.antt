use Rattle.std.proofs.Common.{◌≡◌, Ok, Some, refl, subst, ap, ◌∙◌}
use Rattle.std.specs.Result.{result_map_both}
use Rattle.vrx_window.specs.Content.{contents_of}
use Rattle.vrx_core.specs.machine.Verdict.{verdict}
use Rattle.vrx_core.specs.relation.StandsFor.{Assembly}
use Rattle.vrx_core.specs.inside.Fields.{IsNear, MayBeTaken}
use Rattle.vrx_core.specs.inside.Seen.{view_taken}
use Rattle.vrx_core.specs.inside.Wants.{lost_from}
use Rattle.vrx_buffer.specs.Order.{greatest_of}
use Rattle.vrx_core.proofs.step.TakeLemmas.{handled-taken}
use Rattle.vrx_core.proofs.assembler.Assembler.handle.Goals as goal

pub returns-in_ok-plan-in-Ok-clause-handled : goal.returns-in_ok-plan-in-Ok-clause-handled
returns-in_ok-plan-in-Ok-clause-handled g c =
    let taken = view_taken c.in-Ok.taken in
    let may = subst (λ (p : Assembly).
    MayBeTaken g.C.Codec.meaning p.window p.pictures c.in-Ok.taken.number c.in_ok-held-in-Ok.held) c.self.view_is (record {
      fresh = c.in-Ok.ensures.fresh;
      near = subst (λ o. IsNear o c.in-Ok.taken.number) c.self.invariant.newest c.in-Ok.ensures.reach;
      sound = c.in_ok-held-in-Ok.ensures.sound;
      placed = c.in_ok-held-in-Ok.ensures.placed;
    }) in
    handled-taken g.C.Codec.meaning c.args.self.now c.take-repaired.new.self c.args.moment c.args.octets.now
    (record {
      what = c.answer_taken.result;
      arrival =
          Some (record {
            number = c.in-Ok.taken.number;
            newest = c.newest-newest.result;
            lost = c.greatest_lost-lost.result;
            repaired = c.take-repaired.result.0;
            key = c.take-repaired.result.1;
          });
    }) c.in-Ok.taken.number taken.1
    (record {
      number = c.in-Ok.taken.number;
      newest = c.newest-newest.result;
      lost = c.greatest_lost-lost.result;
      repaired = c.take-repaired.result.0;
      key = c.take-repaired.result.1;
    })
    (subst (λ (p : Assembly).
    verdict p.settings g.C.Codec.meaning (contents_of p.window) c.args.octets.now ≡ Ok
    (c.in-Ok.taken.number, taken.1)) c.self.view_is
    (c.verdict.ensures.value ∙ ap (result_map_both view_taken (λ left. left)) c.in-Ok.is))
    (record {
      held = c.in_ok-held-in-Ok.held;
      content_is = c.in_ok-held-in-Ok.ensures.content;
      may = may;
      made = c.in_ok-plan-in-Ok.plan;
      planned = c.in_ok-plan-in-Ok.ensures.plan;
      taken = c.take-repaired.ensures.taken.0;
      counts = c.take-repaired.ensures.counts;
      arrives = record {
        number_is = refl;
        newest_is = c.newest-newest.ensures.newest ∙ ap (λ (p : Assembly). p.window.newest) c.self.view_is;
        lost_is = c.greatest_lost-lost.ensures
            ∙ ap (λ (p : Assembly). greatest_of (lost_from p.window p.front c.in-Ok.taken.number)) c.self.view_is;
        repaired_is = c.take-repaired.ensures.repaired;
        key_is = c.take-repaired.ensures.taken.1;
      };
    }) c.answer_taken.ensures refl
