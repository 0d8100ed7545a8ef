use Rattle.std.proofs.Common.{List, refl, sym, subst, arith}
use Rattle.vrx_repair.specs.Plan.{IsPlan}
use Rattle.vrx_repair.specs.Source.{Source, source_of}
use Rattle.vrx_repair.specs.declared.repair.Repair.{Repair}
use Rattle.vrx_repair.proofs.PlanLemmas.{planning-nothing}
use Rattle.vrx_repair.proofs.planning.plan.Goals as goal

pub returns-then-not-is_fec_there : goal.returns-then-not-is_fec_there
returns-then-not-is_fec_there g c =
    let source : Source = source_of g.C.Codec.meaning c.args.reading.now.media_ssrc c.args.reading.now.media_type in
    record {
      plan = subst (λ (made : List Repair). IsPlan source c.args.n c.args.held.now c.args.window.now made)
          (sym c.new.ensures.items) (record {
            fresh = c.requires.fresh;
            repairs = planning-nothing source c.args.n c.args.held.now c.args.window.now c.requires.fresh c.requires.sound
                c.requires.says c.newest-newest.ensures.sound (c.if-not-is_fec_there.ensures.placed refl)
                (c.if-not-is_fec_there.ensures.held refl);
            sound = λ i d less. absurd (omega arith);
          });
    }
