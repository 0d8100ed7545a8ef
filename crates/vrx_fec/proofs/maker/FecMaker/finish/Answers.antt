use Rattle.std.proofs.Common.{◌≡◌, false, subst, sym}
use Rattle.vrx_fec.specs.Payload.{IsPayload, Payload, is_ahead}
use Rattle.vrx_fec.proofs.MakerLemmas.{payload-put, true-read}
use Rattle.vrx_fec.proofs.PayloadLemmas.{reading-payload}
use Rattle.vrx_fec.proofs.maker.FecMaker.finish.Goals as goal

pub returns-clause-payload : goal.returns-clause-payload
returns-clause-payload c own before =
    subst (λ (p : Payload). IsPayload c.put_levels.new.out.items own p) c.self.view_is
    (payload-put c.self.inside.long c.self.inside.base own c.self.inside.spans.items c.self.inside.fields
    c.self.inside.body.items c.self.invariant.planned c.self.invariant.base_fits c.self.invariant.first_field
    c.self.invariant.size (subst (λ (p : Payload). is_ahead own p ≡ false) (sym c.self.view_is) before)
    c.self.inside.out.items c.head_of.result c.put.new.out.items c.put_levels.new.out.items c.as_slice.result.now
    c.as_slice-2.result.now c.self.invariant.empty c.head_of.ensures c.put.ensures.items c.as_slice.ensures.value
    c.as_slice-2.ensures.value c.put_levels.ensures)

pub returns-clause-reads : goal.returns-clause-reads
returns-clause-reads c own before =
    reading-payload c.put_levels.new.out.items own c.args.self (returns-clause-payload c own before)

pub returns-clause-is_true : goal.returns-clause-is_true
returns-clause-is_true c own texts before parity protects =
    true-read c.put_levels.new.out.items own c.args.self texts (returns-clause-reads c own before)
    (record { protects = protects; parity = parity })
