use Rattle.std.proofs.Common.{arith}
use Rattle.std.proofs.lemmas.List.{get_or_default}
use Rattle.vrx_fec.proofs.PayloadLemmas.{payload-read, only-read}
use Rattle.vrx_fec.proofs.reading.read_fec.Goals as goal

pub returns-clause-payload : goal.returns-clause-payload
returns-clause-payload c =
    payload-read c.args.payload.now c.args.own c.payload_of.result
    (λ k d within. omega (arith, get_or_default c.args.payload.now k d 0 within, c.type_inv.payload k))
    c.payload_of.ensures

pub returns-clause-only : goal.returns-clause-only
returns-clause-only c p = only-read c.args.payload.now c.args.own c.payload_of.result p c.payload_of.ensures
