use Rattle.vrx_lock.proofs.offers.datagram.Goals as goal

pub returns-in-Err-clause-err : goal.returns-in-Err-clause-err
returns-in-Err-clause-err g c = c.offer_fault.ensures _ _ c.in-Err.ensures.err.1
