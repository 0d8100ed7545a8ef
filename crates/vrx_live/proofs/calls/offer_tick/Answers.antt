use Rattle.vrx_live.proofs.calls.offer_tick.Goals as goal

pub returns-in-Err-clause-refused : goal.returns-in-Err-clause-refused
returns-in-Err-clause-refused g c =
    c.offer_fault.ensures c.args.seat.now.known c.offer_tick.new.seat.known c.in-Err.ensures.refused
