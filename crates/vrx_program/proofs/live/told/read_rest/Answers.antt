use Rattle.vrx_program.proofs.live.told.read_rest.Goals as goal

pub returns-in-Ok-false-clause-reads : goal.returns-in-Ok-false-clause-reads
returns-in-Ok-false-clause-reads g c start first d =
    rw c.in-Ok-false.field-0-test at (c.in-Ok-false.ensures.reads start first (c.events.invariant.dealing start first d))

pub returns-in-Err-clause-reads : goal.returns-in-Err-clause-reads
returns-in-Err-clause-reads g c start first d =
    c.in-Err.ensures.reads start first (c.events.invariant.dealing start first d)
