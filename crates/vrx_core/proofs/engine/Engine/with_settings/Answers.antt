use Rattle.vrx_core.proofs.step.WantedLemmas.{stands-opened}
use Rattle.vrx_core.proofs.engine.Engine.with_settings.Goals as goal

pub returns-clause-stands : goal.returns-clause-stands
returns-clause-stands g c =
    stands-opened g.C.Codec.meaning c.in_ok-assembler.assembler c.in-Ok.requests c.in_ok-assembler.ensures.stands
    c.in-Ok.ensures.nothing
