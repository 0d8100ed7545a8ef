use Rattle.std.proofs.lemmas.Result.{on_ok_weaker}
use Rattle.vrx_live.proofs.worker.step.Goals as goal

pub returns-in-Ok-clause-made : goal.returns-in-Ok-clause-made
returns-in-Ok-clause-made g c =
    on_ok_weaker c.keep.result (λ items. (c.in-Ok.piece, items, c.in-Ok.ensures.made.0, c.in-Ok.ensures.made.1)) c.keep.ensures.ok
