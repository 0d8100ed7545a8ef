use Rattle.vrx_core.proofs.relation.CallLemmas.{completes-with}
use Rattle.vrx_core.proofs.assembler.+complete_all.Goals as goal

pub returns-in-len1-up-clause-key : goal.returns-in-len1-up-clause-key
returns-in-len1-up-clause-key g n c =
    completes-with g.C.Codec.meaning c.args.window.now c.args.front c.args.runs.now c.complete-key.new.runs
    c.complete_all-more.new.runs c.complete-key.result c.complete_all-more.result c.complete-key.ensures.key
    c.complete_all-more.ensures.key
