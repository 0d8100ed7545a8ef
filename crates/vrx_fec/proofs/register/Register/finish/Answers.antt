use Rattle.vrx_fec.specs.View.{view}
use Rattle.vrx_fec.proofs.RebuildLemmas.{given-own}
use Rattle.vrx_fec.proofs.SumLemmas.{why-long, why-not_covered}
use Rattle.vrx_fec.proofs.register.Register.finish.Goals as goal

pub returns-clause-bad_length : goal.returns-clause-bad_length
returns-clause-bad_length c texts is =
    why-long (view c.args.fec.now) texts c.args.missing c.args.ssrc c.rebuild.result
    (c.rebuild.ensures.rebuilds texts is)

pub returns-clause-not_covered : goal.returns-clause-not_covered
returns-clause-not_covered c texts is =
    why-not_covered (view c.args.fec.now) texts c.args.missing c.args.ssrc c.rebuild.result
    (c.rebuild.ensures.rebuilds texts is)

pub returns-clause-gives : goal.returns-clause-gives
returns-clause-gives c others text is rebuildable =
    given-own (view c.args.fec.now) others c.args.missing c.args.ssrc text c.rebuild.result
    (c.rebuild.ensures.rebuilds others is) rebuildable
