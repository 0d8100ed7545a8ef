use Rattle.std.proofs.Common.{sym}
use Rattle.vrx_asks.proofs.PlaceLemmas.{beyond-first, some}
use Rattle.vrx_asks.proofs.asks.+count_up_to.Goals as goal

pub returns-then-n-first-clause-rest : goal.returns-then-n-first-clause-rest
returns-then-n-first-clause-rest t c =
    sym (beyond-first c.args.n c.args.asks.now some c.requires.rise c.in-len1-up.len_at_least c.if-n-first.true)
