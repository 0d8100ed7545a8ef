use Rattle.std.proofs.Common.{sym, subst, ◌∷◌}
use Rattle.vrx_refs.specs.Knows.{Knows}
use Rattle.vrx_refs.proofs.SeenLemmas.{knows_seen}
use Rattle.vrx_refs.proofs.finder.Finder.seen.Goals as goal

pub returns : goal.returns
returns c = record {
  knows = λ told pulled knows. subst
      (λ finder. Knows finder (record { picture = c.args.picture; tid = c.args.tid } ∷ told) pulled)
      (sym c.see.ensures.seen)
      (knows_seen c.args.self.now told pulled c.args.picture c.args.tid c.see.ensures.whole.slots knows);
}
