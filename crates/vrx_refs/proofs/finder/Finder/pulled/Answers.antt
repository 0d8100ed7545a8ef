use Rattle.std.proofs.Common.{sym, subst, ◌∷◌}
use Rattle.vrx_refs.specs.Knows.{Knows}
use Rattle.vrx_refs.proofs.PulledLemmas.{knows_pulled}
use Rattle.vrx_refs.proofs.finder.Finder.pulled.Goals as goal

pub returns : goal.returns
returns c = record {
  knows = λ told pulled carried knows. subst (λ finder. Knows finder told (c.args.run.now ∷ pulled))
      (sym c.pull.ensures.pulled)
      (knows_pulled c.args.self.now told pulled c.args.run.now c.pull.ensures.whole knows carried);
}
