use Rattle.vrx_refs.proofs.SeenLemmas.{knows_new}
use Rattle.vrx_refs.proofs.finder.Finder.new.Goals as goal

pub returns : goal.returns
returns c = record {
  knows = knows_new c.in_ok-sights.sights.items c.in_ok-bases.bases.items
      c.in_ok-sights.ensures c.in_ok-bases.ensures;
}
