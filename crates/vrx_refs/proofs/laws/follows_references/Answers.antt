use Rattle.vrx_refs.proofs.LawLemmas.{follows_references}
use Rattle.vrx_refs.proofs.laws.follows_references.Goals as goal

pub returns : goal.returns
returns c = follows_references
