-- The law is the theorem.
use Rattle.vrx_core.proofs.machine.ReferenceLemmas.{references-pulled}
use Rattle.vrx_core.proofs.meanings.references_pulled.Goals as goal

pub returns : goal.returns
returns c = record { pulled = references-pulled c.follows_references.ensures }
