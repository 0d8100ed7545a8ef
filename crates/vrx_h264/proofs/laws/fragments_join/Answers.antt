use Rattle.vrx_h264.proofs.WrittenLemmas.{fragments_joined}
use Rattle.vrx_h264.proofs.laws.fragments_join.Goals as goal

pub returns : goal.returns
returns c = record { joins = λ unit lens is two some ended. fragments_joined unit lens is two some ended }
