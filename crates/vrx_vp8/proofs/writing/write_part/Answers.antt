-- What was written is read again.
use Rattle.std.proofs.lemmas.Result.{IfOk-weaker}
use Rattle.vrx_vp8.proofs.WrittenLemmas.{written_again}
use Rattle.vrx_vp8.proofs.writing.write_part.Goals as goal

pub returns-clause-again : goal.returns-clause-again
returns-clause-again c =
    IfOk-weaker c.octets_of.result _ _
    (λ payload is. written_again c.args.start c.args.layers c.args.body.now c.requires.body c.requires.layers
    payload.items is) c.octets_of.ensures
