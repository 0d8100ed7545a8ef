use Rattle.std.proofs.lemmas.Result.{IfOk-weaker}
use Rattle.vrx_capture.proofs.LineLemmas.{line_within}
use Rattle.vrx_capture.proofs.lines.kind_at.Goals as goal

pub returns-clause-within : goal.returns-clause-within
returns-clause-within c =
    IfOk-weaker c.read_line.result _ _
    (λ kind is. rw is (line_within c.args.max c.args.k c.args.events c.args.line.now)) c.read_line.ensures.kind
