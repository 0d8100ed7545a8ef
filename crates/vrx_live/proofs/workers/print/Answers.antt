use Rattle.std.proofs.Common.{◌∙◌, ◌+◌, replicate, ap}
use Rattle.std.proofs.lemmas.Result.{IfOk-weaker}
use Rattle.vrx_live.specs.inside.Placed.{blank, placed}
use Rattle.vrx_live.proofs.workers.print.Goals as goal

pub returns : goal.returns
returns c =
    let one = c.in_ok-datagrams.datagrams in
    let two = c.in_ok-ticks.ticks in
    let three = c.in_ok-pulls.pulls in
    IfOk-weaker c.of.result _ _ (λ printed is. (
      one,
      two,
      three,
      c.in_ok-datagrams.ensures,
      c.in_ok-ticks.ensures,
      c.in_ok-pulls.ensures,
      is ∙ ap (λ n. placed three.items (placed two.items (placed one.items (replicate n blank))))
          (λ t. (c.len.ensures ∙ one.ok.0) t + (c.len-2.ensures ∙ two.ok.0) t + (c.len-3.ensures ∙ three.ok.0) t),
    )) c.of.ensures
