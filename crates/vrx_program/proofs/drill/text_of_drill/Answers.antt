use Rattle.std.proofs.Common.{◌≡◌, IfOk, subst}
use Rattle.vrx_program.specs.DrillText.{drill_text, summary_text}
use Rattle.vrx_program.specs.declared.summary.Summary.{Summary}
use Rattle.vrx_program.proofs.drill.text_of_drill.Goals as goal

pub returns : goal.returns
unfolding drill_text
returns c =
    subst (λ (s : Summary). IfOk c.text_of_summary.result (λ text. text.items ≡ summary_text c.args.seed c.args.frames s))
    c.in_ok-summary.ensures c.text_of_summary.ensures
