use Rattle.std.proofs.Common.{sym, ◌∙◌}
use Rattle.vrx_h264.proofs.UnitsLemmas.{begun-some, begun-none}
use Rattle.vrx_h264.proofs.joining.begun_after_units.Goals as goal

pub returns-in-Some : goal.returns-in-Some
returns-in-Some c =
    c.begun_after_whole.ensures c.in-Some.field-0.0.now
    ∙ sym (begun-some c.args.begun c.args.octets.now c.in-Some.field-0.0.now c.in-Some.field-0.1.now
    c.in-Some.ensures.front)

pub returns-in-None : goal.returns-in-None
returns-in-None c = sym (begun-none c.args.begun c.args.octets.now c.in-None.ensures.front)
