use Rattle.std.proofs.Common.{sym, ap, ◌∙◌}
use Rattle.vrx_h264.specs.Nal.{is_sequence}
use Rattle.vrx_h264.proofs.UnitsLemmas.{begin-some, begin-none}
use Rattle.vrx_h264.proofs.aggregate.begins_sequence.Goals as goal

pub returns-in-Some : goal.returns-in-Some
returns-in-Some c = ap is_sequence c.unit_kind.ensures
    ∙ sym (begin-some c.args.octets.now c.in-Some.unit.now _ c.in-Some.ensures.front)

pub returns-in-None : goal.returns-in-None
returns-in-None c = sym (begin-none c.args.octets.now c.in-None.ensures.front)
