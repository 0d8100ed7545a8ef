use Rattle.std.proofs.Common.{◌≡◌, ◌+◌, ◌-◌}
use Rattle.vrx_fec.specs.Mask.{numbers_from}
use Rattle.vrx_repair.specs.Seen.{packets_by, window_by}
use Rattle.vrx_repair.specs.Source.{source_of}
use Rattle.vrx_repair.specs.Step.{first_of, first_step, step}
use Rattle.vrx_repair.proofs.step.first_step.Given as goal

-- none of the numbers so far has a step
abbrev pub invariant-loop-from : goal.invariant-loop-from
invariant-loop-from g l =
    let source = source_of g.C.Codec.meaning l.reading.media_ssrc l.reading.media_type in
    let window = window_by l.seen in
    first_step source window.newest window.dead (packets_by l.seen)
    ≡ first_of (step source window.newest window.dead (packets_by l.seen)) (numbers_from l.from (l.newest + 1 - l.from))

abbrev pub decreases-loop-from : goal.decreases-loop-from
decreases-loop-from g l = l.newest + 1 - l.from
