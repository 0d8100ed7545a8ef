use Rattle.std.proofs.Common.{sym}
use Rattle.vrx_fec.specs.View.{view}
use Rattle.vrx_repair.specs.Seen.{packets_by}
use Rattle.vrx_repair.proofs.OffsetLemmas.{only-more, only-none, only-this}
use Rattle.vrx_repair.proofs.offsets.missing_of.Goals as goal

pub returns-in-None-clause-one : goal.returns-in-None-clause-one
returns-in-None-clause-one c =
    sym (only-none (packets_by c.args.seen.now) c.args.base (view c.args.fec.now) c.in-None.ensures.first)

pub returns-in-None-first_missing-clause-one : goal.returns-in-None-first_missing-clause-one
returns-in-None-first_missing-clause-one c =
    sym (only-this (packets_by c.args.seen.now) c.args.base (view c.args.fec.now) c.in-Some.offset
    c.in-Some.ensures.first c.in-None-first_missing.ensures.first)

pub returns-in-Some-first_missing-clause-one : goal.returns-in-Some-first_missing-clause-one
returns-in-Some-first_missing-clause-one c =
    sym (only-more (packets_by c.args.seen.now) c.args.base (view c.args.fec.now) c.in-Some.offset
    c.in-Some-first_missing.field-0 c.in-Some.ensures.first c.in-Some-first_missing.ensures.first)
