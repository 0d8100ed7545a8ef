use Rattle.std.proofs.Common.{sym}
use Rattle.vrx_refs.specs.References.{is_ready, judge}
use Rattle.vrx_refs.proofs.ReadyLemmas.{search_found, search_on, search_over}
use Rattle.vrx_refs.proofs.finder.Finder.first_ready.Goals as goal

pub returns-then-is_ready-clause-ready : goal.returns-then-is_ready-clause-ready
returns-then-is_ready-clause-ready c = λ told pulled knows.
    search_found (λ run. is_ready (judge told pulled c.args.passed run)) c.args.runs.now c.loop-at.at _
    c.loop-at-test.true (sym (c.if-is_ready.ensures.ready told pulled knows)) (c.loop-at.invariant told pulled knows)

pub loop-at-preserved : goal.loop-at-preserved
loop-at-preserved c = λ told pulled knows.
    search_on (λ run. is_ready (judge told pulled c.args.passed run)) c.args.runs.now c.loop-at.at _
    c.loop-at-test.true (sym (c.if-is_ready.ensures.ready told pulled knows)) (c.loop-at.invariant told pulled knows)

pub returns-clause-ready : goal.returns-clause-ready
returns-clause-ready c = λ told pulled knows.
    search_over (λ run. is_ready (judge told pulled c.args.passed run)) c.args.runs.now c.loop-at.at
    c.loop-at-test.false (c.loop-at.invariant told pulled knows)
