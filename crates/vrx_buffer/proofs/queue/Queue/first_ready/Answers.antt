use Rattle.std.proofs.Common.{sym, ◌∙◌, ap, subst}
use Rattle.std.specs.Prelude.{IfSome}
use Rattle.std.specs.List.{Contains, find}
use Rattle.std.specs.Option.{option_or}
use Rattle.std.proofs.lemmas.List.Folds.{find-append}
use Rattle.vrx_buffer.specs.Frames.{is_deliverable}
use Rattle.vrx_buffer.proofs.NextLemmas.{among-back}
use Rattle.vrx_buffer.proofs.queue.Queue.first_ready.Goals as goal

pub returns-in-Some-clause-ready : goal.returns-in-Some-clause-ready
returns-in-Some-clause-ready c = λ told pulled knows.
    ap (λ o. option_or o (find (is_deliverable told pulled c.args.passed) c.as_slices.result.1.now))
    (sym c.in-Some.is ∙ c.first_ready.ensures.ready told pulled knows)
    ∙ sym (find-append (is_deliverable told pulled c.args.passed) c.as_slices.result.0.now c.as_slices.result.1.now)
    ∙ ap (find (is_deliverable told pulled c.args.passed)) (c.as_slices.ensures.items ∙ c.self.view_is)

pub returns-in-None-clause-ready : goal.returns-in-None-clause-ready
returns-in-None-clause-ready c = λ told pulled knows.
    c.first_ready-in-None.ensures.ready told pulled knows
    ∙ ap (λ o. option_or o (find (is_deliverable told pulled c.args.passed) c.as_slices.result.1.now))
    (sym c.in-None.is ∙ c.first_ready.ensures.ready told pulled knows)
    ∙ sym (find-append (is_deliverable told pulled c.args.passed) c.as_slices.result.0.now c.as_slices.result.1.now)
    ∙ ap (find (is_deliverable told pulled c.args.passed)) (c.as_slices.ensures.items ∙ c.self.view_is)

pub returns-in-None-clause-among : goal.returns-in-None-clause-among
returns-in-None-clause-among c = subst (λ runs. IfSome c.first_ready-in-None.result (λ run. Contains runs run))
    (c.as_slices.ensures.items ∙ c.self.view_is)
    (among-back c.as_slices.result.0.now c.as_slices.result.1.now c.first_ready-in-None.result
    c.first_ready-in-None.ensures.among)
