use Rattle.std.proofs.Common.{◌∙◌, sym}
use Rattle.vrx_buffer.proofs.NextLemmas.{first-layer, plain-empty, plain-found, plain-none}
use Rattle.vrx_buffer.proofs.frames.first_if_ready.Goals as goal

pub is_ready-requires : goal.is_ready-requires
is_ready-requires c = record {
  layer = first-layer c.in-Some.run' c.args.queue.now c.in-Some.ensures.first c.requires.plain;
}

pub returns-in-Some-clause-ready : goal.returns-in-Some-clause-ready
returns-in-Some-clause-ready c = λ told pulled knows. plain-found told pulled c.args.passed c.in-Some.run'
    c.args.queue.now c.in-Some.ensures.first (sym (c.if-is_ready.ensures.ready told pulled knows))

pub returns-in_default-clause-ready : goal.returns-in_default-clause-ready
returns-in_default-clause-ready c = λ told pulled knows. plain-none told pulled c.args.passed c.in-Some.run'
    c.args.queue.now c.in-Some.ensures.first c.in-Some.ensures.rise c.requires.plain
    (sym (c.if-is_ready.ensures.ready told pulled knows))

pub returns-in_default-2-clause-ready : goal.returns-in_default-2-clause-ready
returns-in_default-2-clause-ready c = λ told pulled knows. plain-empty told pulled c.args.passed c.args.queue.now
    (sym c.in_default.is ∙ c.first.ensures.first)
