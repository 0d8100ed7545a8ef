use Rattle.std.proofs.Common.{◌≡◌, ◌+◌, ◌-◌, ◌∙◌, sym, ap, arith}
use Rattle.std.proofs.lemmas.Option.{none-some}
use Rattle.std.proofs.lemmas.Bool.{true≢false}
use Rattle.vrx_frames.specs.Linked.{fact_at, follows}
use Rattle.vrx_frames.specs.declared.arrival.Fact.{Fact}
use Rattle.vrx_frames.proofs.LinkLemmas.{one_fact}
use Rattle.vrx_frames.proofs.MarkLemmas.{next-found, none-found, start-found}
use Rattle.vrx_frames.proofs.mark.start_of.Goals as goal

pub returns-then-here : goal.returns-then-here
returns-then-here c = record {
  start = λ first counted.
      start-found (fact_at c.args.passed c.args.ring.now.entries) c.args.n first c.args.here c.requires.here
      c.if-here.true;
}

pub returns-in-None : goal.returns-in-None
returns-in-None c =
    let step : c.args.n - 1 + 1 ≡ c.args.n = omega arith in
    record {
      start = λ first counted.
          none-found (fact_at c.args.passed c.args.ring.now.entries) c.args.n first
          (c.args.n - 1) c.args.here step c.requires.here c.if-here.false
          (λ a told goes. none-some a (c.in-None.ensures ∙ told));
    }

pub returns-then-follows : goal.returns-then-follows
returns-then-follows c =
    let step : c.args.n - 1 + 1 ≡ c.args.n = omega arith in
    let under = c.copied.ensures ∙ c.get.ensures.value in
    record {
      start = λ first counted.
          next-found (fact_at c.args.passed c.args.ring.now.entries) c.args.n first
          (c.args.n - 1) c.in-Some.before c.args.here c.copied.result step c.requires.here c.if-here.false
          (sym c.in-Some.ensures) (sym c.if-follows.ensures)
          (let same = c.requires.before c.if-here.false (c.args.n - 1) first step counted in
          (λ e. same.0 (sym under ∙ e), λ chain. under ∙ same.1 chain));
    }

pub returns-else-follows : goal.returns-else-follows
returns-else-follows c =
    let step : c.args.n - 1 + 1 ≡ c.args.n = omega arith in
    record {
      start = λ first counted.
          none-found (fact_at c.args.passed c.args.ring.now.entries) c.args.n first
          (c.args.n - 1) c.args.here step c.requires.here c.if-here.false
          (λ a told goes. true≢false
          (sym goes ∙ ap (λ (x : Fact). follows x c.args.here)
          (one_fact (fact_at c.args.passed c.args.ring.now.entries) (c.args.n - 1) a c.in-Some.before told
          (sym c.in-Some.ensures)) ∙ sym c.if-follows.ensures));
    }
