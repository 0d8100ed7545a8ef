use Rattle.std.proofs.Common.{◌≡◌, ◌+◌, ◌≤◌, ◌∙◌, sym, ap, arith}
use Rattle.std.specs.Option.{unwrap_or}
use Rattle.std.proofs.lemmas.Option.{none-some}
use Rattle.std.proofs.lemmas.Bool.{true≢false}
use Rattle.vrx_frames.specs.Linked.{fact_at, follows}
use Rattle.vrx_frames.specs.declared.arrival.Fact.{Fact}
use Rattle.vrx_frames.proofs.LinkLemmas.{link-right, one_fact, reach-stops, upto-newest}
use Rattle.vrx_frames.proofs.search.reach.Goals as goal

pub returns-in-None : goal.returns-in-None
returns-in-None c = record {
  reached = reach-stops (fact_at c.args.passed c.args.ring.now.entries) c.args.here.ts c.args.n c.loop-last.last
      c.loop-last.fact c.loop-last.invariant.linked c.loop-last.invariant.told
      (λ b told goes. none-some b (c.in-None.ensures ∙ told));
}

pub returns-then-not-follows : goal.returns-then-not-follows
returns-then-not-follows c = record {
  reached = reach-stops (fact_at c.args.passed c.args.ring.now.entries) c.args.here.ts c.args.n c.loop-last.last
      c.loop-last.fact c.loop-last.invariant.linked c.loop-last.invariant.told
      (λ b told goes. true≢false
      (sym goes ∙ ap (λ (x : Fact). follows c.loop-last.fact x)
      (one_fact (fact_at c.args.passed c.args.ring.now.entries) (c.loop-last.last + 1) b c.in-Some.next told
      (sym c.in-Some.ensures)) ∙ sym c.if-not-follows.ensures));
}

pub loop-last-preserved : goal.loop-last-preserved
loop-last-preserved c = record {
  linked = link-right (fact_at c.args.passed c.args.ring.now.entries) c.args.here.ts c.args.n c.loop-last.last
      c.loop-last.fact c.in-Some.next c.loop-last.invariant.linked c.loop-last.invariant.told (sym c.in-Some.ensures)
      (sym c.if-not-follows.ensures);
  told = sym c.in-Some.ensures;
}

pub returns : goal.returns
returns c = record {
  reached = reach-stops (fact_at c.args.passed c.args.ring.now.entries) c.args.here.ts c.args.n c.loop-last.last
      c.loop-last.fact c.loop-last.invariant.linked c.loop-last.invariant.told
      (λ b told goes. let upto : c.loop-last.last + 1 ≤ unwrap_or c.args.ring.now.newest c.args.n =
      upto-newest c.args.passed c.args.ring.now (c.loop-last.last + 1) c.args.n b c.newest.ensures.sound told in
      let newest : c.unwrap_or-newest.result ≡ unwrap_or c.args.ring.now.newest c.args.n =
      cc in absurd (omega arith));
}
