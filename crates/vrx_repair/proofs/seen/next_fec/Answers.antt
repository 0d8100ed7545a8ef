use Rattle.std.proofs.Common.{arith, sym, ◌∙◌}
use Rattle.std.proofs.lemmas.Bool.{true≢false}
use Rattle.vrx_repair.proofs.NextLemmas.{none-seen}
use Rattle.vrx_repair.proofs.seen.next_fec.Goals as goal

pub returns-then-not-is_fec-clause-passed : goal.returns-then-not-is_fec-clause-passed
returns-then-not-is_fec-clause-passed c k later before =
    none-seen c.args.seen.now.number k c.args.seen.now.held.now c.args.seen.now.window.now c.args.seen.now.made.now
    (λ same fec. true≢false (sym fec ∙ sym c.is_fec.ensures.fec ∙ c.if-not-is_fec.true))
    (c.next_held-next.ensures.passed k later before)

pub returns-then-seen-from-clause-passed : goal.returns-then-seen-from-clause-passed
returns-then-seen-from-clause-passed c k later before =
    none-seen c.args.seen.now.number k c.args.seen.now.held.now c.args.seen.now.window.now c.args.seen.now.made.now
    (λ same fec. omega (arith, c.if-seen-from.true, later, same)) (c.next_held-next.ensures.passed k later before)

pub returns-clause-passed : goal.returns-clause-passed
returns-clause-passed c k later before =
    none-seen c.args.seen.now.number k c.args.seen.now.held.now c.args.seen.now.window.now c.args.seen.now.made.now
    (λ same fec. omega (arith, c.min.ensures, before, same))
    (c.next_held-next.ensures.passed k later (omega (arith, c.min.ensures, before)))
