use Rattle.std.proofs.Common.{arith, inl, inr}
use Rattle.std.proofs.lemmas.Bool.{cases_lt}
use Rattle.vrx_window.proofs.MarkLemmas.{passed_over}
use Rattle.vrx_window.proofs.marks.next_marked.Goals as goal

pub returns-then-end-at-clause-passed : goal.returns-then-end-at-clause-passed
returns-then-end-at-clause-passed c m from upto = elim (cases_lt m c.loop-at.at) [
  | inl less ↦ c.loop-at.invariant.2 m from less
  | inr more ↦
      passed_over c.args.marks.now c.loop-at.at c.gap_of-gap.result c.word_of.result m c.word_of.ensures
      c.gap_of-gap.ensures.few c.gap_of-gap.ensures.none more (omega arith)
]

pub loop-at-preserved : goal.loop-at-preserved
loop-at-preserved c = (
  omega arith,
  omega arith,
  λ m from upto. elim (cases_lt m c.loop-at.at) [
    | inl less ↦ c.loop-at.invariant.2 m from less
    | inr more ↦
        passed_over c.args.marks.now c.loop-at.at c.gap_of-gap.result c.word_of.result m c.word_of.ensures
        c.gap_of-gap.ensures.few c.gap_of-gap.ensures.none more upto
  ],
)
