use Rattle.std.proofs.Common.{◌<◌, ◌/◌, ◌^◌, ◌≤◌, arith, subst, sym, ◌∙◌}
use Rattle.std.proofs.Math.Nat.{div-le_self}
use Rattle.vrx_window.proofs.MarkLemmas.{none_before, set_here}
use Rattle.vrx_window.proofs.marks.gap_of.Goals as goal

pub returns-clause-none : goal.returns-clause-none
returns-clause-none c i less =
    let small : c.args.word / 2 ^ c.args.from ≤ c.args.word = div-le_self c.args.word (2 ^ c.args.from) in
    none_before c.args.word c.args.from i (omega (arith, c.ranges.word.fits, small))
    (subst (λ k. i < k) c.from.ensures (omega (arith, c.min.ensures, less)))

pub returns-clause-here : goal.returns-clause-here
returns-clause-here c is =
    let small : c.args.word / 2 ^ c.args.from ≤ c.args.word = div-le_self c.args.word (2 ^ c.args.from) in
    set_here c.args.word c.args.from (omega (arith, c.ranges.word.fits, small))
    (sym c.from.ensures ∙ omega (arith, c.min.ensures, is, c.requires))
