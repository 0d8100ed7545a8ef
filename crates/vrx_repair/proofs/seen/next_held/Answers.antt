use Rattle.std.proofs.Common.{◌≤◌, IfSome, arith, sym, ◌∙◌, subst}
use Rattle.std.specs.Prelude.{IsSomeAnd}
use Rattle.std.proofs.lemmas.Bool.{false_from_ne_true}
use Rattle.vrx_window.specs.Content.{is_fec_held}
use Rattle.vrx_window.specs.Window.{at}
use Rattle.vrx_repair.proofs.NextLemmas.{next-from, next-passed}
use Rattle.vrx_repair.proofs.seen.next_held.Goals as goal

pub returns-in-Some-clause-from : goal.returns-in-Some-clause-from
returns-in-Some-clause-from c =
    let least : c.args.from ≤ c.in-Some.n =
    subst (λ o. IfSome o (λ m. c.args.from ≤ m)) (sym c.next_fec.ensures.next ∙ c.in-Some.is)
    (next-from c.args.from c.args.window.now.packets) in
    omega (arith, least, c.min.ensures, c.requires)

pub returns-in-Some-clause-passed : goal.returns-in-Some-clause-passed
returns-in-Some-clause-passed c k later before =
    false_from_ne_true (is_fec_held (at k c.args.window.now.packets)) (λ fec.
    let most : c.in-Some.n ≤ k =
    subst (λ o. IsSomeAnd o (λ m. m ≤ k)) (sym c.next_fec.ensures.next ∙ c.in-Some.is)
    (next-passed c.args.from k c.args.window.now.packets c.newest-newest.ensures.sound.packets_rise later fec) in
    omega (arith, most, before, c.min.ensures))

pub returns-in-None-clause-passed : goal.returns-in-None-clause-passed
returns-in-None-clause-passed c k later before =
    false_from_ne_true (is_fec_held (at k c.args.window.now.packets)) (λ fec.
    subst (λ o. IsSomeAnd o (λ m. m ≤ k)) (sym c.next_fec.ensures.next ∙ c.in-None.is)
    (next-passed c.args.from k c.args.window.now.packets c.newest-newest.ensures.sound.packets_rise later fec))
