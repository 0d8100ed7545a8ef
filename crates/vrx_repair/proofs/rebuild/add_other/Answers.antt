use Rattle.std.proofs.Common.{◌+◌, sym, ◌∙◌, ap}
use Rattle.vrx_num.specs.OptionChain.{◌>>=◌}
use Rattle.vrx_fec.specs.View.{view}
use Rattle.vrx_window.specs.Window.{at}
use Rattle.vrx_repair.specs.Seen.{packets_by}
use Rattle.vrx_repair.specs.Step.{text_of}
use Rattle.vrx_repair.proofs.OtherLemmas.{added-more, added-same, lost-here, other-more, other-skipped, other-unnamed}
use Rattle.vrx_repair.proofs.rebuild.add_other.Goals as goal
use Rattle.vrx_repair.proofs.rebuild.add_other.Goals.{then-offset-missing-via-then-offset-missing, then-offset-missing-via-else-offset-missing+then-not-protects}

pub returns-then-offset-missing-clause-added : goal.returns-then-offset-missing-clause-added
returns-then-offset-missing-clause-added c _ =
    let ps = packets_by c.args.seen.now in
    let p = view c.args.fec.now in
    elim c.then-offset-missing.branch [
      | then-offset-missing-via-then-offset-missing w ↦
          added-same ps c.args.base p c.args.missing c.args.offset c.args.register.now
          (other-skipped ps c.args.base p c.args.missing c.args.offset c.requires.within w.if-offset-missing.true)
          c.requires.later
      | then-offset-missing-via-else-offset-missing+then-not-protects w ↦
          added-same ps c.args.base p c.args.missing c.args.offset c.args.register.now
          (other-unnamed ps c.args.base p c.args.missing c.args.offset c.requires.within
          (sym w.protects.ensures ∙ w.if-not-protects.true))
          c.requires.later
    ]

pub returns-in-Media-clause-added : goal.returns-in-Media-clause-added
returns-in-Media-clause-added c _ =
    let ps = packets_by c.args.seen.now in
    let p = view c.args.fec.now in
    added-more ps c.args.base p c.args.missing c.args.offset c.args.register.now c.add.new.self c.in-Media.text.now
    (other-more ps c.args.base p c.args.missing c.args.offset c.requires.within
    (sym c.protects.ensures ∙ c.if-not-protects.false) c.if-offset-missing.false)
    (ap (λ k. at (c.args.base + k) ps) (sym c.from.ensures) ∙ sym c.in-Media.ensures)
    c.requires.later c.add.ensures.adds

pub returns-in-Nothing-clause-lost : goal.returns-in-Nothing-clause-lost
returns-in-Nothing-clause-lost c _ =
    let ps = packets_by c.args.seen.now in
    let p = view c.args.fec.now in
    lost-here ps c.args.base p c.args.missing c.args.offset
    (other-more ps c.args.base p c.args.missing c.args.offset c.requires.within
    (sym c.protects.ensures ∙ c.if-not-protects.false) c.if-offset-missing.false)
    (ap (λ o. o >>= text_of) (ap (λ k. at (c.args.base + k) ps) (sym c.from.ensures) ∙ sym c.in-Nothing.ensures))

pub returns-in-Fec-clause-lost : goal.returns-in-Fec-clause-lost
returns-in-Fec-clause-lost c _ =
    let ps = packets_by c.args.seen.now in
    let p = view c.args.fec.now in
    lost-here ps c.args.base p c.args.missing c.args.offset
    (other-more ps c.args.base p c.args.missing c.args.offset c.requires.within
    (sym c.protects.ensures ∙ c.if-not-protects.false) c.if-offset-missing.false)
    (ap (λ o. o >>= text_of) (ap (λ k. at (c.args.base + k) ps) (sym c.from.ensures) ∙ sym c.in-Fec.ensures))

pub returns-in-Empty-clause-lost : goal.returns-in-Empty-clause-lost
returns-in-Empty-clause-lost c _ =
    let ps = packets_by c.args.seen.now in
    let p = view c.args.fec.now in
    lost-here ps c.args.base p c.args.missing c.args.offset
    (other-more ps c.args.base p c.args.missing c.args.offset c.requires.within
    (sym c.protects.ensures ∙ c.if-not-protects.false) c.if-offset-missing.false)
    (ap (λ o. o >>= text_of) (ap (λ k. at (c.args.base + k) ps) (sym c.from.ensures) ∙ sym c.in-Empty.ensures))
