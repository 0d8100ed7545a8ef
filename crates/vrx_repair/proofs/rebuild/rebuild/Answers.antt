use Rattle.std.proofs.Common.{◌≡◌, ◌+◌, ◌-◌, ◌≤◌, sym, ◌∙◌, ap, subst, arith}
use Rattle.std.specs.Option.{option_and_then}
use Rattle.std.specs.Result.{result_ok}
use Rattle.vrx_fec.specs.Mask.{width}
use Rattle.vrx_fec.specs.Rebuilt.{rebuilt}
use Rattle.vrx_fec.specs.View.{view}
use Rattle.vrx_repair.specs.Seen.{HasAdded, packets_by}
use Rattle.vrx_repair.proofs.OtherLemmas.{all-texts, lost-texts, no-texts}
use Rattle.vrx_repair.proofs.TextLemmas.{rebuilt-short}
use Rattle.vrx_repair.proofs.rebuild.rebuild.Goals as goal

pub loop-k-init : goal.loop-k-init
loop-k-init c =
    let last : c.width-bits.result - 0 ≡ width c.args.fec.now.long = omega (arith, c.width-bits.ensures) in
    no-texts (packets_by c.args.seen.now) c.args.base (view c.args.fec.now) c.args.missing (c.width-bits.result - 0)
    c.in_ok-register.register last c.in_ok-register.ensures.starts

pub loop-k-preserved : goal.loop-k-preserved
loop-k-preserved c =
    let here : c.width-bits.result - 1 - c.loop-k.k ≡ c.width-bits.result - (c.loop-k.k + 1) = omega arith in
    subst (λ i. HasAdded (packets_by c.args.seen.now) c.args.base (view c.args.fec.now) c.args.missing i c.add_other.new.register)
    here (c.add_other.ensures.added c.if-not-add_other.false)

pub returns-then-not-add_other-clause-text : goal.returns-then-not-add_other-clause-text
returns-then-not-add_other-clause-text c =
    let within : c.width-bits.result - 1 - c.loop-k.k ≤ width c.args.fec.now.long = omega (arith, c.width-bits.ensures) in
    sym (ap (option_and_then (λ others. result_ok (rebuilt (view c.args.fec.now) others c.args.missing c.args.ssrc)))
    (lost-texts (packets_by c.args.seen.now) c.args.base (view c.args.fec.now) c.args.missing
    (c.width-bits.result - 1 - c.loop-k.k) within (c.add_other.ensures.lost c.if-not-add_other.true)))

pub returns-in-Ok-clause-text : goal.returns-in-Ok-clause-text
returns-in-Ok-clause-text c =
    let none : c.width-bits.result - c.loop-k.k ≡ 0 = omega arith in
    let all = all-texts (packets_by c.args.seen.now) c.args.base (view c.args.fec.now) c.args.missing c.loop-k.register
    (subst (λ i. HasAdded (packets_by c.args.seen.now) c.args.base (view c.args.fec.now) c.args.missing i c.loop-k.register)
    none c.loop-k.invariant) in
    ap result_ok (c.in-Ok.ensures.rebuilds all.0 all.2)
    ∙ sym (ap (option_and_then (λ others. result_ok (rebuilt (view c.args.fec.now) others c.args.missing c.args.ssrc))) all.1)

pub returns-in-Ok-clause-size : goal.returns-in-Ok-clause-size
returns-in-Ok-clause-size c =
    let none : c.width-bits.result - c.loop-k.k ≡ 0 = omega arith in
    let all = all-texts (packets_by c.args.seen.now) c.args.base (view c.args.fec.now) c.args.missing c.loop-k.register
    (subst (λ i. HasAdded (packets_by c.args.seen.now) c.args.base (view c.args.fec.now) c.args.missing i c.loop-k.register)
    none c.loop-k.invariant) in
    rebuilt-short (view c.args.fec.now) all.0 c.args.missing c.args.ssrc c.in-Ok.text.items
    (sym (ap result_ok (c.in-Ok.ensures.rebuilds all.0 all.2)))

pub returns-in-Err-clause-text : goal.returns-in-Err-clause-text
returns-in-Err-clause-text c =
    let none : c.width-bits.result - c.loop-k.k ≡ 0 = omega arith in
    let all = all-texts (packets_by c.args.seen.now) c.args.base (view c.args.fec.now) c.args.missing c.loop-k.register
    (subst (λ i. HasAdded (packets_by c.args.seen.now) c.args.base (view c.args.fec.now) c.args.missing i c.loop-k.register)
    none c.loop-k.invariant) in
    ap result_ok (c.in-Err.ensures.rebuilds all.0 all.2)
    ∙ sym (ap (option_and_then (λ others. result_ok (rebuilt (view c.args.fec.now) others c.args.missing c.args.ssrc))) all.1)
