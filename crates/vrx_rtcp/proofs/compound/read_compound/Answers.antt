-- The packets before a place and what is read there; and no other answer fits.
use Rattle.std.proofs.Common.{length, Ok, Err, refl, sym, ap, ◌∙◌, arith}
use Rattle.std.proofs.lemmas.Bool.{true≢false}
use Rattle.vrx_rtcp.specs.View.{view}
use Rattle.vrx_rtcp.proofs.CompoundLemmas.{one_compound, one_fault, not_both, begins_further, begins_whole, told_fault}
use Rattle.vrx_rtcp.proofs.TestLemmas.{compound-passes, fault-fails}
use Rattle.vrx_rtcp.proofs.compound.read_compound.Goals as goal

pub returns-in-Err-clause-ok : goal.returns-in-Err-clause-ok
returns-in-Err-clause-ok c =
    let has = told_fault c.args.bytes.now c.loop-at.at c.loop-at.packets _ c.in-Err.fault c.loop-at.invariant.begins
    c.loop-at-test.true refl c.in-Err.ensures.fault in (
      λ no. absurd (true≢false (sym no)),
      λ passed.
          absurd (true≢false (sym passed ∙ fault-fails c.args.bytes.now c.in-Err.fault has)),
    )

pub returns-clause-ok : goal.returns-clause-ok
returns-clause-ok c =
    let whole = begins_whole c.args.bytes.now c.loop-at.at c.loop-at.packets c.loop-at.invariant.begins
    c.loop-at-test.false in
    (λ _. compound-passes c.args.bytes.now whole.0 whole.1, λ _. refl)

pub returns-in-Err-clause-fault : goal.returns-in-Err-clause-fault
returns-in-Err-clause-fault c =
    told_fault c.args.bytes.now c.loop-at.at c.loop-at.packets _ c.in-Err.fault c.loop-at.invariant.begins
    c.loop-at-test.true refl c.in-Err.ensures.fault

pub returns-in-Err-clause-only : goal.returns-in-Err-clause-only
returns-in-Err-clause-only c = λ packets is.
    let has = told_fault c.args.bytes.now c.loop-at.at c.loop-at.packets _ c.in-Err.fault c.loop-at.invariant.begins
    c.loop-at-test.true refl c.in-Err.ensures.fault in
    absurd (not_both c.args.bytes.now packets c.in-Err.fault is has)

pub returns-in-Err-clause-only_fault : goal.returns-in-Err-clause-only_fault
returns-in-Err-clause-only_fault c = λ e other.
    let has = told_fault c.args.bytes.now c.loop-at.at c.loop-at.packets _ c.in-Err.fault c.loop-at.invariant.begins
    c.loop-at-test.true refl c.in-Err.ensures.fault in
    ap Err (one_fault c.args.bytes.now c.in-Err.fault e has other)

pub loop-at-preserved : goal.loop-at-preserved
loop-at-preserved c = record {
  begins = begins_further c.args.bytes.now c.loop-at.at c.loop-at.packets c.in-Ok.packet.next
      (view c.in-Ok.packet.body) c.loop-at.invariant.begins c.in-Ok.ensures.packet
      (omega (arith, c.in-Ok.ensures.header)) c.in-Ok.ensures.within;
  few = omega (arith, c.in-Ok.ensures.header, c.loop-at.invariant.few);
  within = c.in-Ok.ensures.within;
}

pub returns-clause-compound : goal.returns-clause-compound
returns-clause-compound c =
    begins_whole c.args.bytes.now c.loop-at.at c.loop-at.packets c.loop-at.invariant.begins c.loop-at-test.false

pub returns-clause-only : goal.returns-clause-only
returns-clause-only c = λ packets is.
    let whole = begins_whole c.args.bytes.now c.loop-at.at c.loop-at.packets c.loop-at.invariant.begins
    c.loop-at-test.false in
    ap Ok (sym whole.2 ∙ ap length (one_compound c.args.bytes.now whole.0 packets whole.1 is))

pub returns-clause-only_fault : goal.returns-clause-only_fault
returns-clause-only_fault c = λ e other.
    let whole = begins_whole c.args.bytes.now c.loop-at.at c.loop-at.packets c.loop-at.invariant.begins
    c.loop-at-test.false in
    absurd (not_both c.args.bytes.now whole.0 e whole.1 other)
