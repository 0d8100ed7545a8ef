use Rattle.std.proofs.Common.{◌≡◌, ◌<◌, sym, ◌∙◌, ap, arith}
use Rattle.std.proofs.lemmas.Bool.{and_parts}
use Rattle.vrx_fec.specs.Mask.{width}
use Rattle.vrx_fec.specs.View.{view}
use Rattle.vrx_repair.specs.Seen.{missing_from, packets_by}
use Rattle.vrx_repair.proofs.OffsetLemmas.{missing-end, missing-no, missing-yes}
use Rattle.vrx_repair.proofs.offsets.first_missing.Goals as goal

pub loop-offset-preserved : goal.loop-offset-preserved
loop-offset-preserved c =
    let less : c.loop-offset.offset < width c.args.fec.now.long = omega (arith, c.width-offset-end.ensures) in
    c.loop-offset.invariant
    ∙ missing-no (packets_by c.args.seen.now) c.args.base (view c.args.fec.now) c.loop-offset.offset less
    (sym c.misses.ensures ∙ c.if-misses.false)

pub returns-then-misses : goal.returns-then-misses
returns-then-misses c =
    let less : c.loop-offset.offset < width c.args.fec.now.long = omega (arith, c.width-offset-end.ensures) in
    record {
      first = c.loop-offset.invariant
          ∙ missing-yes (packets_by c.args.seen.now) c.args.base (view c.args.fec.now) c.loop-offset.offset less
          (sym c.misses.ensures ∙ c.if-misses.true);
      named = (and_parts _ _ (sym c.misses.ensures ∙ c.if-misses.true)).0;
    }

pub returns : goal.returns
returns c =
    let last : c.loop-offset.offset ≡ width c.args.fec.now.long =
    omega (arith, c.width-offset-end.ensures, c.requires.within) in
    record {
      first = c.loop-offset.invariant
          ∙ ap (missing_from (packets_by c.args.seen.now) c.args.base (view c.args.fec.now)) last
          ∙ missing-end (packets_by c.args.seen.now) c.args.base (view c.args.fec.now);
      named = tt;
    }
