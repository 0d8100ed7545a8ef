use Rattle.std.proofs.Common.{◌≡◌, ℕ, ◌∙◌, drop, length, subst, refl, arith}
use Rattle.vrx_fec.specs.Parity.{IsParity, Texts}
use Rattle.vrx_sender.specs.Packets.{longest, texts_from}
use Rattle.vrx_sender.proofs.FecLemmas.{has-form, made-is, not-ahead, own_of}
use Rattle.vrx_sender.proofs.PacketLemmas.{length-texts, texts-back}
use Rattle.vrx_sender.proofs.fec.fec_payload.Goals as goal

pub loop-k-preserved : goal.loop-k-preserved
loop-k-preserved c = record {
  are = subst (λ (ts : Texts). IsParity c.add.new.self ts)
      (texts-back c.args.packets.now c.loop-k.k c.index-packets-k.result c.as_slice.result.now c.loop-k-test.true
      c.loop-k.invariant.most c.index-packets-k.is (c.as_slice.ensures.value ∙ c.in_ok-text.ensures))
      (c.add.ensures.adds _ c.loop-k.invariant.are);
  form = c.add.ensures.kept ∙ c.loop-k.invariant.form;
  most = omega (arith, c.loop-k.invariant.most);
}

pub returns : goal.returns
returns c =
    let n : ℕ = length c.args.packets.now in
    let size : ℕ = longest (texts_from 0 c.args.packets.now) in
    let has = has-form c.loop-k.maker n size c.args.base c.loop-k.invariant.form in
    let none : c.loop-k.k ≡ 0 = omega (arith, c.loop-k-test.false) in
    c.without_extension.ensures.cleared
    ∙ made-is c.loop-k.maker _ c.args.base (own_of c.args.base n) n size _ (length-texts 0 c.args.packets.now) refl has
    (subst (λ (k : ℕ). IsParity c.loop-k.maker (texts_from k (drop k c.args.packets.now))) none c.loop-k.invariant.are)
    (c.finish-payload.ensures.payload (own_of c.args.base n) (not-ahead c.loop-k.maker n size c.args.base
    (omega (arith, c.ranges.base)) (omega (arith, c.requires.few)) has))
    c.without_extension.ensures.octets
