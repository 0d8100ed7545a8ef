use Rattle.std.proofs.Common.{◌≡◌, ◌+◌, ◌-◌, Ok, Err, sym, ◌∙◌, ap, arith}
use Rattle.std.specs.Result.{result_ok}
use Rattle.vrx_codec.specs.Joining.{join_from}
use Rattle.vrx_codec.specs.View.{view}
use Rattle.vrx_window.specs.Content.{contents_of}
use Rattle.vrx_frames.specs.Parts.{parts_from}
use Rattle.vrx_frames.proofs.JoinLemmas.{sized, parts-next, sum-next, sum-fails, raised, raised-few, octets-sized}
use Rattle.vrx_frames.proofs.judge.octets_of.Goals as goal

pub returns-in-Err : goal.returns-in-Err
returns-in-Err g c =
    let packets = (contents_of c.args.window.now).packets in
    let n = c.args.first + c.loop-k.k in
    let part = view c.part_at-part.result in
    let rest = parts_from g.C.Codec.meaning packets (n + 1) (c.args.count - (c.loop-k.k + 1)) in
    let parts = parts-next g.C.Codec.meaning packets n (c.args.count - c.loop-k.k)
    (c.args.count - (c.loop-k.k + 1)) part c.part_at-part.ensures.part (omega arith) in
    let fails : g.C.Codec.joining.step c.loop-k.state part ≡ Err c.in-Err.field-0 = sym c.in-Err.ensures.steps in
    sym (ap result_ok (sum-fails g.C.Codec.joining c.loop-k.state part rest c.in-Err.field-0 fails))
    ∙ sym (ap (λ ps. result_ok (sized c.loop-k.state.octets (join_from g.C.Codec.joining ps c.loop-k.state))) parts)
    ∙ ap result_ok c.loop-k.invariant.sum
    ∙ octets-sized g.C.Codec.joining g.C.Codec.meaning
    (parts_from g.C.Codec.meaning packets c.args.first c.args.count) g.met.C.Codec.joins

pub loop-k-preserved : goal.loop-k-preserved
loop-k-preserved g c =
    let packets = (contents_of c.args.window.now).packets in
    let n = c.args.first + c.loop-k.k in
    let part = view c.part_at-part.result in
    let rest = parts_from g.C.Codec.meaning packets (n + 1) (c.args.count - (c.loop-k.k + 1)) in
    let parts = parts-next g.C.Codec.meaning packets n (c.args.count - c.loop-k.k)
    (c.args.count - (c.loop-k.k + 1)) part c.part_at-part.ensures.part (omega arith) in
    let steps : g.C.Codec.joining.step c.loop-k.state part ≡ Ok c.in-Ok.next = sym c.in-Ok.ensures.steps in
    let next : n + 1 ≡ c.args.first + (c.loop-k.k + 1) = omega arith in
    record {
      sum = ap (λ m. sized c.in-Ok.next.octets
          (join_from g.C.Codec.joining
          (parts_from g.C.Codec.meaning packets m (c.args.count - (c.loop-k.k + 1))) c.in-Ok.next)) (sym next)
          ∙ sym (sum-next g.C.Codec.joining c.loop-k.state part rest c.in-Ok.next steps
          (raised g.C.Codec.joining g.met.C.Codec.raises c.loop-k.state part c.in-Ok.next steps).0)
          ∙ sym (ap (λ ps. sized c.loop-k.state.octets (join_from g.C.Codec.joining ps c.loop-k.state)) parts)
          ∙ c.loop-k.invariant.sum;
      few = raised-few g.C.Codec.joining g.met.C.Codec.raises c.loop-k.state part c.in-Ok.next c.loop-k.k steps
          c.part_at-part.ensures.body c.loop-k.invariant.few;
    }
