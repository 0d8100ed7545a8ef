use Rattle.std.proofs.Common.{◌≡◌, ℕ, List, ◌∙◌, ◌-◌, ◌+◌, take, drop, length, ap, refl, subst, sym, arith}
use Rattle.std.specs.Prelude.{◌==◌}
use Rattle.std.proofs.lemmas.List.{drop_min, length-drop, length_push, take_min}
use Rattle.vrx_sender.specs.Made.{IsShort}
use Rattle.vrx_sender.specs.Packets.{packet}
use Rattle.vrx_sender.proofs.PacketLemmas.{media-on, short-on, short-part}
use Rattle.vrx_sender.proofs.packets.media.Goals as goal

pub loop-k-preserved : goal.loop-k-preserved
loop-k-preserved c =
    let k : ℕ = c.loop-k.k in
    let rest : List ℕ = c.loop-k.rest.now in
    let body : c.split_at.result.0.now ≡ take 1000 rest =
    c.split_at.ensures.front ∙ ap (λ (n : ℕ). take n rest) c.part_len.ensures ∙ take_min 1000 rest in
    let others : c.split_at.result.1.now ≡ drop 1000 rest =
    c.split_at.ensures.back ∙ ap (λ (n : ℕ). drop n rest) c.part_len.ensures ∙ drop_min 1000 rest in
    let p = c.packet.ensures
    ∙ ap (λ (o : List ℕ). packet (c.args.i + k) c.args.f 96 (k + 1 == c.part_count-count.result) o) c.in_ok-octets.ensures in
    let rest-len : length c.split_at.result.1.now ≡ length rest - 1000 = ap length others ∙ length-drop 1000 rest in
    record {
      whole = media-on c.args.f c.part_count-count.result k c.args.i _ _ c.loop-k.packets.items rest
          c.split_at.result.0.now _ c.packet.result _ _ (c.part_count-count.result - k) c.in_ok-push.ensures.items
          (omega (arith, c.loop-k-test.true)) body others p refl c.loop-k.invariant.whole;
      size = omega (arith, c.loop-k.invariant.size, rest-len);
      so_many = ap length c.in_ok-push.ensures.items ∙ length_push c.loop-k.packets.items c.packet.result ∙ omega (arith, c.loop-k.invariant.so_many);
      short = short-on c.loop-k.packets.items _ c.packet.result c.in_ok-push.ensures.items
          (subst IsShort (sym p) (short-part (c.args.i + k) c.args.f 96 k (k + 1 == c.part_count-count.result)
          c.split_at.result.0.now (omega (arith, c.split_at.ensures.front_len, c.part_len.ensures)))) c.loop-k.invariant.short;
    }
