use Rattle.std.proofs.Common.{◌≡◌, ◌+◌, ◌-◌, ◌++◌, ◌≤◌, Ok, sym, ◌∙◌, ap, length, List, ℕ, arith}
use Rattle.std.specs.Prelude.{vec_capacity}
use Rattle.std.specs.Result.{result_ok}
use Rattle.std.proofs.lemmas.Option.{none-some}
use Rattle.vrx_codec.specs.Part.{Part}
use Rattle.vrx_codec.specs.Joining.{join_from, with_octets}
use Rattle.vrx_codec.specs.View.{view}
use Rattle.vrx_window.specs.Content.{contents}
use Rattle.vrx_frames.specs.Parts.{parts_from}
use Rattle.vrx_core.proofs.step.JoinLemmas.{all-join_from, join-here, next-step, raised-few}
use Rattle.vrx_core.proofs.frame_bytes.frame_bytes.Goals as goal

pub returns : goal.returns
returns g c = record {
  joined = all-join_from g.C.Codec.joining g.C.Codec.meaning
      (contents c.args.window.now.packets) c.args.run.first c.args.run.last (c.args.run.first + c.loop-k.k)
      (c.args.run.last + 1 - c.args.run.first - c.loop-k.k) c.loop-k.state c.loop-k.out.items c.args.run.octets
      g.met.C.Codec.joins c.requires.joinable.octets (omega arith) c.loop-k.invariant.bytes;
}

pub unreachable-requires : goal.unreachable-requires
unreachable-requires g c =
    let j = join-here g.C.Codec.joining g.C.Codec.meaning
    (contents c.args.window.now.packets) c.args.run.first c.args.run.last (c.args.run.first + c.loop-k.k)
    (c.args.run.last + 1 - c.args.run.first - c.loop-k.k)
    (c.args.run.last + 1 - c.args.run.first - (c.loop-k.k + 1)) c.loop-k.state
    (view c.part_at-part.result) c.loop-k.out.items c.args.run.octets
    g.met.C.Codec.joins c.requires.joinable.octets c.part_at-part.ensures.part
    (omega arith) c.loop-k.invariant.bytes in
    absurd (none-some j.3.next (ap result_ok (sym c.in_default.is ∙ c.step.ensures.steps ∙ j.3.steps)))

pub append-requires-clause-room : goal.append-requires-clause-room
append-requires-clause-room g c =
    let j = join-here g.C.Codec.joining g.C.Codec.meaning
    (contents c.args.window.now.packets) c.args.run.first c.args.run.last (c.args.run.first + c.loop-k.k)
    (c.args.run.last + 1 - c.args.run.first - c.loop-k.k)
    (c.args.run.last + 1 - c.args.run.first - (c.loop-k.k + 1)) c.loop-k.state
    (view c.part_at-part.result) c.loop-k.out.items c.args.run.octets
    g.met.C.Codec.joins c.requires.joinable.octets c.part_at-part.ensures.part
    (omega arith) c.loop-k.invariant.bytes in
    let room : length c.loop-k.out.items + length (g.C.Codec.joining.adds c.loop-k.state (view c.part_at-part.result))
    ≤ length j.0 = j.3.room in
    let all : length j.0 ≡ c.args.run.octets = j.2 in
    let most : c.args.run.octets ≤ vec_capacity c.loop-k.out = c.loop-k.invariant.room in
    omega (arith, c.loop-k.out.ok)

pub loop-k-preserved : goal.loop-k-preserved
loop-k-preserved g c =
    let state = c.loop-k.state in
    let part = view c.part_at-part.result in
    let packets = contents c.args.window.now.packets in
    let j = join-here g.C.Codec.joining g.C.Codec.meaning
    (contents c.args.window.now.packets) c.args.run.first c.args.run.last (c.args.run.first + c.loop-k.k)
    (c.args.run.last + 1 - c.args.run.first - c.loop-k.k)
    (c.args.run.last + 1 - c.args.run.first - (c.loop-k.k + 1)) c.loop-k.state
    (view c.part_at-part.result) c.loop-k.out.items c.args.run.octets
    g.met.C.Codec.joins c.requires.joinable.octets c.part_at-part.ensures.part
    (omega arith) c.loop-k.invariant.bytes in
    let steps : g.C.Codec.joining.step state part ≡ Ok c.in-Ok.next = sym c.step.ensures.steps ∙ c.in-Ok.is in
    let rest : ℕ → List Part =
    λ n. parts_from g.C.Codec.meaning packets n (c.args.run.last + 1 - c.args.run.first - (c.loop-k.k + 1)) in
    let next : c.args.run.first + (c.loop-k.k + 1) ≡ c.args.run.first + c.loop-k.k + 1 = omega arith in
    record {
      bytes = ap (λ n. with_octets c.append.new.out.items (join_from g.C.Codec.joining (rest n) c.in-Ok.next)) next
          ∙ ap (λ out. with_octets out
          (join_from g.C.Codec.joining (rest (c.args.run.first + c.loop-k.k + 1)) c.in-Ok.next)) c.append.ensures.adds
          ∙ ap (λ n. with_octets (c.loop-k.out.items ++ g.C.Codec.joining.adds state part)
          (join_from g.C.Codec.joining (rest (c.args.run.first + c.loop-k.k + 1)) n))
          (next-step g.C.Codec.joining state part c.in-Ok.next j.3.next steps j.3.steps)
          ∙ j.3.rest ∙ sym (g.met.C.Codec.joins
          (parts_from g.C.Codec.meaning packets c.args.run.first (c.args.run.last + 1 - c.args.run.first)) ∙ j.1);
      few = raised-few g.C.Codec.joining g.met.C.Codec.raises state part c.in-Ok.next c.loop-k.k steps
          c.part_at-part.ensures.body c.loop-k.invariant.few;
      room = omega (arith, c.append.ensures.capacity, c.loop-k.invariant.room);
    }
