use Rattle.std.proofs.Common.{◌≡◌, Contains, Ok, sym, subst, ap, ◌∙◌}
use Rattle.vrx_core.specs.relation.StandsFor.{Assembly}
use Rattle.vrx_core.specs.inside.Fields.{IsFrameOf, assembly_of}
use Rattle.vrx_core.specs.inside.Joins.{join_of}
use Rattle.vrx_core.specs.inside.Step.{packets_of}
use Rattle.vrx_core.proofs.step.RunLemmas.{standing-joinable, frame-joined}
use Rattle.vrx_core.proofs.assembler.Assembler.frame_of.Goals as goal

pub frame_bytes-requires : goal.frame_bytes-requires
frame_bytes-requires g c =
    let i = c.self.inside in
    record {
      joinable = standing-joinable c.runs_are.ensures g.C.Codec.meaning
          (assembly_of i.settings i.count i.window i.pictures i.runs i.finder i.frames i.last_pulled i.front) c.args.run
          c.self.invariant.whole
          (subst (λ (p : Assembly). Contains p.frames c.args.run) (sym c.self.view_is) c.requires.stands);
    }

pub returns : goal.returns
returns g c =
    let i = c.self.inside in
    let parts : Assembly = assembly_of i.settings i.count i.window i.pictures i.runs i.finder i.frames i.last_pulled i.front in
    let joins : join_of g.C.Codec.meaning (packets_of parts) c.args.run.first c.args.run.last ≡ Ok c.from_vec.result =
    c.in_ok-octets.ensures.joined ∙ ap Ok (sym c.from_vec.ensures) in
    record {
      frame = subst (λ (p : Assembly).
          IsFrameOf g.C.Codec.meaning p c.args.run
          (record {
            first = c.args.run.first;
            last = c.args.run.last;
            ts = c.args.run.ts;
            key = c.args.run.key;
            bytes = c.from_vec.result;
          })) c.self.view_is
          (frame-joined g.C.Codec.meaning parts c.args.run c.from_vec.result joins);
    }
