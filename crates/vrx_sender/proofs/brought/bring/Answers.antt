use Rattle.std.proofs.Common.{◌+◌, ◌++◌, ◌∙◌, ap, drop, length, zip, sym, rules}
use Rattle.std.proofs.Common.{List}
use Rattle.vrx_rtp.specs.Packet.{Packet}
use Rattle.vrx_sender.specs.declared.draws.Fate.{Fate}
use Rattle.vrx_sender.specs.Drill.{is_in_time, is_late, lost_of, numbered}
use Rattle.vrx_sender.specs.Made.{datagrams}
use Rattle.vrx_sender.proofs.BroughtLemmas.{again-on, datagrams-on, few-on, zip-on}
use Rattle.vrx_sender.proofs.brought.bring.Goals as goal

pub loop-k-preserved : goal.loop-k-preserved
loop-k-preserved c =
    let brings = c.in_ok-bring_one.ensures.with_one in
    let others : List (Fate × Packet) = zip (drop (c.loop-k.k + 1) c.args.fates.now) (drop (c.loop-k.k + 1) c.args.packets.now) in
    let all : List (Fate × Packet) = zip c.args.fates.now c.args.packets.now in
    let step = zip-on c.args.fates.now c.args.packets.now c.loop-k.k _ c.index-packets-k.result c.loop-k-test.true
    c.requires.same (search rules) c.index-packets-k.is in
    record {
      in_time = datagrams-on c.args.number c.loop-k.brought c.bring_one.new.brought _ c.index-packets-k.result others all brings
          is_in_time _ _ _ brings.in_time
          (ap (λ (ps : List (Fate × Packet)). c.loop-k.brought.in_time.items ++ datagrams is_in_time ps) (sym step) ∙ c.loop-k.invariant.in_time);
      late = datagrams-on c.args.number c.loop-k.brought c.bring_one.new.brought _ c.index-packets-k.result others all brings
          is_late _ _ _ brings.late
          (ap (λ (ps : List (Fate × Packet)). c.loop-k.brought.late.items ++ datagrams is_late ps) (sym step) ∙ c.loop-k.invariant.late);
      again = again-on c.args.number c.loop-k.brought c.bring_one.new.brought _ c.index-packets-k.result others all brings
          (ap (λ (ps : List (Fate × Packet)). c.loop-k.brought.again.items
          ++ numbered (c.args.number + length c.loop-k.brought.again.items) (lost_of ps)) (sym step) ∙ c.loop-k.invariant.again);
      few = few-on c.args.number c.loop-k.brought c.bring_one.new.brought _ c.index-packets-k.result others all brings
          c.loop-k.k c.loop-k.invariant.few;
    }
