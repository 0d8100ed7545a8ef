use Rattle.std.proofs.Common.{◌≡◌, ◌∙◌, ◌<◌, ◌≤◌, length, arith, sym, subst}
use Rattle.vrx_asks.specs.Asks.{asks_left}
use Rattle.vrx_asks.specs.IsAsks.{IsAsks}
use Rattle.vrx_asks.proofs.DueLemmas.{IsAsks-left, IsSettled-none, IsSettled-some, front-all, room-asked, room-given_up}
use Rattle.vrx_asks.proofs.asks.Asks.due.Goals.{in-Some, in_default}
use Rattle.vrx_asks.proofs.asks.Asks.due.Goals as goal

pub settle-requires-clause-room_to_ask : goal.settle-requires-clause-room_to_ask
settle-requires-clause-room_to_ask c =
    room-asked c.args.now c.args.interval c.loop-i.invariant.settled
    (omega (arith, c.len-i-end.ensures)) c.self.invariant.sound.few

pub settle-requires-clause-room_to_give_up : goal.settle-requires-clause-room_to_give_up
settle-requires-clause-room_to_give_up c =
    room-given_up c.args.now c.args.interval c.loop-i.invariant.settled
    (omega (arith, c.len-i-end.ensures)) c.self.invariant.sound.few

pub loop-i-preserved : goal.loop-i-preserved
loop-i-preserved c =
    let lt : c.loop-i.i < length c.self.inside.asks.items = omega (arith, c.len-i-end.ensures) in
    elim c.match-settle.branch [
      | in-Some w ↦ rw (w.self-inside-is, w.kept-is) (record {
        settled = IsSettled-some c.args.now c.args.interval c.loop-i.invariant.settled c.index.result.now lt
            c.index.ensures _ _ w.in-Some.ensures.ask w.in-Some.ensures.gone w.in-Some.ask w.in-Some.ensures.left;
        room = c.loop-i.invariant.room;
      })
      | in_default w ↦ rw (w.self-inside-is, w.kept-is) (record {
        settled = IsSettled-none c.args.now c.args.interval c.loop-i.invariant.settled c.index.result.now lt
            c.index.ensures _ _ w.in_default.ensures.ask w.in_default.ensures.gone w.in_default.ensures.left;
        room = c.loop-i.invariant.room;
      })
    ]

left : (c : goal.After-truncate) →
    c.truncate.new.self.items ≡ asks_left c.args.now c.args.interval c.self.inside.asks.items
left c =
    let end : length c.self.inside.asks.items ≤ c.loop-i.i = omega (arith, c.len-i-end.ensures) in
    c.truncate.ensures.items ∙ front-all c.args.now c.args.interval c.loop-i.invariant.settled end

pub invariant_of-self : goal.invariant_of-self
invariant_of-self c = record {
  sound = subst IsAsks (sym (left c))
      (IsAsks-left c.args.now c.args.interval c.self.inside.asks.items c.self.invariant.sound);
  room = omega (arith, c.loop-i.invariant.room, c.truncate.ensures.capacity);
}
