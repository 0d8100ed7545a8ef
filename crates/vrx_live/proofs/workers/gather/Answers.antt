use Rattle.std.proofs.Common.{◌∙◌, ap}
use Rattle.vrx_lock.specs.Seats.{after_split, newcomer}
use Rattle.vrx_live.proofs.EndLemmas.{ended}
use Rattle.vrx_live.proofs.workers.gather.Goals as goal

pub returns-clause-end : goal.returns-clause-end
returns-clause-end g c =
    ended g.C.Codec.meaning c.args.lists.now c.args.seat.now.known c.split-one.result.known c.split-two.result.known
    c.split-three.result.known c.split-three.new.seat.known c.work_three-first.result.0.seat.known
    c.work_three-first.result.1.0.seat.known c.work_three-first.result.1.1.seat.known c.join.new.seat.known
    c.join-2.new.seat.known c.join-3.new.seat.known c.work_three-first.result.0.pieces
    c.work_three-first.result.1.0.pieces c.work_three-first.result.1.1.pieces
    c.split-one.ensures.given.1
    (c.split-two.ensures.given.1 ∙ ap (newcomer 2) c.split-one.ensures.old.1)
    (c.split-three.ensures.given.1 ∙ ap (newcomer 3) (c.split-two.ensures.old.1 ∙ ap after_split c.split-one.ensures.old.1))
    (c.split-three.ensures.old.1 ∙ ap after_split (c.split-two.ensures.old.1 ∙ ap after_split c.split-one.ensures.old.1))
    c.requires.fresh c.requires.whole c.work_three-first.ensures.datagrams c.work_three-first.ensures.ticks
    c.work_three-first.ensures.pulls c.join.ensures.joined c.join-2.ensures.joined c.join-3.ensures.joined
    c.is_seat.ensures c.is_seat-2.ensures c.requires.room
