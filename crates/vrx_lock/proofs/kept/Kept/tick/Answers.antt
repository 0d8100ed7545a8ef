use Rattle.std.specs.Prelude.{vec_capacity}
use Rattle.vrx_core.specs.declared.event.Event.TheVariants.{Tick}
use Rattle.vrx_lock.specs.Journal.{entry, history}
use Rattle.vrx_lock.proofs.KeptLemmas.{has-room, noted, room-left}
use Rattle.vrx_lock.proofs.kept.Kept.tick.Goals as goal

pub tick-feedback-requires : goal.tick-feedback-requires
tick-feedback-requires g c = record {
  room = room-left g.C.Codec.meaning c.self.inside.engine c.self.inside.entries.items
      c.self.inside.room c.self.invariant.0 (has-room _ _ c.self.view_is c.requires.room) c.self.invariant.3;
}

pub invariant_of-self : goal.invariant_of-self
invariant_of-self g c = noted g.C.Codec.meaning c.tick-feedback.new.self c.self.inside.entries.items c.note.new.entries.items
    (entry c.args.actor c.args.turn (Tick c.args.moment)) c.self.inside.room (vec_capacity c.self.inside.entries)
    (vec_capacity c.note.new.entries) c.note.ensures.items
    (c.tick-feedback.ensures.stands (history c.self.inside.entries.items) c.self.invariant.0)
    (has-room _ _ c.self.view_is c.requires.room) c.self.invariant.1 c.note.ensures.capacity c.self.invariant.3
