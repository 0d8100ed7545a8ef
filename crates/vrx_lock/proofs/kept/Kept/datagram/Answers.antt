use Rattle.std.specs.Prelude.{vec_capacity}
use Rattle.std.proofs.Common.{◌∷◌, subst}
use Rattle.vrx_core.specs.declared.event.Event.TheVariants.{Datagram}
use Rattle.vrx_core.specs.relation.StandsFor.{StandsFor}
use Rattle.vrx_lock.specs.Journal.{entry, history}
use Rattle.vrx_lock.proofs.KeptLemmas.{has-room, noted, room-left}
use Rattle.vrx_lock.proofs.kept.Kept.datagram.Goals as goal

pub datagram-requires : goal.datagram-requires
datagram-requires g c = record {
  room = room-left g.C.Codec.meaning c.self.inside.engine c.self.inside.entries.items
      c.self.inside.room c.self.invariant.0 (has-room _ _ c.self.view_is c.requires.room) c.self.invariant.3;
}

pub invariant_of-self-2 : goal.invariant_of-self-2
invariant_of-self-2 g c = noted g.C.Codec.meaning c.datagram.new.self c.self.inside.entries.items c.note.new.entries.items
    (entry c.args.actor c.args.turn (Datagram c.args.moment c.args.bytes)) c.self.inside.room (vec_capacity c.self.inside.entries)
    (vec_capacity c.note.new.entries) c.note.ensures.items
    (subst (λ b. StandsFor g.C.Codec.meaning c.datagram.new.self
    (Datagram c.args.moment b ∷ history c.self.inside.entries.items)) c.as_slice.ensures
    (c.in_ok-handled.ensures.stands (history c.self.inside.entries.items) c.self.invariant.0))
    (has-room _ _ c.self.view_is c.requires.room) c.self.invariant.1 c.note.ensures.capacity c.self.invariant.3
