use Rattle.vrx_core.proofs.machine.HeldLemmas.{held-says}
use Rattle.vrx_core.proofs.held.held_of.Goals as goal

pub returns-in_ok-text_of-in-Media-clause-sound : goal.returns-in_ok-text_of-in-Media-clause-sound
returns-in_ok-text_of-in-Media-clause-sound g c =
    held-says c.one_reading.ensures.read_packet g.C.Codec.meaning c.args.octets.now c.args.seen.now c.in-Media.part
    c.in_ok-text_of-in-Media.field-0 c.place_in.result c.requires.seen c.in-Media.is
    c.in_ok-text_of-in-Media.ensures.text c.place_in.ensures.wire
