use Rattle.std.proofs.Common.{◌<◌}
use Rattle.std.proofs.lemmas.List.Elements.{All-from_get_or}
use Rattle.std.proofs.Math.Facts.{Fits-lt-pow}
use Rattle.vrx_rtp.specs.View.{view}
use Rattle.vrx_core.proofs.machine.SeenLemmas.{seen-is}
use Rattle.vrx_core.proofs.original.original_in.Goals as goal

pub returns-in-Ok-clause-seen : goal.returns-in-Ok-clause-seen
returns-in-Ok-clause-seen g c =
    seen-is c.one_original.ensures.one c.one_block.ensures.one c.args.settings.now c.requires.types
    c.has_32_bits.ensures.fits g.C.Codec.meaning c.args.octets.now c.requires.size
    (All-from_get_or (λ octet. octet < 256) c.args.octets.now 0 (λ i within. Fits-lt-pow (c.type_inv.octets i)))
    (view c.in-Ok.packet) c.in-Ok.ensures.packet c.original_of.result c.original_of.ensures.packet
    c.original_of.ensures.bare c.original_of.ensures.says
