use Rattle.std.proofs.Common.{◌≡◌, drop}
use Rattle.std.specs.Prelude.{max}
use Rattle.vrx_sender.specs.Packets.{longest, texts_from}
use Rattle.vrx_sender.proofs.fec.longest.Given as goal

-- the greatest up to here, and that of the packets left
abbrev pub invariant-loop-packet : goal.invariant-loop-packet
invariant-loop-packet l = max l.longest (longest (texts_from l.packet-index (drop l.packet-index l.packets)))
    ≡ longest (texts_from 0 l.packets)
