use Rattle.std.proofs.Common.{◌≡◌, ◌≤◌, [], ◌∷◌, drop, length, false}
use Rattle.vrx_fec.specs.Making.{blank, form_of}
use Rattle.vrx_fec.specs.Parity.{IsParity}
use Rattle.vrx_sender.specs.Packets.{longest, mask_of, texts_from}
use Rattle.vrx_sender.proofs.fec.fec_payload.Given as goal

-- the texts from here on were added
abbrev pub invariant-loop-k : goal.invariant-loop-k
invariant-loop-k l = record {
  are : IsParity l.maker (texts_from l.k (drop l.k l.packets));
  form : form_of l.maker ≡ form_of (blank false l.base
      (record { mask = mask_of (length l.packets); length = longest (texts_from 0 l.packets) } ∷ []));
  most : l.k ≤ length l.packets;
}

abbrev pub decreases-loop-k : goal.decreases-loop-k
decreases-loop-k l = l.k
