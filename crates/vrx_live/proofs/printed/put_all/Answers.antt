use Rattle.std.proofs.Common.{◌∙◌, refl}
use Rattle.vrx_live.proofs.PlacedLemmas.{len-step, placed-step, within-step}
use Rattle.vrx_live.proofs.printed.put_all.Goals as goal

pub pieces-preserved : goal.pieces-preserved
pieces-preserved c = record {
  placed = placed-step c.pieces.pieces.items c.pop.new.self.items c.in-Some.piece c.pieces.texts.items
      c.put.new.texts.items (record { k = c.in-Some.piece.k; octets = c.in-Some.piece.text })
      c.in-Some.ensures.items c.put.ensures refl ∙ c.pieces.invariant.placed;
  within = within-step c.pieces.pieces.items c.pop.new.self.items c.in-Some.piece c.pieces.texts.items
      c.put.new.texts.items (record { k = c.in-Some.piece.k; octets = c.in-Some.piece.text })
      c.in-Some.ensures.items c.put.ensures c.pieces.invariant.within;
  len = len-step c.pieces.texts.items c.put.new.texts.items c.in-Some.piece.place
      (record { k = c.in-Some.piece.k; octets = c.in-Some.piece.text }) c.put.ensures ∙ c.pieces.invariant.len;
}
