use Rattle.std.proofs.Common.{◌≡◌, ◌<◌, All, length, map}
use Rattle.vrx_live.specs.inside.Placed.{placed, told}
use Rattle.vrx_live.proofs.printed.put_all.Given as goal

-- the pieces left make the texts what all make them
abbrev pub invariant-pieces : goal.invariant-pieces
invariant-pieces l = record {
  placed : placed l.pieces.items (map told l.texts.items) ≡ placed l.fn.pieces.items (map told l.fn.texts.items);
  within : All (λ piece. piece.place < length l.texts.items) l.pieces.items;
  len : length l.texts.items ≡ length l.fn.texts.items;
}

abbrev pub decreases-pieces : goal.decreases-pieces
decreases-pieces l = length l.pieces.items
