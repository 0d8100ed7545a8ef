-- The items pushed, the one that is open with the bits to come, and those after it are the items of the numbers.
use Rattle.std.proofs.Common.{◌+◌, ◌∷◌, drop}
use Rattle.vrx_rtcp.specs.declared.types.TheConstants.{NACK_SPAN}
use Rattle.vrx_rtcp.specs.View.{item_of}
use Rattle.vrx_rtcp.proofs.FeedbackLemmas.{Building, later_items}
use Rattle.vrx_rtcp.proofs.writing.items_of.Given as goal

abbrev pub invariant-loop-n : goal.invariant-loop-n
invariant-loop-n l =
    Building (l.first + NACK_SPAN) l.first (item_of l.later l.first ∷ later_items l.first l.later)
    l.items.items l.item.first l.item.blp (drop l.n-index l.later)
