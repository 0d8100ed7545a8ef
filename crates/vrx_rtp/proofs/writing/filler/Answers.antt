-- A filler is a part of the longest.
use Rattle.std.proofs.lemmas.List.{take-replicate}
use Rattle.vrx_rtp.proofs.writing.filler.Goals as goal

pub returns : goal.returns
returns c = take-replicate c.args.count 254 0 c.requires
