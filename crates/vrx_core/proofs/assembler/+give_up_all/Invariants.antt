use Rattle.std.proofs.Common.{length}
use Rattle.vrx_core.proofs.assembler.+give_up_all.Given as goal

abbrev pub decreases-give_up_all : goal.decreases-give_up_all
decreases-give_up_all l = length l.numbers.now
