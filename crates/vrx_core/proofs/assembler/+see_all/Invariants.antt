use Rattle.std.proofs.Common.{length}
use Rattle.vrx_core.proofs.assembler.+see_all.Given as goal

abbrev pub decreases-see_all : goal.decreases-see_all
decreases-see_all l = length l.numbers.now
