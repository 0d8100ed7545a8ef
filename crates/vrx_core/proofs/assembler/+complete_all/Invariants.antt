use Rattle.std.proofs.Common.{length}
use Rattle.vrx_core.proofs.assembler.+complete_all.Given as goal

abbrev pub decreases-complete_all : goal.decreases-complete_all
decreases-complete_all g l = length l.numbers.now
