use Rattle.std.proofs.Common.{length}
use Rattle.vrx_core.proofs.requests.+arrive_all.Given as goal

abbrev pub decreases-arrive_all : goal.decreases-arrive_all
decreases-arrive_all l = length l.numbers.now
