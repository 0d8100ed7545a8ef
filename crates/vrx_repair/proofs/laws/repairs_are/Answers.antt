use Rattle.vrx_repair.proofs.ClosureLemmas.{repairs-come}
use Rattle.vrx_repair.proofs.laws.repairs_are.Goals as goal

pub returns : goal.returns
returns c = record {
  repairs = λ source newest dead packets within.
      repairs-come source newest dead (c.contents_are_few.ensures.few newest) packets within;
}
