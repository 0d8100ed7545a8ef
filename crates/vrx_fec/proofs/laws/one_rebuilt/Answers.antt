-- The laws of rebuilding.
use Rattle.vrx_fec.proofs.RebuildLemmas.{length-own, text-rebuilt}
use Rattle.vrx_fec.proofs.laws.one_rebuilt.Goals as goal

pub returns-clause-length : goal.returns-clause-length
returns-clause-length c p others offset text true_is size = length-own p others offset text true_is size

pub returns-clause-text : goal.returns-clause-text
returns-clause-text c p others offset text ssrc is = text-rebuilt p others offset ssrc text is
