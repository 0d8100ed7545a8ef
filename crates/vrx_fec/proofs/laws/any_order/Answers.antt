use Rattle.vrx_fec.proofs.OrderLemmas.{parity-order, truth-order, sums-order, rebuilt-order}
use Rattle.vrx_fec.proofs.laws.any_order.Goals as goal

pub returns-clause-parity : goal.returns-clause-parity
returns-clause-parity c p texts turned order = parity-order texts turned order p

pub returns-clause-truth : goal.returns-clause-truth
returns-clause-truth c p texts turned order = truth-order texts turned order p

pub returns-clause-sums : goal.returns-clause-sums
returns-clause-sums c sums p texts turned order = sums-order texts turned order sums p

pub returns-clause-text : goal.returns-clause-text
returns-clause-text c p texts turned missing ssrc order = rebuilt-order texts turned order p missing ssrc
