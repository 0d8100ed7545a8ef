use Rattle.std.proofs.lemmas.Fmt.{parse-decimal}
use Rattle.vrx_program.proofs.DrillLemmas.{not-read, not-written}
use Rattle.vrx_program.proofs.drill.number_of.Goals as goal

pub returns-in_default-clause-number : goal.returns-in_default-clause-number
returns-in_default-clause-number c n fits is =
    not-read n _ _ (parse-decimal 64 n c.args.word.now _ fits fits is c.parse.ensures.value.0) c.in_default.is

pub returns-else-eq-clause-number : goal.returns-else-eq-clause-number
returns-else-eq-clause-number c n fits is =
    not-written c.in-Ok.n n c.args.word.now c.format.result.now _ _ is c.format.ensures.text
    (parse-decimal 64 n c.args.word.now _ fits fits is c.parse.ensures.value.0) c.in-Ok.is c.eq.ensures c.if-eq.false
