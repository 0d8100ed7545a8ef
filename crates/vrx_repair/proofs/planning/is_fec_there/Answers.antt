use Rattle.std.proofs.Common.{sym, ap, ◌∙◌}
use Rattle.std.specs.Prelude.{is_some}
use Rattle.vrx_repair.proofs.NextLemmas.{none-from}
use Rattle.vrx_repair.proofs.planning.is_fec_there.Goals as goal

pub returns-else-is_fec-clause-held : goal.returns-else-is_fec-clause-held
returns-else-is_fec-clause-held c none k =
    none-from k c.args.window.now.packets c.newest-newest.ensures.sound.packets_rise
    (sym (ap (λ o. is_some o) c.next_fec.ensures.next) ∙ sym c.is_some.ensures ∙ none)
