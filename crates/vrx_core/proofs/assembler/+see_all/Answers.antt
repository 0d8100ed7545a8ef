use Rattle.std.proofs.Common.{List, sym, subst}
use Rattle.vrx_refs.specs.Knows.{Knows}
use Rattle.vrx_refs.specs.declared.sighting.Sighting.{Sighting}
use Rattle.vrx_core.proofs.relation.PlacesLemmas.{seen-first}
use Rattle.vrx_core.proofs.assembler.+see_all.Goals as goal

pub returns-in-len1-up : goal.returns-in-len1-up
returns-in-len1-up n c told pulled knows =
    subst (λ (ss : List Sighting). Knows c.see_all.new.finder ss pulled)
    (sym (seen-first c.args.window.now.packets c.args.numbers.now told c.in-len1-up.len_at_least))
    (c.see_all.ensures _ pulled (c.see.ensures told pulled knows))
