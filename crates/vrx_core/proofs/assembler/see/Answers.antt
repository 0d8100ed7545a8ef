use Rattle.std.proofs.Common.{Option, sym, ap, subst, ◌∙◌}
use Rattle.vrx_codec.specs.declared.run.Place.{Place}
use Rattle.vrx_refs.specs.Knows.{Knows}
use Rattle.vrx_window.specs.Sound.{place_of}
use Rattle.vrx_core.specs.inside.Places.{with_sighting}
use Rattle.vrx_core.proofs.assembler.see.Goals as goal

pub returns-in-Some-place : goal.returns-in-Some-place
returns-in-Some-place c told pulled knows =
    subst (λ (o : Option Place). Knows c.seen.new.self (with_sighting o told) pulled)
    (sym (ap place_of (sym c.in-Some.ensures.held) ∙ sym c.place.ensures.place ∙ c.in-Some-place.is))
    (c.seen.ensures.knows told pulled knows)
