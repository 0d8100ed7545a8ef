use Rattle.std.proofs.Common.{sym, ◌∙◌, arith}
use Rattle.std.proofs.lemmas.Grind.{common_steps}
use Rattle.vrx_refs.proofs.ReadyLemmas.{waits_at_seen}
use Rattle.vrx_refs.proofs.finder.Finder.waits_at_once.Goals as goal

pub returns-then-sight-place : goal.returns-then-sight-place
returns-then-sight-place c waits = waits_at_seen c.args.self.now c.args.place
    (omega (arith, c.if-place-eq0.false)) c.in-Some.sight (sym c.sight.ensures ∙ c.in-Some.is)
    (grind (arith, common_steps, c.if-sight-place.true)) (grind (arith, common_steps, waits))
