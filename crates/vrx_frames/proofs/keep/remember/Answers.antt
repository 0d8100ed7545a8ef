use Rattle.std.proofs.Common.{sym, ◌∙◌, ap}
use Rattle.vrx_window.specs.Window.{newest_with}
use Rattle.vrx_frames.specs.Linked.{ends_at}
use Rattle.vrx_frames.proofs.KeptLemmas.{newest-kept, remember-placed}
use Rattle.vrx_frames.proofs.keep.remember.Goals as goal

pub returns-then-ends_at-clause-entries : goal.returns-then-ends_at-clause-entries
returns-then-ends_at-clause-entries c =
    let ring = c.args.ring.now in
    let here = sym c.get.ensures.value ∙ sym c.in-Some.ensures in
    remember-placed c.args.n
    (newest_with ring.newest c.args.n) c.in-Some.arrival ring c.place.new.self.entries c.requires.numbered
    (newest-kept ring c.args.n c.in-Some.arrival c.requires.numbered here) here
    (ap (ends_at ring.entries) (sym c.saturating_sub.ensures) ∙ sym c.if-ends_at.ensures) c.place.ensures.entries
