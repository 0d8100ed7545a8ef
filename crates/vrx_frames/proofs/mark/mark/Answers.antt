use Rattle.std.proofs.Common.{◌+◌, ◌≤◌, Some, ◌∙◌, ap, arith}
use Rattle.vrx_frames.proofs.MarkLemmas.{in-between, mark-next}
use Rattle.vrx_frames.proofs.KeptLemmas.{newest-placed}
use Rattle.vrx_window.specs.Window.{newest_with}
use Rattle.vrx_frames.proofs.mark.mark.Goals as goal

pub loop-k-preserved : goal.loop-k-preserved
loop-k-preserved c =
    let upto : c.args.from + c.loop-k.k ≤ c.args.newest = omega arith in
    record {
      newest = c.place.ensures.newest
          ∙ ap Some (ap (λ o. newest_with o (c.args.from + c.loop-k.k)) c.loop-k.invariant.newest
          ∙ newest-placed c.args.newest (c.args.from + c.loop-k.k)
          (in-between c.args.newest c.args.from (c.args.from + c.loop-k.k) c.requires.from (omega arith) upto));
      numbered = c.place.ensures.sound;
      marked = mark-next c.args.from c.loop-k.k c.args.first c.args.newest c.args.marks.now.entries c.loop-k.marks
          c.place.new.self.entries c.loop-k.invariant.numbered c.loop-k.invariant.newest c.requires.from upto
          c.place.ensures.entries c.loop-k.invariant.marked;
    }
